-- Laws of the copies into a buffer.
use Rattle.std.specs.Prelude.{None, Option, Some, Err, Ok}
use Prim.Native.Nat.{ℕ, suc, ◌+◌, ◌≤◌, ◌<◌}
use native.Mathlib.Numerals.{add-one}
use native.Mathlib.Omega.{arith}
use mathlib.Core.Path.{◌≡◌, refl, sym, ap, ◌∙◌}
use Rattle.std.proofs.lemmas.List.{set-get_or}
use mathlib.Core.List.{List, [], ◌∷◌, ◌++◌}
use mathlib.Core.Logic.{◌⊎◌, inl, inr}
use mathlib.Core.Bool.{Bool, true}
use lib.ListN.{length, take, drop, get_or, set, length-drop, length-append, drop_of_length-le}
use lib.Seq.{drop-cons, take-length, take-suc, set_at, append_snoc, length-take-le}
use borrow.Author.Tests.{le-leb, lt-leb}
use Rattle.json_text.proofs.Bytes.{split}
use Rattle.json_text.specs.Strings.{is_plain}
use Rattle.escapes.specs.Decode.{Decoded, whole, half, decode, bytes_of, written, half_of, decoding_of, filled, Decodes}
use Rattle.escapes.specs.Parts.{step_at, Copied}
use Rattle.escapes.specs.declared.Step.{Step}
use Rattle.escapes.specs.declared.Step.TheVariants.{Stop, Over}
use Rattle.escapes.proofs.Walk.{no-half, some-half, whole_of, front, tail, Place, Stepped, stopped, over, start-place, start-tail}
use Rattle.escapes.proofs.Loops.{decode-itself, plain-written}

-- ---- the first j of t are laid on d
abbrev laid : List ℕ → List ℕ → ℕ → List ℕ
laid d t j = take j t ++ drop j d

module _ (d t : List ℕ) where
  laid-all : laid d t (length t) ≡ t ++ drop (length t) d
  laid-all = rw (take-length t)

  module _ (j : ℕ) where
    laid-length : j ≤ length t → j ≤ length d → length (laid d t j) ≡ length d
    laid-length h k = let e = length-append (take j t) (drop j d) in let f = length-take-le j t h in let g = length-drop j d in omega arith

    laid_more : j < length t → j < length d → set (laid d t j) j (get_or t j 0) ≡ laid d t (j + 1)
    laid_more h k =
        ap (λ (r : List ℕ). set (take j t ++ r) j (get_or t j 0)) (drop-cons d j 0 k)
        ∙ set_at (take j t) (get_or d j 0) (drop (suc j) d) (get_or t j 0) j (length-take-le j t (omega arith))
        ∙ sym (append_snoc (take j t) (get_or t j 0) (drop (suc j) d))
        ∙ ap (λ (r : List ℕ). r ++ drop (suc j) d) (sym (take-suc t j 0 h))
        ∙ ap (λ (k : ℕ). take k t ++ drop k d) (sym (add-one j))

-- ---- what s writes

pub record Filling (s d out : List ℕ) (i o j : ℕ) : Type 0 where
  pub place : Place s i o
  pub to : j ≤ length (written s)
  pub left : tail s i o ≡ whole (drop j (written s))
  pub is : out ≡ laid d (written s) j

pub filling : (s d : List ℕ) → half_of (decode s) ≡ None → Filling s d d 0 0 0
unfolding written
filling s d h = record { place = start-place s; to = omega arith; left = start-tail s ∙ whole_of (decode s) h; is = refl }

-- one byte in front of what is left
record Front (w : List ℕ) (j b : ℕ) (x : Decoded) : Type 0 where
  pub inside : j < length w
  pub byte : get_or w j 0 ≡ b
  pub left : x ≡ whole (drop (j + 1) w)

front_of : (w : List ℕ) (j b : ℕ) (x : Decoded) → whole (drop j w) ≡ front (b ∷ []) x → Front w j b x
unfolding front
front_of w j b (whole t) e = split (length w) j
    (λ h. absurd (let g = drop_of_length-le w h in let z : length (drop j w) ≡ suc (length t) = ap length (un e) in let y : length (drop j w) ≡ 0 = ap length g in omega arith))
    (λ h.
    let g = drop-cons w j 0 h in
    let f : get_or w j 0 ∷ drop (suc j) w ≡ b ∷ t = sym g ∙ un e in
    record { inside = h; byte = cc; left = ap whole (let k : t ≡ drop (suc j) w = cc in k ∙ ap (λ (n : ℕ). drop n w) (sym (add-one j))) })
  where
    un : {a c : List ℕ} → whole a ≡ whole c → a ≡ c
    un q = cc
front_of w j b (half p) e = absurd (let z : ◌≡◌ {A = ℕ} 0 1 = cc in omega arith)

module _ {s d out : List ℕ} {i o j : ℕ} (v : Filling s d out i o j) (fits : length (written s) ≤ length d) where
  filling-length : length out ≡ length d
  filling-length = ap length v.is ∙ laid-length d (written s) j v.to (omega (arith, v.to))

  filling-stop {ℓ} : {X : Type ℓ} → tail s i o ≡ half 0 → X
  filling-stop e = absurd (let q = v.left in let z : ◌≡◌ {A = ℕ} 0 1 = cc in omega arith)

  filling-over : tail s i o ≡ whole [] → out ≡ written s ++ drop (length (written s)) d
  filling-over e =
      let q : drop j (written s) ≡ [] = let p = v.left in cc in
      let l = ap length q in
      let m = length-drop j (written s) in
      let x : j ≡ length (written s) = omega (arith, v.to) in
      v.is ∙ ap (laid d (written s)) x ∙ laid-all d (written s)

  -- nothing more is written
  pub filling-ends : {r : Step} → r ≡ step_at s i o → (r ≡ Stop) ⊎ (r ≡ Over) → set out j (get_or out j 0) ≡ written s ++ drop (length (written s)) d
  filling-ends e (inl f) = filling-stop (stopped s i o v.place e f)
  filling-ends e (inr f) = set-get_or out j 0 ∙ filling-over (over s i o v.place e f)

  module _ {b p q : ℕ} (w : Stepped s i o b p q) where
    ahead : Front (written s) j b (tail s p q)
    ahead = front_of (written s) j b (tail s p q) (sym v.left ∙ w.same)

    pub filling-more : Filling s d (set out j b) p q (j + 1)
    filling-more =
        let a = ahead in
        let h = a.inside in
        record {
          place = w.place;
          to = omega arith;
          left = a.left;
          is = ap (λ (x : ℕ). set out j x) (sym a.byte) ∙ ap (λ (l : List ℕ). set l j (get_or (written s) j 0)) v.is ∙ laid_more d (written s) j h (omega arith);
        }

-- ---- what is answered

module _ (t d : List ℕ) {n : ℕ} (e : n ≡ length t) where
  pub copied_none : length d < n → Copied t d d n
  unfolding filled
  copied_none h = record { size = e; buffer = sym (rw (lt-leb (length t) (length d) (omega arith))) }

  pub copied_some : n ≤ length d → {out : List ℕ} → out ≡ t ++ drop (length t) d → Copied t d out n
  unfolding filled
  copied_some h q = record { size = e; buffer = q ∙ sym (rw (le-leb (length t) (length d) (omega arith))) }

pub filled_none : (d : List ℕ) → filled [] d ≡ d
unfolding filled
filled_none d = rw (le-leb 0 (length d) (omega arith))

module _ (s d : List ℕ) where
  pub decodes-plain : {t : Bool} {n : ℕ} {out : List ℕ} → t ≡ is_plain s → t ≡ true → Copied s d out n → Decodes s d out (Ok n)
  unfolding decoding_of
  decodes-plain p q c =
      let e = sym p ∙ q in
      record { answer = ap Ok c.size ∙ ap decoding_of (sym (decode-itself s e)); buffer = c.buffer ∙ ap (λ (t : List ℕ). filled t d) (sym (plain-written s e)) }

  module _ {r : Option ℕ} (e : r ≡ half_of (decode s)) where
    pub decodes-half : {p : ℕ} → r ≡ Some p → Decodes s d d (Err p)
    unfolding decoding_of written bytes_of
    decodes-half q =
        let h = sym (some-half (decode s) (sym e ∙ q)) in
        record { answer = ap decoding_of h; buffer = sym (filled_none d) ∙ ap (λ (x : Decoded). filled (bytes_of x) d) h }

    pub decodes-whole : {n : ℕ} {out : List ℕ} → r ≡ None → Copied (written s) d out n → Decodes s d out (Ok n)
    unfolding decoding_of written
    decodes-whole q c = record { answer = ap Ok c.size ∙ ap decoding_of (sym (no-half (decode s) (sym e ∙ q))); buffer = c.buffer }
