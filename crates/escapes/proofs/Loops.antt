-- Laws of the loops.
use Rattle.std.specs.Prelude.{None, Option, Some}
use Prim.Native.Nat.{ℕ, zero, suc, ◌+◌, ◌-◌, ◌≤◌, ◌<◌, min}
use native.Mathlib.Nat.{min-eq_left}
use native.Mathlib.Omega.{arith}
use mathlib.Core.Path.{◌≡◌, refl, sym, ap, ◌∙◌}
use mathlib.Core.List.{List, [], ◌∷◌}
use mathlib.Core.Logic.{◌⊎◌, inl, inr}
use mathlib.Core.Bool.{Bool, true, false, false≢true}
use lib.ListN.{length, take, drop, get_or, drop_of_length-le}
use lib.Seq.{drop-cons, drop-drop}
use lib.Dec.{eqb}
use borrow.Author.Tests.{eq-eqb, ne_eqb}
use Rattle.text.specs.Bytes.{eq_bytes}
use Rattle.text.proofs.Bytes.{both}
use Rattle.json_text.specs.Strings.{is_plain}
use Rattle.json_text.proofs.Bytes.{split}
use Rattle.escapes.specs.declared.Escaped.{Escaped}
use Rattle.escapes.specs.declared.Step.{Step}
use Rattle.escapes.specs.declared.Step.TheVariants.{Byte, Stop, Over}
use Rattle.escapes.specs.Parts.{step_at}
use Rattle.escapes.specs.Escapes.{escape_of, utf8, escaped_char}
use Rattle.escapes.specs.Decode.{Decoded, whole, half, join, decode_after, decode, bytes_of, half_of, is_this, alike, written}
use Rattle.escapes.proofs.Steps.{escape-here}
use Rattle.escapes.proofs.Walk.{content, front, tail, Place, Stepped, stepped, stopped, over, byte-first, start-place, start-tail, decode-plain, decode-char, decode-half}

-- ---- no backslash

-- such bytes write themselves
pub decode-itself : (s : List ℕ) → is_plain s ≡ true → decode s ≡ whole s
unfolding decode_after is_plain join
decode-itself [] e = refl
decode-itself (b ∷ s) e = both (eqb b 0x5C)
    (λ q. absurd (false≢true (rw (q, is_plain) at e)))
    (λ q. rw (q, decode_after) (ap (join (b ∷ [])) (decode-itself s (rw (q, is_plain) at e))))

pub plain-written : (s : List ℕ) → is_plain s ≡ true → written s ≡ s
unfolding written bytes_of
plain-written s e = ap bytes_of (decode-itself s e)

module _ (s : List ℕ) {t : Bool} (p : t ≡ is_plain s) (q : t ≡ true) where
  itself : decode s ≡ whole s
  itself = decode-itself s (sym p ∙ q)

  pub same-plain : {r : Bool} (name : List ℕ) → r ≡ eq_bytes s name → r ≡ is_this name (decode s)
  unfolding is_this
  same-plain name x = x ∙ ap (is_this name) (sym itself)

  pub alike-plain : {r : Bool} (d : Decoded) → r ≡ is_this s d → r ≡ alike (decode s) d
  unfolding alike
  alike-plain d e = e ∙ ap (λ (x : Decoded). alike x d) (sym itself)

-- ---- one byte compared

empty : (b : ℕ) (x : Decoded) → false ≡ is_this [] (front (b ∷ []) x)
unfolding is_this front eq_bytes
empty b (whole t) = refl
empty b (half p) = refl

this_no : (b c : ℕ) (l : List ℕ) (x : Decoded) → (b ≡ c → ⊥) → is_this (c ∷ l) (front (b ∷ []) x) ≡ false
unfolding is_this front eq_bytes
this_no b c l (whole t) n = rw (ne_eqb b c n)
this_no b c l (half p) n = refl

this-more : (b c : ℕ) (l : List ℕ) (x : Decoded) → b ≡ c → is_this (c ∷ l) (front (b ∷ []) x) ≡ is_this l x
unfolding is_this front eq_bytes
this-more b c l (whole t) e = rw (eq-eqb b c e)
this-more b c l (half p) e = refl

alike-none : (b : ℕ) (x : Decoded) → false ≡ alike (front (b ∷ []) x) (half 0)
unfolding alike front is_this
alike-none b (whole t) = refl
alike-none b (half p) = refl

alike_end : (b : ℕ) (x : Decoded) → false ≡ alike (front (b ∷ []) x) (whole [])
unfolding alike front is_this eq_bytes
alike_end b (whole t) = refl
alike_end b (half p) = refl

alike_no : (b c : ℕ) (x y : Decoded) → (b ≡ c → ⊥) → alike (front (b ∷ []) x) (front (c ∷ []) y) ≡ false
unfolding alike front
alike_no b c (whole t) y n = this_no c b t y (λ e. n (sym e))
alike_no b c (half p) y n = refl

alike-more : (b c : ℕ) (x y : Decoded) → b ≡ c → alike (front (b ∷ []) x) (front (c ∷ []) y) ≡ alike x y
unfolding alike front
alike-more b c (whole t) y e = this-more c b t y (sym e)
alike-more b c (half p) y e = refl

-- the place of a half is nothing to them
this-content : (name : List ℕ) (d : Decoded) → is_this name (content d) ≡ is_this name d
unfolding is_this content
this-content name (whole t) = refl
this-content name (half p) = refl

alike-content : (d e : Decoded) → alike (content d) (content e) ≡ alike d e
unfolding alike content
alike-content (whole t) e = this-content t e
alike-content (half p) e = refl

-- ---- comparing with a name, at j in it
pub record Comparing (s name : List ℕ) (i o j : ℕ) : Type 0 where
  pub place : Place s i o
  pub to : j ≤ length name
  pub same : is_this (drop j name) (tail s i o) ≡ is_this name (decode s)

pub comparing : (s name : List ℕ) → Comparing s name 0 0 0
comparing s name = record { place = start-place s; to = omega arith; same = ap (is_this name) (start-tail s) ∙ this-content name (decode s) }

module _ {s name : List ℕ} {i o j : ℕ} (v : Comparing s name i o j) where
  compare-stop : tail s i o ≡ half 0 → false ≡ is_this name (decode s)
  unfolding is_this
  compare-stop e = ap (is_this (drop j name)) (sym e) ∙ v.same

  compare-over : tail s i o ≡ whole [] → eqb j (length name) ≡ is_this name (decode s)
  unfolding is_this eq_bytes
  compare-over e = split (length name) j
      (λ h. eq-eqb j (length name) (omega (arith, v.to)) ∙ ap (λ (l : List ℕ). eq_bytes [] l) (sym (drop_of_length-le name h)))
      (λ h. ne_eqb j (length name) (λ q. omega arith) ∙ ap (λ (l : List ℕ). eq_bytes [] l) (sym (drop-cons name j 0 h)))
      ∙ ap (is_this (drop j name)) (sym e)
      ∙ v.same

  module _ {b p q : ℕ} (w : Stepped s i o b p q) where
    one : is_this (drop j name) (front (b ∷ []) (tail s p q)) ≡ is_this name (decode s)
    one = ap (is_this (drop j name)) (sym w.same) ∙ v.same

    compare-long : length name ≤ j → false ≡ is_this name (decode s)
    compare-long h = ends (tail s p q) ∙ ap (λ (l : List ℕ). is_this l (front (b ∷ []) (tail s p q))) (sym (drop_of_length-le name h)) ∙ one
      where
        ends : (x : Decoded) → false ≡ is_this [] (front (b ∷ []) x)
        ends x = empty b x

    module _ (h : j < length name) where
      split-name : drop j name ≡ get_or name j 0 ∷ drop (j + 1) name
      split-name = byte-first name j h

      two : is_this (get_or name j 0 ∷ drop (j + 1) name) (front (b ∷ []) (tail s p q)) ≡ is_this name (decode s)
      two = ap (λ (l : List ℕ). is_this l (front (b ∷ []) (tail s p q))) (sym split-name) ∙ one

      pub compare_differs : (b ≡ get_or name j 0 → ⊥) → false ≡ is_this name (decode s)
      compare_differs n = sym (this_no b (get_or name j 0) (drop (j + 1) name) (tail s p q) n) ∙ two

      pub compare-more : b ≡ get_or name j 0 → Comparing s name p q (j + 1)
      compare-more e = record { place = w.place; to = omega arith; same = sym (this-more b (get_or name j 0) (drop (j + 1) name) (tail s p q) e) ∙ two }

  -- the bytes end before the name
  pub compare-short : j < length name → {r : Step} → r ≡ step_at s i o → (r ≡ Stop) ⊎ (r ≡ Over) → false ≡ is_this name (decode s)
  compare-short h e (inl f) = compare-stop (stopped s i o v.place e f)
  compare-short h e (inr f) = sym (ne_eqb j (length name) (λ q. omega arith)) ∙ compare-over (over s i o v.place e f)

  -- the name ends: with the bytes, or before them
  module _ (h : length name ≤ j) where
    pub compare-all : {r : Step} → r ≡ step_at s i o → r ≡ Over → true ≡ is_this name (decode s)
    compare-all e f = sym (eq-eqb j (length name) (omega (arith, v.to))) ∙ compare-over (over s i o v.place e f)

    pub compare-rest : (r : Step) → r ≡ step_at s i o → (r ≡ Over → ⊥) → false ≡ is_this name (decode s)
    compare-rest (Byte b p q) e n = compare-long (stepped s i o v.place e refl) h
    compare-rest Stop e n = compare-stop (stopped s i o v.place e refl)
    compare-rest Over e n = absurd (n refl)

-- ---- comparing two
pub record Pairing (a b : List ℕ) (i o j p : ℕ) : Type 0 where
  pub first : Place a i o
  pub second : Place b j p
  pub same : alike (tail a i o) (tail b j p) ≡ alike (decode a) (decode b)

pub pairing : (a b : List ℕ) → Pairing a b 0 0 0 0
pairing a b = record { first = start-place a; second = start-place b; same = ap (alike (tail a 0 0)) (start-tail b) ∙ ap (λ (x : Decoded). alike x (content (decode b))) (start-tail a) ∙ alike-content (decode a) (decode b) }

module _ {a b : List ℕ} {i o j p : ℕ} (v : Pairing a b i o j p) where
  pair_at : {r : Bool} {x y : Decoded} → tail a i o ≡ x → tail b j p ≡ y → r ≡ alike x y → r ≡ alike (decode a) (decode b)
  pair_at e f q = q ∙ ap (alike _) (sym f) ∙ ap (λ (z : Decoded). alike z (tail b j p)) (sym e) ∙ v.same

  pub pair-stop : tail a i o ≡ half 0 → false ≡ alike (decode a) (decode b)
  unfolding alike
  pair-stop e = pair_at e refl refl

  module _ (e : tail a i o ≡ whole []) where
    over-stop : tail b j p ≡ half 0 → false ≡ alike (decode a) (decode b)
    unfolding alike is_this
    over-stop f = pair_at e f refl

    pub over-over : tail b j p ≡ whole [] → true ≡ alike (decode a) (decode b)
    unfolding alike is_this eq_bytes
    over-over f = pair_at e f refl

    over-more : {y k l : ℕ} → Stepped b j p y k l → false ≡ alike (decode a) (decode b)
    unfolding alike
    over-more {y} {k} {l} w = pair_at e w.same (empty y (tail b k l))

  module _ {x i₂ o₂ : ℕ} (w : Stepped a i o x i₂ o₂) where
    more-stop : tail b j p ≡ half 0 → false ≡ alike (decode a) (decode b)
    more-stop f = pair_at w.same f (ends (tail a i₂ o₂))
      where
        ends : (t : Decoded) → false ≡ alike (front (x ∷ []) t) (half 0)
        ends t = alike-none x t

    more-over : tail b j p ≡ whole [] → false ≡ alike (decode a) (decode b)
    more-over f = pair_at w.same f (alike_end x (tail a i₂ o₂))

    module _ {y j₂ p₂ : ℕ} (z : Stepped b j p y j₂ p₂) where
      pub more_differs : (x ≡ y → ⊥) → false ≡ alike (decode a) (decode b)
      more_differs n = pair_at w.same z.same (sym (alike_no x y (tail a i₂ o₂) (tail b j₂ p₂) n))

      pub more-more : x ≡ y → Pairing a b i₂ o₂ j₂ p₂
      more-more e = record {
        first = w.place;
        second = z.place;
        same = sym (alike-more x y (tail a i₂ o₂) (tail b j₂ p₂) e) ∙ ap (alike (front (x ∷ []) (tail a i₂ o₂))) (sym z.same) ∙ ap (λ (t : Decoded). alike t (tail b j p)) (sym w.same) ∙ v.same;
      }

  -- the first goes on, the second does not
  pub pair-longer : {x i₂ o₂ : ℕ} → Stepped a i o x i₂ o₂ → (r : Step) → r ≡ step_at b j p → ((y k l : ℕ) → r ≡ Byte y k l → ⊥) → false ≡ alike (decode a) (decode b)
  pair-longer w (Byte y k l) e n = absurd (n y k l refl)
  pair-longer w Stop e n = more-stop w (stopped b j p v.second e refl)
  pair-longer w Over e n = more-over w (over b j p v.second e refl)

  -- the first ends, the second does not
  pub pair-shorter : tail a i o ≡ whole [] → (r : Step) → r ≡ step_at b j p → (r ≡ Over → ⊥) → false ≡ alike (decode a) (decode b)
  pair-shorter f (Byte y k l) e n = over-more f (stepped b j p v.second e refl)
  pair-shorter f Stop e n = over-stop f (stopped b j p v.second e refl)
  pair-shorter f Over e n = absurd (n refl)

-- ---- counting
unfoldable pub total : ℕ → Decoded → ℕ
total n (whole t) = n + length t
total n (half p) = 0

total-start : (d : Decoded) → total 0 (content d) ≡ length (bytes_of d)
unfolding total content bytes_of
total-start (whole t) = omega arith
total-start (half p) = refl

total-more : (n b : ℕ) (x : Decoded) → total n (front (b ∷ []) x) ≡ total (n + 1) x
unfolding total front
total-more n b (whole t) = omega arith
total-more n b (half p) = refl

pub record Counting (s : List ℕ) (i o n : ℕ) : Type 0 where
  pub place : Place s i o
  pub few : n ≤ i + o
  pub same : total n (tail s i o) ≡ length (written s)

pub counting : (s : List ℕ) → Counting s 0 0 0
unfolding written
counting s = record { place = start-place s; few = omega arith; same = ap (total 0) (start-tail s) ∙ total-start (decode s) }

module _ {s : List ℕ} {i o n : ℕ} (v : Counting s i o n) where
  pub count-stop : tail s i o ≡ half 0 → 0 ≡ length (written s)
  unfolding total
  count-stop e = ap (total n) (sym e) ∙ v.same

  pub count-over : tail s i o ≡ whole [] → n ≡ length (written s)
  unfolding total
  count-over e = let z : n ≡ total n (whole []) = omega arith in z ∙ ap (total n) (sym e) ∙ v.same

  pub count-more : {b p q : ℕ} → Stepped s i o b p q → Counting s p q (n + 1)
  count-more {b} {p} {q} w = record { place = w.place; few = omega (arith, v.few, w.far); same = sym (total-more n b (tail s p q)) ∙ ap (total n) (sym w.same) ∙ v.same }

-- ---- the first half

-- by its place in bytes that begin at i
unfoldable pub half_from : ℕ → Decoded → Option ℕ
half_from i (whole t) = None
half_from i (half p) = Some (i + p)

half_from_lem : (d : Decoded) → half_from 0 d ≡ half_of d
unfolding half_from half_of
half_from_lem (whole t) = refl
half_from_lem (half p) = let e : 0 + p ≡ p = omega arith in ap Some e

half-nothing : (i j : ℕ) → half_from i (decode []) ≡ half_from j (decode [])
unfolding half_from decode_after
half-nothing i j = refl

pub record Seeking (s : List ℕ) (i : ℕ) : Type 0 where
  pub to : i ≤ length s
  pub same : half_from i (decode (drop i s)) ≡ half_of (decode s)

pub seeking : (s : List ℕ) → Seeking s 0
seeking s = record { to = omega arith; same = half_from_lem (decode s) }

half-join : (i : ℕ) (w : List ℕ) (d : Decoded) → half_from i (join w d) ≡ half_from (i + 1) d
unfolding half_from join
half-join i w (whole t) = refl
half-join i w (half p) = let e : i + suc p ≡ i + 1 + p = omega arith in ap Some e

half_skip : (i n : ℕ) (s : List ℕ) → half_from i (decode_after n s) ≡ half_from (i + n) (decode (drop n s))
unfolding decode_after
half_skip i zero s = let e : i ≡ i + 0 = omega arith in ap (λ (k : ℕ). half_from k (decode s)) e
half_skip i (suc n) [] = half-nothing i (i + suc n)
half_skip i (suc n) (b ∷ s) = half-join i [] (decode_after n s) ∙ half_skip (i + 1) n s ∙ (let e : i + 1 + n ≡ i + suc n = omega arith in ap (λ (k : ℕ). half_from k (decode (drop n s))) e)

module _ {s : List ℕ} {i : ℕ} (v : Seeking s i) where
  pub seek-end : length s ≤ i → None ≡ half_of (decode s)
  unfolding half_from decode_after
  seek-end h = ap (λ (l : List ℕ). half_from i (decode l)) (sym (drop_of_length-le s h)) ∙ v.same

  module _ (h : i < length s) where
    first : drop i s ≡ get_or s i 0 ∷ drop (i + 1) s
    first = byte-first s i h

    pub seek-plain : (get_or s i 0 ≡ 0x5C → ⊥) → Seeking s (i + 1)
    seek-plain n = record {
      to = omega arith;
      same = sym (half-join i (get_or s i 0 ∷ []) (decode (drop (i + 1) s))) ∙ ap (half_from i) (sym (decode-plain (get_or s i 0) (drop (i + 1) s) n)) ∙ ap (λ (l : List ℕ). half_from i (decode l)) (sym first) ∙ v.same;
    }

    module _ (b : get_or s i 0 ≡ 0x5C) {r : Option Escaped} (e : r ≡ escape_of (take (length s - i) (drop i s))) where
      found : {x : Option Escaped} → r ≡ x → escape_of (get_or s i 0 ∷ drop (i + 1) s) ≡ x
      found q = ap escape_of (sym first) ∙ sym (escape-here s i 0 h b e) ∙ q

      pub seek-half : r ≡ None → Some i ≡ half_of (decode s)
      unfolding half_from
      seek-half q = (let z : i ≡ i + 0 = omega arith in ap Some z) ∙ ap (half_from i) (sym (decode-half (get_or s i 0) (drop (i + 1) s) b (found q))) ∙ ap (λ (l : List ℕ). half_from i (decode l)) (sym first) ∙ v.same

      pub seek-char : {c n p : ℕ} → r ≡ escaped_char c n → p ≡ min (i + 1 + n) (length s) → Seeking s p
      seek-char {c} {n} {p} q x = record {
        to = omega arith;
        same =
            clip (i + 1 + n) x
            ∙ ap (λ (l : List ℕ). half_from (i + 1 + n) (decode l)) (sym (drop-drop n (i + 1) s))
            ∙ sym (half_skip (i + 1) n (drop (i + 1) s))
            ∙ sym (half-join i (utf8 c) (decode_after n (drop (i + 1) s)))
            ∙ ap (half_from i) (sym (decode-char (get_or s i 0) (drop (i + 1) s) b (found q)))
            ∙ ap (λ (l : List ℕ). half_from i (decode l)) (sym first)
            ∙ v.same;
      }
        where
          clip : (a : ℕ) → p ≡ min a (length s) → half_from p (decode (drop p s)) ≡ half_from a (decode (drop a s))
          clip a y = split a (length s)
              (λ k. ap (λ (j : ℕ). half_from j (decode (drop j s))) (y ∙ min-eq_left k))
              (λ k. ap (λ (l : List ℕ). half_from p (decode l)) (drop_of_length-le s {i = p} (omega arith)) ∙ half-nothing p a ∙ ap (λ (l : List ℕ). half_from a (decode l)) (sym (drop_of_length-le s {i = a} (omega arith))))
