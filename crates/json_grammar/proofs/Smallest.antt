-- The smallest of the places of a text: by what is wrong with it, and what that comes to.
use Rattle.std.specs.Prelude.{Err, Ok, Result}
use Prim.Native.Nat.{ℕ, ◌+◌, ◌≤◌, min}
use native.Mathlib.Omega.{arith}
use mathlib.Core.Path.{◌≡◌, refl, sym, ap, ◌∙◌}
use mathlib.Core.Logic.{◌↔◌}
use mathlib.Core.List.{List, [], ◌∷◌, ◌++◌}
use mathlib.Core.Bool.{Bool, true, false}
use lib.ListN.{length, take}
use lib.Dec.{leb}
use borrow.Author.Tests.{leb-true, leb-false, le-leb}
use Rattle.abnf.proofs.Places.{one_place, viable-less, viable-end, whole_viable, furthest-cut}
use Rattle.text.specs.Utf8.{is_utf8}
use Rattle.text.specs.Utf8Place.{utf8_place}
use Rattle.text.proofs.Utf8.{is_utf8_is}
use Rattle.text.proofs.Utf8Place.{utf8_reach_lem}
use Rattle.json_text.specs.Value.{document_of}
use Rattle.json_grammar.specs.Rfc8259 as G
use Rattle.json_grammar.specs.Place.{JsonText, NotJsonAt, is_not_json, not-utf8, too-deep, too_long, LeastOf, reach_of, json_place, text_place, bad_place, place_unless, bad_places, smallest, fault_place}
use Rattle.json_grammar.proofs.Depth.{document_16}
use Rattle.json_grammar.proofs.Containers.{ends}
use Rattle.json_grammar.proofs.Places.{reads, decide, json_reach, text_reach, utf8-end, fault_is, fault-first}

module _ (s : List ℕ) where
  -- the list, by what is wrong
  listed : (q : Result ℕ ℕ) (u n : Bool) → document_of s ≡ q → is_utf8 s ≡ u → leb (length s) 8192 ≡ n → bad_places s ≡ bad_place q ++ (place_unless u (utf8_place s) ++ place_unless n 8192)
  unfolding bad_places
  listed q u n e f g = rw (e, f, g)

  told : (q : Result ℕ ℕ) (u n : Bool) → document_of s ≡ q → is_utf8 s ≡ u → leb (length s) 8192 ≡ n → fault_place s ≡ smallest (length s) (bad_place q ++ (place_unless u (utf8_place s) ++ place_unless n 8192))
  unfolding fault_place
  told q u n e f g = ap (λ (l : List ℕ). smallest (length s) l) (listed q u n e f g)

  utf8_in : utf8_place s ≤ length s
  utf8_in = (utf8_reach_lem s).inside

  module _ (p : ℕ) (e : document_of s ≡ Err p) where
    json_is : json_place s ≡ p
    unfolding json_place
    json_is = ap reach_of e

    bad_in : p ≤ length s
    bad_in = omega (arith, json_is, (json_reach s).inside)

    -- by what else is wrong
    pub bad_alone : is_utf8 s ≡ true → leb (length s) 8192 ≡ true → fault_place s ≡ p
    unfolding smallest bad_place place_unless
    bad_alone u n = told (Err p) true true e u n ∙ omega (arith, bad_in)

    pub bad-utf8 : is_utf8 s ≡ false → leb (length s) 8192 ≡ true → fault_place s ≡ min p (utf8_place s)
    unfolding smallest bad_place place_unless
    bad-utf8 u n = told (Err p) false true e u n ∙ omega (arith, bad_in)

    pub bad-long : is_utf8 s ≡ true → leb (length s) 8192 ≡ false → fault_place s ≡ min p 8192
    unfolding smallest bad_place place_unless
    bad-long u n = told (Err p) true false e u n ∙ omega (arith, bad_in)

    pub bad-utf8-long : is_utf8 s ≡ false → leb (length s) 8192 ≡ false → fault_place s ≡ min p (min (utf8_place s) 8192)
    unfolding smallest bad_place place_unless
    bad-utf8-long u n = told (Err p) false false e u n ∙ omega (arith, bad_in)

  module _ (k : ℕ) (e : document_of s ≡ Ok k) where
    json-end : json_place s ≡ length s
    unfolding json_place
    json-end = ap reach_of e ∙ ends s k e

    pub utf8_alone : is_utf8 s ≡ false → leb (length s) 8192 ≡ true → fault_place s ≡ utf8_place s
    unfolding smallest bad_place place_unless
    utf8_alone u n = told (Ok k) false true e u n ∙ omega (arith, utf8_in)

    pub long_alone : is_utf8 s ≡ true → leb (length s) 8192 ≡ false → fault_place s ≡ 8192
    unfolding smallest bad_place place_unless
    long_alone u n = told (Ok k) true false e u n ∙ omega (arith, leb-false (length s) 8192 n)

    pub utf8-long : is_utf8 s ≡ false → leb (length s) 8192 ≡ false → fault_place s ≡ min (utf8_place s) 8192
    unfolding smallest bad_place place_unless
    utf8-long u n = told (Ok k) false false e u n ∙ omega (arith, utf8_in)

    pub nothing_wrong : is_utf8 s ≡ true → leb (length s) 8192 ≡ true → fault_place s ≡ length s
    unfolding smallest bad_place place_unless
    nothing_wrong u n = told (Ok k) true true e u n

  pub fault-min : fault_place s ≡ min (text_place s) 8192
  unfolding text_place
  fault-min = go (document_of s) (is_utf8 s) (leb (length s) 8192) refl refl refl
    where
      go : (q : Result ℕ ℕ) (u n : Bool) → document_of s ≡ q → is_utf8 s ≡ u → leb (length s) 8192 ≡ n → fault_place s ≡ min (min (json_place s) (utf8_place s)) 8192
      go (Err p) true true e u n = omega (arith, bad_alone p e u n, json_is p e, bad_in p e, utf8-end s u, leb-true (length s) 8192 n)
      go (Err p) false true e u n = omega (arith, bad-utf8 p e u n, json_is p e, bad_in p e, leb-true (length s) 8192 n)
      go (Err p) true false e u n = omega (arith, bad-long p e u n, json_is p e, bad_in p e, utf8-end s u)
      go (Err p) false false e u n = omega (arith, bad-utf8-long p e u n, json_is p e)
      go (Ok k) true true e u n = omega (arith, nothing_wrong k e u n, json-end k e, utf8-end s u, leb-true (length s) 8192 n)
      go (Ok k) false true e u n = omega (arith, utf8_alone k e u n, json-end k e, utf8_in, leb-true (length s) 8192 n)
      go (Ok k) true false e u n = omega (arith, long_alone k e u n, json-end k e, utf8-end s u, leb-false (length s) 8192 n)
      go (Ok k) false false e u n = omega (arith, utf8-long k e u n, json-end k e, utf8_in)

-- ---- of the list

smallest_from : (n p : ℕ) (ps : List ℕ) → p ≤ n → min p (smallest n ps) ≡ smallest p ps
unfolding smallest
smallest_from n p [] h = omega arith
smallest_from n p (q ∷ ps) h = let e = smallest_from n p ps h in omega arith

module _ (s : List ℕ) where
  head_in : (p : ℕ) (ps : List ℕ) → bad_places s ≡ p ∷ ps → p ≤ length s
  unfolding bad_place place_unless
  head_in p ps = go (document_of s) (is_utf8 s) (leb (length s) 8192) refl refl refl
    where
      go : (q : Result ℕ ℕ) (u n : Bool) → document_of s ≡ q → is_utf8 s ≡ u → leb (length s) 8192 ≡ n → bad_places s ≡ p ∷ ps → p ≤ length s
      go (Err k) u n e f g h = let z : k ≡ p = cc (sym (listed s (Err k) u n e f g) ∙ h) in omega (arith, bad_in s k e)
      go (Ok k) false n e f g h = let z : utf8_place s ≡ p = cc (sym (listed s (Ok k) false n e f g) ∙ h) in omega (arith, utf8_in s)
      go (Ok k) true false e f g h = let z : 8192 ≡ p = cc (sym (listed s (Ok k) true false e f g) ∙ h) in omega (arith, leb-false (length s) 8192 g)
      go (Ok k) true true e f g h = let z : ◌≡◌ {A = ℕ} 0 1 = cc (sym (listed s (Ok k) true true e f g) ∙ h) in absurd (omega arith)

  -- where something is wrong it is the smallest of the list alone
  pub wrong-smallest : (p : ℕ) (ps : List ℕ) → bad_places s ≡ p ∷ ps → fault_place s ≡ smallest p ps
  unfolding fault_place smallest
  wrong-smallest p ps e = ap (λ (l : List ℕ). smallest (length s) l) e ∙ smallest_from (length s) p ps (head_in p ps e)

  -- nothing is wrong with JSON in UTF-8 of at most 8,192 bytes, and with nothing else
  pub none_wrong : (bad_places s ≡ []) ↔ (JsonText s × (length s ≤ 8192))
  unfolding bad_place place_unless
  none_wrong = (
    go (document_of s) (is_utf8 s) (leb (length s) 8192) refl refl refl,
    (λ w. listed s (Ok (length s)) true true (document_16 s ∙ reads 16 s w.0.0) ((is_utf8_is s).1 w.0.1) (le-leb (length s) 8192 w.1)),
  )
    where
      json : (k : ℕ) → document_of s ≡ Ok k → G.JSON 16 s
      json k e = decide 16 s (λ w f. w) (λ p f. let g = document_16 s in let z : ◌≡◌ {A = ℕ} 0 1 = cc in absurd (omega arith))

      go : (q : Result ℕ ℕ) (u n : Bool) → document_of s ≡ q → is_utf8 s ≡ u → leb (length s) 8192 ≡ n → bad_places s ≡ [] → JsonText s × (length s ≤ 8192)
      go (Ok k) true true e f g h = ((json k e, (is_utf8_is s).0 f), leb-true (length s) 8192 g)
      go (Err k) u n e f g h = let z : ◌≡◌ {A = ℕ} 0 1 = cc (sym (listed s (Err k) u n e f g) ∙ h) in absurd (omega arith)
      go (Ok k) false n e f g h = let z : ◌≡◌ {A = ℕ} 0 1 = cc (sym (listed s (Ok k) false n e f g) ∙ h) in absurd (omega arith)
      go (Ok k) true false e f g h = let z : ◌≡◌ {A = ℕ} 0 1 = cc (sym (listed s (Ok k) true false e f g) ∙ h) in absurd (omega arith)

-- ---- of the text

-- the first 8,192 bytes tell it
pub fault-cut : (s : List ℕ) → text_place (take 8192 s) ≡ fault_place s
fault-cut s = one_place JsonText (take 8192 s) (text_place (take 8192 s)) (min (text_place s) 8192) (text_reach (take 8192 s)) (furthest-cut JsonText s (text_place s) 8192 (text_reach s)) ∙ sym (fault-min s)

pub fault-place : (s : List ℕ) (p : ℕ) → (JsonText s → length s ≤ 8192 → ⊥) → (p ≡ fault_place s) ↔ LeastOf (NotJsonAt s) p
fault-place s p n = (
  (λ e. rw (e, fault-min s) (record { holds = fault_is s n; least = fault-first s })),
  (λ l. let a = l.least (min (text_place s) 8192) (fault_is s n) in let b = fault-first s p l.holds in let c = fault-min s in omega arith),
)

-- a text that is JSON in UTF-8, nested at most 16 deep and not too long has no fault
pub no-fault : (s : List ℕ) → JsonText s → length s ≤ 8192 → (p : ℕ) → NotJsonAt s p → ⊥
no-fault s w n p (is_not_json f) = f.fails (16, w.0)
no-fault s w n p (not-utf8 f) = f.fails w.1
no-fault s w n p (too-deep f) = let i = f.inside in f.at (viable-less (G.JSON 16) s (p + 1) (length s) (omega arith) (viable-end (G.JSON 16) s (whole_viable (G.JSON 16) s w.0)).before)
no-fault s w n p (too_long h e) = omega arith
