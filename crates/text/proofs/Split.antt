-- Parts of a byte string: one at a place, and all of them.
use Rattle.std.specs.Prelude.{Some, None, position, unwrap_or, nat_eq}
use Rattle.std.specs.List.{position_or_len, slice_split, onto_first}
use Rattle.text.proofs.Bytes.{both}
use Rattle.std.proofs.lemmas.List.Recursion.{is_position_or_len}
use Prim.Native.Nat.{ℕ, suc, ◌+◌, ◌≤◌, ◌<◌}
use native.Mathlib.Nat.{add-sub_cancel_left}
use native.Mathlib.Omega.{arith}
use mathlib.Core.Path.{◌≡◌, refl, ap, ◌∙◌}
use mathlib.Core.List.{List, [], ◌∷◌}
use mathlib.Core.Bool.{Bool, true, false, cond}
use lib.Dec.{leb, ltb, eqb, leb-suc-suc}
use lib.ListN.{length, take, drop, length-drop}
use lib.Seq.{drop-drop}
use borrow.Author.Tests.{le-leb, lt-leb, leb-true, leb-false, lt-ltb, le-ltb, ltb-false}
use Rattle.text.specs.declared.Part.{Part}
use Rattle.text.specs.Bytes.{slice}
use Rattle.text.specs.Split.{split, onto, first_len, part_at, found_part}

pub part_at-none : (sep : ℕ) (s : List ℕ) (at : ℕ) → length s < at → None ≡ part_at sep s at
unfolding part_at
part_at-none sep s at h = rw (lt-leb at (length s) h)

pub part_at-found : (sep : ℕ) (s : List ℕ) (at e : ℕ) → at ≤ length s → at + first_len sep (drop at s) ≡ e → found_part at e (e + 1) ≡ part_at sep s at
unfolding part_at
part_at-found sep s at e h k = rw (le-leb at (length s) h, k)

pub first_len-le : (sep : ℕ) (s : List ℕ) → first_len sep s ≤ length s
unfolding first_len
first_len-le sep [] = omega arith
first_len-le sep (b ∷ s) = pick (eqb b sep) (first_len sep s) (length s) (first_len-le sep s)
  where
    pick : (t : Bool) (f n : ℕ) → f ≤ n → cond t 0 (suc f) ≤ suc n
    pick true f n h = omega arith
    pick false f n h = omega arith

-- the count before the first separator, as the library's search finds it
pub first-place : (sep : ℕ) (s : List ℕ) → first_len sep s ≡ position_or_len (λ b. nat_eq b sep) s
unfolding first_len
first-place sep s = is_position_or_len (first_len sep) (λ b. nat_eq b sep) refl (λ b r. ap (λ n. cond (nat_eq b sep) 0 n) (omega arith)) s

pub first-position : (sep : ℕ) (s : List ℕ) → unwrap_or (position (λ b. nat_eq b sep) s) (length s) ≡ first_len sep s
first-position sep s = rw (first-place sep s) (pick (position_or_len (λ b. nat_eq b sep) s) (length s) (rw (first-place sep s) at (first_len-le sep s)))
  where
    pick : (k n : ℕ) → k ≤ n → unwrap_or (cond (ltb k n) (Some k) None) n ≡ k
    pick k n h = both (ltb k n) (λ p. rw p) (λ p. rw p (omega (arith, ltb-false k n p)))

onto_is : (b : ℕ) (ps : List (List ℕ)) → onto b ps ≡ onto_first b ps
unfolding onto
onto_is b [] = refl
onto_is b (p ∷ ps) = refl

-- the parts are those that the library's `split` gives
pub split-parts : (sep : ℕ) (s : List ℕ) → split sep s ≡ slice_split (λ b. nat_eq b sep) s
unfolding split
split-parts sep [] = refl
split-parts sep (b ∷ s) = ap (cond (nat_eq b sep) ([] ∷ split sep s)) (onto_is b (split sep s)) ∙ rw (split-parts sep s)

-- what `part_at` says where it found a part
pub record IsPart (sep : ℕ) (t : List ℕ) (at s e n : ℕ) : Type 0 where
  pub here : at ≤ length t
  pub start : s ≡ at
  pub end : e ≡ at + first_len sep (drop at t)
  pub next : n ≡ e + 1
  pub ordered : s ≤ e
  pub within : e ≤ length t

pub is_part : (sep : ℕ) (t : List ℕ) (at s e n : ℕ) → found_part s e n ≡ part_at sep t at → IsPart sep t at s e n
unfolding part_at
is_part sep t at s e n q = pick (leb at (length t)) (leb-true at (length t)) q
  where
    pick : (b : Bool) → (b ≡ true → at ≤ length t) → found_part s e n ≡ cond b (found_part at (at + first_len sep (drop at t)) (at + first_len sep (drop at t) + 1)) None → IsPart sep t at s e n
    pick true h q =
        let here : at ≤ length t = h refl in
        let k = first_len sep (drop at t) in
        let same : ◌≡◌ {A = Part} (record { start = s; end = e; next = n }) (record { start = at; end = at + k; next = at + k + 1 }) = cc in
        let es : s ≡ at = ap (λ (p : Part). p.start) same in
        let ee : e ≡ at + k = ap (λ (p : Part). p.end) same in
        let en : n ≡ at + k + 1 = ap (λ (p : Part). p.next) same in
        record { here = here; start = es; end = ee; next = omega arith; ordered = omega arith; within = omega (arith, first_len-le sep (drop at t), length-drop at t) }
    pick false h q = let z : ◌≡◌ {A = ℕ} 0 1 = cc in absurd (omega arith)

pub is_none : (sep : ℕ) (t : List ℕ) (at : ℕ) → None ≡ part_at sep t at → length t < at
unfolding part_at
is_none sep t at q = pick (leb at (length t)) (leb-false at (length t)) q
  where
    pick : (b : Bool) → (b ≡ false → length t < at) → None ≡ cond b (found_part at (at + first_len sep (drop at t)) (at + first_len sep (drop at t) + 1)) None → length t < at
    pick true h q = let z : ◌≡◌ {A = ℕ} 0 1 = cc in absurd (omega arith)
    pick false h q = h refl

-- the parts that follow the first k bytes and a separator
pub others : ℕ → ℕ → List ℕ → List (List ℕ)
others sep k s = cond (ltb k (length s)) (split sep (drop (suc k) s)) []

pub split-first : (sep : ℕ) (s : List ℕ) → split sep s ≡ take (first_len sep s) s ∷ others sep (first_len sep s) s
unfolding split first_len others onto
split-first sep [] = refl
split-first sep (b ∷ s) = pick (eqb b sep) (split-first sep s)
  where
    pick : (t : Bool) → split sep s ≡ take (first_len sep s) s ∷ others sep (first_len sep s) s → cond t ([] ∷ split sep s) (onto b (split sep s)) ≡ take (cond t 0 (suc (first_len sep s))) (b ∷ s) ∷ others sep (cond t 0 (suc (first_len sep s))) (b ∷ s)
    pick true h = rw (lt-ltb 0 (suc (length s)) (omega arith))
    pick false h = rw (h, leb-suc-suc)

-- the part that stands between the two places is the first of what starts there
pub slice_first : (sep : ℕ) (t : List ℕ) (at s e n : ℕ) → IsPart sep t at s e n → slice t s e ≡ take (first_len sep (drop at t)) (drop at t)
slice_first sep t at s e n p = rw (p.start, p.end, add-sub_cancel_left)

-- a found part stands first in the splitting of what starts there, and the splitting goes on at `next`
module _ (sep : ℕ) (t : List ℕ) (at s e n : ℕ) (p : IsPart sep t at s e n) where
  pub split-more : n ≤ length t → split sep (drop at t) ≡ slice t s e ∷ split sep (drop n t)
  unfolding others
  split-more h =
      let f = first_len sep (drop at t) in
      let k : at + suc f ≡ n = omega (arith, p.next, p.end) in
      split-first sep (drop at t) ∙ rw (slice_first sep t at s e n p, lt-ltb f (length (drop at t)) (omega (arith, length-drop at t)), drop-drop (suc f) at t, k)

  pub split-last : length t < n → split sep (drop at t) ≡ slice t s e ∷ []
  unfolding others
  split-last h =
      let f = first_len sep (drop at t) in
      split-first sep (drop at t) ∙ rw (slice_first sep t at s e n p, le-ltb f (length (drop at t)) (omega (arith, length-drop at t, p.next, p.end)))
