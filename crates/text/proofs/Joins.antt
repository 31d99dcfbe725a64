-- Splitting undoes joining, and the other way round.
use Prim.Native.Nat.{ℕ}
use mathlib.Core.Path.{◌≡◌, refl, ap, ◌∙◌}
use mathlib.Core.List.{List, [], ◌∷◌, ◌++◌}
use mathlib.Core.Bool.{true, false, not}
use lib.Dec.{eqb}
use borrow.Author.Tests.{eqb-true, eq-eqb, not-true}
use Rattle.text.specs.Bytes.{every}
use Rattle.text.specs.Split.{split, onto, join_by, free, AllFree, none, more, Splits}
use Rattle.text.proofs.Bytes.{both, and_both}

module _ (sep : ℕ) where
  free-cons : (b : ℕ) (s : List ℕ) → free sep (b ∷ s) ≡ true → (eqb b sep ≡ false) × (free sep s ≡ true)
  unfolding free every
  free-cons b s e = let q = and_both (not (eqb b sep)) _ e in (not-true (eqb b sep) q.0, q.1)

  cons-free : (b : ℕ) (s : List ℕ) → eqb b sep ≡ false → free sep s ≡ true → free sep (b ∷ s) ≡ true
  unfolding free every
  cons-free b s e h = rw e h

  -- ---- splitting what was joined

  split_part : (p : List ℕ) → free sep p ≡ true → split sep p ≡ p ∷ []
  unfolding split onto
  split_part [] h = refl
  split_part (b ∷ p) h = let q = free-cons b p h in rw (q.0, split_part p q.1)

  pub split-append : (p s : List ℕ) → free sep p ≡ true → split sep (p ++ (sep ∷ s)) ≡ p ∷ split sep s
  unfolding split onto
  split-append [] s h = rw (eq-eqb sep sep refl)
  split-append (b ∷ p) s h = let q = free-cons b p h in rw (q.0, split-append p s q.1)

  pub split-join : (p : List ℕ) (ps : List (List ℕ)) → AllFree sep (p ∷ ps) → split sep (join_by sep p ps) ≡ p ∷ ps
  unfolding join_by
  split-join p [] (more h t) = split_part p h
  split-join p (q ∷ ps) (more h t) = split-append p (join_by sep q ps) h ∙ ap (λ (l : List (List ℕ)). p ∷ l) (split-join q ps t)

  -- ---- joining what was split

  join-onto : (b : ℕ) (p : List ℕ) (ps : List (List ℕ)) → join_by sep (b ∷ p) ps ≡ b ∷ join_by sep p ps
  unfolding join_by
  join-onto b p [] = refl
  join-onto b p (q ∷ ps) = refl

  longer : {b : ℕ} {p : List ℕ} {ps : List (List ℕ)} → eqb b sep ≡ false → AllFree sep (p ∷ ps) → AllFree sep ((b ∷ p) ∷ ps)
  longer {b} {p} e (more h t) = more (cons-free b p e h) t

  pub splits : (s : List ℕ) → Splits sep s
  unfolding split onto join_by free every
  splits [] = record { first = []; others = []; parts = refl; whole = refl; clean = more refl none }
  splits (b ∷ s) =
      let r = splits s in
      both (eqb b sep)
      (λ e. record { first = []; others = r.first ∷ r.others; parts = rw (e, r.parts); whole = rw (r.whole, eqb-true b sep e); clean = more refl r.clean })
      (λ e. record { first = b ∷ r.first; others = r.others; parts = rw (e, r.parts); whole = join-onto b r.first r.others ∙ ap (λ (l : List ℕ). b ∷ l) r.whole; clean = longer e r.clean })
