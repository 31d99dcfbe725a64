-- The properties of a list in order are those put in.
use Prim.Native.Nat.{ℕ, zero, suc, ◌+◌, ◌<◌}
use native.Mathlib.Omega.{arith}
use mathlib.Core.Path.{◌≡◌, refl, ap, ◌∙◌}
use mathlib.Core.Logic.{◌⊎◌, inl, inr}
use mathlib.Core.List.{List, [], ◌∷◌, ◌++◌}
use lib.ListN.{length, get_or}
use Rattle.text.proofs.Bytes.{both}
use Rattle.properties.specs.Property.{Property, is_before, insert, insert_all}
use Rattle.properties.specs.Valid.{In, here, later}

pub in_at : (ps : List Property) (z : Property) (i : ℕ) → i < length ps → In (get_or ps i z) ps
in_at [] z i h = absurd (omega arith)
in_at (p ∷ ps) z zero h = here refl
in_at (p ∷ ps) z (suc i) h = later (in_at ps z i (omega arith))

module _ {p : Property} where
  pub in-none {ℓ} : {X : Type ℓ} → In p [] → X
  in-none = elim [ ]

  pub in-append : (ps qs : List Property) → In p (ps ++ qs) → In p ps ⊎ In p qs
  in-append [] qs i = inr i
  in-append (q ∷ ps) qs (here e) = inl (here e)
  in-append (q ∷ ps) qs (later i) = go (in-append ps qs i)
    where
      go : In p ps ⊎ In p qs → In p (q ∷ ps) ⊎ In p qs
      go (inl j) = inl (later j)
      go (inr j) = inr j

  pub in_insert : (q : Property) (qs : List Property) → In p (insert q qs) → In p (q ∷ qs)
  unfolding insert
  in_insert q [] i = i
  in_insert q (r ∷ qs) i = both (is_before q r) (λ e. rw (e, insert) at i) (λ e. swap (rw (e, insert) at i) (in_insert q qs))
    where
      under : In p (q ∷ qs) → In p (q ∷ (r ∷ qs))
      under (here e) = here e
      under (later k) = later (later k)

      swap : In p (r ∷ insert q qs) → (In p (insert q qs) → In p (q ∷ qs)) → In p (q ∷ (r ∷ qs))
      swap (here e) f = later (here e)
      swap (later j) f = under (f j)

  insert_in : (q : Property) (qs : List Property) → In p (q ∷ qs) → In p (insert q qs)
  unfolding insert
  insert_in q [] i = i
  insert_in q (r ∷ qs) i = both (is_before q r) (λ e. rw (e, insert) i) (λ e. rw (e, insert) (swap i (insert_in q qs)))
    where
      swap : In p (q ∷ (r ∷ qs)) → (In p (q ∷ qs) → In p (insert q qs)) → In p (r ∷ insert q qs)
      swap (here e) f = later (f (here e))
      swap (later (here e)) f = here e
      swap (later (later j)) f = later (f (later j))

  -- a property of the list in order was put in
  pub put_in : (ps qs : List Property) → In p (insert_all ps qs) → In p ps ⊎ In p qs
  unfolding insert_all
  put_in [] qs i = inr i
  put_in (q ∷ ps) qs i = go (put_in ps (insert q qs) i)
    where
      old : In p (q ∷ qs) → In p (q ∷ ps) ⊎ In p qs
      old (here e) = inl (here e)
      old (later j) = inr j

      go : In p ps ⊎ In p (insert q qs) → In p (q ∷ ps) ⊎ In p qs
      go (inl j) = inl (later j)
      go (inr j) = old (in_insert q qs j)

  stays : (ps qs : List Property) → In p qs → In p (insert_all ps qs)
  unfolding insert_all
  stays [] qs i = i
  stays (q ∷ ps) qs i = stays ps (insert q qs) (insert_in q qs (later i))

  -- and each that was put in is there
  pub is_in_lem : (ps qs : List Property) → In p ps → In p (insert_all ps qs)
  unfolding insert_all
  is_in_lem [] qs i = in-none i
  is_in_lem (q ∷ ps) qs (here e) = stays ps (insert q qs) (insert_in q qs (here e))
  is_in_lem (q ∷ ps) qs (later i) = is_in_lem ps (insert q qs) i

pub insert-length : (p : Property) (qs : List Property) → length (insert p qs) ≡ suc (length qs)
unfolding insert
insert-length p [] = refl
insert-length p (q ∷ qs) = both (is_before p q) (λ e. rw (e, insert)) (λ e. rw (e, insert) (ap suc (insert-length p qs)))

pub all-length : (ps qs : List Property) → length (insert_all ps qs) ≡ length ps + length qs
unfolding insert_all
all-length [] qs = omega arith
all-length (p ∷ ps) qs = all-length ps (insert p qs) ∙ omega (arith, insert-length p qs)

-- those of two lists, one after another
pub insert-append : (ps qs rs : List Property) → insert_all (ps ++ qs) rs ≡ insert_all qs (insert_all ps rs)
unfolding insert_all
insert-append [] qs rs = refl
insert-append (p ∷ ps) qs rs = insert-append ps qs (insert p rs)
