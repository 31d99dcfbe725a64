-- The devices of a table: strictly ascending by ID, at most d, each with an ID.
use Prim.Native.Nat.{ℕ, suc, ◌≤◌, ◌<◌, zero-le, suc-le-suc}
use native.Mathlib.Omega.{arith}
use mathlib.Core.Path.{◌≡◌, refl, sym, ap, ◌∙◌, subst}
use mathlib.Core.List.{List, [], ◌∷◌}
use mathlib.Core.Bool.{Bool, true, false, ◌&&◌, false≢true}
use lib.ListN.{length}
use Rattle.answer.specs.Answer.{Answer, refused, gives, only, Refusal}
use Rattle.text.specs.Bytes.{eq_bytes, less_bytes, Compared, before, equal, after}
use Rattle.text.specs.Ids.{is_id}
use Rattle.text.proofs.Bytes.{both, and_both, eq_bytes_sym, eq_bytes-true}
use Rattle.text.proofs.Theorems.{transitive, compared}
use Rattle.rules.specs.Table.{Device}
use Rattle.rules.specs.Find.{find, change, remove, insert}
use Rattle.rules.specs.Promises.{ascends_from, ascends, have_ids, Invariant}

and : {a b : Bool} → a ≡ true → b ≡ true → (a && b) ≡ true
and p q = rw (p, q)

-- ---- a device that is not there

pub absent-first : (id : List ℕ) (v : Device) (vs : List Device) (n : Refusal) → find id (v ∷ vs) ≡ refused n → (eq_bytes v.id id ≡ false) × (find id vs ≡ refused n)
unfolding find
absent-first id v vs n e = both (eq_bytes v.id id)
    (λ t. absurd (false≢true (subst IsRefused (rw (t, find) at e) refl)))
    (λ t. (t, rw (t, find) at e))
  where
    IsRefused : Answer Device → Type 0
    IsRefused (refused n) = false ≡ true
    IsRefused (gives v) = true ≡ true

-- ---- ascending

lower : (a b : List ℕ) (ds : List Device) → less_bytes a b ≡ true → ascends_from b ds ≡ true → ascends_from a ds ≡ true
unfolding ascends_from
lower a b [] l h = refl
lower a b (v ∷ vs) l h = let q = and_both (less_bytes b v.id) (ascends_from v.id vs) h in and (transitive a b v.id l q.0) q.1

-- none that stands after an ID has it
absent-above : (id : List ℕ) (ds : List Device) → ascends_from id ds ≡ true → find id ds ≡ refused (only 12)
unfolding ascends_from find
absent-above id [] h = refl
absent-above id (v ∷ vs) h =
    let q = and_both (less_bytes id v.id) (ascends_from v.id vs) h in
    let u : eq_bytes v.id id ≡ false = eq_bytes_sym v.id id ∙ unequal (less_bytes id v.id) (eq_bytes id v.id) (less_bytes v.id id) (compared id v.id) q.0 in
    rw (u, find) (absent-above id vs (lower id v.id vs q.0 q.1))
  where
    unequal : (a b c : Bool) → Compared a b c → a ≡ true → b ≡ false
    unequal true false false before p = refl
    unequal false true false equal p = absurd (false≢true p)
    unequal false false true after p = refl
    unequal false false false x p = elim x [ ]
    unequal false true true x p = elim x [ ]
    unequal true false true x p = elim x [ ]
    unequal true true c x p = elim x [ ]

ascends-tail : (v : Device) (vs : List Device) → ascends (v ∷ vs) ≡ true → ascends vs ≡ true
unfolding ascends ascends_from
ascends-tail v [] h = refl
ascends-tail v (w ∷ vs) h = (and_both (less_bytes v.id w.id) (ascends_from w.id vs) h).1

module _ (id : List ℕ) (f : Device → Device) (keeps : (v : Device) → (f v).id ≡ v.id) where
  change_from : (a : List ℕ) (ds : List Device) → ascends_from a (change id f ds) ≡ ascends_from a ds
  unfolding change ascends_from
  change_from a [] = refl
  change_from a (v ∷ vs) = both (eq_bytes v.id id)
      (λ t. rw (t, change) (rw (keeps v)))
      (λ t. rw (t, change) (ap (λ (b : Bool). less_bytes a v.id && b) (change_from v.id vs)))

  change-ascends : (ds : List Device) → ascends (change id f ds) ≡ ascends ds
  unfolding change ascends
  change-ascends [] = refl
  change-ascends (v ∷ vs) = both (eq_bytes v.id id) (λ t. rw (t, change) (rw (keeps v))) (λ t. rw (t, change) (change_from v.id vs))

  change_ids : (ds : List Device) → have_ids (change id f ds) ≡ have_ids ds
  unfolding change have_ids
  change_ids [] = refl
  change_ids (v ∷ vs) = both (eq_bytes v.id id) (λ t. rw (t, change) (rw (keeps v))) (λ t. rw (t, change) (ap (λ (b : Bool). is_id v.id && b) (change_ids vs)))

  change-count : (ds : List Device) → length (change id f ds) ≡ length ds
  unfolding change
  change-count [] = refl
  change-count (v ∷ vs) = both (eq_bytes v.id id) (λ t. rw (t, change)) (λ t. rw (t, change) (ap suc (change-count vs)))

  pub change_orderly : (d : ℕ) (ds : List Device) → Invariant d ds → Invariant d (change id f ds)
  change_orderly d ds o = record { ascending = change-ascends ds ∙ o.ascending; few = rw (change-count ds) o.few; named = change_ids ds ∙ o.named }

module _ (id : List ℕ) where
  remove_from : (a : List ℕ) (ds : List Device) → ascends_from a ds ≡ true → ascends_from a (remove id ds) ≡ true
  unfolding remove ascends_from
  remove_from a [] h = refl
  remove_from a (v ∷ vs) h =
      let q = and_both (less_bytes a v.id) (ascends_from v.id vs) h in
      both (eq_bytes v.id id) (λ t. rw (t, remove) (lower a v.id vs q.0 q.1)) (λ t. rw (t, remove) (and q.0 (remove_from v.id vs q.1)))

  remove-ascends : (ds : List Device) → ascends ds ≡ true → ascends (remove id ds) ≡ true
  unfolding remove ascends
  remove-ascends [] h = refl
  remove-ascends (v ∷ vs) h = both (eq_bytes v.id id) (λ t. rw (t, remove) (ascends-tail v vs h)) (λ t. rw (t, remove) (remove_from v.id vs h))

  pub removed : (ds : List Device) → ascends ds ≡ true → find id (remove id ds) ≡ refused (only 12)
  unfolding remove find ascends
  removed [] h = refl
  removed (v ∷ vs) h = both (eq_bytes v.id id)
      (λ t. rw (t, remove) (absent-above id vs (rw (eq_bytes-true v.id id t) at h)))
      (λ t. rw (t, remove) (rw (t, find) (removed vs (ascends-tail v vs h))))

  remove_ids : (ds : List Device) → have_ids ds ≡ true → have_ids (remove id ds) ≡ true
  unfolding remove have_ids
  remove_ids [] h = refl
  remove_ids (v ∷ vs) h =
      let q = and_both (is_id v.id) (have_ids vs) h in
      both (eq_bytes v.id id) (λ t. rw (t, remove) q.1) (λ t. rw (t, remove) (and q.0 (remove_ids vs q.1)))

  remove-count : (ds : List Device) → length (remove id ds) ≤ length ds
  unfolding remove
  remove-count [] = zero-le
  remove-count (v ∷ vs) = both (eq_bytes v.id id) (λ t. rw (t, remove) (omega arith)) (λ t. rw (t, remove) (suc-le-suc (remove-count vs)))

  pub remove_frees : (ds : List Device) (v : Device) → find id ds ≡ gives v → suc (length (remove id ds)) ≡ length ds
  unfolding remove find
  remove_frees [] v e = absurd (false≢true (subst IsRefused e refl))
    where
      IsRefused : Answer Device → Type 0
      IsRefused (refused n) = true ≡ true
      IsRefused (gives w) = false ≡ true
  remove_frees (u ∷ us) v e = both (eq_bytes u.id id) (λ t. rw (t, remove)) (λ t. rw (t, remove) (ap suc (remove_frees us v (rw (t, find) at e))))

  pub remove_orderly : (d : ℕ) (ds : List Device) → Invariant d ds → Invariant d (remove id ds)
  remove_orderly d ds o = record { ascending = remove-ascends ds o.ascending; few = omega (arith, remove-count ds, o.few); named = remove_ids ds o.named }

module _ (w : Device) where
  -- what is neither before nor equal is after
  past : (v : Device) → eq_bytes v.id w.id ≡ false → less_bytes w.id v.id ≡ false → less_bytes v.id w.id ≡ true
  past v p q = go (less_bytes v.id w.id) (eq_bytes v.id w.id) (less_bytes w.id v.id) (compared v.id w.id) p q
    where
      go : (a b c : Bool) → Compared a b c → b ≡ false → c ≡ false → a ≡ true
      go true false false before p q = refl
      go false true false equal p q = sym p
      go false false true after p q = sym q
      go false false false x p q = elim x [ ]
      go false true true x p q = elim x [ ]
      go true false true x p q = elim x [ ]
      go true true c x p q = elim x [ ]

  insert_from : (a : List ℕ) (ds : List Device) (n : Refusal) → less_bytes a w.id ≡ true → find w.id ds ≡ refused n → ascends_from a ds ≡ true → ascends_from a (insert w ds) ≡ true
  unfolding insert ascends_from
  insert_from a [] n l e h = and l refl
  insert_from a (v ∷ vs) n l e h =
      let q = and_both (less_bytes a v.id) (ascends_from v.id vs) h in
      let m = absent-first w.id v vs n e in
      both (less_bytes w.id v.id) (λ t. rw (t, insert) (and l (and t q.1))) (λ t. rw (t, insert) (and q.0 (insert_from v.id vs n (past v m.0 t) m.1 q.1)))

  insert-ascends : (ds : List Device) (n : Refusal) → find w.id ds ≡ refused n → ascends ds ≡ true → ascends (insert w ds) ≡ true
  unfolding insert ascends ascends_from
  insert-ascends [] n e h = refl
  insert-ascends (v ∷ vs) n e h =
      let m = absent-first w.id v vs n e in
      both (less_bytes w.id v.id) (λ t. rw (t, insert) (and t h)) (λ t. rw (t, insert) (insert_from v.id vs n (past v m.0 t) m.1 h))

  insert_ids : (ds : List Device) → is_id w.id ≡ true → have_ids ds ≡ true → have_ids (insert w ds) ≡ true
  unfolding insert have_ids
  insert_ids [] i h = and i refl
  insert_ids (v ∷ vs) i h =
      let q = and_both (is_id v.id) (have_ids vs) h in
      both (less_bytes w.id v.id) (λ t. rw (t, insert) (and i h)) (λ t. rw (t, insert) (and q.0 (insert_ids vs i q.1)))

  insert-count : (ds : List Device) → length (insert w ds) ≡ suc (length ds)
  unfolding insert
  insert-count [] = refl
  insert-count (v ∷ vs) = both (less_bytes w.id v.id) (λ t. rw (t, insert)) (λ t. rw (t, insert) (ap suc (insert-count vs)))

  pub insert_orderly : (d : ℕ) (ds : List Device) (n : Refusal) → find w.id ds ≡ refused n → is_id w.id ≡ true → length ds < d → Invariant d ds → Invariant d (insert w ds)
  insert_orderly d ds n e i l o = record { ascending = insert-ascends ds n e o.ascending; few = rw (insert-count ds) l; named = insert_ids ds i o.named }
