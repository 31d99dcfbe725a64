-- Walking a list from its front to the first that passes a test.
use Prim.Native.Nat.{ℕ, suc, ◌+◌, ◌≤◌, ◌<◌}
use native.Mathlib.Numerals.{add-one}
use native.Mathlib.Omega.{arith}
use mathlib.Core.Path.{◌≡◌, refl, sym, ap, ◌∙◌}
use mathlib.Core.List.{List, [], ◌∷◌}
use mathlib.Core.Bool.{Bool, true, false, and-true, and-false}
use lib.ListN.{length, drop, drop_of_length-le}
use lib.Seq.{drop-cons}
use Rattle.text.specs.Bytes.{eq_bytes}
use Rattle.rules.specs.Table as table
use Rattle.rules.specs.Find.{is_named, first_at}
use Rattle.text.specs.Ids.{id_most}
use Rattle.device.specs.Layout.{node_at, property_at, record_at}
use Rattle.device.specs.Decode.{text_at, declared_at, record_of}
use Rattle.device.proofs.Described.{all, nth}

module _ {A : Type 0} (test : A → Bool) where
  first-here : (x : A) (l : List A) → test x ≡ true → first_at test (x ∷ l) ≡ 0
  unfolding first_at
  first-here x l e = rw (e, first_at)

  first-later : (x : A) (l : List A) → test x ≡ false → first_at test (x ∷ l) ≡ suc (first_at test l)
  unfolding first_at
  first-later x l e = rw (e, first_at)

  first-none : first_at test [] ≡ 0
  unfolding first_at
  first-none = refl

-- the loop of `find_property`, where the first i do not pass
module _ (r : List ℕ) (test : table.Property → Bool) where
  pub Passed : ℕ → Type 0
  Passed i = i + first_at test (drop i (all r)) ≡ first_at test (all r)

  rest : (i : ℕ) → i < length (all r) → drop i (all r) ≡ record_of r (record_at i) ∷ drop (i + 1) (all r)
  rest i h =
      let z = record_of r 0 in
      drop-cons (all r) i z h ∙ rw (nth r i z h, add-one i)

  pub passed_none : Passed 0
  unfolding Passed
  passed_none = omega arith

  pub passed-one : (i : ℕ) → i < length (all r) → test (record_of r (record_at i)) ≡ false → Passed i → Passed (i + 1)
  unfolding Passed
  passed-one i h e p =
      let d = ap (first_at test) (rest i h) ∙ first-later test (record_of r (record_at i)) (drop (i + 1) (all r)) e in
      omega arith

  pub found : (i : ℕ) → i < length (all r) → test (record_of r (record_at i)) ≡ true → Passed i → i ≡ first_at test (all r)
  unfolding Passed
  found i h e p =
      let d = ap (first_at test) (rest i h) ∙ first-here test (record_of r (record_at i)) (drop (i + 1) (all r)) e in
      omega arith

  pub passed-all : (i : ℕ) → length (all r) ≤ i → Passed i → i ≡ first_at test (all r)
  unfolding Passed
  passed-all i h p =
      let d = ap (first_at test) (drop_of_length-le (all r) {i = i} h) ∙ first-none test in
      omega arith

-- the two IDs of a record
module _ (r node id : List ℕ) (a n : ℕ) (e : a ≡ n) where
  pub other-id : eq_bytes (text_at r (a + property_at) id_most) id ≡ false → false ≡ is_named node id (record_of r n)
  unfolding is_named record_of declared_at
  other-id h = rw (← e, h) (sym (and-false (eq_bytes (text_at r (a + node_at) id_most) node)))

  pub same_id : {b : Bool} → eq_bytes (text_at r (a + property_at) id_most) id ≡ true → b ≡ eq_bytes (text_at r (a + node_at) id_most) node → b ≡ is_named node id (record_of r n)
  unfolding is_named record_of declared_at
  same_id h k = rw (← e, h) (k ∙ sym (and-true (eq_bytes (text_at r (a + node_at) id_most) node)))
