-- Members that all come first have different names.
use Rattle.std.specs.Prelude.{Err, Ok, Result, Option, Some, None}
use Prim.Native.Nat.{ℕ, zero, suc, ◌+◌, ◌≤◌, ◌<◌}
use native.Mathlib.Omega.{arith}
use mathlib.Core.Path.{◌≡◌, refl, sym, ap, ◌∙◌}
use mathlib.Core.List.{List, [], ◌∷◌}
use mathlib.Core.Bool.{Bool, true, false, false≢true}
use lib.Dec.{eqb}
use borrow.Author.Tests.{eqb-true}
use lib.ListN.{length}
use Rattle.json_text.specs.Bytes.{byte, ws, past}
use Rattle.json_text.specs.Value.{key_at, value_at}
use Rattle.json_text.specs.Members.{Member, next_at, item_at, member_at, list_from, members_at}
use Rattle.json_text.specs.declared.Item.{Item}
use Rattle.json_grammar.proofs.Ends.{Past, key-past, value-past}
use Rattle.text.specs.Ids.{is_id}
use Rattle.text.proofs.Bytes.{both}
use Rattle.escapes.specs.Decode as D
use Rattle.faults.specs.declared.Fault.{Fault}
use Rattle.faults.specs.Faults.{other_rule, repeated}
use Rattle.faults.proofs.Laws.{both-none, rule-kept}
use Rattle.fields.specs.Values.{decoded_at, string_bytes, is_object, members, name_of}
use Rattle.fields.specs.Fields.{decoded_faults, id_rule, among, field, is_first, first_of, comes_first, entry_faults}
use Rattle.fields.proofs.Decoded.{no-faults}

-- none has that name
pub data Unnamed (s name : List ℕ) : List Member → Type 0 where
  unnamed-none : Unnamed s name []
  unnamed-more : {m : Member} {ms : List Member} → (name_of s m ≡ name → ⊥) → Unnamed s name ms → Unnamed s name (m ∷ ms)

-- no two have the same name
pub data Unlike (s : List ℕ) : List Member → Type 0 where
  none : Unlike s []
  more : {m : Member} {ms : List Member} → Unnamed s (name_of s m) ms → Unlike s ms → Unlike s (m ∷ ms)

-- each has a name without half a surrogate pair, and is the first of that name in the object at `at`
pub data Firsts (s : List ℕ) (at : ℕ) : List Member → Type 0 where
  firsts-none : Firsts s at []
  firsts_more : {m : Member} {ms : List Member} → decoded_at s m.name ≡ D.whole (name_of s m) → comes_first s at m ≡ true → Firsts s at ms → Firsts s at (m ∷ ms)

-- ---- where members have no fault

module _ (f : Member → List Fault) (m : Member) (ms : List Member) (h : among f (m ∷ ms) ≡ []) where
  pub among_first : f m ≡ []
  unfolding among
  among_first = (both-none (f m) (among f ms) h).0

  pub among-rest : among f ms ≡ []
  unfolding among
  among-rest = (both-none (f m) (among f ms) h).1

-- an entry with no fault has an ID, is the first of its name, and its value has none
pub record Entry (s : List ℕ) (at : ℕ) (value : List Fault) (m : Member) : Type 0 where
  pub whole : decoded_at s m.name ≡ D.whole (name_of s m)
  pub id : is_id (name_of s m) ≡ true
  pub first : comes_first s at m ≡ true
  pub valid : value ≡ []

module _ (s : List ℕ) (at : ℕ) where
  pub entry : (value : List Fault) (m : Member) → entry_faults s at value m ≡ [] → Entry s at value m
  unfolding entry_faults name_of id_rule
  entry value m h =
      let q = both-none (decoded_faults s m.name (id_rule m.name)) (elim (comes_first s at m) [ true ↦ value | false ↦ repeated m.name ∷ [] ]) h in
      let n = no-faults s m.name (id_rule m.name) q.0 in
      go (comes_first s at m) refl n.0 (rule-kept (is_id (string_bytes s m.name)) (other_rule m.name) n.1) q.1
    where
      go : (b : Bool) → comes_first s at m ≡ b → decoded_at s m.name ≡ D.whole (name_of s m) → is_id (name_of s m) ≡ true → ◌≡◌ {A = List Fault} (elim b [ true ↦ value | false ↦ repeated m.name ∷ [] ]) [] → Entry s at value m
      go true e w i v = record { whole = w; id = i; first = e; valid = v }
      go false e w i v = let z : ◌≡◌ {A = ℕ} 0 1 = cc in absurd (omega arith)

  pub firsts : (value : Member → List Fault) (ms : List Member) → among (λ m. entry_faults s at (value m) m) ms ≡ [] → Firsts s at ms
  firsts value [] h = firsts-none
  firsts value (m ∷ ms) h =
      let e = entry (value m) m (among_first (λ m. entry_faults s at (value m) m) m ms h) in
      firsts_more e.whole e.first (firsts value ms (among-rest (λ m. entry_faults s at (value m) m) m ms h))

-- ---- values stand one behind another

pub data Ascend : ℕ → List Member → Type 0 where
  ascend-none : {n : ℕ} → Ascend n []
  ascend-more : {n : ℕ} {m : Member} {ms : List Member} → n ≤ m.value → Ascend (m.value + 1) ms → Ascend n (m ∷ ms)

ascend_from : {n : ℕ} (k : ℕ) (ms : List Member) → k ≤ n → Ascend n ms → Ascend k ms
ascend_from k [] h ascend-none = ascend-none
ascend_from k (m ∷ ms) h (ascend-more l a) = let b : k ≤ m.value = omega arith in ascend-more b a

module _ (s : List ℕ) where
  ws_from : (at : ℕ) → at ≤ ws s at
  unfolding ws past
  ws_from at = omega arith

  next_from : (e : ℕ) → e ≤ next_at s e
  unfolding next_at
  next_from e = let h = ws_from e in let k = ws_from (ws s e + 1) in both (eqb (byte s (ws s e)) 44)
      (λ q. rw (q, next_at) (omega arith))
      (λ q. rw (q, next_at) (omega arith))

  -- where a step from i leads
  abbrev Steps : ℕ → Option Item → Type 0
  Steps i (Some t) = (i ≤ t.value) × (t.value < t.next)
  Steps i None = Unit {0}

  item-steps : (i k : ℕ) → i ≤ k → Steps i (item_at s k)
  unfolding item_at
  item-steps i k h = go (value_at 16 s k) refl (value-past s 16 k)
    where
      go : (r : Result ℕ ℕ) → value_at 16 s k ≡ r → Past s k r → Steps i (item_at s k)
      go (Ok e) q p = let l = next_from e in rw (q, item_at) (omega arith, omega arith)
      go (Err e) q p = rw (q, item_at) tt

  member-steps : (i : ℕ) → Steps i (member_at s i)
  unfolding member_at
  member-steps i = go (key_at s i) refl (key-past s i)
    where
      go : (r : Result ℕ ℕ) → key_at s i ≡ r → Past s i r → Steps i (member_at s i)
      go (Ok k) q p = rw (q, member_at) (item-steps i k (omega arith))
      go (Err e) q p = rw (q, member_at) tt

  ascends : (f i : ℕ) → Ascend i (list_from (member_at s) f i)
  unfolding list_from
  ascends zero i = ascend-none
  ascends (suc f) i = go (member_at s i) refl (member-steps i) (λ j. ascends f j)
    where
      go : (r : Option Item) → member_at s i ≡ r → Steps i r → ((j : ℕ) → Ascend j (list_from (member_at s) f j)) → Ascend i (list_from (member_at s) (suc f) i)
      go (Some t) q l ih = rw (q, list_from) (ascend-more l.0 (ascend_from (t.value + 1) _ (omega arith) (ih t.next)))
      go None q l ih = rw (q, list_from) ascend-none

  pub members_ascend : (at : ℕ) → Ascend 0 (members s at)
  unfolding members members_at
  members_ascend at = both (is_object s at)
      (λ q. rw (q, members) (ascend_from 0 _ (omega arith) (ascends (suc (length s)) (ws s (at + 1)))))
      (λ q. rw (q, members) ascend-none)

-- ---- the first of a name is one

pub same_first : (f : Option ℕ) (j k : ℕ) → is_first j f ≡ true → is_first k f ≡ true → j ≡ k
unfolding is_first
same_first None j k p q = absurd (false≢true p)
same_first (Some i) j k p q = sym (eqb-true i j p) ∙ eqb-true i k q

module _ (s : List ℕ) (at : ℕ) where
  -- the first of a name without half a pair
  pub first-named : (m : Member) → decoded_at s m.name ≡ D.whole (name_of s m) → comes_first s at m ≡ is_first m.value (field s at (name_of s m))
  unfolding comes_first first_of
  first-named m w = ap (first_of s at m.value) w

  differ : (m n : Member) → is_first m.value (field s at (name_of s m)) ≡ true → is_first n.value (field s at (name_of s n)) ≡ true → m.value < n.value → name_of s n ≡ name_of s m → ⊥
  differ m n p q h e = let z = same_first (field s at (name_of s m)) m.value n.value p (rw e at q) in omega arith

  unnamed : (m : Member) (ms : List Member) {n : ℕ} → m.value < n → Ascend n ms → is_first m.value (field s at (name_of s m)) ≡ true → Firsts s at ms → Unnamed s (name_of s m) ms
  unnamed m [] h a p firsts-none = unnamed-none
  unnamed m (n ∷ ms) h (ascend-more l a) p (firsts_more w q f) = unnamed-more (differ m n p (sym (first-named n w) ∙ q) (omega arith)) (unnamed m ms (omega arith) a p f)

  apart : (ms : List Member) {n : ℕ} → Ascend n ms → Firsts s at ms → Unlike s ms
  apart [] a firsts-none = none
  apart (m ∷ ms) (ascend-more l a) (firsts_more w p f) = more (unnamed m ms (omega arith) a (sym (first-named m w) ∙ p) f) (apart ms a f)

  pub unlike : Firsts s at (members s at) → Unlike s (members s at)
  unlike f = apart (members s at) (members_ascend s at) f
