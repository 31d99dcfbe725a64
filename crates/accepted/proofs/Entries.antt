-- The members of an object by ID: their faults against their tests.
use Prim.Native.Nat.{ℕ}
use mathlib.Core.Path.{◌≡◌, refl, sym, ap, ◌∙◌}
use mathlib.Core.List.{List, [], ◌∷◌, ◌++◌}
use mathlib.Core.Bool.{Bool, true, false, not}
use Rattle.text.specs.Ids.{is_id}
use Rattle.json_text.specs.Members.{Member}
use Rattle.escapes.specs.Decode.{whole}
use Rattle.faults.specs.declared.Fault.{Fault}
use Rattle.faults.specs.Faults.{other_rule, repeated}
use Rattle.fields.specs.Values.{decoded_at, string_bytes, members, name_of}
use Rattle.fields.specs.Fields.{among, decoded_faults, id_rule, comes_first, entry_faults}
use Rattle.fields.proofs.Decoded.{whole-faults}
use Rattle.fields.proofs.Names.{Firsts, firsts_more, firsts, among_first, among-rest, entry, first-named}
use Rattle.accepted.specs.Once.{decoded, read_at, passes, holds, all, field, is_twice}
use Rattle.accepted.specs.Rules.{is_once, id_rules}
use Rattle.accepted.proofs.Same.{Same, rule, none_both, first_holds, parts_hold, holds_parts, Agree, In, here, later, in-none, first-all, all_both}
use Rattle.accepted.proofs.Strings.{whole-passes, passes-whole}
use Rattle.accepted.proofs.Once.{once-first, first-once}

not-false : (b : Bool) → not b ≡ true → b ≡ false
not-false false e = refl
not-false true e = sym e

-- what the tests ask of a member's name
record Named (s : List ℕ) (at : ℕ) (m : Member) : Type 0 where
  whole : decoded_at s m.name ≡ whole (name_of s m)
  id : is_id (name_of s m) ≡ true
  once : is_twice (field decoded s at (name_of s m)) ≡ false

module _ (s : List ℕ) (at : ℕ) where
  firsts_in : {m : Member} (ms : List Member) → Firsts s at ms → In m ms → comes_first s at m ≡ true
  firsts_in [] f i = in-none i
  firsts_in (n ∷ ms) (firsts_more w e f) (here p) = rw p e
  firsts_in (n ∷ ms) (firsts_more w e f) (later i) = firsts_in ms f i

  id_holds : (m : Member) → Named s at m → holds (id_rules decoded s at m) ≡ true
  unfolding id_rules is_once holds
  id_holds m n = rw (whole-passes s m.name is_id n.whole n.id, whole-passes s m.name (is_once decoded s at) n.whole (ap not n.once))

  holds-id : (m : Member) → holds (id_rules decoded s at m) ≡ true → Named s at m
  unfolding id_rules is_once name_of
  holds-id m h =
      let q = first_holds (passes is_id (read_at decoded s m.name)) (passes (is_once decoded s at) (read_at decoded s m.name) ∷ []) h in
      let p = passes-whole s m.name is_id q.0 in
      let o = passes-whole s m.name (is_once decoded s at) (first_holds (passes (is_once decoded s at) (read_at decoded s m.name)) [] q.1).0 in
      record { whole = p.0; id = p.1; once = not-false (is_twice (field decoded s at (string_bytes s m.name))) o.1 }

  entry-none : (value : List Fault) (m : Member) → Named s at m → comes_first s at m ≡ true → value ≡ [] → entry_faults s at value m ≡ []
  unfolding entry_faults id_rule name_of
  entry-none value m n q v = none_both (decoded_faults s m.name (id_rule m.name)) (elim (comes_first s at m) [ true ↦ value | false ↦ repeated m.name ∷ [] ])
      (whole-faults s m.name (id_rule m.name) n.whole ∙ (rule (is_id (name_of s m)) (other_rule m.name)).1 n.id)
      (rw (q, v))

  module _ (value : Member → List Fault) (rules : Member → List Bool) (a : (m : Member) → Agree (value m) (rules m)) where
    abbrev faults_of : Member → List Fault
    faults_of m = entry_faults s at (value m) m

    abbrev test : Member → Bool
    test m = holds (id_rules decoded s at m ++ rules m)

    entries_hold : (ms : List Member) → ((name : List ℕ) → is_twice (field decoded s at name) ≡ false) → among faults_of ms ≡ [] → all test ms ≡ true
    unfolding all
    entries_hold [] t h = refl
    entries_hold (m ∷ ms) t h =
        let e = entry s at (value m) m (among_first faults_of m ms h) in
        let n : Named s at m = record { whole = e.whole; id = e.id; once = t (name_of s m) } in
        all_both test m ms (holds_parts (id_rules decoded s at m) (rules m) (id_holds m n) ((a m).tests e.valid)) (entries_hold ms t (among-rest faults_of m ms h))

    entries_none : (ms : List Member) → ((m : Member) → In m ms → In m (members s at)) → all test ms ≡ true → among faults_of ms ≡ []
    unfolding among
    entries_none [] i h = refl
    entries_none (m ∷ ms) i h =
        let q = first-all test m ms h in
        let p = parts_hold (id_rules decoded s at m) (rules m) q.0 in
        let n = holds-id m p.0 in
        none_both (faults_of m) (among faults_of ms)
        (entry-none (value m) m n (first-named s at m n.whole ∙ once-first s at (i m (here refl)) n.whole n.once) ((a m).faults p.1))
        (entries_none ms (λ n j. i n (later j)) q.1)

    pub entries : Same (among faults_of (members s at)) (all test (members s at))
    entries = (
      λ h. entries_hold (members s at) (λ name. first-once s at name (λ m i w. firsts_in (members s at) (firsts s at value (members s at) h) i)) h,
      λ h. entries_none (members s at) (λ m i. i) h,
    )
