-- The fields of an object: their faults against their tests.
use Rattle.std.specs.Prelude.{Option}
use Prim.Native.Nat.{ℕ}
use mathlib.Core.Path.{◌≡◌, refl, sym, ap, ◌∙◌}
use mathlib.Core.List.{List, [], ◌∷◌, ◌++◌}
use mathlib.Core.Bool.{Bool, true, false, not, ◌||◌, false≢true}
use Rattle.text.specs.Bytes.{eq_bytes}
use Rattle.text.specs.Ids.{is_id}
use Rattle.text.proofs.Bytes.{both, eq_bytes-true, eq_bytes-refl}
use Rattle.json_text.specs.Members.{Member}
use Rattle.escapes.specs.Decode.{whole, bytes_of}
use Rattle.faults.specs.declared.Fault.{Fault}
use Rattle.faults.specs.Faults.{wrong_kind, repeated, other_rule}
use Rattle.faults.proofs.Laws.{both-none, rule-kept}
use Rattle.fields.specs.Values.{decoded_at, is_string_at, is_object, is_array, is_flag, members, elements, name_of}
use Rattle.fields.specs.Fields as first
use Rattle.fields.specs.Fields.{of_kind, among, string_faults, id_rule, id_faults, array_faults, kind_faults, field_faults, is_first, comes_first, repeat_faults, name_faults_of, name_faults}
use Rattle.fields.proofs.Decoded.{whole-faults, no-faults}
use Rattle.fields.specs.Names.{known_names, is_one_of, is_known}
use Rattle.fields.specs.declared.Kind.{Kind}
use Rattle.fields.specs.declared.Kind.TheVariants.{Text, Flag, Object, Ids, Texts}
use Rattle.fields.specs.declared.Owner.{Owner}
use Rattle.fields.proofs.Names.{among_first, among-rest, first-named}
use Rattle.accepted.specs.Once.{decoded, read_at, passes, is_read, Once, Absent, One, Twice, holds, all, field, is_twice, is_present, optional, required, members_in, names_read}
use Rattle.accepted.specs.Rules.{is_text, array_of}
use Rattle.accepted.proofs.Same.{Same, same_none, rule, none_both, first_holds, holds-both, Agree, kind, kind_then, In, here, later, in-none, first-all, all_both, each_same}
use Rattle.accepted.proofs.Strings.{whole-passes, passes-whole, of-string}
use Rattle.accepted.proofs.Once.{Alike, absent, one, alike, once-first, first-once}

-- ---- values

module _ (s : List ℕ) (k : ℕ) where
  pub text : Same (kind_faults Text s k) (is_string_at s k)
  unfolding kind_faults string_faults
  text = rule (is_string_at s k) (wrong_kind k)

  pub flag : Same (kind_faults Flag s k) (is_flag s k)
  unfolding kind_faults
  flag = rule (is_flag s k) (wrong_kind k)

  pub object : Same (kind_faults Object s k) (is_object s k)
  unfolding kind_faults
  object = rule (is_object s k) (wrong_kind k)

  id : Same (id_faults s k) (is_text is_id decoded s k)
  unfolding id_faults id_rule is_text
  id = kind k (is_string_at s k) (of-string s k (λ t. rule (is_id t) (other_rule k)))

  array : (each : List ℕ → ℕ → List Fault) (test : ℕ → Bool) → ((j : ℕ) → Same (each s j) (test j)) → Same (array_faults each s k) (array_of test s k)
  unfolding array_faults array_of
  array each test a = kind k (is_array s k) (each_same (λ m. each s m.value) (λ m. test m.value) (λ m. a m.value) (elements s k))

module _ (s : List ℕ) (k : ℕ) where
  pub ids : Same (kind_faults Ids s k) (array_of (is_text is_id decoded s) s k)
  unfolding kind_faults
  ids = array s k id_faults (is_text is_id decoded s) (id s)

  pub texts : Same (kind_faults Texts s k) (array_of (is_string_at s) s k)
  unfolding kind_faults string_faults
  texts = array s k string_faults (is_string_at s) (λ j. rule (is_string_at s j) (wrong_kind j))

-- ---- a field

pub held : (kind : Kind) (s : List ℕ) (test : ℕ → Bool) → ((k : ℕ) → Same (kind_faults kind s k) (test k)) → {f : Once} {g : Option ℕ} → Alike f g → Same (field_faults kind s g) (optional test f)
unfolding field_faults optional
held kind s test a absent = same_none
held kind s test a (one k) = a k

pub present : {f : Once} {g : Option ℕ} → Alike f g → is_present f ≡ first.is_present g
unfolding is_present first.is_present
present absent = refl
present (one k) = refl

pub members_of : (s : List ℕ) {f : Once} {g : Option ℕ} → Alike f g → members_in s f ≡ first.members_in s g
unfolding members_in first.members_in
members_of s absent = refl
members_of s (one k) = refl

module _ (test : ℕ → Bool) where
  pub optional-once : (f : Once) → optional test f ≡ true → is_twice f ≡ false
  unfolding optional is_twice
  optional-once Absent e = refl
  optional-once (One k) e = refl
  optional-once Twice e = absurd (false≢true e)

  pub required-once : (f : Once) → required test f ≡ true → is_twice f ≡ false
  unfolding required is_twice
  required-once Absent e = refl
  required-once (One k) e = refl
  required-once Twice e = absurd (false≢true e)

-- ---- names

-- no known field of the object stands twice
abbrev pub NoneTwice : Owner → List ℕ → ℕ → Type 0
NoneTwice owner s at = (name : List ℕ) → is_known owner name ≡ true → is_twice (field decoded s at name) ≡ false

-- by each known name
pub data Singles (s : List ℕ) (at : ℕ) : List (List ℕ) → Type 0 where
  done : Singles s at []
  single : {t : List ℕ} {ts : List (List ℕ)} → is_twice (field decoded s at t) ≡ false → Singles s at ts → Singles s at (t ∷ ts)

abbrev pub Every : (List ℕ → Type 0) → List (List ℕ) → Type 0
Every P [] = Unit {0}
Every P (t ∷ ts) = P t × Every P ts

of-every : (P : List ℕ → Type 0) (ts : List (List ℕ)) → ((t : List ℕ) → is_one_of t ts ≡ true → P t) → Every P ts
unfolding is_one_of
of-every P [] h = tt
of-every P (u ∷ ts) h = (h u (rw (eq_bytes-refl u, is_one_of)), of-every P ts (λ t e. h t (both (eq_bytes t u) (λ q. rw (q, is_one_of)) (λ q. rw (q, is_one_of) e))))

of_singles : (s : List ℕ) (at : ℕ) (ts : List (List ℕ)) → Singles s at ts → (t : List ℕ) → is_one_of t ts ≡ true → is_twice (field decoded s at t) ≡ false
unfolding is_one_of
of_singles s at [] done t e = absurd (false≢true e)
of_singles s at (u ∷ ts) (single h a) t e = both (eq_bytes t u)
    (λ q. rw (eq_bytes-true t u q) h)
    (λ q. of_singles s at ts a t (rw (q, is_one_of) at e))

module _ (owner : Owner) (s : List ℕ) (at : ℕ) where
  pub none_twice : Singles s at (known_names owner) → NoneTwice owner s at
  unfolding is_known
  none_twice a = of_singles s at (known_names owner) a

  -- so each is the same field both ways
  pub known : NoneTwice owner s at → Every (λ name. Alike (field decoded s at name) (first.field s at name)) (known_names owner)
  unfolding is_known
  known h = of-every (λ name. Alike (field decoded s at name) (first.field s at name)) (known_names owner) (λ name e. alike s at name (h name e))

-- a name is not that of a known field of the object at `at`, or its member is the first of that name
abbrev is_new : Owner → List ℕ → ℕ → Member → List ℕ → Bool
is_new owner s at m t = not (is_known owner t) || is_first m.value (first.field s at t)

-- the member's name can be read
abbrev name_read : List ℕ → Member → Bool
name_read s m = passes is_read (read_at decoded s m.name)

bytes_one : {t u : List ℕ} → whole t ≡ whole u → t ≡ u
unfolding bytes_of
bytes_one e = ap bytes_of e

module _ (owner : Owner) (s : List ℕ) (at : ℕ) where
  name_ok : (m : Member) → name_faults_of owner s at m ≡ [] → (decoded_at s m.name ≡ whole (name_of s m)) × (is_new owner s at m (name_of s m) ≡ true)
  unfolding name_faults_of repeat_faults name_of
  name_ok m h = let n = no-faults s m.name (repeat_faults owner s at m) h in (n.0, rule-kept (is_new owner s at m (name_of s m)) (repeated m.name) n.1)

  name-none : (m : Member) → decoded_at s m.name ≡ whole (name_of s m) → is_new owner s at m (name_of s m) ≡ true → name_faults_of owner s at m ≡ []
  unfolding name_faults_of repeat_faults name_of
  name-none m w q = whole-faults s m.name (repeat_faults owner s at m) w ∙ (rule (is_new owner s at m (name_of s m)) (repeated m.name)).1 q

  names-read : (ms : List Member) → among (name_faults_of owner s at) ms ≡ [] → all (name_read s) ms ≡ true
  unfolding all is_read
  names-read [] h = refl
  names-read (m ∷ ms) h = all_both (name_read s) m ms (whole-passes s m.name is_read (name_ok m (among_first (name_faults_of owner s at) m ms h)).0 refl) (names-read ms (among-rest (name_faults_of owner s at) m ms h))

  known-first : {m : Member} {name : List ℕ} (ms : List Member) → among (name_faults_of owner s at) ms ≡ [] → In m ms → decoded_at s m.name ≡ whole name → is_known owner name ≡ true → comes_first s at m ≡ true
  known-first [] h i w k = in-none i
  known-first {m} {name} (n ∷ ms) h (here p) w k =
      let q = name_ok m (rw (sym p) at (among_first (name_faults_of owner s at) n ms h)) in
      let known = rw (bytes_one (sym w ∙ q.0)) at k in
      first-named s at m q.0 ∙ rw known at q.1
  known-first (n ∷ ms) h (later i) w k = known-first ms (among-rest (name_faults_of owner s at) n ms h) i w k

  names-none : (ms : List Member) → ((m : Member) → In m ms → In m (members s at)) → all (name_read s) ms ≡ true → NoneTwice owner s at → among (name_faults_of owner s at) ms ≡ []
  unfolding among name_of
  names-none [] i p t = refl
  names-none (m ∷ ms) i p t =
      let q = first-all (name_read s) m ms p in
      let w = (passes-whole s m.name is_read q.0).0 in
      none_both (name_faults_of owner s at m) (among (name_faults_of owner s at) ms)
      (name-none m w (both (is_known owner (name_of s m))
      (λ e. rw e (once-first s at (i m (here refl)) w (t (name_of s m) e)))
      (λ e. rw e)))
      (names-none ms (λ n j. i n (later j)) q.1 t)

  names-once : name_faults owner s at ≡ [] → NoneTwice owner s at
  unfolding name_faults
  names-once h name k = first-once s at name (λ m i w. known-first (members s at) h i w k)

  -- an object: what its fields need of each other is that none of them stands twice
  pub fields_agree : {fs : List Fault} {ts : List Bool} → (NoneTwice owner s at → Agree fs ts) → (holds ts ≡ true → NoneTwice owner s at) → Agree (of_kind (is_object s at) at (name_faults owner s at ++ fs)) (is_object s at ∷ names_read decoded s at ∷ ts)
  unfolding name_faults names_read
  fields_agree {fs} {ts} a b = kind_then at (is_object s at) (record { tests = yes; faults = no })
    where
      yes : name_faults owner s at ++ fs ≡ [] → holds (names_read decoded s at ∷ ts) ≡ true
      yes e = let p = both-none (name_faults owner s at) fs e in holds-both (names_read decoded s at) ts (names-read (members s at) p.0) ((a (names-once p.0)).tests p.1)

      no : holds (names_read decoded s at ∷ ts) ≡ true → name_faults owner s at ++ fs ≡ []
      no e = let q = first_holds (names_read decoded s at) ts e in let t = b q.1 in none_both (name_faults owner s at) fs (names-none (members s at) (λ m i. i) q.0 t) ((a t).faults q.1)
