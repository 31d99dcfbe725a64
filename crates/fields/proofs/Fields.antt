-- What each way through the code shows of a field.
use Rattle.std.specs.Prelude.{None, Option, Some}
use Rattle.std.specs.Option.{is_some, option_eq}
use Prim.Native.Nat.{ℕ, ◌+◌, ◌≤◌, ◌<◌}
use native.Mathlib.Omega.{arith}
use mathlib.Core.Path.{◌≡◌, refl, sym, ap, ◌∙◌, subst}
use mathlib.Core.List.{List, [], ◌∷◌}
use mathlib.Core.Bool.{Bool, true, false}
use lib.ListN.{length, get_or}
use lib.Dec.{eqb}
use borrow.Author.Tests.{eq-eqb, ne_eqb, eqb-true, eqb-false}
use Rattle.json_text.specs.Bytes.{byte, ws}
use Rattle.json_text.specs.Members.{Member, member_at, GotItem, found}
use Rattle.json_text.specs.Strings.{raw_bytes}
use Rattle.escapes.specs.Decode.{Decoded, whole, half, decode, is_this, alike}
use Rattle.text.proofs.Bytes.{both, at_most, eq_bytes-refl}
use Rattle.faults.specs.declared.Fault.{Fault}
use Rattle.faults.specs.Faults.{earlier, least}
use Rattle.fields.specs.declared.Kind.{Kind}
use Rattle.fields.specs.declared.Owner.{Owner}
use Rattle.fields.specs.declared.Known.{Known}
use Rattle.fields.specs.Values.{decoded_at, string_bytes, is_true, is_named}
use Rattle.fields.specs.Fields.{one_more, field_in, field, is_present, flag_in, unless_half, decoded_faults, no_rule, kind_faults, field_faults, is_first, first_of, repeat_faults, name_faults_of, name_faults}
use Rattle.fields.specs.Known.{known_name, field_at, Knows, IsMember}
use Rattle.fields.specs.Parts.{Classified, again_faults, seen_faults, seen_more, Saw}
use Rattle.fields.proofs.Decoded.{untold-whole, told-broken}
use Rattle.fields.proofs.Numbers.{other-unknown, known-name, at_none, at_some}
use Rattle.fields.proofs.Walk.{Walking, walking_as, at_done, at_item, no-members, first_member, Telling, tell-done, tell_item, tell_no-members, tell-members}

-- what was seen first stays
pub stays-first : (s name : List ℕ) (k : ℕ) (ms : List Member) → field_in s name (Some k) ms ≡ Some k
unfolding field_in one_more
stays-first s name k [] = refl
stays-first s name k (m ∷ ms) = both (is_named s name m)
    (λ e. rw (e, field_in) (stays-first s name k ms))
    (λ e. rw (e, field_in) (stays-first s name k ms))

-- the walk that looks for a name
abbrev pub Looking : List ℕ → List ℕ → Option ℕ → ℕ → Option ℕ → Type 0
Looking s name seen i want = Walking (member_at s) (field_in s name seen) (length s) i want

module _ (s : List ℕ) (at : ℕ) (name : List ℕ) {b : ℕ} (p : b ≡ byte s at) where
  pub look_none : (b ≡ 123 → ⊥) → None ≡ field s at name
  unfolding field field_in
  look_none n = no-members (field_in s name None) s at p n

  pub look-first : {i : ℕ} → b ≡ 123 → i ≡ ws s (at + 1) → i ≤ length s → Looking s name None i (field s at name)
  unfolding field
  look-first e q h = first_member (field_in s name None) s at p e q h

-- nothing that follows changes it
pub look-settled : (s name : List ℕ) (k i : ℕ) {want : Option ℕ} → Looking s name (Some k) i want → Some k ≡ want
look-settled s name k i g = sym (stays-first s name k _) ∙ g.going.same

module _ (s name : List ℕ) (seen : Option ℕ) (i : ℕ) {want : Option ℕ} (g : Looking s name seen i want) where
  pub look-done : member_at s i ≡ None → seen ≡ want
  unfolding field_in
  look-done q = at_done (member_at s) (field_in s name seen) (length s) i g q

  module _ {k e n : ℕ} (w : GotItem (member_at s i) i (length s) (found k e n)) {b : Bool} (y : b ≡ is_this name (decoded_at s i)) where
    hit : b ≡ is_named s name (record { name = i; value = k; end = e })
    unfolding is_named
    hit = y

    pub look_hit : {seen' : Option ℕ} → b ≡ true → seen' ≡ one_more seen k → Looking s name seen' n want
    unfolding field_in
    look_hit {seen'} q z = subst (λ (f : Option ℕ). Looking s name f n want) (sym z) (walking_as (field_in s name (one_more seen k)) (λ ms. sym (rw (sym hit ∙ q, field_in))) (at_item (member_at s) (field_in s name seen) (length s) i g w))

    pub look_miss : b ≡ false → Looking s name seen n want
    unfolding field_in
    look_miss q = walking_as (field_in s name seen) (λ ms. sym (rw (sym hit ∙ q, field_in))) (at_item (member_at s) (field_in s name seen) (length s) i g w)

    -- by the test
    pub look_on : {seen' : Option ℕ} → seen' ≡ seen_more b seen k → Looking s name seen' n want
    unfolding seen_more
    look_on {seen'} z = both b
        (λ q. look_hit q (z ∙ rw q))
        (λ q. subst (λ (f : Option ℕ). Looking s name f n want) (sym (z ∙ rw q)) (look_miss q))

-- the first member of that name
pub look-found : (s name : List ℕ) (i : ℕ) {want : Option ℕ} → Looking s name None i want → {k e n : ℕ} → GotItem (member_at s i) i (length s) (found k e n) → {b : Bool} → b ≡ is_this name (decoded_at s i) → b ≡ true → Some k ≡ want
unfolding one_more
look-found s name i g {k} {e} {n} w y q = look-settled s name k n (look_hit s name None i g w y q refl)

-- ---- by the field's case

pub first_is : (k : ℕ) (f : Option ℕ) → option_eq eqb f (Some k) ≡ is_first k f
unfolding is_first
first_is k None = refl
first_is k (Some j) = refl

-- by what is told of half a pair in the name at i
module _ (s : List ℕ) (at k i : ℕ) {r : Option Fault} (w : r ≡ least (decoded_faults s i no_rule)) where
  pub comes-half : {x : Fault} → r ≡ Some x → true ≡ first_of s at k (decoded_at s i)
  unfolding first_of
  comes-half q = let h = told-broken s i w q in rw h.1

  pub comes-whole : {f : Option ℕ} {b : Bool} → r ≡ None → f ≡ field s at (string_bytes s i) → b ≡ is_first k f → b ≡ first_of s at k (decoded_at s i)
  unfolding first_of
  comes-whole q x y = y ∙ (ap (is_first k) x ∙ sym (ap (first_of s at k) (untold-whole s i w q)))

pub present_is : (f : Option ℕ) → is_some f ≡ is_present f
unfolding is_present
present_is None = refl
present_is (Some k) = refl

module _ (kind : Kind) (s : List ℕ) {f : Option ℕ} where
  pub told-absent : f ≡ None → None ≡ least (field_faults kind s f)
  unfolding field_faults least
  told-absent q = rw q

  pub told-first : {k : ℕ} {r : Option Fault} → f ≡ Some k → r ≡ least (kind_faults kind s k) → r ≡ least (field_faults kind s f)
  unfolding field_faults
  told-first q x = rw q x

module _ (default : Bool) (s : List ℕ) {f : Option ℕ} where
  pub flag-absent : f ≡ None → default ≡ flag_in s default f
  unfolding flag_in
  flag-absent q = rw q

  pub flag-first : {k : ℕ} {r : Bool} → f ≡ Some k → r ≡ is_true s k → r ≡ flag_in s default f
  unfolding flag_in
  flag-first q x = rw q x

-- what a kind's own function tells
pub of_kind_lem : (s : List ℕ) (k : ℕ) {kind : Kind} (c : Kind) {r : Option Fault} → kind ≡ c → r ≡ least (kind_faults c s k) → r ≡ least (kind_faults kind s k)
of_kind_lem s k c q x = x ∙ ap (λ (z : Kind). least (kind_faults z s k)) (sym q)

-- ---- all known fields of an object

-- what was told of the names, and what was seen of each known field, in the walk's turn at i
pub record Noting (owner : Owner) (s : List ℕ) (at : ℕ) (told : Option Fault) (seen : List ℕ) (i : ℕ) : Type 0 where
  pub names : Telling (member_at s) (name_faults_of owner s at) (length s) told i (least (name_faults owner s at))
  pub looks : (c : ℕ) → c < 15 → Looking s (known_name c) (field_at seen c) i (field s at (known_name c))

module _ (owner : Owner) (s : List ℕ) (at : ℕ) {b : ℕ} (p : b ≡ byte s at) (seen : List ℕ) (z : (c : ℕ) → None ≡ field_at seen c) where
  pub note-none : (b ≡ 123 → ⊥) → (m : Known) → m.told ≡ None → m.seen ≡ seen → Knows owner s at m
  unfolding name_faults
  note-none n m e f = record {
    told = e ∙ tell_no-members (name_faults_of owner s at) s at p n;
    fields = λ c h. ap (λ (l : List ℕ). field_at l c) f ∙ sym (z c) ∙ look_none s at (known_name c) p n;
  }

  pub note-first : {i : ℕ} {told : Option Fault} → told ≡ None → b ≡ 123 → i ≡ ws s (at + 1) → i ≤ length s → Noting owner s at told seen i
  unfolding name_faults
  note-first {i} {told} o e q h = record {
    names = subst (λ (t : Option Fault). Telling (member_at s) (name_faults_of owner s at) (length s) t i (least (name_faults owner s at))) (sym o) (tell-members (name_faults_of owner s at) s at p e q h);
    looks = λ c l. subst (λ (f : Option ℕ). Looking s (known_name c) f i (field s at (known_name c))) (z c) (look-first s at (known_name c) p e q h);
  }

module _ (owner : Owner) (s : List ℕ) (at : ℕ) (told : Option Fault) (seen : List ℕ) (i : ℕ) (g : Noting owner s at told seen i) where
  pub note-done : member_at s i ≡ None → (m : Known) → m.told ≡ told → m.seen ≡ seen → Knows owner s at m
  note-done q m e f = record {
    told = e ∙ tell-done (member_at s) (name_faults_of owner s at) (length s) told i g.names q;
    fields = λ c h. ap (λ (l : List ℕ). field_at l c) f ∙ look-done s (known_name c) (field_at seen c) i (g.looks c h) q;
  }

  module _ {k e n : ℕ} (w : GotItem (member_at s i) i (length s) (found k e n)) {c : ℕ} (y : Classified (decoded_at s i) c) (before : get_or seen c 0 < i) where
    fresh : c < 15 → get_or seen c 0 ≡ 0 → Some k ≡ field s at (known_name c)
    fresh h q = look-found s (known_name c) i (subst (λ (f : Option ℕ). Looking s (known_name c) f i (field s at (known_name c))) (sym (at_none seen c q)) (g.looks c h)) w refl (y.names c h ∙ eq-eqb c c refl)

    stale : c < 15 → (get_or seen c 0 ≡ 0 → ⊥) → Some (get_or seen c 0) ≡ field s at (known_name c)
    stale h q = look-settled s (known_name c) (get_or seen c 0) i (subst (λ (f : Option ℕ). Looking s (known_name c) f i (field s at (known_name c))) (sym (at_some seen c q)) (g.looks c h))

    -- a known name comes first where nothing was seen of it
    seen_first : c < 15 → eqb (get_or seen c 0) 0 ≡ is_first k (field s at (known_name c))
    unfolding is_first
    seen_first h = both (eqb (get_or seen c 0) 0)
        (λ q. q ∙ sym (ap (is_first k) (sym (fresh h (eqb-true (get_or seen c 0) 0 q))) ∙ eq-eqb k k refl))
        (λ q. q ∙ sym (ap (is_first k) (sym (stale h (eqb-false (get_or seen c 0) 0 q))) ∙ ne_eqb (get_or seen c 0) k (λ j. absurd (let l = w.lies in omega arith))))

    name-faults : name_faults_of owner s at (record { name = i; value = k; end = e }) ≡ seen_faults owner (decoded_at s i) (get_or seen c 0) i
    unfolding name_faults_of seen_faults decoded_faults unless_half repeat_faults again_faults
    name-faults = go (decoded_at s i) y
      where
        go : (d : Decoded) → Classified d c → unless_half d i (repeat_faults owner s at (record { name = i; value = k; end = e })) ≡ unless_half d i (again_faults owner (get_or seen c 0) i)
        go (whole t) z = at_most c 14
            (λ h. rw (known-name z (omega arith), sym (seen_first (omega arith))))
            (λ h. rw (other-unknown z owner (omega arith)))
        go (half p) z = refl

    pub note-more : {told' : Option Fault} {seen' : List ℕ} → told' ≡ earlier told (least (seen_faults owner (decoded_at s i) (get_or seen c 0) i)) → Saw c k seen seen' → 0 < i → Noting owner s at told' seen' n
    note-more {told'} {seen'} p v o = record {
      names = tell_item (member_at s) (name_faults_of owner s at) (length s) told i g.names w p (ap least (sym name-faults));
      looks = λ j l. look_on s (known_name j) (field_at seen j) i (g.looks j l) w (sym (y.names j l)) (v.more (let z = w.lies in omega arith) j (omega arith));
    }

-- the turn of the walk at i, with places seen before it; what holds of it if the table is right
pub record Turn (given : Type 0) (seen : List ℕ) (i : ℕ) (X : Type 0) : Type 0 where
  pub from : 0 < i
  pub below : (c : ℕ) → get_or seen c 0 < i
  pub going : given → X

-- the search for the name at `own`, which has no half pair
module _ (s : List ℕ) (own : ℕ) (w : decoded_at s own ≡ whole (string_bytes s own)) where
  -- what another string is told to be
  pub alike_this : {raw : List ℕ} (i : ℕ) {b : Bool} → raw ≡ raw_bytes s own → b ≡ alike (decode raw) (decoded_at s i) → b ≡ is_this (string_bytes s own) (decoded_at s i)
  unfolding decoded_at alike
  alike_this {raw} i {b} x y = y ∙ rw (x, w)

  own_this : true ≡ is_this (string_bytes s own) (decoded_at s own)
  unfolding is_this
  own_this = rw w (sym (eq_bytes-refl (string_bytes s own)))

  -- it ends at the member itself
  pub own-found : {i value : ℕ} {want : Option ℕ} → Looking s (string_bytes s own) None i want → i ≡ own → IsMember s own value → Some value ≡ want
  own-found {i} {value} {want} g e m = look-found s (string_bytes s own) own (subst (λ (j : ℕ). Looking s (string_bytes s own) None j want) e g) m.got own_this refl
