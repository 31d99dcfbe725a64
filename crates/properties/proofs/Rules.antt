-- What each way through the code shows of a property's faults, and of what it declares.
use Rattle.std.specs.Prelude.{Option, None, Some, Err, Ok, Result}
use Prim.Native.Nat.{ℕ, ◌≤◌, ◌<◌}
use native.Mathlib.Omega.{arith}
use mathlib.Core.Path.{◌≡◌, refl, sym, ap, ◌∙◌}
use mathlib.Core.List.{List, [], ◌++◌}
use mathlib.Core.Bool.{Bool, true, false, false≢true, cond}
use lib.ListN.{length}
use borrow.Author.Tests.{lt-leb}
use Rattle.text.specs.Bytes.{slice, eq_bytes}
use Rattle.json_text.specs.Strings.{raw_bytes, is_plain}
use Rattle.faults.specs.Faults.{other_rule, earlier, least, ◌otherwise◌, wrong_kind, missing}
use Rattle.faults.specs.declared.Fault.{Fault}
use Rattle.faults.specs.Faults.{other_rule, earlier, least, ◌otherwise◌, wrong_kind, missing}
use Rattle.faults.proofs.Laws.{at-nothing, earlier_assoc, earlier-nothing, least-join, least-nothing, least-one, join-told, rule-holds, rule-broken, rule-kept}
use Rattle.fields.proofs.Values.{kind-other, kind-right}
use Rattle.fields.proofs.Decoded.{plain-bytes, plain-faults, no-faults, decoded-length, decoded-faults, decoded-bytes, broken-faults, broken-bytes}
use Rattle.fields.specs.Values.{string_bytes, is_string_at, is_object, DecodesAt}
use Rattle.fields.specs.Fields.{field, text_in, flag_in, of_kind, decoded_faults, field_faults, close_at}
use Rattle.fields.specs.Known.{known_name, field_at, Knows}
use Rattle.fields.specs.declared.Known as fields
use Rattle.fields.specs.declared.Kind.TheVariants.{Text, Flag}
use Rattle.fields.specs.declared.Owner.TheVariants as owner
use Rattle.ranges.specs.Ranges.{is_some}
use Rattle.payload.specs.Datatypes.{datatype_named}
use Rattle.payload.specs.Formats.{is_format, kept_of, when_missing, kept_format, kept_bytes}
use Rattle.payload.specs.declared.Datatype.{Datatype}
use Rattle.payload.specs.declared.Datatype.TheVariants.{String, Integer, Float, Boolean, Enum, Color, Datetime, Duration, Json}
use Rattle.payload.specs.declared.Format.{Format}
use Rattle.payload.specs.declared.Format.TheVariants.{AsGiven, NotKept}
use Rattle.properties.specs.declared.Judged.{Judged}
use Rattle.properties.specs.declared.TypeRead.{TypeRead}
use Rattle.properties.specs.declared.FormatRead.{FormatRead}
use Rattle.properties.specs.Names.{datatype, name, unit, format, settable, retained}
use Rattle.properties.specs.Property.{datatype_in, datatype_rule, datatype_faults, format_rule, is_kept, given_faults, format_faults, property_field_faults, property_faults, Property, type_of, text_of, property_at}
use Rattle.properties.specs.Parts.{ReadsType, JudgesFormat, ReadsFormat, text_faults, flag_faults}
use Rattle.properties.specs.Judged.{Judges}
use Rattle.properties.specs.Entries.{content}
use Rattle.properties.proofs.Plain.{datatype-plain, datatype-short}

-- something told is not nothing
told-not {ℓ} : {X : Type ℓ} {t : Option Fault} {x : Fault} → t ≡ Some x → t ≡ None → X
told-not e n = absurd (at-nothing (sym e ∙ n))

-- ---- no fault

pub kind-none : (test : Bool) (k : ℕ) (fs : List Fault) → of_kind test k fs ≡ [] → (test ≡ true) × (fs ≡ [])
unfolding of_kind
kind-none true k fs e = (refl, e)
kind-none false k fs e = let z : ◌≡◌ {A = ℕ} 0 1 = cc in absurd (omega arith)

-- so there is a datatype
pub has-datatype : (s : List ℕ) (at : ℕ) (f : Option ℕ) → datatype_faults s at f ≡ [] → is_some (datatype_in s f) ≡ true
unfolding datatype_faults datatype_in datatype_rule
has-datatype s at None e = let z : ◌≡◌ {A = ℕ} 0 1 = cc in absurd (omega arith)
has-datatype s at (Some k) e =
    let w = kind-none (is_string_at s k) k _ e in
    rw (w.0, datatype_in) (rule-kept (is_some (datatype_named (string_bytes s k))) _ (no-faults s k (datatype_rule k) w.1).1)

-- ---- the datatype that a string names

module _ (k : ℕ) (t : List ℕ) (r : TypeRead) (z : r.named ≡ datatype_named t) where
  pub named-bad : r.named ≡ None → r.told ≡ Some (other_rule k) → ReadsType (datatype_rule k t) (datatype_named t) r
  unfolding datatype_rule
  named-bad n e = record { told = e ∙ rule-broken (is_some (datatype_named t)) (other_rule k) (sym (ap is_some z) ∙ ap is_some n); named = z }

  pub named_known : {d : Datatype} → r.named ≡ Some d → r.told ≡ None → ReadsType (datatype_rule k t) (datatype_named t) r
  unfolding datatype_rule
  named_known n e = record { told = e ∙ rule-holds (is_some (datatype_named t)) (other_rule k) (sym (ap is_some z) ∙ ap is_some n); named = z }

abbrev NamesType : List ℕ → ℕ → TypeRead → Type 0
NamesType s k r = ReadsType (decoded_faults s k (datatype_rule k)) (datatype_named (string_bytes s k)) r

-- decoded
module _ (s : List ℕ) (k : ℕ) {before after : List ℕ} {x : Result ℕ ℕ} (w : DecodesAt s k before after x) (r : TypeRead) where
  pub type-half : {p : ℕ} → x ≡ Err p → r.told ≡ Some (other_rule p) → r.named ≡ None → NamesType s k r
  unfolding datatype_named eq_bytes
  type-half {p} q e n = record {
    told = e ∙ (least-one (other_rule p) ∙ sym (ap least (broken-faults s k w q (datatype_rule k))));
    named = n ∙ sym (ap datatype_named (broken-bytes s k w q));
  }

  module _ {n : ℕ} (q : x ≡ Ok n) where
    pub type-long : 8 < n → r.told ≡ Some (other_rule k) → r.named ≡ None → NamesType s k r
    unfolding datatype_rule
    type-long h e u =
        let z : datatype_named (string_bytes s k) ≡ None = datatype-short (string_bytes s k) (omega (arith, decoded-length s k w q)) in
        record {
          told = e ∙ (rule-broken (is_some (datatype_named (string_bytes s k))) (other_rule k) (ap is_some z) ∙ sym (ap least (decoded-faults s k w q (datatype_rule k))));
          named = u ∙ sym z;
        }

    pub type-decoded : {t : List ℕ} → length before ≡ 16 → n ≤ 16 → t ≡ slice after 0 n → ReadsType (datatype_rule k t) (datatype_named t) r → NamesType s k r
    type-decoded l h y v =
        let e = decoded-bytes s k w q (omega (arith, l, h)) y in
        record {
          told = v.told ∙ (ap (λ (u : List ℕ). least (datatype_rule k u)) e ∙ sym (ap least (decoded-faults s k w q (datatype_rule k))));
          named = v.named ∙ ap datatype_named e;
        }

-- ---- the datatype that a field names

module _ (s : List ℕ) (at : ℕ) (f : Option ℕ) (r : TypeRead) where
  abbrev Typed : Type 0
  Typed = ReadsType (datatype_faults s at f) (datatype_in s f) r

  pub type-absent : {e : ℕ} → f ≡ None → e ≡ close_at s at → r.told ≡ Some (missing e) → r.named ≡ None → Typed
  unfolding datatype_faults datatype_in least earlier
  type-absent q x t n = record { told = t ∙ rw (q, x); named = rw (n, q) }

  module _ {k : ℕ} (q : f ≡ Some k) {b : Bool} (p : b ≡ is_string_at s k) where
    pub type-other : b ≡ false → r.told ≡ Some (wrong_kind k) → r.named ≡ None → Typed
    unfolding datatype_faults datatype_in
    type-other x t n = record {
      told = t ∙ rw q (kind-other k _ p x);
      named = rw (n, q, datatype_in) (rw (sym p ∙ x));
    }

    module _ (x : b ≡ true) where
      pub type-read : NamesType s k r → Typed
      unfolding datatype_faults datatype_in
      type-read v = record {
        told = rw q (kind-right k _ p x v.told);
        named = rw (q, datatype_in) (rw (sym p ∙ x) v.named);
      }

      -- a name as sent has no backslash
      pub type-sent : {t : List ℕ} {d : Datatype} → t ≡ raw_bytes s k → r.named ≡ datatype_named t → r.named ≡ Some d → r.told ≡ None → Typed
      type-sent {t} {d} y z n e =
          let z' : r.named ≡ datatype_named (raw_bytes s k) = z ∙ ap datatype_named y in
          let h : is_plain (raw_bytes s k) ≡ true = datatype-plain (raw_bytes s k) d (sym z' ∙ n) in
          let v = named_known k (raw_bytes s k) r z' n e in
          type-read (record { told = v.told ∙ sym (ap least (plain-faults s k h (datatype_rule k))); named = v.named ∙ sym (ap datatype_named (plain-bytes s k h)) })

-- ---- a format and its datatype

pub kept_is : {d e : Datatype} {b : Bool} → d ≡ e → b ≡ is_kept e → b ≡ is_kept d
kept_is q x = rw q x

-- a format that is kept is kept as it is
kept-own : (d : Datatype) (t : List ℕ) → is_kept d ≡ true → kept_of d t ≡ t
unfolding is_kept kept_of
kept-own Integer t e = refl
kept-own Float t e = refl
kept-own Boolean t e = refl
kept-own Enum t e = refl
kept-own Color t e = refl
kept-own String t e = absurd (false≢true e)
kept-own Datetime t e = absurd (false≢true e)
kept-own Duration t e = absurd (false≢true e)
kept-own Json t e = absurd (false≢true e)

-- and has at most 64 bytes
kept-short : (d : Datatype) (t : List ℕ) → is_kept d ≡ true → 64 < length t → is_format d t ≡ false
unfolding is_kept is_format
kept-short Integer t e h = rw (lt-leb (length t) 64 h)
kept-short Float t e h = rw (lt-leb (length t) 64 h)
kept-short Boolean t e h = rw (lt-leb (length t) 64 h)
kept-short Enum t e h = rw (lt-leb (length t) 64 h)
kept-short Color t e h = rw (lt-leb (length t) 64 h)
kept-short String t e h = absurd (false≢true e)
kept-short Datetime t e h = absurd (false≢true e)
kept-short Duration t e h = absurd (false≢true e)
kept-short Json t e h = absurd (false≢true e)

-- nothing is kept of the others, which may be any string
pub kept-not : (d : Datatype) (t : List ℕ) → is_kept d ≡ false → kept_format d (Some t) ≡ Some []
unfolding is_kept kept_format
kept-not Integer t e = absurd (false≢true (sym e))
kept-not Float t e = absurd (false≢true (sym e))
kept-not Boolean t e = absurd (false≢true (sym e))
kept-not Enum t e = absurd (false≢true (sym e))
kept-not Color t e = absurd (false≢true (sym e))
kept-not String t e = refl
kept-not Datetime t e = refl
kept-not Duration t e = refl
kept-not Json t e = refl

pub kept_whole : (d : Datatype) (t : List ℕ) → is_kept d ≡ true → is_format d t ≡ true → kept_format d (Some t) ≡ Some t
unfolding kept_format
kept_whole d t h e = ap (λ (b : Bool). cond b (Some (kept_of d t)) None) e ∙ ap Some (kept-own d t h)

-- by its bytes
module _ (d : Datatype) (k : ℕ) (t : List ℕ) (r : FormatRead) {b : Bool} (p : b ≡ is_format d t) where
  pub judged-good : b ≡ true → r.told ≡ None → r.kept ≡ Some AsGiven → JudgesFormat (format_rule d k t) r
  unfolding format_rule
  judged-good x e q = record { told = e ∙ rule-holds (is_format d t) (other_rule k) (sym p ∙ x); kept = λ n. q }

  pub judged-bad : b ≡ false → r.told ≡ Some (other_rule k) → JudgesFormat (format_rule d k t) r
  unfolding format_rule
  judged-bad x e = record { told = e ∙ rule-broken (is_format d t) (other_rule k) (sym p ∙ x); kept = λ n. told-not e n }

abbrev JudgesString : List ℕ → Datatype → ℕ → FormatRead → Type 0
JudgesString s d k r = JudgesFormat (decoded_faults s k (format_rule d k)) r

-- decoded
module _ (s : List ℕ) (d : Datatype) (k : ℕ) {before after : List ℕ} {x : Result ℕ ℕ} (w : DecodesAt s k before after x) (r : FormatRead) where
  pub format-half : {p : ℕ} → x ≡ Err p → r.told ≡ Some (other_rule p) → JudgesString s d k r
  format-half {p} q e = record { told = e ∙ (least-one (other_rule p) ∙ sym (ap least (broken-faults s k w q (format_rule d k)))); kept = λ n. told-not e n }

  module _ {n : ℕ} (q : x ≡ Ok n) where
    pub format-long : 64 < n → r.told ≡ Some (other_rule k) → is_kept d ≡ true → JudgesString s d k r
    unfolding format_rule
    format-long h e y =
        let z : is_format d (string_bytes s k) ≡ false = kept-short d (string_bytes s k) y (omega (arith, decoded-length s k w q)) in
        record {
          told = e ∙ (rule-broken (is_format d (string_bytes s k)) (other_rule k) z ∙ sym (ap least (decoded-faults s k w q (format_rule d k))));
          kept = λ n. told-not e n;
        }

    pub format-decoded : {t : List ℕ} → length before ≡ 64 → n ≤ 64 → t ≡ slice after 0 n → JudgesFormat (format_rule d k t) r → JudgesString s d k r
    format-decoded l h y v = record {
      told = v.told ∙ (ap (λ (u : List ℕ). least (format_rule d k u)) (decoded-bytes s k w q (omega (arith, l, h)) y) ∙ sym (ap least (decoded-faults s k w q (format_rule d k))));
      kept = v.kept;
    }

module _ (s : List ℕ) {f : Option ℕ} where
  pub text-absent : f ≡ None → [] ≡ text_of (text_in s f)
  unfolding text_of text_in
  text-absent q = rw q

  pub text-first : {k : ℕ} {t : List ℕ} → f ≡ Some k → t ≡ string_bytes s k → t ≡ text_of (text_in s f)
  unfolding text_of text_in
  text-first q x = x ∙ sym (rw q)

some-own : {d t : Datatype} → Some d ≡ Some t → d ≡ t
some-own e = cc

none-some {ℓ} : {X : Type ℓ} {t : Datatype} → None ≡ Some t → X
none-some e = let z : ◌≡◌ {A = ℕ} 0 1 = cc in absurd (omega arith)

module _ (s : List ℕ) (at : ℕ) (d : Datatype) (r : FormatRead) where
  -- a format that is given
  module _ (k : ℕ) {b : Bool} (p : b ≡ is_string_at s k) where
    abbrev Formed : Type 0
    Formed = ReadsFormat s at (Some d) (Some k) r

    pub format-other : b ≡ false → r.told ≡ Some (wrong_kind k) → Formed
    unfolding format_faults
    format-other x t = record {
      told = t ∙ kind-other k _ p x;
      kept = λ c e n. told-not t n;
    }

    module _ (x : b ≡ true) {c : Bool} (y : c ≡ is_kept d) where
      -- not kept
      pub format_any : c ≡ false → r.told ≡ None → r.kept ≡ Some NotKept → Formed
      unfolding format_faults given_faults least text_of text_in
      format_any z e q =
          let h : is_kept d ≡ false = sym y ∙ z in
          record {
            told = e ∙ kind-right k _ p x (rw h);
            kept = λ c o m. ap (λ (g : Option Format). text_of (kept_bytes (string_bytes s k) g)) q ∙ sym (ap text_of (kept-not c (string_bytes s k) (ap is_kept (sym (some-own o)) ∙ h)));
          }

      -- kept
      module _ (z : c ≡ true) where
        kept_it : is_kept d ≡ true
        kept_it = sym y ∙ z

        pub format_read : JudgesString s d k r → Formed
        unfolding format_faults given_faults format_rule text_of text_in
        format_read v = record {
          told = kind-right k _ p x (v.told ∙ ap (λ (g : Bool). least (given_faults g d s k)) (sym kept_it));
          kept = λ c o m.
              let f : is_format d (string_bytes s k) ≡ true = rule-kept (is_format d (string_bytes s k)) _ (no-faults s k (format_rule d k) (least-nothing _ (sym v.told ∙ m))).1 in
              ap (λ (g : Option Format). text_of (kept_bytes (string_bytes s k) g)) (v.kept m) ∙ sym (ap text_of (ap (λ (e : Datatype). kept_format e (Some (string_bytes s k))) (sym (some-own o)) ∙ kept_whole d (string_bytes s k) kept_it f));
        }

        pub format-plain : {t : List ℕ} {v : Bool} → t ≡ raw_bytes s k → v ≡ is_plain (raw_bytes s k) → v ≡ true → JudgesFormat (format_rule d k t) r → Formed
        format-plain {t} {v} u i j w =
            format_read (record { told = w.told ∙ (ap (λ (l : List ℕ). least (format_rule d k l)) u ∙ sym (ap least (plain-faults s k (sym i ∙ j) (format_rule d k)))); kept = w.kept })

  -- none is given
  module _ (z : kept_bytes [] r.kept ≡ kept_format d None) {v : Bool} (w : v ≡ is_some (kept_bytes [] r.kept)) where
    lacks : is_some (when_missing d) ≡ v
    unfolding kept_format
    lacks = sym (w ∙ ap is_some z)

    pub format-missing : {e : ℕ} → v ≡ false → e ≡ close_at s at → r.told ≡ Some (missing e) → ReadsFormat s at (Some d) None r
    unfolding format_faults ◌otherwise◌ least earlier
    format-missing n x t = record {
      told = t ∙ rw (lacks ∙ n, x);
      kept = λ c q m. told-not t m;
    }

    pub format_default : v ≡ true → r.told ≡ None → ReadsFormat s at (Some d) None r
    unfolding format_faults ◌otherwise◌ least text_of text_in
    format_default n t = record {
      told = t ∙ rw (lacks ∙ n);
      kept = λ c q m. ap text_of (z ∙ ap (λ (t : Datatype). kept_format t None) (some-own q));
    }

module _ (s : List ℕ) (at : ℕ) {n : Option Datatype} {f : Option ℕ} (r : FormatRead) where
  -- without a datatype
  pub format_kind : n ≡ None → r.told ≡ least (field_faults Text s f) → ReadsFormat s at n f r
  unfolding format_faults
  format_kind q t = rw q (record { told = t; kept = λ c e m. none-some e })

  pub format_by : {d : Datatype} {g : Option ℕ} → n ≡ Some d → f ≡ g → ReadsFormat s at (Some d) g r → ReadsFormat s at n f r
  format_by q e w = rw (q, e) w

-- ---- what is told of several fields

module _ (s : List ℕ) (seen : List ℕ) {f g : Option ℕ} {a b r : Option Fault} (e : r ≡ earlier a b) where
  pub texts : f ≡ field_at seen 0 → a ≡ least (field_faults Text s f) → g ≡ field_at seen 2 → b ≡ least (field_faults Text s g) → r ≡ least (text_faults s seen)
  unfolding text_faults
  texts p x q y = e ∙ rw (sym p, sym q) (join-told _ _ x y)

  pub flags : f ≡ field_at seen 10 → a ≡ least (field_faults Flag s f) → g ≡ field_at seen 11 → b ≡ least (field_faults Flag s g) → r ≡ least (flag_faults s seen)
  unfolding flag_faults
  flags p x q y = e ∙ rw (sym p, sym q) (join-told _ _ x y)

-- ---- the whole property

module _ (fs : List Fault) (want : Property) (s : List ℕ) (j : Judged) where
  -- where something is told, nothing need be declared
  pub judge-told : {x : Fault} → j.told ≡ Some x → Some x ≡ least fs → Judges fs want s j
  judge-told e q = record { told = e ∙ q; declares = λ n. told-not e n }

pub judge-other : (s : List ℕ) (k : ℕ) (want : Property) (j : Judged) {b : Bool} → b ≡ is_object s k → b ≡ false → j.told ≡ Some (wrong_kind k) → Judges (property_faults s k) want s j
unfolding property_faults
judge-other s k want j p x e = judge-told _ want s j e (kind-other k _ p x)

pub judge-object : (s : List ℕ) (k : ℕ) (want : Property) (j : Judged) {b : Bool} → b ≡ is_object s k → b ≡ true → Judges (property_field_faults s k) want s j → Judges (property_faults s k) want s j
unfolding property_faults
judge-object s k want j p x w = record { told = w.told ∙ kind-right k _ p x refl; declares = w.declares }

-- the kept format, where there is a datatype
kept_by : (s : List ℕ) (at : ℕ) (o : Option Datatype) {g : Option ℕ} (r : FormatRead) → is_some o ≡ true → ReadsFormat s at o g r → r.told ≡ None
    → text_of (kept_bytes (text_of (text_in s g)) r.kept) ≡ text_of (kept_format (type_of o) (text_in s g))
unfolding type_of
kept_by s at None r n w e = absurd (false≢true n)
kept_by s at (Some d) r n w e = w.kept d refl e

-- by what was seen of the known fields
module _ (s : List ℕ) (node id k : ℕ) (m : fields.Known) (w : Knows owner.Property s k m) where
  texts_are : {a : Option Fault} → a ≡ least (text_faults s m.seen) → a ≡ least (field_faults Text s (field s k name) ++ field_faults Text s (field s k unit))
  unfolding text_faults known_name
  texts_are e = e ∙ rw (w.fields 0 (omega arith), w.fields 2 (omega arith))

  flags_are : {a : Option Fault} → a ≡ least (flag_faults s m.seen) → a ≡ least (field_faults Flag s (field s k settable) ++ field_faults Flag s (field s k retained))
  unfolding flag_faults known_name
  flags_are e = e ∙ rw (w.fields 10 (omega arith), w.fields 11 (omega arith))

  module _ (d : TypeRead) {f : Option ℕ} (sf : f ≡ field_at m.seen 9) (rd : ReadsType (datatype_faults s k f) (datatype_in s f) d) where
    is-datatype : f ≡ field s k datatype
    unfolding known_name
    is-datatype = sf ∙ w.fields 9 (omega arith)

    type-told : d.told ≡ least (datatype_faults s k (field s k datatype))
    type-told = rd.told ∙ ap (λ (h : Option ℕ). least (datatype_faults s k h)) is-datatype

    type_in : d.named ≡ datatype_in s (field s k datatype)
    type_in = rd.named ∙ ap (datatype_in s) is-datatype

    module _ (r : FormatRead) {g : Option ℕ} (sg : g ≡ field_at m.seen 7) (rf : ReadsFormat s k d.named g r) where
      is-format : g ≡ field s k format
      unfolding known_name
      is-format = sg ∙ w.fields 7 (omega arith)

      reads-format : ReadsFormat s k (datatype_in s (field s k datatype)) (field s k format) r
      reads-format = rw (sym type_in, sym is-format) rf

      module _ {texts flags first second third told : Option Fault} (et : texts ≡ least (text_faults s m.seen)) (ef : flags ≡ least (flag_faults s m.seen))
          (e1 : first ≡ earlier m.told d.told) (e2 : second ≡ earlier texts r.told) (e3 : third ≡ earlier second flags) (e4 : told ≡ earlier first third) where
        all_told : told ≡ least (property_field_faults s k)
        unfolding property_field_faults
        all_told = e4 ∙ rw (e3, e2, e1, w.told, type-told, reads-format.told, texts_are et, flags_are ef) (simp (least-join, earlier_assoc))

        module _ (n : told ≡ None) where
          parts : (first ≡ None) × (third ≡ None)
          parts = earlier-nothing first third (sym e4 ∙ n)

          no-fault : datatype_faults s k (field s k datatype) ≡ []
          no-fault = least-nothing _ (sym type-told ∙ (earlier-nothing m.told d.told (sym e1 ∙ parts.0)).1)

          format-none : r.told ≡ None
          format-none = (earlier-nothing texts r.told (sym e2 ∙ (earlier-nothing second flags (sym e3 ∙ parts.1)).0)).1

          keeps_it : text_of (kept_bytes (text_of (text_in s (field s k format))) r.kept) ≡ text_of (kept_format (type_of (datatype_in s (field s k datatype))) (text_in s (field s k format)))
          keeps_it = kept_by s k (datatype_in s (field s k datatype)) r (has-datatype s k (field s k datatype) no-fault) reads-format format-none

        pub judges : {t : Datatype} {a b : Bool} {h i : Option ℕ} → t ≡ type_of d.named → h ≡ field_at m.seen 10 → a ≡ flag_in s false h → i ≡ field_at m.seen 11 → b ≡ flag_in s true i
            → Judges (property_field_faults s k) (property_at s node id k) s (record { told = told; entry = record { node = node; id = id; datatype = t; format = g; kept = r.kept; settable = a; retained = b } })
        unfolding content property_at known_name
        judges {t} {a} {b} {h} {i} x y z u v = record {
          told = all_told;
          declares = λ n. rw (is-format, keeps_it n, x, type_in, z, y, v, u, w.fields 10 (omega arith), w.fields 11 (omega arith));
        }
