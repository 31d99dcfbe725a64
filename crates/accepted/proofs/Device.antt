-- A device: its faults against its tests.
use Rattle.std.specs.Prelude.{None, Some, Err, Ok, Result, Option}
use Prim.Native.Nat.{ℕ, zero, suc, ◌-◌, ◌≤◌, ◌<◌}
use native.Mathlib.Omega.{arith}
use mathlib.Core.Path.{◌≡◌, refl, ◌∙◌}
use mathlib.Core.List.{List, [], ◌∷◌, ◌++◌, map}
use mathlib.Core.Bool.{Bool, true, false, cond, not, ◌&&◌, ◌||◌, false≢true}
use lib.ListN.{length, take, drop, get_or}
use lib.Seq.{drop-cons}
use lib.Dec.{eqb, leb}
use lib.IntN.{ℤ}
use borrow.Author.Tests.{eqb-false}
use Rattle.abnf.specs.Accepts.{in_range, starts, accepts}
use Rattle.text.specs.Bytes.{eq_bytes, slice}
use Rattle.text.specs.Ids.{is_id}
use Rattle.text.specs.Utf8.{is_utf8}
use Rattle.text.specs.Utf8Place.{utf8_place}
use Rattle.text.proofs.Bytes.{both, and_both, or_cases, in_range_lem}
use Rattle.numbers.specs.Grammar.{integer-text}
use Rattle.numbers.specs.Integer.{value, is_64_bit, integer}
use Rattle.json_text.specs.Bytes.{byte, ws}
use Rattle.json_text.specs.Number.{is_digit}
use Rattle.json_text.specs.Value.{value_at, document_of}
use Rattle.json_grammar.specs.Place.{bad_place, place_unless, bad_places}
use Rattle.json_grammar.proofs.Ends.{Past, value-past}
use Rattle.faults.specs.declared.Fault.{Fault}
use Rattle.faults.specs.Faults.{not_json, missing, other_rule}
use Rattle.faults.proofs.Laws.{both-none}
use Rattle.fields.specs.Values.{value_bytes, is_string_at, is_number_at, is_object}
use Rattle.fields.specs.Fields as first
use Rattle.fields.specs.Fields.{close_at}
use Rattle.fields.specs.Names.{known_names}
use Rattle.fields.specs.declared.Kind.TheVariants.{Text, Object, Ids, Texts}
use Rattle.fields.specs.declared.Owner.TheVariants as owner
use Rattle.description.specs.Names.{homie, version, nodes, name, type, children, root, parent, extensions}
use Rattle.description.specs.Description.{is_homie, is_number, homie_rule, homie_faults, version_faults, other_faults, relative_faults, root_faults, parent_rule, parent_faults, device_field_faults, device_faults, json_faults, faults}
use Rattle.accepted.specs.Once.{decoded, Once, holds, field, is_present, optional, required}
use Rattle.accepted.specs.Rules.{is_text, array_of, other_rules, is_relative, parent_rules, device_field_rules, device_rules, is_end, rules}
use Rattle.accepted.proofs.Same.{Same, same_none, same_some, rule, none_both, parts_hold, holds_parts, each_holds, Agree, never, alone, last, then, join, kind, kind_with}
use Rattle.accepted.proofs.Strings.{of-string, of-string_and}
use Rattle.accepted.proofs.Once.{Alike, absent, one}
use Rattle.accepted.proofs.Fields.{text, object, ids, texts, held, present, optional-once, required-once, single, done, none_twice, known, fields_agree}
use Rattle.accepted.proofs.Nodes.{of-nodes}

-- ---- a number without fraction or exponent is a number

-- the first byte, by what the grammar asks of it
either : (a b x y : Bool) → ◌≡◌ {A = Bool} (elim (elim a as (λ z. Bool) [ true ↦ x | false ↦ false ]) [ true ↦ true | false ↦ elim b [ true ↦ y | false ↦ false ] ]) true → (a || b) ≡ true
either true b x y h = refl
either false true x y h = refl
either false false x y h = h

first_byte : (t : List ℕ) → accepts integer-text t ≡ true → (eqb (get_or t 0 256) 45 || is_digit (get_or t 0 256)) ≡ true
unfolding accepts starts is_digit
first_byte [] h = absurd (false≢true h)
first_byte (b ∷ t) h = both (eqb b 45)
    (λ e. rw e)
    (λ e. rw e (or_cases (in_range 45 45 b) (in_range 48 57 b) (either (in_range 45 45 b) (in_range 48 57 b) _ _ h)
    (λ q. absurd (eqb-false b 45 e (let p = in_range_lem 45 45 b q in omega arith)))
    (λ q. q)))

is_read : (b : Bool) (z : ℤ) → is_number (cond b (Some z) None) ≡ true → b ≡ true
unfolding is_number
is_read true z e = refl
is_read false z e = e

take-first : (n : ℕ) (t : List ℕ) → 0 < n → get_or (take n t) 0 256 ≡ get_or t 0 256
take-first zero t h = absurd (omega arith)
take-first (suc n) [] h = refl
take-first (suc n) (b ∷ t) h = refl

module _ (s : List ℕ) (k : ℕ) where
  value-first : (e : ℕ) → k < e → e ≤ length s → get_or (slice s k e) 0 256 ≡ byte s k
  unfolding byte
  value-first e h l = take-first (e - k) (drop k s) (omega arith) ∙ rw (drop-cons s k 256 (omega arith))

  is-number : is_number (integer (value_bytes s k)) ≡ true → is_number_at s k ≡ true
  unfolding is_number_at value_bytes integer is_digit
  is-number h = go (value_at 16 s k) refl (value-past s 16 k)
    where
      minus_or-digit : (t : List ℕ) → is_number (integer t) ≡ true → (eqb (get_or t 0 256) 45 || is_digit (get_or t 0 256)) ≡ true
      minus_or-digit t q = first_byte t (and_both (accepts integer-text t) (is_64_bit (value t)) (is_read (accepts integer-text t && is_64_bit (value t)) (value t) q)).0

      go : (r : Result ℕ ℕ) → value_at 16 s k ≡ r → Past s k r → is_number_at s k ≡ true
      go (Ok e) q p = rw (value-first e p.0 p.1) at (minus_or-digit (slice s k e) (rw (q, value_bytes) at h))
      go (Err e) q p = absurd (false≢true (minus_or-digit [] (rw (q, value_bytes) at h)))

-- ---- the fields

module _ (s : List ℕ) (at : ℕ) where
  of-homie : {f : Once} {g : Option ℕ} → Alike f g → Same (homie_faults s at g) (required (is_text is_homie decoded s) f)
  unfolding homie_faults homie_rule required is_text
  of-homie absent = same_some (missing (close_at s at)) []
  of-homie (one k) = kind k (is_string_at s k) (of-string s k (λ t. rule (is_homie t) (other_rule k)))

  of-version : {f : Once} {g : Option ℕ} → Alike f g → Same (version_faults s at g) (required (λ k. is_number (integer (value_bytes s k))) f)
  unfolding version_faults required
  of-version absent = same_some (missing (close_at s at)) []
  of-version (one k) =
      let number = is_number (integer (value_bytes s k)) in
      let a = kind k (is_number_at s k) (rule number (other_rule k)) in
      (λ e. (and_both (is_number_at s k) number (a.0 e)).1, λ e. a.1 (rw (is-number s k e, e)))

both_hold : {fs gs : List Fault} {a b : Bool} → Same fs a → Same gs b → Same (fs ++ gs) (a && b)
both_hold {fs} {gs} {a} {b} p q = (
  λ e. let n = both-none fs gs e in rw (p.0 n.0, q.0 n.1),
  λ e. let h = and_both a b e in none_both fs gs (p.1 h.0) (q.1 h.1),
)

module _ (own s : List ℕ) where
  of_relative : (k : ℕ) (t : List ℕ) → Same (relative_faults own k t) (is_relative own t)
  unfolding relative_faults is_relative
  of_relative k t = both_hold (rule (is_id t) (other_rule k)) (rule (not (eq_bytes t own)) (other_rule k))

  of-root : {f : Once} {g : Option ℕ} → Alike f g → Same (root_faults own s g) (optional (is_text (is_relative own) decoded s) f)
  unfolding root_faults optional is_text
  of-root absent = same_none
  of-root (one k) = kind k (is_string_at s k) (of-string s k (of_relative k))

  of-parent : {d : Once} {e : Option ℕ} → Alike d e → {f : Once} {g : Option ℕ} → Alike f g → Agree (parent_faults own s e g) (parent_rules own decoded s d f)
  unfolding parent_faults parent_rule parent_rules optional is_text is_present holds
  of-parent a absent = alone same_none (true ∷ []) refl
  of-parent {d} {e} a (one k) = rw (present a) (kind_with k (is_string_at s k) (of-string_and s k (first.is_present e) (other_rule k) (of_relative k)))

  of_device : (at : ℕ) → Agree (device_faults own s at) (device_rules own decoded s at)
  unfolding device_faults device_field_faults other_faults device_rules device_field_rules other_rules parent_rules known_names
  of_device at = fields_agree owner.Device s at
      (λ t. let a = known owner.Device s at t in
      then (of-homie s at a.0)
      (then (of-version s at a.1.0)
      (join (then (held Object s (is_object s) (object s) a.1.1.0)
      (then (held Text s (is_string_at s) (text s) a.1.1.1.0)
      (then (held Text s (is_string_at s) (text s) a.1.1.1.1.0)
      (then (held Ids s (array_of (is_text is_id decoded s) s) (ids s) a.1.1.1.1.1.0)
      (last (held Texts s (array_of (is_string_at s) s) (texts s) a.1.1.1.1.1.1.1.1.0))))))
      (then (of-root a.1.1.1.1.1.1.0)
      (join (of-parent a.1.1.1.1.1.1.0 a.1.1.1.1.1.1.1.0)
      (of-nodes s a.1.1.0))))))
      (λ e. let h = each_holds (device_field_rules own decoded s at) e in none_twice owner.Device s at
      (single (required-once (is_text is_homie decoded s) (field decoded s at homie) h.0)
      (single (required-once (λ k. is_number (integer (value_bytes s k))) (field decoded s at version) h.1.0)
      (single (optional-once (is_object s) (field decoded s at nodes) h.1.1.0)
      (single (optional-once (is_string_at s) (field decoded s at name) h.1.1.1.0)
      (single (optional-once (is_string_at s) (field decoded s at type) h.1.1.1.1.0)
      (single (optional-once (array_of (is_text is_id decoded s) s) (field decoded s at children) h.1.1.1.1.1.0)
      (single (optional-once (is_text (is_relative own) decoded s) (field decoded s at root) h.1.1.1.1.1.1.1.0)
      (single (optional-once (is_text (is_relative own) decoded s) (field decoded s at parent) h.1.1.1.1.1.1.1.1.0)
      (single (optional-once (array_of (is_string_at s) s) (field decoded s at extensions) h.1.1.1.1.1.1.0) done))))))))))

-- ---- the whole text

of_json : (q : Result ℕ ℕ) (u n : Bool) (p : ℕ) → Agree (map not_json (bad_place q ++ (place_unless u p ++ place_unless n 8192))) (n ∷ u ∷ is_end q ∷ [])
unfolding bad_place place_unless is_end holds
of_json (Ok e) true true p = alone same_none (true ∷ true ∷ []) refl
of_json (Ok e) true false p = never (not_json 8192) [] refl
of_json (Ok e) false true p = never (not_json p) [] refl
of_json (Ok e) false false p = never (not_json p) (not_json 8192 ∷ []) refl
of_json (Err e) u n p = never (not_json e) _ (third-fails n u)
  where
    third-fails : (a b : Bool) → holds (a ∷ b ∷ false ∷ []) ≡ false
    third-fails false b = refl
    third-fails true false = refl
    third-fails true true = refl

-- faults that are looked for only where there are none before
first_then : (fs gs : List Fault) {ts us : List Bool} → Agree fs ts → Agree gs us → Agree (elim fs [ [] ↦ gs | f ∷ rest ↦ f ∷ rest ]) (ts ++ us)
first_then [] gs {ts} {us} a b = record { tests = λ e. holds_parts ts us (a.tests refl) (b.tests e); faults = λ e. b.faults (parts_hold ts us e).1 }
first_then (f ∷ fs) gs {ts} {us} a b = record { tests = λ e. absurd (false≢true ((same_some f fs).0 e)); faults = λ e. a.faults (parts_hold ts us e).0 }

pub agree : (own s : List ℕ) → Agree (faults own s) (rules decoded own s)
unfolding faults json_faults bad_places rules
agree own s = first_then (json_faults s) (device_faults own s (ws s 0)) (of_json (document_of s) (is_utf8 s) (leb (length s) 8192) (utf8_place s)) (of_device own s (ws s 0))
