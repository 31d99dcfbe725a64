-- A property without a fault is valid.
use Rattle.std.specs.Prelude.{Option, None, Some}
use Prim.Native.Nat.{ℕ, ◌≤◌}
use mathlib.Core.Path.{◌≡◌, refl, sym, ap, ◌∙◌}
use mathlib.Core.List.{List, []}
use mathlib.Core.Bool.{Bool, true, false≢true}
use lib.ListN.{length}
use Rattle.text.specs.Ids.{is_id}
use Rattle.text.proofs.Bytes.{both}
use Rattle.fields.specs.Values.{string_bytes, is_string_at, is_object}
use Rattle.fields.specs.Fields.{field, text_in, field_faults, name_faults}
use Rattle.fields.specs.declared.Kind.TheVariants.{Text}
use Rattle.fields.specs.declared.Owner.TheVariants as owner
use Rattle.ranges.specs.Ranges.{is_some}
use Rattle.payload.specs.Formats.{is_format, when_missing, kept_format}
use Rattle.payload.specs.declared.Datatype.{Datatype}
use Rattle.payload.proofs.Theorems.{kept-valid, kept-short}
use Rattle.properties.specs.Names.{datatype, name, unit, format}
use Rattle.properties.specs.Property.{datatype_in, datatype_faults, format_rule, is_kept, given_faults, format_faults, property_field_faults, property_faults, type_of, text_of, property_at}
use Rattle.properties.specs.Valid.{Valid}
use Rattle.faults.proofs.Laws.{both-none, rule-kept}
use Rattle.fields.proofs.Decoded.{no-faults}
use Rattle.properties.proofs.Rules.{kind-none, has-datatype, kept_whole, kept-not}

keeps : (s : List ℕ) (at : ℕ) (d : Datatype) (f : Option ℕ) → format_faults s at (Some d) f ≡ [] → is_some (kept_format d (text_in s f)) ≡ true
unfolding format_faults given_faults format_rule text_in kept_format
keeps s at d None e = rule-kept (is_some (when_missing d)) _ e
keeps s at d (Some k) e =
    let g = (kind-none (is_string_at s k) k _ e).1 in
    both (is_kept d)
    (λ q. ap is_some (kept_whole d (string_bytes s k) q (rule-kept (is_format d (string_bytes s k)) _ (no-faults s k (format_rule d k) (sym (ap (λ (b : Bool). given_faults b d s k) q) ∙ g)).1)))
    (λ q. ap is_some (kept-not d (string_bytes s k) q))

record Kept (d : Datatype) (g : Option (List ℕ)) : Type 0 where
  valid : is_format d (text_of (kept_format d g)) ≡ true
  short : length (text_of (kept_format d g)) ≤ 64

kept : (d : Datatype) (g : Option (List ℕ)) → is_some (kept_format d g) ≡ true → Kept d g
unfolding text_of
kept d g h = go (kept_format d g) refl h
  where
    go : (o : Option (List ℕ)) → kept_format d g ≡ o → is_some o ≡ true → Kept d g
    go None e p = absurd (false≢true p)
    go (Some f) e p = record { valid = rw e (kept-valid d g f e); short = rw e (kept-short d g f e) }

fitting : (s : List ℕ) (at : ℕ) (o : Option Datatype) (f : Option ℕ) → is_some o ≡ true → format_faults s at o f ≡ [] → Kept (type_of o) (text_in s f)
unfolding type_of
fitting s at None f n h = absurd (false≢true n)
fitting s at (Some d) f n h = kept d (text_in s f) (keeps s at d f h)

field-none : (s : List ℕ) (k : ℕ) → property_field_faults s k ≡ [] → Kept (type_of (datatype_in s (field s k datatype))) (text_in s (field s k format))
unfolding property_field_faults
field-none s k e =
    let a = (both-none (name_faults owner.Property s k) _ e).1 in
    let b = both-none (datatype_faults s k (field s k datatype)) _ a in
    let c = (both-none (field_faults Text s (field s k name)) _ b.1).1 in
    let d = (both-none (field_faults Text s (field s k unit)) _ c).1 in
    fitting s k (datatype_in s (field s k datatype)) (field s k format)
    (has-datatype s k (field s k datatype) b.0)
    (both-none (format_faults s k (datatype_in s (field s k datatype)) (field s k format)) _ d).0

pub valid_at : (s : List ℕ) (node id k : ℕ) → is_id (string_bytes s node) ≡ true → is_id (string_bytes s id) ≡ true → property_faults s k ≡ [] → Valid (property_at s node id k)
unfolding property_faults property_at
valid_at s node id k n i h =
    let f = field-none s k (kind-none (is_object s k) k _ h).1 in
    record { node = n; id = i; format = f.valid; short = f.short }
