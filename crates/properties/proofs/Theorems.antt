-- What this crate promises beyond its contracts.
use Rattle.std.specs.Prelude.{Some}
use Prim.Native.Nat.{ℕ}
use mathlib.Core.Path.{◌≡◌}
use mathlib.Core.List.{List, []}
use mathlib.Core.Bool.{true, false}
use Rattle.text.specs.Ids.{is_id}
use Rattle.fields.specs.Values.{string_bytes, is_string_at}
use Rattle.fields.specs.Fields.{of_kind}
use Rattle.payload.specs.declared.Datatype.{Datatype}
use Rattle.properties.specs.Property.{Property, is_kept, given_faults, format_faults, property_faults, property_at, insert_all}
use Rattle.properties.specs.Valid.{Valid, Apart, Arranged}
use Rattle.properties.proofs.Valid.{valid_at}
use Rattle.properties.proofs.Order.{arranged}

-- "Formats of other types are not kept and may be any string.": with half a surrogate pair, too
pub any-string : (s : List ℕ) (at k : ℕ) (d : Datatype) → is_kept d ≡ false → is_string_at s k ≡ true → format_faults s at (Some d) (Some k) ≡ []
unfolding format_faults given_faults of_kind
any-string s at k d e h = rw (h, e)

-- a property that has no fault, named by two IDs
pub valid : (s : List ℕ) (node id k : ℕ) → is_id (string_bytes s node) ≡ true → is_id (string_bytes s id) ≡ true → property_faults s k ≡ [] → Valid (property_at s node id k)
valid = valid_at

-- "by node ID, then property ID": properties of which no two have the same two IDs are put in that order, all of them
pub in_order : (ps : List Property) → Apart ps → Arranged ps (insert_all ps [])
in_order = arranged
