-- What this crate promises beyond its contracts.
use Prim.Native.Nat.{ℕ}
use mathlib.Core.Path.{◌≡◌}
use mathlib.Core.List.{List, []}
use mathlib.Core.Bool.{true}
use Rattle.json_text.specs.Members.{Member}
use Rattle.json_text.specs.Strings.{raw_bytes, is_plain}
use Rattle.faults.specs.declared.Fault.{Fault}
use Rattle.fields.specs.Values.{string_bytes, members}
use Rattle.fields.specs.Fields.{among, entry_faults}
use Rattle.fields.proofs.Decoded.{plain-bytes}
use Rattle.fields.proofs.Names as names
use Rattle.fields.proofs.Names.{Unlike}

-- Paper 02, K4: a string without a backslash has the bytes that it is sent as
pub plain : (s : List ℕ) (k : ℕ) → is_plain (raw_bytes s k) ≡ true → string_bytes s k ≡ raw_bytes s k
plain = plain-bytes

-- Paper 02, K1: "a known field or ID repeated": where the entries of an object by ID have no fault, no two have the same name
pub once : (s : List ℕ) (at : ℕ) (value : Member → List Fault) → among (λ m. entry_faults s at (value m) m) (members s at) ≡ [] → Unlike s (members s at)
once s at value h = names.unlike s at (names.firsts s at value (members s at) h)
