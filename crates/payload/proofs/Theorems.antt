-- What this crate promises beyond its contracts.
use Rattle.std.specs.Prelude.{Option, Some}
use Prim.Native.Nat.{ℕ, ◌≤◌}
use mathlib.Core.Path.{◌≡◌, sym}
use mathlib.Core.List.{List}
use mathlib.Core.Bool.{true}
use lib.ListN.{length}
use Rattle.payload.specs.declared.Datatype.{Datatype}
use Rattle.payload.specs.Datatypes.{code_of, datatype_at, name_of, datatype_named}
use Rattle.payload.specs.Formats.{is_format, kept_format}
use Rattle.payload.specs.Payloads.{is_payload, is_payload_of}
use Rattle.payload.specs.Examples.{examples, all}
use Rattle.payload.proofs.Examples.{examples_hold}
use Rattle.payload.proofs.Judging.{code-back, name_back, payload-given}
use Rattle.payload.proofs.Formats as formats

-- "`datatype` (required, one of the nine above)": each has a name of its own
pub names : (d : Datatype) → datatype_named (name_of d) ≡ Some d
names = name_back

-- and a code of its own
pub codes : (d : Datatype) → datatype_at (code_of d) ≡ d
codes = code-back

-- a kept format is valid for its datatype: payloads are never refused for their property's format
pub kept-valid : (d : Datatype) (g : Option (List ℕ)) (f : List ℕ) → kept_format d g ≡ Some f → is_format d f ≡ true
kept-valid = formats.kept-valid

-- "Formats, at most 64 bytes where kept"
pub kept-short : (d : Datatype) (g : Option (List ℕ)) (f : List ℕ) → kept_format d g ≡ Some f → length f ≤ 64
kept-short = formats.kept-short

-- judged by what is kept of a given format, a payload is valid exactly where it is by the format itself
pub given : (d : Datatype) (f s : List ℕ) → is_payload_of d (Some f) s ≡ is_payload d f s
given d f s = sym (payload-given d f s)

-- "Those with * are proved over the definitions as a single list with one theorem"
pub known-examples : all examples ≡ true
known-examples = examples_hold
