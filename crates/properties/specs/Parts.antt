-- What the contracts of private functions cite: the order of two properties by places, and what is told of a property's known fields.
use Rattle.std.specs.Prelude.{ℕ, ◌≡◌, List, ◌++◌, Bool, true, ◌&&◌, ◌||◌, Option, Some, None}
use Rattle.text.specs.Bytes.{eq_bytes, less_bytes}
use Rattle.json_text.specs.Strings.{raw_bytes, is_plain}
use Rattle.faults.specs.declared.Fault.{Fault}
use Rattle.faults.specs.Faults.{least}
use Rattle.fields.specs.Values.{string_bytes}
use Rattle.fields.specs.Fields.{text_in, field_faults}
use Rattle.fields.specs.Known.{field_at}
use Rattle.fields.specs.declared.Kind.TheVariants.{Text, Flag}
use Rattle.payload.specs.Formats.{kept_format, kept_bytes}
use Rattle.payload.specs.declared.Datatype.{Datatype}
use Rattle.payload.specs.declared.Format.TheVariants.{AsGiven}
use Rattle.properties.specs.declared.TypeRead.{TypeRead}
use Rattle.properties.specs.declared.FormatRead.{FormatRead}
use Rattle.properties.specs.Property.{format_faults, text_of}

-- the flag tells that neither of two strings, as sent, has a backslash
pub record BothPlain (a b : List ℕ) (flag : Bool) : Type 0 where
  pub first : flag ≡ true → is_plain a ≡ true
  pub second : flag ≡ true → is_plain b ≡ true

-- the IDs at a and b as sent, and whether neither has a backslash
pub record Fetched (s : List ℕ) (a b : ℕ) (node id : List ℕ) (plain : Bool) : Type 0 where
  pub node-sent : node ≡ raw_bytes s a
  pub id-sent : id ≡ raw_bytes s b
  pub both : BothPlain node id plain

-- of two properties, the first with its IDs at a and b, the second at c and d, the first stands before the second
unfoldable pub stands : List ℕ → ℕ → ℕ → ℕ → ℕ → Bool
stands s a b c d = less_bytes (string_bytes s a) (string_bytes s c) || (eq_bytes (string_bytes s a) (string_bytes s c) && less_bytes (string_bytes s b) (string_bytes s d))

-- a datatype read: what is told of these faults, and what is named
pub record ReadsType (faults : List Fault) (want : Option Datatype) (r : TypeRead) : Type 0 where
  pub told : r.told ≡ least faults
  pub named : r.named ≡ want

-- a format of a datatype whose format is kept: what is told of these faults; where there is none, it is kept as given
pub record JudgesFormat (faults : List Fault) (r : FormatRead) : Type 0 where
  pub told : r.told ≡ least faults
  pub kept : r.told ≡ None → r.kept ≡ Some AsGiven

-- the format that a field gives, by the datatype; where nothing is told, what is kept of it
pub record ReadsFormat (s : List ℕ) (at : ℕ) (d : Option Datatype) (f : Option ℕ) (r : FormatRead) : Type 0 where
  pub told : r.told ≡ least (format_faults s at d f)
  pub kept : (t : Datatype) → d ≡ Some t → r.told ≡ None → text_of (kept_bytes (text_of (text_in s f)) r.kept) ≡ text_of (kept_format t (text_in s f))

unfoldable pub text_faults : List ℕ → List ℕ → List Fault
text_faults s seen = field_faults Text s (field_at seen 0) ++ field_faults Text s (field_at seen 2)

unfoldable pub flag_faults : List ℕ → List ℕ → List Fault
flag_faults s seen = field_faults Flag s (field_at seen 10) ++ field_faults Flag s (field_at seen 11)
