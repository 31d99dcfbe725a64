-- Descriptions: what is shown of what they declare. A place is where a string's opening quote stands in the text.
use Rattle.faults.specs.declared.Fault.{Fault}
use Rattle.faults.specs.Faults.{fault, fault_number}
use Rattle.std.specs.Prelude.{ℕ, zero, suc, ◌^◌, List, [], ◌∷◌, Bool, cond, length, take, ltb, None, Option, Some}
use Rattle.answer.specs.Answer.{placed}
use Rattle.numbers.specs.Whole.{stands}
use Rattle.payload.specs.Datatypes.{code_of}
use Rattle.payload.specs.declared.Format.{Format}
use Rattle.payload.specs.declared.Format.TheVariants.{AsGiven, Colon, FalseTrue, NotKept}
use Rattle.fields.specs.Fields.{text_in}
use Rattle.properties.specs.Property.{text_of}
use Rattle.properties.specs.declared.Entry.{Entry}
use Rattle.description.specs.declared.Description.{Description}
use Rattle.reply.specs.Reply.{Reply, says, refuses, refusal_code, fit_place, bit, twos_complement}

-- 1 and a field's place; 0 and 0 where it has none
unfoldable pub presence : Option ℕ → ℕ
presence None = 0
presence (Some k) = 1

unfoldable pub place : Option ℕ → ℕ
place None = 0
place (Some k) = k

-- Paper 02, K1, "with the byte place": what is told of a description, or else a reply
unfoldable pub unless_told : Option Fault → Reply → Reply
unless_told None x = x
unless_told (Some f) x = refuses (refusal_code (placed (fault_number f.kind) f.place))

-- the same with its place as there is room for it
unfoldable pub fit_told : Option Fault → Option Fault
fit_told None = None
fit_told (Some f) = Some (fault (fit_place f.place) f.kind)

abbrev pub fit_description : Description → Description
fit_description d = record { told = fit_told d.told; version = d.version; root = d.root; parent = d.parent; properties = d.properties }

-- Paper 01, "The table": "from its description: root, parent, version, properties": the version as an `int64_t`, the root, the parent, how many properties
unfoldable pub show_description : Description → Reply
show_description d = unless_told d.told (says (twos_complement (stands (2 ^ 63) d.version) ∷ presence d.root ∷ place d.root ∷ presence d.parent ∷ place d.parent ∷ d.properties.n ∷ []))

-- whether a format with bytes stands in the text
unfoldable pub is_given : List ℕ → Option ℕ → Bool
is_given s f = ltb 0 (length (text_of (text_in s f)))

-- What is kept of a format, as for one that is judged: as it is given where it is. Of two cases that keep the same bytes (a given `:` and none, say) the
-- promise leaves open which is shown. Each format of a valid description is kept as one of the four; `None` reads as one that is not kept
unfoldable pub kept_number : Option Format → Bool → ℕ
kept_number None given = 3
kept_number (Some AsGiven) given = cond given 0 3
kept_number (Some Colon) given = 1
kept_number (Some FalseTrue) given = 2
kept_number (Some NotKept) given = 3

-- the place of a format that is kept as it is given
unfoldable pub format_place : Option Format → Bool → Option ℕ → ℕ
format_place None given f = 0
format_place (Some AsGiven) given f = cond given (place f) 0
format_place (Some Colon) given f = 0
format_place (Some FalseTrue) given f = 0
format_place (Some NotKept) given f = 0

-- the node's ID, its own, its datatype, what is kept of its format, the format where it is kept as given, settable, retained
unfoldable pub entry_values : List ℕ → Entry → List ℕ
entry_values s e = e.node ∷ e.id ∷ code_of e.datatype ∷ kept_number e.kept (is_given s e.format) ∷ format_place e.kept (is_given s e.format) e.format ∷ bit e.settable ∷ bit e.retained ∷ []

-- 3: "property number not below the count"
unfoldable pub entry_at : List ℕ → List Entry → ℕ → Reply
entry_at s [] i = refuses 3
entry_at s (e ∷ es) zero = says (entry_values s e)
entry_at s (e ∷ es) (suc i) = entry_at s es i

-- the i-th property of a description of that text
unfoldable pub show_declared : List ℕ → Description → ℕ → Reply
show_declared s d i = unless_told d.told (entry_at s (take d.properties.n d.properties.items) i)
