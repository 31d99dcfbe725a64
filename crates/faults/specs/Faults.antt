-- Faults of a text, each with its byte place and its kind, which has the paper's number, and the one that is told.
use Rattle.std.specs.Prelude.{ℕ, List, [], ◌∷◌, Bool, true, false, ◌&&◌, ◌||◌, eqb, ltb, leb, Option, None, Some}
use Rattle.faults.specs.declared.Fault.{Fault}
use Rattle.faults.specs.declared.FaultKind.{FaultKind}

-- Paper 02, K1: "21 not JSON, too deep or too long, 22 wrong kind, 23 missing, 24 repeated, 25 other rule"
abbrev pub fault_number : FaultKind → ℕ
fault_number FaultKind.NotJson = 21
fault_number FaultKind.WrongKind = 22
fault_number FaultKind.FieldMissing = 23
fault_number FaultKind.NameRepeated = 24
fault_number FaultKind.RuleBroken = 25

-- "with the byte place": a fault is a place and what is wrong there
abbrev pub fault : (place : ℕ) → FaultKind → Fault
fault p k = record { place = p; kind = k }

abbrev pub not_json : ℕ → Fault
not_json p = fault p FaultKind.NotJson

abbrev pub wrong_kind : ℕ → Fault
wrong_kind p = fault p FaultKind.WrongKind

abbrev pub missing : ℕ → Fault
missing p = fault p FaultKind.FieldMissing

abbrev pub repeated : ℕ → Fault
repeated p = fault p FaultKind.NameRepeated

-- "any other rule of document 01 broken (place of the string, number or ID at fault ..)"
abbrev pub other_rule : ℕ → Fault
other_rule p = fault p FaultKind.RuleBroken

-- the fault of a rule: none where the test holds
infix 10 ◌otherwise◌
unfoldable pub ◌otherwise◌ : Bool → Fault → List Fault
true otherwise f = []
false otherwise f = f ∷ []

-- "the first fault in the order above is told, at one place the lower number": of two faults, whether the first comes before the second
unfoldable pub is_earlier : Fault → Fault → Bool
is_earlier f g = ltb f.place g.place || (eqb f.place g.place && leb (fault_number f.kind) (fault_number g.kind))

unfoldable pub earlier : Option Fault → Option Fault → Option Fault
earlier None b = b
earlier (Some f) None = Some f
earlier (Some f) (Some g) = elim (is_earlier f g) [ true ↦ Some f | false ↦ Some g ]

-- what is told of a list of faults: the least of them, in whatever order they stand
unfoldable pub least : List Fault → Option Fault
least [] = None
least (f ∷ fs) = earlier (Some f) (least fs)
