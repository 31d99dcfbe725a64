-- JSON's grammar to a depth, with the named rules put in.
use Rattle.std.specs.Prelude.{Result}
use Prim.Native.Nat.{ℕ, suc}
use mathlib.Core.Path.{◌≡◌, refl}
use mathlib.Core.List.{List}
use Rattle.abnf.specs.Abnf.{◌·◌, Abnf, ◌//◌, ∗◌, opt}
use Rattle.abnf.proofs.Lead as L
use Rattle.json_text.specs.Bytes.{ws, and_then}
use Rattle.json_text.specs.Value.{value_at, at_end, document_of}
use Rattle.json_grammar.specs.Rfc8259 as G

abbrev pub Json : Type 0
Json = Abnf G.Name

-- `s` is a word of the grammar and then `r`
abbrev pub Lead : Json → List ℕ → List ℕ → Type 0
Lead a s r = L.Lead a s r

abbrev pub array_over : Json → Json
array_over v = G.begin-array · opt (v · ∗ (G.value-separator · v)) · G.end-array

abbrev pub member_over : Json → Json
member_over v = G.string · G.name-separator · v

abbrev pub object_over : Json → Json
object_over v = G.begin-object · opt (member_over v · ∗ (G.value-separator · member_over v)) · G.end-object

unfoldable pub value : ℕ → Json
value d = L.expand G.rules d G.value

-- the depth d is spent on the arrays and objects around
deeper : (d : ℕ) → value (suc d) ≡ G.false // G.null // G.true // object_over (value d) // array_over (value d) // G.number // G.string
unfolding value
deeper d = refl

text : (d : ℕ) → L.expand G.rules d G.JSON-text ≡ G.ws · value d · G.ws
unfolding value
text d = refl

container : (d : ℕ) → L.expand G.rules (suc d) G.container ≡ G.ws · (object_over (value d) // array_over (value d)) · G.ws
unfolding value
container d = refl

-- the reader of a whole text, to any depth
unfoldable pub document_at : ℕ → List ℕ → Result ℕ ℕ
document_at d s = and_then (value_at d s (ws s 0)) (λ e. at_end s (ws s e))

pub document_16 : (s : List ℕ) → document_of s ≡ document_at 16 s
unfolding document_of document_at
document_16 s = refl
