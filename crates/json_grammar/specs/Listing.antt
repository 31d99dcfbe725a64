-- What it means that a list of places is the list of an object's members, or of an array's elements, by RFC 8259's rules.
use Rattle.std.specs.Prelude.{ℕ, ◌+◌, ◌≡◌, List, [], ◌∷◌, ◌++◌, length, drop}
use Rattle.abnf.specs.Abnf.{◌·◌, Abnf, Words, x}
use Rattle.json_grammar.specs.Rfc8259.{Name, rules, ws, value-separator, name-separator, string, value}
use Rattle.json_text.specs.Members.{Member}

-- a word of the rule, nested at most d deep, stands from i to j
abbrev pub StandsWithin : ℕ → List ℕ → ℕ → Abnf Name → ℕ → Type 0
StandsWithin d s i a j = (w : List ℕ) × Words rules d a w × (drop i s ≡ w ++ drop j s) × (j ≡ i + length w)

abbrev pub Stands : List ℕ → ℕ → Abnf Name → ℕ → Type 0
Stands s i a j = StandsWithin 16 s i a j

-- member = string name-separator value
pub record IsMember (s : List ℕ) (m : Member) : Type 0 where
  pub key : Stands s m.name (string · name-separator) m.value
  pub holds : Stands s m.value value m.end

pub record IsElement (s : List ℕ) (m : Member) : Type 0 where
  pub first : m.name ≡ m.value
  pub holds : Stands s m.value value m.end

-- item *( value-separator item ), from i to j
pub data Chain (s : List ℕ) (Is : Member → Type 0) : ℕ → List Member → ℕ → Type 0 where
  last : {m : Member} → Is m → Chain s Is m.name (m ∷ []) m.end
  more : {m : Member} {ms : List Member} {i j : ℕ} → Is m → Stands s m.end value-separator i → Chain s Is i ms j → Chain s Is m.name (m ∷ ms) j

-- between an opening and a closing byte, each with white space around, stand just these items
pub data Holds (s : List ℕ) (opening close : ℕ) (Is : Member → Type 0) (at : ℕ) : List Member → ℕ → Type 0 where
  none : (i : ℕ) {e : ℕ} → Stands s at (ws · x opening · ws) i → Stands s i (ws · x close · ws) e → Holds s opening close Is at [] e
  some : {ms : List Member} {i j e : ℕ} → Stands s at (ws · x opening · ws) i → Chain s Is i ms j → Stands s j (ws · x close · ws) e → Holds s opening close Is at ms e
