-- Paper 01, "Topics": the forms of the table, with what stands where the table says ID, level or levels, as byte strings.
use Rattle.std.specs.Prelude.{ℕ, List}

pub data Form : Type 0 where
  state : (device : List ℕ) → Form
  description : (device : List ℕ) → Form
  value : (device node property : List ℕ) → Form
  set : (device node property : List ℕ) → Form
  target : (device node property : List ℕ) → Form
  alert : (device name : List ℕ) → Form
  log : (device level : List ℕ) → Form
  broadcast : (ids : List (List ℕ)) → Form
  other : (device word : List ℕ) (levels : List (List ℕ)) → Form
