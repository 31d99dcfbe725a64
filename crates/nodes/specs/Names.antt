-- The names of the known fields of a node (paper 01, "The description").
use Rattle.std.specs.Prelude.{ℕ, List}
use Rattle.text.specs.Ascii.{ascii}

abbrev pub name : List ℕ
name = ascii "name"

abbrev pub type : List ℕ
type = ascii "type"

abbrev pub properties : List ℕ
properties = ascii "properties"
