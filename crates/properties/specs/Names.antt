-- The names of the known fields of a property (paper 01, "The description").
use Rattle.std.specs.Prelude.{ℕ, List}
use Rattle.text.specs.Ascii.{ascii}

abbrev pub datatype : List ℕ
datatype = ascii "datatype"

abbrev pub name : List ℕ
name = ascii "name"

abbrev pub unit : List ℕ
unit = ascii "unit"

abbrev pub format : List ℕ
format = ascii "format"

abbrev pub settable : List ℕ
settable = ascii "settable"

abbrev pub retained : List ℕ
retained = ascii "retained"
