-- The names of the known fields of a device (paper 01, "The description").
use Rattle.std.specs.Prelude.{ℕ, List}
use Rattle.text.specs.Ascii.{ascii}

abbrev pub homie : List ℕ
homie = ascii "homie"

abbrev pub version : List ℕ
version = ascii "version"

abbrev pub nodes : List ℕ
nodes = ascii "nodes"

abbrev pub name : List ℕ
name = ascii "name"

abbrev pub type : List ℕ
type = ascii "type"

abbrev pub children : List ℕ
children = ascii "children"

abbrev pub root : List ℕ
root = ascii "root"

abbrev pub parent : List ℕ
parent = ascii "parent"

abbrev pub extensions : List ℕ
extensions = ascii "extensions"
