-- A value of the program's list has an array of 24.
use mathlib.Core.Path.{◌≡◌}
use mathlib.Core.List.{List}
use lib.ListN.{length}
use mir.Val.{Val}
use denote.Laws.{Is}
use denote.Struct.Declared.{row}
use denote.Struct.Laws.{owed}
use Rattle.properties.specs.declared.Entries.{Entries}
use Rattle.properties.specs.contracts.Entries as E
use Rattle.properties.proofs.Entries.TheLaws as EL

pub full : (l : Entries) (vs : List Val) → Is (row E.the_type) l vs → length l.items ≡ 24
full l vs h = (owed E.the_type EL.the_laws l vs h).1.0.1.0.1
