-- What the contracts of private functions cite. No promise rests on it.
use Rattle.faults.specs.Faults.{fault_number}
use Rattle.faults.specs.declared.Fault.{Fault}
use Rattle.std.specs.Prelude.{ℕ, List, [], ◌∷◌, ◌++◌, None, Option, Some}
use Rattle.text.specs.Ascii.{ascii}
use Rattle.judge.specs.Texts.{numbers_text}

-- what is told of a description
unfoldable pub told_text : Option Fault → List ℕ
told_text None = ascii "yes"
told_text (Some f) = ascii "refused " ++ numbers_text (fault_number f.kind) (f.place ∷ [])
