-- Flags as words: `0|1`.
use Rattle.std.specs.Prelude.{ℕ, List, Bool, true, false, cond, Option, None, Some}
use Rattle.text.specs.Ascii.{ascii}
use Rattle.text.specs.Bytes.{eq_bytes}

unfoldable pub flag_of : List ℕ → Option Bool
flag_of w = cond (eq_bytes w (ascii "1")) (Some true) (cond (eq_bytes w (ascii "0")) (Some false) None)
