-- The digits of what is left stand before those that are written.
use Rattle.std.proofs.Common.{◌≡◌, ◌≤◌, ◌<◌, ◌^◌, ◌++◌, suc, drop}
use Rattle.lines.specs.Number.{decimal_in, decimal_text}
use Rattle.lines.proofs.number.decimal.Given as goal

abbrev pub invariant-loop-rest : goal.invariant-loop-rest
invariant-loop-rest l = record {
  in_range : l.i ≤ 19;
  fits : l.rest < 10 ^ suc l.i;
  digits : decimal_in (suc l.i) l.rest ++ drop (suc l.i) l.text ≡ decimal_text l.n;
}

abbrev pub decreases-loop-rest : goal.decreases-loop-rest
decreases-loop-rest l = l.rest
