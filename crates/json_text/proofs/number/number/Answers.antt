use Rattle.json_text.proofs.Scans.{on-error}
use Rattle.json_text.proofs.Numbers.{bad-int, bad-frac, with-exp}
use Rattle.json_text.proofs.number.number.Goals as goal

pub returns-in_err-i : goal.returns-in_err-i
returns-in_err-i c = on-error c.from_residual.ensures.1 (bad-int _ _ _ c.minus.ensures c.in_err-i.ensures)

pub returns-in_err-j : goal.returns-in_err-j
returns-in_err-j c = on-error c.from_residual-in_err-j.ensures.1 (bad-frac _ _ _ c.minus.ensures _ c.in_ok-i.ensures c.in_err-j.ensures)

pub returns : goal.returns
returns c = with-exp _ _ _ c.minus.ensures _ c.in_ok-i.ensures c.in_ok-j.ensures c.exponent.ensures
