use Rattle.json_text.proofs.Scans.{on-error}
use Rattle.json_text.proofs.Values.{key-bad, key-goes}
use Rattle.json_text.proofs.mark_key.Goals as goal

pub returns-in_err-e : goal.returns-in_err-e
returns-in_err-e c = (on-error c.from_residual.ensures.1 (key-bad _ c.in_err-e.ensures.0), c.mark_string.ensures.1)

pub returns : goal.returns
returns c = (key-goes _ c.in_ok-e.ensures.0 c.after_name.ensures, c.mark_string.ensures.1)
