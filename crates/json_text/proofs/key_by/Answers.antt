use Rattle.json_text.proofs.Ends.{on-error_if, key-bad_if, key_if}
use Rattle.json_text.proofs.key_by.Goals as goal

pub returns-in_err-e : goal.returns-in_err-e
returns-in_err-e c = on-error_if c.from_residual.ensures.1 (key-bad_if _ _ c.in_err-e.ensures)

pub returns : goal.returns
returns c = key_if _ _ c.in_ok-e.ensures c.after_name.ensures
