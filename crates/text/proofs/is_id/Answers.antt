use native.Mathlib.Omega.{arith}
use mathlib.Core.Path.{sym, ◌∙◌}
use Rattle.text.proofs.Ids.{id-none, id-long, id_sized, id-answer}
use Rattle.text.proofs.is_id.Goals as goal

pub returns-in-1-to-7 : goal.returns-in-1-to-7
returns-in-1-to-7 c = c.id_bytes.ensures ∙ sym (id_sized _ (omega arith) (omega arith))

pub returns-in-8-to-32 : goal.returns-in-8-to-32
returns-in-8-to-32 c = id-answer _ _ (omega arith) (omega arith) c.id_blocks.ensures

pub returns-in_default : goal.returns-in_default
returns-in_default c = sym (id-none _ (omega arith))

pub returns-in_default-2 : goal.returns-in_default-2
returns-in_default-2 c = sym (id-long _ (omega arith))
