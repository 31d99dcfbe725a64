use native.Mathlib.Omega.{arith}
use Rattle.reply.proofs.Out.{numbered_as}
use Rattle.reply.proofs.Said.{too_long, no-string, a-string}
use Rattle.reply.proofs.strings.tell_string.Goals as goal

pub returns-then-s-gt-TEXT_MOST : goal.returns-then-s-gt-TEXT_MOST
returns-then-s-gt-TEXT_MOST c = too_long _ _ (omega arith) (numbered_as _ c.number.ensures c.refusal_code.ensures)

pub returns-in-Err : goal.returns-in-Err
returns-in-Err c = no-string _ _ (omega arith) c.string.ensures.is c.in-Err.is c.min.ensures (numbered_as _ c.number-in-Err.ensures c.refusal_code-in-Err.ensures)

pub returns-in-Ok : goal.returns-in-Ok
returns-in-Ok c = a-string _ _ (omega arith) c.string.ensures.is c.in-Ok.is c.tell_decoded.ensures
