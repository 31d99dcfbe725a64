use mathlib.Core.Path.{◌∙◌}
use Rattle.reply.proofs.Out.{refusal, reply_as}
use Rattle.reply.proofs.Shown.{flag-refused, flag-shown}
use Rattle.reply.proofs.judgements.tell_flag.Goals as goal

pub returns-in-Ok : goal.returns-in-Ok
returns-in-Ok c = λ s. reply_as _ _ _ _ _ (flag-shown s _ _ _ _ c.in-Ok.is (c.flag_of.ensures s) c.flag_number-flag.ensures) c.tell_value.ensures

pub returns-in-Err : goal.returns-in-Err
returns-in-Err c = λ s. refusal _ _ _ (flag-refused s _ _ _ c.in-Err.is (c.from.ensures ∙ c.number.ensures))
