use Rattle.reply.specs.Reply.{is_set}
use Rattle.viewer.proofs.Judged.{format-promise}
use Rattle.viewer.proofs.judgements.homie5_is_format.Goals as goal

pub returns : goal.returns
returns c =
    record { answer = c.judge_format-a.result; promise = format-promise _ _ c.args.format.now (is_set c.args.given) c.judge_format-a.result c.datatype_at.ensures c.judge_format-a.ensures; reply = c.tell_format.ensures }
