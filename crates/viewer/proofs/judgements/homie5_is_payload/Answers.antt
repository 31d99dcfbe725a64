use Rattle.payload.specs.Formats.{given_format}
use Rattle.reply.specs.Reply.{is_set}
use Rattle.viewer.proofs.Judged.{judged_yes, judged_no}
use Rattle.viewer.proofs.judgements.homie5_is_payload.Goals as goal

pub returns-then-judge_payload : goal.returns-then-judge_payload
returns-then-judge_payload c =
    judged_yes _ _ (given_format (is_set c.args.given) c.args.format.now) c.args.payload.now _ c.datatype_at.ensures c.judge_payload.ensures c.if-judge_payload.true

pub returns : goal.returns
returns c =
    judged_no _ _ (given_format (is_set c.args.given) c.args.format.now) c.args.payload.now _ c.datatype_at.ensures c.judge_payload.ensures c.if-judge_payload.false
