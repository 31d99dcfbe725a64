use Rattle.judge.proofs.Saying.{adds-event}
use Rattle.judge.proofs.say.event.Goals as goal

pub returns : goal.returns
returns c =
    adds-event c.args.file.now c.args.e c.write-at.ensures c.put-topic.ensures c.slice.ensures c.encode-next.ensures c.flag-payload.ensures c.slice-2.ensures c.encode.ensures
