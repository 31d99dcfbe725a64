use mathlib.Core.Path.{sym, ap}
use Rattle.reply.specs.Judgements.{show_flag}
use Rattle.reply.proofs.Out.{reply_as}
use Rattle.viewer.proofs.judgements.homie5_topic_flag.Goals as goal

pub returns : goal.returns
returns c = reply_as _ _ _ _ _ (ap show_flag (sym c.read-a.ensures.says)) (c.tell_flag.ensures c.args.topic.now)
