use Rattle.numbers.proofs.Scaled.{ready}
use Rattle.numbers.proofs.billionths.read_billionths.Goals as goal

pub in_billionths-requires : goal.in_billionths-requires
in_billionths-requires c = ready c.args.s.now _ _ c.in_ok-read.ensures.value c.in_ok-read.ensures.billionths c.if-read.true
