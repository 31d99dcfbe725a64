use native.Mathlib.Omega.{arith}
use Rattle.questions.proofs.Asking.{not_found, sought}
use Rattle.questions.proofs.locate.Goals as goal

pub returns-then-rank-count : goal.returns-then-rank-count
returns-then-rank-count c = λ f. not_found c.args.mem.now c.args.id.now _ _ f c.requires c.find-rank.ensures c.count.ensures (omega (arith, c.if-rank-count.true))

pub returns : goal.returns
returns c =
    sought c.args.mem.now c.args.id.now _ _ _ c.requires c.find-rank.ensures c.count.ensures (omega (arith, c.if-rank-count.false)) c.room_start.ensures
