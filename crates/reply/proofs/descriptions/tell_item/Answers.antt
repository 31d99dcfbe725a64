use native.Mathlib.Omega.{arith}
use Rattle.properties.proofs.Good.{full}
use Rattle.reply.proofs.Out.{refusal, reply_as}
use Rattle.reply.proofs.Declared.{none_at, none-past, one_at}
use Rattle.reply.proofs.descriptions.tell_item.Goals as goal

pub returns-then-i-l : goal.returns-then-i-l
returns-then-i-l c = let a = c.args in refusal _ 3 _ (none_at a.s.now a.l.items a.l.n a.i (omega (arith, c.if-i-l.true)))

pub returns-then-i-ge-MOST : goal.returns-then-i-ge-MOST
returns-then-i-ge-MOST c = let a = c.args in refusal _ 3 _ (none-past a.s.now a.l.items a.l.n a.i (omega (arith, full a.l _ c.well_formed.1.1.0, c.if-i-ge-MOST.true)))

pub returns : goal.returns
returns c =
    let a = c.args in reply_as _ _ _ _ _ (one_at a.s.now a.l.items a.l.n a.i _ (omega (arith, c.if-i-l.false)) (omega (arith, full a.l _ c.well_formed.1.1.0, c.if-i-ge-MOST.false))) c.tell_entry.ensures
