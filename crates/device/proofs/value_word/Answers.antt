use native.Mathlib.Omega.{arith}
use Rattle.device.proofs.Described.{all, at_most}
use Rattle.device.proofs.Words.{word_none, word_small, word_more, word-all}
use borrow.Author.Rules.{rules}
use Rattle.device.proofs.value_word.Goals as goal

pub loop-i-init : goal.loop-i-init
loop-i-init c = (search rules, word_none (all c.args.room.now))

pub with_bit-w-requires : goal.with_bit-w-requires
with_bit-w-requires c =
    let r = c.args.room.now in
    let h = at_most r in
    let k = word_small (all r) c.loop-i.i (omega arith) in
    (omega arith, omega arith)

pub loop-i-preserved : goal.loop-i-preserved
loop-i-preserved c =
    let r = c.args.room.now in
    (search rules, word_more r c.loop-i.i c.loop-i.w c.record_at.result c.with_bit-w.result c.is_set.result (omega arith) c.record_at.ensures.0 c.is_set.ensures c.loop-i.invariant.1 c.with_bit-w.ensures)

pub returns : goal.returns
returns c = word-all c.args.room.now c.loop-i.i c.loop-i.w (omega arith) c.loop-i.invariant.1
