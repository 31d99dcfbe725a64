use Rattle.judge.proofs.Shapes.{two_no_1, two-all}
use Rattle.judge.proofs.Asking.{word_bytes, word_none}
use Rattle.judge.proofs.Saying.{says}
use Rattle.judge.proofs.question.two.Goals as goal

pub returns-in_default : goal.returns-in_default
returns-in_default c =
    says (two_no_1 _ _ (word_none c.args.line.now 1 c.at.ensures c.decode.ensures c.requires c.large_buffer-mem.ensures c.in_default.is)) c.unknown.ensures

pub slice_bounds-of_bytes-end : goal.slice_bounds-of_bytes-end
slice_bounds-of_bytes-end c = (word_bytes c.args.line.now 1 c.at.ensures c.decode.ensures c.requires c.large_buffer-mem.ensures _ c.in-Some.is).inside

pub returns : goal.returns
returns c =
    says (two-all _ _ c.at-2.ensures (word_bytes c.args.line.now 1 c.at.ensures c.decode.ensures c.requires c.large_buffer-mem.ensures _ c.in-Some.is).bytes) c.of_bytes.ensures
