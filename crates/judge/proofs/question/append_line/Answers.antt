use Rattle.judge.proofs.Shapes.{append_no_1, append_no_2, append-all}
use Rattle.judge.proofs.Asking.{word_bytes, word_none, word_number, word_no-number}
use Rattle.judge.proofs.Saying.{says}
use Rattle.judge.proofs.question.append_line.Goals as goal

pub returns-in_default : goal.returns-in_default
returns-in_default c =
    says (append_no_1 _ _ _ _ _ _ (word_none c.args.line.now 1 c.at.ensures c.decode.ensures c.requires c.large_buffer-mem.ensures c.in_default.is)) c.unknown.ensures

pub returns-in_default-read : goal.returns-in_default-read
returns-in_default-read c =
    says (append_no_2 _ _ _ _ _ _ (word_bytes c.args.line.now 1 c.at.ensures c.decode.ensures c.requires c.large_buffer-mem.ensures _ c.in-Some.is).bytes (word_no-number c.args.line.now 2 c.at-2.ensures c.read.ensures c.in_default-read.is)) c.unknown-in_default-read.ensures

pub slice_bounds-mem-end : goal.slice_bounds-mem-end
slice_bounds-mem-end c = (word_bytes c.args.line.now 1 c.at.ensures c.decode.ensures c.requires c.large_buffer-mem.ensures _ c.in-Some.is).inside

pub append_event-requires : goal.append_event-requires
append_event-requires c = c.requires

pub returns : goal.returns
returns c =
    says (append-all _ _ _ _ _ _ (word_bytes c.args.line.now 1 c.at.ensures c.decode.ensures c.requires c.large_buffer-mem.ensures _ c.in-Some.is).bytes (word_number c.args.line.now 2 c.at-2.ensures c.read.ensures c.in-Some-read.is)) c.append_event.ensures
