use Rattle.judge.proofs.Shapes.{event_no_1, event_no_2, event-all}
use Rattle.judge.proofs.Asking.{word_bytes, word_none, word_number, word_no-number}
use Rattle.judge.proofs.Saying.{says}
use Rattle.judge.proofs.question.event_line.Goals as goal

pub returns-in_default : goal.returns-in_default
returns-in_default c =
    says (event_no_1 _ _ (word_none c.args.line.now 1 c.at.ensures c.decode.ensures c.requires c.large_buffer-mem.ensures c.in_default.is)) c.unknown.ensures

pub returns-in_default-read : goal.returns-in_default-read
returns-in_default-read c =
    says (event_no_2 _ _ (word_bytes c.args.line.now 1 c.at.ensures c.decode.ensures c.requires c.large_buffer-mem.ensures _ c.in-Some.is).bytes (word_no-number c.args.line.now 2 c.at-2.ensures c.read.ensures c.in_default-read.is)) c.unknown-in_default-read.ensures

pub slice_bounds-of_event-end : goal.slice_bounds-of_event-end
slice_bounds-of_event-end c = (word_bytes c.args.line.now 1 c.at.ensures c.decode.ensures c.requires c.large_buffer-mem.ensures _ c.in-Some.is).inside

pub returns : goal.returns
returns c =
    says (event-all _ _ (word_bytes c.args.line.now 1 c.at.ensures c.decode.ensures c.requires c.large_buffer-mem.ensures _ c.in-Some.is).bytes (word_number c.args.line.now 2 c.at-2.ensures c.read.ensures c.in-Some-read.is)) c.of_event.ensures
