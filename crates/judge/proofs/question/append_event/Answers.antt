use Rattle.judge.proofs.Shapes.{added_no_1, added_no_2, added_no_3, added_no_4, added-all}
use Rattle.judge.proofs.Asking.{word_bytes, word_none, word_number, word_no-number, word-flag, word_no-flag}
use Rattle.judge.proofs.Saying.{says}
use Rattle.judge.proofs.question.append_event.Goals as goal

pub returns-in_default : goal.returns-in_default
returns-in_default c = says (added_no_1 _ _ _ _ _ _ (word_no-number c.args.line.now 3 c.at.ensures c.read.ensures c.in_default.is)) c.unknown.ensures

pub returns-in_default-decode : goal.returns-in_default-decode
returns-in_default-decode c =
    says (added_no_2 _ _ _ _ _ _ (word_number c.args.line.now 3 c.at.ensures c.read.ensures c.in-Some.is) (word_none c.args.line.now 4 c.at-2.ensures c.decode.ensures c.requires c.large_buffer-mem2.ensures c.in_default-decode.is)) c.unknown-in_default-decode.ensures

pub returns-in_default-read : goal.returns-in_default-read
returns-in_default-read c =
    says (added_no_3 _ _ _ _ _ _ (word_number c.args.line.now 3 c.at.ensures c.read.ensures c.in-Some.is) (word_bytes c.args.line.now 4 c.at-2.ensures c.decode.ensures c.requires c.large_buffer-mem2.ensures _ c.in-Some-decode.is).bytes (word_no-flag c.args.line.now 5 c.at-3.ensures c.read-2.ensures c.in_default-read.is)) c.unknown-in_default-read.ensures

pub returns-in_default-decode-2 : goal.returns-in_default-decode-2
returns-in_default-decode-2 c =
    says (added_no_4 _ _ _ _ _ _ (word_number c.args.line.now 3 c.at.ensures c.read.ensures c.in-Some.is) (word_bytes c.args.line.now 4 c.at-2.ensures c.decode.ensures c.requires c.large_buffer-mem2.ensures _ c.in-Some-decode.is).bytes (word-flag c.args.line.now 5 c.at-3.ensures c.read-2.ensures c.in-Some-read.is) (word_none c.args.line.now 6 c.at-4.ensures c.decode-2.ensures c.requires c.large_buffer-mem3.ensures c.in_default-decode-2.is)) c.unknown-in_default-decode-2.ensures

pub slice_bounds-of_append-end : goal.slice_bounds-of_append-end
slice_bounds-of_append-end c = (word_bytes c.args.line.now 4 c.at-2.ensures c.decode.ensures c.requires c.large_buffer-mem2.ensures _ c.in-Some-decode.is).inside

pub slice_bounds-of_append-end-2 : goal.slice_bounds-of_append-end-2
slice_bounds-of_append-end-2 c = (word_bytes c.args.line.now 6 c.at-4.ensures c.decode-2.ensures c.requires c.large_buffer-mem3.ensures _ c.in-Some-decode-2.is).inside

pub returns : goal.returns
returns c =
    says (added-all _ _ _ _ _ _ (word_number c.args.line.now 3 c.at.ensures c.read.ensures c.in-Some.is) (word_bytes c.args.line.now 4 c.at-2.ensures c.decode.ensures c.requires c.large_buffer-mem2.ensures _ c.in-Some-decode.is).bytes (word-flag c.args.line.now 5 c.at-3.ensures c.read-2.ensures c.in-Some-read.is) (word_bytes c.args.line.now 6 c.at-4.ensures c.decode-2.ensures c.requires c.large_buffer-mem3.ensures _ c.in-Some-decode-2.is).bytes) c.of_append.ensures
