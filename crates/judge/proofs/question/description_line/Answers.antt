use Rattle.judge.proofs.Shapes.{description_no_1, description_no_2, description-all}
use Rattle.judge.proofs.Asking.{word_bytes, word_none}
use Rattle.judge.proofs.Saying.{says}
use Rattle.judge.proofs.question.description_line.Goals as goal

pub returns-in_default : goal.returns-in_default
returns-in_default c =
    says (description_no_1 _ _ (word_none c.args.line.now 1 c.at.ensures c.decode.ensures c.requires c.large_buffer-mem.ensures c.in_default.is)) c.unknown.ensures

pub returns-in_default-decode : goal.returns-in_default-decode
returns-in_default-decode c =
    says (description_no_2 _ _ (word_bytes c.args.line.now 1 c.at.ensures c.decode.ensures c.requires c.large_buffer-mem.ensures _ c.in-Some.is).bytes (word_none c.args.line.now 2 c.at-2.ensures c.decode-2.ensures c.requires c.large_buffer-mem2.ensures c.in_default-decode.is)) c.unknown-in_default-decode.ensures

pub slice_bounds-of_description-end : goal.slice_bounds-of_description-end
slice_bounds-of_description-end c = (word_bytes c.args.line.now 1 c.at.ensures c.decode.ensures c.requires c.large_buffer-mem.ensures _ c.in-Some.is).inside

pub slice_bounds-of_description-end-2 : goal.slice_bounds-of_description-end-2
slice_bounds-of_description-end-2 c = (word_bytes c.args.line.now 2 c.at-2.ensures c.decode-2.ensures c.requires c.large_buffer-mem2.ensures _ c.in-Some-decode.is).inside

pub returns : goal.returns
returns c =
    says (description-all _ _ (word_bytes c.args.line.now 1 c.at.ensures c.decode.ensures c.requires c.large_buffer-mem.ensures _ c.in-Some.is).bytes (word_bytes c.args.line.now 2 c.at-2.ensures c.decode-2.ensures c.requires c.large_buffer-mem2.ensures _ c.in-Some-decode.is).bytes) c.of_description.ensures
