use mathlib.Core.Path.{ap, ◌∙◌}
use Rattle.judge.specs.Texts.{yes_or_no}
use Rattle.judge.proofs.Shapes.{payload_no_1, payload_no_2, payload_no_3, payload-all}
use Rattle.judge.proofs.Asking.{word_bytes, word_none, word-named, word_unnamed}
use Rattle.judge.proofs.Saying.{says}
use Rattle.judge.proofs.question.payload_line.Goals as goal

pub returns-in_default : goal.returns-in_default
returns-in_default c = says (payload_no_1 _ _ _ (word_unnamed c.args.line.now 1 c.at.ensures c.read_datatype.ensures c.in_default.is)) c.unknown.ensures

pub returns-in_default-decode : goal.returns-in_default-decode
returns-in_default-decode c =
    says (payload_no_2 _ _ _ (word-named c.args.line.now 1 c.at.ensures c.read_datatype.ensures c.in-Some.is) (word_none c.args.line.now 2 c.at-2.ensures c.decode.ensures c.requires c.large_buffer-mem.ensures c.in_default-decode.is)) c.unknown-in_default-decode.ensures

pub returns-in_default-decode-2 : goal.returns-in_default-decode-2
returns-in_default-decode-2 c =
    says (payload_no_3 _ _ _ (word-named c.args.line.now 1 c.at.ensures c.read_datatype.ensures c.in-Some.is) (word_bytes c.args.line.now 2 c.at-2.ensures c.decode.ensures c.requires c.large_buffer-mem.ensures _ c.in-Some-decode.is).bytes (word_none c.args.line.now 3 c.at-3.ensures c.decode-2.ensures c.requires c.large_buffer-mem2.ensures c.in_default-decode-2.is)) c.unknown-in_default-decode-2.ensures

pub slice_bounds-judge-end : goal.slice_bounds-judge-end
slice_bounds-judge-end c = (word_bytes c.args.line.now 2 c.at-2.ensures c.decode.ensures c.requires c.large_buffer-mem.ensures _ c.in-Some-decode.is).inside

pub slice_bounds-judge-end-2 : goal.slice_bounds-judge-end-2
slice_bounds-judge-end-2 c = (word_bytes c.args.line.now 3 c.at-3.ensures c.decode-2.ensures c.requires c.large_buffer-mem2.ensures _ c.in-Some-decode-2.is).inside

pub returns : goal.returns
returns c =
    says (ap yes_or_no c.judge.ensures ∙ payload-all _ _ _ (word-named c.args.line.now 1 c.at.ensures c.read_datatype.ensures c.in-Some.is) (word_bytes c.args.line.now 2 c.at-2.ensures c.decode.ensures c.requires c.large_buffer-mem.ensures _ c.in-Some-decode.is).bytes (word_bytes c.args.line.now 3 c.at-3.ensures c.decode-2.ensures c.requires c.large_buffer-mem2.ensures _ c.in-Some-decode-2.is).bytes) c.yes_or_no.ensures
