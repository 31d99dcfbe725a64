use mathlib.Core.Path.{ap, ◌∙◌}
use Rattle.judge.specs.Texts.{yes_or_no}
use Rattle.judge.proofs.Shapes.{format_no_1, format_no_2, format-all}
use Rattle.judge.proofs.Asking.{word_bytes, word_none, word-named, word_unnamed}
use Rattle.judge.proofs.Saying.{says}
use Rattle.judge.proofs.question.format_line.Goals as goal

pub returns-in_default : goal.returns-in_default
returns-in_default c = says (format_no_1 _ _ (word_unnamed c.args.line.now 1 c.at.ensures c.read_datatype.ensures c.in_default.is)) c.unknown.ensures

pub returns-in_default-decode : goal.returns-in_default-decode
returns-in_default-decode c =
    says (format_no_2 _ _ (word-named c.args.line.now 1 c.at.ensures c.read_datatype.ensures c.in-Some.is) (word_none c.args.line.now 2 c.at-2.ensures c.decode.ensures c.requires c.large_buffer-mem.ensures c.in_default-decode.is)) c.unknown-in_default-decode.ensures

pub slice_bounds-is_format-end : goal.slice_bounds-is_format-end
slice_bounds-is_format-end c = (word_bytes c.args.line.now 2 c.at-2.ensures c.decode.ensures c.requires c.large_buffer-mem.ensures _ c.in-Some-decode.is).inside

pub returns : goal.returns
returns c =
    says (ap yes_or_no c.is_format.ensures ∙ format-all _ _ (word-named c.args.line.now 1 c.at.ensures c.read_datatype.ensures c.in-Some.is) (word_bytes c.args.line.now 2 c.at-2.ensures c.decode.ensures c.requires c.large_buffer-mem.ensures _ c.in-Some-decode.is).bytes) c.yes_or_no.ensures
