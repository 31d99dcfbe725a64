use mathlib.Core.Path.{sym, ◌∙◌}
use Rattle.text.proofs.Ids.{read_no, read_few, read_whole, read_bytes}
use Rattle.text.proofs.Id.read.Goals as goal

pub returns-then-not-is_id : goal.returns-then-not-is_id
returns-then-not-is_id c = read_no _ (sym c.is_id.ensures ∙ c.if-not-is_id.true)

pub slice_bounds-bytes-end : goal.slice_bounds-bytes-end
slice_bounds-bytes-end c = read_few _ (sym c.is_id.ensures ∙ c.if-not-is_id.false)

pub slice_bounds-copy_from_slice-end : goal.slice_bounds-copy_from_slice-end
slice_bounds-copy_from_slice-end c = sym (read_whole _ (sym c.is_id.ensures ∙ c.if-not-is_id.false))

pub copy_from_slice-requires : goal.copy_from_slice-requires
copy_from_slice-requires c = read_whole _ (sym c.is_id.ensures ∙ c.if-not-is_id.false)

pub returns : goal.returns
returns c = read_bytes _ (sym c.is_id.ensures ∙ c.if-not-is_id.false) _ c.copy_from_slice.ensures.after
