use Prim.Native.Nat.{ℕ}
use mathlib.Core.Path.{◌∙◌}
use lib.ListN.{length-replicate}
use Rattle.imprint.proofs.Whole.{records-blank, imprinted}
use Rattle.imprint.proofs.description.Goals as goal

pub put_head-requires : goal.put_head-requires
put_head-requires c = length-replicate {A = ℕ} 8192 0

pub put_records-requires : goal.put_records-requires
put_records-requires c = (c.put_head.ensures.within.kept ∙ length-replicate {A = ℕ} 8192 0, records-blank 8192 c.put_head.ensures)

pub returns : goal.returns
returns c = imprinted _ _ _ _ _ (length-replicate {A = ℕ} 8192 0) c.put_head.ensures c.put_records.ensures
