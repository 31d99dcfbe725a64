use native.Mathlib.Omega.{arith}
use mathlib.Core.Path.{◌∙◌}
use Rattle.memory.proofs.Seen.{hits-most, counted}
use Rattle.memory.proofs.permuted.Goals as goal

pub marked-requires : goal.marked-requires
marked-requires c = (omega arith, hits-most _ _ _ c.marks-seen.ensures)

pub returns : goal.returns
returns c = counted _ _ _ _ (omega arith) c.marks-seen.ensures (c.from.ensures ∙ c.marked.ensures)
