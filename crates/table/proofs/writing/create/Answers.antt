use native.Mathlib.Omega.{arith}
use mathlib.Core.Path.{sym, ◌∙◌}
use Rattle.patch.proofs.Theorems.{new_device_lem}
use Rattle.table.proofs.Obeying.{created, created-none}
use Rattle.table.proofs.writing.create.Goals as goal

pub returns-then-n : goal.returns-then-n
returns-then-n c = created-none _ _ _ _ _ _ _ (sym c.if-n.true ∙ c.count-n.ensures)

pub returns : goal.returns
returns c =
    created _ _ c.count-n.ensures _ _ _ _ _ _ _ (omega (arith, c.new_device-bytes.type_inv)) (λ h. new_device_lem _ _ _ _ h c.new_device-bytes.ensures) c.write.ensures
