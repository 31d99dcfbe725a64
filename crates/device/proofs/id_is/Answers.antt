use Prim.Native.Nat.{ℕ}
use mathlib.Core.Path.{ap, ◌∙◌}
use mathlib.Core.List.{List}
use Rattle.text.specs.Bytes.{eq_bytes}
use Rattle.device.proofs.id_is.Goals as goal

pub returns : goal.returns
returns c =
    let a = c.args in
    c.same.ensures ∙ ap (λ (t : List ℕ). eq_bytes t a.id.now) c.text_at-p.ensures.says
