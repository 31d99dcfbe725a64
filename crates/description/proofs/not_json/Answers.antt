use Rattle.faults.specs.Faults.{not_json}
use Rattle.std.specs.Prelude.{Some}
use mathlib.Core.Path.{ap, ◌∙◌}
use Prim.Native.Nat.{ℕ}
use Rattle.faults.proofs.Laws.{is-told}
use Rattle.description.proofs.not_json.Goals as goal

pub returns : goal.returns
returns c = c.refused.ensures ∙ (is-told c.at.ensures ∙ ap (λ (p : ℕ). Some (not_json p)) c.place.ensures)
