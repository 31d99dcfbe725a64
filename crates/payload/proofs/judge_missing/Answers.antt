use mathlib.Core.Path.{ap, ◌∙◌}
use mathlib.Core.List.{List, []}
use Prim.Native.Nat.{ℕ}
use Rattle.payload.specs.Payloads.{is_payload}
use Rattle.payload.proofs.Judging.{none-missing, kept-missing}
use Rattle.payload.proofs.judge_missing.Goals as goal

pub returns-in-None : goal.returns-in-None
returns-in-None c = none-missing c.args.d c.args.s.now (c.in-None.ensures [])

pub returns-in-Some : goal.returns-in-Some
returns-in-Some c = kept-missing c.args.d c.args.s.now (c.in-Some.ensures []) (c.judge.ensures ∙ ap (λ (f : List ℕ). is_payload c.args.d f c.args.s.now) c.bytes_of.ensures)
