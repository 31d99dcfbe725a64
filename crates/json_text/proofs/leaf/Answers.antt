use mathlib.Core.Path.{sym, ◌∙◌}
use native.Mathlib.Omega.{arith}
use Rattle.json_text.proofs.Bytes.{inside=}
use Rattle.json_text.proofs.Scans.{same_as}
use Rattle.json_text.proofs.Values.{spelled, kind-other, value-true, value-false, value-null, value-other}
use Rattle.json_text.proofs.leaf.Goals as goal

pub returns-in-116 : goal.returns-in-116
returns-in-116 c =
    record { at-depth = λ d. same_as (value-true d _ _ (sym c.peek.ensures ∙ c.in-116.is)) (spelled _ _ _ (omega arith) (inside= c.args.s.now _ 116 (sym c.peek.ensures ∙ c.in-116.is) (omega arith)) c.literal.ensures) }

pub returns-in-102 : goal.returns-in-102
returns-in-102 c =
    record { at-depth = λ d. same_as (value-false d _ _ (sym c.peek.ensures ∙ c.in-102.is)) (spelled _ _ _ (omega arith) (inside= c.args.s.now _ 102 (sym c.peek.ensures ∙ c.in-102.is) (omega arith)) c.literal-in-102.ensures) }

pub returns-in-110 : goal.returns-in-110
returns-in-110 c =
    record { at-depth = λ d. same_as (value-null d _ _ (sym c.peek.ensures ∙ c.in-110.is)) (spelled _ _ _ (omega arith) (inside= c.args.s.now _ 110 (sym c.peek.ensures ∙ c.in-110.is) (omega arith)) c.literal-in-110.ensures) }

pub returns-in_default : goal.returns-in_default
returns-in_default c =
    let h = c.requires in record { at-depth = λ d. same_as (value-other d _ _ (kind-other _ h.no-array h.no-object h.no-string (λ q. c.in_default.in_default-own.rest.0.0.1 (c.peek.ensures ∙ q)) (λ q. c.in_default.in_default-own.rest.0.1 (c.peek.ensures ∙ q)) (λ q. c.in_default.in_default-own.rest.1 (c.peek.ensures ∙ q)))) c.number.ensures }
