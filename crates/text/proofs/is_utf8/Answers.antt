use native.Mathlib.Omega.{arith}
use mathlib.Core.Path.{refl, subst}
use Rattle.text.specs.Parts.{Reads}
use Rattle.text.proofs.Characters.{left-start, left-next, left-broken, left_end}
use Rattle.text.proofs.Utf8.{utf8_contract}
use Rattle.text.proofs.is_utf8.Goals as goal

pub loop-i-init : goal.loop-i-init
loop-i-init c = left-start c.ascii_run-i.ensures

pub character-requires : goal.character-requires
character-requires c = let l = c.loop-i.invariant in record { inside = omega arith; byte = refl; several = l.several (omega arith) }

pub next_run-i-requires : goal.next_run-i-requires
next_run-i-requires c = let p = subst (Reads c.args.s.now c.loop-i.i) c.in-Some.is c.character.ensures in omega (arith, p.to)

pub loop-i-smaller : goal.loop-i-smaller
loop-i-smaller c =
    let p = subst (Reads c.args.s.now c.loop-i.i) c.in-Some.is c.character.ensures in omega (arith, p.past, c.next_run-i.ensures.run.from, c.next_run-i.ensures.run.to)

pub loop-i-preserved : goal.loop-i-preserved
loop-i-preserved c = left-next c.loop-i.invariant (subst (Reads c.args.s.now c.loop-i.i) c.in-Some.is c.character.ensures) c.next_run-i.ensures

pub returns-in_default : goal.returns-in_default
returns-in_default c = utf8_contract _ _ (left-broken c.loop-i.invariant (subst (Reads c.args.s.now c.loop-i.i) c.in_default.is c.character.ensures))

pub returns : goal.returns
returns c = utf8_contract _ _ (left_end c.loop-i.invariant (omega arith))
