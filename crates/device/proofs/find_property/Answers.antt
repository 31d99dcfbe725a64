use native.Mathlib.Omega.{arith}
use mathlib.Core.Path.{◌≡◌, ◌∙◌}
use Rattle.rules.specs.Find.{is_named}
use Rattle.rules.proofs.Choices.{told}
use Rattle.device.proofs.First.{passed_none, passed-one, found, passed-all}
use borrow.Author.Rules.{rules}
use Rattle.device.proofs.find_property.Goals as goal

pub loop-i-init : goal.loop-i-init
loop-i-init c =
    let a = c.args in
    (search rules, passed_none a.room.now (is_named a.node.now a.id.now))

pub returns-then-is_named : goal.returns-then-is_named
returns-then-is_named c =
    let a = c.args in
    found a.room.now (is_named a.node.now a.id.now) c.loop-i.i (omega arith) (told c.is_named.ensures c.if-is_named.true) c.loop-i.invariant.1

pub loop-i-preserved : goal.loop-i-preserved
loop-i-preserved c =
    let a = c.args in
    (search rules, passed-one a.room.now (is_named a.node.now a.id.now) c.loop-i.i (omega arith) (told c.is_named.ensures c.if-is_named.false) c.loop-i.invariant.1)

pub returns : goal.returns
returns c =
    let a = c.args in
    let e : c.properties-n.result ≡ c.loop-i.i = omega arith in
    e ∙ passed-all a.room.now (is_named a.node.now a.id.now) c.loop-i.i (omega arith) c.loop-i.invariant.1
