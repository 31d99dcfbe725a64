use Rattle.escapes.proofs.Orders.{plain-order, half-second, half-first}
use Rattle.escapes.proofs.precedes.Goals as goal

pub returns-then-are_plain : goal.returns-then-are_plain
returns-then-are_plain c = plain-order _ _ c.are_plain.ensures c.if-are_plain.true c.precedes.ensures

pub returns-in-Some : goal.returns-in-Some
returns-in-Some c = half-second _ _ c.half.ensures c.in-Some.is

pub returns-in-Some-half : goal.returns-in-Some-half
returns-in-Some-half c = half-first _ _ c.half-in-None.ensures c.in-Some-half.is c.count.ensures
