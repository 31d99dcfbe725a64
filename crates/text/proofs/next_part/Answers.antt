use Rattle.std.proofs.Common.{rules, tests, ◌≡◌, arith, nat_eq, length, ◌-◌, ap, ◌∙◌}
use lib.ListN.{take, drop, length-drop}
use lib.Seq.{take_all}
use Rattle.text.specs.Split.{first_len}
use Rattle.std.specs.Prelude.{position, unwrap_or}
use Rattle.std.proofs.lemmas.Iterator.{YieldsList-from_slice}
use Rattle.std.proofs.lemmas.Iterator.Search.{position_from_yields_List}
use Rattle.text.proofs.Split.{first-position, part_at-none, part_at-found}
use Rattle.text.proofs.next_part.Goals as goal

pub returns-then-at-s : goal.returns-then-at-s
returns-then-at-s c = part_at-none _ _ _ (omega arith)

pub returns : goal.returns
returns c =
    let a = c.args in
    let place : c.position.result ≡ position (λ b. nat_eq b a.sep) (take (length a.s.now - a.at) (drop a.at a.s.now)) = position_from_yields_List (λ b. nat_eq b a.sep) _ _ c.position.result c.position.ensures.ran (YieldsList-from_slice _ c.iter.ensures.rest) (λ x b q k. search (rules, tests)) in
    let r = take (length a.s.now - a.at) (drop a.at a.s.now) in
    let n : c.unwrap_or-len.result ≡ first_len a.sep (drop a.at a.s.now) = c.unwrap_or-len.ensures ∙ ap (λ o. unwrap_or o (length r)) place ∙ first-position a.sep r ∙ ap (first_len a.sep) (take_all _ _ (omega (arith, length-drop a.at a.s.now))) in
    part_at-found _ _ _ _ (omega arith) (omega arith)
