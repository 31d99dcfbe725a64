use Rattle.std.proofs.Common.{rules, tests, arith, ◌≡◌, ◌≤◌, ◌<◌, length, drop, nat_eq, ◌∙◌}
use Rattle.std.proofs.lemmas.Grind.{common_steps}
use Rattle.std.proofs.lemmas.Iterator.Splits.{YieldsList-from_slice_split}
use Rattle.std.proofs.lemmas.Iterator.Search.{all_from_yields_List}
use Rattle.topic.proofs.Levels.{each_split, each_past}
use Rattle.topic.proofs.level.all_pass.Goals as goal

pub returns-in-Some : goal.returns-in-Some
returns-in-Some g c = λ passes computes.
    let a = c.args in
    let here : a.at ≤ length a.topic.now = grind (arith, common_steps) in
    let rest : c.in-Some.levels.now ≡ drop a.at a.topic.now = grind (arith, common_steps) in
    all_from_yields_List passes _ _ c.all.result c.all.ensures.ran (YieldsList-from_slice_split _ (λ b. nat_eq b 47) c.in-Some.levels.now c.split.ensures.rest c.split.ensures.done c.split.ensures.closure (λ x b q k. search (rules, tests))) (λ x b q k. (g.met.F.Fn.1.step_stays _ _ _ _ (record { met = k.met }), computes x b ((g.met.F.FnMut.1.post_iff _ _ _).1 (q, record { met = k.met }))))
    ∙ each_split passes a.topic.now c.in-Some.levels.now a.at here rest

pub returns-in-None : goal.returns-in-None
returns-in-None g c = λ passes computes. let past : length c.args.topic.now < c.args.at = grind (arith, common_steps) in each_past passes c.args.topic.now c.args.at past
