use mathlib.Core.Path.{sym, ◌∙◌}
use lib.ListN.{length}
use Rattle.lookup.specs.Meaning.{means}
use Rattle.rules.proofs.Choices.{not-some}
use Rattle.questions.proofs.Rooms.{inside_at}
use Rattle.questions.proofs.Effective.{no-root, root_lost_lem, root-not_lost}
use borrow.Author.Rules.{rules}
use Rattle.questions.proofs.effective_in.Goals as goal

pub slice_bounds-is_lost-count : goal.slice_bounds-is_lost-count
slice_bounds-is_lost-count c = let a = c.args in (inside_at (length a.room.now) c.root.result c.in-Some.root c.root.ensures.within c.in-Some.is).ordered

pub slice_bounds-is_lost-start : goal.slice_bounds-is_lost-start
slice_bounds-is_lost-start c = let w = inside_at (length c.args.room.now) c.root.result c.in-Some.root c.root.ensures.within c.in-Some.is in search rules

pub slice_bounds-is_lost-end : goal.slice_bounds-is_lost-end
slice_bounds-is_lost-end c = let w = inside_at (length c.args.room.now) c.root.result c.in-Some.root c.root.ensures.within c.in-Some.is in search rules

pub is_lost-requires : goal.is_lost-requires
is_lost-requires c = c.requires

pub returns-then-is_lost : goal.returns-then-is_lost
returns-then-is_lost c =
    let a = c.args in root_lost_lem (means a.mem.now).now.devices a.room.now c.root.result c.root.ensures.says c.in-Some.root c.in-Some.is (sym c.if-is_lost.true ∙ c.is_lost.ensures)

pub returns-in_default : goal.returns-in_default
returns-in_default c = let a = c.args in c.state-own.ensures ∙ no-root (means a.mem.now).now.devices a.room.now c.root.result c.root.ensures.says (not-some _ c.in_default.not-Some)

pub returns-else-is_lost : goal.returns-else-is_lost
returns-else-is_lost c =
    let a = c.args in c.state-own.ensures ∙ root-not_lost (means a.mem.now).now.devices a.room.now c.root.result c.root.ensures.says c.in-Some.root c.in-Some.is (sym c.if-is_lost.false ∙ c.is_lost.ensures)
