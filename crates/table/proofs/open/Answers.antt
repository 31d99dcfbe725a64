use mathlib.Core.Path.{sym, ◌∙◌}
use Rattle.lookup.proofs.Theorems.{no-domain}
use Rattle.text.proofs.Ids.{read_none}
use Rattle.table.proofs.Openings.{read_yes, bytes_are, inside}
use Rattle.table.proofs.Outcomes.{opened-taken, opened-not}
use Rattle.table.proofs.open.Goals as goal

pub returns-in_default : goal.returns-in_default
returns-in_default c = no-domain _ _ _ _ (read_none _ (sym c.in_default.is ∙ c.read.ensures))

pub shared_ref_as_front-open : goal.shared_ref_as_front-open
shared_ref_as_front-open c = inside _ _ (sym c.in-Some.is ∙ c.read.ensures)

pub returns-then-not-open : goal.returns-then-not-open
returns-then-not-open c =
    let e = sym c.in-Some.is ∙ c.read.ensures in
    opened-not _ _ _ _ _ _ _ (bytes_are _ _ e) (read_yes _ _ e) c.«open».ensures c.if-not-open.true

pub returns : goal.returns
returns c =
    let e = sym c.in-Some.is ∙ c.read.ensures in
    opened-taken _ _ _ _ _ _ _ (bytes_are _ _ e) (read_yes _ _ e) c.«open».ensures c.if-not-open.false
