use Rattle.table.proofs.Obeying.{wrote, wrote-not}
use Rattle.table.proofs.writing.write.Goals as goal

pub returns-then-not-commit : goal.returns-then-not-commit
returns-then-not-commit c = wrote-not _ _ _ _ _ _ _ _ _ _ c.commit.ensures c.head-head.ensures.0 c.head-head.ensures.1 _ c.if-not-commit.true

pub returns : goal.returns
returns c = wrote _ _ _ _ _ _ _ _ _ _ c.commit.ensures c.head-head.ensures.0 c.head-head.ensures.1 c.if-not-commit.false
