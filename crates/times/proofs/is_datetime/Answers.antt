use borrow.Author.Rules.{rules}
use Rattle.times.proofs.Datetimes.{datetime_reads}
use Rattle.times.proofs.is_datetime.Goals as goal

pub returns-then-time : goal.returns-then-time
returns-then-time c = rw (datetime_reads c.args.s.now) (search rules)

pub returns-else-time : goal.returns-else-time
returns-else-time c = rw (datetime_reads c.args.s.now) (search rules)
