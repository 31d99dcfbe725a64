-- Paper 01, demand 3: every list of calls on a table is answered as the plain book answers it. "This is one claim over every list of calls, not one for each call."
use Prim.Native.Nat.{ℕ}
use mathlib.Core.Path.{◌≡◌, sym, ap, ◌∙◌}
use mathlib.Core.List.{List}
use mathlib.Core.Bool.{true}
use lib.ListN.{get_or}
use Rattle.answer.specs.Answer.{Answer, refused, gives, only}
use Rattle.book.specs.Book.{Call, blank, answers, Run}
use Rattle.rules.specs.Messages.{Message}
use Rattle.rules.specs.Questions.{Question, Value, taken}
use Rattle.rules.specs.Rules.{rules}
use Rattle.rules.proofs.Refusals.{no_six}
use Rattle.lookup.specs.Contract.{Did, Opened, is_taken}
use Rattle.lookup.proofs.Book.{runs}

module _ {before m m' domain : List ℕ} {d j : ℕ} {a : Answer Value} {calls : List (Call Message Question)} {said : List (Answer Value)} where
  -- Reversible: after a taken opening, for every list of calls, each of which does as its contract says, the answers are the book's.
  -- "The book is fed the opening's domain, D and J, then each call with its arguments, never the table's memory."
  pub reversible : Opened before domain d j m a → is_taken a ≡ true → Run (rules domain d) Did m calls said m' → said ≡ answers (rules domain d) j (blank (rules domain d)) calls
  reversible o t run = runs (record { domain = domain; devices = d; depth = j }) (o.sound t) (o.opening t) (o.fresh t) run

  -- "and 6 never occurs": none of those answers is it
  pub never-unsound : Opened before domain d j m a → is_taken a ≡ true → Run (rules domain d) Did m calls said m' → (i : ℕ) → get_or said i (gives taken) ≡ refused (only 6) → ⊥
  never-unsound o t run i e = no_six domain d j (blank (rules domain d)) calls i (sym (ap (λ (l : List (Answer Value)). get_or l i (gives taken)) (reversible o t run)) ∙ e)
