-- Calls that do as `Did` says, on memory with one opening, are those of a state with steps back.
use Prim.Native.Nat.{ℕ}
use mathlib.Core.Path.{◌≡◌, ap, ◌∙◌}
use mathlib.Core.List.{List}
use Rattle.answer.specs.Answer.{Answer}
use Rattle.book.specs.Book.{Call, fresh, blank, answer, answers, become, Run}
use Rattle.book.specs.Promises.{Meant}
use Rattle.book.proofs.Theorems.{agrees}
use Rattle.rules.specs.Messages.{Message}
use Rattle.rules.specs.Questions.{Question, Value}
use Rattle.rules.specs.Rules.{rules}
use Rattle.lookup.specs.Meaning.{Sound, Opening, opening_of, means}
use Rattle.lookup.specs.Contract.{Did}

module _ (o : Opening) where
  -- sound memory that was opened so
  record Is (m : List ℕ) : Type 0 where
    sound : Sound m
    opened : opening_of m ≡ o

  meant : Meant (rules o.domain o.devices) o.depth Is means Did
  meant = record {
    answered = λ c m m' a did h. did.answered h.sound ∙ ap (λ (p : Opening). answer (rules p.domain p.devices) (means m) c) h.opened;
    kept = λ c m m' a did h. record { sound = did.sound h.sound; opened = did.opening h.sound ∙ h.opened };
    moved = λ c m m' a did h. did.moved h.sound ∙ ap (λ (p : Opening). become (rules p.domain p.devices) p.depth (means m) c) h.opened;
  }

  pub runs : {m m' : List ℕ} {calls : List (Call Message Question)} {said : List (Answer Value)} → Sound m → opening_of m ≡ o → means m ≡ fresh (rules o.domain o.devices) → Run (rules o.domain o.devices) Did m calls said m' → said ≡ answers (rules o.domain o.devices) o.depth (blank (rules o.domain o.devices)) calls
  runs s e f run = agrees (rules o.domain o.devices) o.depth Is means Did meant (record { sound = s; opened = e }) f run
