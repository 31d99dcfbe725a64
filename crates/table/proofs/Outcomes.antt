-- The answers of opening and of stepping back, by what the journal answers.
use Prim.Native.Nat.{ℕ}
use mathlib.Core.Path.{◌≡◌, subst}
use mathlib.Core.List.{List}
use mathlib.Core.Bool.{Bool, true, false, cond}
use Rattle.answer.specs.Answer.{refused, gives, only}
use Rattle.text.specs.Ids.{is_id}
use Rattle.journal.specs.Contract as journal
use Rattle.book.specs.Book.{step_back}
use Rattle.rules.specs.Questions.{taken}
use Rattle.lookup.specs.Meaning.{Sound}
use Rattle.lookup.specs.Contract.{Did, Opened, open_answer}
use Rattle.lookup.proofs.Theorems.{back, opened}

module _ (m m' : List ℕ) (r : Bool) (s : Sound m) (u : journal.Undone m m' r) where
  stepped : (b : Bool) → r ≡ b → Did step_back m m' (cond b (gives taken) (refused (only 18)))
  stepped b e = subst (λ (x : Bool). Did step_back m m' (cond x (gives taken) (refused (only 18)))) e (back m m' r s u)

  pub stepped-back : r ≡ true → Did step_back m m' (gives taken)
  stepped-back e = stepped true e

  pub stepped-not : r ≡ false → Did step_back m m' (refused (only 18))
  stepped-not e = stepped false e

-- the domain as it was read from s
module _ (m domain : List ℕ) (d j : ℕ) (m' : List ℕ) (r : Bool) (s : List ℕ) (same : s ≡ domain) (i : is_id domain ≡ true) (o : journal.Opened m s d j m' r) where
  by : (b : Bool) → r ≡ b → Opened m domain d j m' (open_answer b)
  by b e = subst (λ (x : Bool). Opened m domain d j m' (open_answer x)) e (opened m domain d j m' r i (subst (λ (t : List ℕ). journal.Opened m t d j m' r) same o))

  pub opened-taken : r ≡ true → Opened m domain d j m' (gives taken)
  unfolding open_answer
  opened-taken e = by true e

  pub opened-not : r ≡ false → Opened m domain d j m' (refused (only 5))
  unfolding open_answer
  opened-not e = by false e
