-- What the theorems over any rules ask of a property of answers, and of memory.
use Rattle.std.specs.Prelude.{ℕ, ◌≡◌}
use Rattle.book.specs.Book.{refuses, Rules, CallOf, State, answer, become}

-- it holds of "taken", of a step back refused, of each number of steps, of each refusal and each reply
pub record Everywhere (r : Rules) (P : r.Answer → Type 0) : Type 0 where
  pub taken : P r.taken
  pub none : P r.none
  pub offers : (n : ℕ) → P (r.offer n)
  pub refusals : (t : r.Table) (x : r.Message) (a : r.Answer) → r.judge t x ≡ refuses a → P a
  pub replies : (t : r.Table) (q : r.Question) → P (r.reply t q)

-- Memory of any kind, what it means, and a relation that each call's contract cites: in sound memory the answer is the state's, the
-- memory after is sound, and it means the state after the call.
pub record Meant (r : Rules) (j : ℕ) {M : Type 0} (Sound : M → Type 0) (means : M → State r.Table) (Did : CallOf r → M → M → r.Answer → Type 0) : Type 0 where
  pub answered : (c : CallOf r) (m m' : M) (a : r.Answer) → Did c m m' a → Sound m → a ≡ answer r (means m) c
  pub kept : (c : CallOf r) (m m' : M) (a : r.Answer) → Did c m m' a → Sound m → Sound m'
  pub moved : (c : CallOf r) (m m' : M) (a : r.Answer) → Did c m m' a → Sound m → means m' ≡ become r j (means m) c
