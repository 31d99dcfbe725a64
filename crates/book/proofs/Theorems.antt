-- Paper 01, demand 3: every list of calls is answered as the plain book answers it. One claim over every list, over any rules.
use Prim.Native.Nat.{ℕ}
use mathlib.Core.Path.{◌≡◌, refl, ap, ap₂, ◌∙◌}
use mathlib.Core.List.{List, ◌∷◌}
use lib.ListN.{get_or}
use Rattle.book.specs.Book.{Rules, CallOf, Book, blank, answers, State, fresh, answer, outcomes, Run, done, call}
use Rattle.book.specs.Promises.{Everywhere, Meant}
use Rattle.book.proofs.Agree.{fresh-all}
use Rattle.book.proofs.Answers.{all_said, all-answered}

-- the state with steps back and the book
pub agree : (r : Rules) (j : ℕ) (cs : List (CallOf r)) → outcomes r j (fresh r) cs ≡ answers r j (blank r) cs
agree = fresh-all

-- "and 6 never occurs": what holds of every answer that the rules can give, as that it is not 6, holds of each answer of the book, the i-th
pub everywhere : (r : Rules) (P : r.Answer → Type 0) → Everywhere r P → (j : ℕ) (b : Book r) (cs : List (CallOf r)) (i : ℕ) → P (get_or (answers r j b cs) i r.taken)
everywhere = all_said

-- and of the answer to each call in every state
pub every-state : (r : Rules) (P : r.Answer → Type 0) → Everywhere r P → (s : State r.Table) (c : CallOf r) → P (answer r s c)
every-state = all-answered

-- Memory that means a state and follows the rules.
module _ (r : Rules) (j : ℕ) {M : Type 0} (Sound : M → Type 0) (means : M → State r.Table) (Did : CallOf r → M → M → r.Answer → Type 0) (h : Meant r j Sound means Did) where
  -- from any sound memory: the answers are those of the state that it means
  pub settled : {m m' : M} {cs : List (CallOf r)} {vs : List r.Answer} → Sound m → Run r Did m cs vs m' → vs ≡ outcomes r j (means m) cs
  unfolding outcomes
  settled s done = refl
  settled {m} s (call {m' = m'} {c = c} {a = a} {cs = cs} did rest) =
      ap₂ (λ (x : r.Answer) (l : List r.Answer). x ∷ l) (h.answered c m m' a did s) (settled (h.kept c m m' a did s) rest ∙ ap (λ (t : State r.Table). outcomes r j t cs) (h.moved c m m' a did s))

  -- from memory that means the fresh state: the answers are the book's
  pub agrees : {m m' : M} {cs : List (CallOf r)} {vs : List r.Answer} → Sound m → means m ≡ fresh r → Run r Did m cs vs m' → vs ≡ answers r j (blank r) cs
  agrees {cs = cs} s e run = settled s run ∙ ap (λ (t : State r.Table). outcomes r j t cs) e ∙ agree r j cs
