-- What holds of every answer that rules can give holds of every answer of the book, and of a state with steps back.
use Prim.Native.Nat.{ℕ, zero, suc}
use mathlib.Core.Path.{◌≡◌, refl}
use mathlib.Core.List.{List, [], ◌∷◌}
use lib.ListN.{length, get_or}
use Rattle.book.specs.Book.{Outcome, refuses, takes, Rules, CallOf, message, question, step_back, steps, table_after, Book, told, back_says, says, after, answers, State, pop_says, answer}
use Rattle.book.specs.Promises.{Everywhere}

module _ (r : Rules) (P : r.Answer → Type 0) (h : Everywhere r P) where
  judged : (o : Outcome r.Table r.Answer) (t : r.Table) (x : r.Message) → r.judge t x ≡ o → P (told r o)
  judged (refuses a) t x e = h.refusals t x a e
  judged (takes u) t x e = h.taken

  said : (b : Book r) (c : CallOf r) → P (says r b c)
  said b (message x) = judged (r.judge (table_after r b.standing) x) (table_after r b.standing) x refl
  said b (question q) = h.replies (table_after r b.standing) q
  said b step_back = go b.number
    where
      go : (n : ℕ) → P (back_says r n)
      go zero = h.none
      go (suc n) = h.taken
  said b steps = h.offers b.number

  pub all_said : (j : ℕ) (b : Book r) (cs : List (CallOf r)) (i : ℕ) → P (get_or (answers r j b cs) i r.taken)
  unfolding answers
  all_said j b [] i = h.taken
  all_said j b (c ∷ cs) zero = said b c
  all_said j b (c ∷ cs) (suc i) = all_said j (after r j b c) cs i

  pub all-answered : (s : State r.Table) (c : CallOf r) → P (answer r s c)
  all-answered s (message x) = judged (r.judge s.now x) s.now x refl
  all-answered s (question q) = h.replies s.now q
  all-answered s step_back = go s.past
    where
      go : (ts : List r.Table) → P (pop_says r ts)
      go [] = h.none
      go (t ∷ ts) = h.taken
  all-answered s steps = h.offers (length s.past)
