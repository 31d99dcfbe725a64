-- A book and a state that stand for each other, call by call.
use Prim.Native.Nat.{ℕ, zero, suc, min}
use native.Mathlib.Nat.{zero-min, min-zero, suc-min-suc}
use mathlib.Core.Path.{◌≡◌, refl, sym, ap, ap₂, ◌∙◌, subst}
use mathlib.Core.List.{List, [], ◌∷◌, ◌++◌}
use lib.ListN.{length, take}
use lib.Seq.{take-nil}
use Rattle.book.specs.Book.{Outcome, refuses, takes, Rules, CallOf, message, question, step_back, steps, next, from, table_after, Book, blank, told, noted, without_last, back_says, stepped_back, says, after, answers, State, fresh, moved, pop_says, popped, answer, become, outcomes}

-- the last message gone out again
without_end : {A : Type 0} (xs : List A) (x : A) → without_last (xs ++ (x ∷ [])) ≡ xs
unfolding without_last
without_end [] x = refl
without_end (y ∷ []) x = refl
without_end {A} (y ∷ (z ∷ l)) x = ap (λ (t : List A). y ∷ t) (without_end (z ∷ l) x)

module _ (r : Rules) where
  from_end : (t : r.Table) (xs : List r.Message) (x : r.Message) → from r t (xs ++ (x ∷ [])) ≡ next r (from r t xs) (r.judge (from r t xs) x)
  unfolding from
  from_end t [] x = refl
  from_end t (y ∷ xs) x = from_end (next r t (r.judge t y)) xs x

  -- the tables before the last n of the messages, the last one first
  data Past : List r.Message → ℕ → List r.Table → Type 0 where
    none : {xs : List r.Message} → Past xs zero []
    more : {xs : List r.Message} {n : ℕ} {ts : List r.Table} (x : r.Message) → Past xs n ts → Past (xs ++ (x ∷ [])) (suc n) (table_after r xs ∷ ts)

  cut : {xs : List r.Message} {n : ℕ} {ts : List r.Table} (k : ℕ) → Past xs n ts → Past xs (min k n) (take k ts)
  cut {xs} k none = subst (λ (n : ℕ). Past xs n (take k [])) (sym (min-zero k)) (subst (Past xs zero) (sym (take-nil k)) none)
  cut zero (more {xs} {n} {ts} x p) = subst (λ (i : ℕ). Past (xs ++ (x ∷ [])) i []) (sym (zero-min (suc n))) none
  cut (suc k) (more {xs} {n} {ts} x p) = subst (λ (i : ℕ). Past (xs ++ (x ∷ [])) i (table_after r xs ∷ take k ts)) (sym (suc-min-suc k n)) (more x (cut k p))

  past-length : {xs : List r.Message} {n : ℕ} {ts : List r.Table} → Past xs n ts → length ts ≡ n
  past-length none = refl
  past-length (more x p) = ap suc (past-length p)

  record Stands (b : Book r) (s : State r.Table) : Type 0 where
    now : s.now ≡ table_after r b.standing
    past : Past b.standing b.number s.past

  stands-first : Stands (blank r) (fresh r)
  unfolding from
  stands-first = record { now = refl; past = none }

  stands-answer : (b : Book r) (s : State r.Table) (c : CallOf r) → Stands b s → answer r s c ≡ says r b c
  stands-answer b s (message x) h = ap (λ (t : r.Table). told r (r.judge t x)) h.now
  stands-answer b s (question q) h = ap (λ (t : r.Table). r.reply t q) h.now
  stands-answer b s step_back h = go h.past
    where
      go : {xs : List r.Message} {n : ℕ} {ts : List r.Table} → Past xs n ts → pop_says r ts ≡ back_says r n
      go none = refl
      go (more x p) = refl
  stands-answer b s steps h = ap r.offer (past-length h.past)

  stands_after : (j : ℕ) (b : Book r) (s : State r.Table) (c : CallOf r) → Stands b s → Stands (after r j b c) (become r j s c)
  stands_after j b s (message x) h = subst (λ (t : r.Table). Stands (after r j b (message x)) (moved r j s (r.judge t x))) (sym h.now) (go (r.judge (table_after r b.standing) x) refl)
    where
      go : (o : Outcome r.Table r.Answer) → r.judge (table_after r b.standing) x ≡ o → Stands (noted r j b x o) (moved r j s o)
      go (refuses a) e = h
      go (takes t) e = record {
        now = sym (from_end r.start b.standing x ∙ ap (next r (table_after r b.standing)) e);
        past = cut j (subst (λ (u : r.Table). Past (b.standing ++ (x ∷ [])) (suc b.number) (u ∷ s.past)) (sym h.now) (more x h.past));
      }
  stands_after j b s (question q) h = h
  stands_after j b s step_back h = go h.past h.now
    where
      go : {xs : List r.Message} {n : ℕ} {ts : List r.Table} → Past xs n ts → s.now ≡ table_after r xs → Stands (stepped_back r (record { standing = xs; number = n }) n) (popped r (record { now = s.now; past = ts }) ts)
      go none e = record { now = e; past = none }
      go (more {xs} {n} {ts} x p) e = record {
        now = ap (table_after r) (sym (without_end xs x));
        past = subst (λ (l : List r.Message). Past l n ts) (sym (without_end xs x)) p;
      }
  stands_after j b s steps h = h

  stands-all : (j : ℕ) (b : Book r) (s : State r.Table) (cs : List (CallOf r)) → Stands b s → outcomes r j s cs ≡ answers r j b cs
  unfolding outcomes answers
  stands-all j b s [] h = refl
  stands-all j b s (c ∷ cs) h =
      ap₂ (λ (a : r.Answer) (l : List r.Answer). a ∷ l) (stands-answer b s c h) (stands-all j (after r j b c) (become r j s c) cs (stands_after j b s c h))

  pub fresh-all : (j : ℕ) (cs : List (CallOf r)) → outcomes r j (fresh r) cs ≡ answers r j (blank r) cs
  fresh-all j cs = stands-all j (blank r) (fresh r) cs stands-first
