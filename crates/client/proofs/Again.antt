-- A message sent again after a step back has the answer that it had.
use Rattle.std.specs.Prelude.{Result, Ok, Err}
use Prim.Native.Nat.{ℕ}
use mathlib.Core.Path.{◌≡◌, refl, sym, ap, ap₂, ◌∙◌, subst}
use mathlib.Core.List.{List, [], ◌∷◌}
use mathlib.Core.Bool.{Bool, true, false, false≢true}
use lib.ListN.{length, get_or, drop}
use Rattle.answer.specs.Answer.{Answer, refused, gives, only}
use Rattle.book.specs.Book as book
use Rattle.book.specs.Book.{Call, State, fresh, moved, become, refuses, takes, Rules, message, step_back, question, next, from, table_after, blank, told, noted, without_last, after, answers, done, call}
use Rattle.rules.specs.Table.{Table, no_devices}
use Rattle.rules.specs.Messages as messages
use Rattle.rules.specs.Questions.{Question, Value, taken, ask_count, reply}
use Rattle.rules.specs.Rules.{rules, outcome}
use Rattle.memory.specs.Layout.{size, image_at}
use Rattle.memory.specs.State.{state}
use Rattle.lookup.specs.Meaning.{Sound, Opening, opening_of, means}
use Rattle.lookup.specs.Contract.{Did, Opened, says_taken, is_taken, is_openable, open_answer}
use Rattle.lookup.proofs.Demand.{reversible}
use Rattle.table.specs.declared.Error.{Error}
use Rattle.table.specs.Outcome.{said}
use Rattle.questions.specs.Meaning.{says_number}
use Rattle.answer.specs.declared.Refused.TheVariants.{BadOpening}
use Rattle.client.specs.Sent.{SentTwice}

-- the book is blank again
module _ (r : Rules) (x : r.Message) (q : r.Question) where
  back : (o : book.Outcome r.Table r.Answer) → after r 3 (noted r 3 (blank r) x o) step_back ≡ blank r
  unfolding without_last
  back (refuses a) = refl
  back (takes t) = refl

  -- and so is what memory means
  pub undo : (o : book.Outcome r.Table r.Answer) → become r 3 (moved r 3 (fresh r) o) step_back ≡ fresh r
  undo (refuses a) = refl
  undo (takes t) = refl

  pub first_said : (z : r.Answer) → get_or (answers r 3 (blank r) (message x ∷ step_back ∷ message x ∷ question q ∷ [])) 0 z ≡ told r (r.judge r.start x)
  unfolding answers from
  first_said z = refl

  pub again-said : (z : r.Answer) → get_or (answers r 3 (blank r) (message x ∷ step_back ∷ message x ∷ question q ∷ [])) 2 z ≡ told r (r.judge r.start x)
  unfolding answers from
  again-said z = ap (λ b. told r (r.judge (table_after r b.standing) x)) (back (r.judge r.start x))

  -- the table of a book with that message alone
  noted-table : (o : book.Outcome r.Table r.Answer) → o ≡ r.judge r.start x → table_after r (noted r 3 (blank r) x o).standing ≡ next r r.start (r.judge r.start x)
  unfolding from
  noted-table (refuses a) e = ap (next r r.start) e
  noted-table (takes t) e = refl

  pub count-said : (z : r.Answer) → get_or (answers r 3 (blank r) (message x ∷ step_back ∷ message x ∷ question q ∷ [])) 3 z ≡ r.reply (next r r.start (r.judge r.start x)) q
  unfolding answers from
  count-said z =
      ap (λ b. r.reply (table_after r (after r 3 b (message x)).standing) q) (back (r.judge r.start x))
      ∙ ap (λ t. r.reply t q) (noted-table (r.judge r.start x) refl)

module _ {m₀ m₁ m₂ m₃ m₄ domain : List ℕ} {x : messages.Message} {a first undone again count : Answer Value} (o : Opened m₀ domain 4 3 m₁ a) (t : is_taken a ≡ true) (p : Did (message x) m₁ m₂ first) (q : Did step_back m₂ m₃ undone) (s : Did (message x) m₃ m₄ again) (k : Did (question ask_count) m₄ m₄ count) where
  all : first ∷ undone ∷ again ∷ count ∷ [] ≡ answers (rules domain 4) 3 (blank (rules domain 4)) (message x ∷ step_back ∷ message x ∷ question ask_count ∷ [])
  all = reversible o t (call p (call q (call s (call k done))))

  first_is : first ≡ told (rules domain 4) (outcome (messages.message domain 4 no_devices x))
  first_is = ap (λ (l : List (Answer Value)). get_or l 0 (gives taken)) all ∙ first_said (rules domain 4) x ask_count (gives taken)

  again_is : again ≡ first
  again_is = ap (λ (l : List (Answer Value)). get_or l 2 (gives taken)) all ∙ again-said (rules domain 4) x ask_count (gives taken) ∙ sym first_is

  count_is : count ≡ reply (next (rules domain 4) no_devices (outcome (messages.message domain 4 no_devices x))) ask_count
  count_is = ap (λ (l : List (Answer Value)). get_or l 3 (gives taken)) all ∙ count-said (rules domain 4) x ask_count (gives taken)

  -- the opening of each memory, and what it means
  o₁ : opening_of m₁ ≡ record { domain = domain; devices = 4; depth = 3 }
  o₁ = o.opening t

  s₁ : Sound m₁
  s₁ = o.sound t

  s₂ : Sound m₂
  s₂ = p.sound s₁

  o₂ : opening_of m₂ ≡ record { domain = domain; devices = 4; depth = 3 }
  o₂ = p.opening s₁ ∙ o₁

  s₃ : Sound m₃
  s₃ = q.sound s₂

  o₃ : opening_of m₃ ≡ record { domain = domain; devices = 4; depth = 3 }
  o₃ = q.opening s₂ ∙ o₂

  sound : Sound m₄
  sound = s.sound s₃

  turned : (c : Call messages.Message Question) (m : List ℕ) → opening_of m ≡ record { domain = domain; devices = 4; depth = 3 } → (w : State Table) → means m ≡ w → become (rules (opening_of m).domain (opening_of m).devices) (opening_of m).depth (means m) c ≡ become (rules domain 4) 3 w c
  turned c m e w f = ap₂ (λ (i : Opening) (v : State Table). become (rules i.domain i.devices) i.depth v c) e f

  meant : means m₄ ≡ become (rules domain 4) 3 (fresh (rules domain 4)) (message x)
  meant =
      let a₂ : means m₂ ≡ become (rules domain 4) 3 (fresh (rules domain 4)) (message x) = p.moved s₁ ∙ turned (message x) m₁ o₁ _ (o.fresh t) in
      let a₃ : means m₃ ≡ fresh (rules domain 4) = q.moved s₂ ∙ turned step_back m₂ o₂ _ a₂ ∙ undo (rules domain 4) x ask_count (outcome (messages.message domain 4 no_devices x)) in
      s.moved s₃ ∙ turned (message x) m₃ o₃ _ a₃

  past : (m m' : List ℕ) → opening_of m ≡ record { domain = domain; devices = 4; depth = 3 } → drop (size m) m' ≡ drop (size m) m → drop (image_at 4 3) m' ≡ drop (image_at 4 3) m
  unfolding opening_of state
  past m m' e f = subst (λ (i : Opening). drop (image_at i.devices i.depth) m' ≡ drop (image_at i.devices i.depth) m) e f

  beyond : drop (image_at 4 3) m₄ ≡ drop (image_at 4 3) m₀
  beyond = past m₃ m₄ o₃ s.beyond ∙ past m₂ m₃ o₂ q.beyond ∙ past m₁ m₂ o₁ p.beyond ∙ o.beyond

  kept : length m₄ ≡ length m₀
  kept = s.kept ∙ q.kept ∙ p.kept ∙ o.kept

-- an opening that is taken, or refused
opened : (b : Bool) → is_taken (open_answer b) ≡ b
unfolding open_answer is_taken says_taken
opened true = refl
opened false = refl

taken_open : {m₀ m₁ domain : List ℕ} {a : Answer Value} → Opened m₀ domain 4 3 m₁ a → is_taken a ≡ is_openable domain 4 3 (length m₀)
taken_open {m₀} {m₁} {domain} o = ap is_taken o.answered ∙ opened (is_openable domain 4 3 (length m₀))

-- an outcome that is not the first of the three
not_taken : (r : Result Unit Error) → ((u : Unit) → r ≡ Ok u → ⊥) → is_taken (said r) ≡ false
unfolding is_taken
not_taken (Ok tt) k = absurd (k tt refl)
not_taken (Err e) k = refl

pub refused-right : (m₀ m₁ domain : List ℕ) (x : messages.Message) (r : Result Unit Error) → Opened m₀ domain 4 3 m₁ (said r) → ((u : Unit) → r ≡ Ok u → ⊥) → SentTwice m₀ domain x m₁ (said r) (said r) (says_number (Err BadOpening))
unfolding is_taken open_answer says_number
refused-right m₀ m₁ domain x r o k =
    let t = not_taken r k in
    let f : is_openable domain 4 3 (length m₀) ≡ false = sym (taken_open o) ∙ t in
    let s : said r ≡ refused (only 5) = o.answered ∙ ap open_answer f in
    record { unopened = λ h. (s, s, refl, o.refused t); judged = λ h. absurd (false≢true (sym f ∙ h)); alike = λ h. refl; counted = λ h. absurd (false≢true (sym f ∙ h)); sound = λ h. absurd (false≢true (sym f ∙ h)); means = λ h. absurd (false≢true (sym f ∙ h)); kept = o.kept; beyond = o.beyond }

pub sent-right : (m₀ m₁ m₂ m₃ m₄ domain : List ℕ) (x : messages.Message) (r : Result Unit Error) (first undone again count : Answer Value) → Opened m₀ domain 4 3 m₁ (said r) → {u : Unit} → r ≡ Ok u → Did (message x) m₁ m₂ first → Did step_back m₂ m₃ undone → Did (message x) m₃ m₄ again → Did (question ask_count) m₄ m₄ count → SentTwice m₀ domain x m₄ first again count
unfolding is_taken says_taken
sent-right m₀ m₁ m₂ m₃ m₄ domain x r first undone again count o e p q s k =
    let t : is_taken (said r) ≡ true = ap (λ (y : Result Unit Error). is_taken (said y)) e in
    record { unopened = λ h. absurd (false≢true (sym h ∙ sym (taken_open o) ∙ t)); judged = λ h. first_is o t p q s k; alike = λ h. again_is o t p q s k; counted = λ h. count_is o t p q s k; sound = λ h. sound o t p q s k; means = λ h. meant o t p q s k; kept = kept o t p q s k; beyond = beyond o t p q s k }
