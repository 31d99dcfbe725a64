-- Paper 01, "The table": the plain book, and a state with steps back, over any rules, messages, questions and answers.
use Rattle.std.specs.Prelude.{ℕ, zero, suc, min, List, [], ◌∷◌, ◌++◌, length, take}

-- a message is refused, with all that its refusal tells, or taken, and the table is another then
pub data Outcome (Table Answer : Type 0) : Type 0 where
  refuses : Answer → Outcome Table Answer
  takes : Table → Outcome Table Answer

-- What the rules of a page say: the table with no devices and no last time, what a message makes of a table, what a question is
-- answered from it; and the answers that a message or a step back is taken, that no step is on offer, and that so many are.
pub record Rules : Type 1 where
  pub Message : Type 0
  pub Question : Type 0
  pub Table : Type 0
  pub Answer : Type 0
  pub start : Table
  pub judge : Table → Message → Outcome Table Answer
  pub reply : Table → Question → Answer
  pub taken : Answer
  pub none : Answer
  pub offer : ℕ → Answer

pub data Call (Message Question : Type 0) : Type 0 where
  message : Message → Call Message Question
  question : Question → Call Message Question
  step_back : Call Message Question
  steps : Call Message Question

abbrev pub CallOf : Rules → Type 0
CallOf r = Call r.Message r.Question

-- "Its table is what this page's rules .. make of those messages, one after another, from no devices and no last time."
abbrev pub next : (r : Rules) → r.Table → Outcome r.Table r.Answer → r.Table
next r t (refuses a) = t
next r t (takes t') = t'

unfoldable pub from : (r : Rules) → r.Table → List r.Message → r.Table
from r t [] = t
from r t (x ∷ xs) = from r (next r t (r.judge t x)) xs

abbrev pub table_after : (r : Rules) → List r.Message → r.Table
table_after r xs = from r r.start xs

-- "It holds the standing messages in order, at first none, and a number, at first 0."
pub record Book (r : Rules) : Type 0 where
  pub standing : List r.Message
  pub number : ℕ

abbrev pub blank : (r : Rules) → Book r
blank r = record { standing = []; number = 0 }

-- "message: judged against that table. If taken, it goes to the end and the number gains 1, up to J."
abbrev pub told : (r : Rules) → Outcome r.Table r.Answer → r.Answer
told r (refuses a) = a
told r (takes t) = r.taken

abbrev pub noted : (r : Rules) → ℕ → Book r → r.Message → Outcome r.Table r.Answer → Book r
noted r j b x (refuses a) = b
noted r j b x (takes t) = record { standing = b.standing ++ (x ∷ []); number = min j (suc b.number) }

-- "step back: 18 at number 0; else taken, the last message goes out, the number falls by 1."
unfoldable pub without_last : {A : Type 0} → List A → List A
without_last [] = []
without_last (x ∷ []) = []
without_last (x ∷ (y ∷ l)) = x ∷ without_last (y ∷ l)

abbrev pub back_says : (r : Rules) → ℕ → r.Answer
back_says r zero = r.none
back_says r (suc n) = r.taken

abbrev pub stepped_back : (r : Rules) → Book r → ℕ → Book r
stepped_back r b zero = b
stepped_back r b (suc n) = record { standing = without_last b.standing; number = n }

-- "any question ..: answered or refused from that table; steps on offer are the number." "Refusals and questions change nothing".
abbrev pub says : (r : Rules) → Book r → CallOf r → r.Answer
says r b (message x) = told r (r.judge (table_after r b.standing) x)
says r b (question q) = r.reply (table_after r b.standing) q
says r b step_back = back_says r b.number
says r b steps = r.offer b.number

abbrev pub after : (r : Rules) → ℕ → Book r → CallOf r → Book r
after r j b (message x) = noted r j b x (r.judge (table_after r b.standing) x)
after r j b (question q) = b
after r j b step_back = stepped_back r b b.number
after r j b steps = b

-- the book's answers to a list of calls, with at most j steps
unfoldable pub answers : (r : Rules) → ℕ → Book r → List (CallOf r) → List r.Answer
answers r j b [] = []
answers r j b (c ∷ cs) = says r b c ∷ answers r j (after r j b c) cs

-- What memory means: the table now, and the tables that steps back lead to, the last one first.
pub record State (Table : Type 0) : Type 0 where
  pub now : Table
  pub past : List Table

abbrev pub fresh : (r : Rules) → State r.Table
fresh r = record { now = r.start; past = [] }

-- a taken message: the table before it is one step back, of at most j
abbrev pub moved : (r : Rules) → ℕ → State r.Table → Outcome r.Table r.Answer → State r.Table
moved r j s (refuses a) = s
moved r j s (takes t) = record { now = t; past = take j (s.now ∷ s.past) }

abbrev pub pop_says : (r : Rules) → List r.Table → r.Answer
pop_says r [] = r.none
pop_says r (t ∷ ts) = r.taken

abbrev pub popped : (r : Rules) → State r.Table → List r.Table → State r.Table
popped r s [] = s
popped r s (t ∷ ts) = record { now = t; past = ts }

-- the answer to a call, and the state after it
abbrev pub answer : (r : Rules) → State r.Table → CallOf r → r.Answer
answer r s (message x) = told r (r.judge s.now x)
answer r s (question q) = r.reply s.now q
answer r s step_back = pop_says r s.past
answer r s steps = r.offer (length s.past)

abbrev pub become : (r : Rules) → ℕ → State r.Table → CallOf r → State r.Table
become r j s (message x) = moved r j s (r.judge s.now x)
become r j s (question q) = s
become r j s step_back = popped r s s.past
become r j s steps = s

unfoldable pub outcomes : (r : Rules) → ℕ → State r.Table → List (CallOf r) → List r.Answer
outcomes r j s [] = []
outcomes r j s (c ∷ cs) = answer r s c ∷ outcomes r j (become r j s c) cs

-- A run: calls made one after the other on a memory, each as the relation Did says, with their answers.
pub data Run (r : Rules) {M : Type 0} (Did : CallOf r → M → M → r.Answer → Type 0) : M → List (CallOf r) → List r.Answer → M → Type 0 where
  done : {m : M} → Run r Did m [] [] m
  call : {m m' m'' : M} {c : CallOf r} {a : r.Answer} {cs : List (CallOf r)} {vs : List r.Answer} → Did c m m' a → Run r Did m' cs vs m'' → Run r Did m (c ∷ cs) (a ∷ vs) m''
