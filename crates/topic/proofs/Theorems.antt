-- What crate `topic` promises beyond the contracts of its functions. Paper 01, "Topics".
use Rattle.std.specs.Prelude.{Result}
use Rattle.answer.specs.declared.Refused.{Refused}
use Prim.Native.Nat.{ℕ}
use mathlib.Core.Path.{◌≡◌}
use mathlib.Core.List.{List, ◌∷◌}
use mathlib.Core.Logic.{◌↔◌}
use mathlib.Core.Bool.{true}
use Rattle.answer.specs.Answer.{Answer, refused, gives, only}
use Rattle.text.specs.Split.{split}
use Rattle.text.specs.Ids.{is_id}
use Rattle.topic.specs.Words.{slash, five}
use Rattle.topic.specs.Form.{Form}
use Rattle.topic.specs.Topics.{form_of, read_topic}
use Rattle.topic.specs.Table.{HasForm, HasTopicForm}
use Rattle.topic.specs.Writing.{write_topic, valid}
use Rattle.topic.specs.Meaning.{Shows}
use Rattle.topic.specs.declared.Topic.{Topic}
use Rattle.topic.proofs.Table.{complete, sound}
use Rattle.topic.proofs.Reading.{no-form, nine-none, read-gives, gives-read, read_eight, eight-read, read_nine, nine-read}
use Rattle.topic.proofs.Writing.{id-free, read-written, written, read-valid}
use Rattle.topic.proofs.Settled.{shows-settled}

-- The table: a row of it admits the levels, with those IDs, exactly where the definition gives that form.
pub table : (ls : List (List ℕ)) (f : Form) → (form_of ls ≡ gives f) ↔ HasForm ls f
table ls f = (sound ls f, complete)

-- No row admits them: 9.
pub table_none : (ls : List (List ℕ)) → (form_of ls ≡ refused (only 9)) ↔ ((f : Form) → HasForm ls f → ⊥)
table_none ls = (λ e f. nine-none ls f e, no-form ls)

-- No levels have two forms.
pub one_form : {ls : List (List ℕ)} {f g : Form} → HasForm ls f → HasForm ls g → f ≡ g
one_form h k = let p = complete h in let q = complete k in cc

-- "The first two levels must be that domain and `5`": else 8.
pub topic_eight : (d t : List ℕ) → (read_topic d t ≡ refused (only 8)) ↔ ((ls : List (List ℕ)) → split slash t ≡ d ∷ five ∷ ls → ⊥)
topic_eight d t = (read_eight d t, eight-read d t)

-- They are, and no row admits the rest: 9.
pub topic_nine : (d t : List ℕ) → (read_topic d t ≡ refused (only 9)) ↔ ((ls : List (List ℕ)) × (split slash t ≡ d ∷ five ∷ ls) × ((f : Form) → HasForm ls f → ⊥))
topic_nine d t = (read_nine d t, λ h. nine-read d t h.0 h.1 h.2)

-- They are, and a row admits the rest: that form.
pub topic-form : (d t : List ℕ) (f : Form) → (read_topic d t ≡ gives f) ↔ HasTopicForm d t f
topic-form d t f = (read-gives d t f, gives-read d t f)

-- No topic has two forms.
pub one-topic-form : (d t : List ℕ) (f g : Form) → HasTopicForm d t f → HasTopicForm d t g → f ≡ g
one-topic-form d t f g h k = let p = gives-read d t f h in let q = gives-read d t g k in cc

-- The topic written for a form with valid IDs and levels is read as that form.
pub read_write : (d : List ℕ) (f : Form) → is_id d ≡ true → valid f ≡ true → read_topic d (write_topic d f) ≡ gives f
read_write d f h k = read-written d f (id-free d h) k

-- What is read as a form is the topic written for it, and its IDs and levels are valid.
pub write_read : (d t : List ℕ) (f : Form) → read_topic d t ≡ gives f → (write_topic d f ≡ t) × (valid f ≡ true)
write_read d t f e = let h = read-gives d t f e in (written d t f h, read-valid d t f h)

-- The contract of `read` settles its answer: which form, and each place.
pub settled : (topic : List ℕ) (at : ℕ) (x : Answer Form) (r r' : Result Topic Refused) → Shows topic at x r → Shows topic at x r' → r ≡ r'
settled = shows-settled
