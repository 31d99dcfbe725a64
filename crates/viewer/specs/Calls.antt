-- The calls that return 0 or the number of a refusal: what each promises of its answer, the number that it returns of it, and what the answer says in the paper's terms.
use Rattle.std.specs.Prelude.{ℕ, ◌≡◌, List}
use Rattle.answer.specs.Answer.{Answer, and_then}
use Rattle.trace.specs.Calls.{meaning_checked, meaning_reading, Read, meaning_written}
use Rattle.cursor.specs.Cursor.{Stepped}
use Rattle.topic.specs.Topics.{read_topic}
use Rattle.topic.specs.Meaning as topics
use Rattle.description.specs.Description.{describe}
use Rattle.description.specs.Meaning as descriptions
use Rattle.rules.specs.Questions.{at}
use Rattle.table.specs.Outcome.{said, offer}
use Rattle.questions.specs.Meaning.{says_number, says_id, says_states, says_relative, says_version, says_property, says_held, says_time}
use Rattle.reply.specs.Reply.{refusal_number}
use Rattle.reply.specs.Files.{show_checked, show_reading, show_step, show_written}
use Rattle.reply.specs.Judgements.{show_topic, show_flag}
use Rattle.reply.specs.Descriptions.{show_description, show_declared}
use Rattle.reply.specs.Strings.{string_in, show_string}
use Rattle.reply.specs.Answers.{outcome_number, show_offer, show_number, show_id, show_states, show_relative, show_version, show_property, show_held, show_time}
use Rattle.viewer.specs.Promises.{Checks, Empties, Appends, ReadsTopic, ReadsDescription, OpensTable, Sends, StepsBack, OffersSteps, DeviceCount, DeviceAt, StatesOf, RootOf, ParentOf, VersionOf, ValuesHeld, PropertyOf, LaneOf, LastTime}

pub data NumberedCall : (A B : Type 0) → (A → Type 0) → (A → ℕ) → (A → Answer B) → Type 1 where
  trace_check : (file : List ℕ) → NumberedCall _ _ (Checks file) (λ a. (show_checked a).number) meaning_checked
  trace-read : (file : List ℕ) (i : ℕ) → NumberedCall _ _ (Read file i) (λ a. (show_reading a).number) (meaning_reading file)
  trace-next : (file : List ℕ) (place : ℕ) → NumberedCall _ _ (Stepped file place) (λ a. (show_step a).number) (λ a. meaning_reading file a.reading)
  trace_empty : (buf buf' : List ℕ) → NumberedCall _ _ (Empties buf buf') (λ a. (show_written a).number) meaning_written
  trace-append : (buf : List ℕ) (used time : ℕ) (topic : List ℕ) (retained : ℕ) (payload buf' : List ℕ) → NumberedCall _ _ (Appends buf used time topic retained payload buf') (λ a. (show_written a).number) meaning_written
  topic-read : (domain topic : List ℕ) → NumberedCall _ _ (ReadsTopic domain topic) (λ a. (show_topic a).number) (topics.meaning topic)
  topic-flag : (domain topic : List ℕ) → NumberedCall _ _ (λ a. a ≡ read_topic domain topic) (λ a. (show_flag a).number) (λ a. a)
  description-judge : (own text : List ℕ) → NumberedCall _ _ (λ a. a ≡ describe own text) refusal_number (λ a. a)
  description-read : (own text : List ℕ) → NumberedCall _ _ (ReadsDescription own text) (λ a. (show_description a).number) (descriptions.meaning text)
  description-property : (own text : List ℕ) (i : ℕ) → NumberedCall _ _ (ReadsDescription own text) (λ a. (show_declared text a i).number) (λ a. and_then (descriptions.meaning text a) (λ d. at i d.properties))
  description-string : (text : List ℕ) (place : ℕ) → NumberedCall _ _ (λ a. a ≡ string_in text place) (λ a. (show_string a).number) (λ a. a)
  opening : (mem domain : List ℕ) (devices depth : ℕ) (mem' : List ℕ) → NumberedCall _ _ (OpensTable mem domain devices depth mem') outcome_number said
  message : (mem : List ℕ) (time : ℕ) (topic : List ℕ) (retained : ℕ) (payload mem' : List ℕ) → NumberedCall _ _ (Sends mem time topic retained payload mem') outcome_number said
  step_back : (mem mem' : List ℕ) → NumberedCall _ _ (StepsBack mem mem') outcome_number said
  device-count : (mem : List ℕ) → NumberedCall _ _ (DeviceCount mem) (λ a. (show_number a).number) says_number
  device_at : (mem : List ℕ) (i : ℕ) → NumberedCall _ _ (DeviceAt mem i) (λ a. (show_id a).number) (says_id mem)
  states : (mem id : List ℕ) → NumberedCall _ _ (StatesOf mem id) (λ a. (show_states a).number) says_states
  root : (mem id : List ℕ) → NumberedCall _ _ (RootOf mem id) (λ a. (show_relative a).number) (says_relative mem)
  parent : (mem id : List ℕ) → NumberedCall _ _ (ParentOf mem id) (λ a. (show_relative a).number) (says_relative mem)
  version : (mem id : List ℕ) → NumberedCall _ _ (VersionOf mem id) (λ a. (show_version a).number) says_version
  values_held : (mem id : List ℕ) → NumberedCall _ _ (ValuesHeld mem id) (λ a. (show_number a).number) says_number
  property : (mem id : List ℕ) (i : ℕ) → NumberedCall _ _ (PropertyOf mem id i) (λ a. (show_property a).number) (says_property mem)
  lane : (mem id node property : List ℕ) (kind : ℕ) → NumberedCall _ _ (LaneOf mem id node property kind) (λ a. (show_held a).number) (says_held mem)
  last-time : (mem : List ℕ) → NumberedCall _ _ (LastTime mem) (λ a. (show_time a).number) says_time
  steps : (mem : List ℕ) → NumberedCall _ _ (OffersSteps mem) (λ a. (show_offer a).number) offer
