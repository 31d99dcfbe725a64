-- What each call promises of the answer that it shows, and of the memory that it is lent. Reading a trace: `Read` of crate trace, `Stepped` of crate cursor.
use Rattle.std.specs.Prelude.{ℕ, ◌≡◌, List, length, Result, Ok, Err, Option}
use Rattle.answer.specs.declared.Refused.{Refused}
use Rattle.text.specs.declared.Place.{Place}
use Rattle.device.specs.declared.Declared.{Declared}
use Rattle.device.specs.declared.Lane.{Lane}
use Rattle.questions.specs.declared.States.{States}
use Rattle.trace.specs.Calls.{meaning_checked, checked, Wrote, emptied, appended, event}
use Rattle.topic.specs.declared.Topic.{Topic}
use Rattle.topic.specs.Topics.{read_topic}
use Rattle.topic.specs.Meaning.{Shows, rest_of}
use Rattle.payload.specs.declared.Datatype.{Datatype}
use Rattle.payload.specs.declared.Format.{Format}
use Rattle.payload.specs.Datatypes.{datatype_at, datatype_named}
use Rattle.payload.specs.Formats.{kept_bytes, kept_format, given_format}
use Rattle.description.specs.declared.Description.{Description}
use Rattle.description.specs.Description.{describe}
use Rattle.description.specs.Meaning.{meaning}
use Rattle.book.specs.Book.{message, step_back, question, steps}
use Rattle.rules.specs.Questions.{ask_count, ask_nth, ask_states, ask_root, ask_parent, ask_version, ask_filled, ask_property, ask_lane, ask_last}
use Rattle.lookup.specs.Contract.{Did, Opened}
use Rattle.verdict.specs.Verdict.{sent}
use Rattle.table.specs.declared.Error.{Error}
use Rattle.table.specs.Outcome.{said, offer}
use Rattle.questions.specs.Meaning.{says_number, says_id, says_states, says_relative, says_version, says_property, says_held, says_time, IdInside, RelativeInside, PropertyInside, HeldInside, Asked}
use Rattle.reply.specs.Reply.{is_set}
use Rattle.viewer.specs.Lanes.{kind_at}

-- ---- trace files

abbrev pub Checks : (file : List ℕ) → Result ℕ Refused → Type 0
Checks file a = meaning_checked a ≡ checked file

abbrev pub Empties : (buf buf' : List ℕ) → Result ℕ Refused → Type 0
Empties buf buf' a = Wrote buf (emptied buf) a buf'

abbrev pub Appends : (buf : List ℕ) (used time : ℕ) (topic : List ℕ) (retained : ℕ) (payload buf' : List ℕ) → Result ℕ Refused → Type 0
Appends buf used time topic retained payload buf' a = Wrote buf (appended buf used (event time topic (is_set retained) payload)) a buf'

-- ---- topics, datatypes, formats, descriptions

abbrev pub ReadsTopic : (domain topic : List ℕ) → Result Topic Refused → Type 0
ReadsTopic domain topic a = Shows topic (rest_of domain) (read_topic domain topic) a

abbrev pub NamesDatatype : (name : List ℕ) → Option Datatype → Type 0
NamesDatatype name a = a ≡ datatype_named name

abbrev pub KeepsFormat : (datatype given : ℕ) (format : List ℕ) → Option Format → Type 0
KeepsFormat datatype given format a = kept_bytes format a ≡ kept_format (datatype_at datatype) (given_format (is_set given) format)

abbrev pub ReadsDescription : (own text : List ℕ) → Description → Type 0
ReadsDescription own text a = meaning text a ≡ describe own text

-- ---- the table

abbrev pub OpensTable : (mem domain : List ℕ) (devices depth : ℕ) (mem' : List ℕ) → Result Unit Error → Type 0
OpensTable mem domain devices depth mem' a = Opened mem domain devices depth mem' (said a)

abbrev pub Sends : (mem : List ℕ) (time : ℕ) (topic : List ℕ) (retained : ℕ) (payload mem' : List ℕ) → Result Unit Error → Type 0
Sends mem time topic retained payload mem' a = Did (message (sent time topic (is_set retained) payload)) mem mem' (said a)

abbrev pub StepsBack : (mem mem' : List ℕ) → Result Unit Error → Type 0
StepsBack mem mem' a = Did step_back mem mem' (said a)

abbrev pub OffersSteps : (mem : List ℕ) → Result ℕ Refused → Type 0
OffersSteps mem a = Did steps mem mem (offer a)

-- ---- questions: "A question alters nothing"; where byte strings are shown, all places lie in the memory

abbrev pub DeviceCount : (mem : List ℕ) → Result ℕ Refused → Type 0
DeviceCount mem a = Did (question ask_count) mem mem (says_number a)

abbrev pub DeviceAt : (mem : List ℕ) (i : ℕ) → Result Place Refused → Type 0
DeviceAt mem i a = Asked (ask_nth i) mem (says_id mem a) (IdInside (length mem) a)

abbrev pub StatesOf : (mem id : List ℕ) → Result States Refused → Type 0
StatesOf mem id a = Did (question (ask_states id)) mem mem (says_states a)

abbrev pub RootOf : (mem id : List ℕ) → Result (Option Place) Refused → Type 0
RootOf mem id a = Asked (ask_root id) mem (says_relative mem a) (RelativeInside (length mem) a)

abbrev pub ParentOf : (mem id : List ℕ) → Result (Option Place) Refused → Type 0
ParentOf mem id a = Asked (ask_parent id) mem (says_relative mem a) (RelativeInside (length mem) a)

abbrev pub VersionOf : (mem id : List ℕ) → Result (Option ℕ) Refused → Type 0
VersionOf mem id a = Did (question (ask_version id)) mem mem (says_version a)

abbrev pub ValuesHeld : (mem id : List ℕ) → Result ℕ Refused → Type 0
ValuesHeld mem id a = Did (question (ask_filled id)) mem mem (says_number a)

abbrev pub PropertyOf : (mem id : List ℕ) (i : ℕ) → Result Declared Refused → Type 0
PropertyOf mem id i a = Asked (ask_property id i) mem (says_property mem a) (PropertyInside (length mem) a)

abbrev pub LaneOf : (mem id node property : List ℕ) (kind : ℕ) → Result (Option Lane) Refused → Type 0
LaneOf mem id node property kind a = Asked (ask_lane id node property (kind_at kind)) mem (says_held mem a) (HeldInside (length mem) a)

abbrev pub LastTime : (mem : List ℕ) → Result (Option ℕ) Refused → Type 0
LastTime mem a = Did (question ask_last) mem mem (says_time a)
