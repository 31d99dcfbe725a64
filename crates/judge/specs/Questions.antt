-- docs/PROGRAMS.md: the questions of a line, and their answers.
use Rattle.std.specs.Prelude.{ℕ, List, Bool, cond, eqb, length}
use Rattle.answer.specs.Answer.{gives}
use Rattle.text.specs.Ascii.{ascii}
use Rattle.text.specs.Bytes.{eq_bytes}
use Rattle.text.specs.Ids.{is_id}
use Rattle.text.specs.Utf8.{is_text}
use Rattle.lines.specs.Words.{word_at, word_count}
use Rattle.lines.specs.Hex.{bytes_of}
use Rattle.lines.specs.Number.{number_of}
use Rattle.lines.specs.Flag.{flag_of}
use Rattle.topic.specs.Topics.{read_topic}
use Rattle.payload.specs.Datatypes.{datatype_named}
use Rattle.payload.specs.Formats.{is_format}
use Rattle.payload.specs.Payloads.{is_payload}
use Rattle.description.specs.Description.{describe}
use Rattle.trace.specs.Calls.{checked, read_at, appended, after, event}
use Rattle.judge.specs.Texts.{unknown, given, yes_or_no, told, events_text, form_text, event_text, used_text}

-- "`id HEX`", "`utf8 HEX`", "`trace HEX`"
unfoldable pub of_bytes : List ℕ → List ℕ → List ℕ
of_bytes verb b =
    cond (eq_bytes verb (ascii "id")) (yes_or_no (is_id b))
    (cond (eq_bytes verb (ascii "utf8")) (yes_or_no (is_text b))
    (cond (eq_bytes verb (ascii "trace")) (told events_text (checked b))
    unknown))

-- "`topic DOMAINHEX TOPICHEX` → the form's name and its IDs as text [..] or `refused 8` or `refused 9`"
unfoldable pub of_topic : List ℕ → List ℕ → List ℕ
of_topic domain topic = told form_text (read_topic domain topic)

-- "`description OWNHEX HEX` → `yes` or `refused N PLACE`"
unfoldable pub of_description : List ℕ → List ℕ → List ℕ
of_description own s = told (λ d. ascii "yes") (describe own s)

-- "`event HEX I`"
unfoldable pub of_event : List ℕ → ℕ → List ℕ
of_event file i = told event_text (read_at file i)

-- "`append BUFFERHEX USED TIME TOPICHEX 0|1 PAYLOADHEX` → `used N BUFFERHEX` (the whole buffer afterwards) or `refused N`"
unfoldable pub of_append : List ℕ → ℕ → ℕ → List ℕ → Bool → List ℕ → List ℕ
of_append m used time topic retained payload =
    told (λ file. used_text (after m (gives file)) (length file)) (appended m used (event time topic retained payload))

-- the words of each question
unfoldable pub topic_line : List ℕ → List ℕ → List ℕ
topic_line a b = given (bytes_of a) (λ domain. given (bytes_of b) (of_topic domain))

unfoldable pub description_line : List ℕ → List ℕ → List ℕ
description_line a b = given (bytes_of a) (λ own. given (bytes_of b) (of_description own))

-- "`format TYPE HEX` → `yes` or `no`"
unfoldable pub format_line : List ℕ → List ℕ → List ℕ
format_line a b = given (datatype_named a) (λ d. given (bytes_of b) (λ f. yes_or_no (is_format d f)))

unfoldable pub event_line : List ℕ → List ℕ → List ℕ
event_line a b = given (bytes_of a) (λ file. given (number_of b) (of_event file))

-- "`payload TYPE FORMATHEX HEX` → `yes` or `no`"
unfoldable pub payload_line : List ℕ → List ℕ → List ℕ → List ℕ
payload_line a b c = given (datatype_named a) (λ d. given (bytes_of b) (λ f. given (bytes_of c) (λ s. yes_or_no (is_payload d f s))))

unfoldable pub append_event : List ℕ → ℕ → List ℕ → List ℕ → List ℕ → List ℕ → List ℕ
append_event m used t a f b =
    given (number_of t) (λ time. given (bytes_of a) (λ topic. given (flag_of f) (λ retained. given (bytes_of b) (of_append m used time topic retained))))

unfoldable pub append_line : List ℕ → List ℕ → List ℕ → List ℕ → List ℕ → List ℕ → List ℕ
append_line m u t a f b = given (bytes_of m) (λ buffer. given (number_of u) (λ used. append_event buffer used t a f b))

-- lines of two, three, four and seven words
unfoldable pub two : List ℕ → List ℕ → List ℕ
two verb a = given (bytes_of a) (of_bytes verb)

unfoldable pub three : List ℕ → List ℕ → List ℕ → List ℕ
three verb a b =
    cond (eq_bytes verb (ascii "topic")) (topic_line a b)
    (cond (eq_bytes verb (ascii "description")) (description_line a b)
    (cond (eq_bytes verb (ascii "format")) (format_line a b)
    (cond (eq_bytes verb (ascii "event")) (event_line a b)
    unknown)))

unfoldable pub four : List ℕ → List ℕ → List ℕ → List ℕ → List ℕ
four verb a b c = cond (eq_bytes verb (ascii "payload")) (payload_line a b c) unknown

unfoldable pub seven : List ℕ → List ℕ → List ℕ → List ℕ → List ℕ → List ℕ → List ℕ → List ℕ
seven verb m u t a f b = cond (eq_bytes verb (ascii "append")) (append_line m u t a f b) unknown

-- the same by the words of a line
abbrev pub two_words : List ℕ → List ℕ
two_words line = two (word_at line 0) (word_at line 1)

abbrev pub three_words : List ℕ → List ℕ
three_words line = three (word_at line 0) (word_at line 1) (word_at line 2)

abbrev pub four_words : List ℕ → List ℕ
four_words line = four (word_at line 0) (word_at line 1) (word_at line 2) (word_at line 3)

abbrev pub seven_words : List ℕ → List ℕ
seven_words line = seven (word_at line 0) (word_at line 1) (word_at line 2) (word_at line 3) (word_at line 4) (word_at line 5) (word_at line 6)

abbrev pub append_words : List ℕ → List ℕ
append_words line = append_line (word_at line 1) (word_at line 2) (word_at line 3) (word_at line 4) (word_at line 5) (word_at line 6)

abbrev pub event_words : List ℕ → ℕ → List ℕ → List ℕ
event_words buffer used line = append_event buffer used (word_at line 3) (word_at line 4) (word_at line 5) (word_at line 6)

-- "reads lines [..] and answers one line each. Words are parted by one space"
unfoldable pub answer_to : List ℕ → List ℕ
answer_to line =
    cond (eqb (word_count line) 2) (two_words line)
    (cond (eqb (word_count line) 3) (three_words line)
    (cond (eqb (word_count line) 4) (four_words line)
    (cond (eqb (word_count line) 7) (seven_words line)
    unknown)))
