-- Each question of a line, as its words show it.
use Rattle.std.specs.Prelude.{None, Some}
use Prim.Native.Nat.{ℕ}
use mathlib.Core.Path.{◌≡◌}
use mathlib.Core.List.{List}
use mathlib.Core.Bool.{Bool, true, false}
use borrow.Author.Tests.{eq-eqb, ne_eqb}
use Rattle.text.specs.Ascii.{ascii}
use Rattle.text.specs.Bytes.{eq_bytes}
use Rattle.text.specs.Ids.{is_id}
use Rattle.text.specs.Utf8.{is_text}
use Rattle.trace.specs.Calls.{checked}
use Rattle.lines.specs.Words.{word_at, word_count}
use Rattle.lines.specs.Hex.{bytes_of}
use Rattle.lines.specs.Number.{number_of}
use Rattle.lines.specs.Flag.{flag_of}
use Rattle.payload.specs.declared.Datatype.{Datatype}
use Rattle.payload.specs.Datatypes.{datatype_named}
use Rattle.payload.specs.Formats.{is_format}
use Rattle.payload.specs.Payloads.{is_payload}
use Rattle.judge.specs.Texts.{unknown, given, yes_or_no, told, events_text}
use Rattle.judge.specs.Questions.{of_bytes, of_topic, of_description, of_event, of_append, topic_line, description_line, format_line, event_line, payload_line, append_event, append_line, two, three, four, seven, answer_to}

module _ (v b : List ℕ) where
  pub bytes-id : true ≡ eq_bytes v (ascii "id") → yes_or_no (is_id b) ≡ of_bytes v b
  unfolding of_bytes
  bytes-id e0 = rw (← e0)

  pub bytes-utf8 : false ≡ eq_bytes v (ascii "id") → true ≡ eq_bytes v (ascii "utf8") → yes_or_no (is_text b) ≡ of_bytes v b
  unfolding of_bytes
  bytes-utf8 e0 e1 = rw (← e0, ← e1)

  pub bytes_trace : false ≡ eq_bytes v (ascii "id") → false ≡ eq_bytes v (ascii "utf8") → true ≡ eq_bytes v (ascii "trace") → told events_text (checked b) ≡ of_bytes v b
  unfolding of_bytes
  bytes_trace e0 e1 e2 = rw (← e0, ← e1, ← e2)

  pub bytes-other : false ≡ eq_bytes v (ascii "id") → false ≡ eq_bytes v (ascii "utf8") → false ≡ eq_bytes v (ascii "trace") → unknown ≡ of_bytes v b
  unfolding of_bytes
  bytes-other e0 e1 e2 = rw (← e0, ← e1, ← e2)

module _ (v a b : List ℕ) where
  pub three-topic : true ≡ eq_bytes v (ascii "topic") → topic_line a b ≡ three v a b
  unfolding three
  three-topic e0 = rw (← e0)

  pub three-description : false ≡ eq_bytes v (ascii "topic") → true ≡ eq_bytes v (ascii "description") → description_line a b ≡ three v a b
  unfolding three
  three-description e0 e1 = rw (← e0, ← e1)

  pub three-format : false ≡ eq_bytes v (ascii "topic") → false ≡ eq_bytes v (ascii "description") → true ≡ eq_bytes v (ascii "format") → format_line a b ≡ three v a b
  unfolding three
  three-format e0 e1 e2 = rw (← e0, ← e1, ← e2)

  pub three-event : false ≡ eq_bytes v (ascii "topic") → false ≡ eq_bytes v (ascii "description") → false ≡ eq_bytes v (ascii "format") → true ≡ eq_bytes v (ascii "event") → event_line a b ≡ three v a b
  unfolding three
  three-event e0 e1 e2 e3 = rw (← e0, ← e1, ← e2, ← e3)

  pub three-other : false ≡ eq_bytes v (ascii "topic") → false ≡ eq_bytes v (ascii "description") → false ≡ eq_bytes v (ascii "format") → false ≡ eq_bytes v (ascii "event") → unknown ≡ three v a b
  unfolding three
  three-other e0 e1 e2 e3 = rw (← e0, ← e1, ← e2, ← e3)

module _ (v a b c : List ℕ) where
  pub four-payload : true ≡ eq_bytes v (ascii "payload") → payload_line a b c ≡ four v a b c
  unfolding four
  four-payload e0 = rw (← e0)

  pub four-other : false ≡ eq_bytes v (ascii "payload") → unknown ≡ four v a b c
  unfolding four
  four-other e0 = rw (← e0)

module _ (v m u t a f b : List ℕ) where
  pub seven-append : true ≡ eq_bytes v (ascii "append") → append_line m u t a f b ≡ seven v m u t a f b
  unfolding seven
  seven-append e0 = rw (← e0)

  pub seven-other : false ≡ eq_bytes v (ascii "append") → unknown ≡ seven v m u t a f b
  unfolding seven
  seven-other e0 = rw (← e0)

module _ (v a : List ℕ) where
  pub two_no_1 : bytes_of a ≡ None → unknown ≡ two v a
  unfolding two given
  two_no_1 e0 = rw (e0)

  pub two-all : {u x : List ℕ} → u ≡ v → bytes_of a ≡ Some x → of_bytes u x ≡ two v a
  unfolding two given
  two-all e0 e1 = rw (e0, e1)

module _ (a b : List ℕ) where
  pub topic_no_1 : bytes_of a ≡ None → unknown ≡ topic_line a b
  unfolding topic_line given
  topic_no_1 e0 = rw (e0)

  pub topic_no_2 : {x : List ℕ} → bytes_of a ≡ Some x → bytes_of b ≡ None → unknown ≡ topic_line a b
  unfolding topic_line given
  topic_no_2 e0 e1 = rw (e0, e1)

  pub topic-all : {x : List ℕ} {y : List ℕ} → bytes_of a ≡ Some x → bytes_of b ≡ Some y → of_topic x y ≡ topic_line a b
  unfolding topic_line given
  topic-all e0 e1 = rw (e0, e1)

module _ (a b : List ℕ) where
  pub description_no_1 : bytes_of a ≡ None → unknown ≡ description_line a b
  unfolding description_line given
  description_no_1 e0 = rw (e0)

  pub description_no_2 : {x : List ℕ} → bytes_of a ≡ Some x → bytes_of b ≡ None → unknown ≡ description_line a b
  unfolding description_line given
  description_no_2 e0 e1 = rw (e0, e1)

  pub description-all : {x : List ℕ} {y : List ℕ} → bytes_of a ≡ Some x → bytes_of b ≡ Some y → of_description x y ≡ description_line a b
  unfolding description_line given
  description-all e0 e1 = rw (e0, e1)

module _ (a b : List ℕ) where
  pub format_no_1 : datatype_named a ≡ None → unknown ≡ format_line a b
  unfolding format_line given
  format_no_1 e0 = rw (e0)

  pub format_no_2 : {x : Datatype} → datatype_named a ≡ Some x → bytes_of b ≡ None → unknown ≡ format_line a b
  unfolding format_line given
  format_no_2 e0 e1 = rw (e0, e1)

  pub format-all : {x : Datatype} {y : List ℕ} → datatype_named a ≡ Some x → bytes_of b ≡ Some y → yes_or_no (is_format x y) ≡ format_line a b
  unfolding format_line given
  format-all e0 e1 = rw (e0, e1)

module _ (a b : List ℕ) where
  pub event_no_1 : bytes_of a ≡ None → unknown ≡ event_line a b
  unfolding event_line given
  event_no_1 e0 = rw (e0)

  pub event_no_2 : {x : List ℕ} → bytes_of a ≡ Some x → number_of b ≡ None → unknown ≡ event_line a b
  unfolding event_line given
  event_no_2 e0 e1 = rw (e0, e1)

  pub event-all : {x : List ℕ} {y : ℕ} → bytes_of a ≡ Some x → number_of b ≡ Some y → of_event x y ≡ event_line a b
  unfolding event_line given
  event-all e0 e1 = rw (e0, e1)

module _ (a b c : List ℕ) where
  pub payload_no_1 : datatype_named a ≡ None → unknown ≡ payload_line a b c
  unfolding payload_line given
  payload_no_1 e0 = rw (e0)

  pub payload_no_2 : {x : Datatype} → datatype_named a ≡ Some x → bytes_of b ≡ None → unknown ≡ payload_line a b c
  unfolding payload_line given
  payload_no_2 e0 e1 = rw (e0, e1)

  pub payload_no_3 : {x : Datatype} {y : List ℕ} → datatype_named a ≡ Some x → bytes_of b ≡ Some y → bytes_of c ≡ None → unknown ≡ payload_line a b c
  unfolding payload_line given
  payload_no_3 e0 e1 e2 = rw (e0, e1, e2)

  pub payload-all : {x : Datatype} {y : List ℕ} {z : List ℕ} → datatype_named a ≡ Some x → bytes_of b ≡ Some y → bytes_of c ≡ Some z → yes_or_no (is_payload x y z) ≡ payload_line a b c
  unfolding payload_line given
  payload-all e0 e1 e2 = rw (e0, e1, e2)

module _ (m : List ℕ) (u : ℕ) (t a f b : List ℕ) where
  pub added_no_1 : number_of t ≡ None → unknown ≡ append_event m u t a f b
  unfolding append_event given
  added_no_1 e0 = rw (e0)

  pub added_no_2 : {x : ℕ} → number_of t ≡ Some x → bytes_of a ≡ None → unknown ≡ append_event m u t a f b
  unfolding append_event given
  added_no_2 e0 e1 = rw (e0, e1)

  pub added_no_3 : {x : ℕ} {y : List ℕ} → number_of t ≡ Some x → bytes_of a ≡ Some y → flag_of f ≡ None → unknown ≡ append_event m u t a f b
  unfolding append_event given
  added_no_3 e0 e1 e2 = rw (e0, e1, e2)

  pub added_no_4 : {x : ℕ} {y : List ℕ} {z : Bool} → number_of t ≡ Some x → bytes_of a ≡ Some y → flag_of f ≡ Some z → bytes_of b ≡ None → unknown ≡ append_event m u t a f b
  unfolding append_event given
  added_no_4 e0 e1 e2 e3 = rw (e0, e1, e2, e3)

  pub added-all : {x : ℕ} {y : List ℕ} {z : Bool} {p : List ℕ} → number_of t ≡ Some x → bytes_of a ≡ Some y → flag_of f ≡ Some z → bytes_of b ≡ Some p → of_append m u x y z p ≡ append_event m u t a f b
  unfolding append_event given
  added-all e0 e1 e2 e3 = rw (e0, e1, e2, e3)

module _ (m u t a f b : List ℕ) where
  pub append_no_1 : bytes_of m ≡ None → unknown ≡ append_line m u t a f b
  unfolding append_line given
  append_no_1 e0 = rw (e0)

  pub append_no_2 : {x : List ℕ} → bytes_of m ≡ Some x → number_of u ≡ None → unknown ≡ append_line m u t a f b
  unfolding append_line given
  append_no_2 e0 e1 = rw (e0, e1)

  pub append-all : {x : List ℕ} {y : ℕ} → bytes_of m ≡ Some x → number_of u ≡ Some y → append_event x y t a f b ≡ append_line m u t a f b
  unfolding append_line given
  append-all e0 e1 = rw (e0, e1)

module _ (line : List ℕ) {n : ℕ} (e : n ≡ word_count line) where
  pub words_2 : n ≡ 2 → two (word_at line 0) (word_at line 1) ≡ answer_to line
  unfolding answer_to
  words_2 e0 = rw (← e, eq-eqb n 2 e0)

  pub words_3 : (n ≡ 2 → ⊥) → n ≡ 3 → three (word_at line 0) (word_at line 1) (word_at line 2) ≡ answer_to line
  unfolding answer_to
  words_3 e0 e1 = rw (← e, ne_eqb n 2 e0, eq-eqb n 3 e1)

  pub words_4 : (n ≡ 2 → ⊥) → (n ≡ 3 → ⊥) → n ≡ 4 → four (word_at line 0) (word_at line 1) (word_at line 2) (word_at line 3) ≡ answer_to line
  unfolding answer_to
  words_4 e0 e1 e2 = rw (← e, ne_eqb n 2 e0, ne_eqb n 3 e1, eq-eqb n 4 e2)

  pub words_7 : (n ≡ 2 → ⊥) → (n ≡ 3 → ⊥) → (n ≡ 4 → ⊥) → n ≡ 7 → seven (word_at line 0) (word_at line 1) (word_at line 2) (word_at line 3) (word_at line 4) (word_at line 5) (word_at line 6) ≡ answer_to line
  unfolding answer_to
  words_7 e0 e1 e2 e3 = rw (← e, ne_eqb n 2 e0, ne_eqb n 3 e1, ne_eqb n 4 e2, eq-eqb n 7 e3)

  pub words-other : (n ≡ 2 → ⊥) → (n ≡ 3 → ⊥) → (n ≡ 4 → ⊥) → (n ≡ 7 → ⊥) → unknown ≡ answer_to line
  unfolding answer_to
  words-other e0 e1 e2 e3 = rw (← e, ne_eqb n 2 e0, ne_eqb n 3 e1, ne_eqb n 4 e2, ne_eqb n 7 e3)
