-- Trace files: what is shown of each answer of crates `trace` and `cursor`.
use Rattle.std.specs.Prelude.{ℕ, ◌+◌, List, [], ◌∷◌, ◌++◌, Err, Ok, Result}
use Rattle.answer.specs.declared.Refused.{Refused}
use Rattle.answer.specs.Refused.{number_of}
use Rattle.trace.specs.declared.EventAt.{EventAt}
use Rattle.cursor.specs.declared.Step.{Step}
use Rattle.reply.specs.Reply.{Reply, says, refuses, bit}

-- one number
unfoldable pub show_count : Result ℕ Refused → Reply
show_count (Ok n) = says (n ∷ [])
show_count (Err r) = refuses (number_of r)

-- Paper 01, "The trace file", Calls: "check a whole trace": how many events there are
abbrev pub show_checked : Result ℕ Refused → Reply
show_checked = show_count

-- time, where the topic starts and ends, the flag, where the payload starts and ends
unfoldable pub event_values : EventAt → List ℕ
event_values e = e.time ∷ e.topic.start ∷ e.topic.end ∷ bit e.retained ∷ e.payload.start ∷ e.payload.end ∷ []

-- "read an event by its number"
unfoldable pub show_reading : Result EventAt Refused → Reply
show_reading (Ok e) = says (event_values e)
show_reading (Err r) = refuses (number_of r)

-- "A reading place on a trace gives the next event and moves on by one": the same values, then the place behind the event
unfoldable pub step_reply : Result EventAt Refused → ℕ → Reply
step_reply (Ok e) at = says (event_values e ++ (at ∷ []))
step_reply (Err r) at = refuses (number_of r)

abbrev pub show_step : Step → Reply
show_step s = step_reply s.reading s.at

-- "write the empty trace into a lent buffer"; "append one event": the new length
abbrev pub show_written : Result ℕ Refused → Reply
show_written = show_count
