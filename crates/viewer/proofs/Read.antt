-- An event's values.
use Rattle.std.specs.Prelude.{Err, Ok, Result}
use mathlib.Core.Path.{◌≡◌, ap, subst, sym, ◌∙◌}
use mathlib.Core.List.{List, [], ◌∷◌, ◌++◌}
use Prim.Native.Nat.{ℕ, ◌+◌, ◌^◌, ◌<◌}
use native.Mathlib.Omega.{arith}
use lib.ListN.{length, take}
use mir.Val.{bool_byte}
use Rattle.answer.specs.declared.Refused.{Refused}
use Rattle.answer.specs.Refused.{number_of}
use Rattle.trace.specs.declared.EventAt.{EventAt}
use Rattle.reply.specs.Reply.{says, refuses}
use Rattle.reply.specs.Files.{show_reading, step_reply, event_values}
use Rattle.reply.proofs.Shown.{as-bit}

-- the flag as the language makes a number of it
pub values_are : (e : EventAt) (at : ℕ) → (e.time ∷ e.topic.start ∷ e.topic.end ∷ bool_byte e.retained ∷ e.payload.start ∷ e.payload.end ∷ at ∷ []) ≡ event_values e ++ (at ∷ [])
unfolding event_values
values_are e at = ap (λ (n : ℕ). e.time ∷ e.topic.start ∷ e.topic.end ∷ n ∷ e.payload.start ∷ e.payload.end ∷ at ∷ []) (sym (as-bit e.retained))

-- the first six are the event's own
pub six : (e : EventAt) (at : ℕ) (vs : List ℕ) → vs ≡ event_values e ++ (at ∷ []) → 6 ≡ length (take 6 vs)
unfolding event_values
six e at vs g = sym (ap (λ (l : List ℕ). length (take 6 l)) g)

pub event-shown : (a : Result EventAt Refused) (e : EventAt) (at : ℕ) (vs : List ℕ) → a ≡ Ok e → vs ≡ event_values e ++ (at ∷ []) → show_reading a ≡ says (take 6 vs)
unfolding show_reading event_values
event-shown a e at vs f g = ap show_reading f ∙ ap (λ (l : List ℕ). says (take 6 l)) (sym g)

pub step-shown : (a : Result EventAt Refused) (e : EventAt) (at : ℕ) (vs : List ℕ) → a ≡ Ok e → vs ≡ event_values e ++ (at ∷ []) → step_reply a at ≡ says vs
unfolding step_reply
step-shown a e at vs f g = ap (λ (x : Result EventAt Refused). step_reply x at) f ∙ ap says (sym g)

pub step-refused : (a : Result EventAt Refused) (r : Refused) (at : ℕ) → a ≡ Err r → step_reply a at ≡ refuses (number_of r)
unfolding step_reply
step-refused a r at g = ap (λ (x : Result EventAt Refused). step_reply x at) g
