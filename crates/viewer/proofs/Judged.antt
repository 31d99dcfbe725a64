-- Judgements as numbers.
use Rattle.faults.specs.declared.Fault.{Fault}
use Rattle.faults.specs.Faults.{fault_number}
use Rattle.std.specs.Prelude.{Option, None, Some}
use mathlib.Core.Path.{◌≡◌, sym, ap, ap₂, ◌∙◌}
use mathlib.Core.Bool.{Bool, true, false}
use mathlib.Core.List.{List}
use Prim.Native.Nat.{ℕ}
use Rattle.answer.specs.Answer.{placed}
use Rattle.payload.specs.declared.Datatype.{Datatype}
use Rattle.payload.specs.declared.Format.{Format}
use Rattle.payload.specs.Formats.{kept_bytes, kept_format, given_format}
use Rattle.payload.specs.Payloads.{is_payload_of}
use Rattle.description.specs.Description.{told, describe}
use Rattle.description.proofs.Theorems.{told-nothing, told_at}
use Rattle.reply.specs.Reply.{refusal_number, refusal_code, fit_place, bit}
use Rattle.viewer.proofs.Passing.{place-fits}

pub yes-bit : (r x : Bool) → r ≡ x → r ≡ true → 1 ≡ bit x
unfolding bit
yes-bit r x e t = ap bit (sym t ∙ e)

pub no-bit : (r x : Bool) → r ≡ x → r ≡ false → 0 ≡ bit x
unfolding bit
no-bit r x e t = ap bit (sym t ∙ e)

-- by the datatype of a number
module _ (d d' : Datatype) (f : Option (List ℕ)) (s : List ℕ) (r : Bool) (e : d ≡ d') (h : r ≡ is_payload_of d f s) where
  judged : r ≡ is_payload_of d' f s
  judged = h ∙ ap (λ (x : Datatype). is_payload_of x f s) e

  pub judged_yes : r ≡ true → 1 ≡ bit (is_payload_of d' f s)
  judged_yes t = yes-bit r (is_payload_of d' f s) judged t

  pub judged_no : r ≡ false → 0 ≡ bit (is_payload_of d' f s)
  judged_no t = no-bit r (is_payload_of d' f s) judged t

pub format-promise : (d d' : Datatype) (f : List ℕ) (g : Bool) (r : Option Format) → d ≡ d' → kept_bytes f r ≡ kept_format d (given_format g f) → kept_bytes f r ≡ kept_format d' (given_format g f)
format-promise d d' f g r e h = h ∙ ap (λ (x : Datatype). kept_format x (given_format g f)) e

-- what is told of a description as a number
module _ (own s : List ℕ) (t : Option Fault) (e : t ≡ told own s) where
  pub taken : t ≡ None → 0 ≡ refusal_number (describe own s)
  unfolding refusal_number
  taken g = sym (ap refusal_number (told-nothing own s (sym e ∙ g)))

  pub not_taken : (x : Fault) {k n : ℕ} → t ≡ Some x → k ≡ fault_number x.kind → n ≡ refusal_code (placed k (fit_place x.place)) → n ≡ refusal_number (describe own s)
  unfolding refusal_number
  not_taken x g i h = h ∙ ap₂ (λ (k q : ℕ). refusal_code (placed k q)) i (place-fits own s x (sym g ∙ e)) ∙ sym (ap refusal_number (told_at own s (sym e ∙ g)))
