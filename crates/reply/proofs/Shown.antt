-- Answers whose values the code makes by calls of its own.
use Rattle.std.specs.Prelude.{Result, Ok, Err}
use Rattle.answer.specs.Refused.{number_of}
use Rattle.answer.specs.declared.Refused.{Refused}
use mathlib.Core.Path.{◌≡◌, refl, sym, ap, ◌∙◌}
use mathlib.Core.List.{List, [], ◌∷◌}
use mathlib.Core.Bool.{Bool, true, false}
use Prim.Native.Nat.{ℕ}
use mir.Val.{bool_byte}
use Rattle.topic.specs.declared.Topic.{Topic}
use Rattle.topic.specs.declared.Flag.{Flag}
use Rattle.topic.specs.Flags.{flag_in}
use Rattle.topic.specs.Meaning.{meaning}
use Rattle.payload.specs.Datatypes as datatypes
use Rattle.reply.specs.Reply.{says, refuses, telling, bit}
use Rattle.reply.specs.Judgements.{show_flag, flag_number}
use Rattle.device.specs.declared.Declared.{Declared}
use Rattle.reply.specs.Answers.{show_property}

-- a flag as the language makes a number of it
pub as-bit : (b : Bool) → bit b ≡ bool_byte b
unfolding bit
as-bit true = refl
as-bit false = refl

pub property-shown : (a : Result Declared Refused) (p : Declared) (k s r : ℕ) → a ≡ Ok p → k ≡ datatypes.code_of p.datatype → s ≡ bool_byte p.settable → r ≡ bool_byte p.retained
    → show_property a ≡ says (p.node.start ∷ p.node.end ∷ p.id.start ∷ p.id.end ∷ k ∷ p.format.start ∷ p.format.end ∷ s ∷ r ∷ [])
unfolding show_property
property-shown a p k s r g h i j = rw (g, h, i, j, as-bit p.settable, as-bit p.retained)

pub flag-refused : (s : List ℕ) (t : Result Topic Refused) (r : Refused) (n : ℕ) → t ≡ Err r → n ≡ number_of r → show_flag (meaning s t) ≡ refuses n
unfolding show_flag telling
flag-refused s t r n e k = ap (λ (x : Result Topic Refused). show_flag (meaning s x)) e ∙ ap refuses (sym k)

pub flag-shown : (s : List ℕ) (t : Result Topic Refused) (u : Topic) (f : Flag) (n : ℕ) → t ≡ Ok u → f ≡ flag_in (meaning s t) → n ≡ flag_number f → show_flag (meaning s t) ≡ says (n ∷ [])
unfolding show_flag flag_in
flag-shown s t u f n h e k =
    ap (λ (x : Result Topic Refused). show_flag (meaning s x)) h ∙ ap (λ (x : ℕ). says (x ∷ [])) (sym (k ∙ ap flag_number (e ∙ ap (λ (x : Result Topic Refused). flag_in (meaning s x)) h)))
