use mathlib.Core.Path.{refl, sym, ap, ◌∙◌}
use Prim.Native.Nat.{ℕ}
use Rattle.answer.specs.Answer.{gives}
use Rattle.rules.specs.Questions.{a_number}
use Rattle.lookup.specs.Contract.{is_taken, says_taken}
use Rattle.lookup.proofs.Theorems.{steps-says}
use Rattle.lookup.proofs.Theorems.{unsound, left}
use Rattle.table.proofs.steps.Goals as goal

pub returns-then-not-sound : goal.returns-then-not-sound
returns-then-not-sound c = unsound _ _ (c.sound.ensures.1 c.if-not-sound.true)

pub returns : goal.returns
unfolding is_taken says_taken
returns c = left _ _ _ (c.sound.ensures.0 c.if-not-sound.false) (ap (λ (n : ℕ). gives (a_number n)) c.byte.ensures ∙ sym (steps-says _)) refl
