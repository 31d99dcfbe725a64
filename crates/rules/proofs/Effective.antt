-- The effective state of a device hangs on its own state and on that of its root, on nothing else.
use Rattle.std.specs.Prelude.{Option, None, Some}
use Prim.Native.Nat.{ℕ}
use mathlib.Core.Path.{◌≡◌, refl, ap, ◌∙◌}
use mathlib.Core.List.{List}
use mathlib.Core.Bool.{Bool, false, cond}
use Rattle.answer.specs.Answer.{Answer, refused, gives}
use Rattle.rules.specs.declared.DeviceState.{DeviceState}
use Rattle.rules.specs.declared.DeviceState.TheVariants.{Init, Ready, Disconnected, Sleeping, Lost}
use Rattle.rules.specs.Table.{Device, root_of}
use Rattle.rules.specs.Find.{find}
use Rattle.rules.specs.Questions.{is_lost, found_lost, root_lost, effective}

not_lost : (s : DeviceState) → (s ≡ Lost → ⊥) → is_lost s ≡ false
unfolding is_lost
not_lost Init n = refl
not_lost Ready n = refl
not_lost Disconnected n = refl
not_lost Sleeping n = refl
not_lost Lost n = absurd (n refl)

module _ (ds : List Device) (v : Device) where
  pub no-root : root_of v.description ≡ None → effective ds v ≡ v.state
  unfolding effective root_lost
  no-root e = ap (λ (r : Option (List ℕ)). cond (root_lost ds r) Lost v.state) e

  module _ (root : List ℕ) (e : root_of v.description ≡ Some root) where
    by-root : effective ds v ≡ cond (found_lost (find root ds)) Lost v.state
    unfolding effective root_lost
    by-root = ap (λ (r : Option (List ℕ)). cond (root_lost ds r) Lost v.state) e

    pub root_lost_lem : (w : Device) → find root ds ≡ gives w → w.state ≡ Lost → effective ds v ≡ Lost
    unfolding found_lost is_lost
    root_lost_lem w f l = by-root ∙ (ap (λ (a : Answer Device). cond (found_lost a) Lost v.state) f ∙ ap (λ (s : DeviceState). cond (is_lost s) Lost v.state) l)

    pub root-not_lost : ((w : Device) → find root ds ≡ gives w → w.state ≡ Lost → ⊥) → effective ds v ≡ v.state
    unfolding found_lost
    root-not_lost n = by-root ∙ go (find root ds) refl
      where
        go : (a : Answer Device) → find root ds ≡ a → cond (found_lost a) Lost v.state ≡ v.state
        go (refused m) i = refl
        go (gives w) i = ap (λ (b : Bool). cond b Lost v.state) (not_lost w.state (n w i))
