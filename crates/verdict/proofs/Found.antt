-- A device found by its rank, and an empty payload by its length.
use Rattle.std.specs.Prelude.{Option, None, Some, Ok, Err}
use Rattle.answer.specs.declared.Refused.{Refused}
use Prim.Native.Nat.{ℕ, ◌<◌}
use native.Mathlib.Omega.{arith}
use mathlib.Core.Path.{◌≡◌, refl, sym, ap, ◌∙◌}
use mathlib.Core.List.{List, [], ◌∷◌}
use mathlib.Core.Bool.{true, false}
use lib.Dec.{leb}
use lib.ListN.{length, get_or}
use Rattle.answer.specs.Answer.{refused, gives, and_then, only}
use Rattle.text.specs.Bytes.{eq_bytes}
use Rattle.rules.specs.declared.DeviceState.TheVariants.{Init}
use Rattle.rules.specs.Table.{Device}
use Rattle.rules.specs.Find.{find}
use Rattle.rules.specs.Messages.{Message, new_device, is_empty, is_due}
use Rattle.rules.proofs.Ranks.{rank_of, place_for, find_rank, find_none, first-within}
use Rattle.memory.specs.Layout.{capacity}
use Rattle.memory.proofs.Theorems.{capacity_is}
use Rattle.lookup.specs.Meaning.{opening_of}
use Rattle.verdict.specs.declared.Verdict.TheVariants.{Time}
use Rattle.verdict.specs.Verdict.{makes, Judged}

pub empty_yes : (s : List ℕ) → length s ≡ 0 → is_empty s ≡ true
unfolding is_empty
empty_yes [] e = refl
empty_yes (b ∷ s) e = absurd (omega arith)

pub empty_no : (s : List ℕ) → (length s ≡ 0 → ⊥) → is_empty s ≡ false
unfolding is_empty
empty_no [] e = absurd (e refl)
empty_no (b ∷ s) e = refl

-- any device: it stands for what is not in the list
abbrev pub someone : Device
someone = new_device [] Init 0

module _ (id : List ℕ) (ds : List Device) (r : ℕ) (rank : r ≡ rank_of id ds) where
  pub found : r < length ds → find id ds ≡ gives (get_or ds r someone)
  found h = find_rank id ds someone (rw (sym rank) h) ∙ ap (λ (k : ℕ). gives (get_or ds k someone)) (sym rank)

  pub missing : (r < length ds → ⊥) → find id ds ≡ refused (only 12)
  missing h = find_none id ds (omega (arith, rank, h, first-within (λ (v : Device). eq_bytes v.id id) ds))

  -- a device that must be there, and nothing else
  pub unknown : (d : ℕ) (x : Message) → (r < length ds → ⊥) → Judged d x ds (and_then (find id ds) (λ v. gives ds)) (Err Refused.NoDevice)
  unfolding makes and_then
  unknown d x h = record { says = rw (missing h); fits = tt }

  pub known : (d : ℕ) (x : Message) → r < length ds → Judged d x ds (and_then (find id ds) (λ v. gives ds)) (Ok Time)
  unfolding makes and_then
  known d x h = record { says = rw (found h); fits = tt }

-- an ID shown by a slice
pub ranked : (ds : List Device) (s id : List ℕ) (r : ℕ) → r ≡ rank_of s ds → s ≡ id → r ≡ rank_of id ds
ranked ds s id r e q = e ∙ ap (λ (i : List ℕ). rank_of i ds) q

pub placed : (ds : List Device) (s id : List ℕ) (r : ℕ) → r ≡ place_for s ds → s ≡ id → r ≡ place_for id ds
placed ds s id r e q = e ∙ ap (λ (i : List ℕ). place_for i ds) q

-- D is a byte of the header
pub devices_are : (m : List ℕ) → (opening_of m).devices ≡ capacity m
unfolding opening_of
devices_are m = capacity_is m

-- ---- the last time

pub never : (l : Option ℕ) (time : ℕ) (r : Option ℕ) → r ≡ l → r ≡ None → true ≡ is_due l time
unfolding is_due
never l time r e q = ap (λ (o : Option ℕ). is_due o time) (sym q ∙ e)

pub since : (l : Option ℕ) (time t : ℕ) (r : Option ℕ) → r ≡ l → r ≡ Some t → leb t time ≡ is_due l time
unfolding is_due
since l time t r e q = ap (λ (o : Option ℕ). is_due o time) (sym q ∙ e)
