-- Verdicts on a description message, in the order of its tests: 12, then what is told of its faults
use Rattle.std.specs.Prelude.{Option, Ok, Err}
use Rattle.answer.specs.declared.Refused.{Refused}
use Prim.Native.Nat.{ℕ, ◌<◌}
use mathlib.Core.Path.{◌≡◌, sym, ap, ◌∙◌}
use mathlib.Core.List.{List}
use lib.ListN.{length, get_or}
use Rattle.answer.specs.Answer.{Answer, gives, and_then}
use Rattle.text.specs.Places.{bytes_at}
use Rattle.text.specs.declared.Place.{Place}
use Rattle.rules.specs.Table.{Device, Description}
use Rattle.rules.specs.Find.{change, change_at}
use Rattle.rules.specs.Messages.{Message, with_description, redescribed, described_by, obey_description}
use Rattle.rules.proofs.Ranks.{rank_of, change_rank, at_some}
use Rattle.verdict.specs.declared.Verdict.TheVariants.{Undescribe, Describe}
use Rattle.verdict.specs.Verdict.{makes, Judged}
use Rattle.verdict.proofs.Found.{empty_yes, empty_no, someone, found, missing}

module _ (d : ℕ) (x : Message) (ds : List Device) (id : List ℕ) (r : ℕ) (rank : r ≡ rank_of id ds) where
  pub undescribed-unknown : (r < length ds → ⊥) → Judged d x ds (obey_description id x ds) (Err Refused.NoDevice)
  unfolding makes and_then obey_description
  undescribed-unknown h = record { says = rw (missing id ds r rank h); fits = tt }

  changed : (y : Option Description) → change id (with_description y) ds ≡ change_at r (with_description y) ds
  changed y = change_rank id (with_description y) ds ∙ ap (λ (i : ℕ). change_at i (with_description y) ds) (sym rank)

  reached : r < length ds → obey_description id x ds ≡ and_then (described_by id (get_or ds r someone).description x.payload) (λ y. gives (change_at r (with_description y) ds))
  unfolding and_then obey_description
  reached h = rw (found id ds r rank h) (simp changed)

  pub undescribe : r < length ds → length x.payload ≡ 0 → Judged d x ds (obey_description id x ds) (Ok (Undescribe r))
  unfolding makes and_then described_by
  undescribe h e = record { says = sym (reached h ∙ rw (empty_yes x.payload e, described_by)); fits = h }

  by-payload : (old : Option Description) → (length x.payload ≡ 0 → ⊥) → described_by id old x.payload ≡ redescribed id old x.payload
  unfolding described_by
  by-payload old e = rw (empty_no x.payload e, described_by)

  pub describe_it : (place : Place) → bytes_at x.topic place ≡ id → r < length ds → (length x.payload ≡ 0 → ⊥) → Judged d x ds (obey_description id x ds) (Ok (Describe r place))
  unfolding makes and_then
  describe_it place t h e = record {
    says = rw (at_some r ds someone h, t) (sym (reached h ∙ ap (λ (a : Answer (Option Description)). and_then a (λ y. gives (change_at r (with_description y) ds))) (by-payload (get_or ds r someone).description e)));
    fits = h;
  }
