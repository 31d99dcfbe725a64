-- Verdicts on a state message, in the order of its tests: "state: empty 12; else 14, 13."
use Rattle.std.specs.Prelude.{Option, None, Some, Ok, Err}
use Rattle.answer.specs.declared.Refused.{Refused}
use Prim.Native.Nat.{ℕ, ◌≤◌, ◌<◌}
use native.Mathlib.Omega.{arith}
use mathlib.Core.Path.{◌≡◌, sym, ap, ◌∙◌}
use mathlib.Core.List.{List}
use lib.ListN.{length}
use lib.Dec.{ltb}
use borrow.Author.Tests.{lt-ltb, le-ltb}
use Rattle.answer.specs.Answer.{Answer, gives, require, and_then}
use Rattle.answer.proofs.Theorems.{require-holds, require-fails}
use Rattle.text.specs.Bytes.{less_bytes}
use Rattle.text.specs.Places.{bytes_at}
use Rattle.text.specs.declared.Place.{Place}
use Rattle.memory.specs.Bytes.{remove_at, insert_at}
use Rattle.text.specs.Ids.{id_most}
use Rattle.rules.specs.declared.DeviceState.{DeviceState}
use Rattle.rules.specs.States.{state_worded}
use Rattle.rules.specs.Table.{Device}
use Rattle.rules.specs.Find.{find, remove, insert, change_at}
use Rattle.rules.specs.Messages.{Message, with_state, new_device, make_or_update, by_word, obey_state}
use Rattle.rules.proofs.Ranks.{rank_of, place_for, change_rank, remove_rank, insert-place, first-within}
use Rattle.verdict.specs.declared.Verdict.TheVariants.{Remove, State, Create}
use Rattle.verdict.specs.Verdict.{makes, Judged}
use Rattle.verdict.proofs.Found.{empty_yes, empty_no, found, missing}

module _ (d : ℕ) (x : Message) (ds : List Device) (id : List ℕ) where
  by_empty : length x.payload ≡ 0 → obey_state d id x ds ≡ and_then (find id ds) (λ v. gives (remove id ds))
  unfolding obey_state
  by_empty e = rw (empty_yes x.payload e, obey_state)

  by-word : (w : Option DeviceState) → (length x.payload ≡ 0 → ⊥) → w ≡ state_worded x.payload → obey_state d id x ds ≡ by_word d id x.time ds w
  unfolding obey_state
  by-word w h e = rw (empty_no x.payload h, obey_state) (ap (by_word d id x.time ds) (sym e))

  module _ (r : ℕ) (rank : r ≡ rank_of id ds) where
    -- an empty payload
    pub remove-unknown : length x.payload ≡ 0 → (r < length ds → ⊥) → Judged d x ds (obey_state d id x ds) (Err Refused.NoDevice)
    unfolding makes and_then
    remove-unknown e h = record { says = sym (by_empty e ∙ ap (λ (a : Answer Device). and_then a (λ v. gives (remove id ds))) (missing id ds r rank h)); fits = tt }

    pub remove_known : length x.payload ≡ 0 → r < length ds → Judged d x ds (obey_state d id x ds) (Ok (Remove r))
    unfolding makes and_then
    remove_known e h = record {
      says = sym (by_empty e ∙ ap (λ (a : Answer Device). and_then a (λ v. gives (remove id ds))) (found id ds r rank h) ∙ ap gives (remove_rank id ds ∙ ap (λ (k : ℕ). remove_at k ds) (sym rank)));
      fits = h;
    }

    -- no state word
    pub no_word : (length x.payload ≡ 0 → ⊥) → None ≡ state_worded x.payload → Judged d x ds (obey_state d id x ds) (Err Refused.BadPayload)
    unfolding makes by_word
    no_word h e = record { says = sym (by-word None h e); fits = tt }

    module _ (s : DeviceState) (h : length x.payload ≡ 0 → ⊥) (e : Some s ≡ state_worded x.payload) where
      pub update : r < length ds → Judged d x ds (obey_state d id x ds) (Ok (State r s))
      unfolding makes by_word make_or_update
      update k = record {
        says = sym (by-word (Some s) h e ∙ ap (make_or_update d id s x.time ds) (found id ds r rank k) ∙ ap gives (change_rank id (with_state s x.time) ds ∙ ap (λ (i : ℕ). change_at i (with_state s x.time) ds) (sym rank)));
        fits = k;
      }

      by-room : (r < length ds → ⊥) → obey_state d id x ds ≡ require (ltb (length ds) d) 13 (gives (insert (new_device id s x.time) ds))
      unfolding by_word make_or_update
      by-room k = by-word (Some s) h e ∙ ap (make_or_update d id s x.time ds) (missing id ds r rank k)

      pub full : (r < length ds → ⊥) → d ≤ length ds → Judged d x ds (obey_state d id x ds) (Err Refused.Full)
      unfolding makes
      full k f = record { says = sym (by-room k ∙ require-fails (ltb (length ds) d) 13 _ (le-ltb _ _ f)); fits = tt }

      pub create : (p : ℕ) (at : Place) → bytes_at x.topic at ≡ id → length id ≤ id_most → (r < length ds → ⊥) → length ds < d → p ≡ place_for id ds → Judged d x ds (obey_state d id x ds) (Ok (Create p s at))
      unfolding makes
      create p at t l k f q = record {
        says = sym (by-room k ∙ require-holds (ltb (length ds) d) 13 _ (lt-ltb _ _ f)
            ∙ ap gives (insert-place (new_device id s x.time) ds ∙ ap (λ (i : ℕ). insert_at i (new_device id s x.time) ds) (sym q) ∙ ap (λ (b : List ℕ). insert_at p (new_device b s x.time) ds) (sym t)));
        fits = (omega (arith, q, first-within (λ (v : Device). less_bytes id v.id) ds), f, rw t l);
      }
