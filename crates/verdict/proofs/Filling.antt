-- Verdicts on value, set and target messages, in the order of their tests.
use Rattle.std.specs.Prelude.{Option, None, Some, Result, Ok, Err}
use Rattle.answer.specs.declared.Refused.{Refused}
use Rattle.std.proofs.lemmas.Result.{IfOk-at_ok}
use Prim.Native.Nat.{ℕ, ◌≤◌, ◌<◌}
use native.Mathlib.Omega.{arith}
use mathlib.Core.Path.{◌≡◌, refl, sym, ap, ap₂, ◌∙◌}
use mathlib.Core.List.{List}
use lib.ListN.{length, get_or, set}
use Rattle.answer.specs.Answer.{Answer, gives, and_then}
use Rattle.memory.specs.State.{state, room_of}
use Rattle.device.specs.Layout.{properties_most, payload_most, record_at}
use Rattle.device.specs.Decode.{record_of, device_of}
use Rattle.device.specs.Meaning.{property_in, PropertyIn}
use Rattle.device.specs.declared.Property as shown
use Rattle.device.proofs.Theorems.{nth}
use Rattle.lookup.specs.Meaning.{means}
use Rattle.lookup.proofs.Ranks.{device_at}
use Rattle.rules.specs.declared.LaneKind.{LaneKind}
use Rattle.rules.specs.Table.{Device, Description, Property, properties_of, with_lane}
use Rattle.rules.specs.Find.{is_named, find_property, change_property, in_description, in_device, change_at}
use Rattle.rules.specs.Messages.{Message, held_by, fill, lane_rules, obey_lane}
use Rattle.rules.proofs.Ranks.{rank_of, rank_of_property, change_rank, change-set, property_rank, property-none, change_property_rank, first-within}
use Rattle.verdict.specs.declared.Verdict.TheVariants.{Lane}
use Rattle.verdict.specs.Verdict.{makes, Judged}
use Rattle.verdict.specs.Parts.{unless, Allows}
use Rattle.verdict.proofs.Found.{someone, found, missing}

-- a property changed by its IDs is changed by its rank
in-description : (f : List Property → List Property) (g : List Property → List Property) (y : Option Description) → f (properties_of y) ≡ g (properties_of y) → in_description f y ≡ in_description g y
unfolding in_description properties_of
in-description f g None e = refl
in-description f g (Some x) e = ap (λ (ps : List Property). Some (record { root = x.root; parent = x.parent; version = x.version; properties = ps })) e

in_device_lem : (f g : List Property → List Property) (v : Device) → f (properties_of v.description) ≡ g (properties_of v.description) → in_device f v ≡ in_device g v
unfolding in_device
in_device_lem f g v e = ap (λ (y : Option Description). record { id = v.id; state = v.state; time = v.time; description = y }) (in-description f g v.description e)

change-same : (r : ℕ) (f g : Device → Device) (ds : List Device) → f (get_or ds r someone) ≡ g (get_or ds r someone) → change_at r f ds ≡ change_at r g ds
change-same r f g ds e = change-set r f ds someone ∙ ap (set ds r) e ∙ sym (change-set r g ds someone)

module _ (d : ℕ) (kind : LaneKind) (x : Message) (ds : List Device) (id node property : List ℕ) (r : ℕ) (rank : r ≡ rank_of id ds) where
  pub lane-unknown : (r < length ds → ⊥) → Judged d x ds (obey_lane kind id node property x ds) (Err Refused.NoDevice)
  unfolding makes and_then obey_lane
  lane-unknown h = record { says = rw (missing id ds r rank h); fits = tt }

  module _ (h : r < length ds) (v : Device) (here : get_or ds r someone ≡ v) (i : ℕ) (place : i ≡ rank_of_property node property (properties_of v.description)) where
    to_device : obey_lane kind id node property x ds ≡ and_then (find_property node property (properties_of v.description)) (λ p. lane_rules kind p x (gives (fill kind id node property x ds)))
    unfolding and_then obey_lane
    to_device = rw (found id ds r rank h, here)

    pub no-property : (i < length (properties_of v.description) → ⊥) → Judged d x ds (obey_lane kind id node property x ds) (Err Refused.NoProperty)
    unfolding makes and_then
    no-property k = record {
      says = sym (to_device ∙ ap (λ (a : Answer Property). and_then a (λ p. lane_rules kind p x (gives (fill kind id node property x ds))))
          (property-none node property (properties_of v.description) (omega (arith, k, place, first-within (is_named node property) (properties_of v.description)))));
      fits = tt;
    }

    module _ (p : Property) (k : i < length (properties_of v.description)) (there : get_or (properties_of v.description) i p ≡ p) where
      -- what the lane is filled with, by rank
      filled : fill kind id node property x ds ≡ change_at r (in_device (change_at i (with_lane kind (held_by x)))) ds
      unfolding fill
      filled =
          change_rank id (in_device (change_property node property (with_lane kind (held_by x)))) ds
          ∙ ap (λ (n : ℕ). change_at n (in_device (change_property node property (with_lane kind (held_by x)))) ds) (sym rank)
          ∙ change-same r _ _ ds (ap (in_device (change_property node property (with_lane kind (held_by x)))) here
          ∙ in_device_lem _ _ v (change_property_rank node property (with_lane kind (held_by x)) (properties_of v.description) ∙ ap (λ (n : ℕ). change_at n (with_lane kind (held_by x)) (properties_of v.description)) (sym place))
          ∙ ap (in_device (change_at i (with_lane kind (held_by x)))) (sym here))

      to-rules : obey_lane kind id node property x ds ≡ lane_rules kind p x (gives (change_at r (in_device (change_at i (with_lane kind (held_by x)))) ds))
      unfolding and_then
      to-rules =
          to_device
          ∙ ap (λ (a : Answer Property). and_then a (λ q. lane_rules kind q x (gives (fill kind id node property x ds))))
          (property_rank node property (properties_of v.description) p (rw (sym place) k) ∙ ap (λ (n : ℕ). gives (get_or (properties_of v.description) n p)) (sym place) ∙ ap gives there)
          ∙ ap (λ (l : List Device). lane_rules kind p x (gives l)) filled

      pub lane-refused : (q : Result Unit Refused) → Allows kind p x q → (n : Refused) → q ≡ Err n → Judged d x ds (obey_lane kind id node property x ds) (Err n)
      unfolding unless
      lane-refused q a n e = record { says = sym (to-rules ∙ a.says _ ∙ ap (λ (s : Result Unit Refused). unless s (gives (change_at r (in_device (change_at i (with_lane kind (held_by x)))) ds))) e); fits = tt }

      pub lane-filled : (q : Result Unit Refused) → Allows kind p x q → (u : Unit) → q ≡ Ok u → length (properties_of v.description) ≤ properties_most → Judged d x ds (obey_lane kind id node property x ds) (Ok (Lane r i kind))
      unfolding makes unless
      lane-filled q a u e l = record {
        says = sym (to-rules ∙ a.says _ ∙ ap (λ (s : Result Unit Refused). unless s (gives (change_at r (in_device (change_at i (with_lane kind (held_by x)))) ds))) e);
        fits = (h, omega arith, IfOk-at_ok (λ _. length x.payload ≤ payload_most) e a.short);
      }

-- ---- as memory shows them

pub here : (m room : List ℕ) (r : ℕ) → room ≡ room_of (state m).now r → r < length (means m).now.devices → get_or (means m).now.devices r someone ≡ device_of room
here m room r e h = device_at m r someone h ∙ ap device_of (sym e)

pub place_of : (ps : List Property) (s t node property : List ℕ) (i : ℕ) → i ≡ rank_of_property s t ps → s ≡ node → t ≡ property → i ≡ rank_of_property node property ps
place_of ps s t node property i e p q = e ∙ ap₂ (λ (a b : List ℕ). rank_of_property a b ps) p q

pub there : (room : List ℕ) (i : ℕ) (p : shown.Property) → PropertyIn room (record_of room (record_at i)) p → i < length (properties_of (device_of room).description)
    → get_or (properties_of (device_of room).description) i (property_in room p) ≡ property_in room p
there room i p h k = nth room i (property_in room p) k ∙ sym h.says
