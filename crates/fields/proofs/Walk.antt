-- Walking through an object's members or an array's elements, one step a turn.
use Rattle.std.specs.Prelude.{Result, Option, None}
use Prim.Native.Nat.{ℕ, ◌+◌, ◌-◌, ◌≤◌}
use native.Mathlib.Omega.{arith}
use mathlib.Core.Path.{◌≡◌, sym, ap, ◌∙◌, subst}
use mathlib.Core.List.{List, [], ◌∷◌}
use lib.ListN.{length}
use borrow.Author.Tests.{ne_eqb, eq-eqb}
use Rattle.json_text.specs.Bytes.{byte, ws}
use Rattle.json_text.specs.Members.{Member, member_at, element_at, list_from, ItemLies, GotItem, found}
use Rattle.json_text.specs.Bytes.{EndsWithin}
use Rattle.json_text.specs.Ends.{ScannedIf, GotItemIf}
use Rattle.json_text.proofs.Members.{Going, walk, walked, walk-members, walk-elements}
use Rattle.json_text.specs.declared.Item.{Item}
use Rattle.faults.specs.Faults.{earlier, least}
use Rattle.faults.specs.declared.Fault.{Fault}
use Rattle.faults.proofs.Laws.{earlier-none, earlier_assoc, least-join}
use Rattle.fields.specs.Values.{is_object, is_array, members, elements}
use Rattle.fields.specs.Fields.{among}

-- f of all the items is f of those from i on, which lies in the text
pub record Walking {X : Type 0} (step : ℕ → Option Item) (f : List Member → X) (len i : ℕ) (want : X) : Type 0 where
  pub within : i ≤ len
  pub going : Going step f len i want

module _ {X : Type 0} (step : ℕ → Option Item) (f : List Member → X) (len i : ℕ) {want : X} (g : Walking step f len i want) where
  pub at_done : step i ≡ None → f [] ≡ want
  at_done q = walked step f len i g.within g.going q

  -- the next turn: f with this item put in front
  pub at_item : {k e n : ℕ} → GotItem (step i) i len (found k e n) → Walking step (λ ms. f (record { name = i; value = k; end = e } ∷ ms)) len n want
  at_item w = let l = w.lies in record { within = l.3; going = walk step f len i g.within g.going (sym w.is) (omega arith) }

-- another f that agrees on what is left
pub walking_as : {X : Type 0} {step : ℕ → Option Item} {f : List Member → X} {len i : ℕ} {want : X} (g : List Member → X) → ((ms : List Member) → g ms ≡ f ms) → Walking step f len i want → Walking step g len i want
walking_as {X} {step} {f} {len} {i} g e w =
    record { within = w.within; going = record { fuel = w.going.fuel; enough = w.going.enough; same = e (list_from step w.going.fuel i) ∙ w.going.same } }

-- ---- by a table of ends: where the answer lies, whatever the table holds; and what it is, if the table is right

module _ {given : Type 0} {want : Option Item} {i n : ℕ} {r : Option Item} (q : Option Item) (w : GotItemIf given want i n r) (e : r ≡ q) where
  pub item-lies : ItemLies i n q
  item-lies = subst (ItemLies i n) e w.lies

  pub item_is : given → GotItem want i n q
  item_is h = record { is = sym e ∙ w.is h; lies = item-lies }

pub scan-lies : {given : Type 0} {want : Result ℕ ℕ} {lo hi : ℕ} {r : Result ℕ ℕ} (q : Result ℕ ℕ) → ScannedIf given want lo hi r → r ≡ q → EndsWithin lo hi q
scan-lies {given} {want} {lo} {hi} q w e = subst (EndsWithin lo hi) e w.lies

module _ {X : Type 0} (f : List Member → X) (s : List ℕ) (at : ℕ) {b : ℕ} (p : b ≡ byte s at) where
  pub no-members : (b ≡ 123 → ⊥) → f [] ≡ f (members s at)
  unfolding members is_object
  no-members n = ap f (sym (rw (ne_eqb (byte s at) 123 (λ q. n (p ∙ q)), members)))

  pub first_member : {i : ℕ} → b ≡ 123 → i ≡ ws s (at + 1) → i ≤ length s → Walking (member_at s) f (length s) i (f (members s at))
  unfolding members is_object
  first_member {i} e q h = record { within = h; going = rw (eq-eqb (byte s at) 123 (sym p ∙ e), members) (walk-members f s at i q) }

  pub first_element : {i : ℕ} → b ≡ 91 → i ≡ ws s (at + 1) → i ≤ length s → Walking (element_at s) f (length s) i (f (elements s at))
  unfolding elements is_array
  first_element {i} e q h = record { within = h; going = rw (eq-eqb (byte s at) 91 (sym p ∙ e), elements) (walk-elements f s at i q) }

-- ---- what is told of the items

-- what was told before i, with what is told of the items from i on, is what is told of all
abbrev pub Telling : (ℕ → Option Item) → (Member → List Fault) → ℕ → Option Fault → ℕ → Option Fault → Type 0
Telling step f len told i want = Walking step (λ ms. earlier told (least (among f ms))) len i want

module _ (step : ℕ → Option Item) (f : Member → List Fault) (len : ℕ) (told : Option Fault) (i : ℕ) {want : Option Fault} (g : Telling step f len told i want) where
  pub tell-done : step i ≡ None → told ≡ want
  unfolding among least
  tell-done q = sym (earlier-none told) ∙ at_done step (λ ms. earlier told (least (among f ms))) len i g q

  pub tell_item : {k e n : ℕ} → GotItem (step i) i len (found k e n) → {r told' : Option Fault} → told' ≡ earlier told r → r ≡ least (f (record { name = i; value = k; end = e })) → Telling step f len told' n want
  unfolding among
  tell_item {k} {e} {n} w {r} {told'} p q = walking_as (λ ms. earlier told' (least (among f ms)))
      (λ ms. rw (p, q) (earlier_assoc told (least (f (record { name = i; value = k; end = e }))) (least (among f ms)) ∙ ap (earlier told) (sym (least-join (f (record { name = i; value = k; end = e })) (among f ms)))))
      (at_item step (λ ms. earlier told (least (among f ms))) len i g w)

module _ (f : Member → List Fault) (s : List ℕ) (at : ℕ) {b : ℕ} (p : b ≡ byte s at) where
  pub tell_no-members : (b ≡ 123 → ⊥) → None ≡ least (among f (members s at))
  unfolding among least
  tell_no-members n = no-members (λ ms. least (among f ms)) s at p n

  pub tell-members : {i : ℕ} → b ≡ 123 → i ≡ ws s (at + 1) → i ≤ length s → Telling (member_at s) f (length s) None i (least (among f (members s at)))
  unfolding earlier
  tell-members e q h = first_member (λ ms. least (among f ms)) s at p e q h

  pub tell-elements : {i : ℕ} → b ≡ 91 → i ≡ ws s (at + 1) → i ≤ length s → Telling (element_at s) f (length s) None i (least (among f (elements s at)))
  unfolding earlier
  tell-elements e q h = first_element (λ ms. least (among f ms)) s at p e q h
