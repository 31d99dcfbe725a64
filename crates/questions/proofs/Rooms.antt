-- Places of a room as places of the memory.
use Rattle.std.specs.Prelude.{Option, Some}
use Prim.Native.Nat.{ℕ, ◌+◌, ◌≤◌}
use native.Mathlib.Omega.{arith}
use mathlib.Core.Path.{◌≡◌, sym, ap, ◌∙◌, subst}
use mathlib.Core.List.{List}
use lib.ListN.{length}
use Rattle.text.specs.declared.Place.{Place}
use Rattle.text.specs.Places.{bytes_at, Within}
use Rattle.memory.specs.Bytes.{span}
use Rattle.memory.specs.Layout.{room_size}
use Rattle.memory.proofs.Flat.{length-span}
use Rattle.device.specs.Meaning.{TextIn, Inside, shifted}
use Rattle.device.proofs.Theorems.{text_in-memory}

-- a text that stands somewhere stands there
pub inside_at : (n : ℕ) (x : Option Place) (p : Place) → Inside n x → x ≡ Some p → Within n p
inside_at n x p h e = subst (Inside n) e h

module _ (m room : List ℕ) (start : ℕ) (h : start + room_size ≤ length m) (g : room ≡ span m start room_size) where
  size_is : length room ≡ room_size
  size_is = ap length g ∙ length-span m start room_size h

  pub in-room : (p : Place) → Within (length room) p → Within room_size p
  in-room p = subst (λ (n : ℕ). Within n p) size_is

  pub text_in-room : (x : Option Place) → Inside (length room) x → Inside room_size x
  text_in-room x = subst (λ (n : ℕ). Inside n x) size_is

module _ (m : List ℕ) (start : ℕ) (h : start + room_size ≤ length m) (p : Place) (w : Within room_size p) where
  -- what the room shows there, the memory shows at the place moved on
  pub moved_on : (q : Place) → q ≡ shifted start p → TextIn m (bytes_at (span m start room_size) p) q
  moved_on q e = record {
    says = ap (λ (x : Place). bytes_at m x) e ∙ sym (text_in-memory m start room_size p h w);
    within = subst (Within (length m)) (sym e) (record { ordered = omega (arith, w.ordered); inside = omega (arith, w.inside, h) });
  }
