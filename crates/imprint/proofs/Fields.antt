-- What the bytes of a room mean that were written, and that others beside them do not change it.
use Rattle.std.specs.Prelude.{Option, None, Some, Err, Ok, Result}
use Prim.Native.Nat.{ℕ, ◌+◌, ◌-◌, ◌≤◌, ◌<◌}
use native.Mathlib.Omega.{arith}
use mathlib.Core.Path.{◌≡◌, sym, ap, ◌∙◌}
use mathlib.Core.Bool.{Bool, true, false, not}
use mathlib.Core.List.{List, []}
use lib.ListN.{length, get_or, length-take}
use borrow.Author.Tests.{ne_eqb}
use Rattle.text.specs.Ascii.{ascii}
use Rattle.text.specs.Bytes.{slice}
use Rattle.json_text.specs.Strings.{raw_bytes, is_plain}
use Rattle.json_text.proofs.Bytes.{split}
use Rattle.escapes.proofs.Theorems.{filled-length}
use Rattle.fields.specs.Values.{string_bytes, DecodesAt}
use Rattle.fields.proofs.Decoded.{plain-bytes, decoded-length, decoded-bytes, broken-bytes}
use Rattle.payload.specs.Formats.{kept_bytes}
use Rattle.payload.specs.declared.Format.{Format}
use Rattle.payload.specs.declared.Format.TheVariants as F
use Rattle.properties.specs.Property.{text_of}
use Rattle.device.specs.Layout.{payload_at}
use Rattle.device.specs.Decode.{is_set, text_at, optional_at, held_at}
use Rattle.patch.proofs.Frame.{Alike}
use Rattle.imprint.specs.Fits.{FitsIdOrNone}
use Rattle.imprint.specs.Parts.{WritesWithin, Texted, flag}

-- ---- bytes that were not written

module _ {m m' : List ℕ} {a b : ℕ} (w : WritesWithin m a b m') where
  pub alike-below : (k n : ℕ) → k + n ≤ a → k + n ≤ length m → Alike m' k m k n
  alike-below k n h l = record { inside = omega (arith, w.kept); inside' = l; bytes = λ i q. w.below (k + i) (omega arith) }

  pub alike-above : (k n : ℕ) → b ≤ k → k + n ≤ length m → Alike m' k m k n
  alike-above k n h l = record { inside = omega (arith, w.kept); inside' = l; bytes = λ i q. w.above (k + i) (omega arith) }

  pub wider : (a' b' : ℕ) → a' ≤ a → b ≤ b' → WritesWithin m a' b' m'
  wider a' b' p q = record { kept = w.kept; below = λ i h. w.below i (omega arith); above = λ i h. w.above i (omega arith) }

pub then : {m m₁ m₂ : List ℕ} {a b : ℕ} → WritesWithin m a b m₁ → WritesWithin m₁ a b m₂ → WritesWithin m a b m₂
then u v = record { kept = v.kept ∙ u.kept; below = λ i h. v.below i h ∙ u.below i h; above = λ i h. v.above i h ∙ u.above i h }

-- ---- single bytes

pub is-flag : (r : List ℕ) (at : ℕ) (b : Bool) → get_or r at 0 ≡ flag b → is_set r at ≡ b
unfolding is_set flag
is-flag r at true e = rw e
is-flag r at false e = rw e

pub unset : (r : List ℕ) (at : ℕ) → get_or r at 0 ≡ 0 → is_set r at ≡ false
unfolding is_set
unset r at e = rw e

pub is_one : (r : List ℕ) (at : ℕ) → get_or r at 0 ≡ 1 → is_set r at ≡ true
unfolding is_set
is_one r at e = rw e

is-set : (r : List ℕ) (at : ℕ) → 1 ≤ get_or r at 0 → is_set r at ≡ true
unfolding is_set
is-set r at h = ap not (ne_eqb (get_or r at 0) 0 (λ e. omega arith))

-- a lane whose length is 0
pub empty-lane : (r : List ℕ) (a : ℕ) → get_or r (a + payload_at) 0 ≡ 0 → held_at r a ≡ None
unfolding held_at
empty-lane r a e = rw (unset r (a + payload_at) e, held_at)

-- ---- byte strings

pub texted_as : {m t t' m' : List ℕ} {at most : ℕ} → t ≡ t' → Texted m t at most m' → Texted m t' at most m'
texted_as {m} {t} {t'} {m'} {at} {most} e w = rw (sym e) w

-- of two that are too long the same is written
texted-long : {m t t' m' : List ℕ} {at most : ℕ} → most ≤ length t → most < length t' → Texted m t at most m' → Texted m t' at most m'
texted-long p q w = record { within = w.within; size = w.size ∙ omega arith; text = λ h. absurd (omega arith) }

-- a string of the text
module _ (s : List ℕ) (k : ℕ) {m m' : List ℕ} {at most : ℕ} where
  pub texted-plain : {raw : List ℕ} {b : Bool} → raw ≡ raw_bytes s k → b ≡ is_plain raw → b ≡ true → Texted m raw at most m' → Texted m (string_bytes s k) at most m'
  texted-plain x p e = texted_as (x ∙ sym (plain-bytes s k (ap is_plain (sym x) ∙ (sym p ∙ e))))

  module _ {before after : List ℕ} {r : Result ℕ ℕ} (w : DecodesAt s k before after r) where
    pub texted-half : {p : ℕ} → r ≡ Err p → Texted m [] at most m' → Texted m (string_bytes s k) at most m'
    texted-half q = texted_as (sym (broken-bytes s k w q))

    pub texted-whole : {n : ℕ} {t : List ℕ} → r ≡ Ok n → length before ≡ 64 → most ≤ 64 → t ≡ slice after 0 n → Texted m t at most m' → Texted m (string_bytes s k) at most m'
    texted-whole {n} {t} q l h x y = split n 64
        (λ g. texted_as (decoded-bytes s k w q (omega (arith, l)) x) y)
        (λ g.
        let front = ap length x ∙ length-take (n - 0) after in
        let whole_length = ap length w.buffer ∙ filled-length (string_bytes s k) before in
        texted-long (omega (arith, front, whole_length, l)) (omega (arith, decoded-length s k w q)) y)

module _ (r : List ℕ) (at most : ℕ) where
  missing : is_set r at ≡ false → optional_at r at most ≡ None
  unfolding optional_at
  missing e = rw (e, optional_at)

  present : (t : List ℕ) → is_set r at ≡ true → text_at r at most ≡ t → optional_at r at most ≡ Some t
  unfolding optional_at
  present t e q = rw (e, optional_at) (ap Some q)

pub optional_is : {m m' : List ℕ} (at most : ℕ) (o : Option (List ℕ)) → 32 ≤ most → Texted m (text_of o) at most m' → FitsIdOrNone o → optional_at m' at most ≡ o
unfolding text_of
optional_is {m} {m'} at most None h w f = missing m' at most (unset m' at (w.size ∙ omega arith))
optional_is {m} {m'} at most (Some u) h w f = present m' at most u (is-set m' at (omega (arith, w.size, f.some))) (w.text (omega (arith, f.short)))

-- the kept format
module _ (t : List ℕ) {k : Option Format} where
  pub kept-bad : k ≡ None → [] ≡ text_of (kept_bytes t k)
  unfolding text_of
  kept-bad e = rw e

  pub kept-given : k ≡ Some F.AsGiven → t ≡ text_of (kept_bytes t k)
  unfolding text_of
  kept-given e = rw e

  pub kept-colon : k ≡ Some F.Colon → ascii ":" ≡ text_of (kept_bytes t k)
  unfolding text_of
  kept-colon e = rw e

  pub kept-words : k ≡ Some F.FalseTrue → ascii "false,true" ≡ text_of (kept_bytes t k)
  unfolding text_of
  kept-words e = rw e

  pub kept-none : k ≡ Some F.NotKept → [] ≡ text_of (kept_bytes t k)
  unfolding text_of
  kept-none e = rw e
