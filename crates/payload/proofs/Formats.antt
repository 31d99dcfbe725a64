-- What is kept of a format is a valid format of at most 64 bytes.
use Rattle.std.specs.Prelude.{Option, None, Some}
use Prim.Native.Nat.{ℕ, ◌≤◌}
use native.Mathlib.Omega.{arith}
use mathlib.Core.Path.{◌≡◌, refl, sym, ap, ◌∙◌}
use mathlib.Core.List.{List}
use mathlib.Core.Bool.{Bool, true, ◌&&◌, cond}
use lib.ListN.{length}
use lib.Dec.{leb}
use borrow.Author.Tests.{leb-true}
use Rattle.abnf.specs.Accepts.{is_empty, again, starts, accepts}
use Rattle.text.specs.Bytes.{eq_bytes}
use Rattle.text.specs.Split.{split, onto}
use Rattle.text.proofs.Bytes.{both, and_both}
use Rattle.entries.specs.Entries.{is_in, none_empty, no_repeats, is_list}
use Rattle.ranges.specs.Ranges.{each_read, range_of, integer_range, float_range}
use Rattle.payload.specs.declared.Datatype.{Datatype}
use Rattle.payload.specs.declared.Datatype.TheVariants.{String, Integer, Float, Boolean, Enum, Color, Datetime, Duration, Json}
use Rattle.payload.specs.Formats.{is_format, kept_of, when_missing, kept_format}

-- a kept format, and that it is valid and short
record Good (d : Datatype) (f : List ℕ) : Type 0 where
  valid : is_format d f ≡ true
  short : length f ≤ 64

given : {a b : List ℕ} → Some a ≡ Some b → a ≡ b
given e = cc

missing-good : (d : Datatype) {f : List ℕ} → when_missing d ≡ Some f → Good d f
unfolding when_missing is_format integer_range float_range range_of each_read is_list is_in none_empty no_repeats split onto eq_bytes accepts starts again is_empty
missing-good Integer e = rw (sym (given e)) (record { valid = refl; short = omega arith })
missing-good Float e = rw (sym (given e)) (record { valid = refl; short = omega arith })
missing-good Enum e = let z : ◌≡◌ {A = ℕ} 0 1 = cc in absurd (omega arith)
missing-good Color e = let z : ◌≡◌ {A = ℕ} 0 1 = cc in absurd (omega arith)
missing-good Boolean e = rw (sym (given e)) (record { valid = refl; short = omega arith })
missing-good String e = rw (sym (given e)) (record { valid = refl; short = omega arith })
missing-good Datetime e = rw (sym (given e)) (record { valid = refl; short = omega arith })
missing-good Duration e = rw (sym (given e)) (record { valid = refl; short = omega arith })
missing-good Json e = rw (sym (given e)) (record { valid = refl; short = omega arith })

short-first : (f : List ℕ) (b : Bool) → (leb (length f) 64 && b) ≡ true → length f ≤ 64
short-first f b h = leb-true (length f) 64 (and_both (leb (length f) 64) b h).0

given-good : (d : Datatype) (g : List ℕ) → is_format d g ≡ true → Good d (kept_of d g)
unfolding kept_of is_format
given-good Integer g h = record { valid = h; short = short-first g _ h }
given-good Float g h = record { valid = h; short = short-first g _ h }
given-good Enum g h = record { valid = h; short = short-first g _ h }
given-good Color g h = record { valid = h; short = short-first g _ h }
given-good Boolean g h = record { valid = h; short = short-first g _ h }
given-good String g h = record { valid = refl; short = omega arith }
given-good Datetime g h = record { valid = refl; short = omega arith }
given-good Duration g h = record { valid = refl; short = omega arith }
given-good Json g h = record { valid = refl; short = omega arith }

kept-good : (d : Datatype) (g : Option (List ℕ)) {f : List ℕ} → kept_format d g ≡ Some f → Good d f
unfolding kept_format
kept-good d None e = missing-good d e
kept-good d (Some g) e = both (is_format d g)
    (λ h. rw (sym (given (sym (ap (λ (b : Bool). cond b (Some (kept_of d g)) None) h) ∙ e))) (given-good d g h))
    (λ h. let x = sym (ap (λ (b : Bool). cond b (Some (kept_of d g)) None) h) ∙ e in let z : ◌≡◌ {A = ℕ} 0 1 = cc in absurd (omega arith))

pub kept-valid : (d : Datatype) (g : Option (List ℕ)) (f : List ℕ) → kept_format d g ≡ Some f → is_format d f ≡ true
kept-valid d g f e = (kept-good d g e).valid

pub kept-short : (d : Datatype) (g : Option (List ℕ)) (f : List ℕ) → kept_format d g ≡ Some f → length f ≤ 64
kept-short d g f e = (kept-good d g e).short
