-- A datatype's name has no backslash, and at most eight bytes.
use Rattle.std.specs.Prelude.{None, Some}
use Prim.Native.Nat.{ℕ, ◌≤◌, ◌<◌}
use native.Mathlib.Omega.{arith}
use mathlib.Core.Path.{◌≡◌, refl, sym, ap, ◌∙◌}
use mathlib.Core.List.{List, [], ◌∷◌}
use mathlib.Core.Bool.{Bool, true, cond}
use lib.ListN.{length}
use Rattle.text.specs.Bytes.{eq_bytes}
use Rattle.text.proofs.Bytes.{both, eq-long, eq_bytes-true}
use Rattle.json_text.specs.Strings.{is_plain}
use Rattle.payload.specs.Datatypes.{datatypes, name_of, named_in, datatype_named}
use Rattle.payload.specs.declared.Datatype.{Datatype}
use Rattle.payload.specs.declared.Datatype.TheVariants.{String, Integer, Float, Boolean, Enum, Color, Datetime, Duration, Json}

name-plain : (d : Datatype) → is_plain (name_of d) ≡ true
unfolding is_plain
name-plain String = refl
name-plain Integer = refl
name-plain Float = refl
name-plain Boolean = refl
name-plain Enum = refl
name-plain Color = refl
name-plain Datetime = refl
name-plain Duration = refl
name-plain Json = refl

named-plain : (ds : List Datatype) (t : List ℕ) {d : Datatype} → named_in ds t ≡ Some d → is_plain t ≡ true
named-plain [] t {d} e = let z : ◌≡◌ {A = ℕ} 0 1 = cc in absurd (omega arith)
named-plain (c ∷ ds) t {d} e = both (eq_bytes t (name_of c))
    (λ h. ap is_plain (eq_bytes-true t (name_of c) h) ∙ name-plain c)
    (λ h. named-plain ds t (sym (ap (λ (b : Bool). cond b (Some c) (named_in ds t)) h) ∙ e))

pub datatype-plain : (t : List ℕ) (d : Datatype) → datatype_named t ≡ Some d → is_plain t ≡ true
unfolding datatype_named
datatype-plain t d e = named-plain datatypes t e

name-short : (d : Datatype) → length (name_of d) ≤ 8
name-short String = omega arith
name-short Integer = omega arith
name-short Float = omega arith
name-short Boolean = omega arith
name-short Enum = omega arith
name-short Color = omega arith
name-short Datetime = omega arith
name-short Duration = omega arith
name-short Json = omega arith

none_named : (ds : List Datatype) (t : List ℕ) → 8 < length t → named_in ds t ≡ None
none_named [] t h = refl
none_named (c ∷ ds) t h =
    let l = name-short c in
    ap (λ (b : Bool). cond b (Some c) (named_in ds t)) (eq-long t (name_of c) (λ e. omega arith)) ∙ none_named ds t h

pub datatype-short : (t : List ℕ) → 8 < length t → datatype_named t ≡ None
unfolding datatype_named
datatype-short t h = none_named datatypes t h
