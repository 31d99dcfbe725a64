-- What is written.
use Rattle.std.specs.Int.{from_bool}
use Prim.Native.Nat.{ℕ, suc, ◌+◌, ◌^◌, ◌≤◌, ◌<◌, min}
use native.Mathlib.Omega.{arith}
use mathlib.Core.Path.{◌≡◌, refl, sym, ap, ◌∙◌}
use mathlib.Core.Bool.{Bool, true, false}
use mathlib.Core.List.{List}
use lib.ListN.{length, get_or, set, length-set}
use Rattle.little_endian.specs.Bytes.{u64, le_bytes, put, Stored}
use Rattle.little_endian.proofs.Put.{length-put}
use Rattle.little_endian.proofs.Numbers.{length-le_bytes}
use Rattle.memory.proofs.Flat.{span_is, set_same, set_other, put-below, put-above}
use Rattle.journal.specs.Parts.{Over}
use Rattle.device.specs.Layout.{datatype_code_at, settable_at, retained_at, format_at}
use Rattle.device.specs.Decode.{text_at}
use Rattle.patch.proofs.Written.{number-back}
use Rattle.imprint.specs.Parts.{WritesWithin, Texted, Traits, flag}

-- a length byte, then bytes
module _ (m t m' : List ℕ) (at most n : ℕ) (e : n ≡ min (length t) most) (l : at + suc most ≤ length m) (o : Over (set m at n) (λ k. get_or t k 0) (at + 1) n m') where
  long : length m' ≡ length m
  long = o.kept ∙ length-set m at n

  size_is : get_or m' at 0 ≡ n
  size_is = o.below at (omega arith) ∙ set_same m at n (omega arith)

  text_is : length t ≤ most → text_at m' at most ≡ t
  unfolding text_at
  text_is h =
      let k : min (get_or m' at 0) most ≡ length t = omega (arith, size_is) in
      rw k (span_is m' t (at + 1) (length t) (omega (arith, long)) refl (λ j q. o.inside j (omega arith)))

  pub texted : Texted m t at most m'
  texted = record {
    within = record {
      kept = long;
      below = λ j h. o.below j (omega arith) ∙ set_other m at n j (λ x. omega arith);
      above = λ j h. o.above j (omega arith) ∙ set_other m at n j (λ x. omega arith);
    };
    size = size_is ∙ e;
    text = text_is;
  }

-- a number of 8 bytes
pub record Numbered (m : List ℕ) (at v : ℕ) (m' : List ℕ) : Type 0 where
  pub within : WritesWithin m at (at + 8) m'
  pub number : u64 m' at ≡ v

module _ (m m' : List ℕ) (at v : ℕ) (l : at + 8 ≤ length m) (h : v < 256 ^ 8) (w : Stored m at 8 v m') where
  stored : m' ≡ put m at (le_bytes 8 v)
  stored = w.written l

  fits : at + length (le_bytes 8 v) ≤ length m
  fits = omega (arith, length-le_bytes 8 v)

  pub numbered : Numbered m at v m'
  numbered = record {
    within = record {
      kept = ap length stored ∙ length-put m at (le_bytes 8 v) fits;
      below = λ j q. ap (λ (s : List ℕ). get_or s j 0) stored ∙ put-below m (le_bytes 8 v) at fits j q;
      above = λ j q. ap (λ (s : List ℕ). get_or s j 0) stored ∙ put-above m (le_bytes 8 v) at fits j (omega (arith, length-le_bytes 8 v));
    };
    number = ap (λ (s : List ℕ). u64 s at) stored ∙ number-back m at v l h;
  }

-- three bytes of the record at a place
module _ (m : List ℕ) (at code settable retained : ℕ) (l : at + format_at ≤ length m) where
  abbrev one : List ℕ
  one = set m (at + datatype_code_at) code

  abbrev two : List ℕ
  two = set one (at + settable_at) settable

  abbrev three : List ℕ
  three = set two (at + retained_at) retained

  same : (j : ℕ) → (j ≡ at + datatype_code_at → ⊥) → (j ≡ at + settable_at → ⊥) → (j ≡ at + retained_at → ⊥) → get_or three j 0 ≡ get_or m j 0
  same j p q r = set_other two (at + retained_at) retained j r ∙ set_other one (at + settable_at) settable j q ∙ set_other m (at + datatype_code_at) code j p

  pub three-put : Traits m at code settable retained three
  three-put = record {
    within = record {
      kept = length-set two (at + retained_at) retained ∙ length-set one (at + settable_at) settable ∙ length-set m (at + datatype_code_at) code;
      below = λ j h. same j (λ x. omega arith) (λ x. omega arith) (λ x. omega arith);
      above = λ j h. same j (λ x. omega arith) (λ x. omega arith) (λ x. omega arith);
    };
    code = set_other two (at + retained_at) retained (at + datatype_code_at) (λ x. omega arith) ∙ set_other one (at + settable_at) settable (at + datatype_code_at) (λ x. omega arith)
        ∙ set_same m (at + datatype_code_at) code (omega arith);
    settable = set_other two (at + retained_at) retained (at + settable_at) (λ x. omega arith) ∙ set_same one (at + settable_at) settable (omega (arith, length-set m (at + datatype_code_at) code));
    retained = set_same two (at + retained_at) retained (omega (arith, length-set one (at + settable_at) settable, length-set m (at + datatype_code_at) code));
  }

pub flag_is : (b : Bool) → from_bool b ≡ flag b
unfolding flag
flag_is true = refl
flag_is false = refl

pub traits : (m : List ℕ) (at a b c b' c' : ℕ) → at + format_at ≤ length m → b ≡ b' → c ≡ c'
    → Traits m at a b' c' (set (set (set m (at + datatype_code_at) a) (at + settable_at) b) (at + retained_at) c)
traits m at a b c b' c' l p q = rw (sym p, sym q) (three-put m at a b c l)
