-- What the crate promises beyond its contracts.
use Rattle.std.specs.Prelude.{Some}
use Prim.Native.Nat.{ℕ, ◌^◌, ◌<◌}
use mathlib.Core.Path.{◌≡◌}
use mathlib.Core.List.{List}
use mathlib.Core.Bool.{true}
use lib.Dec.{ltb}
use Rattle.text.specs.Bytes.{every}
use Rattle.lines.specs.Hex.{hex_of, bytes_of}
use Rattle.lines.specs.Number.{number_of, decimal_text}
use Rattle.lines.proofs.RoundTrips.{hex-back, hex-word}
use Rattle.lines.proofs.ReadBack.{number-back}

-- bytes that are written as a word are read back from it
pub hex_reads-back : (s : List ℕ) → every (λ b. ltb b 256) s ≡ true → bytes_of (hex_of s) ≡ Some s
hex_reads-back s h = hex-back s h

-- and from no other word
pub hex-only : (w s : List ℕ) → bytes_of w ≡ Some s → w ≡ hex_of s
hex-only w s e = hex-word w s e

-- a number of 64 bits that is written is read back
pub number_reads-back : (n : ℕ) → n < 2 ^ 64 → number_of (decimal_text n) ≡ Some n
number_reads-back n h = number-back n h
