-- Whole numbers, negative ones included.
use Rattle.std.specs.Prelude.{ℕ, List, Bool, true, false, ◌&&◌, eqb, get_or, ℤ, pos, negsuc, neg_ℤ}
use Rattle.std.proofs.Math.IntN.{sub_ℕ}
use Rattle.std.specs.Int.Signed.{le_z}

-- n, or -n
abbrev pub signed : Bool → ℕ → ℤ
signed true n = neg_ℤ (pos n)
signed false n = pos n

-- the text begins with `-`
abbrev pub minus : List ℕ → Bool
minus s = eqb (get_or s 0 0) 45

abbrev pub between : ℤ → ℤ → ℤ → Bool
between lo hi z = le_z lo z && le_z z hi

-- a number n of the code stands for the whole number n - bias
abbrev pub stands : ℕ → ℕ → ℤ
stands bias n = sub_ℕ n bias

-- z if it is above 0, else 0
abbrev pub above_zero : ℤ → ℕ
above_zero (pos n) = n
above_zero (negsuc n) = 0
