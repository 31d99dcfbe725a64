-- What a call of the interface hands back: a number, and values in a lent array of numbers.
use Rattle.std.specs.Prelude.{ℕ, suc, ◌+◌, ◌-◌, ◌*◌, ◌%◌, ◌^◌, ◌≤◌, ◌≡◌, Bool, not, cond, List, [], ◌∷◌, ◌++◌, eqb, ℤ, pos, negsuc, length, take, drop}
use Rattle.answer.specs.Answer.{Refusal, Answer, refused, gives}

pub record Reply : Type 0 where
  pub number : ℕ
  pub values : List ℕ

-- `HOMIE5_VALUES` of include/homie5.h: the length of an array that has room for every answer
abbrev pub values_most : ℕ
values_most = 9

abbrev pub FitsArray : Reply → Type 0
FitsArray x = length x.values ≤ values_most

-- an answer is 0 and its values; "A refusal carries the paper's number for that fault and no part of an answer"
abbrev pub says : List ℕ → Reply
says vs = record { number = 0; values = vs }

abbrev pub refuses : ℕ → Reply
refuses n = record { number = n; values = [] }

-- A refusal as one number of 32 bits: the paper's number in the lowest 8, and above them what it tells besides (paper 02, K1, "with the byte place").
unfoldable pub telling : ℕ → List ℕ → ℕ
telling n [] = n
telling n (p ∷ ps) = n + 256 * p

abbrev pub refusal_code : Refusal → ℕ
refusal_code r = telling r.number r.tells

-- places that there is room for: every place that a description's refusal tells is one, and so the calls of the interface tell it exactly
abbrev pub places_below : ℕ
places_below = 2 ^ 24

-- what is told of any place at all: it modulo 2^24
abbrev pub fit_place : ℕ → ℕ
fit_place p = p % places_below

-- the number of an answer of the definitions
unfoldable pub refusal_number : {A : Type 0} → Answer A → ℕ
refusal_number (refused r) = refusal_code r
refusal_number (gives a) = 0

-- a judgement is 1 for yes, 0 for no
abbrev pub yes : List ℕ → Reply
yes vs = record { number = 1; values = vs }

abbrev pub no : Reply
no = record { number = 0; values = [] }

unfoldable pub bit : Bool → ℕ
bit b = cond b 1 0

-- a whole number as the 64 bits of a C `int64_t`: two's complement; `negsuc n` is -(n + 1)
unfoldable pub twos_complement : ℤ → ℕ
twos_complement (pos n) = n
twos_complement (negsuc n) = 2 ^ 64 - suc n

-- a yes or no that comes as a number: anything but 0 is yes
abbrev pub is_set : ℕ → Bool
is_set n = not (eqb n 0)

-- an array with values written to its front: what does not fit is left out, nothing else of the array is altered
unfoldable pub written : List ℕ → List ℕ → List ℕ
written vs out = take (length out) (vs ++ drop (length vs) out)

-- a reply x, by the number r and by the array, which was `out` and is out'
pub record Replied (x : Reply) (out : List ℕ) (r : ℕ) (out' : List ℕ) : Type 0 where
  pub number : r ≡ x.number
  pub array : out' ≡ written x.values out

-- There is an answer that meets the promise of the call below, and the reply is what is shown of it.
pub record Told {A : Type 0} (Promised : A → Type 0) (shown : A → Reply) (out : List ℕ) (r : ℕ) (out' : List ℕ) : Type 0 where
  pub answer : A
  pub promise : Promised answer
  pub reply : Replied (shown answer) out r out'

-- The same of a call that hands back a number alone.
pub record Numbered {A : Type 0} (Promised : A → Type 0) (number : A → ℕ) (r : ℕ) : Type 0 where
  pub answer : A
  pub promise : Promised answer
  pub says : r ≡ number answer
