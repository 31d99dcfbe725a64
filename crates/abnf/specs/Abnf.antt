-- ABNF (RFC 5234) over bytes: its expressions as data, and which byte strings each one stands for.
use Rattle.std.specs.Prelude.{ℕ, zero, suc, ◌-◌, ◌≤◌, List, [], ◌∷◌, ◌++◌}

-- An expression. N names the rules that may be used before they are written, so that a rule may stand within itself.
pub data Abnf (N : Type 0) : Type 0 where
  -- %xLO-HI
  ◌–◌ : ℕ → ℕ → Abnf N
  -- nothing
  ε : Abnf N
  -- concatenation
  ◌·◌ : Abnf N → Abnf N → Abnf N
  -- alternative
  ◌//◌ : Abnf N → Abnf N → Abnf N
  -- *a, any number of times
  ∗◌ : Abnf N → Abnf N
  -- a rule by its name
  rule : N → Abnf N

infixr 40 ◌·◌
infixr 30 ◌//◌
infixr 50 ◌–◌
infixr 60 ∗◌
-- `Words rules d a w`: w is a word of a, with named rules standing within each other at most d deep.
pub data Words {N : Type 0} (rules : N → Abnf N) : ℕ → Abnf N → List ℕ → Type 0 where
  byte : {d lo hi b : ℕ} → lo ≤ b → b ≤ hi → Words rules d (lo – hi) (b ∷ [])
  nothing : {d : ℕ} → Words rules d ε []
  join : {d : ℕ} {a b : Abnf N} {x y : List ℕ} → Words rules d a x → Words rules d b y → Words rules d (a · b) (x ++ y)
  left : {d : ℕ} {a b : Abnf N} {x : List ℕ} → Words rules d a x → Words rules d (a // b) x
  right : {d : ℕ} {a b : Abnf N} {x : List ℕ} → Words rules d b x → Words rules d (a // b) x
  none : {d : ℕ} {a : Abnf N} → Words rules d (∗ a) []
  more : {d : ℕ} {a : Abnf N} {x y : List ℕ} → Words rules d a x → Words rules d (∗ a) y → Words rules d (∗ a) (x ++ y)
  named : {d : ℕ} {n : N} {x : List ℕ} → Words rules d (rules n) x → Words rules (suc d) (rule n) x

-- %xB
abbrev pub x : {N : Type 0} → ℕ → Abnf N
x b = b – b

-- [a]
abbrev pub opt : {N : Type 0} → Abnf N → Abnf N
opt a = a // ε

-- 1*a
abbrev pub some : {N : Type 0} → Abnf N → Abnf N
some a = a · ∗ a

-- %xB.B.B
abbrev pub lit : {N : Type 0} → List ℕ → Abnf N
lit [] = ε
lit (b ∷ bs) = x b · lit bs

-- nA, exactly n times
abbrev pub times : {N : Type 0} → ℕ → Abnf N → Abnf N
times zero a = ε
times (suc n) a = a · times n a

-- *nA, at most n times
abbrev pub up_to : {N : Type 0} → ℕ → Abnf N → Abnf N
up_to zero a = ε
up_to (suc n) a = opt (a · up_to n a)

-- lo*hiA, at least lo and at most hi times (with hi below lo: exactly lo times)
abbrev pub repeat : {N : Type 0} → ℕ → ℕ → Abnf N → Abnf N
repeat lo hi a = times lo a · up_to (hi - lo) a

-- a grammar that names no rule has no rules; w is a word of it
abbrev pub no_rules : ⊥ → Abnf ⊥
no_rules n = ε

abbrev pub ◌∈◌ : List ℕ → Abnf ⊥ → Type 0
w ∈ a = Words no_rules 0 a w

infix 20 ◌∈◌
