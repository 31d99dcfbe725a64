-- Words of a repeated character: how many there are, and that each is one.
use Prim.Native.Nat.{ℕ, zero, suc, ◌+◌, ◌≤◌}
use native.Mathlib.Omega.{arith}
use mathlib.Core.Path.{◌≡◌, refl, ◌∙◌}
use mathlib.Core.List.{List, [], ◌∷◌, ◌++◌}
use mathlib.Core.Bool.{Bool, true, ◌&&◌}
use lib.ListN.{length, length-append}
use Rattle.abnf.specs.Abnf.{Abnf, ◌∈◌, nothing, join, times, repeat}
use Rattle.abnf.proofs.Theorems.{repeats}
use Rattle.text.specs.Bytes.{every}
use Rattle.text.proofs.Bytes.{both, and_both}

pub every_append : (p : ℕ → Bool) (s t : List ℕ) → every p (s ++ t) ≡ (every p s && every p t)
unfolding every
every_append p [] t = refl
every_append p (b ∷ s) t = both (p b) (λ e. rw e (every_append p s t)) (λ e. rw e)

-- `a` has the words of one byte that passes the test
pub record Char (p : ℕ → Bool) (a : Abnf ⊥) : Type 0 where
  pub is : (b : ℕ) → p b ≡ true → (b ∷ []) ∈ a
  pub one : (w : List ℕ) → w ∈ a → (b : ℕ) × (w ≡ b ∷ []) × (p b ≡ true)

-- so many bytes, each of which passes the test
pub record Run (p : ℕ → Bool) (lo hi : ℕ) (s : List ℕ) : Type 0 where
  pub least : lo ≤ length s
  pub most : length s ≤ hi
  pub all : every p s ≡ true

module _ (p : ℕ → Bool) (a : Abnf ⊥) (char : Char p a) where
  times_in : (n : ℕ) (s : List ℕ) → length s ≡ n → every p s ≡ true → s ∈ times n a
  unfolding every
  times_in zero [] h e = nothing
  times_in zero (b ∷ s) h e = absurd (omega arith)
  times_in (suc n) [] h e = absurd (omega arith)
  times_in (suc n) (b ∷ s) h e = let q = and_both (p b) _ e in join (char.is b q.0) (times_in n s (omega arith) q.1)

  joined : {s t : List ℕ} (l m n k : ℕ) {u v : ℕ} → Run p l m s → Run p n k t → u ≤ l + n → m + k ≤ v → Run p u v (s ++ t)
  joined {s} {t} l m n k q r h i = record {
    least = omega (arith, length-append s t, q.least, r.least);
    most = omega (arith, length-append s t, q.most, r.most);
    all = every_append p s t ∙ rw (q.all, r.all);
  }

  one-run : (w : List ℕ) → w ∈ a → Run p 1 1 w
  unfolding every
  one-run w h = let q = char.one w h in rw q.1 (record { least = omega arith; most = omega arith; all = rw q.2 })

  times_out : (n : ℕ) {s : List ℕ} → s ∈ times n a → Run p n n s
  unfolding every
  times_out zero nothing = record { least = omega arith; most = omega arith; all = refl }
  times_out (suc n) (join h k) = joined 1 1 n n (one-run _ h) (times_out n k) (omega arith) (omega arith)

  -- the words of lo*hia
  pub repeat_in : (lo hi : ℕ) (s : List ℕ) → Run p lo hi s → s ∈ repeat lo hi a
  repeat_in lo hi s r = (repeats a lo hi s (omega (arith, r.least, r.most))).1 (length s, r.least, r.most, times_in (length s) s refl r.all)

  pub repeat_out : (lo hi : ℕ) {s : List ℕ} → lo ≤ hi → s ∈ repeat lo hi a → Run p lo hi s
  repeat_out lo hi {s} h w =
      let q = (repeats a lo hi s h).0 w in
      let r = times_out q.0 q.3 in
      record { least = omega (arith, r.least, q.1); most = omega (arith, r.most, q.2); all = r.all }
