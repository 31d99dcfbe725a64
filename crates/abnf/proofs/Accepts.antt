-- The test of a grammar holds exactly for its words.
use Prim.Native.Nat.{ℕ, zero, suc, ◌≤◌}
use native.Mathlib.Omega.{arith}
use mathlib.Core.Path.{◌≡◌, refl, sym, ap, subst, ◌∙◌}
use mathlib.Core.List.{List, [], ◌∷◌, ◌++◌, append_assoc, append-nil}
use mathlib.Core.Bool.{Bool, true, false, ◌&&◌, false≢true}
use lib.ListN.{length, length-append}
use lib.Dec.{leb}
use borrow.Author.Tests.{leb-true, le-leb}
use Rattle.abnf.specs.Abnf.{Abnf, ◌–◌, ε, ◌·◌, ◌//◌, ∗◌, rule, Words, byte, nothing, join, left, right, none, more, named, no_rules, ◌∈◌}
use Rattle.abnf.specs.Accepts.{in_range, is_empty, again, starts, accepts}

pub and_both : (a b : Bool) → (a && b) ≡ true → (a ≡ true) × (b ≡ true)
and_both true b e = (refl, e)
and_both false b e = absurd (false≢true e)

-- a word at the front, and k of what is left
pub record Front (a : Abnf ⊥) (k : List ℕ → Bool) (s : List ℕ) : Type 0 where
  pub word : List ℕ
  pub rest : List ℕ
  pub is : word ∈ a
  pub cut : s ≡ word ++ rest
  pub holds : k rest ≡ true

abbrev Sound : Abnf ⊥ → Type 0
Sound a = (k : List ℕ → Bool) (s : List ℕ) → starts a k s ≡ true → Front a k s

sound_range : (lo hi : ℕ) → Sound (lo – hi)
unfolding starts
sound_range lo hi k [] e = absurd (false≢true e)
sound_range lo hi k (b ∷ s) e = go (in_range lo hi b) refl e
  where
    go : (t : Bool) → in_range lo hi b ≡ t → elim t as (λ x. Bool) [ true ↦ k s | false ↦ false ] ≡ true → Front (lo – hi) k (b ∷ s)
    go true q e = let r = and_both (leb lo b) (leb b hi) q in record { word = b ∷ []; rest = s; is = byte (leb-true lo b r.0) (leb-true b hi r.1); cut = refl; holds = e }
    go false q e = absurd (false≢true e)

sound-join : (a b : Abnf ⊥) → Sound a → Sound b → Sound (a · b)
unfolding starts
sound-join a b f g k s e =
    let p = f (λ r. starts b k r) s e in
    let q = g k p.rest p.holds in
    record {
      word = p.word ++ q.word;
      rest = q.rest;
      is = join p.is q.is;
      cut = p.cut ∙ ap (λ (l : List ℕ). p.word ++ l) q.cut ∙ sym (append_assoc p.word q.word q.rest);
      holds = q.holds;
    }

sound_either : (a b : Abnf ⊥) → Sound a → Sound b → Sound (a // b)
unfolding starts
sound_either a b f g k s e = go (starts a k s) refl e
  where
    go : (t : Bool) → starts a k s ≡ t → elim t as (λ x. Bool) [ true ↦ true | false ↦ starts b k s ] ≡ true → Front (a // b) k s
    go true q e = let p = f k s q in record { word = p.word; rest = p.rest; is = left p.is; cut = p.cut; holds = p.holds }
    go false q e = let p = g k s e in record { word = p.word; rest = p.rest; is = right p.is; cut = p.cut; holds = p.holds }

sound-again : (a : Abnf ⊥) → Sound a → (n : ℕ) (k : List ℕ → Bool) (s : List ℕ) → again (λ f r. starts a f r) k n s ≡ true → Front (∗ a) k s
unfolding again
sound-again a f zero k s e = record { word = []; rest = s; is = none; cut = refl; holds = e }
sound-again a f (suc n) k s e = go (λ r h. sound-again a f n k r h) (k s) refl e
  where
    go : ((r : List ℕ) → again (λ f r. starts a f r) k n r ≡ true → Front (∗ a) k r) → (t : Bool) → k s ≡ t → elim t as (λ x. Bool) [ true ↦ true | false ↦ starts a (again (λ f r. starts a f r) k n) s ] ≡ true → Front (∗ a) k s
    go h true q e = record { word = []; rest = s; is = none; cut = refl; holds = q }
    go h false q e =
        let p = f (again (λ f r. starts a f r) k n) s e in
        let q = h p.rest p.holds in
        record {
          word = p.word ++ q.word;
          rest = q.rest;
          is = more p.is q.is;
          cut = p.cut ∙ ap (λ (l : List ℕ). p.word ++ l) q.cut ∙ sym (append_assoc p.word q.word q.rest);
          holds = q.holds;
        }

pub sound : (a : Abnf ⊥) → Sound a
unfolding starts
sound (lo – hi) k s e = sound_range lo hi k s e
sound ε k s e = record { word = []; rest = s; is = nothing; cut = refl; holds = e }
sound (a · b) k s e = sound-join a b (sound a) (sound b) k s e
sound (a // b) k s e = sound_either a b (sound a) (sound b) k s e
sound (∗ a) k s e = sound-again a (sound a) (length s) k s e
sound (rule n) k s e = absurd n

-- the laws of one step
pub or_left : (a b : Bool) → a ≡ true → elim a as (λ x. Bool) [ true ↦ true | false ↦ b ] ≡ true
or_left a b e = rw e

pub or_right : (a b : Bool) → b ≡ true → elim a as (λ x. Bool) [ true ↦ true | false ↦ b ] ≡ true
or_right true b e = refl
or_right false b e = e

-- a test that takes more lets more start
abbrev More : (k l : List ℕ → Bool) → Type 0
More k l = (r : List ℕ) → k r ≡ true → l r ≡ true

abbrev Grows : Abnf ⊥ → Type 0
Grows a = (k l : List ℕ → Bool) → More k l → (s : List ℕ) → starts a k s ≡ true → starts a l s ≡ true

grows-again : (a : Abnf ⊥) → Grows a → (k l : List ℕ → Bool) → More k l → (n m : ℕ) → n ≤ m → More (again (λ f r. starts a f r) k n) (again (λ f r. starts a f r) l m)
unfolding again
grows-again a f k l h zero zero g s e = h s e
grows-again a f k l h zero (suc m) g s e = or_left (l s) _ (h s e)
grows-again a f k l h (suc n) zero g s e = absurd (omega arith)
grows-again a f k l h (suc n) (suc m) g s e = go (λ r. grows-again a f k l h n m (omega arith) r) (k s) refl e
  where
    go : More (again (λ f r. starts a f r) k n) (again (λ f r. starts a f r) l m) → (t : Bool) → k s ≡ t → elim t as (λ x. Bool) [ true ↦ true | false ↦ starts a (again (λ f r. starts a f r) k n) s ] ≡ true → elim (l s) as (λ x. Bool) [ true ↦ true | false ↦ starts a (again (λ f r. starts a f r) l m) s ] ≡ true
    go i true q e = or_left (l s) _ (h s q)
    go i false q e = or_right (l s) _ (f (again (λ f r. starts a f r) k n) (again (λ f r. starts a f r) l m) i s e)

pub grows : (a : Abnf ⊥) → Grows a
unfolding starts
grows (lo – hi) k l h [] e = e
grows (lo – hi) k l h (b ∷ s) e = go (in_range lo hi b) e
  where
    go : (t : Bool) → elim t as (λ x. Bool) [ true ↦ k s | false ↦ false ] ≡ true → elim t as (λ x. Bool) [ true ↦ l s | false ↦ false ] ≡ true
    go true e = h s e
    go false e = e
grows ε k l h s e = h s e
grows (a · b) k l h s e = grows a (λ r. starts b k r) (λ r. starts b l r) (λ r q. grows b k l h r q) s e
grows (a // b) k l h s e = go (starts a k s) refl (grows a k l h s) (grows b k l h s) e
  where
    go : (t : Bool) → starts a k s ≡ t → (starts a k s ≡ true → starts a l s ≡ true) → (starts b k s ≡ true → starts b l s ≡ true) → elim t as (λ x. Bool) [ true ↦ true | false ↦ starts b k s ] ≡ true → elim (starts a l s) as (λ x. Bool) [ true ↦ true | false ↦ starts b l s ] ≡ true
    go true q f g e = or_left (starts a l s) _ (f q)
    go false q f g e = or_right (starts a l s) _ (g e)
grows (∗ a) k l h s e = grows-again a (grows a) k l h (length s) (length s) (omega arith) s e
grows (rule n) k l h s e = absurd n

pub complete : {d : ℕ} {a : Abnf ⊥} {w : List ℕ} (k : List ℕ → Bool) (r : List ℕ) → k r ≡ true → Words no_rules d a w → starts a k (w ++ r) ≡ true
unfolding starts again
complete k r e (byte {lo = lo} {hi = hi} {b = b} h g) = let q : in_range lo hi b ≡ true = rw (le-leb lo b h, le-leb b hi g) in rw (q, starts) e
complete k r e nothing = e
complete k r e (join {b = b} {x = x} {y = y} p q) = rw append_assoc (complete (λ r. starts b k r) (y ++ r) (complete k r e q) p)
complete k r e (left {a = a} {b = b} {x = x} p) = or_left (starts a k (x ++ r)) _ (complete k r e p)
complete k r e (right {a = a} {b = b} {x = x} p) = or_right (starts a k (x ++ r)) _ (complete k r e p)
complete k r e (none {a = a}) = first (length r)
  where
    first : (n : ℕ) → again (λ f r. starts a f r) k n r ≡ true
    first zero = e
    first (suc n) = or_left (k r) _ e
complete k r e (more {a = a} {x = x} {y = y} p q) = rw append_assoc (go x (complete k r e q) (λ f h. complete f (y ++ r) h p))
  where
    go : (x : List ℕ) → again (λ f r. starts a f r) k (length (y ++ r)) (y ++ r) ≡ true → ((f : List ℕ → Bool) → f (y ++ r) ≡ true → starts a f (x ++ (y ++ r)) ≡ true) → again (λ f r. starts a f r) k (length (x ++ (y ++ r))) (x ++ (y ++ r)) ≡ true
    go [] h f = h
    go (b ∷ x) h f =
        let n = length (x ++ (y ++ r)) in
        or_right (k (b ∷ x ++ (y ++ r))) _ (f (again (λ f r. starts a f r) k n) (grows-again a (grows a) k k (λ r h. h) (length (y ++ r)) n (omega (arith, length-append x (y ++ r))) (y ++ r) h))
complete k r e (named {n = n} p) = absurd n

empty_is : (s : List ℕ) → is_empty s ≡ true → s ≡ []
unfolding is_empty
empty_is [] e = refl
empty_is (b ∷ s) e = absurd (false≢true e)

pub accepts-word : (a : Abnf ⊥) (s : List ℕ) → accepts a s ≡ true → s ∈ a
unfolding accepts
accepts-word a s e =
    let p = sound a is_empty s e in
    subst (λ (l : List ℕ). l ∈ a) (sym (p.cut ∙ ap (λ (l : List ℕ). p.word ++ l) (empty_is p.rest p.holds) ∙ append-nil p.word)) p.is

pub word-accepts : (a : Abnf ⊥) (s : List ℕ) → s ∈ a → accepts a s ≡ true
unfolding accepts is_empty
word-accepts a s w = rw (append-nil s) at (complete is_empty [] refl w)
