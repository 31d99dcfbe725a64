-- An order's slots marked and counted: t names mark t slots below d only if each is below d and none is named twice.
use Prim.Native.Nat.{ℕ, zero, suc, ◌+◌, ◌≤◌, ◌<◌}
use native.Mathlib.Omega.{arith}
use native.Mathlib.Decide.{dec_lt}
use mathlib.Core.Path.{◌≡◌, refl, sym, ap, ◌∙◌, subst}
use mathlib.Core.Logic.{◌⊎◌, inl, inr}
use mathlib.Core.List.{List}
use lib.Dec.{eqb}
use lib.ListN.{get_or, set, length-set, replicate, length-replicate, get_or-replicate}
use borrow.Author.Tests.{eq-eqb, ne_eqb}
use Rattle.memory.specs.Sound.{Permutation}
use Rattle.memory.specs.Parts.{hit, Hits, total}
use Rattle.memory.proofs.Judge.{Decides, by_equal}
use Rattle.memory.proofs.Lists.{same?}
use Rattle.memory.proofs.Flat.{set_same, set_other}

-- a total, one by one
pub total-none : (f : ℕ → ℕ) → 0 ≡ total f 0
unfolding total
total-none f = refl

pub total-next : (f : ℕ → ℕ) (n k : ℕ) → n ≡ total f k → n + f k ≡ total f (k + 1)
unfolding total
total-next f n k e = (let q : suc k ≡ k + 1 = omega arith in subst (λ (i : ℕ). n + f k ≡ total f i) q (ap (λ (x : ℕ). x + f k) e))

-- totals that differ at one place, or nowhere
total-same : (f g : ℕ → ℕ) (n : ℕ) → ((k : ℕ) → k < n → g k ≡ f k) → total g n ≡ total f n
unfolding total
total-same f g zero e = refl
total-same f g (suc n) e = omega (arith, total-same f g n (λ k h. e k (omega arith)), e n (omega arith))

total-moved : (f g : ℕ → ℕ) (s n : ℕ) → s < n → ((k : ℕ) → (k ≡ s → ⊥) → g k ≡ f k) → total g n + f s ≡ total f n + g s
unfolding total
total-moved f g s zero h e = absurd (omega arith)
total-moved f g s (suc n) h e = elim (same? s n) as (λ _. total g (suc n) + f s ≡ total f (suc n) + g s) [
  | yes q ↦ omega (arith, total-same f g n (λ k l. e k (λ x. omega arith)), ap f q, ap g q)
  | no q ↦ omega (arith, total-moved f g s n (omega arith) e, e n (λ x. q (sym x)))
]

module _ (order : ℕ → ℕ) where
  hit_same : (t s : ℕ) → order t ≡ s → hit order (suc t) s ≡ 1
  unfolding hit
  hit_same t s e = rw (eq-eqb (order t) s e)

  hit_other : (t s : ℕ) → (order t ≡ s → ⊥) → hit order (suc t) s ≡ hit order t s
  unfolding hit
  hit_other t s e = rw (ne_eqb (order t) s e)

  hit-most : (t s : ℕ) → hit order t s ≤ 1
  unfolding hit
  hit-most zero s = omega arith
  hit-most (suc t) s = elim (same? (order t) s) as (λ _. hit order (suc t) s ≤ 1) [
    | yes e ↦ omega (arith, hit_same t s e)
    | no e ↦ omega (arith, hit_other t s e, hit-most t s)
  ]

  hit-none : (t s : ℕ) → ((i : ℕ) → i < t → order i ≡ s → ⊥) → hit order t s ≡ 0
  unfolding hit
  hit-none zero s h = refl
  hit-none (suc t) s h = hit_other t s (h t (omega arith)) ∙ hit-none t s (λ i l. h i (omega arith))

  never-hit : (t s : ℕ) → hit order t s ≡ 0 → (i : ℕ) → i < t → order i ≡ s → ⊥
  never-hit zero s z i l e = omega arith
  never-hit (suc t) s z i l e = elim (same? (order t) s) as (λ _. ⊥) [
    | yes q ↦ omega (arith, hit_same t s q)
    | no q ↦ elim (same? i t) as (λ _. ⊥) [
      | yes x ↦ q (ap order (sym x) ∙ e)
      | no x ↦ never-hit t s (sym (hit_other t s q) ∙ z) i (omega arith) e
    ]
  ]

  module _ (d : ℕ) where
    abbrev sum : ℕ → ℕ
    sum t = total (hit order t) d

    -- the next name marks another slot
    record New (t : ℕ) : Type 0 where
      pub below : order t < d
      pub free : hit order t (order t) ≡ 0
      pub more : sum (suc t) ≡ suc (sum t)

    new : (t : ℕ) → order t < d → hit order t (order t) ≡ 0 → New t
    new t l z = record {
      below = l;
      free = z;
      more = omega (arith, total-moved (hit order t) (hit order (suc t)) (order t) d l (λ k h. hit_other t k (λ e. h (sym e))), hit_same t (order t) refl);
    }

    old : (t : ℕ) → order t < d → hit order t (order t) ≡ 1 → sum (suc t) ≡ sum t
    old t l z = omega (arith, total-moved (hit order t) (hit order (suc t)) (order t) d l (λ k h. hit_other t k (λ e. h (sym e))), hit_same t (order t) refl)

    step : (t : ℕ) → (sum (suc t) ≡ sum t) ⊎ New t
    step t = elim (dec_lt (order t) d) as (λ _. (sum (suc t) ≡ sum t) ⊎ New t) [
      | no h ↦ inl (total-same (hit order t) (hit order (suc t)) d (λ k l. hit_other t k (λ e. omega arith)))
      | yes h ↦ elim (same? (hit order t (order t)) 0) as (λ _. (sum (suc t) ≡ sum t) ⊎ New t) [
        | yes z ↦ inr (new t h z)
        | no z ↦ inl (old t h (omega (arith, hit-most t (order t))))
      ]
    ]

    none : (n : ℕ) → total (hit order 0) n ≡ 0
    unfolding total hit
    none zero = refl
    none (suc n) = omega (arith, none n)

    low : (t : ℕ) → sum t ≤ t
    low zero = omega (arith, none d)
    low (suc t) = elim (step t) as (λ _. sum (suc t) ≤ suc t) [
      | inl e ↦ omega (arith, low t)
      | inr x ↦ omega (arith, low t, x.more)
    ]

    full : (t : ℕ) → sum t ≡ t → (i : ℕ) → i < t → New i
    full zero e i l = absurd (omega arith)
    full (suc t) e i l = elim (step t) as (λ _. New i) [
      | inl q ↦ absurd (omega (arith, low t))
      | inr x ↦ elim (same? i t) as (λ _. New i) [
        | yes q ↦ subst New (sym q) x
        | no q ↦ full t (omega (arith, x.more)) i (omega arith)
      ]
    ]

    all-marked : sum d ≡ d → Permutation d order
    all-marked e = record {
      slots = λ i h. (full d e i h).below;
      apart = λ i k x h q. never-hit k (order k) (full d e k h).free i x q;
    }

    all : Permutation d order → (t : ℕ) → t ≤ d → sum t ≡ t
    all o zero h = none d
    all o (suc t) h = omega (arith, all o t (omega arith), (new t (o.slots t h) (hit-none t (order t) (λ i x q. o.apart i t x h q))).more)

    marks-all : Permutation d order → sum d ≡ d
    marks-all o = all o d (omega arith)

  pub hits-most : (t : ℕ) (seen : List ℕ) → Hits order t seen → (s : ℕ) → s < 256 → get_or seen s 0 ≤ 1
  hits-most t seen h s l = omega (arith, h.each s l, hit-most t s)

  -- the number of marks below d tells
  pub counted : (d : ℕ) (seen : List ℕ) (n : ℕ) → d ≤ 256 → Hits order d seen → n ≡ total (λ s. get_or seen s 0) d → Decides (eqb n d) (Permutation d order)
  counted d seen n l h e =
      let q : total (λ (s : ℕ). get_or seen s 0) d ≡ total (hit order d) d = total-same (hit order d) (λ (s : ℕ). get_or seen s 0) d (λ k x. h.each k (omega arith)) in
      by_equal n d (λ z. all-marked d (omega (arith, e, q, z))) (λ o. omega (arith, e, q, marks-all d o))

  -- the marks, made one after another
  pub no-mark : Hits order 0 (replicate 256 0)
  unfolding hit
  no-mark = record {
    size = length-replicate {A = ℕ} 256 0;
    each = λ s h. get_or-replicate 256 s 0 0 h;
  }

  pub one-mark : (seen : List ℕ) (t s : ℕ) → s ≡ order t → s < 256 → Hits order t seen → Hits order (t + 1) (set seen s 1)
  one-mark seen t s e l h = (let q : suc t ≡ t + 1 = omega arith in subst (λ (n : ℕ). Hits order n (set seen s 1)) q (record {
    size = length-set seen s 1 ∙ h.size;
    each = λ k b. elim (same? k s) as (λ _. get_or (set seen s 1) k 0 ≡ hit order (suc t) k) [
      | yes x ↦ ap (λ (i : ℕ). get_or (set seen s 1) i 0) x ∙ set_same seen s 1 (omega (arith, h.size)) ∙ sym (hit_same t k (sym e ∙ sym x))
      | no x ↦ set_other seen s 1 k x ∙ h.each k b ∙ sym (hit_other t k (λ y. x (sym y ∙ sym e)))
    ];
  }))
