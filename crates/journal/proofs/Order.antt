-- An order that names each slot once, after an element moved.
use Prim.Native.Nat.{ℕ, suc, ◌-◌, ◌≤◌, ◌<◌}
use native.Mathlib.Omega.{arith}
use native.Mathlib.Decide.{dec_lt}
use mathlib.Core.Path.{◌≡◌, sym, ap, ◌∙◌}
use mathlib.Core.List.{List}
use lib.ListN.{length, get_or}
use Rattle.memory.specs.Bytes.{remove_at, insert_at, move}
use Rattle.memory.specs.Sound.{Permutation}
use Rattle.memory.proofs.Lists.{same?, length-remove_at, get_or_inserted, get_d_insert_below, get_d_insert_above, get_d_remove_below, get_d_remove_above}

-- each slot once
pub once : (d : ℕ) (o : ℕ → ℕ) → Permutation d o → (i k : ℕ) → i < d → k < d → o i ≡ o k → i ≡ k
once d o q i k x y e = elim (same? i k) as (λ _. i ≡ k) [
  | yes h ↦ h
  | no h ↦ elim (dec_lt i k) as (λ _. i ≡ k) [
    | yes l ↦ absurd (q.apart i k l y e)
    | no l ↦ absurd (q.apart k i (omega arith) x (sym e))
  ]
]

pub permutation_same : (d d' : ℕ) (o o' : ℕ → ℕ) → d' ≡ d → Permutation d o → ((i : ℕ) → i < d → o' i ≡ o i) → Permutation d' o'
permutation_same d d' o o' ed q e = record {
  slots = λ i h. omega (arith, q.slots i (omega arith), e i (omega arith));
  apart = λ i k l h w. q.apart i k l (omega arith) (sym (e i (omega arith)) ∙ w ∙ e k (omega arith));
}

-- where the element at i of a list comes from, whose element at a moved to b
data From (l : List ℕ) (a b i : ℕ) (x : ℕ) : ℕ → Type 0 where
  here : (e : i ≡ b) (v : x ≡ get_or l a 0) → From l a b i x a
  low-low : (h : i < b) (k : i < a) (v : x ≡ get_or l i 0) → From l a b i x i
  low-high : (h : i < b) (k : a ≤ i) (v : x ≡ get_or l (suc i) 0) → From l a b i x (suc i)
  high-low : (p : ℕ) (e : i ≡ suc p) (h : b ≤ p) (k : p < a) (v : x ≡ get_or l p 0) → From l a b i x p
  high-high : (p : ℕ) (e : i ≡ suc p) (h : b ≤ p) (k : a ≤ p) (v : x ≡ get_or l (suc p) 0) → From l a b i x (suc p)

record Source (l : List ℕ) (a b i : ℕ) : Type 0 where
  at : ℕ
  way : From l a b i (get_or (move 0 a b l) i 0) at

module _ (l : List ℕ) (a b : ℕ) (ha : a < length l) (hb : b < length l) where
  r : List ℕ
  r = remove_at a l

  fits : b ≤ length r
  unfolding r
  fits = omega (arith, length-remove_at a l ha)

  source : (i : ℕ) → Source l a b i
  unfolding r move
  source i = elim (same? i b) as (λ _. Source l a b i) [
    | yes e ↦ record { at = a; way = here e (ap (λ (k : ℕ). get_or (insert_at b (get_or l a 0) r) k 0) e ∙ get_or_inserted b (get_or l a 0) 0 r fits) }
    | no e ↦ elim (dec_lt i b) as (λ _. Source l a b i) [
      | yes h ↦ elim (dec_lt i a) as (λ _. Source l a b i) [
        | yes k ↦ record { at = i; way = low-low h k (get_d_insert_below b i (get_or l a 0) 0 r fits h ∙ get_d_remove_below a i 0 l k) }
        | no k ↦ record { at = suc i; way = low-high h (omega arith) (get_d_insert_below b i (get_or l a 0) 0 r fits h ∙ get_d_remove_above a i 0 l (omega arith)) }
      ]
      | no h ↦ (let q : i ≡ suc (i - 1) = omega arith in
          let v = ap (λ (t : ℕ). get_or (insert_at b (get_or l a 0) r) t 0) q ∙ get_d_insert_above b (i - 1) (get_or l a 0) 0 r fits (omega arith) in
          elim (dec_lt (i - 1) a) as (λ _. Source l a b i) [
            | yes k ↦ record { at = i - 1; way = high-low (i - 1) q (omega arith) k (v ∙ get_d_remove_below a (i - 1) 0 l k) }
            | no k ↦ record { at = suc (i - 1); way = high-high (i - 1) q (omega arith) (omega arith) (v ∙ get_d_remove_above a (i - 1) 0 l (omega arith)) }
          ])
    ]
  ]

  value : (i x s : ℕ) → From l a b i x s → x ≡ get_or l s 0
  value i x s (here e v) = v
  value i x s (low-low h k v) = v
  value i x s (low-high h k v) = v
  value i x s (high-low p e h k v) = v
  value i x s (high-high p e h k v) = v

  below : (i x s : ℕ) → i < length l → From l a b i x s → s < length l
  below i x s q (here e v) = ha
  below i x s q (low-low h k v) = q
  below i x s q (low-high h k v) = omega arith
  below i x s q (high-low p e h k v) = omega arith
  below i x s q (high-high p e h k v) = omega arith

  -- two places have two sources
  differ : (i k x y s t : ℕ) → i < k → From l a b i x s → From l a b k y t → s ≡ t → ⊥
  differ i k x y s t q (here e v) (here e' v') z = omega arith
  differ i k x y s t q (here e v) (low-low h' k' v') z = omega arith
  differ i k x y s t q (here e v) (low-high h' k' v') z = omega arith
  differ i k x y s t q (here e v) (high-low p' e' h' k' v') z = omega arith
  differ i k x y s t q (here e v) (high-high p' e' h' k' v') z = omega arith
  differ i k x y s t q (low-low h g v) (here e' v') z = omega arith
  differ i k x y s t q (low-low h g v) (low-low h' k' v') z = omega arith
  differ i k x y s t q (low-low h g v) (low-high h' k' v') z = omega arith
  differ i k x y s t q (low-low h g v) (high-low p' e' h' k' v') z = omega arith
  differ i k x y s t q (low-low h g v) (high-high p' e' h' k' v') z = omega arith
  differ i k x y s t q (low-high h g v) (here e' v') z = omega arith
  differ i k x y s t q (low-high h g v) (low-low h' k' v') z = omega arith
  differ i k x y s t q (low-high h g v) (low-high h' k' v') z = omega arith
  differ i k x y s t q (low-high h g v) (high-low p' e' h' k' v') z = omega arith
  differ i k x y s t q (low-high h g v) (high-high p' e' h' k' v') z = omega arith
  differ i k x y s t q (high-low p e h g v) (here e' v') z = omega arith
  differ i k x y s t q (high-low p e h g v) (low-low h' k' v') z = omega arith
  differ i k x y s t q (high-low p e h g v) (low-high h' k' v') z = omega arith
  differ i k x y s t q (high-low p e h g v) (high-low p' e' h' k' v') z = omega arith
  differ i k x y s t q (high-low p e h g v) (high-high p' e' h' k' v') z = omega arith
  differ i k x y s t q (high-high p e h g v) (here e' v') z = omega arith
  differ i k x y s t q (high-high p e h g v) (low-low h' k' v') z = omega arith
  differ i k x y s t q (high-high p e h g v) (low-high h' k' v') z = omega arith
  differ i k x y s t q (high-high p e h g v) (high-low p' e' h' k' v') z = omega arith
  differ i k x y s t q (high-high p e h g v) (high-high p' e' h' k' v') z = omega arith

  -- THE law: an order with an element moved is an order
  pub permutation-moved : Permutation (length l) (λ i. get_or l i 0) → Permutation (length l) (λ i. get_or (move 0 a b l) i 0)
  permutation-moved o = record {
    slots = λ i h. (let s = source i in omega (arith, value i _ s.at s.way, o.slots s.at (below i _ s.at h s.way)));
    apart = λ i k q h e.
        let s = source i in
        let t = source k in
        differ i k _ _ s.at t.at q s.way t.way
        (once (length l) (λ n. get_or l n 0) o s.at t.at (below i _ s.at (omega arith) s.way) (below k _ t.at h t.way)
        (sym (value i _ s.at s.way) ∙ e ∙ value k _ t.at t.way));
  }
