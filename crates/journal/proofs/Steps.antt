-- What the functions of the ring do to the bytes, from what their calls do.
use Prim.Native.Nat.{ℕ, ◌+◌, ◌-◌, ◌≤◌, ◌<◌}
use native.Mathlib.Omega.{arith}
use native.Mathlib.Decide.{dec_lt}
use mathlib.Core.Path.{◌≡◌, sym, ap, ap₂, ◌∙◌, subst}
use mathlib.Core.List.{List, [], ◌∷◌, ◌++◌}
use lib.ListN.{length, get_or, take, drop}
use Rattle.little_endian.specs.Bytes.{le_bytes, u16, put, Stored}
use Rattle.little_endian.proofs.Numbers.{length-le_bytes, num-back}
use Rattle.little_endian.proofs.Put.{length-put, drop-put}
use Rattle.memory.specs.Bytes.{span, move}
use Rattle.memory.specs.Layout.{head_at, head_size, order_at, entry_size}
use Rattle.journal.specs.Parts.{Over, Settled, Noted}
use Rattle.memory.proofs.Lists.{length-move}
use Rattle.memory.proofs.Flat.{span-kept, num-same, num-kept, put-below, length-span, get_or-span, back, back-length, back_below, back_in, back_above, back-span}

-- the entry that is written: two bytes, then two numbers
module _ (m m₁ m₂ e₁ e₂ : List ℕ) (at from to offset len : ℕ) (above : head_at + head_size ≤ at) (fits : at + entry_size ≤ length m) (so : offset < 65536) (sl : len < 65536)
    (p : Stored (to ∷ from ∷ 0 ∷ 0 ∷ 0 ∷ 0 ∷ 0 ∷ 0 ∷ []) 2 2 offset e₁) (q : Stored e₁ 4 2 len e₂)
    (w : Over m (λ i. get_or e₂ i 0) at (length e₂) m₁) (c : Over m₁ (λ i. get_or m₁ (head_at + i) 0) (at + 8) head_size m₂) where
  e₀ : List ℕ
  e₀ = to ∷ from ∷ 0 ∷ 0 ∷ 0 ∷ 0 ∷ 0 ∷ 0 ∷ []

  fits₀ : 2 + length (le_bytes 2 offset) ≤ length e₀
  unfolding e₀
  fits₀ = omega (arith, length-le_bytes 2 offset)

  is₁ : e₁ ≡ put e₀ 2 (le_bytes 2 offset)
  unfolding e₀
  is₁ = p.written (omega arith)

  length₁ : length e₁ ≡ 8
  unfolding e₀
  length₁ = ap length is₁ ∙ length-put e₀ 2 (le_bytes 2 offset) fits₀

  fits₁ : 4 + length (le_bytes 2 len) ≤ length e₁
  fits₁ = omega (arith, length-le_bytes 2 len, length₁)

  is₂ : e₂ ≡ put e₁ 4 (le_bytes 2 len)
  is₂ = q.written (omega (arith, length₁))

  length₂ : length e₂ ≡ 8
  length₂ = ap length is₂ ∙ length-put e₁ 4 (le_bytes 2 len) fits₁ ∙ length₁

  first_two : (i : ℕ) → i < 2 → get_or e₂ i 0 ≡ get_or e₀ i 0
  first_two i h =
      ap (λ (x : List ℕ). get_or x i 0) is₂ ∙ put-below e₁ (le_bytes 2 len) 4 fits₁ i (omega arith)
      ∙ ap (λ (x : List ℕ). get_or x i 0) is₁ ∙ put-below e₀ (le_bytes 2 offset) 2 fits₀ i h

  offset_in : u16 e₂ 2 ≡ offset
  unfolding e₀
  offset_in =
      ap (λ (x : List ℕ). u16 x 2) is₂
      ∙ num-kept e₁ (put e₁ 4 (le_bytes 2 len)) 2 2 (length-put e₁ 4 (le_bytes 2 len) fits₁) (omega (arith, length₁)) (λ i x y. put-below e₁ (le_bytes 2 len) 4 fits₁ i y)
      ∙ ap (λ (x : List ℕ). u16 x 2) is₁
      ∙ num-back 2 2 offset (put e₀ 2 (le_bytes 2 offset)) _ (drop-put e₀ 2 (le_bytes 2 offset) (omega arith)) (omega arith)

  length_in : u16 e₂ 4 ≡ len
  length_in = ap (λ (x : List ℕ). u16 x 4) is₂ ∙ num-back 2 4 len (put e₁ 4 (le_bytes 2 len)) _ (drop-put e₁ 4 (le_bytes 2 len) (omega (arith, length₁))) (omega arith)

  byte : (i : ℕ) → i < 8 → get_or m₂ (at + i) 0 ≡ get_or e₂ i 0
  byte i h = c.below (at + i) (omega arith) ∙ w.inside i (omega (arith, length₂))

  number : (k : ℕ) → k + 2 ≤ 8 → u16 m₂ (at + k) ≡ u16 e₂ k
  number k h = num-same e₂ m₂ k (at + k) 2 (omega (arith, length₂)) (omega (arith, c.kept, w.kept)) (λ i l. ap (λ (x : ℕ). get_or m₂ x 0) (omega arith) ∙ byte (k + i) (omega arith))

  pub noted : Noted m at from to offset len m₂
  unfolding e₀
  noted = record {
    kept = c.kept ∙ w.kept;
    starts = ap (λ (x : ℕ). get_or m₂ x 0) (omega arith) ∙ byte 0 (omega arith) ∙ first_two 0 (omega arith);
    ends = byte 1 (omega arith) ∙ first_two 1 (omega arith);
    first = number 2 (omega arith) ∙ offset_in;
    long = number 4 (omega arith) ∙ length_in;
    head = λ i h. c.inside i h ∙ w.below (head_at + i) (omega arith);
    below = λ i h. c.below i (omega arith) ∙ w.below i h;
    above = λ i h. c.above i (omega arith) ∙ w.above i (omega (arith, length₂));
  }

module _ (m m₁ ys head : List ℕ) (d a b from to n : ℕ) (ea : a ≡ from) (eb : b ≡ to) (la : from < d) (lb : to < d) (l : order_at + d ≤ length m) (en : n ≡ d)
    (lh : length head ≡ head_size) (w : Over m (λ i. get_or head i 0) head_at (length head) m₁) (e : ys ≡ move 0 a b (take n (drop order_at m₁))) where
  abbrev pub Lent : List ℕ
  Lent = take order_at m₁ ++ (ys ++ drop n (drop order_at m₁))

  size : length (span m order_at d) ≡ d
  size = length-span m order_at d l

  was : take n (drop order_at m₁) ≡ span m order_at d
  unfolding span
  was = ap (λ (k : ℕ). take k (drop order_at m₁)) en ∙ span-kept m m₁ order_at d w.kept l (λ i x y. w.above i (omega arith))

  is : ys ≡ move 0 from to (span m order_at d)
  is = e ∙ ap₂ (λ (x y : ℕ). move 0 x y (take n (drop order_at m₁))) ea eb ∙ ap (move 0 from to) was

  same : length ys ≡ n
  same = ap length is ∙ length-move 0 from to (span m order_at d) (omega (arith, size)) (omega (arith, size)) ∙ size ∙ sym en

  pub settled : Settled m head d from to Lent
  settled =
      let f : order_at + n ≤ length m₁ = omega (arith, w.kept) in
      record {
        kept = back-length m₁ ys order_at n f same ∙ w.kept;
        whole = lh;
        replaced = λ i h. back_below m₁ ys order_at n f same (head_at + i) (omega arith) ∙ w.inside i (omega arith);
        moved = ap (span Lent order_at) (sym en) ∙ back-span m₁ ys order_at n f same ∙ is;
        below = λ i h. back_below m₁ ys order_at n f same i (omega arith) ∙ w.below i h;
        above = λ i h. back_above m₁ ys order_at n f same i (omega arith) ∙ w.above i (omega arith);
      }

-- a room that was lent, and came back with bytes put over its own
module _ (m ys : List ℕ) (f : ℕ → ℕ) (a n offset len : ℕ) (fits : a + n ≤ length m) (small : offset + len ≤ n) (w : Over (take n (drop a m)) f offset len ys) where
  size_ys : length ys ≡ n
  unfolding span
  size_ys = w.kept ∙ length-span m a n fits

  byte_was : (i : ℕ) → i < n → get_or (take n (drop a m)) i 0 ≡ get_or m (a + i) 0
  unfolding span
  byte_was i h = get_or-span m a n i h

  -- a byte of the room that was not written over
  stays : (i : ℕ) → i < n → get_or ys i 0 ≡ get_or (take n (drop a m)) i 0 → get_or (back m ys a n fits size_ys) (a + i) 0 ≡ get_or m (a + i) 0
  stays i h e = back_in m ys a n fits size_ys i h ∙ e ∙ byte_was i h

  stays_at : (k i : ℕ) → a + i ≡ k → i < n → get_or ys i 0 ≡ get_or (take n (drop a m)) i 0 → get_or (back m ys a n fits size_ys) k 0 ≡ get_or m k 0
  stays_at k i q h e = subst (λ (x : ℕ). get_or (back m ys a n fits size_ys) x 0 ≡ get_or m x 0) q (stays i h e)

  pub over-lent : (at : ℕ) → at ≡ a + offset → Over m f at len (take a m ++ (ys ++ drop n (drop a m)))
  over-lent at e = record {
    kept = back-length m ys a n fits size_ys;
    inside = λ i h. ap (λ (x : ℕ). get_or (back m ys a n fits size_ys) x 0) (omega arith) ∙ back_in m ys a n fits size_ys (offset + i) (omega arith) ∙ w.inside i h;
    below = λ i h. elim (dec_lt i a) as (λ _. get_or (back m ys a n fits size_ys) i 0 ≡ get_or m i 0) [
      | yes b ↦ back_below m ys a n fits size_ys i b
      | no b ↦ stays_at i (i - a) (omega arith) (omega arith) (w.below (i - a) (omega arith))
    ];
    above = λ i h. elim (dec_lt i (a + n)) as (λ _. get_or (back m ys a n fits size_ys) i 0 ≡ get_or m i 0) [
      | yes b ↦ stays_at i (i - a) (omega arith) (omega arith) (w.above (i - a) (omega arith))
      | no b ↦ back_above m ys a n fits size_ys i (omega arith)
    ];
  }

-- a part that was lent, and came back all written over
pub over-whole : (m ys : List ℕ) (f : ℕ → ℕ) (a n : ℕ) → a + n ≤ length m → Over (take n (drop a m)) f 0 (length (take n (drop a m))) ys → Over m f a n (take a m ++ (ys ++ drop n (drop a m)))
unfolding span
over-whole m ys f a n fits w =
    let e : length (take n (drop a m)) ≡ n = length-span m a n fits in
    over-lent m ys f a n 0 n fits (omega arith) (subst (λ (k : ℕ). Over (take n (drop a m)) f 0 k ys) e w) a (omega arith)
