-- A change made in the memory: bytes put into a room, then the head and the order.
use Prim.Native.Nat.{ℕ, ◌+◌, ◌≤◌, ◌<◌}
use native.Mathlib.Omega.{arith}
use native.Mathlib.Decide.{dec_lt}
use mathlib.Core.Path.{◌≡◌, sym, ap, ◌∙◌}
use mathlib.Core.List.{List, [], map}
use lib.ListN.{length, get_or, set}
use Rattle.little_endian.specs.Bytes.{put}
use Rattle.memory.specs.Bytes.{span, move}
use Rattle.memory.specs.Layout.{room_size, room_at, head_at, head_size, order_at, domain_at, domain_length, capacity, depth, count, slot}
use Rattle.memory.specs.Sound.{Header, ChangeFits, Sound}
use Rattle.memory.specs.State.{Change, order, room, current, entries, change}
use Rattle.journal.specs.Contract.{AbleTo}
use Rattle.journal.specs.Parts.{Over, Settled, Stays, Changed}
use Rattle.memory.proofs.Lists.{map-move, map-set}
use Rattle.memory.proofs.Flat.{Same, span-kept, span_is, length-span, get_or-span, put_is}
use Rattle.journal.proofs.Order.{once, permutation_same, permutation-moved}
use Rattle.memory.proofs.Read.{length-order, order_is, length-room, room_is}
use Rattle.journal.proofs.Decode.{entries-kept}

module _ (m m₁ m₂ : List ℕ) (c : Change) (at : ℕ) (able : AbleTo m c) (ea : at ≡ room_at (slot m c.from) + c.offset)
    (w : Over m (λ i. get_or c.bytes i 0) at (length c.bytes) m₁) (v : Settled m₁ c.head (capacity m) c.from c.to m₂) where
  h : Header m
  h = able.header

  f : ChangeFits (capacity m) c.from c.to (get_or c.head 0 0) c.offset (length c.bytes)
  f = able.fits

  k : ℕ
  k = slot m c.from

  there : k < capacity m
  unfolding k
  there = able.there

  low : (i : ℕ) → i < head_at → get_or m₂ i 0 ≡ get_or m i 0
  low i l = v.below i l ∙ w.below i (omega arith)

  mid : (i : ℕ) → order_at + capacity m ≤ i → i < at → get_or m₂ i 0 ≡ get_or m i 0
  mid i l x = v.above i l ∙ w.below i x

  inside : (i : ℕ) → i < length c.bytes → get_or m₂ (at + i) 0 ≡ get_or c.bytes i 0
  unfolding h
  inside i l = v.above (at + i) (omega (arith, h)) ∙ w.inside i l

  high : (i : ℕ) → at + length c.bytes ≤ i → get_or m₂ i 0 ≡ get_or m i 0
  unfolding h
  high i l = v.above i (omega (arith, h)) ∙ w.above i l

  kept : length m₂ ≡ length m
  kept = v.kept ∙ w.kept

  top : (i : ℕ) → room_at (capacity m) ≤ i → get_or m₂ i 0 ≡ get_or m i 0
  unfolding k f
  top i l = high i (omega (arith, there, f))

  ring : Same m m₂ 128 room_size
  unfolding h
  ring i x y = mid i (omega (arith, h)) (omega arith)

  d : capacity m₂ ≡ capacity m
  d = low 1 (omega arith)

  j : depth m₂ ≡ depth m
  j = low 2 (omega arith)

  head₀ : count m₂ ≡ get_or c.head 0 0
  head₀ = ap (λ (i : ℕ). get_or m₂ i 0) (omega arith) ∙ v.replaced 0 (omega arith)

  stays : Stays m m₂
  unfolding h f
  stays = record {
    header = omega (arith, h, f, kept, d, j, head₀, low 0 (omega arith), low 3 (omega arith), low 4 (omega arith), low 5 (omega arith));
    d = d;
    j = j;
    domain = ap (span m₂ domain_at) (low 5 (omega arith)) ∙ span-kept m m₂ domain_at (domain_length m) kept (omega (arith, h)) (λ i x y. low i (omega (arith, h)));
    kept = kept;
    beyond = λ i l. top i (omega arith);
  }

  -- the order
  was : span m₁ order_at (capacity m) ≡ order m
  unfolding h order
  was = span-kept m m₁ order_at (capacity m) w.kept (omega (arith, h)) (λ i x y. w.below i (omega (arith, h)))

  order-moved : order m₂ ≡ move 0 c.from c.to (order m)
  unfolding order
  order-moved = ap (span m₂ order_at) d ∙ v.moved ∙ ap (move 0 c.from c.to) was

  a-inside : c.from < length (order m)
  unfolding h f
  a-inside = omega (arith, length-order m h, f)

  b-inside : c.to < length (order m)
  unfolding h f
  b-inside = omega (arith, length-order m h, f)

  slots-moved : (i : ℕ) → i < capacity m → slot m₂ i ≡ get_or (move 0 c.from c.to (order m)) i 0
  unfolding stays
  slots-moved i l = sym (order_is m₂ stays.header i (omega (arith, d))) ∙ ap (λ (o : List ℕ). get_or o i 0) order-moved

  module _ (s : Sound m) where
    pub sound : Sound m₂
    unfolding h stays
    sound = record {
      header = stays.header;
      permuted = permutation_same (length (order m)) (capacity m₂) (λ i. get_or (move 0 c.from c.to (order m)) i 0) (slot m₂) (d ∙ sym (length-order m h))
          (permutation-moved (order m) c.from c.to a-inside b-inside (permutation_same (capacity m) (length (order m)) (slot m) (λ i. get_or (order m) i 0) (length-order m h) s.permuted (order_is m h)))
          (λ i l. slots-moved i (omega (arith, length-order m h)));
    }

    -- the room, and the others
    room-put : room m₂ k ≡ put (room m k) c.offset c.bytes
    unfolding h f k room
    room-put =
        let e : length (room m k) ≡ room_size = length-room m h k there in
        let e₂ : length (span m₂ (room_at k) room_size) ≡ room_size = length-span m₂ (room_at k) room_size (omega (arith, h, kept, there)) in
        put_is (span m (room_at k) room_size) c.bytes c.offset (omega (arith, f)) (span m₂ (room_at k) room_size) (e₂ ∙ sym e)
        (λ i l. get_or-span m₂ (room_at k) room_size i (omega (arith, f)) ∙ mid (room_at k + i) (omega (arith, h)) (omega arith) ∙ sym (get_or-span m (room_at k) room_size i (omega (arith, f))))
        (λ i l. get_or-span m₂ (room_at k) room_size (c.offset + i) (omega (arith, f)) ∙ ap (λ (x : ℕ). get_or m₂ x 0) (omega arith) ∙ inside i l)
        (λ i l x. get_or-span m₂ (room_at k) room_size i (omega arith) ∙ high (room_at k + i) (omega arith) ∙ sym (get_or-span m (room_at k) room_size i (omega arith)))

    room_else : (n : ℕ) → n < capacity m → (n ≡ k → ⊥) → room m₂ n ≡ room m n
    unfolding h f k room
    room_else n l q = span-kept m m₂ (room_at n) room_size kept (omega (arith, h)) (λ i x y. elim (dec_lt n k) as (λ _. get_or m₂ i 0 ≡ get_or m i 0) [
      | yes b ↦ mid i (omega (arith, h)) (omega arith)
      | no b ↦ high i (omega (arith, f))
    ])

    rooms-put : map (room m₂) (order m) ≡ set (map (room m) (order m)) c.from (put (room m k) c.offset c.bytes)
    unfolding h f k
    rooms-put = map-set (room m) (room m₂) (order m) c.from 0 (put (room m k) c.offset c.bytes)
        (λ _. ap (room m₂) (order_is m h c.from f.starts) ∙ room-put)
        (λ i l n.
        let l' : i < capacity m = omega (arith, length-order m h) in
        ap (room m₂) (order_is m h i l') ∙ room_else (slot m i) (s.permuted.slots i l') (λ e. n (once (capacity m) (slot m) s.permuted i c.from l' f.starts e)) ∙ ap (room m) (sym (order_is m h i l')))

    pub moved : current m₂ ≡ change c (current m)
    unfolding current h f k
    moved = λ i. record {
      head = span_is m₂ c.head head_at head_size (omega (arith, h, kept)) v.whole v.replaced i;
      rooms = (ap (map (room m₂)) order-moved ∙ map-move (room m₂) 0 [] c.from c.to (order m) a-inside ∙ ap (move [] c.from c.to) (rooms-put
          ∙ ap (λ (x : List ℕ). set (map (room m) (order m)) c.from (put x c.offset c.bytes)) (sym (room_is m h c.from f.starts)))) i;
    }

    pub offer : entries m₂ ≡ entries m
    offer = entries-kept m m₂ kept d j s (low 3 (omega arith)) (low 4 (omega arith)) ring (λ i x y. top i x)

  pub changed : Changed m c m₂
  changed = record { stays = stays; sound = sound; moved = moved; offer = offer }
