-- What undoes a change is saved: the old bytes, an entry, the ring's two bytes.
use Prim.Native.Nat.{ℕ, suc, ◌+◌, ◌≤◌, ◌<◌, min}
use native.Mathlib.Omega.{arith}
use native.Mathlib.Decide.{dec_lt}
use mathlib.Core.Path.{◌≡◌, refl, sym, ap, ap₂, ◌∙◌}
use mathlib.Core.List.{List, ◌∷◌}
use lib.ListN.{length, get_or, set, take, length-set}
use lib.Seq.{set-get_or}
use Rattle.little_endian.specs.Bytes.{u16}
use Rattle.memory.specs.Bytes.{span, tab}
use Rattle.memory.specs.Layout.{room_size, room_at, image_at, entry_at, head_at, head_size, head_of, order_at, domain_at, domain_length, capacity, depth, next, steps, slot, from_of, to_of, offset_of, length_of, count_of}
use Rattle.memory.specs.Sound.{Header, Able}
use Rattle.memory.specs.State.{Change, entry, entries, place}
use Rattle.journal.specs.Parts.{Over, Noted, Stays, Saved, turn, saving}
use Rattle.memory.proofs.Flat.{Same, set_same, set_other, span-kept, span_same, num-same, get_or-span}
use Rattle.journal.proofs.Order.{permutation_same}
use Rattle.journal.proofs.Places.{turn_below}
use Rattle.journal.proofs.Decode.{current-kept, entries_pushed}

pub stays_same : (m : List ℕ) → Header m → Stays m m
stays_same m h = record { header = h; d = refl; j = refl; domain = refl; kept = refl; beyond = λ i l. refl }

pub stays_twice : (m m' m'' : List ℕ) → Stays m m' → Stays m' m'' → Stays m m''
stays_twice m m' m'' a b = record {
  header = b.header;
  d = b.d ∙ a.d;
  j = b.j ∙ a.j;
  domain = b.domain ∙ a.domain;
  kept = b.kept ∙ a.kept;
  beyond = λ i h. b.beyond i (omega (arith, a.d, a.j)) ∙ a.beyond i h;
}

-- at depth 0 nothing is saved
pub saved-none : (m : List ℕ) (e : Change) → Header m → depth m ≡ 0 → Saved m e m
unfolding entries tab
saved-none m e h z = record {
  stays = stays_same m h;
  slots = λ i l. refl;
  sound = λ s. s;
  same = λ s. refl;
  offer = λ s. ap (λ (n : ℕ). tab n (λ i. entry m (place (next m) (depth m) i))) none ∙ sym (ap (λ (n : ℕ). take n (e ∷ entries m)) z);
}
  where
    none : steps m ≡ 0
    none = omega (arith, h)

module _ (m m₁ m₂ : List ℕ) (from to offset len at image e h n : ℕ) (able : Able m from to 0 offset len) (z : 0 < depth m)
    (ea : at ≡ room_at (slot m from) + offset) (ei : image ≡ image_at (capacity m) (next m)) (ee : e ≡ entry_at (next m)) (eh : h ≡ turn (next m) (depth m)) (en : n ≡ min (depth m) (suc (steps m)))
    (c : Over m (λ i. get_or m (at + i) 0) image len m₁) (w : Noted m₁ e from to offset len m₂) where
  H : Header m
  H = able.header

  abbrev pub P : List ℕ
  P = set (set m₂ 3 h) 4 n

  ring : (i : ℕ) → (i ≡ 3 → ⊥) → (i ≡ 4 → ⊥) → get_or P i 0 ≡ get_or m₂ i 0
  ring i a b = set_other (set m₂ 3 h) 4 n i b ∙ set_other m₂ 3 h i a

  len-small : offset + len ≤ room_size
  len-small = able.fits.inside

  -- outside the ring's two bytes, the entry and the image
  low : (i : ℕ) → i < e → (i ≡ 3 → ⊥) → (i ≡ 4 → ⊥) → get_or P i 0 ≡ get_or m i 0
  unfolding H
  low i x a b = ring i a b ∙ w.below i x ∙ c.below i (omega (arith, H))

  mid : (i : ℕ) → e + 32 ≤ i → i < image → get_or P i 0 ≡ get_or m i 0
  mid i x y = ring i (λ q. omega arith) (λ q. omega arith) ∙ w.above i x ∙ c.below i y

  high : (i : ℕ) → image + room_size ≤ i → get_or P i 0 ≡ get_or m i 0
  unfolding H
  high i x = ring i (λ q. omega arith) (λ q. omega arith) ∙ w.above i (omega (arith, H)) ∙ c.above i (omega (arith, len-small))

  pub kept : length P ≡ length m
  kept = length-set (set m₂ 3 h) 4 n ∙ length-set m₂ 3 h ∙ w.kept ∙ c.kept

  next_is : next P ≡ h
  unfolding H
  next_is = set_other (set m₂ 3 h) 4 n 3 (λ q. omega arith) ∙ set_same m₂ 3 h (omega (arith, H, w.kept, c.kept))

  steps_is : steps P ≡ n
  unfolding H
  steps_is = set_same (set m₂ 3 h) 4 n (rw (length-set m₂ 3 h) (omega (arith, H, w.kept, c.kept)))

  d : capacity P ≡ capacity m
  d = low 1 (omega arith) (λ q. omega arith) (λ q. omega arith)

  j : depth P ≡ depth m
  j = low 2 (omega arith) (λ q. omega arith) (λ q. omega arith)

  below : (i : ℕ) → 5 ≤ i → i < 128 → get_or P i 0 ≡ get_or m i 0
  below i x y = low i (omega arith) (λ q. omega arith) (λ q. omega arith)

  stays : Stays m P
  unfolding H
  stays = record {
    header = omega (arith, H, kept, d, j, next_is, steps_is, eh, en, turn_below (next m) (depth m) (omega (arith, H)), low 0 (omega arith) (λ q. omega arith) (λ q. omega arith), below 5 (omega arith) (omega arith), below 40 (omega arith) (omega arith));
    d = d;
    j = j;
    domain = ap (span P domain_at) (below 5 (omega arith) (omega arith)) ∙ span-kept m P domain_at (domain_length m) kept (omega (arith, H)) (λ i x y. below i (omega arith) (omega (arith, H)));
    kept = kept;
    beyond = λ i l. high i (omega (arith, H));
  }

  -- the entry
  entry-byte : (i : ℕ) → i < 32 → get_or P (entry_at (next m) + i) 0 ≡ get_or m₂ (e + i) 0
  entry-byte i x = ring (entry_at (next m) + i) (λ q. omega arith) (λ q. omega arith) ∙ ap (λ (y : ℕ). get_or m₂ (y + i) 0) (sym ee)

  first_byte : get_or P (entry_at (next m)) 0 ≡ to
  first_byte = ap (λ (x : ℕ). get_or P x 0) (omega arith) ∙ entry-byte 0 (omega arith) ∙ ap (λ (x : ℕ). get_or m₂ x 0) (omega arith) ∙ w.starts

  from_is : from_of P (next m) ≡ to
  from_is = omega (arith, first_byte, d, able.fits)

  to_is : to_of P (next m) ≡ from
  to_is = omega (arith, entry-byte 1 (omega arith), w.ends, d, able.fits)

  number_is : (a : ℕ) → a + 2 ≤ 32 → u16 P (entry_at (next m) + a) ≡ u16 m₂ (e + a)
  number_is a x = num-same m₂ P (e + a) (entry_at (next m) + a) 2 (omega (arith, H)) (omega (arith, H, kept))
      (λ i l. ap (λ (y : ℕ). get_or P y 0) (omega arith) ∙ entry-byte (a + i) (omega arith) ∙ ap (λ (y : ℕ). get_or m₂ y 0) (omega arith))

  offset_is : offset_of P (next m) ≡ offset
  offset_is = omega (arith, number_is 2 (omega arith), w.first, len-small)

  length_is : length_of P (next m) ≡ len
  length_is = omega (arith, number_is 4 (omega arith), w.long, offset_is, len-small)

  head_byte : (i : ℕ) → i < head_size → get_or P (head_of (next m) + i) 0 ≡ get_or m (head_at + i) 0
  unfolding H
  head_byte i x = ap (λ (y : ℕ). get_or P y 0) (omega arith) ∙ entry-byte (8 + i) (omega arith) ∙ ap (λ (y : ℕ). get_or m₂ y 0) (omega arith) ∙ w.head i x ∙ c.below (head_at + i) (omega (arith, H))

  count_is : count_of P (next m) ≡ get_or m head_at 0
  unfolding H
  count_is = (let e : get_or P (head_of (next m)) 0 ≡ get_or m head_at 0 = ap (λ (y : ℕ). get_or P y 0) (omega arith) ∙ head_byte 0 (omega arith) in omega (arith, e, d, H))

  head_is : set (span P (head_of (next m)) head_size) 0 (count_of P (next m)) ≡ span m head_at head_size
  unfolding H
  head_is =
      ap₂ (λ (l : List ℕ) (k : ℕ). set l 0 k) (span_same m P head_at (head_of (next m)) head_size (omega (arith, H)) (omega (arith, H, kept)) head_byte)
      (count_is ∙ sym (get_or-span m head_at head_size 0 (omega arith)))
      ∙ set-get_or (span m head_at head_size) 0 0

  image-byte : (i : ℕ) → i < len → get_or P (image + i) 0 ≡ get_or m (at + i) 0
  unfolding H
  image-byte i x = ring (image + i) (λ q. omega arith) (λ q. omega arith) ∙ w.above (image + i) (omega (arith, H)) ∙ c.inside i x

  at-inside : at + len ≤ room_at (capacity m)
  at-inside = omega (arith, able.there, len-small)

  image-inside : image + room_size ≤ length m
  unfolding H
  image-inside = omega (arith, H)

  entry_is : entry P (next m) ≡ saving m from to offset len
  unfolding entry H
  entry_is = λ i. record {
    from = from_is i;
    to = to_is i;
    offset = offset_is i;
    bytes = (ap₂ (λ (x y : ℕ). span P (image_at x (next m)) y) d length_is ∙ ap (λ (x : ℕ). span P x len) (sym ei)
        ∙ span_same m P at image len (omega (arith, H, at-inside)) (omega (arith, kept, image-inside, len-small)) image-byte ∙ ap (λ (x : ℕ). span m x len) ea) i;
    head = head_is i;
  }

  -- the other entries
  entries_else : (p : ℕ) → p < depth m → (p ≡ next m → ⊥) → Same m P (entry_at p) (entry_at p + 32)
  unfolding H
  entries_else p l q i x y = elim (dec_lt p (next m)) as (λ _. get_or P i 0 ≡ get_or m i 0) [
    | yes b ↦ low i (omega arith) (λ r. omega arith) (λ r. omega arith)
    | no b ↦ mid i (omega arith) (omega (arith, H))
  ]

  images_else : (p : ℕ) → p < depth m → (p ≡ next m → ⊥) → Same m P (image_at (capacity m) p) (image_at (capacity m) p + room_size)
  unfolding H
  images_else p l q i x y = elim (dec_lt p (next m)) as (λ _. get_or P i 0 ≡ get_or m i 0) [
    | yes b ↦ mid i (omega (arith, H)) (omega arith)
    | no b ↦ high i (omega arith)
  ]

  pub saved : Saved m (saving m from to offset len) P
  unfolding H stays
  saved = record {
    stays = stays;
    slots = λ i l. below (order_at + i) (omega arith) (omega (arith, H));
    sound = λ s. record {
      header = stays.header;
      permuted = permutation_same (capacity m) (capacity P) (slot m) (slot P) d s.permuted (λ i l. below (order_at + i) (omega arith) (omega (arith, H)));
    };
    same = λ s. current-kept m P H kept d (λ i x y. below i (omega arith) (omega (arith, H))) (λ i x y. mid i (omega (arith, H)) (omega arith)) s.permuted.slots;
    offer = λ s. entries_pushed m P kept d j s (saving m from to offset len) z (next_is ∙ eh) (steps_is ∙ en) entry_is (λ p l q. (entries_else p l q, images_else p l q));
  }
