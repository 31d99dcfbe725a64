-- The last entry undone: it is taken off the ring, and the change that it tells of is made.
use Prim.Native.Nat.{ℕ, ◌+◌, ◌-◌, ◌≤◌, ◌<◌, min}
use native.Mathlib.Omega.{arith}
use mathlib.Core.Path.{◌≡◌, refl, sym, ap, ap₂, ◌∙◌, subst}
use mathlib.Core.List.{List, ◌∷◌}
use lib.ListN.{length, get_or, set, length-set}
use Rattle.little_endian.specs.Bytes.{u16}
use Rattle.memory.specs.Bytes.{span}
use Rattle.memory.specs.Layout.{room_size, room_at, image_at, entry_at, head_size, head_of, order_at, domain_at, domain_length, capacity, depth, next, steps, size, slot, from_of, to_of, offset_of, length_of, count_of}
use Rattle.memory.specs.Sound.{Header, Sound, Able}
use Rattle.memory.specs.State.{Change, change, current, entry, entries, place}
use Rattle.journal.specs.Contract.{AbleTo}
use Rattle.journal.specs.Parts.{Over, Settled, Stays, Changed, Restored, Ready}
use Rattle.memory.proofs.Flat.{Same, set_same, set_other, span-kept, length-span, get_or-span}
use Rattle.memory.proofs.Read.{fitting}
use Rattle.journal.proofs.Order.{permutation_same}
use Rattle.journal.proofs.Places.{place-below}
use Rattle.journal.proofs.Decode.{entry_kept, current-kept, entries-popped}
use Rattle.journal.proofs.Alter.{changed}
use Rattle.journal.proofs.Save.{stays_twice}

-- what is read of the entry at a
pub record Raw (m : List ℕ) (from to offset len : ℕ) : Type 0 where
  pub starts : from < capacity m
  pub ends : to < capacity m
  pub inside : offset + len ≤ room_size
  pub there : slot m from < capacity m

pub raw : (m : List ℕ) (p a from to offset len : ℕ) → a ≡ entry_at p → Header m → Ready m p → from ≡ min (get_or m a 0) (capacity m - 1) → to ≡ min (get_or m (a + 1) 0) (capacity m - 1)
    → offset ≡ min (u16 m (a + 2)) room_size → len ≡ min (u16 m (a + 4)) (room_size - offset) → Raw m from to offset len
raw m p a from to offset len e h r ef et eo el = record {
  starts = omega (arith, h);
  ends = omega (arith, h);
  inside = omega arith;
  there = subst (λ (x : ℕ). slot m x < capacity m) (sym (ef ∙ ap (λ (x : ℕ). min (get_or m x 0) (capacity m - 1)) e)) r.there;
}

module _ (m : List ℕ) (p : ℕ) (h : Header m) (q : p < depth m) (r : Ready m p) where
  image-inside : image_at (capacity m) p + length_of m p ≤ length m
  image-inside = omega (arith, h)

  length-bytes : length (entry m p).bytes ≡ length_of m p
  unfolding entry
  length-bytes = length-span m (image_at (capacity m) p) (length_of m p) image-inside

  count_head : get_or (entry m p).head 0 0 ≡ count_of m p
  unfolding entry
  count_head = set_same (span m (head_of p) head_size) 0 (count_of m p) (omega (arith, length-span m (head_of p) head_size (omega (arith, h))))

  able : AbleTo m (entry m p)
  unfolding entry
  able = record { header = h; fits = omega (arith, fitting m h p, length-bytes, count_head); there = r.there }

  -- the old bytes are copied back, then the head and the order
  module _ (m₁ m₂ head : List ℕ) (a at image len offset from to : ℕ) (e : a ≡ entry_at p) (rf : from ≡ min (get_or m a 0) (capacity m - 1)) (rt : to ≡ min (get_or m (a + 1) 0) (capacity m - 1))
      (ro : offset ≡ min (u16 m (a + 2)) room_size) (rl : len ≡ min (u16 m (a + 4)) (room_size - offset))
      (rh : head ≡ set (span m (a + 8) head_size) 0 (min (get_or m (a + 8) 0) (capacity m))) (ei : image ≡ image_at (capacity m) p) (ea : at ≡ room_at (slot m from) + offset)
      (c : Over m (λ i. get_or m (image + i) 0) at len m₁) (v : Settled m₁ head (capacity m₁) from to m₂) where
    ef : from ≡ from_of m p
    ef = rf ∙ ap (λ (x : ℕ). min (get_or m x 0) (capacity m - 1)) e

    et : to ≡ to_of m p
    et = rt ∙ ap (λ (x : ℕ). min (get_or m (x + 1) 0) (capacity m - 1)) e

    eo : offset ≡ offset_of m p
    eo = ro ∙ ap (λ (x : ℕ). min (u16 m (x + 2)) room_size) e

    el : len ≡ length_of m p
    el = rl ∙ ap₂ (λ (x y : ℕ). min (u16 m (x + 4)) (room_size - y)) e eo

    eh : head ≡ set (span m (head_of p) head_size) 0 (count_of m p)
    eh = rh ∙ ap (λ (x : ℕ). set (span m (x + 8) head_size) 0 (min (get_or m (x + 8) 0) (capacity m))) e

    d₁ : capacity m₁ ≡ capacity m
    d₁ = c.below 1 (omega arith)

    at_is : at ≡ room_at (slot m (from_of m p)) + offset_of m p
    at_is = ea ∙ ap₂ (λ (x y : ℕ). room_at (slot m x) + y) ef eo

    byte : (i : ℕ) → i < length (entry m p).bytes → get_or m₁ (at + i) 0 ≡ get_or (entry m p).bytes i 0
    unfolding entry
    byte i l =
        let l' : i < length_of m p = omega (arith, length-bytes) in
        c.inside i (omega (arith, el)) ∙ ap (λ (x : ℕ). get_or m (x + i) 0) ei ∙ sym (get_or-span m (image_at (capacity m) p) (length_of m p) i l')

    bytes : Over m (λ i. get_or (entry m p).bytes i 0) at (length (entry m p).bytes) m₁
    bytes = record {
      kept = c.kept;
      inside = byte;
      below = c.below;
      above = λ i x. c.above i (omega (arith, el, length-bytes));
    }

    settled : Settled m₁ (entry m p).head (capacity m) (entry m p).from (entry m p).to m₂
    unfolding entry
    settled = subst (λ (x : List ℕ). Settled m₁ x (capacity m) (from_of m p) (to_of m p) m₂) eh
        (subst (λ (x : ℕ). Settled m₁ head x (from_of m p) (to_of m p) m₂) d₁
        (subst (λ (x : ℕ). Settled m₁ head (capacity m₁) (from_of m p) x m₂) et
        (subst (λ (x : ℕ). Settled m₁ head (capacity m₁) x to m₂) ef v)))

    pub replayed : Changed m (entry m p) m₂
    unfolding entry
    replayed = changed m m₁ m₂ (entry m p) at able at_is bytes settled

pub ready-able : (m : List ℕ) (p : ℕ) → Able m (from_of m p) (to_of m p) (count_of m p) (offset_of m p) (length_of m p) → Ready m p
ready-able m p a = record { there = a.there }

pub able-ready : (m : List ℕ) (p : ℕ) → Header m → Ready m p → Able m (from_of m p) (to_of m p) (count_of m p) (offset_of m p) (length_of m p)
able-ready m p h r = record { header = h; fits = fitting m h p; there = r.there }

-- the last entry is off the ring
module _ (m : List ℕ) (p n : ℕ) (h : Header m) (z : 0 < steps m) (ep : p ≡ place (next m) (depth m) 0) (en : n ≡ steps m - 1) where
  abbrev pub P : List ℕ
  P = set (set m 3 p) 4 n

  else : (i : ℕ) → (i ≡ 3 → ⊥) → (i ≡ 4 → ⊥) → get_or P i 0 ≡ get_or m i 0
  else i a b = set_other (set m 3 p) 4 n i b ∙ set_other m 3 p i a

  from5 : (a b : ℕ) → 5 ≤ a → Same m P a b
  from5 a b l i x y = else i (λ q. omega arith) (λ q. omega arith)

  kept : length P ≡ length m
  kept = length-set (set m 3 p) 4 n ∙ length-set m 3 p

  next_is : next P ≡ p
  next_is = set_other (set m 3 p) 4 n 3 (λ q. omega arith) ∙ set_same m 3 p (omega (arith, h))

  steps_is : steps P ≡ n
  steps_is = set_same (set m 3 p) 4 n (rw (length-set m 3 p) (omega (arith, h)))

  d : capacity P ≡ capacity m
  d = else 1 (λ q. omega arith) (λ q. omega arith)

  j : depth P ≡ depth m
  j = else 2 (λ q. omega arith) (λ q. omega arith)

  pub p-below : p < depth m
  p-below = omega (arith, ep, place-below (next m) (depth m) 0 (omega (arith, h)) (omega (arith, h)))

  pub p-stays : Stays m P
  p-stays = record {
    header = omega (arith, h, kept, d, j, next_is, steps_is, p-below, en, else 0 (λ q. omega arith) (λ q. omega arith), else 5 (λ q. omega arith) (λ q. omega arith), else 40 (λ q. omega arith) (λ q. omega arith));
    d = d;
    j = j;
    domain = ap (span P domain_at) (else 5 (λ q. omega arith) (λ q. omega arith)) ∙ span-kept m P domain_at (domain_length m) kept (omega (arith, h)) (from5 domain_at (domain_at + domain_length m) (omega arith));
    kept = kept;
    beyond = λ i l. else i (λ q. omega arith) (λ q. omega arith);
  }

  pub p-ready : Ready m p → Ready P p
  p-ready r = record {
    there = (let e : from_of P p ≡ from_of m p = ap₂ (λ (x y : ℕ). min x (y - 1)) (from5 (entry_at p) (entry_at p + 1) (omega arith) (entry_at p) (omega arith) (omega arith)) d in
        let f : slot P (from_of P p) ≡ slot m (from_of m p) = ap (λ (x : ℕ). slot P x) e ∙ else (order_at + from_of m p) (λ q. omega arith) (λ q. omega arith) in
        omega (arith, r.there, f, d));
  }

  p-sound : Sound m → Sound P
  unfolding p-stays
  p-sound s = record {
    header = p-stays.header;
    permuted = permutation_same (capacity m) (capacity P) (slot m) (slot P) d s.permuted (λ i l. else (order_at + i) (λ q. omega arith) (λ q. omega arith));
  }

  p-same : Sound m → current P ≡ current m
  p-same s = current-kept m P h kept d (from5 40 (order_at + capacity m) (omega arith)) (from5 room_size (room_at (capacity m)) (omega arith)) s.permuted.slots

  p-entry : entry P p ≡ entry m p
  p-entry = entry_kept m P h kept d p p p-below refl (from5 (entry_at p) (entry_at p + 32) (omega arith)) (from5 (image_at (capacity m) p) (image_at (capacity m) p + room_size) (omega arith))

  p-offer : Sound m → entries m ≡ entry m p ∷ entries P
  p-offer s = entries-popped m P kept d j s z (next_is ∙ ep) (steps_is ∙ en) (from5 128 room_size (omega arith)) (from5 (room_at (capacity m)) (size m) (omega arith)) ∙ ap (λ (x : ℕ). entry m x ∷ entries P) (sym ep)

  restored : (m₂ : List ℕ) → Changed P (entry P p) m₂ → Restored m m₂
  restored m₂ c = record {
    entry = entry m p;
    stays = stays_twice m P m₂ p-stays c.stays;
    sound = λ s. c.sound (p-sound s);
    moved = λ s. c.moved (p-sound s) ∙ ap₂ change p-entry (p-same s);
    offer = λ s. p-offer s ∙ ap (λ (es : List Change). entry m p ∷ es) (sym (c.offer (p-sound s)));
  }

  -- the same of memory that equals it
  module _ (m₁ : List ℕ) (e : m₁ ≡ P) where
    pub popped : Ready m p → (p < depth m₁) × Header m₁ × Ready m₁ p
    popped r = subst (λ (x : List ℕ). (p < depth x) × Header x × Ready x p) (sym e) (omega (arith, p-below, j), p-stays.header, p-ready r)

    pub undone_to_lem : (m₂ : List ℕ) → Changed m₁ (entry m₁ p) m₂ → Restored m m₂
    undone_to_lem m₂ c = restored m₂ (subst (λ (x : List ℕ). Changed x (entry x p) m₂) e c)
