-- The whole state after a change and after a step back.
use Prim.Native.Nat.{ℕ, ◌<◌}
use native.Mathlib.Omega.{arith}
use native.Mathlib.Decide.{dec_lt}
use mathlib.Core.Path.{◌≡◌, refl, sym, ap, ◌∙◌}
use mathlib.Core.Bool.{true, false}
use mathlib.Core.List.{List, [], ◌∷◌}
use lib.ListN.{length, take}
use Rattle.memory.specs.Bytes.{tab, span}
use Rattle.memory.specs.Layout.{room_size, room_at, head_at, head_size, capacity, depth, next, steps, size, slot, from_of}
use Rattle.memory.specs.Sound.{Sound}
use Rattle.memory.specs.State.{Now, Change, state, current, room, entry, entries, place, change, inverse, pasts, made, undone_to, undone, offered, room_of}
use Rattle.journal.specs.Contract.{Right, AbleTo, Committed, Offered, Undone, last}
use Rattle.journal.specs.Parts.{Stays, Saved, Changed, Restored, saving}
use Rattle.memory.proofs.Judge.{ft, tf}
use Rattle.memory.proofs.Flat.{span-span, drop-same}
use Rattle.memory.proofs.Read.{fitting, length-rooms, length-room, room_is}
use Rattle.journal.proofs.Save.{stays_twice}
use Rattle.journal.proofs.Change.{exact, pasts-take}

module _ (m : List ℕ) (c : Change) (able : AbleTo m c) (s : Sound m) where
  room_was : room_of (current m) c.from ≡ room m (slot m c.from)
  room_was = room_is m able.header c.from able.fits.starts

  right : Right (current m) c
  right =
      let n : length (current m).rooms ≡ capacity m = length-rooms m able.header in
      let l : length (room_of (current m) c.from) ≡ room_size = ap length room_was ∙ length-room m able.header (slot m c.from) able.there in
      record { starts = omega (arith, able.fits); ends = omega (arith, able.fits); inside = omega (arith, able.fits) }

  -- what is saved undoes the change
  saving_is : saving m c.from c.to c.offset (length c.bytes) ≡ inverse c (current m)
  unfolding current room
  saving_is = λ i. record {
    from = c.to;
    to = c.from;
    offset = c.offset;
    bytes = sym (ap (λ (r : List ℕ). span r c.offset (length c.bytes)) room_was
        ∙ span-span m (room_at (slot m c.from)) room_size c.offset (length c.bytes) (omega (arith, able.header, able.there)) able.fits.inside) i;
    head = span m head_at head_size;
  }

  module _ (m₁ m₂ : List ℕ) (x : Saved m (saving m c.from c.to c.offset (length c.bytes)) m₁) (y : Changed m₁ c m₂) where
    now_is : current m₂ ≡ change c (current m)
    now_is = y.moved (x.sound s) ∙ ap (change c) (x.same s)

    back_is : change (inverse c (current m)) (current m₂) ≡ current m
    unfolding right
    back_is = ap (change (inverse c (current m))) now_is ∙ exact (current m) c right

    past_is : pasts (current m₂) (entries m₂) ≡ take (depth m) (current m ∷ pasts (current m) (entries m))
    unfolding pasts
    past_is =
        ap (pasts (current m₂)) (y.offer (x.sound s) ∙ x.offer s ∙ ap (λ (e : Change). take (depth m) (e ∷ entries m)) saving_is)
        ∙ pasts-take (depth m) (current m₂) (inverse c (current m) ∷ entries m)
        ∙ ap (λ (t : Now). take (depth m) (t ∷ pasts t (entries m))) back_is

    pub state-made : state m₂ ≡ made c (state m)
    unfolding state
    state-made = λ i. record {
      domain = (y.stays.domain ∙ x.stays.domain) i;
      capacity = (y.stays.d ∙ x.stays.d) i;
      depth = (y.stays.j ∙ x.stays.j) i;
      now = now_is i;
      past = past_is i;
    }

pub committed : (m m₁ m₂ : List ℕ) (c : Change) → AbleTo m c → Saved m (saving m c.from c.to c.offset (length c.bytes)) m₁ → Changed m₁ c m₂ → Committed m c m₂ true
committed m m₁ m₂ c a x y =
    let w : Stays m m₂ = stays_twice m m₁ m₂ x.stays y.stays in
    record {
      taken = λ _. refl;
      able = λ _. a;
      refused = λ e. tf e;
      sound = λ s. y.sound (x.sound s);
      changed = λ s _. state-made m c a s m₁ m₂ x y;
      kept = w.kept;
      beyond = drop-same m m₂ (size m) w.kept w.beyond;
    }

pub committed-not : (m : List ℕ) (c : Change) → (AbleTo m c → ⊥) → Committed m c m false
committed-not m c n = record {
  taken = λ a. absurd (n a);
  able = λ e. ft e;
  refused = λ _. refl;
  sound = λ s. s;
  changed = λ _ e. ft e;
  kept = refl;
  beyond = refl;
}

-- a step back
pub past-none : (m : List ℕ) → steps m ≡ 0 → (state m).past ≡ []
unfolding state entries pasts tab
past-none m e = ap (λ (n : ℕ). pasts (current m) (tab n (λ i. entry m (place (next m) (depth m) i)))) e

module _ (m m' : List ℕ) (r : Restored m m') (s : Sound m) where
  past_was : (state m).past ≡ current m' ∷ pasts (current m') (entries m')
  unfolding state pasts
  past_was = ap (pasts (current m)) (r.offer s) ∙ ap (λ (t : Now). t ∷ pasts t (entries m')) (sym (r.moved s))

  state-undone : state m' ≡ undone (state m)
  unfolding state
  state-undone = (λ i. record {
    domain = r.stays.domain i;
    capacity = r.stays.d i;
    depth = r.stays.j i;
    now = current m';
    past = pasts (current m') (entries m');
  }) ∙ ap (undone_to (state m)) (sym past_was)

pub stepped-back : (m m' : List ℕ) → Offered m → Restored m m' → Undone m m' true
stepped-back m m' o r = record {
  taken = λ _. refl;
  able = λ _. o;
  refused = λ e. tf e;
  answered = λ s. ap offered (sym (past_was m m' r s));
  sound = r.sound;
  changed = state-undone m m' r;
  kept = r.stays.kept;
  beyond = drop-same m m' (size m) r.stays.kept r.stays.beyond;
}

-- the last entry of sound memory can be undone
offered-sound : (m : List ℕ) → Sound m → 0 < steps m → Offered m
offered-sound m s z =
    let h = s.header in
    let f = fitting m h (last m) in
    record { some = z; able = record { header = h; fits = f; there = s.permuted.slots (from_of m (last m)) f.starts } }

pub stepped-not : (m : List ℕ) → (Offered m → ⊥) → Undone m m false
stepped-not m n = record {
  taken = λ o. absurd (n o);
  able = λ e. ft e;
  refused = λ _. refl;
  answered = λ s. ap offered (sym (past-none m (none s)));
  sound = λ s. s;
  changed = λ s. ap (undone_to (state m)) (sym (past-none m (none s)));
  kept = refl;
  beyond = refl;
}
  where
    none : Sound m → steps m ≡ 0
    none s = elim (dec_lt 0 (steps m)) as (λ _. steps m ≡ 0) [
      | yes z ↦ absurd (n (offered-sound m s z))
      | no z ↦ omega arith
    ]
