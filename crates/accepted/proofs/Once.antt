-- A field that does not stand twice is the first of its name, and no member of that name is a later one.
use Rattle.std.specs.Prelude.{None, Option, Some}
use Prim.Native.Nat.{ℕ, ◌+◌, ◌≤◌}
use native.Mathlib.Omega.{arith}
use mathlib.Core.Path.{◌≡◌, refl, sym, ap, ◌∙◌}
use mathlib.Core.List.{List, [], ◌∷◌}
use mathlib.Core.Bool.{true, false, true≢false, false≢true}
use borrow.Author.Tests.{eq-eqb}
use Rattle.text.specs.Bytes.{eq_bytes}
use Rattle.text.proofs.Bytes.{both}
use Rattle.json_text.specs.Members.{Member}
use Rattle.escapes.specs.Decode.{Decoded, whole, half, is_this}
use Rattle.escapes.proofs.Theorems.{this-name}
use Rattle.fields.specs.Values as value
use Rattle.fields.specs.Values.{decoded_at, members}
use Rattle.fields.specs.Fields as first
use Rattle.fields.specs.Fields.{is_first, first_of, comes_first}
use Rattle.fields.proofs.Fields.{stays-first}
use Rattle.fields.proofs.Names.{Ascend, ascend-more, members_ascend, same_first}
use Rattle.accepted.specs.Once.{if_whole, decoded, read_at, passes, Once, Absent, One, Twice, one_more, is_named, field_in, field, is_twice}
use Rattle.accepted.proofs.Same.{In, here, later, in-none}

-- the same field, told both ways
pub data Alike : Once → Option ℕ → Type 0 where
  absent : Alike Absent None
  one : (k : ℕ) → Alike (One k) (Some k)

ascend_in : {n : ℕ} {m : Member} (ms : List Member) → Ascend n ms → In m ms → n ≤ m.value
ascend_in [] a i = in-none i
ascend_in (p ∷ ms) (ascend-more l a) (here e) = rw e l
ascend_in {n = n} {m = m} (p ∷ ms) (ascend-more l a) (later i) = let h = ascend_in {n = p.value + 1} {m = m} ms a i in omega arith

this-passes : (name : List ℕ) (d : Decoded) → is_this name d ≡ passes (λ t. eq_bytes t name) (if_whole d)
unfolding is_this passes if_whole
this-passes name (whole t) = refl
this-passes name (half p) = refl

module _ (s name : List ℕ) where
  -- a name is the same both ways
  named_as : (m : Member) → value.is_named s name m ≡ is_named decoded s name m
  unfolding value.is_named decoded_at is_named read_at decoded
  named_as m = this-passes name (decoded_at s m.name)

  pub named-whole : (m : Member) → is_named decoded s name m ≡ true → decoded_at s m.name ≡ whole name
  unfolding value.is_named
  named-whole m e = (this-name name (decoded_at s m.name)).0 (named_as m ∙ e)

  pub whole-named : (m : Member) → decoded_at s m.name ≡ whole name → is_named decoded s name m ≡ true
  unfolding value.is_named
  whole-named m e = sym (named_as m) ∙ (this-name name (decoded_at s m.name)).1 e

  twice-stays : (ms : List Member) → field_in decoded s name Twice ms ≡ Twice
  unfolding field_in one_more
  twice-stays [] = refl
  twice-stays (m ∷ ms) = both (is_named decoded s name m)
      (λ e. rw (e, field_in) (twice-stays ms))
      (λ e. rw (e, field_in) (twice-stays ms))

  twice_no {ℓ} : {X : Type ℓ} (ms : List Member) → is_twice (field_in decoded s name Twice ms) ≡ false → X
  unfolding is_twice
  twice_no ms h = absurd (true≢false (rw (twice-stays ms) at h))

  alike_in : (ms : List Member) {f : Once} {g : Option ℕ} → Alike f g → is_twice (field_in decoded s name f ms) ≡ false → Alike (field_in decoded s name f ms) (first.field_in s name g ms)
  unfolding field_in one_more first.field_in first.one_more
  alike_in [] a h = a
  alike_in (m ∷ ms) absent h = both (is_named decoded s name m)
      (λ e. rw (named_as m, e, field_in, first.field_in) (alike_in ms (one m.value) (rw (e, field_in) at h)))
      (λ e. rw (named_as m, e, field_in, first.field_in) (alike_in ms absent (rw (e, field_in) at h)))
  alike_in (m ∷ ms) (one k) h = both (is_named decoded s name m)
      (λ e. twice_no ms (rw (e, field_in) at h))
      (λ e. rw (named_as m, e, field_in, first.field_in) (alike_in ms (one k) (rw (e, field_in) at h)))

  -- ---- where it does not stand twice, each member of the name comes first

  one_alone : (k : ℕ) (ms : List Member) → is_twice (field_in decoded s name (One k) ms) ≡ false → {m : Member} → In m ms → is_named decoded s name m ≡ true → ⊥
  unfolding field_in one_more
  one_alone k [] h i q = in-none i
  one_alone k (n ∷ ms) h {m} i q = both (is_named decoded s name n)
      (λ e. twice_no ms (rw (e, field_in) at h))
      (λ e. go e i (one_alone k ms (rw (e, field_in) at h)))
    where
      go : is_named decoded s name n ≡ false → In m (n ∷ ms) → (In m ms → is_named decoded s name m ≡ true → ⊥) → ⊥
      go e (here p) f = false≢true (sym e ∙ (ap (is_named decoded s name) (sym p) ∙ q))
      go e (later j) f = f j q

  first_in : (ms : List Member) → is_twice (field_in decoded s name Absent ms) ≡ false → {m : Member} → In m ms → is_named decoded s name m ≡ true → is_first m.value (first.field_in s name None ms) ≡ true
  unfolding field_in one_more first.field_in first.one_more is_first
  first_in [] h i q = in-none i
  first_in (n ∷ ms) h {m} i q = both (is_named decoded s name n)
      (λ e. rw (named_as n, e, first.field_in) (hit i (one_alone n.value ms (rw (e, field_in) at h))))
      (λ e. rw (named_as n, e, first.field_in) (miss e i (first_in ms (rw (e, field_in) at h))))
    where
      hit : In m (n ∷ ms) → (In m ms → is_named decoded s name m ≡ true → ⊥) → is_first m.value (first.field_in s name (Some n.value) ms) ≡ true
      hit (here p) f = rw (stays-first s name n.value ms) (eq-eqb n.value m.value (ap (λ (x : Member). x.value) (sym p)))
      hit (later j) f = absurd (f j q)

      miss : is_named decoded s name n ≡ false → In m (n ∷ ms) → (In m ms → is_named decoded s name m ≡ true → is_first m.value (first.field_in s name None ms) ≡ true) → is_first m.value (first.field_in s name None ms) ≡ true
      miss e (here p) f = absurd (false≢true (sym e ∙ (ap (is_named decoded s name) (sym p) ∙ q)))
      miss e (later j) f = f j q

  -- ---- and the other way

  alone-one : (k : ℕ) (ms : List Member) → ((m : Member) → In m ms → is_named decoded s name m ≡ true → ⊥) → is_twice (field_in decoded s name (One k) ms) ≡ false
  unfolding field_in is_twice
  alone-one k [] h = refl
  alone-one k (n ∷ ms) h = both (is_named decoded s name n)
      (λ e. absurd (h n (here refl) e))
      (λ e. rw (e, field_in) (alone-one k ms (λ m i. h m (later i))))

  firsts-once : (f : Option ℕ) (ms : List Member) {n : ℕ} → Ascend n ms → ((m : Member) → In m ms → is_named decoded s name m ≡ true → is_first m.value f ≡ true) → is_twice (field_in decoded s name Absent ms) ≡ false
  unfolding field_in one_more is_twice
  firsts-once f [] a h = refl
  firsts-once f (n ∷ ms) (ascend-more l a) h = both (is_named decoded s name n)
      (λ e. rw (e, field_in) (alone-one n.value ms (λ m i q.
      let z = same_first f n.value m.value (h n (here refl) e) (h m (later i) q) in
      let b = ascend_in ms a i in omega arith)))
      (λ e. rw (e, field_in) (firsts-once f ms a (λ m i. h m (later i))))

-- ---- in an object

module _ (s : List ℕ) (at : ℕ) where
  pub alike : (name : List ℕ) → is_twice (field decoded s at name) ≡ false → Alike (field decoded s at name) (first.field s at name)
  unfolding field first.field
  alike name h = alike_in s name (members s at) absent h

  -- a member whose name is t
  pub once-first : {m : Member} {t : List ℕ} → In m (members s at) → decoded_at s m.name ≡ whole t → is_twice (field decoded s at t) ≡ false → is_first m.value (first.field s at t) ≡ true
  unfolding field first.field
  once-first {m} {t} i w h = first_in s t (members s at) h i (whole-named s t m w)

  pub first-once : (name : List ℕ) → ((m : Member) → In m (members s at) → decoded_at s m.name ≡ whole name → comes_first s at m ≡ true) → is_twice (field decoded s at name) ≡ false
  unfolding field comes_first first_of
  first-once name h = firsts-once s name (first.field s at name) (members s at) (members_ascend s at)
      (λ m i q. let w = named-whole s name m q in sym (ap (first_of s at m.value) w) ∙ h m i w)
