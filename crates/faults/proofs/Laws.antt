-- The least of faults does not depend on the order in which they are found.
use Prim.Native.Nat.{ℕ, ◌<◌}
use native.Mathlib.Omega.{arith}
use Rattle.std.specs.Prelude.{Option, None, Some, cond, nat_lt, not, ◌&&◌, ◌||◌, pos, ℤ, get_or, nat_eq}
use Rattle.std.specs.Option.{option_or}
use Rattle.std.specs.Ordering.{ord_min, is_lt, nat_cmp, ordering_then}
use mathlib.Core.Path.{◌≡◌, refl, sym, ap, ◌∙◌}
use mathlib.Core.List.{List, [], ◌∷◌, ◌++◌}
use mathlib.Core.Bool.{Bool, true, false}
use lib.Dec.{eqb, ltb, leb}
use Rattle.std.proofs.Common.{Less, Equal, Greater}
use denote.Enum.Declared.{tag_of}
use Rattle.std.proofs.lemmas.Bool.Decides.{nat_tests}
use Rattle.faults.specs.contracts.FaultKind.{the_type}
use Rattle.faults.specs.contracts.FaultOrd.TheImpl.{cmp-value}
use Rattle.faults.specs.declared.Fault.{Fault}
use Rattle.faults.specs.declared.FaultKind.{FaultKind}
use Rattle.faults.specs.Faults.{fault_number, is_earlier, earlier, least, ◌otherwise◌}

-- ---- the order

-- by cases of a test, with its equation
both {ℓ} : {X : Type ℓ} (b : Bool) → (b ≡ true → X) → (b ≡ false → X) → X
both true f g = f refl
both false f g = g refl

-- the number that a kind is compared by
by_number : (k : FaultKind) → get_or {A = ℤ} (pos 21 ∷ pos 22 ∷ pos 23 ∷ pos 24 ∷ pos 25 ∷ []) (tag_of the_type k) (pos 0) ≡ pos (fault_number k)
by_number FaultKind.NotJson = refl
by_number FaultKind.WrongKind = refl
by_number FaultKind.FieldMissing = refl
by_number FaultKind.NameRepeated = refl
by_number FaultKind.RuleBroken = refl

by_places : (p q m n : ℕ) → is_lt (ordering_then (nat_cmp q p) (cond (nat_lt n m) Less (cond (nat_lt m n) Greater Equal))) ≡ not (ltb p q || (eqb p q && leb m n))
by_places p q m n = grind (arith, nat_tests)

-- the code's order of faults is that of their places and numbers
lesser : (f g : Fault) → is_lt (cmp-value.it g f) ≡ not (is_earlier f g)
unfolding is_earlier
lesser f g = rw (by_number f.kind, by_number g.kind) (by_places f.place g.place (fault_number f.kind) (fault_number g.kind))

kind_at : ℕ → FaultKind
kind_at n = cond (nat_eq n 21) FaultKind.NotJson (cond (nat_eq n 22) FaultKind.WrongKind (cond (nat_eq n 23) FaultKind.FieldMissing (cond (nat_eq n 24) FaultKind.NameRepeated FaultKind.RuleBroken)))

kind-number : (k : FaultKind) → kind_at (fault_number k) ≡ k
unfolding kind_at
kind-number FaultKind.NotJson = refl
kind-number FaultKind.WrongKind = refl
kind-number FaultKind.FieldMissing = refl
kind-number FaultKind.NameRepeated = refl
kind-number FaultKind.RuleBroken = refl

module _ (f g : Fault) where
  pub is-before : f.place < g.place → true ≡ is_earlier f g
  unfolding is_earlier
  is-before h = grind (arith, nat_tests)

  pub is-behind : g.place < f.place → false ≡ is_earlier f g
  unfolding is_earlier
  is-behind h = grind (arith, nat_tests)

  pub is-beside : f.place ≡ g.place → leb (fault_number f.kind) (fault_number g.kind) ≡ is_earlier f g
  unfolding is_earlier
  is-beside e = grind (arith, nat_tests)

  pub same_fault : f.place ≡ g.place → fault_number f.kind ≡ fault_number g.kind → f ≡ g
  same_fault p q = ap (λ (k : FaultKind). record { place = f.place; kind = k }) (sym (kind-number f.kind) ∙ (ap kind_at q ∙ kind-number g.kind)) ∙
      ap (λ (n : ℕ). record { place = n; kind = g.kind }) p

  either_first : is_earlier f g ≡ true → is_earlier g f ≡ true → f ≡ g
  unfolding is_earlier
  either_first a b = same_fault (grind (arith, nat_tests)) (grind (arith, nat_tests))

  neither_first : is_earlier f g ≡ false → is_earlier g f ≡ false → ⊥
  unfolding is_earlier
  neither_first a b = grind (arith, nat_tests)

module _ (f g h : Fault) where
  order_trans : is_earlier f g ≡ true → is_earlier g h ≡ true → is_earlier f h ≡ true
  unfolding is_earlier
  order_trans a b = grind (arith, nat_tests)

  reverse_trans : is_earlier f g ≡ false → is_earlier g h ≡ false → is_earlier f h ≡ false
  unfolding is_earlier
  reverse_trans a b = grind (arith, nat_tests)

-- ---- the first of two

-- by the cases of both
module _ {a b : Option Fault} where
  pub none_first : a ≡ None → b ≡ earlier a b
  unfolding earlier
  none_first e = rw e

  pub one_alone : {f : Fault} → a ≡ Some f → b ≡ None → Some f ≡ earlier a b
  unfolding earlier
  one_alone e d = rw (e, d)

  pub lesser_first : {f g r : Fault} → a ≡ Some f → b ≡ Some g → r ≡ ord_min cmp-value.it f g → Some r ≡ earlier a b
  unfolding earlier
  lesser_first {f} {g} e d m = rw (e, d, m, lesser f g) (go (is_earlier f g))
    where
      go : (t : Bool) → Some (cond (not t) g f) ≡ elim t [ true ↦ Some f | false ↦ Some g ]
      go true = refl
      go false = refl

pub earlier-none : (a : Option Fault) → earlier a None ≡ a
unfolding earlier
earlier-none None = refl
earlier-none (Some f) = refl

module _ (f g : Fault) where
  pub earlier-first : is_earlier f g ≡ true → earlier (Some f) (Some g) ≡ Some f
  unfolding earlier
  earlier-first e = rw (e, earlier)

  pub earlier-second : is_earlier f g ≡ false → earlier (Some f) (Some g) ≡ Some g
  unfolding earlier
  earlier-second e = rw (e, earlier)

pub earlier_comm : (a b : Option Fault) → earlier a b ≡ earlier b a
unfolding earlier
earlier_comm None b = sym (earlier-none b)
earlier_comm (Some f) None = refl
earlier_comm (Some f) (Some g) = both (is_earlier f g)
    (λ e. both (is_earlier g f)
    (λ d. earlier-first f g e ∙ (ap (λ (x : Fault). Some x) (either_first f g e d) ∙ sym (earlier-first g f d)))
    (λ d. earlier-first f g e ∙ sym (earlier-second g f d)))
    (λ e. both (is_earlier g f)
    (λ d. earlier-second f g e ∙ sym (earlier-first g f d))
    (λ d. absurd (neither_first f g e d)))

pub earlier_assoc : (a b c : Option Fault) → earlier (earlier a b) c ≡ earlier a (earlier b c)
unfolding earlier
earlier_assoc None b c = refl
earlier_assoc (Some f) None c = refl
earlier_assoc (Some f) (Some g) None = earlier-none (earlier (Some f) (Some g))
earlier_assoc (Some f) (Some g) (Some h) = both (is_earlier f g)
    (λ e. both (is_earlier g h)
    (λ d. rw (earlier-first f g e, earlier-first g h d, earlier-first f g e) (earlier-first f h (order_trans f g h e d)))
    (λ d. rw (earlier-first f g e, earlier-second g h d)))
    (λ e. both (is_earlier g h)
    (λ d. rw (earlier-second f g e, earlier-first g h d, earlier-second f g e))
    (λ d. rw (earlier-second f g e, earlier-second g h d) (sym (earlier-second f h (reverse_trans f g h e d)))))

-- nothing is told of two only where nothing is told of each
abbrev count : Option Fault → ℕ
count None = 0
count (Some f) = 1

pub at-nothing : {f : Fault} → Some f ≡ None → ⊥
at-nothing e = one-zero (ap count e)
  where
    one-zero : ◌≡◌ {A = ℕ} 1 0 → ⊥
    one-zero z = omega (arith, z)

pub earlier-nothing : (a b : Option Fault) → earlier a b ≡ None → (a ≡ None) × (b ≡ None)
unfolding earlier
earlier-nothing None b e = (refl, e)
earlier-nothing (Some f) None e = absurd (at-nothing e)
earlier-nothing (Some f) (Some g) e = both (is_earlier f g)
    (λ d. absurd (at-nothing (sym (earlier-first f g d) ∙ e)))
    (λ d. absurd (at-nothing (sym (earlier-second f g d) ∙ e)))

-- ---- the least of a list

pub least-join : (fs gs : List Fault) → least (fs ++ gs) ≡ earlier (least fs) (least gs)
unfolding least earlier
least-join [] gs = refl
least-join (f ∷ fs) gs = ap (earlier (Some f)) (least-join fs gs) ∙ sym (earlier_assoc (Some f) (least fs) (least gs))

-- so the order of the faults does not matter
pub least-swap : (fs gs : List Fault) → least (fs ++ gs) ≡ least (gs ++ fs)
least-swap fs gs = least-join fs gs ∙ (earlier_comm (least fs) (least gs) ∙ sym (least-join gs fs))

-- nothing is told exactly where there is no fault
pub least-nothing : (fs : List Fault) → least fs ≡ None → fs ≡ []
unfolding least
least-nothing [] e = refl
least-nothing (f ∷ fs) e = absurd (at-nothing (earlier-nothing (Some f) (least fs) e).0)

pub least-none : {fs : List Fault} → fs ≡ [] → None ≡ least fs
unfolding least
least-none e = rw e

pub least-one : (f : Fault) → Some f ≡ least (f ∷ [])
unfolding least earlier
least-one f = refl

-- a rule's fault, by its test
module _ (test : Bool) (f : Fault) where
  pub rule-holds : test ≡ true → None ≡ least (test otherwise f)
  unfolding ◌otherwise◌ least
  rule-holds e = rw e

  pub rule-broken : test ≡ false → Some f ≡ least (test otherwise f)
  unfolding ◌otherwise◌ least earlier
  rule-broken e = rw e

-- a fault that the code makes, by what it is
pub told-as : {f g : Fault} {t : Option Fault} → f ≡ g → Some g ≡ t → Some f ≡ t
told-as e h = ap (λ (x : Fault). Some x) e ∙ h

pub is-told : {f g : Fault} → f ≡ g → Some f ≡ Some g
is-told e = ap (λ (x : Fault). Some x) e

-- what is told of a fault, or of another where it is none
pub or_told : (a : Option Fault) {t : Option Fault} {f : Fault} → (a ≡ None → Some f ≡ t) → ((x : Fault) → a ≡ Some x → Some x ≡ t) → option_or a (Some f) ≡ t
or_told None n o = n refl
or_told (Some x) n o = o x refl

-- what is told of a list whose first part is told as a, whose second as b
pub join-told : (fs gs : List Fault) {a b : Option Fault} → a ≡ least fs → b ≡ least gs → earlier a b ≡ least (fs ++ gs)
join-told fs gs p q = rw (p, q) (sym (least-join fs gs))

-- where there is no fault, each part has none
pub both-none : (fs gs : List Fault) → fs ++ gs ≡ [] → (fs ≡ []) × (gs ≡ [])
both-none [] gs e = (refl, e)
both-none (f ∷ fs) gs e = let z : ◌≡◌ {A = ℕ} 0 1 = cc in absurd (omega arith)

pub rule-kept : (test : Bool) (f : Fault) → (test otherwise f) ≡ [] → test ≡ true
unfolding ◌otherwise◌
rule-kept true f e = refl
rule-kept false f e = let z : ◌≡◌ {A = ℕ} 0 1 = cc in absurd (omega arith)
