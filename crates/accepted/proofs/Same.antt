-- Faults and tests that come to the same: there is no fault exactly where the tests hold.
use Prim.Native.Nat.{ℕ}
use native.Mathlib.Omega.{arith}
use mathlib.Core.Path.{◌≡◌, refl, sym, ◌∙◌}
use mathlib.Core.Logic.{◌↔◌}
use mathlib.Core.List.{List, [], ◌∷◌, ◌++◌}
use mathlib.Core.Bool.{Bool, true, false, ◌&&◌, false≢true}
use Rattle.json_text.specs.Members.{Member}
use Rattle.faults.specs.declared.Fault.{Fault}
use Rattle.faults.specs.Faults.{wrong_kind, ◌otherwise◌, fault}
use Rattle.faults.proofs.Laws.{both-none}
use Rattle.fields.specs.Fields.{of_kind, among}
use Rattle.fields.proofs.Names.{among_first, among-rest}
use Rattle.accepted.specs.Once.{holds, all}

abbrev pub Same : List Fault → Bool → Type 0
Same fs t = (fs ≡ []) ↔ (t ≡ true)

pub same_none : Same [] true
same_none = (λ e. refl, λ e. refl)

pub same_some : (f : Fault) (fs : List Fault) → Same (f ∷ fs) false
same_some f fs = (λ e. let z : ◌≡◌ {A = ℕ} 0 1 = cc in absurd (omega arith), λ e. absurd (false≢true e))

pub rule : (t : Bool) (f : Fault) → Same (t otherwise f) t
unfolding ◌otherwise◌
rule true f = same_none
rule false f = same_some f []

-- ---- one after another

pub none_both : (fs gs : List Fault) → fs ≡ [] → gs ≡ [] → fs ++ gs ≡ []
none_both fs gs p q = rw (p, q)

pub first_holds : (t : Bool) (ts : List Bool) → holds (t ∷ ts) ≡ true → (t ≡ true) × (holds ts ≡ true)
unfolding holds
first_holds true ts e = (refl, e)
first_holds false ts e = absurd (false≢true e)

pub holds-both : (t : Bool) (ts : List Bool) → t ≡ true → holds ts ≡ true → holds (t ∷ ts) ≡ true
unfolding holds
holds-both true ts p q = q
holds-both false ts p q = p

pub parts_hold : (ts us : List Bool) → holds (ts ++ us) ≡ true → (holds ts ≡ true) × (holds us ≡ true)
unfolding holds
parts_hold [] us e = (refl, e)
parts_hold (true ∷ ts) us e = parts_hold ts us e
parts_hold (false ∷ ts) us e = absurd (false≢true e)

pub holds_parts : (ts us : List Bool) → holds ts ≡ true → holds us ≡ true → holds (ts ++ us) ≡ true
unfolding holds
holds_parts [] us p q = q
holds_parts (true ∷ ts) us p q = holds_parts ts us p q
holds_parts (false ∷ ts) us p q = p

-- each of them holds
abbrev pub Each : List Bool → Type 0
Each [] = Unit {0}
Each (t ∷ ts) = (t ≡ true) × Each ts

pub each_holds : (ts : List Bool) → holds ts ≡ true → Each ts
unfolding holds
each_holds [] e = tt
each_holds (true ∷ ts) e = (refl, each_holds ts e)
each_holds (false ∷ ts) e = absurd (false≢true e)

-- faults and a list of tests
pub record Agree (fs : List Fault) (ts : List Bool) : Type 0 where
  pub tests : fs ≡ [] → holds ts ≡ true
  pub faults : holds ts ≡ true → fs ≡ []

pub never : (f : Fault) (fs : List Fault) {ts : List Bool} → holds ts ≡ false → Agree (f ∷ fs) ts
never f fs h = record { tests = λ e. absurd (false≢true ((same_some f fs).0 e)); faults = λ e. absurd (false≢true (sym h ∙ e)) }

module _ {fs : List Fault} {t : Bool} (a : Same fs t) where
  -- with tests that hold
  pub alone : (ts : List Bool) → holds ts ≡ true → Agree fs (t ∷ ts)
  alone ts h = record { tests = λ e. holds-both t ts (a.0 e) h; faults = λ e. a.1 (first_holds t ts e).0 }

  pub last : Agree fs (t ∷ [])
  unfolding holds
  last = alone [] refl

  -- what follows may need that there is no fault before
  pub then_where : {gs : List Fault} {ts : List Bool} → (fs ≡ [] → Agree gs ts) → Agree (fs ++ gs) (t ∷ ts)
  then_where {gs} {ts} b = record {
    tests = λ e. let p = both-none fs gs e in holds-both t ts (a.0 p.0) ((b p.0).tests p.1);
    faults = λ e. let q = first_holds t ts e in none_both fs gs (a.1 q.0) ((b (a.1 q.0)).faults q.1);
  }

  pub then : {gs : List Fault} {ts : List Bool} → Agree gs ts → Agree (fs ++ gs) (t ∷ ts)
  then b = then_where (λ e. b)

pub join : {fs gs : List Fault} {ts us : List Bool} → Agree fs ts → Agree gs us → Agree (fs ++ gs) (ts ++ us)
join {fs} {gs} {ts} {us} a b = record {
  tests = λ e. let p = both-none fs gs e in holds_parts ts us (a.tests p.0) (b.tests p.1);
  faults = λ e. let q = parts_hold ts us e in none_both fs gs (a.faults q.0) (b.faults q.1);
}

-- ---- a kind before all else

module _ (k : ℕ) {fs : List Fault} where
  pub kind : (b : Bool) {t : Bool} → Same fs t → Same (of_kind b k fs) (b && t)
  unfolding of_kind
  kind true a = a
  kind false a = same_some (wrong_kind k) []

  pub kind_with : (b : Bool) {t : Bool} {ts : List Bool} → Agree fs (t ∷ ts) → Agree (of_kind b k fs) ((b && t) ∷ ts)
  unfolding of_kind holds
  kind_with true a = a
  kind_with false a = let n = same_some (wrong_kind k) [] in record { tests = n.0; faults = n.1 }

  pub kind_then : (b : Bool) {ts : List Bool} → Agree fs ts → Agree (of_kind b k fs) (b ∷ ts)
  unfolding of_kind holds
  kind_then true a = record { tests = a.tests; faults = a.faults }
  kind_then false a = let n = same_some (wrong_kind k) [] in record { tests = n.0; faults = n.1 }

-- ---- members

-- a member of a list
pub data In (m : Member) : List Member → Type 0 where
  here : {n : Member} {ns : List Member} → m ≡ n → In m (n ∷ ns)
  later : {n : Member} {ns : List Member} → In m ns → In m (n ∷ ns)

pub in-none {ℓ} : {X : Type ℓ} {m : Member} → In m [] → X
in-none = elim [ ]

module _ (t : Member → Bool) (m : Member) (ms : List Member) where
  pub first-all : all t (m ∷ ms) ≡ true → (t m ≡ true) × (all t ms ≡ true)
  unfolding all
  first-all e = go (t m) refl e
    where
      go : (b : Bool) → t m ≡ b → elim b [ true ↦ all t ms | false ↦ false ] ≡ true → (t m ≡ true) × (all t ms ≡ true)
      go true p q = (p, q)
      go false p q = absurd (false≢true q)

  pub all_both : t m ≡ true → all t ms ≡ true → all t (m ∷ ms) ≡ true
  unfolding all
  all_both p q = rw (p, all) q

-- of each member
pub each_same : (f : Member → List Fault) (t : Member → Bool) → ((m : Member) → Same (f m) (t m)) → (ms : List Member) → Same (among f ms) (all t ms)
unfolding among all
each_same f t a [] = same_none
each_same f t a (m ∷ ms) =
    let b = each_same f t a ms in (
      λ e. all_both t m ms ((a m).0 (among_first f m ms e)) (b.0 (among-rest f m ms e)),
      λ e. let q = first-all t m ms e in none_both (f m) (among f ms) ((a m).1 q.0) (b.1 q.1),
    )
