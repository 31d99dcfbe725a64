-- What this crate promises beyond its contracts.
use Rattle.faults.specs.Faults.{not_json, fault_number}
use Rattle.faults.specs.declared.Fault.{Fault}
use Rattle.std.specs.Prelude.{None, Option, Some}
use Prim.Native.Nat.{ℕ, ◌≤◌}
use mathlib.Core.Path.{◌≡◌, sym, ap, ◌∙◌}
use mathlib.Core.Logic.{◌↔◌}
use lib.ListN.{length}
use mathlib.Core.List.{List}
use Rattle.answer.specs.Answer.{refused, placed, gives}
use Rattle.json_text.specs.Bytes.{ws}
use Rattle.json_grammar.specs.Place.{NotJsonAt, LeastOf, JsonText, fault_place}
use Rattle.json_grammar.proofs.Theorems as grammar
use Rattle.json_grammar.proofs.Smallest.{none_wrong}
use Rattle.properties.specs.Valid.{Arranged}
use Rattle.description.specs.declared.Description.{Description}
use Rattle.description.specs.Description.{declared, told, Described, described_in, describe}
use Rattle.description.specs.Meaning.{meaning, Shows}
use Rattle.description.specs.Declares.{Declares}
use Rattle.description.proofs.Whole as whole
use Rattle.description.proofs.Bounds as bounds
use Rattle.description.proofs.Declares as declaring

-- ---- the answer of `describe`: it tells what is told of the faults

pub told_is : (own s : List ℕ) (d : Description) → meaning s d ≡ describe own s → d.told ≡ told own s
told_is own s d p = whole.told_is own s d p

pub taken : (own s : List ℕ) (d : Description) → meaning s d ≡ describe own s → d.told ≡ None → describe own s ≡ gives (described_in s (ws s 0))
taken own s d p e = whole.told-nothing own s (sym (told_is own s d p) ∙ e)

pub not_taken : (own s : List ℕ) (d : Description) {x : Fault} → meaning s d ≡ describe own s → d.told ≡ Some x → describe own s ≡ refused (placed (fault_number x.kind) x.place)
not_taken own s d p e = sym p ∙ whole.not_taken s d e

-- the same of what is told
pub told-nothing : (own s : List ℕ) → told own s ≡ None → describe own s ≡ gives (described_in s (ws s 0))
told-nothing = whole.told-nothing

pub told_at : (own s : List ℕ) {x : Fault} → told own s ≡ Some x → describe own s ≡ refused (placed (fault_number x.kind) x.place)
told_at own s e = whole.told_at own s e

-- places lie in a text of at most 8,192 bytes, or at its end; numbers are those of faults
pub told-short : (own s : List ℕ) {x : Fault} → told own s ≡ Some x → x.place ≤ 8192
told-short own s e = bounds.told-short own s e

pub told-number : (own s : List ℕ) {x : Fault} → told own s ≡ Some x → (21 ≤ fault_number x.kind) × (fault_number x.kind ≤ 25)
told-number own s {x} e = bounds.number_within x.kind

-- 21's place over RFC 8259's grammar: "the smallest of these places: the first byte at which no valid continuation exists (the length if the text ends
-- early), 8,192 if it is longer, the bracket too deep". There is only one such place (abnf, Theorems: one-first-bad)
pub is_not_json : (own s : List ℕ) → (JsonText s → length s ≤ 8192 → ⊥) → told own s ≡ Some (not_json (fault_place s))
is_not_json own s n = whole.wrong-told own s (λ e. let q = (none_wrong s).0 e in n q.0 q.1)

pub not_json_at : (own s : List ℕ) (p : ℕ) → (JsonText s → length s ≤ 8192 → ⊥) → told own s ≡ Some (not_json p) ↔ LeastOf (NotJsonAt s) p
not_json_at own s p n = (
  (λ e. (grammar.fault-told s p n).0 (place_is (sym e ∙ is_not_json own s n))),
  (λ l. is_not_json own s n ∙ ap (λ (k : ℕ). Some (not_json k)) (sym ((grammar.fault-told s p n).1 l))),
)
  where
    place_in : Option Fault → ℕ
    place_in None = 0
    place_in (Some f) = f.place

    place_is : {a b : ℕ} → Some (not_json a) ≡ Some (not_json b) → a ≡ b
    place_is e = ap place_in e

-- and then shows it all: its list is of at most 24
pub shows : (s : List ℕ) (d : Description) (x : Described) → meaning s d ≡ gives x → Shows s d x
shows s d x p = whole.shows s d p

-- ---- what a valid description declares: IDs of 1 to 32 bytes, valid formats of at most 64, at most 24 properties, strictly ascending

pub declares : (own s : List ℕ) (x : Described) → describe own s ≡ gives x → Declares own x
declares own s x e = declaring.declares own s e

-- "by node ID, then property ID": the properties are those of the text, all of them
pub arranged : (own s : List ℕ) (x : Described) → describe own s ≡ gives x → Arranged (declared s (ws s 0)) x.properties
arranged own s x e = declaring.arranges own s e
