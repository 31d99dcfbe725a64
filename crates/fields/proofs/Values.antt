-- What each way through the code shows of a value.
use Rattle.std.specs.Prelude.{Err, Ok, Result, Option, Some}
use Prim.Native.Nat.{ℕ, ◌+◌, ◌-◌}
use mathlib.Core.Path.{◌≡◌, refl, sym, ◌∙◌}
use mathlib.Core.List.{List, []}
use mathlib.Core.Bool.{Bool, true, false}
use lib.Dec.{eqb}
use borrow.Author.Tests.{ne_eqb, eq-eqb}
use Rattle.json_text.specs.Bytes.{byte}
use Rattle.json_text.specs.Strings.{string_at, raw_bytes}
use Rattle.json_text.specs.Value.{value_at}
use Rattle.text.specs.Bytes.{slice}
use Rattle.faults.specs.declared.Fault.{Fault}
use Rattle.faults.specs.Faults.{earlier, least, ◌otherwise◌, wrong_kind}
use Rattle.fields.specs.Values.{value_bytes, is_string_at, is_object, is_array, is_true, elements}
use Rattle.fields.specs.Fields.{of_kind, among, string_faults, id_faults, array_faults, close_at}
use Rattle.fields.specs.Parts.{item_faults}

-- ---- a value's bytes

module _ (s : List ℕ) (k : ℕ) {r : Result ℕ ℕ} (p : r ≡ value_at 16 s k) where
  pub bytes-none : {e : ℕ} → r ≡ Err e → [] ≡ value_bytes s k
  unfolding value_bytes
  bytes-none q = rw (sym p ∙ q, value_bytes)

  pub bytes-some : {e : ℕ} {t : List ℕ} → r ≡ Ok e → t ≡ slice s k e → t ≡ value_bytes s k
  unfolding value_bytes
  bytes-some q x = x ∙ rw (sym p ∙ q, value_bytes)

-- ---- what stands between a string's quotes

module _ (s : List ℕ) (k : ℕ) {r : Result ℕ ℕ} (p : r ≡ string_at s k) where
  pub raw-none : {e : ℕ} → r ≡ Err e → [] ≡ raw_bytes s k
  unfolding raw_bytes
  raw-none q = rw (sym p ∙ q, raw_bytes)

  pub raw-some : {e : ℕ} {t : List ℕ} → r ≡ Ok e → t ≡ slice s (k + 1) (e - 1) → t ≡ raw_bytes s k
  unfolding raw_bytes
  raw-some q x = x ∙ rw (sym p ∙ q, raw_bytes)

-- ---- kinds

module _ (s : List ℕ) (k : ℕ) {b : ℕ} (p : b ≡ byte s k) where
  pub text_is : eqb b 34 ≡ is_string_at s k
  unfolding is_string_at
  text_is = rw p

  pub object_is : eqb b 123 ≡ is_object s k
  unfolding is_object
  object_is = rw p

  pub true_is : eqb b 116 ≡ is_true s k
  unfolding is_true
  true_is = rw p

-- ---- where a value ends

module _ (s : List ℕ) (k : ℕ) {r : Result ℕ ℕ} (p : r ≡ value_at 16 s k) where
  pub close-none : {e : ℕ} → r ≡ Err e → k ≡ close_at s k
  unfolding close_at
  close-none q = rw (sym p ∙ q, close_at)

  pub close-some : {e : ℕ} → r ≡ Ok e → e - 1 ≡ close_at s k
  unfolding close_at
  close-some q = rw (sym p ∙ q, close_at)

-- ---- what is told of a value

-- of a rule whose test is told as b
pub rule_as : (f : Fault) (r : Bool) {b : Bool} {t : Option Fault} → b ≡ r → t ≡ least (b otherwise f) → t ≡ least (r otherwise f)
rule_as f r p x = x ∙ rw p

module _ (k : ℕ) (fs : List Fault) {b r : Bool} (p : b ≡ r) where
  pub kind-other : b ≡ false → Some (wrong_kind k) ≡ least (of_kind r k fs)
  unfolding of_kind least earlier
  kind-other e = rw (sym p ∙ e, of_kind)

  pub kind-right : {t : Option Fault} → b ≡ true → t ≡ least fs → t ≡ least (of_kind r k fs)
  unfolding of_kind
  kind-right e x = x ∙ rw (sym p ∙ e, of_kind)

module _ (each : List ℕ → ℕ → List Fault) (s : List ℕ) (at : ℕ) {b : ℕ} (p : b ≡ byte s at) where
  pub array_no : (b ≡ 91 → ⊥) → Some (wrong_kind at) ≡ least (array_faults each s at)
  unfolding array_faults is_array
  array_no n = kind-other at (among (λ m. each s m.value) (elements s at)) (sym (ne_eqb (byte s at) 91 (λ q. n (p ∙ q)))) refl

  pub array_yes : b ≡ 91 → least (among (λ m. each s m.value) (elements s at)) ≡ least (array_faults each s at)
  unfolding array_faults is_array
  array_yes q = kind-right at (among (λ m. each s m.value) (elements s at)) (sym (eq-eqb (byte s at) 91 (sym p ∙ q))) refl refl

module _ (s : List ℕ) (k : ℕ) {ids : Bool} {t : Option Fault} where
  pub item-id : ids ≡ true → t ≡ least (id_faults s k) → t ≡ least (item_faults ids s k)
  unfolding item_faults
  item-id q x = rw q x

  pub item-text : ids ≡ false → t ≡ least (string_faults s k) → t ≡ least (item_faults ids s k)
  unfolding item_faults
  item-text q x = rw q x
