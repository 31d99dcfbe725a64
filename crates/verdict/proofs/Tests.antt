-- The tests of a lane's messages, one after another.
use Rattle.std.specs.Prelude.{Result, Ok, Err, IfOk}
use Rattle.answer.specs.declared.Refused.{Refused}
use Rattle.std.proofs.lemmas.Result.{IfOk-weaker}
use Prim.Native.Nat.{ℕ, ◌≤◌}
use native.Mathlib.Omega.{arith}
use mathlib.Core.Path.{◌≡◌, refl, sym, ap, ap₂, ◌∙◌}
use mathlib.Core.Logic.{◌⊎◌, inl, inr}
use mathlib.Core.List.{List, [], ◌∷◌}
use mathlib.Core.Bool.{Bool, true, false, ◌&&◌, ◌||◌, or-true, false≢true, and-false, beq, not}
use lib.ListN.{length}
use lib.Dec.{eqb, leb}
use borrow.Author.Tests.{leb-true, ne_eqb}
use Rattle.answer.specs.Answer.{Answer, require}
use Rattle.text.proofs.Bytes.{and_both}
use Rattle.text.specs.Places.{bytes_at}
use Rattle.payload.specs.Formats.{is_format}
use Rattle.payload.specs.Payloads.{is_payload, may_be, is_of}
use Rattle.rules.specs.declared.LaneKind.{LaneKind}
use Rattle.rules.specs.declared.LaneKind.TheVariants.{Value, Target, Asked}
use Rattle.rules.specs.Table as table
use Rattle.rules.specs.Messages.{Message, is_empty, is_valid, same_flag, value_rules, set_rules, target_rules, lane_rules}
use Rattle.device.specs.Layout.{payload_most}
use Rattle.device.specs.Meaning.{property_in, declared_in}
use Rattle.device.specs.declared.Property.{Property}
use Rattle.verdict.specs.Parts.{unless, value_tests, set_tests, target_tests, Passes, Allows}

-- ---- value

alike : (a b : Bool) → same_flag a b ≡ beq a b
unfolding same_flag
alike true true = refl
alike false false = refl
alike true false = refl
alike false true = refl

pub not_yes : (a : Bool) → not a ≡ true → a ≡ false
not_yes true e = absurd (false≢true e)
not_yes false e = refl

pub not_no : (a : Bool) → not a ≡ false → a ≡ true
not_no true e = refl
not_no false e = absurd (false≢true (sym e))

not_both : (a b : Bool) → (a ≡ false) ⊎ (b ≡ false) → (a && b) ≡ false
not_both a b (inl e) = rw e
not_both a b (inr e) = rw e (and-false a)

module _ (keeps retained empty valid : Bool) where
  pub value-flag : beq keeps retained ≡ false → Passes (value_tests keeps retained empty valid) empty valid (Err Refused.WrongFlag)
  unfolding require unless
  value-flag e = record { says = λ a. rw (alike keeps retained, e); passed = tt }

  module _ (e : beq keeps retained ≡ true) where
    pub value-not : valid ≡ false → (empty ≡ false) ⊎ (keeps ≡ false) → Passes (value_tests keeps retained empty valid) empty valid (Err Refused.BadPayload)
    unfolding require unless
    value-not v k = record { says = λ a. rw (alike keeps retained, e, not_both empty keeps k, v); passed = tt }

    pub value-valid : valid ≡ true → Passes (value_tests keeps retained empty valid) empty valid (Ok tt)
    unfolding require unless
    value-valid v = record { says = λ a. rw (alike keeps retained, e, v, or-true (empty && keeps)); passed = rw v (or-true empty) }

    pub value-emptied : empty ≡ true → keeps ≡ true → Passes (value_tests keeps retained empty valid) empty valid (Ok tt)
    unfolding require unless
    value-emptied q k = record { says = λ a. rw (alike keeps retained, e, q, k); passed = rw q }

-- ---- set

module _ (settable empty valid : Bool) where
  pub set-not : settable ≡ false → Passes (set_tests settable valid) empty valid (Err Refused.NotSettable)
  unfolding require unless
  set-not e = record { says = λ a. rw e; passed = tt }

  pub set_invalid : settable ≡ true → valid ≡ false → Passes (set_tests settable valid) empty valid (Err Refused.BadPayload)
  unfolding require unless
  set_invalid e v = record { says = λ a. rw (e, v); passed = tt }

  pub set-valid : settable ≡ true → valid ≡ true → Passes (set_tests settable valid) empty valid (Ok tt)
  unfolding require unless
  set-valid e v = record { says = λ a. rw (e, v); passed = rw v (or-true empty) }

-- ---- target

module _ (empty valid : Bool) where
  pub target-emptied : empty ≡ true → Passes (target_tests empty valid) empty valid (Ok tt)
  unfolding require unless
  target-emptied e = record { says = λ a. rw e; passed = rw e }

  pub target_invalid : empty ≡ false → valid ≡ false → Passes (target_tests empty valid) empty valid (Err Refused.BadPayload)
  unfolding require unless
  target_invalid e v = record { says = λ a. rw (e, v); passed = tt }

  pub target-valid : empty ≡ false → valid ≡ true → Passes (target_tests empty valid) empty valid (Ok tt)
  unfolding require unless
  target-valid e v = record { says = λ a. rw (e, v); passed = rw (e, v) }

-- ---- all of them, for a property as its room shows it

empty_is : (s : List ℕ) → is_empty s ≡ eqb (length s) 0
unfolding is_empty
empty_is [] = refl
empty_is (b ∷ s) = sym (ne_eqb (length (b ∷ s)) 0 (λ e. omega arith))

no_bytes : (s : List ℕ) → is_empty s ≡ true → length s ≤ payload_most
unfolding is_empty
no_bytes [] h = omega arith
no_bytes (c ∷ s) h = absurd (false≢true h)

second : (a b c : Bool) → (a && (b && c)) ≡ true → b ≡ true
second a b c e = (and_both b c (and_both a (b && c) e).1).0

valid-short : (p : table.Property) (s : List ℕ) → is_valid p s ≡ true → length s ≤ payload_most
unfolding is_valid is_payload
valid-short p s e = let d = p.declared.datatype in let f = p.declared.format in leb-true (length s) 48 (second (leb 1 (length s)) (leb (length s) 48) (may_be d s && (is_format d f && is_of d f s)) e)

module _ (room : List ℕ) (p : Property) (x : Message) (empty valid : Bool) (n : Result Unit Refused) (e : empty ≡ eqb (length x.payload) 0) (f : List ℕ) (shown : f ≡ bytes_at room p.declared.format) (v : valid ≡ is_payload p.declared.datatype f x.payload) where
  empty_as : empty ≡ is_empty x.payload
  empty_as = e ∙ sym (empty_is x.payload)

  valid_as : valid ≡ is_valid (property_in room p) x.payload
  unfolding is_valid property_in declared_in
  valid_as = v ∙ ap (λ (t : List ℕ). is_payload p.declared.datatype t x.payload) shown

  short : (a b : Bool) → a ≡ is_empty x.payload → b ≡ is_valid (property_in room p) x.payload → (a || b) ≡ true → length x.payload ≤ payload_most
  short true b k q o = no_bytes x.payload (sym k)
  short false b k q o = valid-short (property_in room p) x.payload (sym q ∙ o)

  shortens : (tests : Answer (List table.Device) → Answer (List table.Device)) → Passes tests empty valid n → IfOk n (λ _. length x.payload ≤ payload_most)
  shortens tests h = IfOk-weaker n _ _ (λ _ o. short empty valid empty_as valid_as o) h.passed

  pub allow-value : Passes (value_tests p.declared.retained x.retained empty valid) empty valid n → Allows Value (property_in room p) x n
  unfolding lane_rules value_rules property_in declared_in
  allow-value h = record { says = λ a. sym (ap₂ (λ (b c : Bool). value_tests p.declared.retained x.retained b c a) empty_as valid_as) ∙ h.says a; short = shortens _ h }

  pub allow-set : Passes (set_tests p.declared.settable valid) empty valid n → Allows Asked (property_in room p) x n
  unfolding lane_rules set_rules property_in declared_in
  allow-set h = record { says = λ a. sym (ap (λ (c : Bool). set_tests p.declared.settable c a) valid_as) ∙ h.says a; short = shortens _ h }

  pub allow-target : Passes (target_tests empty valid) empty valid n → Allows Target (property_in room p) x n
  unfolding lane_rules target_rules
  allow-target h = record { says = λ a. sym (ap₂ (λ (b c : Bool). target_tests b c a) empty_as valid_as) ∙ h.says a; short = shortens _ h }

-- the kind by its name
pub of_kind_lem : (kind k : LaneKind) (p : table.Property) (x : Message) (n : Result Unit Refused) → kind ≡ k → Allows k p x n → Allows kind p x n
of_kind_lem kind k p x n e h = rw e h
