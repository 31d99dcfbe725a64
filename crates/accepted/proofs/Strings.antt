-- A decoded string: its faults against its tests.
use Rattle.std.specs.Prelude.{None, Some}
use Prim.Native.Nat.{ℕ, suc, ◌+◌}
use mathlib.Core.Path.{◌≡◌, refl, sym, ap, ◌∙◌}
use mathlib.Core.List.{List, [], ◌∷◌, ◌++◌}
use mathlib.Core.Bool.{Bool, true, false≢true}
use Rattle.escapes.specs.Decode.{Decoded, whole, half, bytes_of}
use Rattle.faults.specs.declared.Fault.{Fault}
use Rattle.faults.specs.Faults.{other_rule, ◌otherwise◌}
use Rattle.fields.specs.Values.{decoded_at, string_bytes}
use Rattle.fields.specs.Fields as faults
use Rattle.fields.specs.Fields.{decoded_faults}
use Rattle.accepted.specs.Once.{if_whole, decoded, read_at, passes, holds}
use Rattle.accepted.proofs.Same.{Same, same_some, rule, Agree, never, then, last}

module _ (s : List ℕ) (k : ℕ) where
  -- its bytes
  pub string-whole : {t : List ℕ} → decoded_at s k ≡ whole t → read_at decoded s k ≡ Some t
  unfolding decoded_at read_at decoded if_whole
  string-whole e = ap if_whole e

  string-half : {p : ℕ} → decoded_at s k ≡ half p → read_at decoded s k ≡ None
  unfolding decoded_at read_at decoded if_whole
  string-half e = ap if_whole e

  -- a test of it
  module _ (test : List ℕ → Bool) where
    pub whole-passes : {t : List ℕ} → decoded_at s k ≡ whole t → test t ≡ true → passes test (read_at decoded s k) ≡ true
    unfolding passes
    whole-passes w e = ap (passes test) (string-whole w) ∙ e

    pub passes-whole : passes test (read_at decoded s k) ≡ true → (decoded_at s k ≡ whole (string_bytes s k)) × (test (string_bytes s k) ≡ true)
    unfolding passes string_bytes bytes_of
    passes-whole h = go (decoded_at s k) refl
      where
        go : (d : Decoded) → decoded_at s k ≡ d → (d ≡ whole (bytes_of d)) × (test (bytes_of d) ≡ true)
        go (whole t) e = (refl, sym (ap (passes test) (string-whole e)) ∙ h)
        go (half p) e = absurd (false≢true (sym (ap (passes test) (string-half e)) ∙ h))

  pub of-string : {rules : List ℕ → List Fault} {test : List ℕ → Bool} → ((t : List ℕ) → Same (rules t) (test t)) → Same (decoded_faults s k rules) (passes test (read_at decoded s k))
  unfolding decoded_faults decoded_at read_at decoded faults.unless_half if_whole passes
  of-string {rules} {test} a = go (decoded_at s k)
    where
      go : (d : Decoded) → Same (faults.unless_half d k rules) (passes test (if_whole d))
      go (whole t) = a t
      go (half p) = same_some (other_rule (suc k + p)) []

  -- with one test more, of no string
  pub of-string_and : {rules : List ℕ → List Fault} {test : List ℕ → Bool} (b : Bool) (f : Fault) → ((t : List ℕ) → Same (rules t) (test t)) → Agree (decoded_faults s k (λ t. rules t ++ (b otherwise f))) (passes test (read_at decoded s k) ∷ b ∷ [])
  unfolding decoded_faults decoded_at read_at decoded faults.unless_half if_whole passes holds
  of-string_and {rules} {test} b f a = go (decoded_at s k)
    where
      go : (d : Decoded) → Agree (faults.unless_half d k (λ t. rules t ++ (b otherwise f))) (passes test (if_whole d) ∷ b ∷ [])
      go (whole t) = then (a t) (last (rule b f))
      go (half p) = never (other_rule (suc k + p)) [] refl
