-- What this crate promises.
use Rattle.std.specs.Prelude.{None}
use Prim.Native.Nat.{ℕ}
use mathlib.Core.Path.{◌≡◌, sym}
use mathlib.Core.Logic.{◌↔◌}
use mathlib.Core.List.{List, []}
use mathlib.Core.Bool.{true}
use Rattle.json_text.specs.Strings.{is_plain}
use Rattle.faults.proofs.Laws.{least-nothing, least-none}
use Rattle.description.specs.Description.{faults, told}
use Rattle.accepted.specs.Once.{as_sent, decoded, holds}
use Rattle.accepted.specs.Rules.{rules}
use Rattle.accepted.specs.Strings.{no_backslash, strings}
use Rattle.accepted.proofs.Device.{agree}
use Rattle.accepted.proofs.Grows.{all_plain}
use Rattle.accepted.proofs.Grown.{all_grows}

-- Paper 02, K1: "What is accepted stays the same.", with K4's reading of strings: a description has no fault exactly where every test of paper 01 holds
pub same : (own s : List ℕ) → (faults own s ≡ []) ↔ (holds (rules decoded own s) ≡ true)
same own s = ((agree own s).tests, (agree own s).faults)

-- so nothing is told of it exactly there
pub same-told : (own s : List ℕ) → (told own s ≡ None) ↔ (holds (rules decoded own s) ≡ true)
unfolding told
same-told own s = (
  λ e. (same own s).0 (least-nothing (faults own s) e),
  λ h. sym (least-none ((same own s).1 h)),
)

-- Paper 02, K4: what is accepted grows by exactly the documents with a backslash in the strings that are now decoded: paper 01 accepted those that have no
-- fault and no such backslash
pub grows : (own s : List ℕ) → (holds (rules as_sent own s) ≡ true) ↔ ((faults own s ≡ []) × (no_backslash s (strings s) ≡ true))
grows own s =
    let a = all_grows own s in
    (λ e. ((same own s).1 (a.stays e), a.plain e), λ h. a.back ((same own s).0 h.0) h.1)

-- what paper 01 accepted is accepted
pub stays : (own s : List ℕ) → holds (rules as_sent own s) ≡ true → faults own s ≡ []
stays own s e = ((grows own s).0 e).0

-- a text without a backslash is judged as by paper 01
pub unescaped : (own s : List ℕ) → is_plain s ≡ true → (faults own s ≡ []) ↔ (holds (rules as_sent own s) ≡ true)
unescaped own s p = (λ e. (grows own s).1 (e, all_plain s p (strings s)), stays own s)
