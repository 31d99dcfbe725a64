-- A step through members or elements, and the laws of every walk through them.
use Rattle.std.specs.Prelude.{Option, None}
use Prim.Native.Nat.{ℕ, zero, suc, ◌+◌, ◌≤◌, ◌<◌}
use native.Mathlib.Nat.{add-zero}
use native.Mathlib.Omega.{arith}
use mathlib.Core.Path.{◌≡◌, sym, ap, ◌∙◌}
use mathlib.Core.List.{List, [], ◌∷◌}
use lib.ListN.{length}
use borrow.Author.Tests.{ne_eqb, eq-eqb}
use Rattle.json_text.specs.Bytes.{byte, ws, Skipped}
use Rattle.json_text.specs.Members.{Member, next_at, member_at, element_at, list_from, members_at, elements_at, found}
use Rattle.json_text.specs.declared.Item.{Item}
use Rattle.json_text.proofs.Bytes.{inside=}

-- ---- one step

module _ (s : List ℕ) (e j : ℕ) (p : Skipped (ws s e) e (length s) j) {b : ℕ} (x : b ≡ byte s j) where
  pub comma-inside : b ≡ 44 → j < length s
  comma-inside c = inside= s j 44 (sym x ∙ c) (omega arith)

  pub next_comma : {n : ℕ} → b ≡ 44 → Skipped (ws s (j + 1)) (j + 1) (length s) n → Skipped (next_at s e) e (length s) n
  unfolding next_at
  next_comma {n} c q =
      let h = comma-inside c in
      let f = q.from in
      let t = q.to in
      let g = p.from in
      record {
        is = q.is ∙ ap (λ (k : ℕ). ws s (k + 1)) p.is ∙ sym (rw (eq-eqb (byte s (ws s e)) 44 (ap (byte s) (sym p.is) ∙ sym x ∙ c), next_at));
        from = omega arith;
        to = omega arith;
      }

  pub next-none : (b ≡ 44 → ⊥) → Skipped (next_at s e) e (length s) j
  unfolding next_at
  next-none f = record { is = p.is ∙ sym (rw (ne_eqb (byte s (ws s e)) 44 (λ q. f (x ∙ ap (byte s) p.is ∙ q)), next_at)); from = p.from; to = p.to }

-- ---- walks. f of all the items is f of those from i on, with what f has kept of those before; n is the text's length
pub record Going {X : Type 0} (step : ℕ → Option Item) (f : List Member → X) (n i : ℕ) (want : X) : Type 0 where
  pub fuel : ℕ
  pub enough : n < i + fuel
  pub same : f (list_from step fuel i) ≡ want

module _ {X : Type 0} (step : ℕ → Option Item) (f : List Member → X) (n i : ℕ) {want : X} (h : i ≤ n) (g : Going step f n i want) where
  turn : (k : ℕ) × (f (list_from step (suc k) i) ≡ want) × (n ≤ i + k)
  turn = go g.fuel g.enough g.same
    where
      go : (k : ℕ) → n < i + k → f (list_from step k i) ≡ want → (k : ℕ) × (f (list_from step (suc k) i) ≡ want) × (n ≤ i + k)
      go zero e q = absurd (let z : i + 0 ≡ i = add-zero i in omega arith)
      go (suc k) e q = (k, q, omega arith)

  -- nothing is left
  pub walked : step i ≡ None → f [] ≡ want
  unfolding list_from
  walked q = let t = turn in ap f (sym (rw (q, list_from))) ∙ t.1

  -- the next turn: f with this item put in front
  pub walk : {k e j : ℕ} → step i ≡ found k e j → i < j → Going step (λ ms. f (record { name = i; value = k; end = e } ∷ ms)) n j want
  unfolding list_from
  walk {k} {e} {j} q l = let t = turn in record { fuel = t.0; enough = omega (arith, t.2); same = ap f (sym (rw (q, list_from))) ∙ t.1 }

module _ {X : Type 0} (f : List Member → X) (s : List ℕ) (at i : ℕ) (q : i ≡ ws s (at + 1)) where
  start : (step : ℕ → Option Item) → Going step f (length s) i (f (list_from step (suc (length s)) (ws s (at + 1))))
  start step = record { fuel = suc (length s); enough = omega arith; same = ap (λ (k : ℕ). f (list_from step (suc (length s)) k)) q }

  pub walk-members : Going (member_at s) f (length s) i (f (members_at s at))
  unfolding members_at
  walk-members = start (member_at s)

  pub walk-elements : Going (element_at s) f (length s) i (f (elements_at s at))
  unfolding elements_at
  walk-elements = start (element_at s)
