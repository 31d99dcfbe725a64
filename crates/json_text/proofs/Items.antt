-- One turn of a loop over items, said as the code's contracts say it.
use Rattle.std.specs.Prelude.{Err, Ok, Result}
use Prim.Native.Nat.{ℕ, ◌+◌, ◌≤◌, ◌<◌}
use native.Mathlib.Omega.{arith}
use mathlib.Core.Path.{◌≡◌, sym, ap, ◌∙◌, subst}
use mathlib.Core.List.{List}
use lib.ListN.{length}
use borrow.Author.Tests.{eq-eqb}
use Rattle.json_text.specs.Bytes.{byte, ws, Skipped, Scanned}
use Rattle.json_text.specs.Value.{list_of, array_of, key_at, member_of, object_of, value_at, array_at, object_at}
use Rattle.json_text.proofs.Bytes.{inside=}
use Rattle.json_text.proofs.Scans.{carry}
use Rattle.json_text.proofs.Values.{Going, list-none, going_start, going-bad, going_more, going-shut, going_wrong, member-bad, member_at_lem}

-- the loops' invariant: the next item is at i, and the answer from there is the whole's
pub record Inv (item : ℕ → Result ℕ ℕ) (close : ℕ) (s : List ℕ) (at : ℕ) (want : Result ℕ ℕ) (i : ℕ) : Type 0 where
  pub past : at < i
  pub inside : i ≤ length s
  pub going : Going item close s i want

module _ {item : ℕ → Result ℕ ℕ} {close : ℕ} {s : List ℕ} {at i : ℕ} {want : Result ℕ ℕ} (v : Inv item close s at want i) where
  pub item-bad : {e : ℕ} → Scanned (item i) i (length s) (Err e) → Scanned want at (length s) (Err e)
  item-bad {e} w = record { is = going-bad item close s i e v.inside v.going (sym w.is); lies = let l = w.lies in (omega arith, omega arith) }

  module _ {e j : ℕ} (w : Scanned (item i) i (length s) (Ok e)) (p : Skipped (ws s e) e (length s) j) where
    pub item-more : {k : ℕ} → byte s j ≡ 44 → Skipped (ws s (j + 1)) (j + 1) (length s) k → Inv item close s at want k
    item-more {k} b q =
        let l = w.lies in
        let y : j < length s = inside= s j 44 b (omega arith) in
        let m = p.from in
        let n = q.from in
        let o = q.to in
        let x : k ≡ ws s (ws s e + 1) = q.is ∙ ap (λ (n : ℕ). ws s (n + 1)) p.is in
        record {
          past = omega arith;
          inside = omega arith;
          going = subst (λ (n : ℕ). Going item close s n want) (sym x)
              (going_more item close s i e v.inside v.going (sym w.is) (ap (byte s) (sym p.is) ∙ b) (omega arith));
        }

    pub item-shut : byte s j ≡ close → 44 < close → close < 256 → Scanned want at (length s) (Ok (j + 1))
    item-shut b d h =
        let l = w.lies in
        let x : j < length s = inside= s j close b h in
        record {
          is = ap (λ (k : ℕ). Ok (k + 1)) p.is ∙ going-shut item close s i e v.inside v.going (sym w.is) (λ q. let z : 44 ≡ close = sym q ∙ ap (byte s) (sym p.is) ∙ b in omega arith) (ap (byte s) (sym p.is) ∙ b);
          lies = (omega arith, omega arith);
        }

    pub item_wrong : (byte s j ≡ 44 → ⊥) → (byte s j ≡ close → ⊥) → Scanned want at (length s) (Err j)
    item_wrong n b =
        let l = w.lies in
        record {
          is = ap Err p.is ∙ going_wrong item close s i e v.inside v.going (sym w.is) (λ q. n (ap (byte s) p.is ∙ q)) (λ q. b (ap (byte s) p.is ∙ q));
          lies = (omega arith, omega arith);
        }

-- a member is a key and a value
module _ (v : ℕ → Result ℕ ℕ) (s : List ℕ) (i k : ℕ) where
  pub member_stops : Scanned (key_at s i) i (length s) (Err k) → Scanned (member_of v s i) i (length s) (Err k)
  member_stops w = record { is = sym (member-bad s v i k (sym w.is)); lies = w.lies }

  pub member-goes : {r : Result ℕ ℕ} → Scanned (key_at s i) i (length s) (Ok k) → Scanned (v k) k (length s) r → Scanned (member_of v s i) i (length s) r
  member-goes w u = let l = w.lies in carry (sym (member_at_lem s v i k (sym w.is))) (omega arith) (omega arith) u

-- the first item, or none
module _ (item : ℕ → Result ℕ ℕ) (close : ℕ) (s : List ℕ) (at i : ℕ) (h : at < length s) (p : Skipped (ws s (at + 1)) (at + 1) (length s) i) where
  first-none : byte s i ≡ close → close < 256 → Scanned (list_of item close s (ws s (at + 1))) at (length s) (Ok (i + 1))
  first-none b k =
      let x : i < length s = inside= s i close b k in
      record {
        is = sym (ap (list_of item close s) (sym p.is) ∙ list-none item close s i (eq-eqb _ _ b));
        lies = (omega arith, omega arith);
      }

  first_some : (byte s i ≡ close → ⊥) → Inv item close s at (list_of item close s (ws s (at + 1))) i
  first_some f =
      record {
        past = omega arith;
        inside = omega arith;
        going = subst (Going item close s i) (ap (list_of item close s) p.is) (going_start item close s i (omega arith) f);
      }

module _ (d : ℕ) (s : List ℕ) (at i : ℕ) (h : at < length s) (p : Skipped (ws s (at + 1)) (at + 1) (length s) i) where
  pub array-none : byte s i ≡ 93 → Scanned (array_at d s at) at (length s) (Ok (i + 1))
  unfolding array_at array_of
  array-none b = first-none (λ j. value_at d s j) 93 s at i h p b (omega arith)

  pub array-some : (byte s i ≡ 93 → ⊥) → Inv (λ j. value_at d s j) 93 s at (array_at d s at) i
  unfolding array_at array_of
  array-some f = first_some (λ j. value_at d s j) 93 s at i h p f

  pub object-none : byte s i ≡ 125 → Scanned (object_at d s at) at (length s) (Ok (i + 1))
  unfolding object_at object_of
  object-none b = first-none (λ j. member_of (λ k. value_at d s k) s j) 125 s at i h p b (omega arith)

  pub object-some : (byte s i ≡ 125 → ⊥) → Inv (λ j. member_of (λ k. value_at d s k) s j) 125 s at (object_at d s at) i
  unfolding object_at object_of
  object-some f = first_some (λ j. member_of (λ k. value_at d s k) s j) 125 s at i h p f
