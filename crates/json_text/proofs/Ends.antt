-- Laws of the table of ends.
use Rattle.std.specs.Prelude.{Err, Ok, Result, IsErrAnd, Option, Some, None, is_some}
use Prim.Native.Nat.{ℕ, suc, ◌≤◌, ◌<◌}
use native.Mathlib.Omega.{arith}
use mathlib.Core.Path.{◌≡◌, refl, sym, ap, ◌∙◌, subst}
use mathlib.Core.List.{List}
use mathlib.Core.Bool.{Bool, true, true≢false}
use mathlib.Core.Logic.{◌⊎◌, inl, inr}
use lib.ListN.{length, get_or}
use lib.Dec.{eqb}
use borrow.Author.Tests.{eqb-true, eqb-false}
use Rattle.json_text.specs.Bytes.{byte, ws, EndsWithin, Skipped, Scanned}
use Rattle.json_text.specs.Strings.{string_at, raw_bytes, is_plain}
use Rattle.json_text.specs.Value.{colon, key_at, value_at}
use Rattle.json_text.specs.Members.{next_at, item_at, member_at, element_at, ItemLies, found}
use Rattle.json_text.specs.Ends.{Ends, ScannedIf, GotItemIf}
use Rattle.json_text.specs.Parts.{Kept, Noted, Cleared, Told}
use Rattle.json_text.specs.declared.Item.{Item}
use Rattle.json_text.proofs.Bytes.{both}
use Rattle.json_text.proofs.Strings.{Reading, string-not, raw-none}
use Rattle.json_text.proofs.Raise.{raise}
use Rattle.json_text.proofs.Items.{Inv}
use Rattle.json_text.proofs.Scans.{raised}
use Rattle.json_text.proofs.Values.{string-quote, value-quote, key-bad, key-goes}

pub kept : {d : ℕ} {s a : List ℕ} → Kept d s a a
kept = record { keeps = λ _ e. e }

pub kept_then : {d : ℕ} {s a b c : List ℕ} → Kept d s a b → Kept d s b c → Kept d s a c
kept_then p q = record { keeps = λ h e. q.keeps h (p.keeps h e) }

pub kept_less : {d d' : ℕ} {s a b : List ℕ} → d ≤ d' → Kept d s a b → Kept d' s a b
kept_less l p = record { keeps = λ h e. p.keeps (omega arith) e }

-- ---- a note

-- what was scanned is a value, and no string with a backslash, and its end is noted
noted-right : {at : ℕ} {s a b : List ℕ} {r : Result ℕ ℕ} → ((e : ℕ) → r ≡ Ok e → value_at 16 s at ≡ Ok e) → (byte s at ≡ 34 → is_plain (raw_bytes s at) ≡ true) → Noted at r a b → Ends s a → Ends s b
noted-right {at} {s} {a} {b} {r} w p n e = record { tells = λ k l m. go k l m (n.at_most k); plain = λ k l m q. same k l m q (n.at_most k) }
  where
    same : (k : ℕ) → suc k < get_or b k 0 → get_or b k 0 ≤ length s → byte s k ≡ 34 → (get_or b k 0 ≡ get_or a k 0) ⊎ ((k ≡ at) × (r ≡ Ok (get_or b k 0))) → is_plain (raw_bytes s k) ≡ true
    same k l m y (inl q) = e.plain k (omega arith) (omega arith) y
    same k l m y (inr q) = ap (λ (i : ℕ). is_plain (raw_bytes s i)) q.0 ∙ p (sym (ap (byte s) q.0) ∙ y)

    go : (k : ℕ) → suc k < get_or b k 0 → get_or b k 0 ≤ length s → (get_or b k 0 ≡ get_or a k 0) ⊎ ((k ≡ at) × (r ≡ Ok (get_or b k 0))) → value_at 16 s k ≡ Ok (get_or b k 0)
    go k l m (inl q) = e.tells k (omega arith) (omega arith) ∙ ap Ok (sym q)
    go k l m (inr q) = ap (value_at 16 s) q.0 ∙ w (get_or b k 0) q.1

module _ {at : ℕ} {s a b : List ℕ} {r : Result ℕ ℕ} where
  pub noted-kept : {d k : ℕ} → byte s at ≡ k → 34 < k → Scanned (value_at d s at) at (length s) r → Noted at r a b → Kept d s a b
  noted-kept {d} y g w n = record { keeps = λ h e. noted-right (λ x q. raise s d 16 at x h (sym w.is ∙ q)) (λ z. absurd (omega arith)) n e }

  pub noted-string : is_plain (raw_bytes s at) ≡ true → Scanned (string_at s at) at (length s) r → Noted at r a b → Kept 0 s a b
  noted-string y w n = record { keeps = λ h e. noted-right (λ x q. let p = sym w.is ∙ q in sym (value-quote 16 s at (string-quote s at x p)) ∙ p) (λ _. y) n e }

-- ---- a fresh table

cleared-ends : {s ends : List ℕ} → Cleared (length s) ends → Ends s ends
cleared-ends c = record {
  tells = λ k l m. let h = c.low k (omega arith) in absurd (omega arith);
  plain = λ k l m _. let h = c.low k (omega arith) in absurd (omega arith);
}

pub marked-kept : {s a b : List ℕ} → Cleared (length s) a → Kept 16 s a b → Ends s b
marked-kept c k = k.keeps (omega arith) (cleared-ends c)

-- ---- the loops' invariants, with the table

-- over the runs of a string
pub record Marking (s : List ℕ) (at : ℕ) (ends₀ ends : List ℕ) (i : ℕ) : Type 0 where
  pub reading : Reading s at i
  pub kept : Kept 0 s ends₀ ends
  pub size : length ends ≡ length ends₀

-- over items
pub record Walk (item : ℕ → Result ℕ ℕ) (close : ℕ) (s : List ℕ) (at : ℕ) (want : Result ℕ ℕ) (d : ℕ) (ends₀ ends : List ℕ) (i : ℕ) : Type 0 where
  pub inv : Inv item close s at want i
  pub kept : Kept d s ends₀ ends
  pub size : length ends ≡ length ends₀

-- ---- what the table tells

told-lies : {ends : List ℕ} {k n e : ℕ} {r : Option ℕ} → Told ends k n r → r ≡ Some e → (k < e) × (e ≤ n)
told-lies {e = e} t f =
    let q = t.entry e f in
    let l = q.1 in
    (omega arith, q.2)

module _ {s ends : List ℕ} {k e : ℕ} {r : Option ℕ} (t : Told ends k (length s) r) (f : r ≡ Some e) where
  tells-value : Ends s ends → value_at 16 s k ≡ Ok e
  tells-value v =
      let q = t.entry e f in
      let x = q.0 in
      let l = q.1 in
      let m = q.2 in
      v.tells k (omega arith) (omega arith) ∙ ap Ok (sym x)

  pub by-string : byte s k ≡ 34 → ScannedIf (Ends s ends) (string_at s k) k (length s) (Ok e)
  by-string b = record { is = λ v. sym (value-quote 16 s k b ∙ tells-value v); lies = told-lies t f }

  -- a string of which the table tells has no backslash, and where no string stands there is none
  by-plain : Ends s ends → true ≡ is_plain (raw_bytes s k)
  by-plain v =
      let q = t.entry e f in
      let x = q.0 in
      let l = q.1 in
      let m = q.2 in
      both (eqb (byte s k) 34)
      (λ b. sym (v.plain k (omega arith) (omega arith) (eqb-true _ 34 b)))
      (λ b. raw-none s k (string-not s k refl (eqb-false _ 34 b)) refl)

pub told-plain : {s ends : List ℕ} {k : ℕ} {r : Option ℕ} {t : Bool} → Told ends k (length s) r → t ≡ is_some r → t ≡ true → Ends s ends → t ≡ is_plain (raw_bytes s k)
told-plain {s} {k = k} {r = r} {t = t} w x y v = go r refl
  where
    go : (q : Option ℕ) → r ≡ q → t ≡ is_plain (raw_bytes s k)
    go (Some e) z = y ∙ by-plain w z v
    go None z = absurd (true≢false (sym y ∙ (x ∙ ap is_some z)))

-- an answer that does not hang on the table
pub anyhow : {G : Type 0} {want : Result ℕ ℕ} {lo hi : ℕ} {r : Result ℕ ℕ} → Scanned want lo hi r → ScannedIf G want lo hi r
anyhow w = record { is = λ _. w.is; lies = w.lies }

-- an error that `?` passes on
pub on-error_if : {G : Type 0} {want : Result ℕ ℕ} {lo hi x : ℕ} {r : Result ℕ ℕ} → IsErrAnd r (λ y. y ≡ x) → ScannedIf G want lo hi (Err x) → ScannedIf G want lo hi r
on-error_if {G} {want} {lo} {hi} {x} {r} e w = subst (ScannedIf G want lo hi) (sym (raised r e)) w

given : {G : Type 0} {want : Result ℕ ℕ} {lo hi : ℕ} {r : Result ℕ ℕ} → ScannedIf G want lo hi r → G → Scanned want lo hi r
given w g = record { is = w.is g; lies = w.lies }

module _ {G : Type 0} (s : List ℕ) (i : ℕ) where
  pub key-bad_if : {e : ℕ} → ScannedIf G (string_at s i) i (length s) (Err e) → ScannedIf G (key_at s i) i (length s) (Err e)
  key-bad_if w = record { is = λ g. (key-bad s (given w g)).is; lies = w.lies }

  pub key_if : {e : ℕ} {r : Result ℕ ℕ} → ScannedIf G (string_at s i) i (length s) (Ok e) → Scanned (colon s (ws s e)) e (length s) r → ScannedIf G (key_at s i) i (length s) r
  key_if {e} {r} w c = record { is = λ g. (key-goes s (given w g) c).is; lies = go r c.lies }
    where
      go : (q : Result ℕ ℕ) → EndsWithin e (length s) q → EndsWithin i (length s) q
      go (Ok j) p = let l = w.lies in (omega arith, omega arith)
      go (Err j) p = let l = w.lies in (omega arith, omega arith)

  pub none_if : {e : ℕ} → ScannedIf G (value_at 16 s i) i (length s) (Err e) → GotItemIf G (item_at s i) i (length s) None
  unfolding item_at
  none_if w = record { is = λ g. rw (sym (w.is g), item_at); lies = tt }

  pub some_if : {e n : ℕ} → ScannedIf G (value_at 16 s i) i (length s) (Ok e) → Skipped (next_at s e) e (length s) n → GotItemIf G (item_at s i) i (length s) (found i e n)
  unfolding item_at
  some_if {e} w p =
      let l = w.lies in
      let a = p.from in
      let b = p.to in
      record { is = λ g. rw (sym (w.is g), item_at) (ap (found i e) p.is); lies = (omega arith, omega arith, omega arith, omega arith) }

  pub element_if : {r : Option Item} → GotItemIf G (item_at s i) i (length s) r → GotItemIf G (element_at s i) i (length s) r
  unfolding element_at
  element_if w = w

  pub no-key_if : {e : ℕ} → ScannedIf G (key_at s i) i (length s) (Err e) → GotItemIf G (member_at s i) i (length s) None
  unfolding member_at
  no-key_if w = record { is = λ g. rw (sym (w.is g), member_at); lies = tt }

  pub member_if : {k : ℕ} (r : Option Item) → ScannedIf G (key_at s i) i (length s) (Ok k) → GotItemIf G (element_at s k) k (length s) r → GotItemIf G (member_at s i) i (length s) r
  unfolding member_at element_at
  member_if {k} r w m = record { is = λ g. m.is g ∙ sym (rw (sym (w.is g), member_at)); lies = go r m.lies }
    where
      go : (q : Option Item) → ItemLies k (length s) q → ItemLies i (length s) q
      go (Some t) l = let x = w.lies in (omega arith, l.1, l.2, l.3)
      go None l = tt
