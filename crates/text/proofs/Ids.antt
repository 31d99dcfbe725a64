-- IDs: the bytes of one, and reading one.
use mathlib.Core.Path.{◌≡◌, refl, sym, ap, ◌∙◌}
use mathlib.Core.List.{List, [], ◌∷◌, ◌++◌}
use mathlib.Core.Bool.{Bool, true, false, ◌&&◌, ◌||◌, false≢true, or-false}
use Prim.Native.Nat.{ℕ, zero, suc, ◌+◌, ◌-◌, ◌≤◌, ◌<◌}
use native.Mathlib.Omega.{arith}
use lib.Dec.{leb, eqb}
use lib.ListN.{length, take, drop, get_or, replicate, length-take}
use lib.Seq.{take-append_seam}
use borrow.Author.Tests.{le-leb, lt-leb, ne_eqb, leb-true}
use Rattle.text.specs.Bytes.{every}
use Rattle.text.specs.Ids.{id_byte, is_id, id_of, id_bytes, read_id}
use Rattle.text.specs.declared.Id.{Id}
use Rattle.std.specs.List.{list_all}
use Rattle.std.specs.Prelude.{Option, Some, None, unwrap_or, option_map}
use Rattle.std.proofs.lemmas.Option.{none-some}
use Rattle.std.proofs.lemmas.List.{drop-replicate}
use Rattle.text.specs.Parts.{Decides, IdBytes}
use Rattle.text.proofs.Bytes.{both, and_both}
use Rattle.text.proofs.Each.{each-one}

module _ (b : ℕ) where
  pub lower : 97 ≤ b → b ≤ 122 → id_byte b ≡ true
  unfolding id_byte
  lower h k = simp (le-leb 97 b h, le-leb b 122 k)

  pub digit : 48 ≤ b → b ≤ 57 → id_byte b ≡ true
  unfolding id_byte
  digit h k = simp (lt-leb 97 b (omega arith), le-leb 48 b h, le-leb b 57 k)

  pub dash : b ≡ 45 → id_byte b ≡ true
  unfolding id_byte
  dash e = simp e

  -- one comparison decides, by where the byte stands
  pub from_a : 97 ≤ b → leb b 122 ≡ id_byte b
  unfolding id_byte
  from_a h = rw (le-leb 97 b h, le-leb 48 b (omega arith), lt-leb b 57 (omega arith), ne_eqb b 45 (λ e. omega arith)) (sym (or-false (leb b 122)))

  pub from_0 : 48 ≤ b → b < 97 → leb b 57 ≡ id_byte b
  unfolding id_byte
  from_0 h k = rw (lt-leb 97 b k, le-leb 48 b h, ne_eqb b 45 (λ e. omega arith)) (sym (or-false (leb b 57)))

  pub below_0 : b < 48 → eqb b 45 ≡ id_byte b
  unfolding id_byte
  below_0 h = rw (lt-leb 97 b (omega arith), lt-leb 48 b h)

  pub flat : (leb 97 b && leb b 122) || ((leb 48 b && leb b 57) || eqb b 45) ≡ id_byte b
  unfolding id_byte
  flat = refl

pub id-none : (s : List ℕ) → length s ≡ 0 → is_id s ≡ false
unfolding is_id
id-none s e = simp e

pub id-long : (s : List ℕ) → 32 < length s → is_id s ≡ false
unfolding is_id
id-long s h = simp (le-leb 1 (length s) (omega arith), lt-leb (length s) 32 h)

-- within the sizes, all is up to the bytes
pub id_sized : (s : List ℕ) → 0 < length s → length s ≤ 32 → is_id s ≡ every id_byte s
unfolding is_id
id_sized s h k = simp (le-leb 1 (length s) h, le-leb (length s) 32 k)

-- ---- all bytes

every_at : (p : ℕ → Bool) (s : List ℕ) → every p s ≡ true → (k : ℕ) → k < length s → p (get_or s k 0) ≡ true
unfolding every
every_at p [] e k h = absurd (omega arith)
every_at p (b ∷ s) e zero h = (and_both (p b) (every p s) e).0
every_at p (b ∷ s) e (suc k) h = every_at p s (and_both (p b) (every p s) e).1 k (omega arith)

at_every : (p : ℕ → Bool) (s : List ℕ) → ((k : ℕ) → k < length s → p (get_or s k 0) ≡ true) → every p s ≡ true
unfolding every
at_every p [] f = refl
at_every p (b ∷ s) f = rw (f zero (omega arith)) (at_every p s (λ k h. f (suc k) (omega arith)))

module _ (s : List ℕ) where
  pub id-one : (i j : ℕ) {r : Bool} → i + 1 ≡ j → i < length s → r ≡ id_byte (get_or s i 0) → Decides (IdBytes s i j) r
  id-one i j e h q = record {
    yes = λ t. each-one i j e h (sym q ∙ t);
    no = λ t v. false≢true (sym t ∙ q ∙ v.all i (omega arith) (omega arith));
  }

  pub id-answer : (r : Bool) → 0 < length s → length s ≤ 32 → Decides (IdBytes s 0 (length s)) r → r ≡ is_id s
  id-answer r h k d = both r
      (λ q. let v = d.yes q in q ∙ sym (id_sized s h k ∙ at_every id_byte s (λ i g. v.all i (omega arith) g)))
      (λ q. both (is_id s)
      (λ e. absurd (d.no q (record { from = omega arith; to = omega arith; all = λ i g f. every_at id_byte s (sym (id_sized s h k) ∙ e) i f })))
      (λ e. q ∙ sym e))

-- the library's test of all
pub every_is : (p : ℕ → Bool) (s : List ℕ) → list_all p s ≡ every p s
unfolding every
every_is p [] = refl
every_is p (b ∷ s) = ap (λ (t : Bool). p b && t) (every_is p s)

-- what an ID has
pub record IsId (s : List ℕ) : Type 0 where
  pub some : 0 < length s
  pub few : length s ≤ 32
  pub all : every id_byte s ≡ true

pub is-id : (s : List ℕ) → is_id s ≡ true → IsId s
unfolding is_id
is-id s e = both (leb 1 (length s))
    (λ p. both (leb (length s) 32)
    (λ q. record { some = leb-true 1 (length s) p; few = leb-true (length s) 32 q; all = rw (p, q) at e })
    (λ q. absurd (false≢true (rw (p, q) at e))))
    (λ p. absurd (false≢true (rw p at e)))

-- ---- the value

pub read_no : (s : List ℕ) → is_id s ≡ false → None ≡ read_id s
unfolding read_id
read_no s e = rw e

pub read_yes : (s : List ℕ) → is_id s ≡ true → Some (id_of s) ≡ read_id s
unfolding read_id
read_yes s e = rw e

-- the bytes of an ID are copied over the first of 32 zeros
module _ (s : List ℕ) (e : is_id s ≡ true) where
  pub read_few : length s ≤ 32
  read_few = (is-id s e).few

  pub read_whole : length (take {A = ℕ} (length s) (replicate 32 0)) ≡ length s
  read_whole = rw length-take (omega (arith, read_few))

  pub read_bytes : (b : List ℕ) → b ≡ s → Some (record { bytes = b ++ drop {A = ℕ} (length s) (replicate 32 0); len = length s }) ≡ read_id s
  unfolding id_of
  read_bytes b q = rw (q, drop-replicate {X = ℕ} (length s) 32 0) (read_yes s e)

-- ---- what a caller makes of the answer
module _ (s : List ℕ) where
  pub read_none : None ≡ read_id s → is_id s ≡ false
  read_none e = both (is_id s) (λ t. absurd (none-some _ (e ∙ sym (read_yes s t)))) (λ f. f)

  pub read_some : (i : Id) → Some i ≡ read_id s → (is_id s ≡ true) × (i ≡ id_of s)
  read_some i e = both (is_id s)
      (λ t. (t, ap (λ (o : Option Id). unwrap_or o (id_of [])) (e ∙ sym (read_yes s t))))
      (λ f. absurd (none-some _ (read_no s f ∙ sym e)))

pub id_bytes-id_of : (s : List ℕ) → id_bytes (id_of s) ≡ s
unfolding id_bytes id_of
id_bytes-id_of s = take-append_seam s (replicate (32 - length s) 0)

pub read_back : (s : List ℕ) → is_id s ≡ true → option_map id_bytes (read_id s) ≡ Some s
read_back s e = ap (option_map id_bytes) (sym (read_yes s e)) ∙ ap Some (id_bytes-id_of s)
