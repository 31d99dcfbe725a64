-- A string of a text in UTF-8.
use Rattle.std.specs.Prelude.{Err, Ok, Result}
use Prim.Native.Nat.{ℕ, zero, suc, ◌+◌, ◌-◌, ◌≤◌, ◌<◌}
use native.Mathlib.Numerals.{add-one}
use native.Mathlib.Omega.{arith}
use mathlib.Core.Path.{◌≡◌, refl, sym, ap, ◌∙◌, subst}
use mathlib.Core.List.{List, [], ◌∷◌, ◌++◌}
use mathlib.Core.Bool.{true, false, false≢true, true≢false}
use lib.ListN.{length, take, drop}
use lib.Seq.{split_at}
use lib.Dec.{eqb}
use borrow.Author.Tests.{eqb-true, eqb-false}
use Rattle.abnf.specs.Abnf as Abnf
use Rattle.abnf.specs.Abnf.{◌∈◌}
use Rattle.abnf.specs.Accepts.{in_range}
use Rattle.abnf.proofs.Steps.{range-true}
use Rattle.text.specs.Bytes.{slice}
use Rattle.text.specs.Utf8.{UTF8-octets, is_utf8}
use Rattle.text.specs.Utf8Place.{due, ready, never, low, first, later, next}
use Rattle.text.specs.Parts.{utf8_from}
use Rattle.text.proofs.Bytes.{both, at_most}
use Rattle.text.proofs.Steps.{low_e0, low_f0, low-other, first_1, first_tail, first_2, first_3, first_4, first-over}
use Rattle.text.proofs.Utf8.{utf8_contract, is_utf8_is}
use Rattle.text.proofs.Scalars.{char_is}
use Rattle.json_text.specs.Bytes.{byte}
use Rattle.json_text.proofs.Bytes.{inside=}
use Rattle.json_text.specs.Strings.{is_hex, is_escape, plain_step, escape_step, hex_step, text_step, text, string_at, raw_bytes, is_plain}
use Rattle.json_text.specs.declared.string.State.{State}
use Rattle.json_text.specs.declared.string.State.TheVariants as J
use Rattle.json_text.specs.declared.string.Move.{Move}
use Rattle.json_text.specs.declared.string.Move.TheVariants.{Go, Shut, Stuck}
use Rattle.json_text.proofs.Strings.{plain-plain, plain_stuck, escape-plain, escape_stuck, hex_go, hex_stuck}
use Rattle.escapes.specs.Escapes.{utf8}
use Rattle.escapes.specs.Decode.{Decoded, decode_after, bytes_of, written}
use Rattle.escapes.specs.Writes.{WritesAll, none, more, in_utf8}
use Rattle.escapes.proofs.Escapes.{utf8_encodes}
use Rattle.escapes.proofs.Writing.{every_way}
use Rattle.escapes.proofs.Sizes.{fewer}
use Rattle.escapes.proofs.Reading.{Runs, Utf8, Reads, chars, broken, reads_raw}

-- ---- cutting UTF-8 at a byte of ASCII

never-false : (l : List ℕ) → utf8_from never l ≡ false
unfolding utf8_from next later
never-false [] = refl
never-false (b ∷ l) = both (in_range 1 0 b) (λ e. absurd (let r = range-true 1 0 b e in omega arith)) (λ e. rw e (never-false l))

-- no byte of ASCII is due
abbrev Fine : ℕ → ℕ → Type 0
Fine lo hi = lo ≤ hi → 0x80 ≤ lo

low_fine : (b : ℕ) → 0x80 ≤ low b
low_fine b = both (eqb b 0xE0)
    (λ e. let q = low_e0 b (eqb-true _ _ e) in omega arith)
    (λ e. both (eqb b 0xF0)
    (λ f. let q = low_f0 b (eqb-true _ _ f) in omega arith)
    (λ f. let q = low-other b (eqb-false _ _ e) (eqb-false _ _ f) in omega arith))

first_fine : (b : ℕ) → Fine (first b).lo (first b).hi
first_fine b =
    at_most b 0x7F (λ k. rw (first_1 b k) (λ h. omega arith)) λ h1.
    at_most b 0xC1 (λ k. rw (first_tail b h1 k) (λ h. omega arith)) λ h2.
    at_most b 0xDF (λ k. rw (first_2 b h2 k) (λ h. omega arith)) λ h3.
    at_most b 0xEF (λ k. rw (first_3 b h3 k) (λ h. low_fine b)) λ h4.
    at_most b 0xF4 (λ k. rw (first_4 b h4 k) (λ h. low_fine b)) λ h5.
    rw (first-over b h5) (λ h. omega arith)

later_fine : (n lo hi b : ℕ) → Fine (later n lo hi b).lo (later n lo hi b).hi
unfolding later
later_fine zero lo hi b = first_fine b
later_fine (suc n) lo hi b = both (in_range lo hi b) (λ e. rw e (λ h. omega arith)) (λ e. rw e (λ h. omega arith))

record Cut (n lo hi : ℕ) (p r : List ℕ) : Type 0 where
  pub front : utf8_from (due n lo hi) p ≡ true
  pub rest : Utf8 r

module _ (q : ℕ) (h : q ≤ 0x7F) (r : List ℕ) where
  here : (n lo hi : ℕ) → Fine lo hi → utf8_from (due n lo hi) (q ∷ r) ≡ true → Cut n lo hi [] r
  unfolding utf8_from next later
  here zero lo hi f e = record { front = refl; rest = rw (first_1 q h) at e }
  here (suc n) lo hi f e = both (in_range lo hi q)
      (λ k. absurd (let r = range-true lo hi q k in let z = f (omega arith) in omega arith))
      (λ k. absurd (false≢true (sym (never-false r) ∙ (rw k at e))))

  cut : (n lo hi : ℕ) (p : List ℕ) → Fine lo hi → utf8_from (due n lo hi) (p ++ (q ∷ r)) ≡ true → Cut n lo hi p r
  unfolding utf8_from next
  cut n lo hi [] f e = here n lo hi f e
  cut n lo hi (b ∷ p) f e =
      let c = cut (later n lo hi b).count (later n lo hi b).lo (later n lo hi b).hi p (later_fine n lo hi b) e in
      record { front = c.front; rest = c.rest }

  cut-utf8 : (p : List ℕ) → Utf8 (p ++ (q ∷ r)) → (Utf8 p) × (Utf8 r)
  cut-utf8 p e = let c = cut 0 0x80 0xBF p (λ h. omega arith) e in (c.front, c.rest)

-- ---- what json's reader took

quote-only : (b : ℕ) → (b ≡ 34 → ⊥) → plain_step b ≡ Shut → ⊥
unfolding plain_step
quote-only b n e = both (eqb b 92)
    (λ q. let f : plain_step b ≡ Go J.Escape = ap plain_step (eqb-true b 92 q) in let z : ◌≡◌ {A = ℕ} 0 1 = cc in omega arith)
    (λ q. both (in_range 32 255 b)
    (λ p. let f = plain-plain b n (eqb-false b 92 q) p in let z : ◌≡◌ {A = ℕ} 0 1 = cc in omega arith)
    (λ p. let f = plain_stuck b n (eqb-false b 92 q) p in let z : ◌≡◌ {A = ℕ} 0 1 = cc in omega arith))

escape-shut {ℓ} : {X : Type ℓ} (b : ℕ) → escape_step b ≡ Shut → X
unfolding escape_step
escape-shut b e = absurd (both (eqb b 117)
    (λ q. let f : escape_step b ≡ Go J.Hex4 = ap escape_step (eqb-true b 117 q) in let z : ◌≡◌ {A = ℕ} 0 1 = cc in omega arith)
    (λ q. both (is_escape b)
    (λ p. let f = escape-plain b (eqb-false b 117 q) p in let z : ◌≡◌ {A = ℕ} 0 1 = cc in omega arith)
    (λ p. let f = escape_stuck b (eqb-false b 117 q) p in let z : ◌≡◌ {A = ℕ} 0 1 = cc in omega arith)))

hex-shut {ℓ} : {X : Type ℓ} (t : State) (b : ℕ) → hex_step t b ≡ Shut → X
hex-shut t b e = absurd (both (is_hex b)
    (λ p. let f = hex_go t b p in let z : ◌≡◌ {A = ℕ} 0 1 = cc in omega arith)
    (λ p. let f = hex_stuck t b p in let z : ◌≡◌ {A = ℕ} 0 1 = cc in omega arith))

shut-plain : (t : State) (b : ℕ) → text_step t b ≡ Shut → (t ≡ J.Plain) × (b ≡ 0x22)
unfolding text_step
shut-plain J.Plain b e = (refl, both (eqb b 34) (λ q. eqb-true b 34 q) (λ q. absurd (quote-only b (eqb-false b 34 q) e)))
shut-plain J.Escape b e = escape-shut b e
shut-plain J.Hex4 b e = hex-shut J.Hex3 b e
shut-plain J.Hex3 b e = hex-shut J.Hex2 b e
shut-plain J.Hex2 b e = hex-shut J.Hex1 b e
shut-plain J.Hex1 b e = hex-shut J.Plain b e

-- the string's bytes, and the quote after them
record Taken (t : State) (l : List ℕ) (at e : ℕ) : Type 0 where
  pub from : at < e
  pub runs : Runs t (take (e - 1 - at) l)
  pub rest : List ℕ
  pub parts : l ≡ take (e - 1 - at) l ++ (0x22 ∷ rest)

end_same : {a b : ℕ} → ◌≡◌ {A = Result ℕ ℕ} (Ok a) (Ok b) → a ≡ b
end_same q = cc

taken : (t : State) (l : List ℕ) (at e : ℕ) → text t l at ≡ Ok e → Taken t l at e
unfolding text Runs
taken t [] at e q = absurd (let z : ◌≡◌ {A = ℕ} 0 1 = cc in omega arith)
taken t (b ∷ l) at e q = go (text_step t b) refl (λ u. taken u l (at + 1) e)
  where
    go : (m : Move) → text_step t b ≡ m → ((u : State) → text u l (at + 1) ≡ Ok e → Taken u l (at + 1) e) → Taken t (b ∷ l) at e
    go (Go u) p ih =
        let k = ih u (rw (p, text) at q) in
        let f = k.from in
        let n : e - 1 - at ≡ suc (e - 1 - (at + 1)) = omega arith in
        record {
          from = omega arith;
          runs = subst (λ (j : ℕ). Runs t (take j (b ∷ l))) (sym n) (u, p, k.runs);
          rest = k.rest;
          parts = ap (λ (x : List ℕ). b ∷ x) k.parts ∙ ap (λ (j : ℕ). take j (b ∷ l) ++ (0x22 ∷ k.rest)) (sym n);
        }
    go Shut p ih =
        let f : at + 1 ≡ e = end_same (rw (p, text) at q) in
        let n : e - 1 - at ≡ 0 = omega arith in
        let s = shut-plain t b p in
        record {
          from = omega arith;
          runs = subst (λ (j : ℕ). Runs t (take j (b ∷ l))) (sym n) s.0;
          rest = l;
          parts = ap (λ (x : ℕ). x ∷ l) s.1 ∙ ap (λ (j : ℕ). take j (b ∷ l) ++ (0x22 ∷ l)) (sym n);
        }
    go Stuck p ih = absurd (let f : Err at ≡ Ok e = rw (p, text) at q in let z : ◌≡◌ {A = ℕ} 0 1 = cc in omega arith)

-- ---- a string in a text

module _ (s : List ℕ) (k e : ℕ) (q : string_at s k ≡ Ok e) where
  opening : (byte s k ≡ 0x22) × (text J.Plain (drop (k + 1) s) (k + 1) ≡ Ok e)
  unfolding string_at
  opening = both (eqb (byte s k) 34)
      (λ p. (eqb-true _ _ p, rw (p, string_at) at q))
      (λ p. absurd (let f : Err k ≡ Ok e = rw (p, string_at) at q in let z : ◌≡◌ {A = ℕ} 0 1 = cc in omega arith))

  between : Taken J.Plain (drop (k + 1) s) (k + 1) e
  between = taken J.Plain (drop (k + 1) s) (k + 1) e opening.1

  raw_is : slice s (k + 1) (e - 1) ≡ raw_bytes s k
  unfolding raw_bytes
  raw_is = sym (rw (q, raw_bytes))

  pub raw_runs : Runs J.Plain (raw_bytes s k)
  raw_runs = subst (Runs J.Plain) raw_is between.runs

  raw-utf8 : Utf8 s → Utf8 (raw_bytes s k)
  unfolding byte
  raw-utf8 g =
      let h = inside= s k 0x22 opening.0 (omega arith) in
      let a : s ≡ take k s ++ (0x22 ∷ drop (k + 1) s) = split_at s k 256 h ∙ ap (λ (b : ℕ). take k s ++ (b ∷ drop (suc k) s)) opening.0 ∙ ap (λ (j : ℕ). take k s ++ (0x22 ∷ drop j s)) (sym (add-one k)) in
      let c = cut-utf8 0x22 (omega arith) (drop (k + 1) s) (take k s) (subst Utf8 a g) in
      let d = cut-utf8 0x22 (omega arith) between.rest (slice s (k + 1) (e - 1)) (subst Utf8 between.parts c.1) in
      subst Utf8 raw_is d.0

  -- it is characters, each in one of the ways, or has half a pair
  pub reads : Utf8 s → Reads (raw_bytes s k)
  reads g = reads_raw (raw_bytes s k) raw_runs (raw-utf8 g)

-- ---- what is decoded is UTF-8

chars-utf8 : {cs w : List ℕ} → WritesAll cs w → in_utf8 cs ∈ UTF8-octets
unfolding in_utf8
chars-utf8 none = Abnf.none
chars-utf8 (more {c = c} n a r) = Abnf.more ((char_is (utf8 c)).1 (c, utf8_encodes c n.small, n)) (chars-utf8 r)

reads-utf8 : {r : List ℕ} → Reads r → written r ∈ UTF8-octets
unfolding written bytes_of
reads-utf8 (chars cs w) = subst (λ (d : Decoded). bytes_of d ∈ UTF8-octets) (sym (every_way w)) (chars-utf8 w)
reads-utf8 (broken p e) = subst (λ (d : Decoded). bytes_of d ∈ UTF8-octets) (sym e) Abnf.none

nothing-utf8 : written [] ∈ UTF8-octets
unfolding written bytes_of decode_after
nothing-utf8 = Abnf.none

nothing-plain : is_plain [] ≡ true
unfolding is_plain
nothing-plain = refl

no-string : (s : List ℕ) (k e : ℕ) → string_at s k ≡ Err e → [] ≡ raw_bytes s k
unfolding raw_bytes
no-string s k e q = sym (rw (q, raw_bytes))

pub written-utf8 : (s : List ℕ) (k : ℕ) → is_utf8 s ≡ true → is_utf8 (written (raw_bytes s k)) ≡ true
written-utf8 s k g = (is_utf8_is (written (raw_bytes s k))).1 (go (string_at s k) refl)
  where
    go : (x : Result ℕ ℕ) → string_at s k ≡ x → written (raw_bytes s k) ∈ UTF8-octets
    go (Ok e) q = reads-utf8 (reads s k e q ((utf8_contract (utf8_from ready s) s refl).1 ((is_utf8_is s).0 g)))
    go (Err e) q = subst (λ (l : List ℕ). written l ∈ UTF8-octets) (no-string s k e q) nothing-utf8

-- ---- with a backslash it is shorter

pub escaped_shorter : (s : List ℕ) (k : ℕ) → is_plain (raw_bytes s k) ≡ false → length (written (raw_bytes s k)) < length (raw_bytes s k)
unfolding written
escaped_shorter s k f = go (string_at s k) refl
  where
    go : (x : Result ℕ ℕ) → string_at s k ≡ x → length (written (raw_bytes s k)) < length (raw_bytes s k)
    go (Ok e) q = fewer (raw_bytes s k) (raw_runs s k e q) f
    go (Err e) q = absurd (true≢false (sym nothing-plain ∙ ap is_plain (no-string s k e q) ∙ f))
