-- How far a byte string can be continued within UTF-8, and what completes it.
use Prim.Native.Nat.{ℕ, zero, suc, ◌+◌, ◌-◌, ◌≤◌, ◌<◌}
use native.Mathlib.Numerals.{add-one}
use native.Mathlib.Omega.{arith}
use mathlib.Core.Path.{◌≡◌, refl, sym, ap, ◌∙◌}
use mathlib.Core.Logic.{◌↔◌, ◌⊎◌, inl, inr}
use mathlib.Core.List.{List, [], ◌∷◌, ◌++◌}
use mathlib.Core.Bool.{Bool, true, false, false≢true}
use lib.ListN.{length, take, drop, get_or, drop_of_length-le}
use lib.Seq.{drop-cons}
use lib.Dec.{leb, eqb}
use borrow.Author.Tests.{le-leb, eq-eqb, eqb-true, eqb-false}
use Rattle.abnf.specs.Place.{Viable, Furthest, FirstBad}
use Rattle.abnf.proofs.Places.{one_place}
use Rattle.text.specs.Utf8.{is_utf8}
use Rattle.text.specs.Utf8Place.{Utf8, Due, due, ready, never, low, high, first, next, utf8_reach, utf8_place}
use Rattle.std.specs.Prelude.{Some, None}
use Rattle.text.specs.Parts.{utf8_from, Following}
use Rattle.text.proofs.Bytes.{both, at_most}
use Rattle.text.proofs.Steps.{low_e0, low_f0, low-other, high_ed, high_f4, high-other, first_1, first_tail, first_2, first_3, first_4, first-over, next-ready, next_low, next-high, next_in, never_ends}
use Rattle.text.proofs.Utf8.{utf8_contract, is_utf8_is}

abbrev pub AllAscii : List ℕ → Type 0
AllAscii [] = Unit {0}
AllAscii (b ∷ l) = (b < 128) × AllAscii l

abbrev pub AllHigh : List ℕ → Type 0
AllHigh [] = Unit {0}
AllHigh (b ∷ l) = (128 ≤ b) × (b ≤ 255) × AllHigh l

-- whether the last byte is above 7F; `f` where there is none
abbrev pub ends_high : Bool → List ℕ → Bool
ends_high f [] = f
ends_high f (b ∷ l) = ends_high (leb 128 b) l

-- bytes above 7F, and none but after such a byte
abbrev pub HighAfter : Bool → List ℕ → Type 0
HighAfter true t = AllHigh t
HighAfter false t = t ≡ []

-- what may be due after a byte that is, or is not, above 7F
record Open (f : Bool) (d : Due) : Type 0 where
  least : 128 ≤ d.lo
  some : d.lo ≤ d.hi
  most : d.hi ≤ 255
  flag : f ≡ false → d.count ≡ 0

open-due : (f : Bool) (n lo hi : ℕ) → 128 ≤ lo → lo ≤ hi → hi ≤ 255 → f ≡ true → Open f (due n lo hi)
open-due f n lo hi h k g e = record { least = h; some = k; most = g; flag = λ q. absurd (false≢true (sym q ∙ e)) }

open-ready : (f : Bool) → Open f ready
open-ready f = record { least = omega arith; some = omega arith; most = omega arith; flag = λ q. refl }

-- the second byte's range
ranges : (b : ℕ) → (128 ≤ low b) × (low b ≤ high b) × (high b ≤ 255)
ranges b =
    both (eqb b 0xE0) (λ e. let q = eqb-true b 0xE0 e in let l = low_e0 b q in let h = high-other b (λ z. omega arith) (λ z. omega arith) in (omega arith, omega arith, omega arith)) λ e. let q = eqb-false b 0xE0 e in
    both (eqb b 0xF0) (λ f. let r = eqb-true b 0xF0 f in let l = low_f0 b r in let h = high-other b (λ z. omega arith) (λ z. omega arith) in (omega arith, omega arith, omega arith)) λ f. let r = eqb-false b 0xF0 f in
    let l = low-other b q r in
    both (eqb b 0xED) (λ g. let h = high_ed b (eqb-true b 0xED g) in (omega arith, omega arith, omega arith)) λ g.
    both (eqb b 0xF4) (λ k. let h = high_f4 b (eqb-true b 0xF4 k) in (omega arith, omega arith, omega arith)) λ k.
    let h = high-other b (eqb-false b 0xED g) (eqb-false b 0xF4 k) in (omega arith, omega arith, omega arith)

abbrev Goes : ℕ → Due → Type 0
Goes b d = (d ≡ never) ⊎ Open (leb 128 b) d

first_goes : (b : ℕ) → Goes b (first b)
first_goes b =
    at_most b 0x7F (λ k. rw (first_1 b k) (inr (open-ready _))) λ h1. let f = le-leb 128 b (omega arith) in let r = ranges b in
    at_most b 0xC1 (λ k. inl (first_tail b h1 k)) λ h2.
    at_most b 0xDF (λ k. rw (first_2 b h2 k) (inr (open-due _ 1 0x80 0xBF (omega arith) (omega arith) (omega arith) f))) λ h3.
    at_most b 0xEF (λ k. rw (first_3 b h3 k) (inr (open-due _ 2 (low b) (high b) r.0 r.1 r.2 f))) λ h4.
    at_most b 0xF4 (λ k. rw (first_4 b h4 k) (inr (open-due _ 3 (low b) (high b) r.0 r.1 r.2 f))) λ h5.
    inl (first-over b h5)

goes : (f : Bool) (d : Due) → Open f d → (b : ℕ) → Goes b (next d b)
goes f d o b =
    at_most d.count 0 (λ k. rw (next-ready b d (omega arith)) (first_goes b)) λ h.
    at_most d.lo b
    (λ k. at_most b d.hi
    (λ g. let z = o.least in rw (next_in b d h k g) (inr (open-due _ _ 0x80 0xBF (omega arith) (omega arith) (omega arith) (le-leb 128 b (omega arith)))))
    (λ g. inl (next-high b d h k g)))
    (λ k. inl (next_low b d h k))

-- ASCII follows a whole character
ascii_reads : (d : Due) (v : List ℕ) → d.count ≡ 0 → AllAscii v → utf8_from d v ≡ true
unfolding utf8_from
ascii_reads d [] e h = eq-eqb d.count 0 e
ascii_reads d (b ∷ v) e h = let g = h.0 in rw (next-ready b d e, first_1 b (omega arith)) (ascii_reads ready v refl h.1)

-- the least bytes that are due
tail_of : ℕ → ℕ → List ℕ
tail_of zero lo = []
tail_of (suc n) lo = lo ∷ tail_of n 0x80

tail-high : (n lo : ℕ) → 128 ≤ lo → lo ≤ 255 → AllHigh (tail_of n lo)
unfolding tail_of
tail-high zero lo h k = tt
tail-high (suc n) lo h k = (h, k, tail-high n 0x80 (omega arith) (omega arith))

tail_reads : (n : ℕ) (d : Due) (v : List ℕ) → d.count ≡ n → d.lo ≤ d.hi → AllAscii v → utf8_from d (tail_of n d.lo ++ v) ≡ true
unfolding utf8_from tail_of
tail_reads zero d v e h g = ascii_reads d v e g
tail_reads (suc n) d v e h g = ap (λ (x : Due). utf8_from x (tail_of n 0x80 ++ v)) (next_in d.lo d (omega arith) (omega arith) h) ∙ tail_reads n (due (d.count - 1) 0x80 0xBF) v (omega arith) (omega arith) g

record Completes (f : Bool) (d : Due) (l : List ℕ) : Type 0 where
  rest : List ℕ
  tail : HighAfter (ends_high f l) rest
  is : (v : List ℕ) → AllAscii v → utf8_from d (l ++ (rest ++ v)) ≡ true

completes : (f : Bool) (d : Due) → Open f d → Completes f d []
unfolding tail_of
completes f d o = record { rest = tail_of d.count d.lo; tail = go f o.flag; is = λ v g. tail_reads d.count d v refl o.some g }
  where
    go : (f : Bool) → (f ≡ false → d.count ≡ 0) → HighAfter f (tail_of d.count d.lo)
    go true k = let x = o.some in let y = o.most in tail-high d.count d.lo o.least (omega arith)
    go false k = rw (k refl)

-- what is of UTF-8 with something after it is completed so
completed : (l u : List ℕ) (f : Bool) (d : Due) → Open f d → utf8_from d (l ++ u) ≡ true → Completes f d l
unfolding utf8_from
completed [] u f d o e = completes f d o
completed (b ∷ l) u f d o e = go (goes f d o b) (λ o'. completed l u (leb 128 b) (next d b) o' e)
  where
    go : Goes b (next d b) → (Open (leb 128 b) (next d b) → Completes (leb 128 b) (next d b) l) → Completes f d (b ∷ l)
    go (inl z) ih = absurd (false≢true (sym (never_ends (l ++ u)) ∙ sym (ap (λ (x : Due). utf8_from x (l ++ u)) z) ∙ e))
    go (inr o') ih = let c = ih o' in record { rest = c.rest; tail = c.tail; is = c.is }

-- the bytes that may stand one after another can be completed, and with one more they cannot
record Reaches (f : Bool) (d : Due) (s : List ℕ) (p : ℕ) : Type 0 where
  inside : p ≤ length s
  before : Completes f d (take p s)
  at : p < length s → (t : List ℕ) → utf8_from d (take (suc p) s ++ t) ≡ false

reaches : (s : List ℕ) (f : Bool) (d : Due) → Open f d → Reaches f d s (utf8_reach d s)
unfolding utf8_reach utf8_from
reaches [] f d o = record { inside = omega arith; before = completes f d o; at = λ h. absurd (omega arith) }
reaches (b ∷ s) f d o = go (goes f d o b) (λ o'. reaches s (leb 128 b) (next d b) o')
  where
    go : Goes b (next d b) → (Open (leb 128 b) (next d b) → Reaches (leb 128 b) (next d b) s (utf8_reach (next d b) s)) → Reaches f d (b ∷ s) (utf8_reach d (b ∷ s))
    go (inl z) ih =
        let e : leb (next d b).lo (next d b).hi ≡ false = rw z in
        rw (e, utf8_reach) (record { inside = omega arith; before = completes f d o; at = λ h t. rw z (never_ends t) })
    go (inr o') ih =
        let e : leb (next d b).lo (next d b).hi ≡ true = le-leb _ _ o'.some in
        let r = ih o' in
        let c = r.before in
        rw (e, utf8_reach) (record { inside = omega arith; before = record { rest = c.rest; tail = c.tail; is = c.is }; at = λ h t. r.at (omega arith) t })

-- ---- said of the grammar

reads : (s : List ℕ) → (utf8_from ready s ≡ true) ↔ Utf8 s
reads s = utf8_contract (utf8_from ready s) s refl

pub record Completion (s : List ℕ) : Type 0 where
  pub rest : List ℕ
  pub tail : HighAfter (ends_high false s) rest
  pub is : (v : List ℕ) → AllAscii v → Utf8 (s ++ (rest ++ v))

-- what can be continued in UTF-8 is completed by bytes above 7F, where it ends in one, and then by any ASCII
pub completion : (s : List ℕ) → Viable Utf8 s → Completion s
completion s (u, w) = let c = completed s u false ready (open-ready false) ((reads (s ++ u)).1 w) in
    record { rest = c.rest; tail = c.tail; is = λ v h. (reads (s ++ (c.rest ++ v))).0 (c.is v h) }

pub utf8_reach_lem : (s : List ℕ) → Furthest Utf8 s (utf8_place s)
unfolding utf8_place
utf8_reach_lem s =
    let r = reaches s false ready (open-ready false) in
    let c = r.before in
    record {
      inside = r.inside;
      before = (c.rest ++ [], (reads (take (utf8_reach ready s) s ++ (c.rest ++ []))).0 (c.is [] tt));
      at = λ h v. false≢true (sym (r.at h v.0) ∙ (reads (take (suc (utf8_reach ready s)) s ++ v.0)).1 (rw (add-one (utf8_reach ready s)) at v.1));
    }

pub utf8-first-bad : (s : List ℕ) (p : ℕ) → is_utf8 s ≡ false → (p ≡ utf8_place s) ↔ FirstBad Utf8 s p
utf8-first-bad s p n = (
  (λ e. rw e (record { fails = λ w. false≢true (sym n ∙ (is_utf8_is s).1 w); furthest = utf8_reach_lem s })),
  (λ f. one_place Utf8 s p (utf8_place s) f.furthest (utf8_reach_lem s)),
)

-- ---- a first byte

module _ (b : ℕ) where
  -- a second byte's whole range
  wide : (n : ℕ) → b < 0xE0 → due n 0x80 0xBF ≡ due n (low b) (high b)
  wide n h = rw (low-other b (λ e. omega arith) (λ e. omega arith), high-other b (λ e. omega arith) (λ e. omega arith))

  pub follow_0 : b ≤ 0x7F → Following b (Some 0)
  follow_0 k = (omega arith, first_1 b k ∙ wide 0 (omega arith))

  pub follow-tail : 0x7F < b → b ≤ 0xC1 → Following b None
  follow-tail h k = first_tail b h k

  pub follow_1 : 0xC1 < b → b ≤ 0xDF → Following b (Some 1)
  follow_1 h k = (omega arith, first_2 b h k ∙ wide 1 (omega arith))

  pub follow_2 : 0xDF < b → b ≤ 0xEF → Following b (Some 2)
  follow_2 h k = (omega arith, first_3 b h k)

  pub follow_3 : 0xEF < b → b ≤ 0xF4 → Following b (Some 3)
  follow_3 h k = (omega arith, first_4 b h k)

  pub follow-over : 0xF4 < b → Following b None
  follow-over h = first-over b h

-- ---- the loop over the bytes has come to i

pub record Reaching (s : List ℕ) (d : Due) (i : ℕ) : Type 0 where
  pub fits : i ≤ length s
  pub same : i + utf8_reach d (drop i s) ≡ utf8_place s

pub reaching-start : (s : List ℕ) → Reaching s ready 0
unfolding utf8_place
reaching-start s = record { fits = omega arith; same = omega arith }

module _ {s : List ℕ} {n lo hi i : ℕ} (v : Reaching s (due n lo hi) i) where
  pub reaching-end : length s ≤ i → i ≡ utf8_place s
  unfolding utf8_reach
  reaching-end h = let e : utf8_reach (due n lo hi) (drop i s) ≡ 0 = rw (drop_of_length-le s h) in let z = v.same in omega arith

  module _ (h : i < length s) where
    goes_on : (r : Due) → next (due n lo hi) (get_or s i 0) ≡ r → r.lo ≤ r.hi → Reaching s r (i + 1)
    unfolding utf8_reach
    goes_on r e k =
        let g : leb (next (due n lo hi) (get_or s i 0)).lo (next (due n lo hi) (get_or s i 0)).hi ≡ true = ap (λ (x : Due). leb x.lo x.hi) e ∙ le-leb r.lo r.hi k in
        let f : utf8_reach (due n lo hi) (drop i s) ≡ suc (utf8_reach r (drop (i + 1) s)) = rw (drop-cons s i 0 h, add-one i) (rw (g, utf8_reach) (ap (λ (x : Due). suc (utf8_reach x (drop (suc i) s))) e)) in
        let z = v.same in
        record { fits = omega arith; same = omega arith }

    stops : next (due n lo hi) (get_or s i 0) ≡ never → i ≡ utf8_place s
    unfolding utf8_reach
    stops e =
        let g : leb (next (due n lo hi) (get_or s i 0)).lo (next (due n lo hi) (get_or s i 0)).hi ≡ false = ap (λ (x : Due). leb x.lo x.hi) e in
        let f : utf8_reach (due n lo hi) (drop i s) ≡ 0 = rw (drop-cons s i 0 h) (rw (g, utf8_reach)) in
        let z = v.same in
        omega arith

    module _ (e : n ≡ 0) where
      pub reaching-first : {m : ℕ} → Following (get_or s i 0) (Some m) → {p q : ℕ} → p ≡ low (get_or s i 0) → q ≡ high (get_or s i 0) → Reaching s (due m p q) (i + 1)
      reaching-first {m} f {p} {q} a b = let r = ranges (get_or s i 0) in goes_on (due m p q) (next-ready (get_or s i 0) (due n lo hi) e ∙ f.1 ∙ rw (a, b)) (omega (arith, a, b, r.1))

      pub reaching_no-first : Following (get_or s i 0) None → i ≡ utf8_place s
      reaching_no-first f = stops (next-ready (get_or s i 0) (due n lo hi) e ∙ f)

    module _ (p : 0 < n) where
      pub reaching-low : get_or s i 0 < lo → i ≡ utf8_place s
      reaching-low k = stops (next_low (get_or s i 0) (due n lo hi) p k)

      pub reaching-high : lo ≤ get_or s i 0 → hi < get_or s i 0 → i ≡ utf8_place s
      reaching-high k g = stops (next-high (get_or s i 0) (due n lo hi) p k g)

      pub reaching_in : lo ≤ get_or s i 0 → get_or s i 0 ≤ hi → Reaching s (due (n - 1) 0x80 0xBF) (i + 1)
      reaching_in k g = goes_on (due (n - 1) 0x80 0xBF) (next_in (get_or s i 0) (due n lo hi) p k g) (omega arith)
