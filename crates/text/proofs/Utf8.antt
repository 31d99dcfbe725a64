-- The computation accepts what RFC 3629's grammar has, and nothing else.
use Prim.Native.Nat.{ℕ, zero, suc, ◌≤◌, ◌<◌}
use native.Mathlib.Omega.{arith}
use mathlib.Core.Path.{◌≡◌, refl, sym, ◌∙◌}
use mathlib.Core.Logic.{inl, inr, ◌↔◌}
use mathlib.Core.List.{List, [], ◌∷◌}
use mathlib.Core.Bool.{Bool, true, false, false≢true}
use borrow.Author.Tests.{eqb-true, le-leb}
use Rattle.abnf.specs.Abnf.{Abnf, ◌–◌, ◌·◌, ◌∈◌, no_rules}
use Rattle.abnf.proofs.Theorems.{accepts_is}
use Rattle.abnf.proofs.Lead.{Lead, Many, over, again, whole-lead, lead-whole}
use Rattle.abnf.specs.Accepts.{in_range}
use Rattle.text.specs.Utf8Place.{Due, due, ready, never, low, high, first, later, next}
use Rattle.text.specs.Parts.{utf8_from}
use Rattle.text.specs.Utf8.{UTF8-tail, UTF8-3, UTF8-4, UTF8-char, UTF8-octets, is_utf8}
use Rattle.text.proofs.Bytes.{both, at_most, in_range_lem}
use Rattle.text.proofs.Steps.{low_e0, low_f0, low-other, high_ed, high_f4, high-other, first_1, first_tail, first_2, first_3, first_4, first-over}

-- ---- what may follow, as a grammar

abbrev Tails : ℕ → Abnf ⊥
Tails zero = UTF8-octets
Tails (suc n) = UTF8-tail · Tails n

abbrev Rest : ℕ → ℕ → ℕ → Abnf ⊥
Rest zero lo hi = UTF8-octets
Rest (suc n) lo hi = lo – hi · Tails n

abbrev After : Due → Abnf ⊥
After d = Rest d.count d.lo d.hi

rest_tails : (n : ℕ) (l : List ℕ) → Lead (Rest n 0x80 0xBF) l [] → Lead (Tails n) l []
rest_tails zero l w = w
rest_tails (suc n) l w = w

-- ---- every byte taken is one that the grammar has there

abbrev Takes : Abnf ⊥ → ℕ → Due → Type 0
Takes a b d = (m : List ℕ) → Lead (After d) m [] → Lead a (b ∷ m) []

no : (a : Abnf ⊥) (b : ℕ) → Takes a b never
no a b m (l, (c, h, k, e), w) = absurd (omega arith)

-- a byte from lo to hi in front
abbrev Byte : ℕ → ℕ → List ℕ → List ℕ → Type 0
Byte lo hi s r = Lead {N = ⊥} (lo – hi) s r

here : (lo hi b : ℕ) (m : List ℕ) → lo ≤ b → b ≤ hi → Byte lo hi (b ∷ m) m
here lo hi b m h k = (b, h, k, refl)

-- a first byte, a second in the range that is due, and what follows
module _ (b : ℕ) (m l r : List ℕ) (w : Byte (low b) (high b) m l) where
  second : (lo hi : ℕ) → low b ≡ lo → high b ≡ hi → Byte lo hi m l
  second lo hi e f = rw (e, f) at w

  three : 0xDF < b → b ≤ 0xEF → Lead UTF8-tail l r → Lead UTF8-3 (b ∷ m) r
  three h k t =
      at_most b 0xE0 (λ k1. inl (m, here 0xE0 0xE0 b m (omega arith) k1, (l, second 0xA0 0xBF (low_e0 b (omega arith)) (high-other b (λ e. omega arith) (λ e. omega arith)), t))) λ h1.
      let lo = low-other b (λ e. omega arith) (λ e. omega arith) in
      at_most b 0xEC (λ k2. inr (inl (m, here 0xE1 0xEC b m (omega arith) k2, (l, second 0x80 0xBF lo (high-other b (λ e. omega arith) (λ e. omega arith)), t)))) λ h2.
      at_most b 0xED (λ k3. inr (inr (inl (m, here 0xED 0xED b m (omega arith) k3, (l, second 0x80 0x9F lo (high_ed b (omega arith)), t))))) λ h3.
      inr (inr (inr (m, here 0xEE 0xEF b m (omega arith) k, (l, second 0x80 0xBF lo (high-other b (λ e. omega arith) (λ e. omega arith)), t))))

  four : (q : List ℕ) → 0xEF < b → b ≤ 0xF4 → Lead UTF8-tail l q → Lead UTF8-tail q r → Lead UTF8-4 (b ∷ m) r
  four q h k t u =
      at_most b 0xF0 (λ k1. inl (m, here 0xF0 0xF0 b m (omega arith) k1, (l, second 0x90 0xBF (low_f0 b (omega arith)) (high-other b (λ e. omega arith) (λ e. omega arith)), (q, t, u)))) λ h1.
      let lo = low-other b (λ e. omega arith) (λ e. omega arith) in
      at_most b 0xF3 (λ k2. inr (inl (m, here 0xF1 0xF3 b m (omega arith) k2, (l, second 0x80 0xBF lo (high-other b (λ e. omega arith) (λ e. omega arith)), (q, t, u))))) λ h2.
      inr (inr (m, here 0xF4 0xF4 b m (omega arith) k, (l, second 0x80 0x8F lo (high_f4 b (omega arith)), (q, t, u))))

first-takes : (b : ℕ) → Takes UTF8-octets b (first b)
first-takes b =
    at_most b 0x7F (λ k. rw (first_1 b k) (λ m w. again (inl (here 0x00 0x7F b m (omega arith) k)) w)) λ h1.
    at_most b 0xC1 (λ k. rw (first_tail b h1 k) (no UTF8-octets b)) λ h2.
    at_most b 0xDF (λ k. rw (first_2 b h2 k) (λ m w. again (inr (inl (m, here 0xC2 0xDF b m (omega arith) k, w.1))) w.2)) λ h3.
    at_most b 0xEF (λ k. rw (first_3 b h3 k) (λ m w. again (inr (inr (inl (three b m w.0 w.2.0 w.1 h3 k w.2.1)))) w.2.2)) λ h4.
    at_most b 0xF4 (λ k. rw (first_4 b h4 k) (λ m w. again (inr (inr (inr (four b m w.0 w.2.2.0 w.1 w.2.0 h4 k w.2.1 w.2.2.1)))) w.2.2.2)) λ h5.
    rw (first-over b h5) (no UTF8-octets b)

later-takes : (n lo hi b : ℕ) → Takes (Rest n lo hi) b (later n lo hi b)
unfolding later
later-takes zero lo hi b = first-takes b
later-takes (suc n) lo hi b =
    both (in_range lo hi b)
    (λ e. let r = in_range_lem lo hi b e in rw e (λ m w. (m, here lo hi b m r.0 r.1, rest_tails n m w)))
    (λ e. rw e (no (Rest (suc n) lo hi) b))

sound : (d : Due) (l : List ℕ) → utf8_from d l ≡ true → Lead (After d) l []
unfolding utf8_from next
sound d (b ∷ s) e = later-takes d.count d.lo d.hi b s (sound (next d b) s e)
sound d [] e = rw (eqb-true d.count 0 e) over

-- ---- every character of the grammar is taken

goes : (n lo hi : ℕ) (l m : List ℕ) → Byte lo hi l m → utf8_from (due (suc n) lo hi) l ≡ utf8_from (due n 0x80 0xBF) m
unfolding utf8_from next later
goes n lo hi l m (b, h, k, e) = rw (e, le-leb lo b h, le-leb b hi k)

begins : (b : ℕ) (d : Due) (l m : List ℕ) → l ≡ b ∷ m → first b ≡ d → utf8_from ready l ≡ utf8_from d m
unfolding utf8_from next later
begins b d l m e f = rw (e, f)

module _ (b lo hi : ℕ) (l l1 l2 : List ℕ) (e : l ≡ b ∷ l1) (p : low b ≡ lo) (q : high b ≡ hi) (w : Byte lo hi l1 l2) where
  goes-three : (m : List ℕ) → 0xDF < b → b ≤ 0xEF → Lead UTF8-tail l2 m → utf8_from ready l ≡ utf8_from ready m
  goes-three m h k t = begins b (due 2 lo hi) l l1 e (first_3 b h k ∙ rw (p, q)) ∙ goes 1 lo hi l1 l2 w ∙ goes 0 0x80 0xBF l2 m t

  goes-four : (l3 m : List ℕ) → 0xEF < b → b ≤ 0xF4 → Lead UTF8-tail l2 l3 → Lead UTF8-tail l3 m → utf8_from ready l ≡ utf8_from ready m
  goes-four l3 m h k t u = begins b (due 3 lo hi) l l1 e (first_4 b h k ∙ rw (p, q)) ∙ goes 2 lo hi l1 l2 w ∙ goes 1 0x80 0xBF l2 l3 t ∙ goes 0 0x80 0xBF l3 m u

char-goes : (l m : List ℕ) → Lead UTF8-char l m → utf8_from ready l ≡ utf8_from ready m
char-goes l m (inl (b, h, k, e)) = begins b ready l m e (first_1 b k)
char-goes l m (inr (inl (l1, (b, h, k, e), t))) = begins b (due 1 0x80 0xBF) l l1 e (first_2 b (omega arith) k) ∙ goes 0 0x80 0xBF l1 m t
char-goes l m (inr (inr (inl w))) = go w
  where
    go : Lead UTF8-3 l m → utf8_from ready l ≡ utf8_from ready m
    go (inl (l1, (b, h, k, e), (l2, w, t))) = goes-three b 0xA0 0xBF l l1 l2 e (low_e0 b (omega arith)) (high-other b (λ x. omega arith) (λ x. omega arith)) w m (omega arith) (omega arith) t
    go (inr (inl (l1, (b, h, k, e), (l2, w, t)))) = goes-three b 0x80 0xBF l l1 l2 e (low-other b (λ x. omega arith) (λ x. omega arith)) (high-other b (λ x. omega arith) (λ x. omega arith)) w m (omega arith) (omega arith) t
    go (inr (inr (inl (l1, (b, h, k, e), (l2, w, t))))) = goes-three b 0x80 0x9F l l1 l2 e (low-other b (λ x. omega arith) (λ x. omega arith)) (high_ed b (omega arith)) w m (omega arith) (omega arith) t
    go (inr (inr (inr (l1, (b, h, k, e), (l2, w, t))))) = goes-three b 0x80 0xBF l l1 l2 e (low-other b (λ x. omega arith) (λ x. omega arith)) (high-other b (λ x. omega arith) (λ x. omega arith)) w m (omega arith) (omega arith) t
char-goes l m (inr (inr (inr w))) = go w
  where
    go : Lead UTF8-4 l m → utf8_from ready l ≡ utf8_from ready m
    go (inl (l1, (b, h, k, e), (l2, w, (l3, t, u)))) = goes-four b 0x90 0xBF l l1 l2 e (low_f0 b (omega arith)) (high-other b (λ x. omega arith) (λ x. omega arith)) w l3 m (omega arith) (omega arith) t u
    go (inr (inl (l1, (b, h, k, e), (l2, w, (l3, t, u))))) = goes-four b 0x80 0xBF l l1 l2 e (low-other b (λ x. omega arith) (λ x. omega arith)) (high-other b (λ x. omega arith) (λ x. omega arith)) w l3 m (omega arith) (omega arith) t u
    go (inr (inr (l1, (b, h, k, e), (l2, w, (l3, t, u))))) = goes-four b 0x80 0x8F l l1 l2 e (low-other b (λ x. omega arith) (λ x. omega arith)) (high_f4 b (omega arith)) w l3 m (omega arith) (omega arith) t u

chars_go : {l m : List ℕ} → Many (Lead UTF8-char) l m → utf8_from ready l ≡ utf8_from ready m
chars_go over = refl
chars_go {l} (again {m = k} c t) = char-goes l k c ∙ chars_go t

reads_is : (s : List ℕ) → (utf8_from ready s ≡ true) ↔ (s ∈ UTF8-octets)
unfolding utf8_from
reads_is s = (λ e. lead-whole no_rules 0 UTF8-octets (sound ready s e), λ w. chars_go (whole-lead no_rules 0 UTF8-octets w))

pub utf8_contract : (r : Bool) (s : List ℕ) → r ≡ utf8_from ready s → (r ≡ true) ↔ (s ∈ UTF8-octets)
utf8_contract r s e = (λ p. (reads_is s).0 (sym e ∙ p), λ w. e ∙ (reads_is s).1 w)

-- ---- the grammar's own test

pub is_utf8_is : (s : List ℕ) → (is_utf8 s ≡ true) ↔ (s ∈ UTF8-octets)
unfolding is_utf8
is_utf8_is s = accepts_is UTF8-octets s

-- an answer that decides the grammar is the test's
pub utf8-answer : (r : Bool) (s : List ℕ) → (r ≡ true) ↔ (s ∈ UTF8-octets) → r ≡ is_utf8 s
utf8-answer true s h = sym ((is_utf8_is s).1 (h.0 refl))
utf8-answer false s h = both (is_utf8 s) (λ e. absurd (false≢true (h.1 ((is_utf8_is s).0 e)))) (λ e. sym e)
