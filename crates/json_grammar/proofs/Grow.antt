-- Bytes above 7F put in after such bytes: a JSON text stays one.
use Prim.Native.Nat.{ℕ, ◌<◌}
use native.Mathlib.Omega.{arith}
use mathlib.Core.Path.{◌≡◌, refl, sym, ap, ◌∙◌, subst}
use mathlib.Core.Logic.{◌⊎◌, inl, inr}
use mathlib.Core.List.{List, [], ◌∷◌, ◌++◌, append_assoc, append-nil}
use mathlib.Core.Bool.{Bool, true, false}
use lib.Dec.{leb}
use borrow.Author.Tests.{lt-leb}
use Rattle.abnf.specs.Abnf.{◌–◌, ε, ◌·◌, ◌//◌, ∗◌, rule, Words, byte, nothing, join, left, right, none, more, named}
use Rattle.text.proofs.Utf8Place.{AllHigh, ends_high, HighAfter}
use Rattle.json_grammar.specs.Rfc8259 as G
use Rattle.json_grammar.proofs.Depth.{Json}

-- `z` is `l` with such bytes put in; they may stand in front if `f`
abbrev pub Grow : Bool → List ℕ → List ℕ → Type 0
Grow f [] z = HighAfter f z
Grow f (b ∷ l) z = (h : List ℕ) × (m : List ℕ) × HighAfter f h × (z ≡ h ++ (b ∷ m)) × Grow (leb 128 b) l m

tail_none : (f : Bool) → HighAfter f []
tail_none true = tt
tail_none false = refl

grow-same : (l : List ℕ) (f : Bool) → Grow f l l
grow-same [] f = tail_none f
grow-same (b ∷ l) f = ([], l, tail_none f, refl, grow-same l (leb 128 b))

grow-front : (u : List ℕ) (f : Bool) (t : List ℕ) → HighAfter f t → Grow f u (t ++ u)
grow-front [] f t h = subst (HighAfter f) (sym (append-nil t)) h
grow-front (b ∷ u) f t h = (t, u, h, refl, grow-same u (leb 128 b))

pub grow_in : (s : List ℕ) (f : Bool) (t u : List ℕ) → HighAfter (ends_high f s) t → Grow f (s ++ u) (s ++ (t ++ u))
grow_in [] f t u h = grow-front u f t h
grow_in (b ∷ s) f t u h = ([], s ++ (t ++ u), tail_none f, refl, grow_in s (leb 128 b) t u h)

-- what two words grow to is what each grows to
record Parts (f : Bool) (k l z : List ℕ) : Type 0 where
  fst : List ℕ
  snd : List ℕ
  cut : z ≡ fst ++ snd
  one : Grow f k fst
  two : Grow false l snd

parts_none : (l : List ℕ) (f : Bool) (z : List ℕ) → Grow f l z → Parts f [] l z
parts_none [] f z g = record { fst = z; snd = []; cut = sym (append-nil z); one = g; two = refl }
parts_none (b ∷ l) f z (h, m, t, e, g) = record { fst = h; snd = b ∷ m; cut = e; one = t; two = ([], m, refl, refl, g) }

parts : (k l : List ℕ) (f : Bool) (z : List ℕ) → Grow f (k ++ l) z → Parts f k l z
parts [] l f z g = parts_none l f z g
parts (b ∷ k) l f z (h, m, t, e, g) = let p = parts k l (leb 128 b) m g in
    record { fst = h ++ (b ∷ p.fst); snd = p.snd; cut = e ∙ ap (λ (n : List ℕ). h ++ (b ∷ n)) p.cut ∙ sym (append_assoc h (b ∷ p.fst) p.snd); one = (h, p.fst, t, refl, p.one); two = p.two }

-- a grammar whose bytes are ASCII but in repetitions that growing does not leave
abbrev Word : ℕ → Json → List ℕ → Type 0
Word d a w = Words G.rules d a w

abbrev Repeats : Json → Type 0
Repeats a = (d : ℕ) (w z : List ℕ) → Word d a w → Grow false w z → Word d (∗ a) z

-- R: the named rules that are so
abbrev Safe : (G.Name → Type 0) → Json → Type 0
Safe R (lo – hi) = hi < 128
Safe R ε = Unit {0}
Safe R (a · b) = Safe R a × Safe R b
Safe R (a // b) = Safe R a × Safe R b
Safe R (∗ a) = Safe R a ⊎ Repeats a
Safe R (rule n) = R n

star-join : {d : ℕ} {a : Json} {k l : List ℕ} → Word d (∗ a) k → Word d (∗ a) l → Word d (∗ a) (k ++ l)
star-join none q = q
star-join {l = l} (more {x = v} {y = w} p r) q = rw (append_assoc v w l) (more p (star-join r q))

-- one ASCII byte stays alone
grow-ascii : (b : ℕ) (z : List ℕ) → b < 128 → Grow false (b ∷ []) z → z ≡ b ∷ []
grow-ascii b z h (k, m, t, e, g) = let n : m ≡ [] = (rw (lt-leb 128 b h) at g) in cc

module _ (R : G.Name → Type 0) (safe : (n : G.Name) → R n → Safe R (G.rules n)) where
  grows_by : {d : ℕ} {a : Json} {w : List ℕ} → Word d a w → Safe R a → (z : List ℕ) → Grow false w z → Word d a z
  grows_by {d} (byte {lo = lo} {hi = hi} {b = b} h k) s z g = subst (Word d (lo – hi)) (sym (grow-ascii b z (omega arith) g)) (byte h k)
  grows_by {d} nothing s z g = subst (Word d ε) (sym g) nothing
  grows_by {d} (join {a = a} {b = b} {x = v} {y = w} p q) s z g = let r = parts v w false z g in
      subst (Word d (a · b)) (sym r.cut) (join (grows_by p s.0 r.fst r.one) (grows_by q s.1 r.snd r.two))
  grows_by (left p) s z g = left (grows_by p s.0 z g)
  grows_by (right p) s z g = right (grows_by p s.1 z g)
  grows_by {d} (none {a = a}) s z g = subst (Word d (∗ a)) (sym g) none
  grows_by {d} (more {a = a} {x = v} {y = w} p q) s z g = let r = parts v w false z g in
      subst (Word d (∗ a)) (sym r.cut) (go s (λ t. grows_by p t r.fst r.one) r.one (grows_by q s r.snd r.two))
    where
      go : {k l : List ℕ} → Safe R a ⊎ Repeats a → (Safe R a → Word d a k) → Grow false v k → Word d (∗ a) l → Word d (∗ a) (k ++ l)
      go (inl t) f o q = more (f t) q
      go {k} (inr t) f o q = star-join (t d v k p o) q
  grows_by (named {n = n} p) s z g = named (grows_by p (safe n s) z g)

-- bytes above 7F are characters of a string
high-chars : {d : ℕ} (z : List ℕ) → AllHigh z → Word d (∗ G.char) z
high-chars [] h = none
high-chars (b ∷ z) h = let l = h.0 in more {x = b ∷ []} (left (right (right (byte {lo = 0x5D} {hi = 0xFF} {b = b} (omega arith) h.1)))) (high-chars z h.2)

chars_after : {d : ℕ} (f : Bool) (z : List ℕ) → HighAfter f z → Word d (∗ G.char) z
chars_after {d} true z t = high-chars z t
chars_after {d} false z t = subst (Word d (∗ G.char)) (sym t) none

char_grows : (d b : ℕ) (z : List ℕ) → Word d G.char (b ∷ []) → Grow false (b ∷ []) z → Word d (∗ G.char) z
char_grows d b z w (k, m, t, e, g) = subst (Word d (∗ G.char)) (sym (e ∙ ap (λ (n : List ℕ). n ++ (b ∷ m)) t)) (more w (chars_after (leb 128 b) m g))

abbrev NoName : G.Name → Type 0
NoName n = ⊥

chars : Repeats G.char
chars d w z (left (left (byte {b = b} h k))) g = char_grows d b z (left (left (byte h k))) g
chars d w z (left (right (left (byte {b = b} h k)))) g = char_grows d b z (left (right (left (byte h k)))) g
chars d w z (left (right (right (byte {b = b} h k)))) g = char_grows d b z (left (right (right (byte h k)))) g
chars d w z (right p) g = subst (Word d (∗ G.char)) (append-nil z) (more (right (grows_by NoName (λ n r. absurd r) p (omega arith) z g)) none)

-- JSON's rules are so

abbrev EveryName : G.Name → Type 0
EveryName n = Unit {0}

abbrev Sure : Json → Type 0
Sure a = Safe EveryName a

safe-ws : Sure G.ws
safe-ws = inl (omega arith)

safe_token : (k : ℕ) → k < 128 → Sure (G.ws · (k – k) · G.ws)
safe_token k h = (safe-ws, (h, safe-ws))

safe-digits : Sure (∗ G.DIGIT)
safe-digits = inl (omega arith)

safe-number : Sure G.number
safe-number = ((omega arith, tt), ((omega arith, (omega arith, safe-digits)), (((omega arith, (omega arith, safe-digits)), tt), (((omega arith, omega arith), ((omega arith, tt), (omega arith, safe-digits))), tt))))

safe-string : Sure G.string
safe-string = (omega arith, (inr chars, omega arith))

safe-value : Sure G.value
safe-value = (omega arith, (omega arith, (omega arith, (tt, (tt, (safe-number, safe-string))))))

safe-member : Sure G.member
safe-member = (safe-string, (safe_token 0x3A (omega arith), safe-value))

safe-rules : (n : G.Name) → Unit {0} → Sure (G.rules n)
safe-rules G.Object u = (safe_token 0x7B (omega arith), (((safe-member, inl (safe_token 0x2C (omega arith), safe-member)), tt), safe_token 0x7D (omega arith)))
safe-rules G.Array u = (safe_token 0x5B (omega arith), (((safe-value, inl (safe_token 0x2C (omega arith), safe-value)), tt), safe_token 0x5D (omega arith)))

-- a JSON text with such bytes put in is one
pub json_grows : (d : ℕ) (s z : List ℕ) → G.JSON d s → Grow false s z → G.JSON d z
json_grows d s z w g = grows_by EveryName safe-rules w (safe-ws, (safe-value, safe-ws)) z g
