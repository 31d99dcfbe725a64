-- Laws of strings.
use Rattle.std.specs.Prelude.{Err, Ok, Result}
use Rattle.std.specs.List.{list_any}
use Prim.Native.Nat.{ℕ, zero, suc, ◌+◌, ◌-◌, ◌≤◌, ◌<◌}
use native.Mathlib.Numerals.{add-one}
use native.Mathlib.Omega.{arith}
use mathlib.Core.Path.{◌≡◌, refl, sym, ap, subst, ◌∙◌}
use mathlib.Core.List.{List, [], ◌∷◌}
use mathlib.Core.Logic.{◌⊎◌, inl, inr}
use mathlib.Core.Bool.{Bool, true, false, not, ◌&&◌, true≢false}
use lib.ListN.{length, get_or, take, drop, length-drop, drop_of_length-le}
use lib.Dec.{eqb, leb}
use lib.Seq.{drop-cons, get_or-drop, get_or-take, length-take-le}
use borrow.Author.Tests.{ne_eqb, eq-eqb, le-leb, leb-true, eqb-false, not-true}
use Rattle.abnf.specs.Accepts.{in_range}
use Rattle.abnf.proofs.Steps.{in_range_lem}
use Rattle.json_text.specs.Bytes.{byte, Scanned}
use Rattle.json_text.specs.Strings.{is_hex, is_escape, plain_step, escape_step, hex_step, text_step, text, string_at, raw_bytes, is_plain}
use Rattle.json_text.specs.Parts.{stands_for_itself, EachPlain, Run, RunOver, Escaped}
use Rattle.json_text.specs.declared.string.State.{State}
use Rattle.json_text.specs.declared.string.State.TheVariants.{Plain, Escape, Hex4, Hex3, Hex2, Hex1}
use Rattle.json_text.specs.declared.string.Move.{Move}
use Rattle.json_text.specs.declared.string.Move.TheVariants.{Go, Shut, Stuck}
use Rattle.json_text.proofs.Bytes.{split, both, byte_in, byte_out, inside=}

pub escape-plain : (b : ℕ) → (b ≡ 117 → ⊥) → is_escape b ≡ true → Go Plain ≡ escape_step b
unfolding escape_step
escape-plain b f e = rw (ne_eqb b 117 f, escape_step) (rw e)

pub escape_stuck : (b : ℕ) → (b ≡ 117 → ⊥) → is_escape b ≡ false → Stuck ≡ escape_step b
unfolding escape_step
escape_stuck b f e = rw (ne_eqb b 117 f, escape_step) (rw e)

pub plain-plain : (b : ℕ) → (b ≡ 34 → ⊥) → (b ≡ 92 → ⊥) → in_range 32 255 b ≡ true → Go Plain ≡ plain_step b
unfolding plain_step
plain-plain b f g e = rw (ne_eqb b 34 f, plain_step) (rw (ne_eqb b 92 g) (rw e))

pub plain_stuck : (b : ℕ) → (b ≡ 34 → ⊥) → (b ≡ 92 → ⊥) → in_range 32 255 b ≡ false → Stuck ≡ plain_step b
unfolding plain_step
plain_stuck b f g e = rw (ne_eqb b 34 f, plain_step) (rw (ne_eqb b 92 g) (rw e))

pub hex_go : (t : State) (b : ℕ) → is_hex b ≡ true → Go t ≡ hex_step t b
unfolding hex_step
hex_go t b e = rw (e, hex_step)

pub hex_stuck : (t : State) (b : ℕ) → is_hex b ≡ false → Stuck ≡ hex_step t b
unfolding hex_step
hex_stuck t b e = rw (e, hex_step)

-- past the end every state is stuck
pub past : (t : State) → text_step t 256 ≡ Stuck
unfolding text_step plain_step escape_step hex_step is_hex is_escape
past Plain = refl
past Escape = refl
past Hex4 = refl
past Hex3 = refl
past Hex2 = refl
past Hex1 = refl

-- what moves lies inside
pub text-inside : (t : State) (s : List ℕ) (at : ℕ) → (text_step t (byte s at) ≡ Stuck → ⊥) → at < length s
text-inside t s at f = split (length s) at (λ h. absurd (f (ap (text_step t) (byte_out s at h) ∙ past t))) (λ h. h)

pub go-inside : (t u : State) (s : List ℕ) (at : ℕ) → text_step t (byte s at) ≡ Go u → at < length s
go-inside t u s at e = text-inside t s at (λ q. let z : ◌≡◌ {A = ℕ} 0 1 = cc in omega arith)

pub shut-inside : (t : State) (s : List ℕ) (at : ℕ) → text_step t (byte s at) ≡ Shut → at < length s
shut-inside t s at e = text-inside t s at (λ q. let z : ◌≡◌ {A = ℕ} 0 1 = cc in omega arith)

pub text_go : (t u : State) (s : List ℕ) (at : ℕ) → text_step t (byte s at) ≡ Go u → text t (drop at s) at ≡ text u (drop (at + 1) s) (at + 1)
unfolding text byte
text_go t u s at e = rw (drop-cons s at 256 (go-inside t u s at e)) (rw (e, text) (rw (add-one at)))

pub text-shut : (t : State) (s : List ℕ) (at : ℕ) → text_step t (byte s at) ≡ Shut → text t (drop at s) at ≡ Ok (at + 1)
unfolding text byte
text-shut t s at e = rw (drop-cons s at 256 (shut-inside t s at e)) (rw (e, text))

pub text_stuck : (t : State) (s : List ℕ) (at : ℕ) → text_step t (byte s at) ≡ Stuck → text t (drop at s) at ≡ Err at
unfolding text byte
text_stuck t s at e = split (length s) at (λ h. rw (drop_of_length-le s h)) (λ h. rw (drop-cons s at 256 h) (rw (e, text)))

-- ---- a byte that stands for itself

pub ne_lt : {a b : ℕ} → a ≤ b → (a ≡ b → ⊥) → a < b
ne_lt {a} {b} h f = split b a (λ k. absurd (f (omega arith))) (λ k. k)

plain_byte : (b : ℕ) → 32 ≤ b → b < 256 → (b ≡ 34 → ⊥) → (b ≡ 92 → ⊥) → plain_step b ≡ Go Plain
plain_byte b h l f g = sym (plain-plain b f g (in_range_lem 32 255 b h (omega arith)))

and_left : (a b : Bool) → a && b ≡ true → a ≡ true
and_left true b e = refl
and_left false b e = e

and_right : (a b : Bool) → a && b ≡ true → b ≡ true
and_right true b e = e
and_right false b e = absurd (true≢false (sym e))

pub plain_yes : (b : ℕ) → b < 256 → (leb 32 b && not (eqb b 34)) && not (eqb b 92) ≡ true → plain_step b ≡ Go Plain
plain_yes b l e =
    let f = and_left _ (not (eqb b 92)) e in
    plain_byte b (leb-true 32 b (and_left _ (not (eqb b 34)) f)) l (eqb-false b 34 (not-true _ (and_right (leb 32 b) _ f))) (eqb-false b 92 (not-true _ (and_right (leb 32 b && not (eqb b 34)) _ e)))

module _ (b : ℕ) where
  stands : in_range 32 255 b ≡ true → (b ≡ 34 → ⊥) → (b ≡ 92 → ⊥) → true ≡ stands_for_itself b
  unfolding stands_for_itself
  stands r f g = rw (r, ne_eqb b 34 f, ne_eqb b 92 g)

  pub stands_yes : 32 ≤ b → b < 256 → (b ≡ 34 → ⊥) → (b ≡ 92 → ⊥) → true ≡ stands_for_itself b
  stands_yes h l f g = stands (in_range_lem 32 255 b h (omega arith)) f g

  pub stands-quote : b ≡ 34 → false ≡ stands_for_itself b
  unfolding stands_for_itself
  stands-quote e = rw e

  pub stands-backslash : b ≡ 92 → false ≡ stands_for_itself b
  unfolding stands_for_itself
  stands-backslash e = rw e

  pub stands-low : b < 34 → leb 32 b ≡ stands_for_itself b
  unfolding stands_for_itself
  stands-low h = both (leb 32 b) (λ e. rw (e, le-leb b 255 (omega arith), ne_eqb b 34 (λ q. omega arith), ne_eqb b 92 (λ q. omega arith))) (λ e. rw e)

  plain-none : plain_step b ≡ Go Plain → b ≡ 92 → ⊥
  unfolding plain_step
  plain-none e q = let f : plain_step b ≡ Go Escape = rw q in let z : ◌≡◌ {A = ℕ} 0 1 = cc in omega arith

  pub plain_of : stands_for_itself b ≡ true → plain_step b ≡ Go Plain
  unfolding stands_for_itself
  plain_of e =
      let g = and_right (in_range 32 255 b) _ e in
      sym (plain-plain b (eqb-false b 34 (not-true _ (and_left (not (eqb b 34)) _ g))) (eqb-false b 92 (not-true _ (and_right (not (eqb b 34)) _ g))) (and_left (in_range 32 255 b) _ e))

  over_stuck : stands_for_itself b ≡ false → (b ≡ 34 → ⊥) → (b ≡ 92 → ⊥) → plain_step b ≡ Stuck
  over_stuck e f g = both (in_range 32 255 b) (λ r. absurd (true≢false (stands r f g ∙ e))) (λ r. sym (plain_stuck b f g r))

pub over-end : (s : List ℕ) (i : ℕ) → length s ≤ i → stands_for_itself (byte s i) ≡ false
unfolding stands_for_itself
over-end s i h = rw (byte_out s i h)

-- ---- runs of such bytes

pub run_none : (s : List ℕ) (i : ℕ) → i ≤ length s → Run s i i
run_none s i h = record { from = omega arith; to = h; plain = λ k a l. absurd (omega arith); same = refl }

pub run_then : {s : List ℕ} {i j k : ℕ} → Run s i j → Run s j k → Run s i k
run_then {s} {i} {j} v w = record { from = omega (arith, v.from, w.from); to = w.to; plain = λ k a l. split j k (λ h. w.plain k h l) (λ h. v.plain k a h); same = w.same ∙ v.same }

pub run_to : {s : List ℕ} {i j k : ℕ} → j ≡ k → Run s i j → Run s i k
run_to {s} {i} e v = subst (Run s i) e v

pub run-one : (s : List ℕ) (i j b : ℕ) → i + 1 ≡ j → i < length s → b ≡ get_or s i 0 → plain_step b ≡ Go Plain → Run s i j
unfolding text_step
run-one s i j b q h p e = run_to q (record { from = omega arith; to = omega arith; plain = λ k a l y. let z : k ≡ i = omega arith in plain-none b e (p ∙ byte_in s i h ∙ sym (ap (byte s) z) ∙ y); same = sym (text_go Plain Plain s i (ap plain_step (sym (p ∙ byte_in s i h)) ∙ e)) })

-- ---- a block of them

run-first : (s : List ℕ) (i n : ℕ) → i + n ≤ length s → ((k : ℕ) → k < n → plain_step (get_or s (i + k) 0) ≡ Go Plain) → Run s i (i + n)
run-first s i zero h f = run_to (omega arith) (run_none s i (omega arith))
run-first s i (suc n) h f = run_then (run-first s i n (omega arith) (λ k l. f k (omega arith))) (run-one s (i + n) (i + suc n) _ (omega arith) (omega arith) refl (f n (omega arith)))

pub run-block : (s : List ℕ) (i n : ℕ) → n ≡ 8 → i + 8 ≤ length s → EachPlain (take n (drop i s)) (length (take n (drop i s))) → Run s i (i + 8)
run-block s i n q h v =
    let d = length-drop i s in
    let l = length-take-le n (drop i s) (omega arith) in
    run-first s i 8 h (λ k m. ap plain_step (sym (get_or-drop i s k 0) ∙ sym (get_or-take n (drop i s) k 0 (omega arith))) ∙ v.each k (omega arith))

pub run-over : {s : List ℕ} {at i b : ℕ} → Run s at i → i < length s → b ≡ get_or s i 0 → stands_for_itself b ≡ false → RunOver s at i
run-over {s} {at} {i} v h p e = record { run = v; over = ap stands_for_itself (sym (p ∙ byte_in s i h)) ∙ e }

pub run_end : {s : List ℕ} {at i : ℕ} → Run s at i → length s ≤ i → RunOver s at (length s)
run_end {s} {at} {i} v h = record { run = run_to (omega (arith, v.to)) v; over = over-end s (length s) (omega arith) }

-- ---- escapes

-- only a plain state is shut
not-shut : {A : Type 0} {m : Move} {u : State} → m ≡ Shut → (m ≡ Go u) ⊎ (m ≡ Stuck) → A
not-shut e (inl q) = let z : ◌≡◌ {A = ℕ} 0 1 = cc in absurd (omega arith)
not-shut e (inr q) = let z : ◌≡◌ {A = ℕ} 0 1 = cc in absurd (omega arith)

hex-shut : {A : Type 0} (t : State) (b : ℕ) → hex_step t b ≡ Shut → A
hex-shut t b e = both (is_hex b) (λ h. not-shut e (inl (sym (hex_go t b h)))) (λ h. not-shut {u = t} e (inr (sym (hex_stuck t b h))))

escape-shut : {A : Type 0} (b : ℕ) → escape_step b ≡ Shut → A
unfolding escape_step
escape-shut b e = both (eqb b 117)
    (λ q. let f : escape_step b ≡ Go Hex4 = rw (q, escape_step) in not-shut e (inl f))
    (λ q. both (is_escape b) (λ h. not-shut e (inl (sym (escape-plain b (eqb-false b 117 q) h)))) (λ h. not-shut {u = Plain} e (inr (sym (escape_stuck b (eqb-false b 117 q) h)))))

shut-plain : (t : State) (b : ℕ) → text_step t b ≡ Shut → t ≡ Plain
unfolding text_step
shut-plain Plain b e = refl
shut-plain Escape b e = escape-shut b e
shut-plain Hex4 b e = hex-shut Hex3 b e
shut-plain Hex3 b e = hex-shut Hex2 b e
shut-plain Hex2 b e = hex-shut Hex1 b e
shut-plain Hex1 b e = hex-shut Plain b e

-- the loop over an escape has come to i, in state t
pub record Escaping (s : List ℕ) (at : ℕ) (t : State) (i : ℕ) : Type 0 where
  pub from : at ≤ i
  pub to : i ≤ length s
  pub within : t ≡ Plain → ⊥
  pub same : text t (drop i s) i ≡ text Escape (drop at s) at

module _ {s : List ℕ} {at : ℕ} {t : State} {i : ℕ} (v : Escaping s at t i) where
  -- no byte is left
  pub escape-out : length s ≤ i → Escaped s at (Err (length s))
  unfolding text
  escape-out h =
      let e : i ≡ length s = omega (arith, v.to) in
      record { ends = (omega (arith, v.from), omega arith, ap Err (sym e) ∙ sym (ap (λ (l : List ℕ). text t l i) (drop_of_length-le s h)) ∙ v.same) }

module _ {s : List ℕ} {at : ℕ} {t : State} {i : ℕ} (v : Escaping s at t i) (h : i < length s) {b : ℕ} (p : b ≡ get_or s i 0) {m : Move} (q : m ≡ text_step t b) where
  now-step : {n : Move} → m ≡ n → text_step t (byte s i) ≡ n
  now-step e = ap (text_step t) (sym (p ∙ byte_in s i h)) ∙ sym q ∙ e

  pub escape-over : {u : State} → m ≡ Go u → u ≡ Plain → Escaped s at (Ok (i + 1))
  escape-over {u} e x = record { ends = (omega (arith, v.from), omega arith, sym (text_go t Plain s i (now-step e ∙ ap Go x)) ∙ v.same) }

  pub escape_on : {u : State} → m ≡ Go u → (u ≡ Plain → ⊥) → Escaping s at u (i + 1)
  escape_on {u} e f = record { from = omega (arith, v.from); to = omega arith; within = f; same = sym (text_go t u s i (now-step e)) ∙ v.same }

  escape_stops : m ≡ Stuck → Escaped s at (Err i)
  escape_stops e = record { ends = (v.from, v.to, sym (text_stuck t s i (now-step e)) ∙ v.same) }

  -- no escape is shut
  pub escape_halts : (m ≡ Shut) ⊎ (m ≡ Stuck) → Escaped s at (Err i)
  escape_halts (inl e) = absurd (v.within (shut-plain t b (sym q ∙ e)))
  escape_halts (inr e) = escape_stops e

-- ---- whether bytes have a backslash among them

none-plain : (l : List ℕ) (n : ℕ) → ((i : ℕ) → i < n → get_or l i 256 ≡ 92 → ⊥) → is_plain (take n l) ≡ true
unfolding is_plain
none-plain l zero f = refl
none-plain [] (suc n) f = refl
none-plain (b ∷ l) (suc n) f = rw (ne_eqb b 92 (f 0 (omega arith)), is_plain) (none-plain l n (λ i h. f (suc i) (omega arith)))

-- bytes none of which is a backslash
pub plain-between : (s : List ℕ) (a n : ℕ) → ((k : ℕ) → a ≤ k → k < a + n → byte s k ≡ 92 → ⊥) → is_plain (take n (drop a s)) ≡ true
unfolding byte
plain-between s a n f = none-plain (drop a s) n (λ i h e. f (a + i) (omega arith) (omega arith) (sym (get_or-drop a s i 256) ∙ e))

-- as the library tests it
pub contains-backslash : (s : List ℕ) → not (list_any (λ b. eqb b 92) s) ≡ is_plain s
unfolding is_plain
contains-backslash [] = refl
contains-backslash (b ∷ s) = both (eqb b 92) (λ q. rw (q, is_plain)) (λ q. rw (q, is_plain) (contains-backslash s))

-- ---- the string at `at` has two quotes

module _ (b : ℕ) (bs : List ℕ) (at e : ℕ) (later : (u : State) → text u bs (at + 1) ≡ Ok e → at + 1 < e) where
  text-step-past : (t : State) (m : Move) → text_step t b ≡ m → text t (b ∷ bs) at ≡ Ok e → at < e
  unfolding text
  text-step-past t (Go u) q p = let h = later u (sym (rw (q, text)) ∙ p) in omega arith
  text-step-past t Shut q p = let h : ◌≡◌ {A = Result ℕ ℕ} (Ok (at + 1)) (Ok e) = sym (rw (q, text)) ∙ p in let z : at + 1 ≡ e = cc in omega arith
  text-step-past t Stuck q p = let h : ◌≡◌ {A = Result ℕ ℕ} (Err at) (Ok e) = sym (rw (q, text)) ∙ p in let z : ◌≡◌ {A = ℕ} 0 1 = cc in absurd (omega arith)

text-past : (t : State) (l : List ℕ) (at e : ℕ) → text t l at ≡ Ok e → at < e
unfolding text
text-past t [] at e p = let h : ◌≡◌ {A = Result ℕ ℕ} (Err at) (Ok e) = p in let z : ◌≡◌ {A = ℕ} 0 1 = cc in absurd (omega arith)
text-past t (b ∷ l) at e p = text-step-past b l at e (λ u q. text-past u l (at + 1) e q) t (text_step t b) refl p

pub two-quotes : (s : List ℕ) (at e : ℕ) → string_at s at ≡ Ok e → at + 1 < e
unfolding string_at
two-quotes s at e p = both (eqb (byte s at) 34)
    (λ q. text-past Plain (drop (at + 1) s) (at + 1) e (sym (rw (q, string_at)) ∙ p))
    (λ q. let h : ◌≡◌ {A = Result ℕ ℕ} (Err at) (Ok e) = sym (rw (q, string_at)) ∙ p in let z : ◌≡◌ {A = ℕ} 0 1 = cc in absurd (omega arith))

-- ---- the loop over the runs of a string that begins at `at` has come to i
pub record Reading (s : List ℕ) (at i : ℕ) : Type 0 where
  pub past : at < i
  pub to : i ≤ length s
  pub same : text Plain (drop i s) i ≡ string_at s at

-- ---- the bytes between its quotes

raw-end : (s : List ℕ) (at : ℕ) {e : ℕ} → string_at s at ≡ Ok e → raw_bytes s at ≡ take ((e - 1) - (at + 1)) (drop (at + 1) s)
unfolding raw_bytes
raw-end s at q = rw (q, raw_bytes)

raw-bad : (s : List ℕ) (at : ℕ) {e : ℕ} → string_at s at ≡ Err e → is_plain (raw_bytes s at) ≡ true
unfolding raw_bytes is_plain
raw-bad s at q = rw (q, raw_bytes)

module _ (s : List ℕ) (at : ℕ) {e : ℕ} {r : Result ℕ ℕ} (w : Scanned (string_at s at) at (length s) r) where
  pub raw-none : r ≡ Err e → true ≡ is_plain (raw_bytes s at)
  raw-none q = sym (raw-bad s at (sym w.is ∙ q))

  pub raw-some : {b : Bool} → r ≡ Ok e → b ≡ is_plain (take ((e - 1) - (at + 1)) (drop (at + 1) s)) → b ≡ is_plain (raw_bytes s at)
  raw-some q p = p ∙ sym (ap is_plain (raw-end s at (sym w.is ∙ q)))

-- ---- a turn of the loop

module _ (s : List ℕ) (at : ℕ) {b : ℕ} (p : b ≡ byte s at) where
  pub string-not : (b ≡ 34 → ⊥) → Scanned (string_at s at) at (length s) (Err at)
  unfolding string_at
  string-not f = record { is = rw (ne_eqb (byte s at) 34 (λ q. f (p ∙ q)), string_at); lies = (omega arith, omega arith) }

  pub string-inside : b ≡ 34 → at < length s
  string-inside q = inside= s at 34 (sym p ∙ q) (omega arith)

  pub string-start : b ≡ 34 → Reading s at (at + 1)
  unfolding string_at
  string-start q = let h = string-inside q in record { past = omega arith; to = omega arith; same = sym (rw (eq-eqb (byte s at) 34 (sym p ∙ q), string_at)) }

module _ {s : List ℕ} {at i j : ℕ} (v : Reading s at i) (o : RunOver s i j) {b : ℕ} (p : b ≡ byte s j) where
  pub special-inside : (k : ℕ) → b ≡ k → k < 256 → j < length s
  special-inside k e h = inside= s j k (sym p ∙ e) h

  pub string-shut : b ≡ 34 → Scanned (string_at s at) at (length s) (Ok (j + 1))
  unfolding text_step plain_step
  string-shut e =
      let h = special-inside 34 e (omega arith) in
      let f = o.run.from in
      record { is = sym (text-shut Plain s j (rw (sym p ∙ e))) ∙ o.run.same ∙ v.same; lies = (omega arith, omega arith) }

  -- of one run, which has no backslash
  pub string-plain : i ≡ at + 1 → b ≡ 34 → is_plain (raw_bytes s at) ≡ true
  string-plain z e = sym (raw-some s at (string-shut e) refl (sym (plain-between s (at + 1) ((j + 1 - 1) - (at + 1)) (λ k a l. o.run.plain k (omega arith) (omega arith)))))

  pub string_stuck : (b ≡ 34 → ⊥) → (b ≡ 92 → ⊥) → Scanned (string_at s at) at (length s) (Err j)
  unfolding text_step
  string_stuck f g =
      let h = o.run.from in
      let l = o.run.to in
      record { is = sym (text_stuck Plain s j (over_stuck (byte s j) o.over (λ e. f (p ∙ e)) (λ e. g (p ∙ e)))) ∙ o.run.same ∙ v.same; lies = (omega arith, omega arith) }

  module _ (e : b ≡ 92) where
    backslash : text Plain (drop j s) j ≡ text Escape (drop (j + 1) s) (j + 1)
    unfolding text_step plain_step
    backslash = text_go Plain Escape s j (rw (sym p ∙ e))

    pub string-bad : {k : ℕ} → Escaped s (j + 1) (Err k) → Scanned (string_at s at) at (length s) (Err k)
    string-bad x =
        let h = o.run.from in
        let l = x.ends.0 in
        let m = x.ends.1 in
        record { is = x.ends.2 ∙ sym backslash ∙ o.run.same ∙ v.same; lies = (omega arith, omega arith) }

    pub string_on : {k : ℕ} → Escaped s (j + 1) (Ok k) → Reading s at k
    string_on x =
        let h = o.run.from in
        let l = x.ends.0 in
        record { past = omega arith; to = x.ends.1; same = x.ends.2 ∙ sym backslash ∙ o.run.same ∙ v.same }
