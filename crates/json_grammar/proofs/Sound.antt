-- What the reader accepts is in the grammar; and where it fails, what it has read can be completed.
use Rattle.std.specs.Prelude.{Err, Ok, Result}
use Prim.Native.Nat.{ℕ, zero, suc, ◌+◌, ◌≤◌, ◌<◌}
use native.Mathlib.Numerals.{add-one}
use native.Mathlib.Omega.{arith}
use mathlib.Core.Path.{◌≡◌, refl, sym, ap, ◌∙◌, subst}
use mathlib.Core.Logic.{inl, inr}
use mathlib.Core.List.{List, [], ◌∷◌}
use mathlib.Core.Bool.{Bool, true, false, ◌||◌, ◌&&◌, false≢true}
use lib.ListN.{length, drop}
use lib.Seq.{drop-cons, drop-drop, drop-length}
use lib.Dec.{eqb, leb}
use borrow.Author.Tests.{eqb-true, eqb-false, leb-true}
use Rattle.abnf.specs.Accepts.{in_range}
use Rattle.json_text.specs.Bytes.{byte, run, past, is_ws, ws, word, and_then}
use Rattle.json_text.specs.Strings.{is_hex, is_escape, plain_step, escape_step, hex_step, text_step, text, string_at}
use Rattle.json_text.specs.Number.{is_digit, digits_end, optional, is_minus, is_sign, some_digits, int_at, frac_at, is_exp, exp_at, number_at}
use Rattle.json_text.specs.Value.{Kind, bracket, brace, quote, true_word, false_word, null_word, other, kind_of, after, series, list_of, array_of, colon, key_at, member_of, object_of, value_of, value_at, at_end, document_of, opens}
use Rattle.json_text.specs.declared.string.State.{State}
use Rattle.json_text.specs.declared.string.State.TheVariants.{Plain, Escape, Hex4, Hex3, Hex2, Hex1}
use Rattle.json_text.specs.declared.string.Move.{Move}
use Rattle.json_text.specs.declared.string.Move.TheVariants.{Go, Shut, Stuck}
use Rattle.json_text.proofs.Bytes.{split, both, inside=}
use Rattle.abnf.specs.Abnf.{ε, ◌·◌, ◌–◌, ◌//◌, ∗◌, x, opt, some, lit}
use Rattle.json_grammar.specs.Rfc8259 as G
use Rattle.abnf.proofs.Lead.{Many, over, again, expand}
use Rattle.json_grammar.proofs.Depth.{Json, Lead, array_over, member_over, object_over, value, document_at, document_16}
use Rattle.text.proofs.Utf8Place.{AllAscii}
use Rattle.json_grammar.proofs.Broken.{AsciiWord, Broken, Joins, Into, some-join, some_left, some_right, some-none, some-nothing, some_byte, some-x, some-lit, behind, before, broken_into, fresh}

-- bytes at the front of a list
pub or_cases {ℓ} : {X : Type ℓ} (a b : Bool) → (a || b) ≡ true → (a ≡ true → X) → (b ≡ true → X) → X
or_cases true b e f g = f refl
or_cases false b e f g = g e

pub range_is : (lo hi b : ℕ) → in_range lo hi b ≡ true → (lo ≤ b) × (b ≤ hi)
range_is lo hi b e = go (leb lo b) refl e
  where
    go : (t : Bool) → leb lo b ≡ t → (t && leb b hi) ≡ true → (lo ≤ b) × (b ≤ hi)
    go true p q = (leb-true lo b p, leb-true b hi q)
    go false p q = absurd (false≢true q)

module _ (b : ℕ) (m : List ℕ) where
  lead-x : (k : ℕ) → eqb b k ≡ true → Lead (x k) (b ∷ m) m
  lead-x k e = let q = eqb-true b k e in (b, omega arith, omega arith, refl)

  lead_in : (lo hi : ℕ) → in_range lo hi b ≡ true → Lead (lo – hi) (b ∷ m) m
  lead_in lo hi e = let q = range_is lo hi b e in (b, q.0, q.1, refl)

  lead-ws : is_ws b ≡ true → Lead (x 0x20 // x 0x09 // x 0x0A // x 0x0D) (b ∷ m) m
  unfolding is_ws
  lead-ws e =
      or_cases _ _ e (λ p. inl (lead-x 32 p)) λ e1.
      or_cases _ _ e1 (λ p. inr (inr (inl (lead-x 10 p)))) λ e2.
      or_cases _ _ e2 (λ p. inr (inr (inr (lead-x 13 p)))) λ p. inr (inl (lead-x 9 p))

  lead_hex : is_hex b ≡ true → Lead G.HEXDIG (b ∷ m) m
  unfolding is_hex
  lead_hex e =
      or_cases _ _ e (λ p. inl (lead_in 48 57 p)) λ e1.
      or_cases _ _ e1 (λ p. inr (inl (lead_in 65 70 p))) (λ p. inr (inr (lead_in 97 102 p)))

  lead-digit : is_digit b ≡ true → Lead G.DIGIT (b ∷ m) m
  unfolding is_digit
  lead-digit e = lead_in 48 57 e

run-lead : (p : ℕ → Bool) (g : Json) → ((b : ℕ) (m : List ℕ) → p b ≡ true → Lead g (b ∷ m) m) → (l : List ℕ) → Many (Lead g) l (drop (run p l) l)
unfolding run
run-lead p g f [] = over
run-lead p g f (b ∷ bs) = let t = run-lead p g f bs in both (p b) (λ e. rw (e, run) (again (f b bs e) t)) (λ e. rw (e, run) over)

-- the rest of a string from each state
abbrev pub escaped : Json
escaped = x 0x22 // x 0x5C // x 0x2F // x 0x62 // x 0x66 // x 0x6E // x 0x72 // x 0x74 // x 0x75 · G.HEXDIG · G.HEXDIG · G.HEXDIG · G.HEXDIG

abbrev pub Rest : State → Json
Rest Plain = ∗ G.char · x 0x22
Rest Escape = escaped · ∗ G.char · x 0x22
Rest Hex4 = G.HEXDIG · G.HEXDIG · G.HEXDIG · G.HEXDIG · ∗ G.char · x 0x22
Rest Hex3 = G.HEXDIG · G.HEXDIG · G.HEXDIG · ∗ G.char · x 0x22
Rest Hex2 = G.HEXDIG · G.HEXDIG · ∗ G.char · x 0x22
Rest Hex1 = G.HEXDIG · ∗ G.char · x 0x22

some-quote : AsciiWord (x 0x22)
some-quote = some-x 34 (omega arith)

some_hex : AsciiWord G.HEXDIG
some_hex = some_left (some_byte 48 57 48 (omega arith) (omega arith) (omega arith))

some-chars : AsciiWord (∗ G.char · x 0x22)
some-chars = some-join some-none some-quote

some-rest : (t : State) → AsciiWord (Rest t)
some-rest Plain = some-chars
some-rest Escape = some-join (some_left some-quote) some-chars
some-rest Hex4 = some-join some_hex (some-join some_hex (some-join some_hex (some-join some_hex some-chars)))
some-rest Hex3 = some-join some_hex (some-join some_hex (some-join some_hex some-chars))
some-rest Hex2 = some-join some_hex (some-join some_hex some-chars)
some-rest Hex1 = some-join some_hex some-chars

some-digits : AsciiWord (some G.DIGIT)
some-digits = some-join (some_byte 48 57 48 (omega arith) (omega arith) (omega arith)) some-none

some-int : AsciiWord G.int
some-int = some_left (some-x 48 (omega arith))

some-opt : {a : Json} → AsciiWord (opt a)
some-opt = some_right some-nothing

some-tail : AsciiWord (opt G.frac · opt G.exp)
some-tail = some-join some-opt some-opt

some_number : AsciiWord G.number
some_number = some-join some-opt (some-join some-int some-tail)

some-string : AsciiWord G.string
some-string = some-join some-quote some-chars

some-value : (d : ℕ) → AsciiWord (value d)
unfolding value
some-value d = some_right (some_right (some_right (some_right (some_right (some_left some_number)))))

some-shut : (k : ℕ) → k < 128 → AsciiWord (x k · G.ws)
some-shut k h = some-join (some-x k h) some-none

some_token : (k : ℕ) → k < 128 → AsciiWord (G.ws · x k · G.ws)
some_token k h = some-join some-none (some-shut k h)

-- a move is sound
abbrev Step : State → ℕ → Move → Type 0
Step t b (Go u) = (m r : List ℕ) → Lead (Rest u) m r → Lead (Rest t) (b ∷ m) r
Step t b Shut = (m : List ℕ) → Lead (Rest t) (b ∷ m) m
Step t b Stuck = Unit {0}

more-char : (b : ℕ) (m r : List ℕ) → Lead G.unescaped (b ∷ m) m → Lead (Rest Plain) m r → Lead (Rest Plain) (b ∷ m) r
more-char b m r h t = (t.0, again (inl h) t.1, t.2)

unescape : (b : ℕ) (m : List ℕ) → (b ≡ 34 → ⊥) → (b ≡ 92 → ⊥) → in_range 32 255 b ≡ true → Lead G.unescaped (b ∷ m) m
unescape b m f g e = let q = range_is 32 255 b e in
    split b 33 (λ h. inl (b, q.0, h, refl)) λ h.
    split b 91 (λ k. inr (inl (b, omega arith, k, refl))) (λ k. inr (inr (b, omega arith, q.1, refl)))

step-plain : (b : ℕ) → Step Plain b (plain_step b)
unfolding plain_step
step-plain b = both (eqb b 34) (λ e. rw (e, plain_step) (λ m. (b ∷ m, over, lead-x b m 34 e))) λ e. rw (e, plain_step)
    (both (eqb b 92) (λ f. rw f (λ m r h. (h.2.0, again (inr (m, lead-x b m 92 f, h.1)) h.2.1, h.2.2))) λ f. rw f
    (both (in_range 32 255 b) (λ k. rw k (λ m r h. more-char b m r (unescape b m (eqb-false b 34 e) (eqb-false b 92 f) k) h)) (λ k. rw k tt)))

lead-escape : (b : ℕ) (m : List ℕ) → is_escape b ≡ true → Lead escaped (b ∷ m) m
unfolding is_escape
lead-escape b m e =
    or_cases _ _ e (λ p. inl (lead-x b m 34 p)) λ e1.
    or_cases _ _ e1 (λ p. inr (inr (inl (lead-x b m 47 p)))) λ e2.
    or_cases _ _ e2 (λ p. inr (inl (lead-x b m 92 p))) λ e3.
    or_cases _ _ e3 (λ p. inr (inr (inr (inl (lead-x b m 98 p))))) λ e4.
    or_cases _ _ e4 (λ p. inr (inr (inr (inr (inl (lead-x b m 102 p)))))) λ e5.
    or_cases _ _ e5 (λ p. inr (inr (inr (inr (inr (inl (lead-x b m 110 p))))))) λ e6.
    or_cases _ _ e6 (λ p. inr (inr (inr (inr (inr (inr (inl (lead-x b m 114 p)))))))) (λ p. inr (inr (inr (inr (inr (inr (inr (inl (lead-x b m 116 p)))))))))

step-escape : (b : ℕ) → Step Escape b (escape_step b)
unfolding escape_step
step-escape b = both (eqb b 117)
    (λ e. rw (e, escape_step) (λ m r h. let h2 = h.2 in let h3 = h2.2 in let h4 = h3.2 in
    (h4.0, inr (inr (inr (inr (inr (inr (inr (inr (m, lead-x b m 117 e, (h.0, h.1, (h2.0, h2.1, (h3.0, h3.1, h4.1))))))))))), h4.2)))
    λ e. rw (e, escape_step) (both (is_escape b) (λ f. rw f (λ m r h. (m, lead-escape b m f, h))) (λ f. rw f tt))

step_hex : (t u : State) (b : ℕ) → ((m r : List ℕ) → Lead G.HEXDIG (b ∷ m) m → Lead (Rest u) m r → Lead (Rest t) (b ∷ m) r) → Step t b (hex_step u b)
unfolding hex_step
step_hex t u b f = both (is_hex b) (λ e. rw (e, hex_step) (λ m r h. f m r (lead_hex b m e) h)) (λ e. rw (e, hex_step) tt)

step : (t : State) (b : ℕ) → Step t b (text_step t b)
unfolding text_step
step Plain b = step-plain b
step Escape b = step-escape b
step Hex4 b = step_hex Hex4 Hex3 b (λ m r d h. (m, d, h))
step Hex3 b = step_hex Hex3 Hex2 b (λ m r d h. (m, d, h))
step Hex2 b = step_hex Hex2 Hex1 b (λ m r d h. (m, d, h))
step Hex1 b = step_hex Hex1 Plain b (λ m r d h. (m, d, h))

module _ (s : List ℕ) where
  -- where a scan ended the grammar's word did; where it failed, the word breaks off
  abbrev pub SoundFrom : Json → List ℕ → Result ℕ ℕ → Type 0
  SoundFrom g l (Ok e) = Lead g l (drop e s)
  SoundFrom g l (Err e) = Broken g l (drop e s)

  abbrev pub Sound : Json → ℕ → Result ℕ ℕ → Type 0
  Sound g at r = SoundFrom g (drop at s) r

  text-sound : (t : State) (l : List ℕ) (at : ℕ) → l ≡ drop at s → SoundFrom (Rest t) l (text t l at)
  unfolding text
  text-sound t [] at e = subst (Broken (Rest t) []) e (fresh (some-rest t) [])
  text-sound t (b ∷ bs) at e =
      go (text_step t b) refl (step t b) (λ u. text-sound u bs (at + 1) tail)
    where
      tail : bs ≡ drop (at + 1) s
      tail = ap (λ (l : List ℕ). drop 1 l) e ∙ drop-drop 1 at s

      up : (u : State) → Step t b (Go u) → (r : Result ℕ ℕ) → SoundFrom (Rest u) bs r → SoundFrom (Rest t) (b ∷ bs) r
      up u f (Ok k) w = f bs (drop k s) w
      up u f (Err k) w = record { word = b ∷ w.word; rest = w.rest; cut = ap (λ (l : List ℕ). b ∷ l) w.cut; ascii = w.ascii; is = λ m. f _ m (w.is m) }

      go : (v : Move) → text_step t b ≡ v → Step t b v → ((u : State) → SoundFrom (Rest u) bs (text u bs (at + 1))) → SoundFrom (Rest t) (b ∷ bs) (text t (b ∷ bs) at)
      go (Go u) p f ih = rw (p, text) (up u f (text u bs (at + 1)) (ih u))
      go Shut p f ih = rw (p, text) (rw (← tail) (f bs))
      go Stuck p f ih = rw (p, text) (subst (Broken (Rest t) (b ∷ bs)) e (fresh (some-rest t) (b ∷ bs)))

  -- one byte
  at_byte : (at b : ℕ) → byte s at ≡ b → b < 256 → drop at s ≡ b ∷ drop (at + 1) s
  unfolding byte
  at_byte at b e h = rw (add-one at) (drop-cons s at 256 (inside= s at b e h) ∙ ap (λ (c : ℕ). c ∷ drop (suc at) s) e)

  at_x : (at k : ℕ) → eqb (byte s at) k ≡ true → k < 256 → Lead (x k) (drop at s) (drop (at + 1) s)
  at_x at k e h = (k, omega arith, omega arith, at_byte at k (eqb-true _ _ e) h)

  at_in : (at lo hi : ℕ) → lo ≤ byte s at → byte s at ≤ hi → hi < 256 → Lead (lo – hi) (drop at s) (drop (at + 1) s)
  at_in at lo hi a b h = (byte s at, a, b, at_byte at (byte s at) refl (omega arith))

  at-ws : (at : ℕ) → Lead G.ws (drop at s) (drop (ws s at) s)
  unfolding ws past
  at-ws at = rw (drop-drop (run is_ws (drop at s)) at s) at (run-lead is_ws (x 0x20 // x 0x09 // x 0x0A // x 0x0D) lead-ws (drop at s))

  at-digits : (at : ℕ) → Lead (∗ G.DIGIT) (drop at s) (drop (digits_end s at) s)
  unfolding digits_end past
  at-digits at = rw (drop-drop (run is_digit (drop at s)) at s) at (run-lead is_digit G.DIGIT lead-digit (drop at s))

  -- a scan of more, a scan after a word, two scans one after the other
  up : (a c : Json) → Into a c → (i : ℕ) (q : Result ℕ ℕ) → Sound a i q → Sound c i q
  up a c f i (Ok e) w = f (drop i s) (drop e s) w
  up a c f i (Err e) w = broken_into a c f w

  past_word : (a b c : Json) → Joins a b c → (i k : ℕ) → Lead a (drop i s) (drop k s) → (q : Result ℕ ℕ) → Sound b k q → Sound c i q
  past_word a b c j i k w (Ok e) v = j (drop i s) (drop k s) (drop e s) w v
  past_word a b c j i k w (Err e) v = behind a b c j w v

  seq : (a b c : Json) → Joins a b c → AsciiWord b → (i : ℕ) (q : Result ℕ ℕ) (k : ℕ → Result ℕ ℕ) → Sound a i q → ((e : ℕ) → Sound b e (k e)) → Sound c i (and_then q k)
  unfolding and_then
  seq a b c j p i (Ok e) k w f = past_word a b c j i e w (k e) (f e)
  seq a b c j p i (Err e) k w f = before a b c j w p

  string-sound : (at : ℕ) → Sound G.string at (string_at s at)
  unfolding string_at
  string-sound at = both (eqb (byte s at) 34)
      (λ e. rw (e, string_at) (past_word (x 0x22) (Rest Plain) G.string (λ k l m u v. (l, u, v)) at (at + 1) (at_x at 34 e (omega arith)) (text Plain (drop (at + 1) s) (at + 1)) (text-sound Plain (drop (at + 1) s) (at + 1) refl)))
      (λ e. rw (e, string_at) (fresh some-string (drop at s)))

  -- numbers
  digit_is : (at : ℕ) → is_digit (byte s at) ≡ true → (48 ≤ byte s at) × (byte s at ≤ 57)
  unfolding is_digit
  digit_is at e = range_is 48 57 (byte s at) e

  some-sound : (at : ℕ) → Sound (some G.DIGIT) at (some_digits s at)
  unfolding some_digits
  some-sound at = both (is_digit (byte s at))
      (λ e. let q = digit_is at e in rw (e, some_digits) (drop (at + 1) s, at_in at 48 57 q.0 q.1 (omega arith), at-digits (at + 1)))
      (λ e. rw (e, some_digits) (fresh some-digits (drop at s)))

  int-digits : (at : ℕ) → (byte s at ≡ 48 → ⊥) → Sound G.int at (some_digits s at)
  unfolding some_digits
  int-digits at f = both (is_digit (byte s at))
      (λ e. let q = digit_is at e in rw (e, some_digits) (inr (drop (at + 1) s, at_in at 49 57 (omega arith) q.1 (omega arith), at-digits (at + 1))))
      (λ e. rw (e, some_digits) (fresh some-int (drop at s)))

  int-sound : (at : ℕ) → Sound G.int at (int_at s at)
  unfolding int_at
  int-sound at = both (eqb (byte s at) 48) (λ e. rw (e, int_at) (inl (at_x at 48 e (omega arith)))) (λ e. rw (e, int_at) (int-digits at (eqb-false _ _ e)))

  frac-sound : (at : ℕ) → Sound (opt G.frac) at (frac_at s at)
  unfolding frac_at
  frac-sound at = both (eqb (byte s at) 46)
      (λ e. rw (e, frac_at) (past_word (x 46) (some G.DIGIT) (opt G.frac) (λ k l m u v. inl (l, u, v)) at (at + 1) (at_x at 46 e (omega arith)) (some_digits s (at + 1)) (some-sound (at + 1))))
      (λ e. rw (e, frac_at) (inr refl))

  minus-sound : (at : ℕ) → Lead (opt (x 0x2D)) (drop at s) (drop (optional is_minus s at) s)
  unfolding optional is_minus
  minus-sound at = both (eqb (byte s at) 45) (λ e. rw (e, optional) (inl (at_x at 45 e (omega arith)))) (λ e. rw (e, optional) (inr refl))

  sign-sound : (at : ℕ) → Lead (opt (x 0x2D // x 0x2B)) (drop at s) (drop (optional is_sign s at) s)
  unfolding optional is_sign
  sign-sound at = both (is_sign (byte s at))
      (λ e. rw (e, optional) (or_cases _ _ e (λ p. inl (inr (at_x at 43 p (omega arith)))) (λ p. inl (inl (at_x at 45 p (omega arith))))))
      (λ e. rw (e, optional) (inr refl))

  exp-byte : (at : ℕ) → is_exp (byte s at) ≡ true → Lead (x 0x65 // x 0x45) (drop at s) (drop (at + 1) s)
  unfolding is_exp
  exp-byte at e = or_cases _ _ e (λ p. inr (at_x at 69 p (omega arith))) (λ p. inl (at_x at 101 p (omega arith)))

  exp-sound : (at : ℕ) → Sound (opt G.exp) at (exp_at s at)
  unfolding exp_at
  exp-sound at = let j : ℕ = optional is_sign s (at + 1) in both (is_exp (byte s at))
      (λ e. rw (e, exp_at) (past_word (G.e · opt (G.minus // G.plus)) (some G.DIGIT) (opt G.exp) (λ k l m u v. inl (u.0, u.1, (l, u.2, v))) at j (drop (at + 1) s, exp-byte at e, sign-sound (at + 1)) (some_digits s j) (some-sound j)))
      (λ e. rw (e, exp_at) (inr refl))

  number-sound : (at : ℕ) → Sound G.number at (number_at s at)
  unfolding number_at
  number-sound at =
      past_word (opt G.minus) (G.int · opt G.frac · opt G.exp) G.number (λ k l m u v. (l, u, v)) at (optional is_minus s at) (minus-sound at) (number_at s at)
      (seq G.int (opt G.frac · opt G.exp) (G.int · opt G.frac · opt G.exp) (λ k l m u v. (l, u, v)) some-tail (optional is_minus s at) (int_at s (optional is_minus s at)) _ (int-sound (optional is_minus s at))
      (λ j. seq (opt G.frac) (opt G.exp) (opt G.frac · opt G.exp) (λ k l m u v. (l, u, v)) some-opt j (frac_at s j) _ (frac-sound j) exp-sound))

  -- words
  word_sound : (w : List ℕ) (at : ℕ) → AllAscii w → Sound (lit w) at (word w s at)
  unfolding word
  word_sound [] at h = refl
  word_sound (b ∷ bs) at h = let t = word_sound bs (at + 1) h.1 in let g = h.0 in both (eqb (byte s at) b)
      (λ e. rw (e, word) (past_word (x b) (lit bs) (lit (b ∷ bs)) (λ k l m u v. (l, u, v)) at (at + 1) (at_x at b e (omega arith)) (word bs s (at + 1)) t))
      (λ e. rw (e, word) (fresh (some-lit (b ∷ bs) h) (drop at s)))

  -- a structural byte with the white space that the reader skips before it and after it, or after it alone
  pub token : (at k : ℕ) → eqb (byte s (ws s at)) k ≡ true → k < 256 → Lead (G.ws · x k · G.ws) (drop at s) (drop (ws s (ws s at + 1)) s)
  token at k e h = (drop (ws s at) s, at-ws at, (drop (ws s at + 1) s, at_x (ws s at) k e h, at-ws (ws s at + 1)))

  pub begins : (at k : ℕ) → eqb (byte s at) k ≡ true → k < 256 → Lead (G.ws · x k · G.ws) (drop at s) (drop (ws s (at + 1)) s)
  begins at k e h = (drop at s, over, (drop (at + 1) s, at_x at k e h, at-ws (at + 1)))

  pub closes : (at k : ℕ) → eqb (byte s (ws s at)) k ≡ true → k < 256 → Lead (G.ws · x k · G.ws) (drop at s) (drop (ws s at + 1) s)
  closes at k e h = (drop (ws s at) s, at-ws at, (drop (ws s at + 1) s, at_x (ws s at) k e h, over))

  pub shuts : (at k : ℕ) → eqb (byte s at) k ≡ true → k < 256 → Lead (G.ws · x k · G.ws) (drop at s) (drop (at + 1) s)
  shuts at k e h = (drop at s, over, (drop (at + 1) s, at_x at k e h, over))

  -- no such byte stands there
  missing : (a : Json) (k at : ℕ) → k < 128 → Into (G.ws · x k · G.ws) a → Broken a (drop at s) (drop (ws s at) s)
  missing a k at h f = behind G.ws (x k · G.ws) a (λ i j m u v. f i m (j, u, v)) (at-ws at) (fresh (some-shut k h) (drop (ws s at) s))

  -- items; Tail is what may follow one
  module _ (I : Json) (item : ℕ → Result ℕ ℕ) (close : ℕ) (small : close < 128) (one : AsciiWord I) (ok : (i : ℕ) → Sound I i (item i)) where
    abbrev Tail : Json
    Tail = ∗ (G.value-separator · I) · (G.ws · x close · G.ws)

    some_end : AsciiWord Tail
    some_end = some-join some-none (some_token close small)

    after-sound : (next : ℕ → Result ℕ ℕ) → ((i : ℕ) → Sound (I · Tail) i (next i)) → (e : ℕ) → Sound Tail e (after next close s (ws s e))
    unfolding after
    after-sound next f e = let j : ℕ = ws s (ws s e + 1) in both (eqb (byte s (ws s e)) 44)
        (λ b. rw (b, after) (past_word G.value-separator (I · Tail) Tail (λ k l m u v. (v.2.0, again (l, u, v.1) v.2.1, v.2.2)) e j (token e 44 b (omega arith)) (next j) (f j)))
        (λ b. rw (b, after) (both (eqb (byte s (ws s e)) close)
        (λ c. rw c (drop e s, over, closes e close c (omega arith)))
        (λ c. rw c (missing Tail close e small (λ k m u. (k, over, u))))))

    series-sound : (f i : ℕ) → Sound (I · Tail) i (series item close s f i)
    unfolding series
    series-sound zero i = fresh (some-join one some_end) (drop i s)
    series-sound (suc f) i = seq I Tail (I · Tail) (λ k l m u v. (l, u, v)) some_end i (item i) _ (ok i) (after-sound (λ j. series item close s f j) (λ j. series-sound f j))

    list-sound : (i : ℕ) → Sound (opt (I · ∗ (G.value-separator · I)) · (G.ws · x close · G.ws)) i (list_of item close s i)
    unfolding list_of
    list-sound i = both (eqb (byte s i) close)
        (λ c. rw (c, list_of) (drop i s, inr refl, shuts i close c (omega arith)))
        (λ c. rw (c, list_of) (up (I · Tail) (opt (I · ∗ (G.value-separator · I)) · (G.ws · x close · G.ws)) (λ k m u. (u.2.0, inl (u.0, u.1, u.2.1), u.2.2)) i (series item close s (length s) i) (series-sound (length s) i)))

  colon-sound : (at : ℕ) → Sound G.name-separator at (colon s (ws s at))
  unfolding colon
  colon-sound at = both (eqb (byte s (ws s at)) 58)
      (λ e. rw (e, colon) (token at 58 e (omega arith)))
      (λ e. rw (e, colon) (missing G.name-separator 58 at (omega arith) (λ k m u. u)))

  pub key-sound : (at : ℕ) → Sound (G.string · G.name-separator) at (key_at s at)
  unfolding key_at
  key-sound at = seq G.string G.name-separator (G.string · G.name-separator) (λ k l m u v. (l, u, v)) (some_token 58 (omega arith)) at (string_at s at) _ (string-sound at) colon-sound

  module _ (A : Json) (v : ℕ → Result ℕ ℕ) (one : AsciiWord A) (ok : (i : ℕ) → Sound A i (v i)) where
    array-sound : (at : ℕ) → eqb (byte s at) 91 ≡ true → Sound (array_over A) at (array_of v s at)
    unfolding array_of
    array-sound at e = past_word G.begin-array (opt (A · ∗ (G.value-separator · A)) · G.end-array) (array_over A) (λ k l m u w. (l, u, w)) at (ws s (at + 1)) (begins at 91 e (omega arith)) (array_of v s at) (list-sound A v 93 (omega arith) one ok (ws s (at + 1)))

    some-member : AsciiWord (member_over A)
    some-member = some-join some-string (some-join (some_token 58 (omega arith)) one)

    member-sound : (at : ℕ) → Sound (member_over A) at (member_of v s at)
    unfolding member_of
    member-sound at = seq (G.string · G.name-separator) A (member_over A) (λ k l m u w. (u.0, u.1, (l, u.2, w))) one at (key_at s at) v (key-sound at) ok

    object-sound : (at : ℕ) → eqb (byte s at) 123 ≡ true → Sound (object_over A) at (object_of v s at)
    unfolding object_of
    object-sound at e = past_word G.begin-object (opt (member_over A · ∗ (G.value-separator · member_over A)) · G.end-object) (object_over A) (λ k l m u w. (l, u, w)) at (ws s (at + 1)) (begins at 123 e (omega arith)) (object_of v s at) (list-sound (member_over A) (λ i. member_of v s i) 125 (omega arith) some-member member-sound (ws s (at + 1)))

  -- what a kind says of the byte
  abbrev pub Of : ℕ → Kind → Type 0
  Of b bracket = eqb b 91 ≡ true
  Of b brace = eqb b 123 ≡ true
  Of b quote = Unit {0}
  Of b true_word = Unit {0}
  Of b false_word = Unit {0}
  Of b null_word = Unit {0}
  Of b other = Unit {0}

  pub kind_of_lem : (b : ℕ) → Of b (kind_of b)
  unfolding kind_of
  kind_of_lem b =
      both (eqb b 91) (λ e. rw e e) λ e. rw e
      (both (eqb b 123) (λ f. rw f f) λ f. rw f
      (both (eqb b 34) (λ g. rw g tt) λ g. rw g
      (both (eqb b 116) (λ h. rw h tt) λ h. rw h
      (both (eqb b 102) (λ i. rw i tt) λ i. rw i
      (both (eqb b 110) (λ j. rw j tt) (λ j. rw j tt))))))

  -- what a value of this depth may be that is no array and no object; where no depth is left, a number can stand for either
  leaf : (d at : ℕ) (k : Kind) → Of (byte s at) k → Sound (value d) at (value_of k Err Err s at)
  unfolding value_of value
  leaf d at bracket h = fresh (some-value d) (drop at s)
  leaf d at brace h = fresh (some-value d) (drop at s)
  leaf d at quote h = up G.string (value d) (λ l r w. inr (inr (inr (inr (inr (inr w)))))) at (string_at s at) (string-sound at)
  leaf d at true_word h = up G.true (value d) (λ l r w. inr (inr (inl w))) at (value_of true_word Err Err s at) (word_sound (116 ∷ 114 ∷ 117 ∷ 101 ∷ []) at (omega arith))
  leaf d at false_word h = up G.false (value d) (λ l r w. inl w) at (value_of false_word Err Err s at) (word_sound (102 ∷ 97 ∷ 108 ∷ 115 ∷ 101 ∷ []) at (omega arith))
  leaf d at null_word h = up G.null (value d) (λ l r w. inr (inl w)) at (value_of null_word Err Err s at) (word_sound (110 ∷ 117 ∷ 108 ∷ 108 ∷ []) at (omega arith))
  leaf d at other h = up G.number (value d) (λ l r w. inr (inr (inr (inr (inr (inl w)))))) at (number_at s at) (number-sound at)

  node : (d at : ℕ) (a o : ℕ → Result ℕ ℕ) → (eqb (byte s at) 91 ≡ true → Sound (array_over (value d)) at (a at)) → (eqb (byte s at) 123 ≡ true → Sound (object_over (value d)) at (o at)) →
      (k : Kind) → Of (byte s at) k → Sound (value (suc d)) at (value_of k a o s at)
  unfolding value_of value
  node d at a o f g bracket h = up (array_over (value d)) (value (suc d)) (λ l r w. inr (inr (inr (inr (inl w))))) at (a at) (f h)
  node d at a o f g brace h = up (object_over (value d)) (value (suc d)) (λ l r w. inr (inr (inr (inl w)))) at (o at) (g h)
  node d at a o f g quote h = leaf (suc d) at quote h
  node d at a o f g true_word h = leaf (suc d) at true_word h
  node d at a o f g false_word h = leaf (suc d) at false_word h
  node d at a o f g null_word h = leaf (suc d) at null_word h
  node d at a o f g other h = leaf (suc d) at other h

  pub value-sound : (d at : ℕ) → Sound (value d) at (value_at d s at)
  unfolding value_at
  value-sound zero at = leaf 0 at (kind_of (byte s at)) (kind_of_lem (byte s at))
  value-sound (suc d) at =
      node d at (λ i. array_of (λ j. value_at d s j) s i) (λ i. object_of (λ j. value_at d s j) s i)
      (array-sound (value d) (λ j. value_at d s j) (some-value d) (λ j. value-sound d j) at)
      (object-sound (value d) (λ j. value_at d s j) (some-value d) (λ j. value-sound d j) at)
      (kind_of (byte s at)) (kind_of_lem (byte s at))

  end-sound : (e : ℕ) → Sound G.ws e (at_end s (ws s e))
  unfolding at_end
  end-sound e = both (eqb (ws s e) (length s))
      (λ q. rw (q, at_end) (at-ws e))
      (λ q. rw (q, at_end) (behind G.ws ε G.ws (λ k l m u v. subst (Lead G.ws k) v u) (at-ws e) (fresh some-nothing (drop (ws s e) s))))

  -- white space around
  around : (d : ℕ) (A : Json) → Sound A (ws s 0) (value_at d s (ws s 0)) → Sound (G.ws · A · G.ws) 0 (document_at d s)
  unfolding document_at
  around d A w =
      past_word G.ws (A · G.ws) (G.ws · A · G.ws) (λ k l m u v. (l, u, v)) 0 (ws s 0) (at-ws 0) (document_at d s)
      (seq A G.ws (A · G.ws) (λ k l m u v. (l, u, v)) some-none (ws s 0) (value_at d s (ws s 0)) _ w end-sound)

  document-sound : (d : ℕ) → Sound (expand G.rules d G.JSON-text) 0 (document_at d s)
  unfolding value
  document-sound d = around d (value d) (value-sound d (ws s 0))

  -- an array or an object between white space
  container-value : (d at : ℕ) → opens (byte s at) ≡ true → Sound (object_over (value d) // array_over (value d)) at (value_at (suc d) s at)
  unfolding value_at kind_of value_of opens
  container-value d at e =
      let a : ℕ → (Result ℕ ℕ) = λ i. array_of (λ j. value_at d s j) s i in
      let o : ℕ → (Result ℕ ℕ) = λ i. object_of (λ j. value_at d s j) s i in
      or_cases (eqb (byte s at) 91) (eqb (byte s at) 123) e
      (λ p. rw p (up (array_over (value d)) (object_over (value d) // array_over (value d)) (λ l r w. inr w) at (a at) (array-sound (value d) (λ j. value_at d s j) (some-value d) (λ j. value-sound d j) at p)))
      (λ p. let q : byte s at ≡ 123 = eqb-true _ _ p in rw q (up (object_over (value d)) (object_over (value d) // array_over (value d)) (λ l r w. inl w) at (o at) (object-sound (value d) (λ j. value_at d s j) (some-value d) (λ j. value-sound d j) at p)))

  container-sound : opens (byte s (ws s 0)) ≡ true → Sound (expand G.rules 16 G.container) 0 (document_at 16 s)
  unfolding value
  container-sound e = around 16 (object_over (value 15) // array_over (value 15)) (container-value 15 (ws s 0) e)

  to_end : (a : Json) (d : ℕ) → document_at d s ≡ Ok (length s) → Sound a 0 (document_at d s) → Lead a s []
  to_end a d e w = rw (drop-length s) at (subst (SoundFrom a s) e w)

  pub sound : (d : ℕ) → document_at d s ≡ Ok (length s) → Lead (expand G.rules d G.JSON-text) s []
  sound d e = to_end (expand G.rules d G.JSON-text) d e (document-sound d)

  pub sound-container : document_of s ≡ Ok (length s) → opens (byte s (ws s 0)) ≡ true → Lead (expand G.rules 16 G.container) s []
  sound-container e b = to_end (expand G.rules 16 G.container) 16 (sym (document_16 s) ∙ e) (container-sound b)

  -- what is read before a bad place can be completed
  pub broken : (d p : ℕ) → document_at d s ≡ Err p → Broken (expand G.rules d G.JSON-text) s (drop p s)
  broken d p e = subst (SoundFrom (expand G.rules d G.JSON-text) s) e (document-sound d)
