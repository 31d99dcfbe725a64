-- What is in the grammar the reader accepts.
use Rattle.std.specs.Prelude.{Err, Ok, Result}
use Prim.Native.Nat.{ℕ, zero, suc, ◌+◌, ◌≤◌, ◌<◌}
use native.Mathlib.Nat.{add-zero}
use native.Mathlib.Numerals.{add-one}
use native.Mathlib.Omega.{arith}
use mathlib.Core.Path.{◌≡◌, refl, sym, ap, ◌∙◌, subst}
use mathlib.Core.Logic.{inl, inr}
use mathlib.Core.List.{List, [], ◌∷◌}
use mathlib.Core.Bool.{Bool, true, false, ◌&&◌, or-true}
use lib.ListN.{length, drop, get_or, length-drop, drop_of_length-le}
use lib.Seq.{drop-cons, get_or-drop}
use lib.Dec.{eqb, leb}
use borrow.Author.Tests.{eqb-true, eqb-false, eq-eqb, ne_eqb, le-leb}
use Rattle.abnf.specs.Accepts.{in_range}
use Rattle.json_text.specs.Bytes.{byte, run, past, is_ws, ws, word, and_then}
use Rattle.json_text.specs.Strings.{is_hex, is_escape, plain_step, escape_step, hex_step, text_step, text, string_at}
use Rattle.json_text.specs.Number.{is_digit, digits_end, optional, is_minus, is_sign, some_digits, int_at, frac_at, is_exp, exp_at, number_at}
use Rattle.json_text.specs.Value.{Kind, bracket, brace, quote, true_word, false_word, null_word, other, kind_of, after, series, list_of, array_of, colon, key_at, member_of, object_of, value_of, value_at, at_end, document_of, opens}
use Rattle.json_text.specs.declared.string.State.{State}
use Rattle.json_text.specs.declared.string.State.TheVariants.{Plain, Escape, Hex4, Hex3, Hex2, Hex1}
use Rattle.json_text.specs.declared.string.Move.TheVariants.{Go}
use Rattle.json_text.proofs.Bytes.{split, both, byte_out, run_more, run-stop, ws-stop}
use Rattle.json_text.proofs.Strings.{text_go, text-shut, plain-plain, hex_go}
use Rattle.json_text.proofs.Values.{after_comma, after_close, series_then, list-none, list-some, member_at_lem}
use Rattle.json_text.proofs.Numbers.{minus_yes, minus_no, sign-plus, sign-minus, sign_no, some_yes, some_no, int-zero, int-digits, frac_yes, frac_no, exp-upper, exp-lower, number-int, number-exp}
use Rattle.abnf.specs.Abnf.{◌·◌, ◌//◌, ∗◌, x, opt, some, lit}
use Rattle.json_grammar.specs.Rfc8259 as G
use Rattle.abnf.proofs.Lead.{Many, over, again, expand}
use Rattle.json_grammar.proofs.Depth.{Json, Lead, array_over, member_over, object_over, value, document_at, document_16}
use Rattle.json_grammar.proofs.Sound.{escaped}

-- a byte at which a number is over
record Stop (b : ℕ) : Type 0 where
  digit : is_digit b ≡ false
  dot : eqb b 46 ≡ false
  ex : is_exp b ≡ false

module _ where
  stop-space : Stop 32
  unfolding is_digit is_exp
  stop-space = record { digit = refl; dot = refl; ex = refl }

  stop-tab : Stop 9
  unfolding is_digit is_exp
  stop-tab = record { digit = refl; dot = refl; ex = refl }

  stop_lf : Stop 10
  unfolding is_digit is_exp
  stop_lf = record { digit = refl; dot = refl; ex = refl }

  stop_cr : Stop 13
  unfolding is_digit is_exp
  stop_cr = record { digit = refl; dot = refl; ex = refl }

  stop_comma : Stop 44
  unfolding is_digit is_exp
  stop_comma = record { digit = refl; dot = refl; ex = refl }

  stop-bracket : Stop 93
  unfolding is_digit is_exp
  stop-bracket = record { digit = refl; dot = refl; ex = refl }

  stop-brace : Stop 125
  unfolding is_digit is_exp
  stop-brace = record { digit = refl; dot = refl; ex = refl }

  stop-end : Stop 256
  unfolding is_digit is_exp
  stop-end = record { digit = refl; dot = refl; ex = refl }

-- the first byte of a word
record First (P : ℕ → Type 0) (l m : List ℕ) : Type 0 where
  b : ℕ
  is : P b
  cut : l ≡ b ∷ m

first-x : (k : ℕ) (P : ℕ → Type 0) (l m : List ℕ) → P k → Lead (x k) l m → First P l m
first-x k P l m p h = let e : k ≡ h.0 = (let a = h.1 in let c = h.2 in omega arith) in record { b = h.0; is = subst P e p; cut = h.3 }

-- a white space byte is one, and ends a number
abbrev Blank : ℕ → Type 0
Blank b = (is_ws b ≡ true) × Stop b

abbrev ws_byte : Json
ws_byte = x 0x20 // x 0x09 // x 0x0A // x 0x0D

first-ws : (l m : List ℕ) → Lead ws_byte l m → First Blank l m
unfolding is_ws
first-ws l m (inl h) = first-x 32 Blank l m (refl, stop-space) h
first-ws l m (inr (inl h)) = first-x 9 Blank l m (refl, stop-tab) h
first-ws l m (inr (inr (inl h))) = first-x 10 Blank l m (refl, stop_lf) h
first-ws l m (inr (inr (inr h))) = first-x 13 Blank l m (refl, stop_cr) h

abbrev head : List ℕ → ℕ
head l = get_or l 0 256

head_of : (P : ℕ → Type 0) (l m : List ℕ) → First P l m → P (head l)
head_of P l m f = subst P (sym (ap head f.cut)) f.is

stop-ws : (l m : List ℕ) → Many (Lead ws_byte) l m → Stop (head m) → Stop (head l)
stop-ws l m over h = h
stop-ws l m (again {m = k} g t) h = (head_of Blank l k (first-ws l k g)).1

stop_token : (k : ℕ) (l m : List ℕ) → Stop k → Lead (G.ws · x k · G.ws) l m → Stop (head l)
stop_token k l m p h = stop-ws l h.0 h.1 (head_of Stop h.0 h.2.0 (first-x k Stop h.0 h.2.0 p h.2.1))

-- a string's bytes
abbrev Goes : State → State → ℕ → Type 0
Goes t u b = text_step t b ≡ Go u

range_yes : (lo hi b : ℕ) → lo ≤ b → b ≤ hi → in_range lo hi b ≡ true
range_yes lo hi b h k = rw (le-leb lo b h, le-leb b hi k)

plain : (b : ℕ) (l m : List ℕ) → l ≡ b ∷ m → (b ≡ 34 → ⊥) → (b ≡ 92 → ⊥) → 32 ≤ b → b ≤ 255 → First (Goes Plain Plain) l m
unfolding text_step
plain b l m e f g h k = record { b = b; is = sym (plain-plain b f g (range_yes 32 255 b h k)); cut = e }

first_plain : (l m : List ℕ) → Lead G.unescaped l m → First (Goes Plain Plain) l m
first_plain l m (inl (b, h, k, e)) = plain b l m e (λ q. omega arith) (λ q. omega arith) (omega arith) (omega arith)
first_plain l m (inr (inl (b, h, k, e))) = plain b l m e (λ q. omega arith) (λ q. omega arith) (omega arith) (omega arith)
first_plain l m (inr (inr (b, h, k, e))) = plain b l m e (λ q. omega arith) (λ q. omega arith) (omega arith) (omega arith)

first_hex : (l m : List ℕ) → Lead G.HEXDIG l m → First (λ b. is_hex b ≡ true) l m
unfolding is_hex
first_hex l m (inl (b, h, k, e)) = record { b = b; is = rw (le-leb 48 b h, le-leb b 57 k); cut = e }
first_hex l m (inr (inl (b, h, k, e))) = record { b = b; is = rw (le-leb 65 b h, le-leb b 70 k) (or-true (in_range 48 57 b)); cut = e }
first_hex l m (inr (inr (b, h, k, e))) = record { b = b; is = rw (le-leb 97 b h, le-leb b 102 k, or-true (leb 65 b && leb b 70)) (or-true (in_range 48 57 b)); cut = e }

-- no digit and no point
abbrev Quiet : ℕ → Type 0
Quiet b = (is_digit b ≡ false) × (eqb b 46 ≡ false)

exp-first : (l m : List ℕ) → Lead (opt G.exp) l m → Stop (head m) → Quiet (head l)
unfolding is_digit
exp-first l m (inr e) h = subst (λ (k : List ℕ). Quiet (head k)) (sym e) (h.digit, h.dot)
exp-first l m (inl (k, inl g, w)) h = head_of Quiet l k (first-x 101 Quiet l k (refl, refl) g)
exp-first l m (inl (k, inr g, w)) h = head_of Quiet l k (first-x 69 Quiet l k (refl, refl) g)

frac-first : (l m : List ℕ) → Lead (opt G.frac) l m → is_digit (head m) ≡ false → is_digit (head l) ≡ false
unfolding is_digit
frac-first l m (inr e) h = subst (λ (k : List ℕ). is_digit (head k) ≡ false) (sym e) h
frac-first l m (inl (k, g, w)) h = head_of (λ b. is_digit b ≡ false) l k (first-x 46 (λ b. is_digit b ≡ false) l k refl g)

abbrev Digit : ℕ → Type 0
Digit b = (48 ≤ b) × (b ≤ 57)

int-first : (l m : List ℕ) → Lead G.int l m → (k : List ℕ) × First Digit l k
int-first l m (inl g) = (m, first-x 48 Digit l m (omega arith) g)
int-first l m (inr (k, (b, lo, hi, c), w)) = (k, record { b = b; is = (omega arith, hi); cut = c })

is_digit_lem : (b : ℕ) → 48 ≤ b → b ≤ 57 → is_digit b ≡ true
unfolding is_digit
is_digit_lem b h k = rw (le-leb 48 b h, le-leb b 57 k)

module _ (s : List ℕ) where
  -- the text at an index is a byte and more
  record At (at b : ℕ) (m : List ℕ) : Type 0 where
    here : byte s at ≡ b
    rest : drop (at + 1) s ≡ m
    fits : at < length s

  at-cons : (at b : ℕ) (l m : List ℕ) → drop at s ≡ l → l ≡ b ∷ m → At at b m
  unfolding byte
  at-cons at b l m e f = split (length s) at
      (λ h. let n = drop_of_length-le s h in let g : ◌≡◌ {A = List ℕ} [] (b ∷ m) = cc in let z : ◌≡◌ {A = ℕ} 0 1 = cc in absurd (omega arith))
      (λ h. let c = drop-cons s at 256 h in let g : get_or s at 256 ∷ drop (suc at) s ≡ b ∷ m = sym c ∙ e ∙ f in
      record { here = cc; rest = rw (add-one at) (cc); fits = h })

  at_first : (P : ℕ → Type 0) (at : ℕ) (l m : List ℕ) (e : drop at s ≡ l) (f : First P l m) → At at f.b m
  at_first P at l m e f = at-cons at f.b l m e f.cut

  byte-head : (at : ℕ) (l : List ℕ) → drop at s ≡ l → byte s at ≡ head l
  unfolding byte
  byte-head at l e = sym (ap (λ (i : ℕ). get_or s i 256) (add-zero at)) ∙ sym (get_or-drop at s 0 256) ∙ ap head e

  -- a run of bytes
  record Ran (p : ℕ → Bool) (at : ℕ) (m : List ℕ) : Type 0 where
    to : ℕ
    rest : drop to s ≡ m
    from : at ≤ to
    fits : to ≤ length s
    same : to + run p (drop to s) ≡ at + run p (drop at s)

  ran : (p : ℕ → Bool) (g : Json) → ((l m : List ℕ) → Lead g l m → First (λ b. p b ≡ true) l m) →
      {l m : List ℕ} → Many (Lead g) l m → (at : ℕ) → at ≤ length s → drop at s ≡ l → Ran p at m
  ran p g f over at h e = record { to = at; rest = e; from = omega arith; fits = h; same = refl }
  ran p g f (again {s = l} {m = k} w t) at h e =
      let c = f l k w in
      let a = at_first _ at l k e c in
      let r = ran p g f t (at + 1) (omega arith) a.rest in
      let q = run_more p s at a.fits (ap p a.here ∙ c.is) in
      let u : drop (at + 1) s ≡ drop (suc at) s = rw (add-one at) in
      let v : run p (drop (at + 1) s) ≡ run p (drop (suc at) s) = ap (λ (l : List ℕ). run p l) u in
      record { to = r.to; rest = r.rest; from = omega arith; fits = r.fits; same = omega arith }

  record Skip (at : ℕ) (m : List ℕ) : Type 0 where
    to : ℕ
    rest : drop to s ≡ m
    from : at ≤ to
    fits : to ≤ length s
    same : ws s to ≡ ws s at

  skip : (at : ℕ) (l m : List ℕ) → at ≤ length s → drop at s ≡ l → Lead G.ws l m → Skip at m
  unfolding ws past
  skip at l m h e w =
      let r = ran is_ws ws_byte (λ a b g. let c = first-ws a b g in record { b = c.b; is = c.is.0; cut = c.cut }) w at h e in
      record { to = r.to; rest = r.rest; from = r.from; fits = r.fits; same = r.same }

  -- where a scan ends, at `lo` or later, and what is left
  record Ends (q : Result ℕ ℕ) (lo : ℕ) (m : List ℕ) : Type 0 where
    end : ℕ
    is : q ≡ Ok end
    rest : drop end s ≡ m
    from : lo ≤ end
    fits : end ≤ length s

  digits-end : (at : ℕ) (l m : List ℕ) → at ≤ length s → drop at s ≡ l → Lead (∗ G.DIGIT) l m → is_digit (head m) ≡ false → Ends (Ok (digits_end s at)) at m
  unfolding digits_end past
  digits-end at l m h e w n =
      let r = ran is_digit G.DIGIT (λ a b g. record { b = g.0; is = is_digit_lem g.0 g.1 g.2; cut = g.3 }) w at h e in
      let z = run-stop is_digit s r.to (ap is_digit (byte-head r.to m r.rest) ∙ n) in
      let k : at + run is_digit (drop at s) ≡ r.to = omega arith in
      record { end = r.to; is = ap Ok k; rest = r.rest; from = r.from; fits = r.fits }

  some_end : (at : ℕ) (l m : List ℕ) → drop at s ≡ l → Lead (some G.DIGIT) l m → is_digit (head m) ≡ false → Ends (some_digits s at) (at + 1) m
  some_end at l m e w n =
      let d = w.1 in
      let a = at-cons at d.0 l w.0 e d.3 in
      let r = digits-end (at + 1) w.0 m (omega arith) a.rest w.2 n in
      record { end = r.end; is = sym (some_yes s at (ap is_digit a.here ∙ is_digit_lem d.0 d.1 d.2)) ∙ r.is; rest = r.rest; from = r.from; fits = r.fits }

  at_x : (at k : ℕ) (l m : List ℕ) → drop at s ≡ l → Lead (x k) l m → At at k m
  at_x at k l m e h = let q : h.0 ≡ k = (let a = h.1 in let c = h.2 in omega arith) in at-cons at k l m e (h.3 ∙ ap (λ (b : ℕ). b ∷ m) q)

  later : {q r : Result ℕ ℕ} {lo lo' : ℕ} {m : List ℕ} → q ≡ r → lo ≤ lo' → Ends r lo' m → Ends q lo m
  later e h r = record { end = r.end; is = e ∙ r.is; rest = r.rest; from = omega arith; fits = r.fits }

  -- numbers, from the last part to the first
  sign-end : (at : ℕ) (l k m : List ℕ) → drop at s ≡ l → Lead (opt (x 0x2D // x 0x2B)) l k → Lead (some G.DIGIT) k m → is_digit (head m) ≡ false → Ends (some_digits s (optional is_sign s at)) at m
  sign-end at l k m e (inl (inl g)) w n = let a = at_x at 45 l k e g in
      later (ap (some_digits s) (sym (sign-minus s at a.here))) (omega arith) (some_end (at + 1) k m a.rest w n)
  sign-end at l k m e (inl (inr g)) w n = let a = at_x at 43 l k e g in
      later (ap (some_digits s) (sym (sign-plus s at a.here))) (omega arith) (some_end (at + 1) k m a.rest w n)
  sign-end at l k m e (inr g) w n = let d = w.1 in let a = at-cons at d.0 k w.0 (e ∙ g) d.3 in let lo = d.1 in
      let b = a.here in
      later (ap (some_digits s) (sym (sign_no s at (λ q. omega arith) (λ q. omega arith)))) (omega arith) (some_end at k m (e ∙ g) w n)

  exp-end : (at : ℕ) (l m : List ℕ) → at ≤ length s → drop at s ≡ l → Lead (opt G.exp) l m → Stop (head m) → Ends (exp_at s at) at m
  unfolding exp_at
  exp-end at l m h e (inr w) n = record { end = at; is = rw (ap is_exp (byte-head at l e) ∙ ap (λ (k : List ℕ). is_exp (head k)) w ∙ n.ex, exp_at); rest = e ∙ w; from = omega arith; fits = h }
  exp-end at l m h e (inl (k, inl g, (j, v, w))) n = let a = at_x at 101 l k e g in
      later (sym (exp-lower s at a.here)) (omega arith) (sign-end (at + 1) k j m a.rest v w n.digit)
  exp-end at l m h e (inl (k, inr g, (j, v, w))) n = let a = at_x at 69 l k e g in
      later (sym (exp-upper s at a.here)) (omega arith) (sign-end (at + 1) k j m a.rest v w n.digit)

  frac-end : (at : ℕ) (l m : List ℕ) → at ≤ length s → drop at s ≡ l → Lead (opt G.frac) l m → Quiet (head m) → Ends (frac_at s at) at m
  frac-end at l m h e (inr w) n = record { end = at; is = sym (frac_no s at (λ q. eqb-false _ _ n.1 (sym (byte-head at m (e ∙ w)) ∙ q))); rest = e ∙ w; from = omega arith; fits = h }
  frac-end at l m h e (inl (k, g, w)) n = let a = at_x at 46 l k e g in
      later (sym (frac_yes s at a.here)) (omega arith) (some_end (at + 1) k m a.rest w n.0)

  int-end : (at : ℕ) (l m : List ℕ) → drop at s ≡ l → Lead G.int l m → is_digit (head m) ≡ false → Ends (int_at s at) (at + 1) m
  int-end at l m e (inl g) n = let a = at_x at 48 l m e g in record { end = at + 1; is = sym (int-zero s at a.here); rest = a.rest; from = omega arith; fits = omega arith }
  int-end at l m e (inr (k, (b, lo, hi, c), w)) n =
      let a = at-cons at b l k e c in
      let q = a.here in
      later (sym (int-digits s at (λ z. omega arith))) (omega arith) (some_end at l m e (k, (b, omega arith, hi, c), w) n)

  -- the reader's number, its sign read
  number_from_lem : (at i : ℕ) (l k j m : List ℕ) → at ≤ i → i ≡ optional is_minus s at → drop i s ≡ l → Lead G.int l k → Lead (opt G.frac) k j → Lead (opt G.exp) j m → Stop (head m) → Ends (number_at s at) (at + 1) m
  number_from_lem at i l k j m h q e u v w n =
      let z = exp-first j m w n in
      let a = int-end i l k e u (frac-first k j v z.0) in
      let b = frac-end a.end k j a.fits a.rest v z in
      let c = exp-end b.end j m b.fits b.rest w n in
      later (sym (number-exp s at i a.end b.end q a.is b.is)) (omega arith) c

  number-end : (at : ℕ) (l m : List ℕ) → drop at s ≡ l → Lead G.number l m → Stop (head m) → Ends (number_at s at) (at + 1) m
  number-end at l m e (k, inl g, (j, u, (i, v, w))) n = let a = at_x at 45 l k e g in
      number_from_lem at (at + 1) k j i m (omega arith) (minus_yes s at a.here) a.rest u v w n
  number-end at l m e (k, inr g, (j, u, (i, v, w))) n =
      let f = int-first k j u in
      let a = at_first Digit at k f.0 (e ∙ g) f.1 in
      let b = a.here in let c = f.1.is in
      number_from_lem at at k j i m (omega arith) (minus_no s at (λ z. omega arith)) (e ∙ g) u v w n

  -- strings: how far a state's bytes lead
  record Went (t : State) (at : ℕ) (m : List ℕ) : Type 0 where
    to : ℕ
    is : text t (drop at s) at ≡ text Plain (drop to s) to
    rest : drop to s ≡ m
    from : at < to

  goes : (t u : State) (at : ℕ) (l m : List ℕ) → drop at s ≡ l → First (Goes t u) l m → At at (byte s at) m × (text t (drop at s) at ≡ text u (drop (at + 1) s) (at + 1))
  goes t u at l m e f = let a = at_first (Goes t u) at l m e f in
      (record { here = refl; rest = a.rest; fits = a.fits }, text_go t u s at (ap (text_step t) a.here ∙ f.is))

  went : (t : State) (at : ℕ) (l m : List ℕ) → drop at s ≡ l → First (Goes t Plain) l m → Went t at m
  went t at l m e f = let g = goes t Plain at l m e f in record { to = at + 1; is = g.1; rest = g.0.rest; from = omega arith }

  then : (t u : State) (at : ℕ) (l k m : List ℕ) → drop at s ≡ l → First (Goes t u) l k → (drop (at + 1) s ≡ k → Went u (at + 1) m) → Went t at m
  then t u at l k m e f h = let g = goes t u at l k e f in let w = h g.0.rest in record { to = w.to; is = g.1 ∙ w.is; rest = w.rest; from = omega arith }

  hex : (t u : State) → ((b : ℕ) → text_step t b ≡ hex_step u b) → (l m : List ℕ) → Lead G.HEXDIG l m → First (Goes t u) l m
  hex t u q l m h = let f = first_hex l m h in record { b = f.b; is = q f.b ∙ sym (hex_go u f.b f.is); cut = f.cut }

  escape_went : (at : ℕ) (l m : List ℕ) → drop at s ≡ l → Lead escaped l m → Went Escape at m
  unfolding text_step escape_step is_escape
  escape_went at l m e (inl g) = went Escape at l m e (first-x 34 (Goes Escape Plain) l m refl g)
  escape_went at l m e (inr (inl g)) = went Escape at l m e (first-x 92 (Goes Escape Plain) l m refl g)
  escape_went at l m e (inr (inr (inl g))) = went Escape at l m e (first-x 47 (Goes Escape Plain) l m refl g)
  escape_went at l m e (inr (inr (inr (inl g)))) = went Escape at l m e (first-x 98 (Goes Escape Plain) l m refl g)
  escape_went at l m e (inr (inr (inr (inr (inl g))))) = went Escape at l m e (first-x 102 (Goes Escape Plain) l m refl g)
  escape_went at l m e (inr (inr (inr (inr (inr (inl g)))))) = went Escape at l m e (first-x 110 (Goes Escape Plain) l m refl g)
  escape_went at l m e (inr (inr (inr (inr (inr (inr (inl g))))))) = went Escape at l m e (first-x 114 (Goes Escape Plain) l m refl g)
  escape_went at l m e (inr (inr (inr (inr (inr (inr (inr (inl g)))))))) = went Escape at l m e (first-x 116 (Goes Escape Plain) l m refl g)
  escape_went at l m e (inr (inr (inr (inr (inr (inr (inr (inr (l1, g, (l2, h1, (l3, h2, (l4, h3, h4)))))))))))) =
      then Escape Hex4 at l l1 m e (first-x 117 (Goes Escape Hex4) l l1 refl g) λ e1.
      then Hex4 Hex3 (at + 1) l1 l2 m e1 (hex Hex4 Hex3 (λ b. refl) l1 l2 h1) λ e2.
      then Hex3 Hex2 (at + 1 + 1) l2 l3 m e2 (hex Hex3 Hex2 (λ b. refl) l2 l3 h2) λ e3.
      then Hex2 Hex1 (at + 1 + 1 + 1) l3 l4 m e3 (hex Hex2 Hex1 (λ b. refl) l3 l4 h3) λ e4.
      went Hex1 (at + 1 + 1 + 1 + 1) l4 m e4 (hex Hex1 Plain (λ b. refl) l4 m h4)

  char_went : (at : ℕ) (l m : List ℕ) → drop at s ≡ l → Lead G.char l m → Went Plain at m
  unfolding text_step plain_step
  char_went at l m e (inl h) = went Plain at l m e (first_plain l m h)
  char_went at l m e (inr (k, g, h)) = then Plain Escape at l k m e (first-x 92 (Goes Plain Escape) l k refl g) (λ e1. escape_went (at + 1) k m e1 h)

  chars-end : {l k : List ℕ} → Many (Lead G.char) l k → (m : List ℕ) → Lead (x 0x22) k m → (at : ℕ) → drop at s ≡ l → Ends (text Plain (drop at s) at) (at + 1) m
  unfolding text_step plain_step
  chars-end {l} {k} over m q at e = let a = at_x at 34 l m e q in
      record { end = at + 1; is = text-shut Plain s at (ap (text_step Plain) a.here); rest = a.rest; from = omega arith; fits = omega arith }
  chars-end {l} {k} (again {m = j} c t) m q at e = let w = char_went at l j e c in later w.is (omega arith) (chars-end t m q w.to w.rest)

  string-end : (at : ℕ) (l m : List ℕ) → drop at s ≡ l → Lead G.string l m → Ends (string_at s at) (at + 1) m
  unfolding string_at
  string-end at l m e (k, g, (j, h, q)) = let a = at_x at 34 l k e g in later (rw (eq-eqb _ _ a.here, string_at)) (omega arith) (chars-end h m q (at + 1) a.rest)

  -- words
  word_end : (w : List ℕ) (at : ℕ) (l m : List ℕ) → at ≤ length s → drop at s ≡ l → Lead (lit w) l m → Ends (word w s at) (at + length w) m
  unfolding word
  word_end [] at l m h e g = record { end = at; is = refl; rest = e ∙ g; from = omega arith; fits = h }
  word_end (b ∷ bs) at l m h e (k, g, t) = let a = at_x at b l k e g in
      later (rw (eq-eqb _ _ a.here, word)) (omega arith) (word_end bs (at + 1) k m (omega arith) a.rest t)

  -- a structural byte between white space
  record Token (at k : ℕ) (m : List ℕ) : Type 0 where
    here : byte s (ws s at) ≡ k
    to : ℕ
    rest : drop to s ≡ m
    lo : at ≤ ws s at
    from : ws s at < to
    fits : to ≤ length s
    same : ws s to ≡ ws s (ws s at + 1)

  token : (at k : ℕ) (l m : List ℕ) → is_ws k ≡ false → at ≤ length s → drop at s ≡ l → Lead (G.ws · x k · G.ws) l m → Token at k m
  token at k l m n h e (l1, g, (l2, c, w)) =
      let p = skip at l l1 h e g in
      let a = at_x p.to k l1 l2 p.rest c in
      let z = ws-stop s p.to (ap is_ws a.here ∙ n) in
      let q : ws s at ≡ p.to = sym p.same ∙ z in
      let r = skip (p.to + 1) l2 m (omega arith) a.rest w in
      record { here = ap (byte s) q ∙ a.here; to = r.to; rest = r.rest; lo = omega arith; from = omega arith; fits = r.fits; same = r.same ∙ ap (λ (i : ℕ). ws s (i + 1)) (sym q) }

  -- an item read from past the white space before it; white space may follow it
  record Took (item : ℕ → Result ℕ ℕ) (at : ℕ) (m : List ℕ) : Type 0 where
    end : ℕ
    is : item (ws s at) ≡ Ok end
    to : ℕ
    rest : drop to s ≡ m
    from : at < end
    upto : end ≤ to
    fits : to ≤ length s
    same : ws s to ≡ ws s end

  took : (item : ℕ → Result ℕ ℕ) (at : ℕ) (m : List ℕ) → is_ws (byte s at) ≡ false → Ends (item at) (at + 1) m → Took item at m
  took item at m n r = let z = ws-stop s at n in
      record { end = r.end; is = ap item z ∙ r.is; to = r.end; rest = r.rest; from = omega arith; upto = omega arith; fits = r.fits; same = refl }

  module _ (I : Json) (item : ℕ → Result ℕ ℕ) (close : ℕ) (blank : is_ws close ≡ false) (comma : eqb close 44 ≡ false) (stop : Stop close)
      (ok : (at : ℕ) (l m : List ℕ) → at ≤ length s → drop at s ≡ l → Lead I l m → Stop (head m) → Took item at m)
      (not : (i e : ℕ) → item i ≡ Ok e → eqb (byte s i) close ≡ false) where
    comma-blank : is_ws 44 ≡ false
    unfolding is_ws
    comma-blank = refl

    series-end : (f at : ℕ) (l k j m : List ℕ) → at ≤ length s → length s ≤ at + f → drop at s ≡ l → Lead I l k → Many (Lead (G.value-separator · I)) k j → Lead (G.ws · x close · G.ws) j m → Took (series item close s f) at m
    series-end zero at l k j m h n e w over c = let u = ok at l k h e w (stop_token close k m stop c) in absurd (omega arith)
    series-end zero at l k j m h n e w (again {m = i} (k1, g, v) t) c = let u = ok at l k h e w (stop_token 44 k k1 stop_comma g) in absurd (omega arith)
    series-end (suc f) at l k j m h n e w over c =
        let u = ok at l k h e w (stop_token close k m stop c) in
        let t = token u.to close k m blank u.fits u.rest c in
        let b : byte s (ws s u.end) ≡ close = ap (byte s) (sym u.same) ∙ t.here in
        let z = u.same in
        record {
          end = ws s u.end + 1;
          is = series_then item close s f (ws s at) u.end u.is ∙ after_close item close s _ (ws s u.end) (ap (λ (i : ℕ). eqb i 44) b ∙ comma) (eq-eqb _ _ b);
          to = t.to;
          rest = t.rest;
          from = omega arith;
          upto = omega arith;
          fits = t.fits;
          same = t.same ∙ ap (λ (i : ℕ). ws s (i + 1)) u.same;
        }
    series-end (suc f) at l k j m h n e w (again {m = i} (k1, g, v) t) c =
        let u = ok at l k h e w (stop_token 44 k k1 stop_comma g) in
        let p = token u.to 44 k k1 comma-blank u.fits u.rest g in
        let r = series-end f p.to k1 i j m p.fits (omega arith) p.rest v t c in
        let b : byte s (ws s u.end) ≡ 44 = ap (byte s) (sym u.same) ∙ p.here in
        let q : ws s (ws s u.end + 1) ≡ ws s p.to = ap (λ (i : ℕ). ws s (i + 1)) (sym u.same) ∙ sym p.same in
        record {
          end = r.end;
          is = series_then item close s f (ws s at) u.end u.is ∙ after_comma item close s _ (ws s u.end) (eq-eqb _ _ b) ∙ ap (series item close s f) q ∙ r.is;
          to = r.to;
          rest = r.rest;
          from = omega arith;
          upto = r.upto;
          fits = r.fits;
          same = r.same;
        }

    -- the first item's first byte is not the closing one
    first-not : (f i e : ℕ) → series item close s f i ≡ Ok e → eqb (byte s i) close ≡ false
    unfolding series and_then
    first-not zero i e q = let z : ◌≡◌ {A = ℕ} 0 1 = cc in absurd (omega arith)
    first-not (suc f) i e q = go (item i) refl q
      where
        go : (r : Result ℕ ℕ) → item i ≡ r → and_then r (λ e. after (λ j. series item close s f j) close s (ws s e)) ≡ Ok e → eqb (byte s i) close ≡ false
        go (Ok k) p q = not i k p
        go (Err k) p q = let z : ◌≡◌ {A = ℕ} 0 1 = cc in absurd (omega arith)

    list-end : (at : ℕ) (l m : List ℕ) → at ≤ length s → drop at s ≡ l → Lead (opt (I · ∗ (G.value-separator · I)) · (G.ws · x close · G.ws)) l m → Took (list_of item close s) at m
    list-end at l m h e (j, inr q, c) = let t = token at close j m blank h (e ∙ q) c in
        record { end = ws s at + 1; is = list-none item close s (ws s at) (eq-eqb _ _ t.here); to = t.to; rest = t.rest; from = omega arith; upto = omega arith; fits = t.fits; same = t.same }
    list-end at l m h e (j, inl (k, w, t), c) = let r = series-end (length s) at l k j m h (omega arith) e w t c in
        record { end = r.end; is = list-some item close s (ws s at) (first-not (length s) (ws s at) r.end r.is) ∙ r.is; to = r.to; rest = r.rest; from = r.from; upto = r.upto; fits = r.fits; same = r.same }

    -- with its opening byte
    open-end : (k at : ℕ) (l m : List ℕ) → is_ws k ≡ false → at ≤ length s → drop at s ≡ l → Lead ((G.ws · x k · G.ws) · opt (I · ∗ (G.value-separator · I)) · (G.ws · x close · G.ws)) l m →
        (byte s (ws s at) ≡ k) × Took (λ i. list_of item close s (ws s (i + 1))) at m
    open-end k at l m n h e (j, o, w) =
        let t = token at k l j n h e o in
        let r = list-end t.to j m t.fits t.rest w in
        (t.here, record { end = r.end; is = ap (list_of item close s) (sym t.same) ∙ r.is; to = r.to; rest = r.rest; from = omega arith; upto = r.upto; fits = r.fits; same = r.same })

  key_is : (at e : ℕ) → string_at s at ≡ Ok e → byte s (ws s e) ≡ 58 → key_at s at ≡ Ok (ws s (ws s e + 1))
  unfolding key_at and_then colon
  key_is at e q c = rw (q, and_then) (rw (eq-eqb _ _ c, colon))

  quote-blank : is_ws 34 ≡ false
  unfolding is_ws
  quote-blank = refl

  colon-blank : is_ws 58 ≡ false
  unfolding is_ws
  colon-blank = refl

  module _ (A : Json) (v : ℕ → Result ℕ ℕ) (ok : (at : ℕ) (l m : List ℕ) → at ≤ length s → drop at s ≡ l → Lead A l m → Stop (head m) → Took v at m) where
    member-end : (at : ℕ) (l m : List ℕ) → at ≤ length s → drop at s ≡ l → Lead (member_over A) l m → Stop (head m) → Took (member_of v s) at m
    member-end at l m h e (k, (k1, g, str), (j, sep, w)) n =
        let a = at_x at 34 l k1 e g in
        let z = ws-stop s at (ap is_ws a.here ∙ quote-blank) in
        let r = string-end at l k e (k1, g, str) in
        let t = token r.end 58 k j colon-blank r.fits r.rest sep in
        let u = ok t.to j m t.fits t.rest w n in
        record {
          end = u.end;
          is = ap (member_of v s) z ∙ member_at_lem s v at _ (key_is at r.end r.is t.here) ∙ ap v (sym t.same) ∙ u.is;
          to = u.to;
          rest = u.rest;
          from = omega arith;
          upto = u.upto;
          fits = u.fits;
          same = u.same;
        }

    member-not : (i e : ℕ) → member_of v s i ≡ Ok e → eqb (byte s i) 125 ≡ false
    unfolding member_of and_then key_at string_at
    member-not i e q = both (eqb (byte s i) 125)
        (λ b. let a = eqb-true (byte s i) 125 b in
        let c : eqb (byte s i) 34 ≡ false = ap (λ (k : ℕ). eqb k 34) a in
        let g : string_at s i ≡ Err i = rw (c, string_at) in
        let d : key_at s i ≡ Err i = rw (g, and_then) in
        let f : member_of v s i ≡ Err i = rw (d, and_then) in
        let z : ◌≡◌ {A = ℕ} 0 1 = cc in absurd (omega arith))
        (λ b. b)

  -- values with no values in them
  abbrev Leaf : Kind → Type 0
  Leaf bracket = ⊥
  Leaf brace = ⊥
  Leaf quote = Unit {0}
  Leaf true_word = Unit {0}
  Leaf false_word = Unit {0}
  Leaf null_word = Unit {0}
  Leaf other = Unit {0}

  leaf-same : (a o : ℕ → Result ℕ ℕ) (at : ℕ) (k : Kind) → Leaf k → value_of k a o s at ≡ value_of k Err Err s at
  unfolding value_of
  leaf-same a o at bracket h = absurd h
  leaf-same a o at brace h = absurd h
  leaf-same a o at quote h = refl
  leaf-same a o at true_word h = refl
  leaf-same a o at false_word h = refl
  leaf-same a o at null_word h = refl
  leaf-same a o at other h = refl

  leaf_is : (d at : ℕ) (k : Kind) → kind_of (byte s at) ≡ k → Leaf k → value_at d s at ≡ value_of k Err Err s at
  unfolding value_at
  leaf_is zero at k q h = rw q
  leaf_is (suc d) at k q h = rw q (leaf-same _ _ at k h)

  leaf_took : (d at : ℕ) (b : ℕ) (k : Kind) (m : List ℕ) → byte s at ≡ b → kind_of b ≡ k → Leaf k → is_ws b ≡ false → Ends (value_of k Err Err s at) (at + 1) m → Took (value_at d s) at m
  leaf_took d at b k m e q h n r = took (value_at d s) at m (ap is_ws e ∙ n) (later (leaf_is d at k (ap kind_of e ∙ q) h) (omega arith) r)

  -- a number's first byte
  abbrev Start : ℕ → Type 0
  Start b = (b < 58) × (44 < b)

  start_kind : (b : ℕ) → Start b → kind_of b ≡ other
  unfolding kind_of
  start_kind b h = rw (ne_eqb b 91 (λ q. omega arith), ne_eqb b 123 (λ q. omega arith), ne_eqb b 34 (λ q. omega arith), ne_eqb b 116 (λ q. omega arith), ne_eqb b 102 (λ q. omega arith), ne_eqb b 110 (λ q. omega arith))

  start-blank : (b : ℕ) → Start b → is_ws b ≡ false
  unfolding is_ws
  start-blank b h = rw (ne_eqb b 32 (λ q. omega arith), ne_eqb b 10 (λ q. omega arith), ne_eqb b 13 (λ q. omega arith), ne_eqb b 9 (λ q. omega arith))

  number-first : (l m : List ℕ) → Lead G.number l m → (k : List ℕ) × First Start l k
  number-first l m (k, inl g, w) = (k, first-x 45 Start l k (omega arith) g)
  number-first l m (k, inr g, (j, u, w)) = let f = int-first k j u in let d = f.1.is in (f.0, record { b = f.1.b; is = omega arith; cut = g ∙ f.1.cut })

  false-end : (d at : ℕ) (l m : List ℕ) → at ≤ length s → drop at s ≡ l → Lead G.false l m → Took (value_at d s) at m
  unfolding kind_of is_ws value_of
  false-end d at l m h e (k, g, w) = let a = at_x at 102 l k e g in
      leaf_took d at 102 false_word m a.here refl tt refl (later refl (omega arith) (word_end (102 ∷ 97 ∷ 108 ∷ 115 ∷ 101 ∷ []) at l m h e (k, g, w)))

  null-end : (d at : ℕ) (l m : List ℕ) → at ≤ length s → drop at s ≡ l → Lead G.null l m → Took (value_at d s) at m
  unfolding kind_of is_ws value_of
  null-end d at l m h e (k, g, w) = let a = at_x at 110 l k e g in
      leaf_took d at 110 null_word m a.here refl tt refl (later refl (omega arith) (word_end (110 ∷ 117 ∷ 108 ∷ 108 ∷ []) at l m h e (k, g, w)))

  true-end : (d at : ℕ) (l m : List ℕ) → at ≤ length s → drop at s ≡ l → Lead G.true l m → Took (value_at d s) at m
  unfolding kind_of is_ws value_of
  true-end d at l m h e (k, g, w) = let a = at_x at 116 l k e g in
      leaf_took d at 116 true_word m a.here refl tt refl (later refl (omega arith) (word_end (116 ∷ 114 ∷ 117 ∷ 101 ∷ []) at l m h e (k, g, w)))

  -- a number or a string
  last_end : (d at : ℕ) (l m : List ℕ) → drop at s ≡ l → Lead (G.number // G.string) l m → Stop (head m) → Took (value_at d s) at m
  unfolding kind_of is_ws value_of
  last_end d at l m e (inl w) n =
      let f = number-first l m w in
      let a = at_first Start at l f.0 e f.1 in
      leaf_took d at f.1.b other m a.here (start_kind f.1.b f.1.is) tt (start-blank f.1.b f.1.is) (number-end at l m e w n)
  last_end d at l m e (inr (k, g, w)) n = let a = at_x at 34 l k e g in
      leaf_took d at 34 quote m a.here refl tt refl (string-end at l m e (k, g, w))

  -- no value begins with a bracket that closes
  pub value_not : (d i e : ℕ) → value_at d s i ≡ Ok e → eqb (byte s i) 93 ≡ false
  unfolding kind_of value_of is_digit
  value_not d i e q = both (eqb (byte s i) 93)
      (λ b. let c = eqb-true (byte s i) 93 b in
      let u : int_at s i ≡ Err i = sym (int-digits s i (λ z. omega arith)) ∙ sym (some_no s i (ap is_digit c)) in
      let v = number-int s i i i (minus_no s i (λ z. omega arith)) u in
      let w = leaf_is d i other (ap kind_of c) tt in
      let z : ◌≡◌ {A = ℕ} 0 1 = cc in absurd (omega arith))
      (λ b. b)

  array_is : (d i : ℕ) → byte s i ≡ 91 → value_at (suc d) s i ≡ list_of (value_at d s) 93 s (ws s (i + 1))
  unfolding value_at kind_of value_of array_of
  array_is d i b = rw (ap kind_of b)

  object_is : (d i : ℕ) → byte s i ≡ 123 → value_at (suc d) s i ≡ list_of (member_of (value_at d s) s) 125 s (ws s (i + 1))
  unfolding value_at kind_of value_of object_of
  object_is d i b = rw (ap kind_of b)

  by : (f g : ℕ → Result ℕ ℕ) (at : ℕ) (m : List ℕ) → g (ws s at) ≡ f (ws s at) → Took f at m → Took g at m
  by f g at m q r = record { end = r.end; is = q ∙ r.is; to = r.to; rest = r.rest; from = r.from; upto = r.upto; fits = r.fits; same = r.same }

  value-end : (d at : ℕ) (l m : List ℕ) → at ≤ length s → drop at s ≡ l → Lead (value d) l m → Stop (head m) → Took (value_at d s) at m
  unfolding value is_ws
  value-end zero at l m h e (inl w) n = false-end zero at l m h e w
  value-end zero at l m h e (inr (inl w)) n = null-end zero at l m h e w
  value-end zero at l m h e (inr (inr (inl w))) n = true-end zero at l m h e w
  value-end zero at l m h e (inr (inr (inr (inl w)))) n = absurd w
  value-end zero at l m h e (inr (inr (inr (inr (inl w))))) n = absurd w
  value-end zero at l m h e (inr (inr (inr (inr (inr w))))) n = last_end zero at l m e w n
  value-end (suc d) at l m h e (inl w) n = false-end (suc d) at l m h e w
  value-end (suc d) at l m h e (inr (inl w)) n = null-end (suc d) at l m h e w
  value-end (suc d) at l m h e (inr (inr (inl w))) n = true-end (suc d) at l m h e w
  value-end (suc d) at l m h e (inr (inr (inr (inl w)))) n =
      let ih : (at : ℕ) (l m : List ℕ) → at ≤ length s → drop at s ≡ l → Lead (value d) l m → Stop (head m) → Took (value_at d s) at m = λ at l m h e w n. value-end d at l m h e w n in
      let r = open-end (member_over (value d)) (member_of (value_at d s) s) 125 refl refl stop-brace (member-end (value d) (value_at d s) ih) (member-not (value d) (value_at d s) ih) 123 at l m refl h e w in
      by _ (value_at (suc d) s) at m (object_is d (ws s at) r.0) r.1
  value-end (suc d) at l m h e (inr (inr (inr (inr (inl w))))) n =
      let ih : (at : ℕ) (l m : List ℕ) → at ≤ length s → drop at s ≡ l → Lead (value d) l m → Stop (head m) → Took (value_at d s) at m = λ at l m h e w n. value-end d at l m h e w n in
      let r = open-end (value d) (value_at d s) 93 refl refl stop-bracket ih (value_not d) 91 at l m refl h e w in
      by _ (value_at (suc d) s) at m (array_is d (ws s at) r.0) r.1
  value-end (suc d) at l m h e (inr (inr (inr (inr (inr w))))) n = last_end (suc d) at l m e w n

  end-blank : ws s (length s) ≡ length s
  unfolding is_ws
  end-blank = ws-stop s (length s) (ap is_ws (byte_out s (length s) (omega arith)))

  document_is : (d e : ℕ) → value_at d s (ws s 0) ≡ Ok e → ws s e ≡ length s → document_at d s ≡ Ok (length s)
  unfolding document_at and_then at_end
  document_is d e q b = rw (q, and_then) (rw b (rw (eq-eqb (length s) (length s) refl, at_end)))

  pub complete : (d : ℕ) → Lead (expand G.rules d G.JSON-text) s [] → document_at d s ≡ Ok (length s)
  unfolding value
  complete d (k, w, (j, v, z)) =
      let p = skip 0 s k (omega arith) refl w in
      let r = value-end d p.to k j p.fits p.rest v (stop-ws j [] z stop-end) in
      let q = skip r.to j [] r.fits r.rest z in
      let n : length (drop q.to s) ≡ 0 = ap length q.rest in
      let c : q.to ≡ length s = (let g = length-drop q.to s in let y = q.fits in omega arith) in
      document_is d r.end (ap (value_at d s) (sym p.same) ∙ r.is) (sym r.same ∙ sym q.same ∙ ap (ws s) c ∙ end-blank)

  -- an array or an object
  container-first : (k j : List ℕ) (at d : ℕ) → at ≤ length s → drop at s ≡ k → Lead (object_over (value d) // array_over (value d)) k j → opens (byte s (ws s at)) ≡ true
  unfolding opens is_ws
  container-first k j at d h e (inl (i, g, w)) = ap opens (token at 123 k i refl h e g).here
  container-first k j at d h e (inr (i, g, w)) = ap opens (token at 91 k i refl h e g).here

  as-value : {k j : List ℕ} → Lead (object_over (value 15) // array_over (value 15)) k j → Lead (value 16) k j
  unfolding value
  as-value (inl w) = inr (inr (inr (inl w)))
  as-value (inr w) = inr (inr (inr (inr (inl w))))

  pub complete-container : Lead (expand G.rules 16 G.container) s [] → (document_of s ≡ Ok (length s)) × (opens (byte s (ws s 0)) ≡ true)
  unfolding value
  complete-container (k, w, (j, v, z)) =
      let p = skip 0 s k (omega arith) refl w in
      (document_16 s ∙ complete 16 (k, w, (j, as-value v, z)), ap (λ (i : ℕ). opens (byte s i)) (sym p.same) ∙ container-first k j p.to 15 p.fits p.rest v)
