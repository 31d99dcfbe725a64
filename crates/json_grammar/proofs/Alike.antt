-- A scan looks at no byte past the place that it answers: texts that begin alike, to a place and the byte there, are read alike to it.
use Rattle.std.specs.Prelude.{Err, Ok, Result}
use Prim.Native.Nat.{ℕ, zero, suc, ◌+◌, ◌≤◌, ◌<◌}
use native.Mathlib.Omega.{arith}
use mathlib.Core.Path.{◌≡◌, refl, sym, ap, ◌∙◌}
use mathlib.Core.List.{List, [], ◌∷◌, ◌++◌}
use mathlib.Core.Bool.{Bool, true, false}
use lib.ListN.{length, drop, length-drop, length-append, get_or-append}
use lib.Seq.{drop-append-le}
use lib.Dec.{eqb}
use borrow.Author.Tests.{ne_eqb}
use Rattle.json_text.specs.Bytes.{byte, run, past, is_ws, ws, word, and_then}
use Rattle.json_text.specs.Strings.{text_step, text, string_at}
use Rattle.json_text.specs.Number.{is_digit, digits_end, optional, is_minus, is_sign, some_digits, int_at, frac_at, is_exp, exp_at, number_at}
use Rattle.json_text.specs.Value.{Kind, bracket, brace, quote, true_word, false_word, null_word, other, kind_of, after, series, list_of, array_of, colon, key_at, member_of, object_of, value_of, value_at, at_end}
use Rattle.json_text.specs.declared.string.State.{State}
use Rattle.json_text.specs.declared.string.State.TheVariants.{Plain}
use Rattle.json_text.specs.declared.string.Move.{Move}
use Rattle.json_text.specs.declared.string.Move.TheVariants.{Go, Shut, Stuck}
use Rattle.json_text.proofs.Bytes.{both}
use Rattle.json_grammar.specs.Place.{reach_of}
use Rattle.json_grammar.proofs.Depth.{document_at}
use Rattle.json_grammar.proofs.Stops.{Small, text_spans, StopsWithin, then_stops, ws_stops, ws_then, string_stops, some_stops, int_stops, frac_stops, optional_stops, exp_stops, tail_stops, word_stops, after_stops, series_stops, list_stops, colon_stops, member_stops, value_stops, end_stops}

-- texts whose first n bytes are the same, as the scans see them
pub record BeginAlike (n : ℕ) (s r : List ℕ) : Type 0 where
  pub long : n ≤ length s
  pub also : n ≤ length r
  pub bytes : (i : ℕ) → i < n → byte r i ≡ byte s i
  pub runs : (p : ℕ → Bool) (i : ℕ) → past p s i < n → past p r i ≡ past p s i
  pub texts : (t : State) (i : ℕ) → reach_of (text t (drop i s) i) < n → text t (drop i r) i ≡ text t (drop i s) i

module _ (t u : List ℕ) where
  run-alike : (p : ℕ → Bool) (c : List ℕ) → run p (c ++ t) < length c → run p (c ++ u) ≡ run p (c ++ t)
  unfolding run
  run-alike p [] h = absurd (omega arith)
  run-alike p (b ∷ c) h = let f = run-alike p c in both (p b)
      (λ e. let z : run p (b ∷ (c ++ t)) ≡ suc (run p (c ++ t)) = rw (e, run) in rw (e, run) (ap suc (f (omega arith))))
      (λ e. rw (e, run))

  text-alike : (q : State) (c : List ℕ) (at : ℕ) → reach_of (text q (c ++ t) at) < at + length c → text q (c ++ u) at ≡ text q (c ++ t) at
  unfolding text
  text-alike q [] at h = let r = text_spans q t at in absurd (omega arith)
  text-alike q (b ∷ c) at h = go (text_step q b) refl (λ v. text-alike v c (at + 1))
    where
      go : (m : Move) → text_step q b ≡ m → ((v : State) → reach_of (text v (c ++ t) (at + 1)) < at + 1 + length c → text v (c ++ u) (at + 1) ≡ text v (c ++ t) (at + 1)) → text q (b ∷ (c ++ u)) at ≡ text q (b ∷ (c ++ t)) at
      go (Go v) e f =
          let z : text q (b ∷ (c ++ t)) at ≡ text v (c ++ t) (at + 1) = rw (e, text) in
          let y : reach_of (text q (b ∷ (c ++ t)) at) ≡ reach_of (text v (c ++ t) (at + 1)) = ap reach_of z in
          rw (e, text) (f v (omega arith))
      go Shut e f = rw (e, text)
      go Stuck e f = rw (e, text)

  module _ (c : List ℕ) (i : ℕ) where
    runs-alike : (p : ℕ → Bool) → past p (c ++ t) i < length c → past p (c ++ u) i ≡ past p (c ++ t) i
    unfolding past
    runs-alike p h =
        let k : i ≤ length c = omega arith in
        let f : run p (drop i (c ++ t)) ≡ run p (drop i c ++ t) = ap (λ (l : List ℕ). run p l) (drop-append-le i c t k) in
        let g : run p (drop i (c ++ u)) ≡ run p (drop i c ++ u) = ap (λ (l : List ℕ). run p l) (drop-append-le i c u k) in
        let n = length-drop i c in
        let e = run-alike p (drop i c) (omega arith) in
        omega arith

    texts-alike : (q : State) → reach_of (text q (drop i (c ++ t)) i) < length c → text q (drop i (c ++ u)) i ≡ text q (drop i (c ++ t)) i
    texts-alike q h =
        let k : i ≤ length c = (let r = text_spans q (drop i (c ++ t)) i in omega arith) in
        let f : text q (drop i (c ++ t)) i ≡ text q (drop i c ++ t) i = ap (λ (l : List ℕ). text q l i) (drop-append-le i c t k) in
        let g : text q (drop i (c ++ u)) i ≡ text q (drop i c ++ u) i = ap (λ (l : List ℕ). text q l i) (drop-append-le i c u k) in
        let n = length-drop i c in
        let y : reach_of (text q (drop i (c ++ t)) i) ≡ reach_of (text q (drop i c ++ t) i) = ap reach_of f in
        g ∙ text-alike q (drop i c) i (omega arith) ∙ sym f

  pub alike : (c : List ℕ) → BeginAlike (length c) (c ++ t) (c ++ u)
  unfolding byte
  alike c = record {
    long = omega (arith, length-append c t);
    also = omega (arith, length-append c u);
    bytes = λ i h. get_or-append c u 256 i h ∙ sym (get_or-append c t 256 i h);
    runs = λ p i h. runs-alike c i p h;
    texts = λ q i h. texts-alike c i q h;
  }

-- by cases on one test, which is the same in both
abbrev When : ℕ → Result ℕ ℕ → Result ℕ ℕ → Type 0
When n q r = reach_of q < n → r ≡ q

if-alike : (n : ℕ) (a b : Bool) (x y v w : Result ℕ ℕ) → b ≡ a → When n x v → When n y w → When n (elim a as (λ k. (Result ℕ ℕ)) [ true ↦ x | false ↦ y ]) (elim b as (λ k. (Result ℕ ℕ)) [ true ↦ v | false ↦ w ])
if-alike n true true x y v w e f g h = f h
if-alike n false false x y v w e f g h = g h
if-alike n true false x y v w e f g h = let z : ◌≡◌ {A = ℕ} 0 1 = cc in absurd (omega arith)
if-alike n false true x y v w e f g h = let z : ◌≡◌ {A = ℕ} 0 1 = cc in absurd (omega arith)

module _ (n : ℕ) (s r : List ℕ) (a : BeginAlike n s r) where
  abbrev Same : (ℕ → Result ℕ ℕ) → (ℕ → Result ℕ ℕ) → Type 0
  Same k l = (i : ℕ) → When n (k i) (l i)

  test : (p : ℕ → Bool) (at : ℕ) (q : Result ℕ ℕ) → StopsWithin s at q → reach_of q < n → p (byte r at) ≡ p (byte s at)
  test p at q w h = ap p (a.bytes at (omega arith))

  then_same : (q v : Result ℕ ℕ) (k l : ℕ → Result ℕ ℕ) → ((e : ℕ) → StopsWithin s e (k e)) → When n q v → ((e : ℕ) → reach_of q ≤ e → When n (k e) (l e)) → When n (and_then q k) (and_then v l)
  unfolding and_then
  then_same (Ok e) v k l w f g h = let z = w e in rw (f (omega arith)) (g e (omega arith) h)
  then_same (Err e) v k l w f g h = rw (f h)

  ws-same : (i : ℕ) → ws s i < n → ws r i ≡ ws s i
  unfolding ws
  ws-same i h = a.runs is_ws i h

  -- a scan from past white space
  from-ws : (k l : ℕ → Result ℕ ℕ) → ((i : ℕ) → StopsWithin s i (k i)) → Same k l → (at : ℕ) → When n (k (ws s at)) (l (ws r at))
  from-ws k l w f at h = let z = w (ws s at) in rw (ws-same at (omega arith)) (f (ws s at) h)

  string-same : Same (string_at s) (string_at r)
  unfolding string_at
  string-same at h = if-alike n (eqb (byte s at) 34) (eqb (byte r at) 34) _ _ _ _ (test (λ b. eqb b 34) at _ (string_stops s at) h) (a.texts Plain (at + 1)) (λ k. refl) h

  -- numbers
  digits_same : (i : ℕ) → When n (Ok (digits_end s i)) (Ok (digits_end r i))
  unfolding digits_end
  digits_same i h = ap Ok (a.runs is_digit i h)

  optional-same : (p : ℕ → Bool) (at : ℕ) → p 256 ≡ false → optional p s at < n → optional p r at ≡ optional p s at
  unfolding optional
  optional-same p at e h = rw (test p at _ (optional_stops s p at e) h, optional)

  from-optional : (p : ℕ → Bool) → p 256 ≡ false → (k l : ℕ → Result ℕ ℕ) → ((i : ℕ) → StopsWithin s i (k i)) → Same k l → (at : ℕ) → When n (k (optional p s at)) (l (optional p r at))
  from-optional p e k l w f at h = let z = w (optional p s at) in rw (optional-same p at e (omega arith)) (f (optional p s at) h)

  some_same : Same (some_digits s) (some_digits r)
  unfolding some_digits
  some_same at h = if-alike n (is_digit (byte s at)) (is_digit (byte r at)) _ _ _ _ (test is_digit at _ (some_stops s at) h) (digits_same (at + 1)) (λ k. refl) h

  int_same : Same (int_at s) (int_at r)
  unfolding int_at
  int_same at h = if-alike n (eqb (byte s at) 48) (eqb (byte r at) 48) _ _ _ _ (test (λ b. eqb b 48) at _ (int_stops s at) h) (λ k. refl) (some_same at) h

  frac-same : Same (frac_at s) (frac_at r)
  unfolding frac_at
  frac-same at h = if-alike n (eqb (byte s at) 46) (eqb (byte r at) 46) _ _ _ _ (test (λ b. eqb b 46) at _ (frac_stops s at) h) (some_same (at + 1)) (λ k. refl) h

  exp-same : Same (exp_at s) (exp_at r)
  unfolding exp_at is_sign
  exp-same at h = if-alike n (is_exp (byte s at)) (is_exp (byte r at)) _ _ _ _ (test is_exp at _ (exp_stops s at) h) (from-optional is_sign refl (some_digits s) (some_digits r) (some_stops s) some_same (at + 1)) (λ k. refl) h

  tail-same : Same (λ i. and_then (frac_at s i) (λ j. exp_at s j)) (λ i. and_then (frac_at r i) (λ j. exp_at r j))
  tail-same i h = then_same (frac_at s i) (frac_at r i) (λ j. exp_at s j) (λ j. exp_at r j) (exp_stops s) (frac-same i) (λ j z. exp-same j) h

  number_same : Same (number_at s) (number_at r)
  unfolding number_at is_minus
  number_same at h =
      from-optional is_minus refl (λ m. and_then (int_at s m) (λ i. and_then (frac_at s i) (λ j. exp_at s j))) (λ m. and_then (int_at r m) (λ i. and_then (frac_at r i) (λ j. exp_at r j)))
      (λ m. then_stops s (int_at s m) _ (int_stops s m) (tail_stops s)) (λ m. then_same (int_at s m) (int_at r m) _ _ (tail_stops s) (int_same m) (λ i z. tail-same i)) at h

  word_same : (w : List ℕ) (at : ℕ) → Small w → When n (word w s at) (word w r at)
  unfolding word
  word_same [] at k h = refl
  word_same (b ∷ w) at k h = if-alike n (eqb (byte s at) b) (eqb (byte r at) b) _ _ _ _ (test (λ c. eqb c b) at _ (word_stops s (b ∷ w) at k) h) (word_same w (at + 1) k.1) (λ k. refl) h

  -- arrays and objects; the number that counts down the items is enough in either text
  module _ (item jtem : ℕ → Result ℕ ℕ) (close : ℕ) (small : close < 256) (lies : (i : ℕ) → StopsWithin s i (item i)) (same : Same item jtem) where
    after_same : (k l : ℕ → Result ℕ ℕ) → ((i : ℕ) → StopsWithin s i (k i)) → (j : ℕ) → ((i : ℕ) → j < i → When n (k i) (l i)) → When n (after k close s j) (after l close r j)
    unfolding after
    after_same k l w j f h =
        let z = after_stops s item close small lies k w j in
        let m = a.bytes j (omega arith) in
        if-alike n (eqb (byte s j) 44) (eqb (byte r j) 44) _ _ _ _ (ap (λ (b : ℕ). eqb b 44) m)
        (λ h. let y = w (ws s (j + 1)) in let x = ws_stops s (j + 1) in rw (ws-same (j + 1) (omega arith)) (f (ws s (j + 1)) (omega arith) h))
        (λ h. if-alike n (eqb (byte s j) close) (eqb (byte r j) close) _ _ _ _ (ap (λ (b : ℕ). eqb b close) m) (λ h. refl) (λ h. refl) h)
        h

    series-same : (f g i : ℕ) → length s ≤ i + f → length r ≤ i + g → When n (series item close s f i) (series jtem close r g i)
    unfolding series
    series-same zero g i p q h = let z = a.long in absurd (omega arith)
    series-same (suc f) zero i p q h = let z = a.also in let y = series_stops s item close small lies (suc f) i in absurd (omega arith)
    series-same (suc f) (suc g) i p q h =
        let k : ℕ → (Result ℕ ℕ) = λ j. series item close s f j in
        let l : ℕ → (Result ℕ ℕ) = λ j. series jtem close r g j in
        let w : (j : ℕ) → StopsWithin s j (after k close s j) = after_stops s item close small lies k (series_stops s item close small lies f) in
        then_same (item i) (jtem i) (λ e. after k close s (ws s e)) (λ e. after l close r (ws r e)) (λ e. ws_then s e _ (w (ws s e))) (same i)
        (λ e m h. let y = lies i in let x = ws_stops s e in let v = w (ws s e) in
        rw (ws-same e (omega arith)) (after_same k l (series_stops s item close small lies f) (ws s e) (λ j o. series-same f g j (omega arith) (omega arith)) h))
        h

    list_same : Same (list_of item close s) (list_of jtem close r)
    unfolding list_of
    list_same i h = if-alike n (eqb (byte s i) close) (eqb (byte r i) close) _ _ _ _ (test (λ b. eqb b close) i _ (list_stops s item close small lies i) h)
        (λ h. refl) (series-same (length s) (length r) i (omega arith) (omega arith)) h

    inner-same : (at : ℕ) → When n (list_of item close s (ws s (at + 1))) (list_of jtem close r (ws r (at + 1)))
    inner-same at h = from-ws (list_of item close s) (list_of jtem close r) (list_stops s item close small lies) list_same (at + 1) h

  colon-same : Same (colon s) (colon r)
  unfolding colon
  colon-same j h = if-alike n (eqb (byte s j) 58) (eqb (byte r j) 58) _ _ _ _ (test (λ b. eqb b 58) j _ (colon_stops s j) h) (λ k. ap Ok (ws-same (j + 1) k)) (λ k. refl) h

  key-same : Same (key_at s) (key_at r)
  unfolding key_at
  key-same at h = then_same (string_at s at) (string_at r at) (λ e. colon s (ws s e)) (λ e. colon r (ws r e)) (λ e. ws_then s e _ (colon_stops s (ws s e))) (string-same at)
      (λ e z. from-ws (colon s) (colon r) (colon_stops s) colon-same e) h

  member-same : (v w : ℕ → Result ℕ ℕ) → ((i : ℕ) → StopsWithin s i (v i)) → Same v w → Same (member_of v s) (member_of w r)
  unfolding member_of
  member-same v w l f at h = then_same (key_at s at) (key_at r at) v w l (key-same at) (λ e z. f e) h

  of-same : (k : Kind) (x y v w : ℕ → Result ℕ ℕ) (at : ℕ) → When n (x at) (v at) → When n (y at) (w at) → When n (value_of k x y s at) (value_of k v w r at)
  unfolding value_of
  of-same bracket x y v w at f g h = f h
  of-same brace x y v w at f g h = g h
  of-same quote x y v w at f g h = string-same at h
  of-same true_word x y v w at f g h = word_same (116 ∷ 114 ∷ 117 ∷ 101 ∷ []) at (omega arith) h
  of-same false_word x y v w at f g h = word_same (102 ∷ 97 ∷ 108 ∷ 115 ∷ 101 ∷ []) at (omega arith) h
  of-same null_word x y v w at f g h = word_same (110 ∷ 117 ∷ 108 ∷ 108 ∷ []) at (omega arith) h
  of-same other x y v w at f g h = number_same at h

  value_same : (d : ℕ) → Same (value_at d s) (value_at d r)
  unfolding value_at array_of object_of
  value_same zero at h = let z = value_stops s zero at in rw (ap kind_of (a.bytes at (omega arith))) (of-same (kind_of (byte s at)) Err Err Err Err at (λ k. refl) (λ k. refl) h)
  value_same (suc d) at h = let z = value_stops s (suc d) at in rw (ap kind_of (a.bytes at (omega arith))) (of-same (kind_of (byte s at)) _ _ _ _ at
      (inner-same (λ j. value_at d s j) (λ j. value_at d r j) 93 (omega arith) (value_stops s d) (value_same d) at)
      (inner-same (λ i. member_of (λ j. value_at d s j) s i) (λ i. member_of (λ j. value_at d r j) r i) 125 (omega arith) (member_stops s (λ j. value_at d s j) (value_stops s d))
      (member-same (λ j. value_at d s j) (λ j. value_at d r j) (value_stops s d) (value_same d)) at) h)

  -- neither text is over before n
  end_same : Same (at_end s) (at_end r)
  unfolding at_end
  end_same j h =
      let y = end_stops s j in let x = a.long in let z = a.also in
      rw (ne_eqb j (length r) (λ q. omega arith), at_end) (rw (ne_eqb j (length s) (λ q. omega arith), at_end))

  ends_stops : (e : ℕ) → StopsWithin s e (at_end s (ws s e))
  ends_stops e = ws_then s e _ (end_stops s (ws s e))

  document-same : (d : ℕ) → When n (document_at d s) (document_at d r)
  unfolding document_at
  document-same d h =
      from-ws (λ i. and_then (value_at d s i) (λ e. at_end s (ws s e))) (λ i. and_then (value_at d r i) (λ e. at_end r (ws r e)))
      (λ i. then_stops s (value_at d s i) _ (value_stops s d i) ends_stops)
      (λ i. then_same (value_at d s i) (value_at d r i) _ _ ends_stops (value_same d i) (λ e z. from-ws (at_end s) (at_end r) (end_stops s) end_same e)) 0 h

-- what begins as s does, up to p and the byte there, fails at p as s does
pub same_place : (d : ℕ) (c t u : List ℕ) (p : ℕ) → p < length c → document_at d (c ++ t) ≡ Err p → document_at d (c ++ u) ≡ Err p
same_place d c t u p h e = let z : reach_of (document_at d (c ++ t)) ≡ p = ap reach_of e in document-same (length c) (c ++ t) (c ++ u) (alike t u c) d (omega arith) ∙ e
