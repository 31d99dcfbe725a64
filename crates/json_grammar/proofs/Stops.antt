-- Where a scan stops, well or not: not before its start, and inside the text.
use Rattle.std.specs.Prelude.{Err, Ok, Result}
use Prim.Native.Nat.{ℕ, zero, suc, ◌+◌, ◌-◌, ◌≤◌, ◌<◌}
use native.Mathlib.Omega.{arith}
use mathlib.Core.Path.{◌≡◌, refl}
use mathlib.Core.List.{List, [], ◌∷◌}
use mathlib.Core.Bool.{Bool, true, false}
use lib.ListN.{length, drop, length-drop}
use lib.Dec.{eqb}
use borrow.Author.Tests.{eqb-true}
use Rattle.json_text.specs.Bytes.{byte, run, past, is_ws, ws, word, and_then}
use Rattle.json_text.specs.Strings.{text_step, text, string_at}
use Rattle.json_text.specs.Number.{is_digit, digits_end, optional, is_minus, is_sign, some_digits, int_at, frac_at, is_exp, exp_at, number_at}
use Rattle.json_text.specs.Value.{Kind, bracket, brace, quote, true_word, false_word, null_word, other, kind_of, after, series, list_of, array_of, colon, key_at, member_of, object_of, value_of, value_at, at_end}
use Rattle.json_text.specs.declared.string.State.{State}
use Rattle.json_text.specs.declared.string.State.TheVariants.{Plain}
use Rattle.json_text.specs.declared.string.Move.{Move}
use Rattle.json_text.specs.declared.string.Move.TheVariants.{Go, Shut, Stuck}
use Rattle.json_text.proofs.Bytes.{split, both, inside=, past-inside, byte_out}
use Rattle.json_grammar.specs.Place.{reach_of}
use Rattle.json_grammar.proofs.Depth.{document_at}

abbrev pub Small : List ℕ → Type 0
Small [] = Unit {0}
Small (b ∷ bs) = (b < 256) × Small bs

run-upto : (p : ℕ → Bool) (l : List ℕ) → run p l ≤ length l
unfolding run
run-upto p [] = omega arith
run-upto p (b ∷ l) = let h = run-upto p l in both (p b) (λ e. rw (e, run) (omega arith)) (λ e. rw (e, run) (omega arith))

pub record Spans (t : State) (l : List ℕ) (at : ℕ) (q : Result ℕ ℕ) : Type 0 where
  pub from : at ≤ reach_of q
  pub upto : reach_of q ≤ at + length l

pub text_spans : (t : State) (l : List ℕ) (at : ℕ) → Spans t l at (text t l at)
unfolding text
text_spans t [] at = record { from = omega arith; upto = omega arith }
text_spans t (b ∷ l) at = go (text_step t b) refl (λ u. text_spans u l (at + 1))
  where
    go : (v : Move) → text_step t b ≡ v → ((u : State) → Spans u l (at + 1) (text u l (at + 1))) → Spans t (b ∷ l) at (text t (b ∷ l) at)
    go (Go u) e f = let r = f u in rw (e, text) (record { from = omega arith; upto = omega arith })
    go Shut e f = rw (e, text) (record { from = omega arith; upto = omega arith })
    go Stuck e f = rw (e, text) (record { from = omega arith; upto = omega arith })

module _ (s : List ℕ) where
  -- not before `at`, and not past the end unless `at` is
  pub record StopsWithin (at : ℕ) (q : Result ℕ ℕ) : Type 0 where
    pub from : at ≤ reach_of q
    pub upto : reach_of q - length s ≤ at - length s

  pub later : {at k : ℕ} {q : Result ℕ ℕ} → at ≤ k → k - length s ≤ at - length s → StopsWithin k q → StopsWithin at q
  later h g w = record { from = omega arith; upto = omega arith }

  pub hit : (at k : ℕ) → eqb (byte s at) k ≡ true → k < 256 → at < length s
  hit at k e h = inside= s at k (eqb-true _ _ e) h

  pub stays : (at : ℕ) (q : Result ℕ ℕ) → reach_of q ≡ at → StopsWithin at q
  stays at q e = record { from = omega arith; upto = omega arith }

  pub steps : (at : ℕ) (q : Result ℕ ℕ) → at < length s → StopsWithin (at + 1) q → StopsWithin at q
  steps at q h w = record { from = omega arith; upto = omega arith }

  pub then_stops : {at : ℕ} (q : Result ℕ ℕ) (k : ℕ → Result ℕ ℕ) → StopsWithin at q → ((e : ℕ) → StopsWithin e (k e)) → StopsWithin at (and_then q k)
  unfolding and_then
  then_stops (Ok e) k w f = later w.from w.upto (f e)
  then_stops (Err e) k w f = w

  pub past_stops : (p : ℕ → Bool) (at : ℕ) → StopsWithin at (Ok (past p s at))
  unfolding past
  past_stops p at = let h = run-upto p (drop at s) in let g = length-drop at s in record { from = omega arith; upto = omega arith }

  pub ws_stops : (at : ℕ) → StopsWithin at (Ok (ws s at))
  unfolding ws
  ws_stops at = past_stops is_ws at

  pub ws_then : (at : ℕ) (q : Result ℕ ℕ) → StopsWithin (ws s at) q → StopsWithin at q
  ws_then at q w = let z = ws_stops at in later z.from z.upto w

  pub text_stops : (t : State) (at : ℕ) → StopsWithin at (text t (drop at s) at)
  text_stops t at = let r = text_spans t (drop at s) at in let g = length-drop at s in record { from = omega arith; upto = omega arith }

  pub string_stops : (at : ℕ) → StopsWithin at (string_at s at)
  unfolding string_at
  string_stops at = both (eqb (byte s at) 34)
      (λ e. rw (e, string_at) (steps at _ (hit at 34 e (omega arith)) (text_stops Plain (at + 1))))
      (λ e. rw (e, string_at) (stays at _ refl))

  pub some_stops : (at : ℕ) → StopsWithin at (some_digits s at)
  unfolding some_digits is_digit digits_end
  some_stops at = both (is_digit (byte s at))
      (λ e. rw (e, some_digits) (steps at _ (past-inside is_digit s at refl e) (past_stops is_digit (at + 1))))
      (λ e. rw (e, some_digits) (stays at _ refl))

  pub int_stops : (at : ℕ) → StopsWithin at (int_at s at)
  unfolding int_at
  int_stops at = both (eqb (byte s at) 48) (λ e. let h = hit at 48 e (omega arith) in rw (e, int_at) (record { from = omega arith; upto = omega arith })) (λ e. rw (e, int_at) (some_stops at))

  pub frac_stops : (at : ℕ) → StopsWithin at (frac_at s at)
  unfolding frac_at
  frac_stops at = both (eqb (byte s at) 46) (λ e. rw (e, frac_at) (steps at _ (hit at 46 e (omega arith)) (some_stops (at + 1)))) (λ e. rw (e, frac_at) (stays at _ refl))

  pub optional_stops : (p : ℕ → Bool) (at : ℕ) → p 256 ≡ false → StopsWithin at (Ok (optional p s at))
  unfolding optional
  optional_stops p at n = both (p (byte s at))
      (λ e. let h = past-inside p s at n e in rw (e, optional) (record { from = omega arith; upto = omega arith }))
      (λ e. rw (e, optional) (stays at _ refl))

  pub exp_stops : (at : ℕ) → StopsWithin at (exp_at s at)
  unfolding exp_at is_exp is_sign
  exp_stops at = both (is_exp (byte s at))
      (λ e. let z = optional_stops is_sign (at + 1) refl in rw (e, exp_at) (steps at _ (past-inside is_exp s at refl e) (later z.from z.upto (some_stops (optional is_sign s (at + 1))))))
      (λ e. rw (e, exp_at) (stays at _ refl))

  -- what stands after a number's whole digits
  pub tail_stops : (i : ℕ) → StopsWithin i (and_then (frac_at s i) (λ j. exp_at s j))
  tail_stops i = then_stops (frac_at s i) (λ j. exp_at s j) (frac_stops i) exp_stops

  pub number_stops : (at : ℕ) → StopsWithin at (number_at s at)
  unfolding number_at is_minus
  number_stops at = let z = optional_stops is_minus at refl in later z.from z.upto (then_stops (int_at s (optional is_minus s at)) _ (int_stops (optional is_minus s at)) tail_stops)

  pub word_stops : (w : List ℕ) (at : ℕ) → Small w → StopsWithin at (word w s at)
  unfolding word
  word_stops [] at h = stays at _ refl
  word_stops (b ∷ w) at h = let r = word_stops w (at + 1) h.1 in both (eqb (byte s at) b)
      (λ e. rw (e, word) (steps at _ (hit at b e h.0) r))
      (λ e. rw (e, word) (stays at _ refl))

  module _ (item : ℕ → Result ℕ ℕ) (close : ℕ) (small : close < 256) (ok : (i : ℕ) → StopsWithin i (item i)) where
    pub after_stops : (next : ℕ → Result ℕ ℕ) → ((i : ℕ) → StopsWithin i (next i)) → (j : ℕ) → StopsWithin j (after next close s j)
    unfolding after
    after_stops next f j = both (eqb (byte s j) 44)
        (λ e. rw (e, after) (steps j _ (hit j 44 e (omega arith)) (ws_then (j + 1) _ (f (ws s (j + 1))))))
        (λ e. rw (e, after) (both (eqb (byte s j) close)
        (λ c. let h = hit j close c small in rw c (record { from = omega arith; upto = omega arith }))
        (λ c. rw c (stays j _ refl))))

    pub series_stops : (f i : ℕ) → StopsWithin i (series item close s f i)
    unfolding series
    series_stops zero i = stays i _ refl
    series_stops (suc f) i = then_stops (item i) _ (ok i) (λ e. ws_then e _ (after_stops (λ i. series item close s f i) (λ i. series_stops f i) (ws s e)))

    pub list_stops : (i : ℕ) → StopsWithin i (list_of item close s i)
    unfolding list_of
    list_stops i = both (eqb (byte s i) close)
        (λ c. let h = hit i close c small in rw (c, list_of) (record { from = omega arith; upto = omega arith }))
        (λ c. rw (c, list_of) (series_stops (length s) i))

  pub colon_stops : (j : ℕ) → StopsWithin j (colon s j)
  unfolding colon
  colon_stops j = both (eqb (byte s j) 58)
      (λ e. rw (e, colon) (steps j _ (hit j 58 e (omega arith)) (ws_stops (j + 1))))
      (λ e. rw (e, colon) (stays j _ refl))

  pub key_stops : (at : ℕ) → StopsWithin at (key_at s at)
  unfolding key_at
  key_stops at = then_stops (string_at s at) _ (string_stops at) (λ e. ws_then e _ (colon_stops (ws s e)))

  pub member_stops : (v : ℕ → Result ℕ ℕ) → ((i : ℕ) → StopsWithin i (v i)) → (at : ℕ) → StopsWithin at (member_of v s at)
  unfolding member_of
  member_stops v f at = then_stops (key_at s at) v (key_stops at) f

  -- a value by its kind, arrays and objects given
  pub of_stops : (k : Kind) (a o : ℕ → Result ℕ ℕ) (at : ℕ) → StopsWithin at (a at) → StopsWithin at (o at) → StopsWithin at (value_of k a o s at)
  unfolding value_of
  of_stops bracket a o at f g = f
  of_stops brace a o at f g = g
  of_stops quote a o at f g = string_stops at
  of_stops true_word a o at f g = word_stops (116 ∷ 114 ∷ 117 ∷ 101 ∷ []) at (omega arith)
  of_stops false_word a o at f g = word_stops (102 ∷ 97 ∷ 108 ∷ 115 ∷ 101 ∷ []) at (omega arith)
  of_stops null_word a o at f g = word_stops (110 ∷ 117 ∷ 108 ∷ 108 ∷ []) at (omega arith)
  of_stops other a o at f g = number_stops at

  -- what stands after an opening byte
  pub inner_stops : (item : ℕ → Result ℕ ℕ) (close at : ℕ) → close < 256 → at < length s → ((i : ℕ) → StopsWithin i (item i)) → StopsWithin at (list_of item close s (ws s (at + 1)))
  inner_stops item close at h g f = steps at _ g (ws_then (at + 1) _ (list_stops item close h f (ws s (at + 1))))

  pub value_stops : (d at : ℕ) → StopsWithin at (value_at d s at)
  unfolding value_at value_of kind_of array_of object_of
  value_stops zero at = of_stops (kind_of (byte s at)) Err Err at (stays at _ refl) (stays at _ refl)
  value_stops (suc d) at = split (length s) at
      (λ h. rw (byte_out s at h) (number_stops at))
      (λ h. of_stops (kind_of (byte s at)) (λ i. array_of (λ j. value_at d s j) s i) (λ i. object_of (λ j. value_at d s j) s i) at
      (inner_stops (λ j. value_at d s j) 93 at (omega arith) h (λ j. value_stops d j))
      (inner_stops (λ i. member_of (λ j. value_at d s j) s i) 125 at (omega arith) h (member_stops (λ j. value_at d s j) (λ j. value_stops d j))))

  pub array_stops : (d at : ℕ) → StopsWithin (at + 1) (array_of (λ j. value_at d s j) s at)
  unfolding array_of
  array_stops d at = ws_then (at + 1) _ (list_stops (λ j. value_at d s j) 93 (omega arith) (value_stops d) (ws s (at + 1)))

  pub object_stops : (d at : ℕ) → StopsWithin (at + 1) (object_of (λ j. value_at d s j) s at)
  unfolding object_of
  object_stops d at = ws_then (at + 1) _ (list_stops (λ i. member_of (λ j. value_at d s j) s i) 125 (omega arith) (member_stops (λ j. value_at d s j) (value_stops d)) (ws s (at + 1)))

  pub end_stops : (e : ℕ) → StopsWithin e (at_end s e)
  unfolding at_end
  end_stops e = both (eqb e (length s)) (λ q. rw (q, at_end) (stays e _ refl)) (λ q. rw (q, at_end) (stays e _ refl))

  pub document_stops : (d : ℕ) → StopsWithin 0 (document_at d s)
  unfolding document_at
  document_stops d = ws_then 0 _ (then_stops (value_at d s (ws s 0)) _ (value_stops d (ws s 0)) (λ e. ws_then e _ (end_stops (ws s e))))
