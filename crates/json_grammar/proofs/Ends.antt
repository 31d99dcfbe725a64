-- Where a scan ends that reads a byte or more: past its start, and inside the text.
use Rattle.std.specs.Prelude.{Err, Ok, Result}
use Prim.Native.Nat.{ℕ, zero, suc, ◌+◌, ◌≤◌, ◌<◌}
use native.Mathlib.Omega.{arith}
use mathlib.Core.Path.{◌≡◌, refl}
use mathlib.Core.List.{List, [], ◌∷◌}
use mathlib.Core.Bool.{true}
use lib.ListN.{length, drop}
use lib.Dec.{eqb}
use Rattle.json_text.specs.Bytes.{byte, ws, word, and_then}
use Rattle.json_text.specs.Strings.{text, string_at}
use Rattle.json_text.specs.Number.{is_digit, digits_end, optional, is_minus, some_digits, int_at, frac_at, exp_at, number_at}
use Rattle.json_text.specs.Value.{Kind, bracket, brace, quote, true_word, false_word, null_word, other, kind_of, array_of, colon, key_at, object_of, value_of, value_at}
use Rattle.json_text.specs.declared.string.State.TheVariants.{Plain}
use Rattle.json_text.proofs.Bytes.{both, past-inside}
use Rattle.json_grammar.proofs.Sound.{Of, kind_of_lem}
use Rattle.json_grammar.proofs.Stops.{Small, StopsWithin, hit, past_stops, ws_stops, ws_then, text_stops, optional_stops, tail_stops, word_stops, colon_stops, array_stops, object_stops}

module _ (s : List ℕ) where
  abbrev pub Past : ℕ → Result ℕ ℕ → Type 0
  Past at (Ok e) = (at < e) × (e ≤ length s)
  Past at (Err e) = Unit {0}

  -- a scan that goes on from behind a byte
  behind : (at : ℕ) (q : Result ℕ ℕ) → at < length s → StopsWithin s (at + 1) q → Past at q
  behind at (Ok e) h w = (omega arith, omega arith)
  behind at (Err e) h w = tt

  farther : (i j : ℕ) (q : Result ℕ ℕ) → i ≤ j → Past j q → Past i q
  farther i j (Ok e) h p = (omega arith, p.1)
  farther i j (Err e) h p = tt

  then-past : (i : ℕ) (q : Result ℕ ℕ) (k : ℕ → Result ℕ ℕ) → Past i q → ((e : ℕ) → StopsWithin s e (k e)) → Past i (and_then q k)
  unfolding and_then
  then-past i (Err e) k p f = tt
  then-past i (Ok e) k p f = go (k e) (f e)
    where
      go : (q : Result ℕ ℕ) → StopsWithin s e q → Past i q
      go (Ok j) w = (omega arith, omega arith)
      go (Err j) w = tt

  -- ---- numbers, words and strings

  some-past : (at : ℕ) → Past at (some_digits s at)
  unfolding some_digits is_digit digits_end
  some-past at = both (is_digit (byte s at))
      (λ e. rw (e, some_digits) (behind at _ (past-inside is_digit s at refl e) (past_stops s is_digit (at + 1))))
      (λ e. rw (e, some_digits) tt)

  int-past : (at : ℕ) → Past at (int_at s at)
  unfolding int_at
  int-past at = both (eqb (byte s at) 48)
      (λ e. let h = hit s at 48 e (omega arith) in rw (e, int_at) (omega arith, omega arith))
      (λ e. rw (e, int_at) (some-past at))

  number_past : (at : ℕ) → Past at (number_at s at)
  unfolding number_at is_minus
  number_past at =
      let z = optional_stops s is_minus at refl in
      let m : ℕ = optional is_minus s at in
      farther at m (number_at s at) z.from (then-past m (int_at s m) (λ i. and_then (frac_at s i) (λ j. exp_at s j)) (int-past m) (tail_stops s))

  word-past : (b : ℕ) (w : List ℕ) (at : ℕ) → b < 256 → Small w → Past at (word (b ∷ w) s at)
  unfolding word
  word-past b w at h k = both (eqb (byte s at) b)
      (λ e. rw (e, word) (behind at (word w s (at + 1)) (hit s at b e h) (word_stops s w (at + 1) k)))
      (λ e. rw (e, word) tt)

  string-past : (at : ℕ) → Past at (string_at s at)
  unfolding string_at
  string-past at = both (eqb (byte s at) 34)
      (λ e. rw (e, string_at) (behind at (text Plain (drop (at + 1) s) (at + 1)) (hit s at 34 e (omega arith)) (text_stops s Plain (at + 1))))
      (λ e. rw (e, string_at) tt)

  -- ---- a structural byte with white space around it, or on one side, as the reader skips it

  pub token-ends : (at k : ℕ) → eqb (byte s (ws s at)) k ≡ true → k < 256 → (at ≤ ws s (ws s at + 1)) × (ws s (ws s at + 1) ≤ length s)
  token-ends at k e h =
      let l = hit s (ws s at) k e h in
      let q = ws_stops s at in
      let r = ws_stops s (ws s at + 1) in
      (omega arith, omega arith)

  pub begin-ends : (at k : ℕ) → eqb (byte s at) k ≡ true → k < 256 → (at ≤ ws s (at + 1)) × (ws s (at + 1) ≤ length s)
  begin-ends at k e h = let l = hit s at k e h in let r = ws_stops s (at + 1) in (omega arith, omega arith)

  pub close-ends : (at k : ℕ) → eqb (byte s (ws s at)) k ≡ true → k < 256 → (at ≤ ws s at + 1) × (ws s at + 1 ≤ length s)
  close-ends at k e h = let l = hit s (ws s at) k e h in let r = ws_stops s at in (omega arith, omega arith)

  pub shut-ends : (at k : ℕ) → eqb (byte s at) k ≡ true → k < 256 → (at ≤ at + 1) × (at + 1 ≤ length s)
  shut-ends at k e h = let l = hit s at k e h in (omega arith, omega arith)

  -- ---- names and values

  pub key-past : (at : ℕ) → Past at (key_at s at)
  unfolding key_at
  key-past at = then-past at (string_at s at) (λ e. colon s (ws s e)) (string-past at) (λ e. ws_then s e _ (colon_stops s (ws s e)))

  kind-past : (at : ℕ) (a o : ℕ → Result ℕ ℕ) → (eqb (byte s at) 91 ≡ true → Past at (a at)) → (eqb (byte s at) 123 ≡ true → Past at (o at)) → (k : Kind) → Of s (byte s at) k → Past at (value_of k a o s at)
  unfolding value_of
  kind-past at a o p q bracket h = p h
  kind-past at a o p q brace h = q h
  kind-past at a o p q quote h = string-past at
  kind-past at a o p q true_word h = word-past 116 (114 ∷ 117 ∷ 101 ∷ []) at (omega arith) (omega arith)
  kind-past at a o p q false_word h = word-past 102 (97 ∷ 108 ∷ 115 ∷ 101 ∷ []) at (omega arith) (omega arith)
  kind-past at a o p q null_word h = word-past 110 (117 ∷ 108 ∷ 108 ∷ []) at (omega arith) (omega arith)
  kind-past at a o p q other h = number_past at

  pub value-past : (d at : ℕ) → Past at (value_at d s at)
  unfolding value_at
  value-past zero at = kind-past at Err Err (λ e. tt) (λ e. tt) (kind_of (byte s at)) (kind_of_lem s (byte s at))
  value-past (suc d) at =
      kind-past at (λ i. array_of (λ j. value_at d s j) s i) (λ i. object_of (λ j. value_at d s j) s i)
      (λ e. behind at _ (hit s at 91 e (omega arith)) (array_stops s d at))
      (λ e. behind at _ (hit s at 123 e (omega arith)) (object_stops s d at))
      (kind_of (byte s at)) (kind_of_lem s (byte s at))
