-- A value stays one at more depth.
use Rattle.std.specs.Prelude.{Err, Ok, Result}
use Prim.Native.Nat.{ℕ, zero, suc, ◌+◌, ◌≤◌}
use native.Mathlib.Omega.{arith}
use mathlib.Core.Path.{◌≡◌, refl, sym, ◌∙◌, subst}
use mathlib.Core.List.{List}
use lib.ListN.{length}
use lib.Dec.{eqb}
use Rattle.json_text.specs.Bytes.{byte, ws}
use Rattle.json_text.specs.Value.{Kind, bracket, brace, quote, true_word, false_word, null_word, other, kind_of, series, list_of, array_of, key_at, member_of, object_of, value_of, value_at}
use Rattle.json_text.proofs.Bytes.{split, both}
use Rattle.json_text.proofs.Values.{after_comma, after_close, after-bad, series_then, series-bad, list-none, list-some, member_at_lem, member-bad}

-- a scan is not both
pub clash : {A : Type 0} {r : Result ℕ ℕ} {e k : ℕ} → r ≡ Err k → r ≡ Ok e → A
clash p q = let z : ◌≡◌ {A = ℕ} 0 1 = cc in absurd (omega arith)

module _ (s : List ℕ) where
  -- ---- a value stays one at more depth

  module _ (item item' : ℕ → Result ℕ ℕ) (close : ℕ) (up : (i e : ℕ) → item i ≡ Ok e → item' i ≡ Ok e) where
    series_raise : (f i e : ℕ) → series item close s f i ≡ Ok e → series item' close s f i ≡ Ok e
    unfolding series
    series_raise zero i e q = clash refl q
    series_raise (suc f) i e q = go (item i) refl (λ j. series_raise f j e)
      where
        go : (r : Result ℕ ℕ) → item i ≡ r → ((j : ℕ) → series item close s f j ≡ Ok e → series item' close s f j ≡ Ok e) → series item' close s (suc f) i ≡ Ok e
        go (Err k) p ih = clash (series-bad item close s f i k p) q
        go (Ok k) p ih =
            let j : ℕ = ws s k in
            let x = sym (series_then item close s f i k p) ∙ q in
            let y = series_then item' close s f i k (up i k p) in
            both (eqb (byte s j) 44)
            (λ b. y ∙ after_comma item close s _ j b ∙ ih (ws s (j + 1)) (sym (after_comma item close s _ j b) ∙ x))
            (λ b. both (eqb (byte s j) close)
            (λ c. y ∙ after_close item close s _ j b c ∙ sym (after_close item close s _ j b c) ∙ x)
            (λ c. clash (after-bad item close s _ j b c) x))

    list_raise : (i e : ℕ) → list_of item close s i ≡ Ok e → list_of item' close s i ≡ Ok e
    list_raise i e q = both (eqb (byte s i) close)
        (λ b. list-none item' close s i b ∙ sym (list-none item close s i b) ∙ q)
        (λ b. list-some item' close s i b ∙ series_raise (length s) i e (sym (list-some item close s i b) ∙ q))

  member_raise : (v v' : ℕ → Result ℕ ℕ) → ((i e : ℕ) → v i ≡ Ok e → v' i ≡ Ok e) → (i e : ℕ) → member_of v s i ≡ Ok e → member_of v' s i ≡ Ok e
  member_raise v v' up i e q = go (key_at s i) refl
    where
      go : (r : Result ℕ ℕ) → key_at s i ≡ r → member_of v' s i ≡ Ok e
      go (Err k) p = clash (member-bad s v i k p) q
      go (Ok k) p = member_at_lem s v' i k p ∙ up k e (sym (member_at_lem s v i k p) ∙ q)

  kind_raise : (a o a' o' : ℕ → Result ℕ ℕ) (i e : ℕ) → (a i ≡ Ok e → a' i ≡ Ok e) → (o i ≡ Ok e → o' i ≡ Ok e) → (k : Kind) → value_of k a o s i ≡ Ok e → value_of k a' o' s i ≡ Ok e
  unfolding value_of
  kind_raise a o a' o' i e f g bracket q = f q
  kind_raise a o a' o' i e f g brace q = g q
  kind_raise a o a' o' i e f g quote q = q
  kind_raise a o a' o' i e f g true_word q = q
  kind_raise a o a' o' i e f g false_word q = q
  kind_raise a o a' o' i e f g null_word q = q
  kind_raise a o a' o' i e f g other q = q

  value_raise : (d i e : ℕ) → value_at d s i ≡ Ok e → value_at (suc d) s i ≡ Ok e
  unfolding value_at array_of object_of
  value_raise zero i e q = kind_raise Err Err _ _ i e (λ z. clash refl z) (λ z. clash refl z) (kind_of (byte s i)) q
  value_raise (suc d) i e q =
      kind_raise _ _ _ _ i e
      (λ z. list_raise (λ j. value_at d s j) (λ j. value_at (suc d) s j) 93 (λ j k. value_raise d j k) (ws s (i + 1)) e z)
      (λ z. list_raise (λ j. member_of (λ k. value_at d s k) s j) (λ j. member_of (λ k. value_at (suc d) s k) s j) 125 (member_raise (λ k. value_at d s k) (λ k. value_at (suc d) s k) (λ j k. value_raise d j k)) (ws s (i + 1)) e z)
      (kind_of (byte s i)) q

  pub raise : (d n i e : ℕ) → d ≤ n → value_at d s i ≡ Ok e → value_at n s i ≡ Ok e
  raise d zero i e h q = let z : d ≡ 0 = omega arith in subst (λ (k : ℕ). value_at k s i ≡ Ok e) z q
  raise d (suc n) i e h q = split d n (λ k. value_raise n i e (raise d n i e k q)) (λ k. let z : d ≡ suc n = omega arith in subst (λ (k : ℕ). value_at k s i ≡ Ok e) z q)
