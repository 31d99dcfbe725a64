-- What more depth changes: nothing, or the reader goes past the bracket at which it failed.
use Rattle.std.specs.Prelude.{Err, Ok, Result}
use Prim.Native.Nat.{ℕ, zero, suc, ◌+◌, ◌≤◌, ◌<◌}
use native.Mathlib.Omega.{arith}
use mathlib.Core.Path.{◌≡◌, refl, sym, ap, ◌∙◌}
use mathlib.Core.Logic.{◌⊎◌, inl, inr}
use mathlib.Core.List.{List}
use mathlib.Core.Bool.{true, or-true}
use lib.ListN.{length}
use lib.Dec.{eqb}
use Rattle.json_text.specs.Bytes.{byte, ws, and_then}
use Rattle.json_text.specs.Value.{Kind, bracket, brace, quote, true_word, false_word, null_word, other, kind_of, after, series, list_of, array_of, key_at, member_of, object_of, value_of, value_at, at_end, opens}
use Rattle.json_text.proofs.Bytes.{both}
use Rattle.json_text.proofs.Values.{after_comma, after_close, after-bad, list-none, list-some}
use Rattle.json_grammar.specs.Place.{reach_of}
use Rattle.json_grammar.proofs.Depth.{document_at}
use Rattle.json_grammar.proofs.Sound.{Of, kind_of_lem}
use Rattle.json_grammar.proofs.Stops.{StopsWithin, ws_then, after_stops, series_stops, member_stops, array_stops, object_stops, value_stops, end_stops}

-- d + 1 + k
abbrev pub deep : ℕ → ℕ → ℕ
deep zero k = suc k
deep (suc d) k = suc (deep d k)

pub deep_is : (d k : ℕ) → deep d k ≡ suc (d + k)
deep_is zero k = omega arith
deep_is (suc d) k = let h = deep_is d k in omega arith

module _ (s : List ℕ) where
  pub record PastBracket (q : Result ℕ ℕ) (r : ℕ → Result ℕ ℕ) : Type 0 where
    pub at : ℕ
    pub bad : q ≡ Err at
    pub bracket : opens (byte s at) ≡ true
    pub past : (k : ℕ) → at < reach_of (r k)

  abbrev pub Spread : Result ℕ ℕ → (ℕ → Result ℕ ℕ) → Type 0
  Spread q r = ((k : ℕ) → r k ≡ q) ⊎ PastBracket q r

  by : (q v : Result ℕ ℕ) (r w : ℕ → Result ℕ ℕ) → q ≡ v → ((k : ℕ) → r k ≡ w k) → Spread v w → Spread q r
  by q v r w e f (inl g) = inl (λ k. f k ∙ g k ∙ sym e)
  by q v r w e f (inr p) = inr (record { at = p.at; bad = e ∙ p.bad; bracket = p.bracket; past = λ k. let z = p.past k in let y = ap reach_of (f k) in omega arith })

  then-more : (q : Result ℕ ℕ) (k : ℕ → Result ℕ ℕ) → ((e : ℕ) → StopsWithin s e (k e)) → reach_of q ≤ reach_of (and_then q k)
  unfolding and_then
  then-more (Ok e) k f = (f e).from
  then-more (Err e) k f = omega arith

  then_spread : (q : Result ℕ ℕ) (r : ℕ → Result ℕ ℕ) (l : ℕ → Result ℕ ℕ) (m : ℕ → ℕ → Result ℕ ℕ) → Spread q r → ((e : ℕ) → Spread (l e) (λ k. m k e)) → ((k e : ℕ) → StopsWithin s e (m k e)) → Spread (and_then q l) (λ k. and_then (r k) (m k))
  unfolding and_then
  then_spread q r l m (inr p) g h = inr (record { at = p.at; bad = ap (λ (v : Result ℕ ℕ). and_then v l) p.bad; bracket = p.bracket; past = λ k. let z = p.past k in let y = then-more (r k) (m k) (h k) in omega arith })
  then_spread (Ok e) r l m (inl f) g h = by (l e) (l e) (λ k. and_then (r k) (m k)) (λ k. m k e) refl (λ k. ap (λ (v : Result ℕ ℕ). and_then v (m k)) (f k)) (g e)
  then_spread (Err e) r l m (inl f) g h = inl (λ k. ap (λ (v : Result ℕ ℕ). and_then v (m k)) (f k))

  module _ (item : ℕ → Result ℕ ℕ) (jtem : ℕ → ℕ → Result ℕ ℕ) (close : ℕ) (small : close < 256) (ok : (i : ℕ) → Spread (item i) (λ k. jtem k i)) (lies : (k i : ℕ) → StopsWithin s i (jtem k i)) where
    after_spread : (l : ℕ → Result ℕ ℕ) (m : ℕ → ℕ → Result ℕ ℕ) → ((i : ℕ) → Spread (l i) (λ k. m k i)) → (j : ℕ) → Spread (after l close s j) (λ k. after (m k) close s j)
    after_spread l m f j = both (eqb (byte s j) 44)
        (λ b. by _ _ _ _ (after_comma item close s l j b) (λ k. after_comma item close s (m k) j b) (f (ws s (j + 1))))
        (λ b. both (eqb (byte s j) close)
        (λ c. inl (λ k. after_close item close s (m k) j b c ∙ sym (after_close item close s l j b c)))
        (λ c. inl (λ k. after-bad item close s (m k) j b c ∙ sym (after-bad item close s l j b c))))

    series_spread : (f i : ℕ) → Spread (series item close s f i) (λ k. series (jtem k) close s f i)
    unfolding series
    series_spread zero i = inl (λ k. refl)
    series_spread (suc f) i =
        then_spread (item i) (λ k. jtem k i) (λ e. after (λ j. series item close s f j) close s (ws s e)) (λ k e. after (λ j. series (jtem k) close s f j) close s (ws s e)) (ok i)
        (λ e. after_spread (λ j. series item close s f j) (λ k j. series (jtem k) close s f j) (λ j. series_spread f j) (ws s e))
        (λ k e. ws_then s e _ (after_stops s (jtem k) close small (lies k) (λ j. series (jtem k) close s f j) (series_stops s (jtem k) close small (lies k) f) (ws s e)))

    list_spread : (i : ℕ) → Spread (list_of item close s i) (λ k. list_of (jtem k) close s i)
    list_spread i = both (eqb (byte s i) close)
        (λ c. inl (λ k. list-none (jtem k) close s i c ∙ sym (list-none item close s i c)))
        (λ c. by _ _ _ _ (list-some item close s i c) (λ k. list-some (jtem k) close s i c) (series_spread (length s) i))

  member_spread : (v : ℕ → Result ℕ ℕ) (w : ℕ → ℕ → Result ℕ ℕ) → ((i : ℕ) → Spread (v i) (λ k. w k i)) → ((k i : ℕ) → StopsWithin s i (w k i)) → (at : ℕ) → Spread (member_of v s at) (λ k. member_of (w k) s at)
  unfolding member_of
  member_spread v w f g at = then_spread (key_at s at) (λ k. key_at s at) v w (inl (λ k. refl)) f g

  -- where no depth is left an opening byte is bad, and any depth goes past it
  opened : (at : ℕ) (q : ℕ → Result ℕ ℕ) → opens (byte s at) ≡ true → ((k : ℕ) → StopsWithin s (at + 1) (q k)) → PastBracket (Err at) q
  opened at q b f = record { at = at; bad = refl; bracket = b; past = λ k. let z = f k in omega arith }

  opens_of : (b : ℕ) → (eqb b 91 ≡ true) ⊎ (eqb b 123 ≡ true) → opens b ≡ true
  unfolding opens
  opens_of b (inl e) = rw e
  opens_of b (inr e) = rw e (or-true (eqb b 91))

  leaf_spread : (at : ℕ) (x : ℕ → ℕ → Result ℕ ℕ) (y : ℕ → ℕ → Result ℕ ℕ) → ((k : ℕ) → StopsWithin s (at + 1) (x k at)) → ((k : ℕ) → StopsWithin s (at + 1) (y k at)) → (t : Kind) → Of s (byte s at) t →
      Spread (value_of t Err Err s at) (λ k. value_of t (x k) (y k) s at)
  unfolding value_of
  leaf_spread at x y f g bracket h = inr (opened at (λ k. x k at) (opens_of (byte s at) (inl h)) f)
  leaf_spread at x y f g brace h = inr (opened at (λ k. y k at) (opens_of (byte s at) (inr h)) g)
  leaf_spread at x y f g quote h = inl (λ k. refl)
  leaf_spread at x y f g true_word h = inl (λ k. refl)
  leaf_spread at x y f g false_word h = inl (λ k. refl)
  leaf_spread at x y f g null_word h = inl (λ k. refl)
  leaf_spread at x y f g other h = inl (λ k. refl)

  node_spread : (at : ℕ) (u v : ℕ → Result ℕ ℕ) (x y : ℕ → ℕ → Result ℕ ℕ) → Spread (u at) (λ k. x k at) → Spread (v at) (λ k. y k at) → (t : Kind) → Spread (value_of t u v s at) (λ k. value_of t (x k) (y k) s at)
  unfolding value_of
  node_spread at u v x y f g bracket = f
  node_spread at u v x y f g brace = g
  node_spread at u v x y f g quote = inl (λ k. refl)
  node_spread at u v x y f g true_word = inl (λ k. refl)
  node_spread at u v x y f g false_word = inl (λ k. refl)
  node_spread at u v x y f g null_word = inl (λ k. refl)
  node_spread at u v x y f g other = inl (λ k. refl)

  value_spread : (d at : ℕ) → Spread (value_at d s at) (λ k. value_at (deep d k) s at)
  unfolding value_at array_of object_of
  value_spread zero at = leaf_spread at (λ k i. array_of (λ j. value_at k s j) s i) (λ k i. object_of (λ j. value_at k s j) s i) (λ k. array_stops s k at) (λ k. object_stops s k at) (kind_of (byte s at)) (kind_of_lem s (byte s at))
  value_spread (suc d) at = node_spread at (λ i. array_of (λ j. value_at d s j) s i) (λ i. object_of (λ j. value_at d s j) s i) (λ k i. array_of (λ j. value_at (deep d k) s j) s i) (λ k i. object_of (λ j. value_at (deep d k) s j) s i)
      (list_spread (λ j. value_at d s j) (λ k j. value_at (deep d k) s j) 93 (omega arith) (λ j. value_spread d j) (λ k j. value_stops s (deep d k) j) (ws s (at + 1)))
      (list_spread (λ i. member_of (λ j. value_at d s j) s i) (λ k i. member_of (λ j. value_at (deep d k) s j) s i) 125 (omega arith)
      (member_spread (λ j. value_at d s j) (λ k j. value_at (deep d k) s j) (λ j. value_spread d j) (λ k j. value_stops s (deep d k) j))
      (λ k i. member_stops s (λ j. value_at (deep d k) s j) (value_stops s (deep d k)) i) (ws s (at + 1)))
      (kind_of (byte s at))

  pub document_spread : (d : ℕ) → Spread (document_at d s) (λ k. document_at (deep d k) s)
  unfolding document_at
  document_spread d = then_spread (value_at d s (ws s 0)) (λ k. value_at (deep d k) s (ws s 0)) (λ e. at_end s (ws s e)) (λ k e. at_end s (ws s e)) (value_spread d (ws s 0)) (λ e. inl (λ k. refl)) (λ k e. ws_then s e _ (end_stops s (ws s e)))
