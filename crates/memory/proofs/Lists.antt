-- Lists: an element taken out, put in, moved; a list by its elements.
use Prim.Native.Nat.{ℕ, zero, suc, ◌≤◌, ◌<◌, min, zero-le, suc-le-suc}
use native.Mathlib.Nat.{not-suc-le-zero, le_of_suc-le-suc, zero-min, min-zero, suc-min-suc}
use native.Mathlib.Omega.{arith}
use native.Mathlib.Decide.{ℕ_discrete}
use mathlib.Core.Path.{◌≡◌, refl, sym, ap, ap₂, ◌∙◌}
use mathlib.Core.List.{List, [], ◌∷◌, map}
use lib.ListN.{length, get_or, set, take}
use lib.Seq.{get_or-set_same}
use Rattle.memory.specs.Bytes.{remove_at, insert_at, move, tab}

pub same? : (m n : ℕ) → Dec (m ≡ n)
same? m n = ℕ_discrete m n

module _ {A : Type 0} where
  pub length-remove_at : (k : ℕ) (l : List A) → k < length l → suc (length (remove_at k l)) ≡ length l
  unfolding remove_at
  length-remove_at k [] h = absurd (not-suc-le-zero h)
  length-remove_at zero (x ∷ l) h = refl
  length-remove_at (suc k) (x ∷ l) h = ap suc (length-remove_at k l (le_of_suc-le-suc h))

  pub length-insert_at : (k : ℕ) (y : A) (l : List A) → length (insert_at k y l) ≡ suc (length l)
  unfolding insert_at
  length-insert_at zero y l = refl
  length-insert_at (suc k) y [] = refl
  length-insert_at (suc k) y (x ∷ l) = ap suc (length-insert_at k y l)

  pub insert_removed : (k : ℕ) (z : A) (l : List A) → k < length l → insert_at k (get_or l k z) (remove_at k l) ≡ l
  unfolding remove_at insert_at
  insert_removed k z [] h = absurd (not-suc-le-zero h)
  insert_removed zero z (x ∷ l) h = refl
  insert_removed (suc k) z (x ∷ l) h = ap (λ (t : List A). x ∷ t) (insert_removed k z l (le_of_suc-le-suc h))

  pub remove_inserted : (k : ℕ) (y : A) (l : List A) → k ≤ length l → remove_at k (insert_at k y l) ≡ l
  unfolding remove_at insert_at
  remove_inserted zero y l h = refl
  remove_inserted (suc k) y [] h = absurd (not-suc-le-zero h)
  remove_inserted (suc k) y (x ∷ l) h = ap (λ (t : List A). x ∷ t) (remove_inserted k y l (le_of_suc-le-suc h))

  pub get_or_inserted : (k : ℕ) (y z : A) (l : List A) → k ≤ length l → get_or (insert_at k y l) k z ≡ y
  unfolding insert_at
  get_or_inserted zero y z l h = refl
  get_or_inserted (suc k) y z [] h = absurd (not-suc-le-zero h)
  get_or_inserted (suc k) y z (x ∷ l) h = get_or_inserted k y z l (le_of_suc-le-suc h)

  pub set_inserted : (k : ℕ) (y w : A) (l : List A) → k ≤ length l → set (insert_at k y l) k w ≡ insert_at k w l
  unfolding insert_at
  set_inserted zero y w l h = refl
  set_inserted (suc k) y w [] h = absurd (not-suc-le-zero h)
  set_inserted (suc k) y w (x ∷ l) h = ap (λ (t : List A). x ∷ t) (set_inserted k y w l (le_of_suc-le-suc h))

  pub remove-set : (k : ℕ) (w : A) (l : List A) → remove_at k (set l k w) ≡ remove_at k l
  unfolding remove_at
  remove-set k w [] = refl
  remove-set zero w (x ∷ l) = refl
  remove-set (suc k) w (x ∷ l) = ap (λ (t : List A). x ∷ t) (remove-set k w l)

  -- the next element put in before itself is put in after itself
  pub insert_slide : (k : ℕ) (z : A) (l : List A) → k < length l → insert_at k (get_or l k z) l ≡ insert_at (suc k) (get_or l k z) l
  unfolding insert_at
  insert_slide k z [] h = absurd (not-suc-le-zero h)
  insert_slide zero z (x ∷ l) h = refl
  insert_slide (suc k) z (x ∷ l) h = ap (λ (t : List A). x ∷ t) (insert_slide k z l (le_of_suc-le-suc h))

  -- the elements beside one that was put in
  pub get_d_insert_below : (k i : ℕ) (y z : A) (l : List A) → k ≤ length l → i < k → get_or (insert_at k y l) i z ≡ get_or l i z
  unfolding insert_at
  get_d_insert_below zero i y z l h q = absurd (not-suc-le-zero q)
  get_d_insert_below (suc k) i y z [] h q = absurd (not-suc-le-zero h)
  get_d_insert_below (suc k) zero y z (x ∷ l) h q = refl
  get_d_insert_below (suc k) (suc i) y z (x ∷ l) h q = get_d_insert_below k i y z l (le_of_suc-le-suc h) (le_of_suc-le-suc q)

  pub get_d_insert_above : (k i : ℕ) (y z : A) (l : List A) → k ≤ length l → k ≤ i → get_or (insert_at k y l) (suc i) z ≡ get_or l i z
  unfolding insert_at
  get_d_insert_above zero i y z l h q = refl
  get_d_insert_above (suc k) i y z [] h q = absurd (not-suc-le-zero h)
  get_d_insert_above (suc k) zero y z (x ∷ l) h q = absurd (not-suc-le-zero q)
  get_d_insert_above (suc k) (suc i) y z (x ∷ l) h q = get_d_insert_above k i y z l (le_of_suc-le-suc h) (le_of_suc-le-suc q)

  -- those beside one that was taken out
  pub get_d_remove_below : (k i : ℕ) (z : A) (l : List A) → i < k → get_or (remove_at k l) i z ≡ get_or l i z
  unfolding remove_at
  get_d_remove_below k i z [] q = refl
  get_d_remove_below zero i z (x ∷ l) q = absurd (not-suc-le-zero q)
  get_d_remove_below (suc k) zero z (x ∷ l) q = refl
  get_d_remove_below (suc k) (suc i) z (x ∷ l) q = get_d_remove_below k i z l (le_of_suc-le-suc q)

  pub get_d_remove_above : (k i : ℕ) (z : A) (l : List A) → k ≤ i → get_or (remove_at k l) i z ≡ get_or l (suc i) z
  unfolding remove_at
  get_d_remove_above k i z [] q = refl
  get_d_remove_above zero i z (x ∷ l) q = refl
  get_d_remove_above (suc k) zero z (x ∷ l) q = absurd (not-suc-le-zero q)
  get_d_remove_above (suc k) (suc i) z (x ∷ l) q = get_d_remove_above k i z l (le_of_suc-le-suc q)

  -- moved there and back; and the moved element replaced
  module _ (z : A) (a b : ℕ) (l : List A) (ha : a < length l) (hb : b < length l) where
    b-inside : b ≤ length (remove_at a l)
    b-inside = omega (arith, length-remove_at a l ha)

    pub length-move : length (move z a b l) ≡ length l
    unfolding move
    length-move = length-insert_at b (get_or l a z) (remove_at a l) ∙ length-remove_at a l ha

    pub get_d_moved : get_or (move z a b l) b z ≡ get_or l a z
    unfolding move
    get_d_moved = get_or_inserted b (get_or l a z) z (remove_at a l) b-inside

    pub move-back : move z b a (move z a b l) ≡ l
    unfolding move
    move-back =
        ap₂ (λ (x : A) (r : List A). insert_at a x r) (get_or_inserted b (get_or l a z) z (remove_at a l) b-inside) (remove_inserted b (get_or l a z) (remove_at a l) b-inside)
        ∙ insert_removed a z l ha

    pub move-set : (w : A) → set (move z a b l) b w ≡ move z a b (set l a w)
    unfolding move
    move-set w =
        set_inserted b (get_or l a z) w (remove_at a l) b-inside
        ∙ sym (ap₂ (λ (x : A) (r : List A). insert_at b x r) (get_or-set_same l a w z ha) (remove-set a w l))

-- what f gives of each element, moved alike
module _ {A B : Type 0} (f : A → B) where
  pub map-remove_at : (k : ℕ) (l : List A) → map f (remove_at k l) ≡ remove_at k (map f l)
  unfolding remove_at
  map-remove_at k [] = refl
  map-remove_at zero (x ∷ l) = refl
  map-remove_at (suc k) (x ∷ l) = ap (λ (t : List B). f x ∷ t) (map-remove_at k l)

  pub map-insert_at : (k : ℕ) (y : A) (l : List A) → map f (insert_at k y l) ≡ insert_at k (f y) (map f l)
  unfolding insert_at
  map-insert_at zero y l = refl
  map-insert_at (suc k) y [] = refl
  map-insert_at (suc k) y (x ∷ l) = ap (λ (t : List B). f x ∷ t) (map-insert_at k y l)

  pub length-map : (l : List A) → length (map f l) ≡ length l
  length-map [] = refl
  length-map (x ∷ l) = ap suc (length-map l)

  pub get_d_map : (l : List A) (i : ℕ) (z : A) (w : B) → i < length l → get_or (map f l) i w ≡ f (get_or l i z)
  get_d_map [] i z w h = absurd (not-suc-le-zero h)
  get_d_map (x ∷ l) zero z w h = refl
  get_d_map (x ∷ l) (suc i) z w h = get_d_map l i z w (le_of_suc-le-suc h)

  pub map-move : (z : A) (w : B) (a b : ℕ) (l : List A) → a < length l → map f (move z a b l) ≡ move w a b (map f l)
  unfolding move
  map-move z w a b l h =
      map-insert_at b (get_or l a z) (remove_at a l)
      ∙ ap₂ (λ (x : B) (r : List B). insert_at b x r) (sym (get_d_map l a z w h)) (map-remove_at a l)

  pub map_same : (g : A → B) (l : List A) (z : A) → ((i : ℕ) → i < length l → g (get_or l i z) ≡ f (get_or l i z)) → map g l ≡ map f l
  map_same g [] z o = refl
  map_same g (x ∷ l) z o = ap₂ (λ (t : B) (r : List B). t ∷ r) (o 0 (suc-le-suc zero-le)) (map_same g l z (λ i q. o (suc i) (suc-le-suc q)))

  -- one element has another image now
  pub map-set : (g : A → B) (l : List A) (k : ℕ) (z : A) (y : B) → (k < length l → g (get_or l k z) ≡ y) → ((i : ℕ) → i < length l → (i ≡ k → ⊥) → g (get_or l i z) ≡ f (get_or l i z)) → map g l ≡ set (map f l) k y
  map-set g [] k z y h o = refl
  map-set g (x ∷ l) zero z y h o = ap₂ (λ (t : B) (r : List B). t ∷ r) (h (suc-le-suc zero-le)) (map_same g l z (λ i q. o (suc i) (suc-le-suc q) (λ e. omega arith)))
  map-set g (x ∷ l) (suc k) z y h o =
      ap₂ (λ (t : B) (r : List B). t ∷ r) (o 0 (suc-le-suc zero-le) (λ e. omega arith)) (map-set g l k z y (λ q. h (suc-le-suc q)) (λ i q n. o (suc i) (suc-le-suc q) (λ e. n (omega arith))))

-- a list by its elements
module _ {A : Type 0} where
  pub length-tab : (n : ℕ) (f : ℕ → A) → length (tab n f) ≡ n
  unfolding tab
  length-tab zero f = refl
  length-tab (suc n) f = ap suc (length-tab n (λ i. f (suc i)))

  pub tab_ext : (n : ℕ) (f g : ℕ → A) → ((i : ℕ) → i < n → f i ≡ g i) → tab n f ≡ tab n g
  unfolding tab
  tab_ext zero f g h = refl
  tab_ext (suc n) f g h = ap₂ (λ (x : A) (l : List A). x ∷ l) (h zero (suc-le-suc zero-le)) (tab_ext n (λ i. f (suc i)) (λ i. g (suc i)) (λ i k. h (suc i) (suc-le-suc k)))

  pub tab-cons : (n : ℕ) (f : ℕ → A) → tab (suc n) f ≡ f zero ∷ tab n (λ i. f (suc i))
  unfolding tab
  tab-cons n f = refl

  take-tab : (j n : ℕ) (f : ℕ → A) → take j (tab n f) ≡ tab (min j n) f
  unfolding tab
  take-tab zero n f = rw (zero-min n)
  take-tab (suc j) zero f = rw (min-zero (suc j))
  take-tab (suc j) (suc n) f = rw (suc-min-suc j n) (ap (λ (l : List A). f zero ∷ l) (take-tab j n (λ i. f (suc i))))

  -- a new first element, of which at most j are kept
  pub tab_pushed : (j n : ℕ) (x : A) (f g : ℕ → A) → (0 < j → f 0 ≡ x) → ((i : ℕ) → suc i < j → i < n → f (suc i) ≡ g i) → tab (min j (suc n)) f ≡ take j (x ∷ tab n g)
  unfolding tab
  tab_pushed zero n x f g h o = rw (zero-min (suc n))
  tab_pushed (suc j) n x f g h o =
      rw (suc-min-suc j n)
      (ap₂ (λ (y : A) (l : List A). y ∷ l) (h (suc-le-suc zero-le)) (tab_ext (min j n) (λ i. f (suc i)) g (λ i l. o i (omega arith) (omega arith)) ∙ sym (take-tab j n g)))
