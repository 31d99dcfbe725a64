-- Lists of bytes and of rooms: a part, an element moved, a list by its elements.
use Rattle.std.specs.Prelude.{ℕ, zero, suc, List, [], ◌∷◌, get_or, take, drop}

-- the n bytes of m from a on
unfoldable pub span : List ℕ → ℕ → ℕ → List ℕ
span m a n = take n (drop a m)

-- l without its element at k; l with y put in at k
unfoldable pub remove_at : {A : Type 0} → ℕ → List A → List A
remove_at k [] = []
remove_at zero (x ∷ l) = l
remove_at (suc k) (x ∷ l) = x ∷ remove_at k l

unfoldable pub insert_at : {A : Type 0} → ℕ → A → List A → List A
insert_at zero y l = y ∷ l
insert_at (suc k) y [] = y ∷ []
insert_at (suc k) y (x ∷ l) = x ∷ insert_at k y l

-- the element at a is taken out and put in at b; z stands for it where there is none
unfoldable pub move : {A : Type 0} → A → ℕ → ℕ → List A → List A
move z a b l = insert_at b (get_or l a z) (remove_at a l)

-- f 0, f 1, .. f (n - 1)
unfoldable pub tab : {A : Type 0} → ℕ → (ℕ → A) → List A
tab zero f = []
tab (suc n) f = f zero ∷ tab n (λ i. f (suc i))
