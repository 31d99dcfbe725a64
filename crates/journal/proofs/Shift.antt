-- An element taken out and put in elsewhere: those from one place to the other, rotated by one.
use Prim.Native.Nat.{ℕ, suc, ◌+◌, ◌-◌, ◌≤◌, ◌<◌}
use native.Mathlib.Omega.{arith}
use mathlib.Core.Path.{◌≡◌, refl, sym, ap, ap₂, ◌∙◌}
use mathlib.Core.List.{List, [], ◌∷◌, ◌++◌, append_assoc}
use lib.ListN.{length, get_or, take, drop, take-append-drop, length-append, length-drop}
use lib.Seq.{drop-cons, drop-drop, take_at, drop_at, length-take-le}
use Rattle.memory.specs.Bytes.{remove_at, insert_at, move}

insert-behind : (q s : List ℕ) (x : ℕ) → insert_at (length q) x (q ++ s) ≡ q ++ (x ∷ s)
unfolding insert_at
insert-behind [] s x = refl
insert-behind (y ∷ q) s x = ap (λ (l : List ℕ). y ∷ l) (insert-behind q s x)

remove-behind : (q s : List ℕ) (x : ℕ) → remove_at (length q) (q ++ (x ∷ s)) ≡ q ++ s
unfolding remove_at
remove-behind [] s x = refl
remove-behind (y ∷ q) s x = ap (λ (l : List ℕ). y ∷ l) (remove-behind q s x)

get-behind : (q s : List ℕ) (x : ℕ) → get_or (q ++ (x ∷ s)) (length q) 0 ≡ x
get-behind [] s x = refl
get-behind (y ∷ q) s x = get-behind q s x

move-up : (p q s : List ℕ) (x : ℕ) → move 0 (length p) (length (p ++ q)) (p ++ (x ∷ (q ++ s))) ≡ p ++ (q ++ (x ∷ s))
unfolding move insert_at remove_at
move-up [] q s x = insert-behind q s x
move-up (y ∷ p) q s x = ap (λ (l : List ℕ). y ∷ l) (move-up p q s x)

move-down : (p q s : List ℕ) (x : ℕ) → move 0 (length (p ++ q)) (length p) (p ++ (q ++ (x ∷ s))) ≡ p ++ (x ∷ (q ++ s))
unfolding move insert_at remove_at
move-down [] q s x = ap₂ (λ (y : ℕ) (l : List ℕ). y ∷ l) (get-behind q s x) (remove-behind q s x)
move-down (y ∷ p) q s x = ap (λ (l : List ℕ). y ∷ l) (move-down p q s x)

module _ (l ys : List ℕ) (from to n : ℕ) where
  pub rotated-left : from < to → to < length l → n ≡ to + 1 - from → ys ≡ drop 1 (take n (drop from l)) ++ take 1 (take n (drop from l))
      → take from l ++ (ys ++ drop n (drop from l)) ≡ move 0 from to l
  rotated-left a b m e =
      let p : List ℕ = take from l in
      let r : List ℕ = drop (suc from) l in
      let q : List ℕ = take (to - from) r in
      let s : List ℕ = drop (to - from) r in
      let x : ℕ = get_or l from 0 in
      let d : drop from l ≡ x ∷ r = drop-cons l from 0 (omega arith) in
      let m' : n ≡ suc (to - from) = omega arith in
      let lp : length p ≡ from = length-take-le from l (omega arith) in
      let lq : length q ≡ to - from = length-take-le (to - from) r (rw (length-drop (suc from) l) (omega arith)) in
      let lpq : length (p ++ q) ≡ to = rw length-append (omega arith) in
      let t : take n (drop from l) ≡ x ∷ q = ap₂ (λ (i : ℕ) (z : List ℕ). take i z) m' d in
      let u : drop n (drop from l) ≡ s = ap₂ (λ (i : ℕ) (z : List ℕ). drop i z) m' d in
      let y : ys ≡ q ++ (x ∷ []) = e ∙ ap (λ (z : List ℕ). drop 1 z ++ take 1 z) t in
      let w : l ≡ p ++ (x ∷ (q ++ s)) = sym (take-append-drop from l) ∙ ap (λ (z : List ℕ). p ++ z) (d ∙ ap (λ (z : List ℕ). x ∷ z) (sym (take-append-drop (to - from) r))) in
      ap₂ (λ (z v : List ℕ). p ++ (z ++ v)) y u ∙ ap (λ (z : List ℕ). p ++ z) (append_assoc q (x ∷ []) s)
      ∙ sym (move-up p q s x) ∙ ap₂ (λ (i j : ℕ). move 0 i j (p ++ (x ∷ (q ++ s)))) lp lpq ∙ ap (move 0 from to) (sym w)

  pub rotated-right : to ≤ from → from < length l → n ≡ from + 1 - to
      → ys ≡ drop (length (take n (drop to l)) - 1) (take n (drop to l)) ++ take (length (take n (drop to l)) - 1) (take n (drop to l))
      → take to l ++ (ys ++ drop n (drop to l)) ≡ move 0 from to l
  rotated-right a b m e =
      let p : List ℕ = take to l in
      let r : List ℕ = drop to l in
      let q : List ℕ = take (from - to) r in
      let x : ℕ = get_or l from 0 in
      let s : List ℕ = drop (suc from) l in
      let z : List ℕ = q ++ (x ∷ []) in
      let k : to + (from - to) ≡ from = omega arith in
      let g : drop (from - to) r ≡ x ∷ s = drop-drop (from - to) to l ∙ ap (λ (i : ℕ). drop i l) k ∙ drop-cons l from 0 b in
      let c : r ≡ q ++ (x ∷ s) = sym (take-append-drop (from - to) r) ∙ ap (λ (v : List ℕ). q ++ v) g in
      let c' : r ≡ z ++ s = c ∙ sym (append_assoc q (x ∷ []) s) in
      let lp : length p ≡ to = length-take-le to l (omega arith) in
      let lq : length q ≡ from - to = length-take-le (from - to) r (rw (length-drop to l) (omega arith)) in
      let lpq : length (p ++ q) ≡ from = rw length-append (omega arith) in
      let lz : length z ≡ n = rw length-append (omega arith) in
      let last : length q ≡ length z - 1 = omega arith in
      let t : take n r ≡ z = ap (take n) c' ∙ take_at z s n lz in
      let u : drop n r ≡ s = ap (drop n) c' ∙ drop_at z s n lz in
      let y : ys ≡ (x ∷ []) ++ q = e ∙ ap (λ (v : List ℕ). drop (length v - 1) v ++ take (length v - 1) v) t
      ∙ ap₂ (λ (v v' : List ℕ). v ++ v') (drop_at q (x ∷ []) (length z - 1) last) (take_at q (x ∷ []) (length z - 1) last) in
      let w : l ≡ p ++ (q ++ (x ∷ s)) = sym (take-append-drop to l) ∙ ap (λ (v : List ℕ). p ++ v) c in
      ap₂ (λ (v v' : List ℕ). p ++ (v ++ v')) y u
      ∙ sym (move-down p q s x) ∙ ap₂ (λ (i j : ℕ). move 0 i j (p ++ (q ++ (x ∷ s)))) lpq lp ∙ ap (move 0 from to) (sym w)
