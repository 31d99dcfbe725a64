-- Memory: parts of it, numbers in it, and bytes put over others.
use Prim.Native.Nat.{ℕ, ◌+◌, ◌-◌, ◌≤◌, ◌<◌}
use native.Mathlib.Omega.{arith}
use native.Mathlib.Decide.{dec_lt}
use mathlib.Core.Path.{◌≡◌, refl, sym, ap, ◌∙◌, subst}
use mathlib.Core.List.{List, ◌++◌}
use lib.ListN.{length, get_or, set, take, drop, length-append, length-take, length-drop, get_or-append}
use lib.Seq.{get_or-append-add, get_or-take, get_or-drop, get_or-set_same, get_or-set_other, ext_get_or, length-take-le, drop-drop}
use Rattle.little_endian.specs.Bytes.{le, num, put}
use Rattle.little_endian.proofs.Put.{length-put}
use Rattle.memory.specs.Bytes.{span}

-- m' has the bytes of m from a to b
abbrev pub Same : List ℕ → List ℕ → ℕ → ℕ → Type 0
Same m m' a b = (i : ℕ) → a ≤ i → i < b → get_or m' i 0 ≡ get_or m i 0

pub get_or-span : (m : List ℕ) (a n i : ℕ) → i < n → get_or (span m a n) i 0 ≡ get_or m (a + i) 0
unfolding span
get_or-span m a n i h = get_or-take n (drop a m) i 0 h ∙ get_or-drop a m i 0

pub length-span : (m : List ℕ) (a n : ℕ) → a + n ≤ length m → length (span m a n) ≡ n
unfolding span
length-span m a n h = length-take-le n (drop a m) (rw (length-drop a m) (omega arith))

-- a part that holds the list ys
pub span_is : (m ys : List ℕ) (a n : ℕ) → a + n ≤ length m → length ys ≡ n → ((i : ℕ) → i < n → get_or m (a + i) 0 ≡ get_or ys i 0) → span m a n ≡ ys
span_is m ys a n l e h =
    ext_get_or 0 (span m a n) ys (length-span m a n l ∙ sym e)
    (λ i q. let k : i < n = subst (λ (x : ℕ). i < x) (length-span m a n l) q in get_or-span m a n i k ∙ h i k)

-- two parts with the same bytes
pub span_same : (m m' : List ℕ) (a a' n : ℕ) → a + n ≤ length m → a' + n ≤ length m' → ((i : ℕ) → i < n → get_or m' (a' + i) 0 ≡ get_or m (a + i) 0) → span m' a' n ≡ span m a n
span_same m m' a a' n l l' h = span_is m' (span m a n) a' n l' (length-span m a n l) (λ i q. h i q ∙ sym (get_or-span m a n i q))

pub span-kept : (m m' : List ℕ) (a n : ℕ) → length m' ≡ length m → a + n ≤ length m → Same m m' a (a + n) → span m' a n ≡ span m a n
span-kept m m' a n e l s = span_same m m' a a n l (omega arith) (λ i h. s (a + i) (omega arith) (omega arith))

-- the numbers in them
pub num-same : (m m' : List ℕ) (a a' w : ℕ) → a + w ≤ length m → a' + w ≤ length m' → ((i : ℕ) → i < w → get_or m' (a' + i) 0 ≡ get_or m (a + i) 0) → num w a' m' ≡ num w a m
unfolding num span
num-same m m' a a' w l l' h = ap le (span_same m m' a a' w l l' h)

pub num-kept : (m m' : List ℕ) (a w : ℕ) → length m' ≡ length m → a + w ≤ length m → Same m m' a (a + w) → num w a m' ≡ num w a m
num-kept m m' a w e l s = num-same m m' a a w l (omega arith) (λ i h. s (a + i) (omega arith) (omega arith))

-- a part of a part
pub span-span : (m : List ℕ) (a n b k : ℕ) → a + n ≤ length m → b + k ≤ n → span (span m a n) b k ≡ span m (a + b) k
span-span m a n b k l h =
    span_same m (span m a n) (a + b) b k (omega arith) (omega (arith, length-span m a n l))
    (λ i q. get_or-span m a n (b + i) (omega arith) ∙ ap (λ (x : ℕ). get_or m x 0) (omega arith))

-- memory that is the same from a on
pub drop-same : (m m' : List ℕ) (a : ℕ) → length m' ≡ length m → ((i : ℕ) → a ≤ i → get_or m' i 0 ≡ get_or m i 0) → drop a m' ≡ drop a m
drop-same m m' a e h = ext_get_or 0 (drop a m') (drop a m) (rw (length-drop a m', length-drop a m, e)) (λ i l. rw (get_or-drop a m' i 0, get_or-drop a m i 0) (h (a + i) (omega arith)))

-- one byte after a store
pub set_same : (m : List ℕ) (k v : ℕ) → k < length m → get_or (set m k v) k 0 ≡ v
set_same m k v h = get_or-set_same m k v 0 h

pub set_other : (m : List ℕ) (k v i : ℕ) → (i ≡ k → ⊥) → get_or (set m k v) i 0 ≡ get_or m i 0
set_other m k v i h = get_or-set_other m k i v 0 h

-- memory whose bytes a to a + n - 1 were lent, and came back as ys
module _ (m ys : List ℕ) (a n : ℕ) (fits : a + n ≤ length m) (len : length ys ≡ n) where
  abbrev pub back : List ℕ
  back = take a m ++ (ys ++ drop n (drop a m))

  pub back-length : length back ≡ length m
  back-length = simp (length-append, length-take, length-drop, len) (omega arith)

  pub back_below : (i : ℕ) → i < a → get_or back i 0 ≡ get_or m i 0
  back_below i h =
      get_or-append (take a m) (ys ++ drop n (drop a m)) 0 i (rw (length-take-le a m (omega arith)) h)
      ∙ get_or-take a m i 0 h

  pub back_in : (i : ℕ) → i < n → get_or back (a + i) 0 ≡ get_or ys i 0
  back_in i h =
      let l : length (take a m) ≡ a = length-take-le a m (omega arith) in
      subst (λ (k : ℕ). get_or back (k + i) 0 ≡ get_or ys i 0) l (get_or-append-add (take a m) (ys ++ drop n (drop a m)) i 0 ∙ get_or-append ys (drop n (drop a m)) 0 i (rw len h))

  pub back_above : (i : ℕ) → a + n ≤ i → get_or back i 0 ≡ get_or m i 0
  back_above i h =
      let l : length (take a m) ≡ a = length-take-le a m (omega arith) in
      let e : length (take a m) + (length ys + (i - (a + n))) ≡ i = omega arith in
      ap (λ (k : ℕ). get_or back k 0) (sym e)
      ∙ get_or-append-add (take a m) (ys ++ drop n (drop a m)) (length ys + (i - (a + n))) 0
      ∙ get_or-append-add ys (drop n (drop a m)) (i - (a + n)) 0
      ∙ get_or-drop n (drop a m) (i - (a + n)) 0
      ∙ get_or-drop a m (n + (i - (a + n))) 0
      ∙ ap (λ (k : ℕ). get_or m k 0) (omega arith)

  pub back-span : span back a n ≡ ys
  back-span = span_is back ys a n (omega (arith, back-length)) len back_in

-- a list with bytes put over it
module _ (r bs : List ℕ) (a : ℕ) (fits : a + length bs ≤ length r) where
  put-lent : put r a bs ≡ back r bs a (length bs) fits refl
  unfolding put
  put-lent = ap (λ (x : List ℕ). take a r ++ (bs ++ x)) (sym (drop-drop (length bs) a r))

  byte_put : (i : ℕ) → get_or (put r a bs) i 0 ≡ get_or (back r bs a (length bs) fits refl) i 0
  byte_put i = ap (λ (x : List ℕ). get_or x i 0) put-lent

  pub put-below : (i : ℕ) → i < a → get_or (put r a bs) i 0 ≡ get_or r i 0
  put-below i h = byte_put i ∙ back_below r bs a (length bs) fits refl i h

  pub put_in : (i : ℕ) → i < length bs → get_or (put r a bs) (a + i) 0 ≡ get_or bs i 0
  put_in i h = byte_put (a + i) ∙ back_in r bs a (length bs) fits refl i h

  pub put-above : (i : ℕ) → a + length bs ≤ i → get_or (put r a bs) i 0 ≡ get_or r i 0
  put-above i h = byte_put i ∙ back_above r bs a (length bs) fits refl i h

  -- a list is that list with those bytes put over it, by its bytes
  pub put_is : (r' : List ℕ) → length r' ≡ length r → ((i : ℕ) → i < a → get_or r' i 0 ≡ get_or r i 0) → ((i : ℕ) → i < length bs → get_or r' (a + i) 0 ≡ get_or bs i 0)
      → ((i : ℕ) → a + length bs ≤ i → i < length r → get_or r' i 0 ≡ get_or r i 0) → r' ≡ put r a bs
  put_is r' e x y z = ext_get_or 0 r' (put r a bs) (e ∙ sym (length-put r a bs fits)) (λ i l. elim (dec_lt i a) as (λ _. get_or r' i 0 ≡ get_or (put r a bs) i 0) [
    | yes h ↦ x i h ∙ sym (put-below i h)
    | no h ↦ elim (dec_lt i (a + length bs)) as (λ _. get_or r' i 0 ≡ get_or (put r a bs) i 0) [
      | yes k ↦ (let q : a + (i - a) ≡ i = omega arith in
          subst (λ (t : ℕ). get_or r' t 0 ≡ get_or (put r a bs) t 0) q (y (i - a) (omega arith) ∙ sym (put_in (i - a) (omega arith))))
      | no k ↦ z i (omega arith) (omega arith) ∙ sym (put-above i (omega arith))
    ]
  ])

-- the old bytes put back
pub put_back : (r bs : List ℕ) (a : ℕ) → a + length bs ≤ length r → put (put r a bs) a (span r a (length bs)) ≡ r
put_back r bs a fits =
    let e : length (span r a (length bs)) ≡ length bs = length-span r a (length bs) fits in
    let l : length (put r a bs) ≡ length r = length-put r a bs fits in
    sym (put_is (put r a bs) (span r a (length bs)) a (omega arith) r (sym l)
    (λ i h. sym (put-below r bs a fits i h))
    (λ i h. sym (get_or-span r a (length bs) i (omega arith)))
    (λ i h k. sym (put-above r bs a fits i (omega arith))))
