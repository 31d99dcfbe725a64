-- A range's format is a word of its grammar, and the fields that the code cuts write the same range.
use Rattle.std.specs.Prelude.{Option, None, Some, option_map}
use Prim.Native.Nat.{ℕ, zero, suc, ◌≤◌}
use native.Mathlib.Omega.{arith}
use mathlib.Core.Path.{◌≡◌, refl, sym, ap, ◌∙◌, subst}
use mathlib.Core.Logic.{◌↔◌}
use mathlib.Core.List.{List, [], ◌∷◌, ◌++◌, append-nil}
use mathlib.Core.Bool.{Bool, true, false, not, ◌&&◌, ◌||◌, cond, false≢true}
use lib.Dec.{ltb, eqb}
use lib.ListN.{length, get_or}
use lib.IntN.{ℤ}
use lib.Signed.{le_z}
use borrow.Author.Tests.{lt-ltb, eqb-true, not-true}
use Rattle.abnf.specs.Abnf.{Abnf, ◌–◌, ε, ◌·◌, ◌//◌, ∗◌, rule, Words, byte, nothing, join, left, right, more, no_rules, ◌∈◌, x, opt}
use Rattle.abnf.specs.Abnf as abnf
use Rattle.abnf.specs.Accepts.{in_range, is_empty, again, starts, accepts}
use Rattle.abnf.proofs.Accepts.{word-accepts, accepts-word}
use Rattle.abnf.proofs.Steps as steps
use Rattle.text.specs.Bytes.{every}
use Rattle.text.specs.Split.{split, join_by, free, AllFree}
use Rattle.text.specs.Split as levels
use Rattle.text.proofs.Bytes.{both, and_both}
use Rattle.text.proofs.Repeats.{every_append}
use Rattle.text.proofs.Theorems.{splitting, joining}
use Rattle.numbers.specs.Digits.{digits, numeral}
use Rattle.numbers.specs.Grammar.{integer-text, float-text, fixed-text}
use Rattle.numbers.specs.Integer.{value, is_64_bit, integer}
use Rattle.numbers.specs.Decimal.{Scientific, before, after, significant, power, scientific, is_small, decimal}
use Rattle.numbers.specs.Billionths.{in_billionths, billionths}
use Rattle.numbers.proofs.Acceptance.{word_value}
use Rattle.numbers.proofs.Theorems.{integer-words, decimal-words, fixed-words}
use Rattle.ranges.specs.Ranges.{Range, range-text, fields_of, is_some, each_read, numbers_of, if_there, valid, range_of, positive, le_decimal, exactly, stepped, has_step, integer_range, float_range}
use Rattle.ranges.specs.Promises.{number_in, IsRange}
use Rattle.ranges.specs.Parts.{counted, fields, bound, within, keep, with_step, from_fields, float_fields, ordered}

-- ---- a grammar without a byte has no word with it

unfoldable pub avoids : ℕ → Abnf ⊥ → Bool
avoids c (lo – hi) = not (in_range lo hi c)
avoids c ε = true
avoids c (a · b) = avoids c a && avoids c b
avoids c (a // b) = avoids c a && avoids c b
avoids c (∗ a) = avoids c a
avoids c (rule n) = absurd n

module _ (c : ℕ) where
  free-append : (s t : List ℕ) → free c s ≡ true → free c t ≡ true → free c (s ++ t) ≡ true
  unfolding free
  free-append s t e f = every_append _ s t ∙ rw (e, f)

  free-byte : (lo hi b : ℕ) → in_range lo hi b ≡ true → not (in_range lo hi c) ≡ true → free c (b ∷ []) ≡ true
  unfolding free every
  free-byte lo hi b h e = both (eqb b c)
      (λ q. absurd (false≢true (sym (not-true _ e) ∙ ap (in_range lo hi) (sym (eqb-true b c q)) ∙ h)))
      (λ q. rw q)

  avoids-free : {d : ℕ} {a : Abnf ⊥} {w : List ℕ} → Words no_rules d a w → avoids c a ≡ true → free c w ≡ true
  unfolding avoids free every
  avoids-free (byte {lo = lo} {hi = hi} {b = b} h k) e = free-byte lo hi b (steps.in_range_lem lo hi b h k) e
  avoids-free nothing e = refl
  avoids-free (join {a = a} {b = b} {x = x} {y = y} v w) e = let p = and_both (avoids c a) (avoids c b) e in free-append x y (avoids-free v p.0) (avoids-free w p.1)
  avoids-free (left {a = a} {b = b} w) e = avoids-free w (and_both (avoids c a) (avoids c b) e).0
  avoids-free (right {a = a} {b = b} w) e = avoids-free w (and_both (avoids c a) (avoids c b) e).1
  avoids-free abnf.none e = refl
  avoids-free (more {x = x} {y = y} v w) e = free-append x y (avoids-free v e) (avoids-free w e)
  avoids-free (abnf.named {n = n} w) e = absurd n

colon_is : {w : List ℕ} → w ∈ x 0x3A → w ≡ 0x3A ∷ []
colon_is (byte {b = b} h k) = let e : b ≡ 0x3A = omega arith in ap (λ (c : ℕ). c ∷ []) e

colon : (0x3A ∷ []) ∈ x 0x3A
colon = byte {lo = 0x3A} {hi = 0x3A} {b = 0x3A} (omega arith) (omega arith)

-- ---- numbers of a type: no text has a colon, none is empty, and each that fits is read as its value
module _ {N : Type 0} (number : Abnf ⊥) (read : List ℕ → Option N) (value : List ℕ → N) (fits : List ℕ → Bool) (le : N → N → Bool) (above : N → Bool)
    (plain : avoids 0x3A number ≡ true) (filled : accepts number [] ≡ false) (none-fits : fits [] ≡ true)
    (words : (s : List ℕ) (z : N) → (read s ≡ Some z) ↔ ((s ∈ number) × (fits s ≡ true) × (value s ≡ z))) where
  not_empty : [] ∈ number → ⊥
  not_empty w = false≢true (sym filled ∙ word-accepts number [] w)

  read_none : read [] ≡ None
  read_none = go (read []) refl
    where
      go : (o : Option N) → read [] ≡ o → o ≡ None
      go None e = refl
      go (Some z) e = absurd (not_empty ((words [] z).0 e).0)

  -- a field that is left out or read
  abbrev typed : List ℕ → Bool
  typed f = is_empty f || is_some (read f)

  module _ (b : ℕ) (f : List ℕ) where
    read_some : typed (b ∷ f) ≡ true → ((b ∷ f) ∈ number) × (fits (b ∷ f) ≡ true) × (read (b ∷ f) ≡ Some (value (b ∷ f)))
    unfolding is_empty
    read_some e = go (read (b ∷ f)) refl e
      where
        go : (o : Option N) → read (b ∷ f) ≡ o → is_some o ≡ true → ((b ∷ f) ∈ number) × (fits (b ∷ f) ≡ true) × (read (b ∷ f) ≡ Some (value (b ∷ f)))
        go None q e = absurd (false≢true e)
        go (Some z) q e = let w = (words (b ∷ f) z).0 q in (w.0, w.1, q ∙ ap Some (sym w.2))

  typed-word : (f : List ℕ) → typed f ≡ true → f ∈ opt number
  typed-word [] e = right nothing
  typed-word (b ∷ f) e = left (read_some b f e).0

  typed-fits : (f : List ℕ) → typed f ≡ true → fits f ≡ true
  typed-fits [] e = none-fits
  typed-fits (b ∷ f) e = (read_some b f e).1

  typed-written : (f : List ℕ) → typed f ≡ true → read f ≡ number_in value f
  unfolding is_empty
  typed-written [] e = read_none
  typed-written (b ∷ f) e = (read_some b f e).2

  word_typed : {f : List ℕ} → f ∈ opt number → fits f ≡ true → typed f ≡ true
  unfolding is_empty
  word_typed (right nothing) h = refl
  word_typed (left {x = []} w) h = refl
  word_typed (left {x = b ∷ f} w) h = ap is_some ((words (b ∷ f) (value (b ∷ f))).1 (w, h, refl))

  word_read : (f : List ℕ) → f ∈ number → typed f ≡ is_some (read f)
  unfolding is_empty
  word_read [] w = absurd (not_empty w)
  word_read (b ∷ f) w = refl

  field-typed : (fs : List (List ℕ)) → each_read read fs ≡ true → (i : ℕ) → typed (get_or fs i []) ≡ true
  unfolding each_read is_empty
  field-typed [] e zero = refl
  field-typed [] e (suc i) = refl
  field-typed (f ∷ fs) e zero = (and_both (typed f) (each_read read fs) e).0
  field-typed (f ∷ fs) e (suc i) = field-typed fs (and_both (typed f) (each_read read fs) e).1 i

  -- ---- the fields of a word

  data Shape : List (List ℕ) → Type 0 where
    bounds : {a b : List ℕ} → a ∈ opt number → b ∈ opt number → Shape (a ∷ b ∷ [])
    all : {a b c : List ℕ} → a ∈ opt number → b ∈ opt number → c ∈ number → Shape (a ∷ b ∷ c ∷ [])

  size : {fs : List (List ℕ)} → Shape fs → (2 ≤ length fs) × (length fs ≤ 3)
  size (bounds p q) = (omega arith, omega arith)
  size (all p q w) = (omega arith, omega arith)

  opt-free : {f : List ℕ} → f ∈ opt number → free 0x3A f ≡ true
  unfolding free every
  opt-free (left w) = avoids-free 0x3A w plain
  opt-free (right nothing) = refl

  shape_two : {a k b : List ℕ} → a ∈ opt number → k ∈ x 0x3A → b ∈ opt number → Shape (split 0x3A (a ++ (k ++ (b ++ []))))
  unfolding join_by
  shape_two {a} {k} {b} p c q =
      rw (colon_is c, append-nil b)
      (subst Shape (sym (joining 0x3A a (b ∷ []) (levels.more (opt-free p) (levels.more (opt-free q) levels.none)))) (bounds p q))

  shape-three : {a k b l t : List ℕ} → a ∈ opt number → k ∈ x 0x3A → b ∈ opt number → l ∈ x 0x3A → t ∈ number → Shape (split 0x3A (a ++ (k ++ (b ++ (l ++ t)))))
  unfolding join_by
  shape-three {a} {k} {b} {l} {t} p c q d w =
      rw (colon_is c, colon_is d)
      (subst Shape (sym (joining 0x3A a (b ∷ t ∷ []) (levels.more (opt-free p) (levels.more (opt-free q) (levels.more (avoids-free 0x3A w plain) levels.none))))) (all p q w))

  word_shape : {s : List ℕ} → s ∈ range-text number → Shape (fields_of s)
  word_shape (join p (join c (join q (right nothing)))) = shape_two p c q
  word_shape (join p (join c (join q (left (join d w))))) = shape-three p c q d w

  shape-join : {f : List ℕ} {fs : List (List ℕ)} → Shape (f ∷ fs) → join_by 0x3A f fs ∈ range-text number
  unfolding join_by
  shape-join (bounds {a = a} {b = b} p q) = subst (λ (l : List ℕ). (a ++ (0x3A ∷ l)) ∈ range-text number) (append-nil b) (join p (join colon (join q (right nothing))))
  shape-join (all p q w) = join p (join colon (join q (left (join colon w))))

  shape-word : (s : List ℕ) → Shape (fields_of s) → s ∈ range-text number
  shape-word s h = let r = splitting 0x3A s in subst (λ (l : List ℕ). l ∈ range-text number) r.whole (shape-join (subst Shape r.parts h))

  -- ---- both ways

  each_read_lem : {fs : List (List ℕ)} → Shape fs → ((i : ℕ) → fits (get_or fs i []) ≡ true) → each_read read fs ≡ true
  unfolding each_read
  each_read_lem (bounds p q) h = rw (word_typed p (h 0), word_typed q (h 1))
  each_read_lem (all p q w) h = rw (word_typed p (h 0), word_typed q (h 1), word_typed (left w) (h 2))

  ordered_of : {m n : Option N} → ordered le m n ≡ true → (a b : N) → m ≡ Some a → n ≡ Some b → le a b ≡ true
  ordered_of h a b e f = rw (e, f) at h

  of-ordered : (m n : Option N) → ((a b : N) → m ≡ Some a → n ≡ Some b → le a b ≡ true) → ordered le m n ≡ true
  of-ordered None n h = refl
  of-ordered (Some a) None h = refl
  of-ordered (Some a) (Some b) h = h a b refl refl

  step_of : {o : Option N} → if_there o above ≡ true → (n : N) → o ≡ Some n → above n ≡ true
  step_of h n e = rw e at h

  of-step : (o : Option N) → ((n : N) → o ≡ Some n → above n ≡ true) → if_there o above ≡ true
  of-step None h = refl
  of-step (Some n) h = h n refl

  module _ (s : List ℕ) where
    sound : (r : Range N) → s ∈ range-text number → each_read read (fields_of s) ≡ true → valid le above (numbers_of read (fields_of s)) ≡ true → numbers_of read (fields_of s) ≡ r → IsRange number value fits le above s r
    sound r w e v q =
        let is : (i : ℕ) → read (get_or (fields_of s) i []) ≡ number_in value (get_or (fields_of s) i []) = λ i. typed-written _ (field-typed (fields_of s) e i) in
        let b = and_both (ordered le r.min r.max) (if_there r.step above) (subst (λ (p : Range N). valid le above p ≡ true) q v) in
        record {
          word = w;
          own = λ i. typed-fits _ (field-typed (fields_of s) e i);
          min = ap (λ (p : Range N). p.min) (sym q) ∙ is 0;
          max = ap (λ (p : Range N). p.max) (sym q) ∙ is 1;
          step = ap (λ (p : Range N). p.step) (sym q) ∙ is 2;
          ordered = ordered_of b.0;
          positive = step_of b.1;
        }

    numbers_are : (r : Range N) → IsRange number value fits le above s r → each_read read (fields_of s) ≡ true → numbers_of read (fields_of s) ≡ r
    numbers_are r h e =
        let is : (i : ℕ) → read (get_or (fields_of s) i []) ≡ number_in value (get_or (fields_of s) i []) = λ i. typed-written _ (field-typed (fields_of s) e i) in
        λ i. record { min = (is 0 ∙ sym h.min) i; max = (is 1 ∙ sym h.max) i; step = (is 2 ∙ sym h.step) i }

    range-words : (r : Range N) → (range_of number read le above s ≡ Some r) ↔ ((s ∈ range-text number) × ((each_read read (fields_of s) && valid le above (numbers_of read (fields_of s))) ≡ true) × (numbers_of read (fields_of s) ≡ r))
    unfolding range_of
    range-words r = word_value (range-text number) s (each_read read (fields_of s) && valid le above (numbers_of read (fields_of s))) (numbers_of read (fields_of s)) r

    range_to : (r : Range N) → range_of number read le above s ≡ Some r → IsRange number value fits le above s r
    range_to r e =
        let p = (range-words r).0 e in
        let q = and_both (each_read read (fields_of s)) (valid le above (numbers_of read (fields_of s))) p.1 in
        sound r p.0 q.0 q.1 p.2

    range_from : (r : Range N) → IsRange number value fits le above s r → range_of number read le above s ≡ Some r
    range_from r h =
        let e = each_read_lem (word_shape h.word) h.own in
        let q = numbers_are r h e in
        let v : valid le above r ≡ true = rw (of-ordered r.min r.max h.ordered) (of-step r.step h.positive) in
        (range-words r).1 (h.word, rw e (subst (λ (p : Range N). valid le above p ≡ true) (sym q) v), q)

    pub range_is : (r : Range N) → (range_of number read le above s ≡ Some r) ↔ IsRange number value fits le above s r
    range_is r = (range_to r, range_from r)

    -- ---- the fields that the code cuts

    bound_is : (f : List ℕ) → bound read f ≡ cond (typed f) (Some (read f)) None
    unfolding bound is_empty
    bound_is [] = ap Some (sym read_none)
    bound_is (b ∷ f) = go (read (b ∷ f))
      where
        go : (o : Option N) → option_map Some o ≡ cond (is_some o) (Some o) None
        go None = refl
        go (Some z) = refl

    tests-two : (t u v : Bool) (a b : Option N) → (u ≡ true → v ≡ true → t ≡ true) →
        within le (cond u (Some a) None) (cond v (Some b) None) None ≡ cond (t && ((u && (v && true)) && (ordered le a b && true))) (Some (record { min = a; max = b; step = None })) None
    tests-two true true true a b h = both (ordered le a b) (λ e. rw e) (λ e. rw e)
    tests-two true true false a b h = refl
    tests-two true false v a b h = refl
    tests-two false true true a b h = absurd (false≢true (h refl refl))
    tests-two false true false a b h = refl
    tests-two false false v a b h = refl

    tests-three : (t u v w : Bool) (a b c : Option N) → (u ≡ true → v ≡ true → is_some c ≡ true → t ≡ true) → (t ≡ true → w ≡ is_some c) →
        with_step le (cond u (Some a) None) (cond v (Some b) None) (keep above c) ≡ cond (t && ((u && (v && (w && true))) && (ordered le a b && if_there c above))) (Some (record { min = a; max = b; step = c })) None
    tests-three true u v w a b None h k = rw (k refl) (none-three u v)
      where
        none-three : (u v : Bool) → ◌≡◌ {A = Option (Range N)} None (cond ((u && (v && false)) && (ordered le a b && true)) (Some (record { min = a; max = b; step = None })) None)
        none-three true true = refl
        none-three true false = refl
        none-three false v = refl
    tests-three true true true w a b (Some n) h k = rw (k refl)
        (both (above n) (λ e. rw e (both (ordered le a b) (λ f. rw f) (λ f. rw f))) (λ e. rw e (both (ordered le a b) (λ f. rw f) (λ f. rw f))))
    tests-three true true false w a b (Some n) h k = both (above n) (λ e. rw e) (λ e. rw e)
    tests-three true false v w a b (Some n) h k = both (above n) (λ e. rw e) (λ e. rw e)
    tests-three false u v w a b None h k = refl
    tests-three false true true w a b (Some n) h k = absurd (false≢true (h refl refl refl))
    tests-three false true false w a b (Some n) h k = both (above n) (λ e. rw e) (λ e. rw e)
    tests-three false false v w a b (Some n) h k = both (above n) (λ e. rw e) (λ e. rw e)

    -- the definition at fields fs
    abbrev by : List (List ℕ) → Option (Range N)
    by fs = cond (accepts (range-text number) s && (each_read read fs && valid le above (numbers_of read fs))) (Some (numbers_of read fs)) None

    no_word : {fs : List (List ℕ)} → fields_of s ≡ fs → (Shape fs → ⊥) → None ≡ by fs
    no_word {fs} q n = both (accepts (range-text number) s)
        (λ e. absurd (n (subst Shape q (word_shape (accepts-word (range-text number) s e)))))
        (λ e. rw e)

    taken : {fs : List (List ℕ)} → fields_of s ≡ fs → Shape fs → accepts (range-text number) s ≡ true
    taken q h = word-accepts (range-text number) s (shape-word s (subst Shape (sym q) h))

    two-same : (a b : List ℕ) → fields_of s ≡ a ∷ b ∷ [] → within le (bound read a) (bound read b) None ≡ by (a ∷ b ∷ [])
    unfolding each_read
    two-same a b q =
        rw (bound_is a, bound_is b, read_none)
        (tests-two (accepts (range-text number) s) (typed a) (typed b) (read a) (read b) (λ u v. taken q (bounds (typed-word a u) (typed-word b v))))

    three-same : (a b c : List ℕ) → fields_of s ≡ a ∷ b ∷ c ∷ [] → with_step le (bound read a) (bound read b) (keep above (read c)) ≡ by (a ∷ b ∷ c ∷ [])
    unfolding each_read
    three-same a b c q =
        rw (bound_is a, bound_is b)
        (tests-three (accepts (range-text number) s) (typed a) (typed b) (typed c) (read a) (read b) (read c)
        (λ u v w. taken q (all (typed-word a u) (typed-word b v) (step-word (read c) refl w)))
        (λ t. step-there (subst Shape q (word_shape (accepts-word (range-text number) s t)))))
      where
        step-word : (o : Option N) → read c ≡ o → is_some o ≡ true → c ∈ number
        step-word None e w = absurd (false≢true w)
        step-word (Some z) e w = ((words c z).0 e).0

        step-there : Shape (a ∷ b ∷ c ∷ []) → typed c ≡ is_some (read c)
        step-there (all p q w) = word_read _ w

    counted_same : (fs : List (List ℕ)) → fields_of s ≡ fs → from_fields read le above (counted fs) ≡ by fs
    unfolding counted from_fields
    counted_same [] q = no_word q (λ h. let z = size h in omega arith)
    counted_same (a ∷ []) q = no_word q (λ h. let z = size h in omega arith)
    counted_same (a ∷ b ∷ []) q = two-same a b q
    counted_same (a ∷ b ∷ c ∷ []) q = three-same a b c q
    counted_same (a ∷ b ∷ c ∷ d ∷ fs) q = no_word q (λ h. let z = size h in omega arith)

    pub fields-same : from_fields read le above (fields s) ≡ range_of number read le above s
    unfolding fields range_of
    fields-same = counted_same (fields_of s) refl

-- ---- integers and floats

integer-plain : avoids 0x3A integer-text ≡ true
unfolding avoids
integer-plain = refl

float_plain : avoids 0x3A float-text ≡ true
unfolding avoids
float_plain = refl

fixed_plain : avoids 0x3A fixed-text ≡ true
unfolding avoids
fixed_plain = refl

integer-filled : accepts integer-text [] ≡ false
unfolding accepts starts again is_empty
integer-filled = refl

float-filled : accepts float-text [] ≡ false
unfolding accepts starts again is_empty
float-filled = refl

fixed-filled : accepts fixed-text [] ≡ false
unfolding accepts starts again is_empty
fixed-filled = refl

no-integer-fits : is_64_bit (value []) ≡ true
unfolding value digits numeral
no-integer-fits = refl

no_float-fits : is_small [] ≡ true
unfolding significant power before after digits numeral
no_float-fits = refl

-- the shape is a limit by itself
pub shape-words : (s : List ℕ) (z : ℤ) → (billionths s ≡ Some z) ↔ ((s ∈ fixed-text) × (true ≡ true) × (in_billionths s ≡ z))
shape-words s z = (λ e. let w = (fixed-words s z).0 e in (w.0, refl, w.1), λ h. (fixed-words s z).1 (h.0, h.2))

pub integer_range_lem : (s : List ℕ) (r : Range ℤ) → (integer_range s ≡ Some r) ↔ IsRange integer-text value (λ t. is_64_bit (value t)) le_z positive s r
unfolding integer_range
integer_range_lem s r = range_is integer-text integer value (λ t. is_64_bit (value t)) le_z positive integer-plain integer-filled no-integer-fits integer-words s r

pub integer-fields : (s : List ℕ) → from_fields integer le_z positive (fields s) ≡ integer_range s
unfolding integer_range
integer-fields s = fields-same integer-text integer value (λ t. is_64_bit (value t)) le_z positive integer-plain integer-filled no-integer-fits integer-words s

-- ---- floats: without a step, and with one

map-some : {A B : Type 0} (f : A → B) (o : Option A) (b : B) → option_map f o ≡ Some b → (a : A) × (o ≡ Some a) × (f a ≡ b)
map-some f None b e = let z : ◌≡◌ {A = ℕ} 0 1 = cc in absurd (omega arith)
map-some f (Some a) b e = (a, refl, let q : f a ≡ b = cc in q)

exactly_is : (a b : Range Scientific) → exactly a ≡ exactly b → a ≡ b
exactly_is a b e = cc

stepped_is : (a b : Range ℤ) → stepped a ≡ stepped b → a ≡ b
stepped_is a b e = cc

module _ (s : List ℕ) where
  abbrev plain : Option (Range Scientific)
  plain = range_of float-text decimal le_decimal (λ step. true) s

  abbrev rounding : Option (Range ℤ)
  rounding = range_of fixed-text billionths le_z positive s

  either : float_range s ≡ cond (has_step s) (option_map stepped rounding) (option_map exactly plain)
  unfolding float_range
  either = refl

  plain_is : (r : Range Scientific) → (plain ≡ Some r) ↔ IsRange float-text scientific is_small le_decimal (λ step. true) s r
  plain_is r = range_is float-text decimal scientific is_small le_decimal (λ step. true) float_plain float-filled no_float-fits decimal-words s r

  rounding_is : (r : Range ℤ) → (rounding ≡ Some r) ↔ IsRange fixed-text in_billionths (λ t. true) le_z positive s r
  rounding_is r = range_is fixed-text billionths in_billionths (λ t. true) le_z positive fixed_plain fixed-filled refl shape-words s r

  pub exact_range_lem : (r : Range Scientific) → (float_range s ≡ Some (exactly r)) ↔ ((has_step s ≡ false) × IsRange float-text scientific is_small le_decimal (λ step. true) s r)
  exact_range_lem r = (to, from)
    where
      to : float_range s ≡ Some (exactly r) → (has_step s ≡ false) × IsRange float-text scientific is_small le_decimal (λ step. true) s r
      to e = both (has_step s)
          (λ t. let q = map-some stepped rounding (exactly r) (sym (either ∙ rw t) ∙ e) in let w = q.2 in let z : ◌≡◌ {A = ℕ} 0 1 = cc in absurd (omega arith))
          (λ t. let q = map-some exactly plain (exactly r) (sym (either ∙ rw t) ∙ e) in (t, (plain_is r).0 (q.1 ∙ ap Some (exactly_is q.0 r q.2))))

      from : (has_step s ≡ false) × IsRange float-text scientific is_small le_decimal (λ step. true) s r → float_range s ≡ Some (exactly r)
      from h = either ∙ rw (h.0, (plain_is r).1 h.1)

  pub stepped_range : (r : Range ℤ) → (float_range s ≡ Some (stepped r)) ↔ ((has_step s ≡ true) × IsRange fixed-text in_billionths (λ t. true) le_z positive s r)
  stepped_range r = (to, from)
    where
      to : float_range s ≡ Some (stepped r) → (has_step s ≡ true) × IsRange fixed-text in_billionths (λ t. true) le_z positive s r
      to e = both (has_step s)
          (λ t. let q = map-some stepped rounding (stepped r) (sym (either ∙ rw t) ∙ e) in (t, (rounding_is r).0 (q.1 ∙ ap Some (stepped_is q.0 r q.2))))
          (λ t. let q = map-some exactly plain (stepped r) (sym (either ∙ rw t) ∙ e) in let w = q.2 in let z : ◌≡◌ {A = ℕ} 0 1 = cc in absurd (omega arith))

      from : (has_step s ≡ true) × IsRange fixed-text in_billionths (λ t. true) le_z positive s r → float_range s ≡ Some (stepped r)
      from h = either ∙ rw (h.0, (rounding_is r).1 h.1)

  plain-fields : from_fields decimal le_decimal (λ step. true) (fields s) ≡ plain
  plain-fields = fields-same float-text decimal scientific is_small le_decimal (λ step. true) float_plain float-filled no_float-fits decimal-words s

  rounding-fields : from_fields billionths le_z positive (fields s) ≡ rounding
  rounding-fields = fields-same fixed-text billionths in_billionths (λ t. true) le_z positive fixed_plain fixed-filled refl shape-words s

by_count : (fs : List (List ℕ)) → float_fields (counted fs) ≡ cond (ltb 2 (length fs)) (option_map stepped (from_fields billionths le_z positive (counted fs))) (option_map exactly (from_fields decimal le_decimal (λ step. true) (counted fs)))
unfolding counted from_fields
by_count [] = refl
by_count (a ∷ []) = refl
by_count (a ∷ b ∷ []) = refl
by_count (a ∷ b ∷ c ∷ []) = refl
by_count (a ∷ b ∷ c ∷ d ∷ fs) = rw (lt-ltb 2 (length (a ∷ b ∷ c ∷ d ∷ fs)) (omega arith))

pub float-fields : (s : List ℕ) → float_fields (fields s) ≡ float_range s
unfolding fields
float-fields s = by_count (fields_of s)
    ∙ ap (λ (o : Option (Range ℤ)). cond (has_step s) (option_map stepped o) (option_map exactly (from_fields decimal le_decimal (λ step. true) (fields s)))) (rounding-fields s)
    ∙ ap (λ (o : Option (Range Scientific)). cond (has_step s) (option_map stepped (rounding s)) (option_map exactly o)) (plain-fields s)
    ∙ sym (either s)
