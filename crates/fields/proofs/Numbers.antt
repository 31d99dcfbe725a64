-- The numbers of names, and what is noted of a known field.
use Rattle.std.specs.Prelude.{Err, Ok, Result, None, Option, Some}
use Rattle.std.specs.Option.{is_some}
use Prim.Native.Nat.{ℕ, zero, suc, ◌≤◌, ◌<◌}
use native.Mathlib.Omega.{arith}
use mathlib.Core.Path.{◌≡◌, refl, sym, ap, ◌∙◌, subst}
use mathlib.Core.List.{List, [], ◌∷◌}
use mathlib.Core.Bool.{Bool, true, false, not, ◌&&◌, ◌||◌, true≢false, false≢true, or-false, or-true}
use lib.ListN.{length, get_or, set, replicate, length-set}
use lib.Seq.{get_or-set_same, get_or-set_other}
use lib.Dec.{eqb, leb, lit<}
use borrow.Author.Tests.{eq-eqb, ne_eqb, eqb-true, leb-true}
use Rattle.json_text.specs.Strings.{raw_bytes, is_plain}
use Rattle.text.specs.Bytes.{eq_bytes, slice}
use Rattle.escapes.specs.Decode.{Decoded, whole, half, is_this}
use Rattle.fields.proofs.Decoded.{plain-decoded, decoded-whole, decoded-length, decoded-bytes, broken_at}
use Rattle.text.proofs.Bytes.{both, and_both, eq_bytes-true, at_most}
use Rattle.faults.specs.declared.Fault.{Fault}
use Rattle.faults.specs.Faults.{earlier, least, ◌otherwise◌, repeated}
use Rattle.fields.specs.declared.Owner.{Owner}
use Rattle.fields.specs.declared.Owner.TheVariants.{Device, Node, Property}
use Rattle.fields.specs.Values.{decoded_at, string_bytes, DecodesAt}
use Rattle.fields.specs.Fields.{unless_half, decoded_faults, no_rule, one_more}
use Rattle.fields.specs.Names.{known_names, is_one_of, is_known}
use Rattle.fields.specs.declared.Field.{Field}
use Rattle.fields.specs.Known.{known_name, number, field_from, field_at}
use Rattle.fields.specs.Parts.{Numbered, search, names4, names5, names6, names7, names8, names10, names_of, number_of, number_in, Classified, is_known_number, again_faults, seen_faults, seen_more, Saw}

-- ---- a test of all numbers below a bound

all_below : (ℕ → Bool) → ℕ → Bool
all_below p zero = true
all_below p (suc n) = p n && all_below p n

below : (p : ℕ → Bool) (n c : ℕ) → all_below p n ≡ true → c < n → p c ≡ true
unfolding all_below
below p zero c h l = absurd (omega arith)
below p (suc n) c h l = let q = and_both (p n) (all_below p n) h in both (eqb c n)
    (λ e. ap p (eqb-true c n e) ∙ q.0)
    (λ e. below p n c q.1 (less e))
  where
    less : eqb c n ≡ false → c < n
    less e = at_most n c (λ k. let z : c ≡ n = omega arith in absurd (true≢false (sym (eq-eqb c n z) ∙ e))) (λ k. k)

-- ---- the number of a name

module _ (xs : List Numbered) (t : List ℕ) (name : List ℕ) (c : ℕ) {b : Bool} (p : b ≡ eq_bytes t name) where
  pub found : b ≡ true → c ≡ search (record { name = name; number = c } ∷ xs) t
  unfolding search
  found e = rw (sym p ∙ e, search)

  pub passed : {r : ℕ} → b ≡ false → r ≡ search xs t → r ≡ search (record { name = name; number = c } ∷ xs) t
  unfolding search
  passed e x = x ∙ rw (sym p ∙ e, search)

pub none_left : (t : List ℕ) → 15 ≡ search [] t
unfolding search
none_left t = refl

module _ (t : List ℕ) (n : ℕ) (e : length t ≡ n) where
  pub of_length : {r : ℕ} → r ≡ search (names_of n) t → r ≡ number_of t
  unfolding number_of
  of_length x = x ∙ sym (ap (λ (k : ℕ). search (names_of k) t) e)

pub no_length : (t : List ℕ) → (length t ≡ 4 → ⊥) → (length t ≡ 5 → ⊥) → (length t ≡ 6 → ⊥) → (length t ≡ 7 → ⊥) → (length t ≡ 8 → ⊥) → (length t ≡ 10 → ⊥) → 15 ≡ number_of t
unfolding number_of names_of search
no_length t a b c d e f = sym (rw (ne_eqb (length t) 4 a, ne_eqb (length t) 5 b, ne_eqb (length t) 6 c, ne_eqb (length t) 7 d, ne_eqb (length t) 8 e, ne_eqb (length t) 10 f))

-- each name of a list has its number
right : List Numbered → Bool
right [] = true
right (x ∷ xs) = (leb x.number 15 && eq_bytes (known_name x.number) x.name) && right xs

module _ (x : Numbered) (xs : List Numbered) (h : right (x ∷ xs) ≡ true) where
  right-low : x.number < 16
  unfolding right
  right-low = let q = and_both (leb x.number 15 && eq_bytes (known_name x.number) x.name) (right xs) h in let l = leb-true x.number 15 (and_both (leb x.number 15) (eq_bytes (known_name x.number) x.name) q.0).0 in omega arith

  right-name : eq_bytes (known_name x.number) x.name ≡ true
  unfolding right
  right-name = let q = and_both (leb x.number 15 && eq_bytes (known_name x.number) x.name) (right xs) h in (and_both (leb x.number 15) (eq_bytes (known_name x.number) x.name) q.0).1

  right-rest : right xs ≡ true
  unfolding right
  right-rest = (and_both (leb x.number 15 && eq_bytes (known_name x.number) x.name) (right xs) h).1

search-low : (xs : List Numbered) (t : List ℕ) → right xs ≡ true → search xs t < 16
unfolding search
search-low [] t h = omega arith
search-low (x ∷ xs) t h = both (eq_bytes t x.name)
    (λ e. rw (e, search) (right-low x xs h))
    (λ e. rw (e, search) (search-low xs t (right-rest x xs h)))

search-right : (xs : List Numbered) (t : List ℕ) → right xs ≡ true → search xs t < 15 → eq_bytes t (known_name (search xs t)) ≡ true
unfolding search
search-right [] t h l = absurd (omega arith)
search-right (x ∷ xs) t h l = both (eq_bytes t x.name)
    (λ e. rw (e, search) (rw (eq_bytes-true (known_name x.number) x.name (right-name x xs h)) e))
    (λ e. rw (e, search) (search-right xs t (right-rest x xs h) (rw (e, search) at l)))

names-right : (n : ℕ) → right (names_of n) ≡ true
unfolding names_of right names4 names5 names6 names7 names8 names10 known_name eq_bytes
names-right n = both (eqb n 4) (λ e. rw e) (λ e. rw e (both (eqb n 5) (λ f. rw f) (λ f. rw f (both (eqb n 6) (λ g. rw g) (λ g. rw g (both (eqb n 7) (λ h. rw h) (λ h. rw h (both (eqb n 8) (λ i. rw i) (λ i. rw i (both (eqb n 10) (λ j. rw j) (λ j. rw j)))))))))))

-- each known name has its number, and no backslash
known_test : ℕ → Bool
known_test c = eqb (number_of (known_name c)) c && is_plain (known_name c)

known-test : (c : ℕ) → c < 15 → known_test c ≡ true
unfolding all_below known_test number_of names_of names4 names5 names6 names7 names8 names10 search known_name eq_bytes is_plain
known-test c h = below known_test 15 c refl h

known-number : (c : ℕ) → c < 15 → number_of (known_name c) ≡ c
unfolding known_test
known-number c h = eqb-true (number_of (known_name c)) c (and_both (eqb (number_of (known_name c)) c) (is_plain (known_name c)) (known-test c h)).0

known-plain : (c : ℕ) → c < 15 → is_plain (known_name c) ≡ true
unfolding known_test
known-plain c h = (and_both (eqb (number_of (known_name c)) c) (is_plain (known_name c)) (known-test c h)).1

module _ (t : List ℕ) where
  known-right : number_of t < 15 → eq_bytes t (known_name (number_of t)) ≡ true
  unfolding number_of
  known-right h = search-right (names_of (length t)) t (names-right (length t)) h

  names_of_lem : (c : ℕ) → c ≡ number_of t → (j : ℕ) → j < 15 → eq_bytes t (known_name j) ≡ eqb j c
  names_of_lem c p j h = both (eq_bytes t (known_name j))
      (λ e. let q : number_of t ≡ j = ap number_of (eq_bytes-true t (known_name j) e) ∙ known-number j h in e ∙ sym (eq-eqb j c (sym (p ∙ q))))
      (λ e. e ∙ sym (ne_eqb j c (λ q. let y : number_of t ≡ j = omega arith in
      false≢true (sym e ∙ sym (ap (λ (k : ℕ). eq_bytes t (known_name k)) y) ∙ known-right (omega arith)))))

  number-low : {c : ℕ} → c ≡ number_of t → c < 16
  unfolding number_of
  number-low p = rw p (search-low (names_of (length t)) t (names-right (length t)))

  classified : {c : ℕ} → c ≡ number_of t → Classified (whole t) c
  unfolding is_this
  classified {c} p = record { low = number-low p; names = names_of_lem c p }

  -- a known name has no backslash
  number-plain : number_of t < 15 → is_plain t ≡ true
  number-plain h = ap is_plain (eq_bytes-true t (known_name (number_of t)) (known-right h)) ∙ known-plain (number_of t) h

-- half a pair is in no known name
half_classified : (p : ℕ) → Classified (half p) 15
unfolding is_this
half_classified p = record { low = omega arith; names = λ j h. sym (ne_eqb j 15 (λ e. absurd (omega arith))) }

-- the number of the name at i, by the bytes it is sent as
module _ (s : List ℕ) (i : ℕ) {t : List ℕ} {c : ℕ} (n : c ≡ number_of t) where
  pub number_known : t ≡ raw_bytes s i → c < 15 → Classified (decoded_at s i) c
  number_known x h = rw (plain-decoded s i (rw x at (number-plain t (omega arith))), sym x) (classified t n)

  pub number-other : {b : Bool} → t ≡ raw_bytes s i → 15 ≤ c → b ≡ is_plain (raw_bytes s i) → b ≡ true → Classified (decoded_at s i) 15
  number-other x h p e = let l = number-low t n in let z : c ≡ 15 = omega arith in rw (plain-decoded s i (sym p ∙ e), sym x) (classified t (sym z ∙ n))

  -- or decoded
  pub number-decoded : {before after : List ℕ} {r : Result ℕ ℕ} {k : ℕ} → DecodesAt s i before after r → r ≡ Ok k → k ≤ length before → t ≡ slice after 0 k → Classified (decoded_at s i) c
  number-decoded w q h x = rw (decoded-whole s i w q, sym (decoded-bytes s i w q h x)) (classified t n)

module _ (s : List ℕ) (i : ℕ) {before after : List ℕ} {r : Result ℕ ℕ} (w : DecodesAt s i before after r) where
  pub number-half : {p : ℕ} → r ≡ Err p → Classified (decoded_at s i) 15
  number-half q = let h = broken_at s i w q in rw h.1 (half_classified h.0)

  -- no known name is so long
  pub number-long : {k : ℕ} → r ≡ Ok k → 10 < k → Classified (decoded_at s i) 15
  number-long q h = let l = decoded-length s i w q in
      rw (decoded-whole s i w q) (classified (string_bytes s i) (no_length (string_bytes s i) (λ e. omega arith) (λ e. omega arith) (λ e. omega arith) (λ e. omega arith) (λ e. omega arith) (λ e. omega arith)))

-- ---- known fields by their numbers

eqb_comm : (a b : ℕ) → eqb a b ≡ eqb b a
eqb_comm a b = both (eqb a b)
    (λ e. e ∙ sym (eq-eqb b a (sym (eqb-true a b e))))
    (λ e. e ∙ sym (ne_eqb b a (λ q. true≢false (sym (eq-eqb a b (sym q)) ∙ e))))

module _ {t : List ℕ} {c : ℕ} (y : Classified (whole t) c) where
  named : (j : ℕ) → j < 15 → eq_bytes t (known_name j) ≡ eqb j c
  unfolding is_this
  named = y.names

  one_more_lem : (j : ℕ) → j < 15 → (names : List (List ℕ)) {b : Bool} → is_one_of t names ≡ b → is_one_of t (known_name j ∷ names) ≡ (eqb c j || b)
  unfolding is_one_of
  one_more_lem j h names x = both (eqb c j)
      (λ e. rw (e, named j h ∙ eqb_comm j c ∙ e, is_one_of))
      (λ e. rw (e, named j h ∙ eqb_comm j c ∙ e, is_one_of) x)

  one_last : (j : ℕ) → j < 15 → is_one_of t (known_name j ∷ []) ≡ eqb c j
  unfolding is_one_of
  one_last j h = one_more_lem j h [] refl ∙ or-false (eqb c j)

  pub known_is : (owner : Owner) → is_known owner t ≡ is_known_number owner c
  unfolding is_known known_names is_known_number known_name
  known_is Device = one_more_lem 4 (lit< tt) _ (one_more_lem 8 (lit< tt) _ (one_more_lem 5 (lit< tt) _ (one_more_lem 0 (lit< tt) _ (one_more_lem 1 (lit< tt) _ (one_more_lem 12 (lit< tt) _ (one_more_lem 3 (lit< tt) _ (one_more_lem 6 (lit< tt) _ (one_last 14 (lit< tt)))))))))
  known_is Node = one_more_lem 0 (lit< tt) _ (one_more_lem 1 (lit< tt) _ (one_last 13 (lit< tt)))
  known_is Property = one_more_lem 9 (lit< tt) _ (one_more_lem 0 (lit< tt) _ (one_more_lem 2 (lit< tt) _ (one_more_lem 7 (lit< tt) _ (one_more_lem 10 (lit< tt) _ (one_last 11 (lit< tt))))))

  -- 15 is no known one's
  pub other-unknown : (owner : Owner) → 15 ≤ c → is_known owner t ≡ false
  unfolding is_known_number
  other-unknown owner h = known_is owner ∙ let l = y.low in let e : c ≡ 15 = omega arith in rw e (go owner)
    where
      go : (owner : Owner) → is_known_number owner 15 ≡ false
      go Device = refl
      go Node = refl
      go Property = refl

  pub known-name : c < 15 → t ≡ known_name c
  known-name h = eq_bytes-true t (known_name c) (named c h ∙ eq-eqb c c refl)

-- half a pair has no known one's
half-other : {p c : ℕ} → Classified (half p) c → c < 15 → ⊥
unfolding is_this
half-other {p} {c} y h = false≢true (y.names c h ∙ eq-eqb c c refl)

-- ---- what is told of a name

module _ (owner : Owner) (first i : ℕ) where
  whole-none : (t : List ℕ) → (not (is_known owner t) || eqb first 0) ≡ true → None ≡ least (seen_faults owner (whole t) first i)
  unfolding seen_faults unless_half again_faults ◌otherwise◌ least
  whole-none t q = rw q

module _ (owner : Owner) (first i : ℕ) {c : ℕ} where
  pub name-other : (s : List ℕ) {r : Option Fault} → Classified (decoded_at s i) c → 15 ≤ c → r ≡ least (decoded_faults s i no_rule) → r ≡ least (seen_faults owner (decoded_at s i) first i)
  unfolding decoded_faults seen_faults unless_half no_rule least
  name-other s y h x = x ∙ go (decoded_at s i) y
    where
      go : (d : Decoded) → Classified d c → least (unless_half d i no_rule) ≡ least (seen_faults owner d first i)
      go (whole t) z = whole-none owner first i t (rw (other-unknown z owner h))
      go (half p) z = refl

  pub name-first : (d : Decoded) → Classified d c → c < 15 → first ≡ 0 → None ≡ least (seen_faults owner d first i)
  name-first (whole t) y h e = whole-none owner first i t (rw (eq-eqb first 0 e) (or-true (not (is_known owner t))))
  name-first (half p) y h e = absurd (half-other y h)

  module _ {b : Bool} (p : b ≡ is_known_number owner c) where
    pub name-repeated : (d : Decoded) → Classified d c → c < 15 → (first ≡ 0 → ⊥) → b ≡ true → Some (repeated i) ≡ least (seen_faults owner d first i)
    unfolding seen_faults unless_half again_faults ◌otherwise◌ least earlier
    name-repeated (whole t) y h n e = rw (known_is y owner ∙ sym p ∙ e, ne_eqb first 0 n)
    name-repeated (half q) y h n e = absurd (half-other y h)

    pub name_foreign : (d : Decoded) → Classified d c → c < 15 → b ≡ false → None ≡ least (seen_faults owner d first i)
    name_foreign (whole t) y h e = whole-none owner first i t (rw (known_is y owner ∙ sym p ∙ e))
    name_foreign (half q) y h e = absurd (half-other y h)

-- ---- of a field or none

number_below : (f : Field) → number f < 15
number_below Field.Name = lit< tt
number_below Field.Type = lit< tt
number_below Field.Unit = lit< tt
number_below Field.Root = lit< tt
number_below Field.Homie = lit< tt
number_below Field.Nodes = lit< tt
number_below Field.Parent = lit< tt
number_below Field.Format = lit< tt
number_below Field.Version = lit< tt
number_below Field.Datatype = lit< tt
number_below Field.Settable = lit< tt
number_below Field.Retained = lit< tt
number_below Field.Children = lit< tt
number_below Field.Properties = lit< tt
number_below Field.Extensions = lit< tt

pub number-some : (name : Option Field) → true ≡ is_some name → number_in name < 15
number-some None e = absurd (true≢false e)
number-some (Some f) e = number_below f

pub number-none : (name : Option Field) → false ≡ is_some name → 15 ≤ number_in name
number-none None e = omega arith
number-none (Some f) e = absurd (false≢true e)

number_is : {name : Option Field} {f : Field} {n : ℕ} → name ≡ Some f → n ≡ number f → n ≡ number_in name
number_is q e = e ∙ ap number_in (sym q)

-- what is told of the name at i, which names that field or none
module _ (owner : Owner) (seen : List ℕ) (i : ℕ) {name : Option Field} where
  pub more-other : (s : List ℕ) {r : Option Fault} → name ≡ None → Classified (decoded_at s i) (number_in name) → r ≡ least (decoded_faults s i no_rule) → r ≡ least (seen_faults owner (decoded_at s i) (get_or seen (number_in name) 0) i)
  more-other s q y x = name-other owner (get_or seen (number_in name) 0) i s y (let e : number_in name ≡ 15 = ap number_in q in omega arith) x

  module _ {f : Field} {n : ℕ} (q : name ≡ Some f) (e : n ≡ number f) (l : n < 15) where
    pub more-first : (d : Decoded) → Classified d (number_in name) → get_or seen n 0 ≡ 0 → None ≡ least (seen_faults owner d (get_or seen (number_in name) 0) i)
    more-first d y z = subst (λ (c : ℕ). Classified d c → None ≡ least (seen_faults owner d (get_or seen c 0) i)) (number_is q e) (λ x. name-first owner (get_or seen n 0) i d x l z) y

    module _ {b : Bool} (p : b ≡ is_known_number owner (number f)) where
      known_by : b ≡ is_known_number owner n
      known_by = p ∙ ap (is_known_number owner) (sym e)

      pub more-repeated : (d : Decoded) → Classified d (number_in name) → (get_or seen n 0 ≡ 0 → ⊥) → b ≡ true → Some (repeated i) ≡ least (seen_faults owner d (get_or seen (number_in name) 0) i)
      more-repeated d y z h = subst (λ (c : ℕ). Classified d c → Some (repeated i) ≡ least (seen_faults owner d (get_or seen c 0) i)) (number_is q e) (λ x. name-repeated owner (get_or seen n 0) i known_by d x l z h) y

      pub more-foreign : (d : Decoded) → Classified d (number_in name) → b ≡ false → None ≡ least (seen_faults owner d (get_or seen (number_in name) 0) i)
      more-foreign d y h = subst (λ (c : ℕ). Classified d c → None ≡ least (seen_faults owner d (get_or seen c 0) i)) (number_is q e) (λ x. name_foreign owner (get_or seen n 0) i known_by d x l h) y

-- ---- what is noted

pub zeros : (n c : ℕ) → ◌≡◌ {A = ℕ} (get_or (replicate n 0) c 0) 0
zeros zero c = refl
zeros (suc n) zero = refl
zeros (suc n) (suc c) = zeros n c

pub from-none : (first : ℕ) → first ≡ 0 → field_from first ≡ None
unfolding field_from
from-none first e = rw (eq-eqb first 0 e, field_from)

pub from_some : (first : ℕ) → (first ≡ 0 → ⊥) → field_from first ≡ Some first
unfolding field_from
from_some first n = rw (ne_eqb first 0 n, field_from)

module _ (m : List ℕ) (c : ℕ) where
  pub at_none : get_or m c 0 ≡ 0 → None ≡ field_at m c
  unfolding field_at
  at_none e = sym (from-none (get_or m c 0) e)

  pub at_some : (get_or m c 0 ≡ 0 → ⊥) → Some (get_or m c 0) ≡ field_at m c
  unfolding field_at
  at_some n = sym (from_some (get_or m c 0) n)

  module _ (k : ℕ) (h : c < 16) (l : length m ≡ 16) where
    -- others are as they were
    same_at : (m' : List ℕ) (j : ℕ) → get_or m' j 0 ≡ get_or m j 0 → field_at m' j ≡ field_at m j
    unfolding field_at
    same_at m' j e = rw e

    at_of : (m' : List ℕ) → get_or m' c 0 ≡ k → 0 < k → Some k ≡ field_at m' c
    unfolding field_at
    at_of m' e p = sym (rw e (from_some k (λ x. absurd (omega arith))))

    pub saw-first : get_or m c 0 ≡ 0 → Saw c k m (set m c k)
    unfolding seen_more one_more
    saw-first z = record {
      long = length-set m c k;
      more = λ hk j hj. both (eqb j c)
          (λ e. rw (e, eqb-true j c e) (sym (at_of (set m c k) (get_or-set_same m c k 0 (omega arith)) hk) ∙ ap (λ (f : Option ℕ). one_more f k) (at_none z)))
          (λ e. rw e (same_at (set m c k) j (get_or-set_other m c j k 0 (λ q. true≢false (sym (eq-eqb j c q) ∙ e)))));
      below = λ n hk f j. both (eqb j c)
          (λ e. rw (eqb-true j c e, get_or-set_same m c k 0 (omega arith)) hk)
          (λ e. rw (get_or-set_other m c j k 0 (λ q. true≢false (sym (eq-eqb j c q) ∙ e))) (f j));
    }

    pub saw-again : (get_or m c 0 ≡ 0 → ⊥) → Saw c k m m
    unfolding seen_more one_more
    saw-again z = record {
      long = refl;
      more = λ hk j hj. both (eqb j c)
          (λ e. rw (e, eqb-true j c e) (sym (at_some z) ∙ ap (λ (f : Option ℕ). one_more f k) (at_some z)))
          (λ e. rw e);
      below = λ n hk f. f;
    }

-- of a name
module _ (m : List ℕ) (k : ℕ) {name : Option Field} where
  pub saw-none : name ≡ None → Saw (number_in name) k m m
  unfolding seen_more
  saw-none q = subst (λ (c : ℕ). Saw c k m m) (sym (ap number_in q)) (record {
    long = refl;
    more = λ hk j hj. rw (ne_eqb j 15 (λ e. absurd (omega arith)));
    below = λ n hk f. f;
  })

  pub saw-name : {f : Field} {c : ℕ} (m' : List ℕ) → name ≡ Some f → c ≡ number f → Saw c k m m' → Saw (number_in name) k m m'
  saw-name m' q e w = subst (λ (c : ℕ). Saw c k m m') (number_is q e) w
