-- Laws of the order and of the insertion.
use Prim.Native.Nat.{ℕ, suc, ◌+◌, ◌-◌, ◌≤◌, ◌<◌}
use native.Mathlib.Nat.{sub-zero}
use native.Mathlib.Numerals.{add-one}
use native.Mathlib.Omega.{arith}
use mathlib.Core.Path.{◌≡◌, refl, sym, ap, ◌∙◌}
use mathlib.Core.List.{List, [], ◌∷◌, ◌++◌}
use mathlib.Core.Bool.{Bool, true, false, ◌&&◌, ◌||◌, true≢false}
use lib.ListN.{length, take, drop, get_or, set, length-set}
use lib.Seq.{drop-cons, take-suc, take-suc-set, drop-set-lt, append_snoc}
use Rattle.text.specs.Bytes.{less_bytes}
use Rattle.text.proofs.Bytes.{both, and_both, eq_bytes-refl, eq_bytes_yes, eq_bytes_no}
use Rattle.text.proofs.Order.{less_irreflexive, less-total}
use Rattle.json_text.specs.Strings.{raw_bytes, is_plain}
use Rattle.escapes.specs.Decode.{bytes_of, written}
use Rattle.escapes.proofs.Theorems as decoding
use Rattle.fields.specs.Values.{decoded_at, string_bytes}
use Rattle.properties.specs.declared.Entry.{Entry}
use Rattle.properties.specs.declared.Entries.{Entries}
use Rattle.properties.specs.Property.{Property, is_before, insert}
use Rattle.properties.specs.Parts.{BothPlain, Fetched, stands}
use Rattle.properties.specs.Entries.{content, contents, view, Inserted}

-- ---- the order

-- the string at k by its bytes as sent
text-written : (s : List ℕ) (k : ℕ) → written (raw_bytes s k) ≡ string_bytes s k
unfolding string_bytes decoded_at written
text-written s k = refl

pub precedes-plain : (a b : List ℕ) {plain r : Bool} → BothPlain a b plain → plain ≡ true → r ≡ less_bytes a b → r ≡ less_bytes (written a) (written b)
unfolding written bytes_of
precedes-plain a b w q x = x ∙ sym (rw (decoding.plain a (w.first q), decoding.plain b (w.second q)))

module _ {a b : List ℕ} {x y : Bool} (v : x ≡ is_plain b) (w : y ≡ true → is_plain a ≡ true) where
  flagged : BothPlain a b (x && y)
  flagged = record { first = λ q. w (and_both x y q).1; second = λ q. sym v ∙ (and_both x y q).0 }

  flagged_back : BothPlain b a (x && y)
  flagged_back = record { first = flagged.second; second = flagged.first }

pub id-before : (s : List ℕ) (d : ℕ) {id other : List ℕ} {x y r : Bool} → other ≡ raw_bytes s d → x ≡ is_plain (raw_bytes s d) → (y ≡ true → is_plain id ≡ true)
    → (BothPlain id other (x && y) → r ≡ less_bytes (written id) (written other)) → r ≡ less_bytes (written id) (string_bytes s d)
id-before s d {id} o v w f = f (flagged (v ∙ ap is_plain (sym o)) w) ∙ ap (less_bytes (written id)) (ap written o ∙ text-written s d)

pub both-plain : (s : List ℕ) (a b : ℕ) {node id : List ℕ} {x y : Bool} → node ≡ raw_bytes s a → id ≡ raw_bytes s b → x ≡ is_plain (raw_bytes s a) → y ≡ is_plain (raw_bytes s b) → Fetched s a b node id (x && y)
both-plain s a b {x = x} {y = y} p q v w = record {
  node-sent = p;
  id-sent = q;
  both = record { first = λ e. ap is_plain p ∙ (sym v ∙ (and_both x y e).0); second = λ e. ap is_plain q ∙ (sym w ∙ (and_both x y e).1) };
}

module _ (s : List ℕ) (a b c d : ℕ) {node id : List ℕ} {plain : Bool} (w : Fetched s a b node id plain) where
  node_is : written node ≡ string_bytes s a
  node_is = ap written w.node-sent ∙ text-written s a

  ids : {r : Bool} → r ≡ less_bytes (written id) (string_bytes s d) → r ≡ less_bytes (string_bytes s b) (string_bytes s d)
  ids z = z ∙ ap (λ (t : List ℕ). less_bytes t (string_bytes s d)) (ap written w.id-sent ∙ text-written s b)

  -- of one node
  pub before-own : {r : Bool} → a ≡ c → r ≡ less_bytes (written id) (string_bytes s d) → r ≡ stands s a b c d
  unfolding stands
  before-own e z = ids z ∙ rw (e, less_irreflexive (string_bytes s c), eq_bytes-refl (string_bytes s c))

  module _ {other : List ℕ} {x l : Bool} (o : other ≡ raw_bytes s c) (v : x ≡ is_plain (raw_bytes s c)) (e : BothPlain node other (x && plain) → l ≡ less_bytes (written node) (written other)) where
    other_is : written other ≡ string_bytes s c
    other_is = ap written o ∙ text-written s c

    sent-plain : x ≡ is_plain other
    sent-plain = v ∙ ap is_plain (sym o)

    less : l ≡ less_bytes (string_bytes s a) (string_bytes s c)
    less = e (flagged sent-plain w.both.first) ∙ rw (node_is, other_is)

    pub before_yes : l ≡ true → true ≡ stands s a b c d
    unfolding stands
    before_yes h = rw (sym less ∙ h)

    module _ (h : l ≡ false) {m : Bool} (f : BothPlain other node (x && plain) → m ≡ less_bytes (written other) (written node)) where
      more : m ≡ less_bytes (string_bytes s c) (string_bytes s a)
      more = f (flagged_back sent-plain w.both.first) ∙ rw (node_is, other_is)

      pub before_no : m ≡ true → false ≡ stands s a b c d
      unfolding stands
      before_no k =
          let n : string_bytes s a ≡ string_bytes s c → ⊥ = λ p. true≢false (sym k ∙ (more ∙ (ap (less_bytes (string_bytes s c)) p ∙ less_irreflexive (string_bytes s c)))) in
          rw (sym less ∙ h, eq_bytes_no (string_bytes s a) (string_bytes s c) n)

      pub before_ids : {r : Bool} → m ≡ false → r ≡ less_bytes (written id) (string_bytes s d) → r ≡ stands s a b c d
      unfolding stands
      before_ids k z = ids z ∙ rw (sym less ∙ h, eq_bytes_yes (string_bytes s a) (string_bytes s c) (less-total (string_bytes s a) (string_bytes s c) (sym less ∙ h) (sym more ∙ k)))

-- ---- the insertion: the entries before j are in place, the carried one goes in among the rest

-- what is to come: the carried entry at once, or in its place
unfoldable pub rest : List ℕ → Bool → Entry → List Entry → List Property
rest s true e l = content s e ∷ contents s l
rest s false e l = insert (content s e) (contents s l)

pub record Carrying (given : Type 0) (s : List ℕ) (n : ℕ) (e : Entry) (want : List Property) (items : List Entry) (carry : Entry) (placed : Bool) (j : ℕ) : Type 0 where
  pub small : j ≤ n
  pub room : n < 24
  pub long : length items ≡ 24
  pub own : given → placed ≡ false → carry ≡ e
  pub same : given → contents s (take j items) ++ rest s placed carry (take (n - j) (drop j items)) ≡ want

pub contents-append : (s : List ℕ) (l m : List Entry) → contents s (l ++ m) ≡ contents s l ++ contents s m
unfolding contents
contents-append s [] m = refl
contents-append s (e ∷ l) m = ap (λ (k : List Property). content s e ∷ k) (contents-append s l m)

pub contents-length : (s : List ℕ) (l : List Entry) → length (contents s l) ≡ length l
unfolding contents
contents-length s [] = refl
contents-length s (e ∷ l) = ap suc (contents-length s l)

pub carry-start : {given : Type 0} (s : List ℕ) (n : ℕ) (items : List Entry) (e : Entry) → n < 24 → length items ≡ 24 → Carrying given s n e (insert (content s e) (contents s (take n items))) items e false 0
unfolding rest contents
carry-start s n items e h l = record { small = omega arith; room = h; long = l; own = λ g z. refl; same = λ g. ap (λ (k : ℕ). insert (content s e) (contents s (take k items))) (sub-zero n) }

module _ {given : Type 0} (blank : Entry) (s : List ℕ) (n : ℕ) (e : Entry) (want : List Property) (items : List Entry) (carry : Entry) (placed : Bool) (j : ℕ) (w : Carrying given s n e want items carry placed j) where
  module _ (h : j < n) where
    -- the rest begins with the element at j
    next : take (n - j) (drop j items) ≡ get_or items j blank ∷ take (n - (j + 1)) (drop (j + 1) items)
    next =
        let z : n - j ≡ suc (n - (j + 1)) = omega arith in
        rw (z, drop-cons items j blank (omega (arith, w.long, w.room)), add-one)

    module _ {b : Bool} (p : b ≡ (placed || is_before (content s carry) (content s (get_or items j blank)))) where
      here : b ≡ true → rest s placed carry (take (n - j) (drop j items)) ≡ content s carry ∷ (content s (get_or items j blank) ∷ contents s (take (n - (j + 1)) (drop (j + 1) items)))
      unfolding rest contents insert
      here q = rw next (go placed (sym p ∙ q))
        where
          go : (t : Bool) → (t || is_before (content s carry) (content s (get_or items j blank))) ≡ true → rest s t carry (get_or items j blank ∷ take (n - (j + 1)) (drop (j + 1) items)) ≡ content s carry ∷ (content s (get_or items j blank) ∷ contents s (take (n - (j + 1)) (drop (j + 1) items)))
          go true e = refl
          go false e = rw (e, insert)

      past : b ≡ false → (placed ≡ false) × (rest s placed carry (take (n - j) (drop j items)) ≡ content s (get_or items j blank) ∷ rest s false carry (take (n - (j + 1)) (drop (j + 1) items)))
      unfolding rest contents insert
      past q = rw next (go placed (sym p ∙ q))
        where
          go : (t : Bool) → (t || is_before (content s carry) (content s (get_or items j blank))) ≡ false → (t ≡ false) × (rest s t carry (get_or items j blank ∷ take (n - (j + 1)) (drop (j + 1) items)) ≡ content s (get_or items j blank) ∷ rest s false carry (take (n - (j + 1)) (drop (j + 1) items)))
          go true e = absurd (true≢false e)
          go false e = (refl, rw (e, insert))

    -- if the test is right
    module _ {b : Bool} (x : given → b ≡ (placed || stands s e.node e.id (get_or items j blank).node (get_or items j blank).id)) where
      -- an entry that is not in its place is the one that was given
      p : given → b ≡ (placed || is_before (content s carry) (content s (get_or items j blank)))
      unfolding stands is_before content
      p g = x g ∙ both placed (λ z. rw z) (λ z. rw (w.own g z))

      pub carry-swap : b ≡ true → Carrying given s n e want (set items j carry) (get_or items j blank) b (j + 1)
      unfolding rest contents
      carry-swap q =
          let l : j < length items = omega (arith, w.long, w.room) in
          record {
            small = omega arith;
            room = w.room;
            long = length-set items j carry ∙ w.long;
            own = λ g z. absurd (true≢false (sym q ∙ z));
            same = λ g.
                ap (λ (t : Bool). contents s (take (j + 1) (set items j carry)) ++ rest s t (get_or items j blank) (take (n - (j + 1)) (drop (j + 1) (set items j carry)))) q
                ∙ ap (λ (k : ℕ). contents s (take k (set items j carry)) ++ (content s (get_or items j blank) ∷ contents s (take (n - (j + 1)) (drop k (set items j carry))))) (add-one j)
                ∙ rw (take-suc-set items j carry l, drop-set-lt (suc j) items j carry (omega arith), contents-append s (take j items) (carry ∷ []), append_snoc)
                (sym (ap (λ (r : List Property). contents s (take j items) ++ r) (here (p g) q ∙ rw (add-one j))) ∙ w.same g);
          }

      pub carry-keep : b ≡ false → Carrying given s n e want items carry b (j + 1)
      unfolding rest contents
      carry-keep q =
          let l : j < length items = omega (arith, w.long, w.room) in
          record {
            small = omega arith;
            room = w.room;
            long = w.long;
            own = λ g z. w.own g (past (p g) q).0;
            same = λ g.
                ap (λ (t : Bool). contents s (take (j + 1) items) ++ rest s t carry (take (n - (j + 1)) (drop (j + 1) items))) q
                ∙ ap (λ (k : ℕ). contents s (take k items) ++ rest s false carry (take (n - (j + 1)) (drop (j + 1) items))) (add-one j)
                ∙ rw (take-suc items j blank l, contents-append s (take j items) (get_or items j blank ∷ []), append_snoc)
                (sym (ap (λ (r : List Property). contents s (take j items) ++ r) (past (p g) q).1) ∙ w.same g);
          }

  pub carry-done : n ≤ j → given → contents s (take (n + 1) (set items n carry)) ≡ want
  unfolding rest contents insert
  carry-done h g =
      let e : j ≡ n = omega (arith, w.small) in
      let z : n - n ≡ 0 = omega arith in
      rw (add-one n, take-suc-set items n carry (omega (arith, w.long, w.room)), contents-append s (take n items) (carry ∷ []))
      (sym (ap (λ (k : ℕ). contents s (take n items) ++ rest s placed carry (take k (drop n items))) z ∙ ap (λ (r : List Property). contents s (take n items) ++ r) (last placed)) ∙ ap (λ (k : ℕ). contents s (take k items) ++ rest s placed carry (take (n - k) (drop k items))) (sym e) ∙ w.same g)
    where
      last : (t : Bool) → rest s t carry [] ≡ content s carry ∷ []
      last true = refl
      last false = refl

-- ---- the list as the callers see it

pub view_empty : (s : List ℕ) (l : Entries) → l.n ≡ 0 → view s l ≡ []
unfolding view contents
view_empty s l q = ap (λ (n : ℕ). contents s (take n l.items)) q

module _ (s : List ℕ) (e : Entry) (l r : Entries) where
  pub stays-full : 24 ≤ l.n → r ≡ l → Inserted s (content s e) l r
  stays-full h q = record { view = λ k. absurd (omega arith); count = λ k. absurd (omega arith); full = λ k. q }

  pub is_inserted : {given : Type 0} {items : List Entry} {carry : Entry} {placed : Bool} {j : ℕ} (blank : Entry) → Carrying given s l.n e (insert (content s e) (contents s (take l.n l.items))) items carry placed j → given → l.n ≤ j
      → r.n ≡ l.n + 1 → r.items ≡ set items l.n carry → Inserted s (content s e) l r
  unfolding view
  is_inserted {given} {items} {carry} {placed} {j} blank w g h c d = record {
    view = λ k. rw (c, d) (carry-done blank s l.n e (insert (content s e) (contents s (take l.n l.items))) items carry placed j w h g);
    count = λ k. c ∙ add-one l.n;
    full = λ k. absurd (omega (arith, w.room));
  }
