-- Properties of which no two have the same two IDs, put in one after another, ascend.
use native.Mathlib.Nat.{add-zero}
use mathlib.Core.Path.{◌≡◌, refl, sym, ap, ◌∙◌}
use mathlib.Core.Logic.{◌⊎◌, inl, inr}
use mathlib.Core.List.{List, [], ◌∷◌, ◌++◌}
use mathlib.Core.Bool.{Bool, true, false, ◌&&◌, ◌||◌}
use lib.ListN.{length}
use Rattle.text.specs.Bytes.{eq_bytes, less_bytes}
use Rattle.text.proofs.Bytes.{both, and_both, eq_bytes_yes}
use Rattle.text.proofs.Order.{less-total}
use Rattle.properties.specs.Property.{Property, is_before, insert, insert_all}
use Rattle.properties.specs.Valid.{In, here, later, ascends_from, ascends, Arranged, Differ, Apart, more}
use Rattle.fields.proofs.Rules.{or_neither}
use Rattle.properties.proofs.Lists.{in-none, in-append, in_insert, put_in, is_in_lem, all-length}

or-second : (a : Bool) → (a || true) ≡ true
or-second true = refl
or-second false = refl

-- of two that differ, one stands before the other
before-total : (p q : Property) → Differ p q → is_before p q ≡ false → is_before q p ≡ true
unfolding is_before
before-total p q d h =
    let n = or_neither (less_bytes p.node q.node) (eq_bytes p.node q.node && less_bytes p.id q.id) h in
    both (less_bytes q.node p.node) (λ e. rw e) (λ e.
    let v : p.node ≡ q.node = less-total p.node q.node n.0 e in
    let i : less_bytes p.id q.id ≡ false = rw (eq_bytes_yes p.node q.node v) at n.1 in
    both (less_bytes q.id p.id)
    (λ k. rw (eq_bytes_yes q.node p.node (sym v), k) (or-second (less_bytes q.node p.node)))
    (λ k. absurd (d v (less-total p.id q.id i k))))

module _ (p : Property) where
  insert_from : (r : Property) (qs : List Property) → is_before r p ≡ true → ascends_from r qs ≡ true → ((q : Property) → In q qs → Differ p q) → ascends_from r (insert p qs) ≡ true
  unfolding insert ascends_from
  insert_from r [] b h d = rw b
  insert_from r (q ∷ qs) b h d =
      let k = and_both (is_before r q) (ascends_from q qs) h in
      both (is_before p q)
      (λ e. rw (e, insert) (rw (b, e) k.1))
      (λ e. rw (e, insert) (rw k.0 (insert_from q qs (before-total p q (d q (here refl)) e) k.1 (λ r i. d r (later i)))))

  insert-ascends : (qs : List Property) → ascends qs ≡ true → ((q : Property) → In q qs → Differ p q) → ascends (insert p qs) ≡ true
  unfolding insert ascends ascends_from
  insert-ascends [] h d = refl
  insert-ascends (q ∷ qs) h d = both (is_before p q)
      (λ e. rw (e, insert) (rw e h))
      (λ e. rw (e, insert) (insert_from q qs (before-total p q (d q (here refl)) e) h (λ r i. d r (later i))))

all_ascend : (ps qs : List Property) → Apart ps → ((p q : Property) → In p ps → In q qs → Differ p q) → ascends qs ≡ true → ascends (insert_all ps qs) ≡ true
unfolding insert_all
all_ascend [] qs a d h = h
all_ascend (p ∷ ps) qs (more f a) d h = all_ascend ps (insert p qs) a (λ r q i j. apart r q i (in_insert p qs j)) (insert-ascends p qs h (λ q i. d p q (here refl) i))
  where
    apart : (r q : Property) → In r ps → In q (p ∷ qs) → Differ r q
    apart r q i (here e) = λ n k. f r i (ap (λ (z : Property). z.node) (sym e) ∙ sym n) (ap (λ (z : Property). z.id) (sym e) ∙ sym k)
    apart r q i (later j) = d r q (later i) j

pub arranged : (ps : List Property) → Apart ps → Arranged ps (insert_all ps [])
unfolding ascends
arranged ps a = record {
  same = λ p. (is_in_lem ps [], λ i. back (put_in ps [] i));
  long = all-length ps [] ∙ add-zero (length ps);
  ascending = all_ascend ps [] a (λ p q i j. in-none j) refl;
}
  where
    back : {p : Property} → In p ps ⊎ In p [] → In p ps
    back (inl i) = i
    back (inr i) = in-none i

pub apart-append : (ps qs : List Property) → Apart ps → Apart qs → ((p q : Property) → In p ps → In q qs → Differ p q) → Apart (ps ++ qs)
apart-append [] qs a b d = b
apart-append (p ∷ ps) qs (more f a) b d = more (λ q i. go q (in-append ps qs i)) (apart-append ps qs a b (λ r q i j. d r q (later i) j))
  where
    go : (q : Property) → In q ps ⊎ In q qs → Differ p q
    go q (inl i) = f q i
    go q (inr i) = d p q (here refl) i
