-- Properties put into a list one after another, and what is told of them.
use Rattle.std.specs.Prelude.{None, Option}
use Prim.Native.Nat.{ℕ, suc, ◌≤◌}
use mathlib.Core.Path.{◌≡◌, refl, sym, ap, ◌∙◌, subst}
use mathlib.Core.List.{List, [], ◌∷◌, ◌++◌, append_assoc, append-nil}
use mathlib.Core.Bool.{false}
use lib.ListN.{length}
use lib.Dec.{ltb}
use borrow.Author.Tests.{ltb-true}
use Rattle.text.proofs.Bytes.{both}
use Rattle.json_text.specs.Members.{Member, member_at, GotItem, found}
use Rattle.json_text.specs.Ends.{Ends}
use Rattle.faults.specs.declared.Fault.{Fault}
use Rattle.faults.specs.Faults.{earlier, least}
use Rattle.faults.proofs.Laws.{earlier_assoc, earlier_comm, earlier-none, earlier-nothing, least-join}
use Rattle.properties.specs.Property.{Property, insert_all}
use Rattle.properties.specs.Entries.{properties_most, view}
use Rattle.properties.proofs.Lists.{insert-append}
use Rattle.properties.specs.declared.Entries.{Entries}
use Rattle.fields.proofs.Walk.{Walking, at_done, at_item, walking_as}
use Rattle.nodes.specs.declared.Listed.{Listed}
use Rattle.nodes.specs.Parts.{counted, past_most_at, past_most, Adds}

-- ---- faults told in another order

-- (a b) (c d) is (a c) (b d)
pub cross : (a b c d : Option Fault) → earlier (earlier a b) (earlier c d) ≡ earlier (earlier a c) (earlier b d)
cross a b c d =
    earlier_assoc a b (earlier c d) ∙
    (ap (earlier a) (sym (earlier_assoc b c d) ∙ (ap (λ (t : Option Fault). earlier t d) (earlier_comm b c) ∙ earlier_assoc c b d)) ∙
    sym (earlier_assoc a c (earlier b d)))

-- ---- counting

counted-full : (n : ℕ) (ns : List Member) → ltb n properties_most ≡ false → counted n ns ≡ n
unfolding counted
counted-full n [] e = refl
counted-full n (m ∷ ns) e = rw (e, counted)

pub counted-append : (n : ℕ) (ms ns : List Member) → counted n (ms ++ ns) ≡ counted (counted n ms) ns
unfolding counted
counted-append n [] ns = refl
counted-append n (m ∷ ms) ns = both (ltb n properties_most)
    (λ e. rw (e, counted) (counted-append (suc n) ms ns))
    (λ e. rw (e, counted) (sym (counted-full n ns e)))

pub counted-few : (n : ℕ) (ms : List Member) → n ≤ properties_most → counted n ms ≤ properties_most
unfolding counted
counted-few n [] h = h
counted-few n (m ∷ ms) h = both (ltb n properties_most)
    (λ e. rw (e, counted) (counted-few (suc n) ms (ltb-true n properties_most e)))
    (λ e. rw (e, counted) h)

counted_none : (n : ℕ) → counted n [] ≡ n
unfolding counted
counted_none n = refl

pub past-append : (s : List ℕ) (n : ℕ) (ms ns : List Member) → past_most s n (ms ++ ns) ≡ past_most s n ms ++ past_most s (counted n ms) ns
unfolding past_most
past-append s n [] ns = ap (λ (k : ℕ). past_most s k ns) (sym (counted_none n))
past-append s n (m ∷ ms) ns =
    ap (λ (fs : List Fault). past_most_at s n m.name ++ fs) (past-append s (counted n (m ∷ [])) ms ns) ∙
    (sym (append_assoc (past_most_at s n m.name) (past_most s (counted n (m ∷ [])) ms) (past_most s (counted (counted n (m ∷ [])) ms) ns)) ∙
    ap (λ (k : ℕ). (past_most_at s n m.name ++ past_most s (counted n (m ∷ [])) ms) ++ past_most s k ns) (sym (counted-append n (m ∷ []) ms)))

-- ---- properties put in one after another

-- two parts, each with what it counts
parts : (fs gs xs ys : List Fault) → earlier (least (fs ++ xs)) (least (gs ++ ys)) ≡ least ((fs ++ gs) ++ (xs ++ ys))
parts fs gs xs ys =
    ap (λ (t : Option Fault). earlier t (least (gs ++ ys))) (least-join fs xs) ∙
    (ap (earlier (earlier (least fs) (least xs))) (least-join gs ys) ∙
    (cross (least fs) (least xs) (least gs) (least ys) ∙
    (ap (λ (t : Option Fault). earlier t (earlier (least xs) (least ys))) (sym (least-join fs gs)) ∙
    (ap (earlier (least (fs ++ gs))) (sym (least-join xs ys)) ∙
    sym (least-join (fs ++ gs) (xs ++ ys))))))

module _ (s : List ℕ) where
  -- nothing more
  pub adds_none : (l : Listed) → Adds [] [] [] s l l
  unfolding past_most counted least insert_all
  adds_none l = record { told = sym (earlier-none l.told); count = refl; list = λ e. refl }

  -- other faults of which the same is told
  pub adds_as : {fs gs : List Fault} {ms : List Member} {ps : List Property} {a b : Listed} → least fs ≡ least gs → Adds fs ms ps s a b → Adds gs ms ps s a b
  adds_as {fs} {gs} {ms} {ps} {a} {b} e h = record {
    told = h.told ∙ ap (earlier a.told) (least-join fs (past_most s a.list.n ms) ∙ (ap (λ (t : Option Fault). earlier t (least (past_most s a.list.n ms))) e ∙ sym (least-join gs (past_most s a.list.n ms))));
    count = h.count;
    list = h.list;
  }

  -- one after another
  pub adds_then : {fs gs : List Fault} {ms ns : List Member} {ps qs : List Property} {a b c : Listed} →
      Adds fs ms ps s a b → Adds gs ns qs s b c → Adds (fs ++ gs) (ms ++ ns) (ps ++ qs) s a c
  adds_then {fs} {gs} {ms} {ns} {ps} {qs} {a} {b} {c} h k = record {
    told = k.told ∙ (ap (λ (t : Option Fault). earlier t (least (gs ++ past_most s b.list.n ns))) h.told ∙ (earlier_assoc a.told (least (fs ++ past_most s a.list.n ms)) (least (gs ++ past_most s b.list.n ns)) ∙ ap (earlier a.told) (ap (λ (n : ℕ). earlier (least (fs ++ past_most s a.list.n ms)) (least (gs ++ past_most s n ns))) h.count ∙ (parts fs gs (past_most s a.list.n ms) (past_most s (counted a.list.n ms) ns) ∙ ap (λ (l : List Fault). least ((fs ++ gs) ++ l)) (sym (past-append s a.list.n ms ns))))));
    count = k.count ∙ (ap (λ (n : ℕ). counted n ns) h.count ∙ sym (counted-append a.list.n ms ns));
    list = λ e. k.list e ∙ (ap (insert_all qs) (h.list (earlier-nothing b.told (least (gs ++ past_most s b.list.n ns)) (sym k.told ∙ e)).0) ∙ sym (insert-append ps qs (view s a.list)));
  }

  -- one fault more, or none
  pub adds-faults : (fs : List Fault) {t u : Option Fault} {a b : Listed} → t ≡ least fs → u ≡ earlier a.told t → b.told ≡ u → b.list ≡ a.list → Adds fs [] [] s a b
  unfolding past_most counted insert_all
  adds-faults fs {t} {u} {a} {b} p q r e = record {
    told = r ∙ (q ∙ ap (earlier a.told) (p ∙ ap least (sym (append-nil fs))));
    count = ap (λ (l : Entries). l.n) e;
    list = λ z. ap (view s) e;
  }

-- ---- a walk through members

-- what members add, put together from each one's
pub record Adding : Type 1 where
  pub faults : List Member → List Fault
  pub named : List Member → List Member
  pub declared : List Member → List Property
  pub faults-append : (ms ns : List Member) → faults (ms ++ ns) ≡ faults ms ++ faults ns
  pub named-append : (ms ns : List Member) → named (ms ++ ns) ≡ named ms ++ named ns
  pub declared-append : (ms ns : List Member) → declared (ms ++ ns) ≡ declared ms ++ declared ns
  pub faults-none : faults [] ≡ []
  pub named_none : named [] ≡ []
  pub declared-none : declared [] ≡ []

abbrev pub AddsAll : Adding → List Member → (s : List ℕ) → Listed → Listed → Type 0
AddsAll w ms s a b = Adds (w.faults ms) (w.named ms) (w.declared ms) s a b

-- the members before i are put in
pub record Turn (w : Adding) (s : List ℕ) (i : ℕ) (all : List Member) (a b : Listed) : Type 0 where
  pub before : List Member
  pub walking : Walking (member_at s) (λ ms. before ++ ms) (length s) i all
  pub adds : AddsAll w before s a b

module _ (w : Adding) (s : List ℕ) where
  adds-nothing : (a : Listed) → AddsAll w [] s a a
  adds-nothing a = rw (w.faults-none, w.named_none, w.declared-none) (adds_none s a)

  pub turn-first : {i : ℕ} {all : List Member} (a : Listed) → Walking (member_at s) (λ ms. ms) (length s) i all → Turn w s i all a a
  turn-first a g = record { before = []; walking = g; adds = adds-nothing a }

  module _ {i : ℕ} {all : List Member} {a b : Listed} (t : Turn w s i all a b) where
    pub turn-done : member_at s i ≡ None → AddsAll w all s a b
    turn-done q = subst (λ (ms : List Member). AddsAll w ms s a b) (sym (append-nil t.before) ∙ at_done (member_at s) (λ ms. t.before ++ ms) (length s) i t.walking q) t.adds

    pub turn-next : {k e n : ℕ} {c : Listed} → GotItem (member_at s i) i (length s) (found k e n) → AddsAll w (record { name = i; value = k; end = e } ∷ []) s b c → Turn w s n all a c
    turn-next {k} {e} {n} {c} g h =
        let m : Member = record { name = i; value = k; end = e } in
        record {
          before = t.before ++ (m ∷ []);
          walking = walking_as (λ ms. (t.before ++ (m ∷ [])) ++ ms) (λ ms. append_assoc t.before (m ∷ []) ms) (at_item (member_at s) (λ ms. t.before ++ ms) (length s) i t.walking g);
          adds = rw (w.faults-append t.before (m ∷ []), w.named-append t.before (m ∷ []), w.declared-append t.before (m ∷ [])) (adds_then s t.adds h);
        }

pub turn-none : (w : Adding) (s : List ℕ) {all : List Member} (a : Listed) → [] ≡ all → AddsAll w all s a a
turn-none w s a e = subst (λ (ms : List Member). AddsAll w ms s a a) e (adds-nothing w s a)

-- a walk that lies in the text, and is right if the table of ends is
pub record Looping (s ends : List ℕ) (i : ℕ) (turn_if : Type 0) : Type 0 where
  pub within : i ≤ length s
  pub turn : Ends s ends → turn_if
