-- Memory that was opened: sound, with no device.
use Prim.Native.Nat.{ℕ, ◌+◌, ◌≤◌, ◌<◌}
use native.Mathlib.Omega.{arith}
use mathlib.Core.Path.{◌≡◌, refl, sym, ap, ◌∙◌}
use mathlib.Core.Bool.{Bool, true, false, ◌&&◌}
use mathlib.Core.List.{List}
use lib.ListN.{length, get_or, set, replicate, length-set, get_or-replicate}
use lib.Dec.{leb}
use borrow.Author.Tests.{leb-true}
use Rattle.memory.specs.Bytes.{span}
use Rattle.memory.specs.Layout.{room_size, most, domain_at, domain_length, head_at, head_size, order_at, image_at}
use Rattle.memory.specs.Sound.{Header, Sound}
use Rattle.memory.specs.State.{state, current}
use Rattle.journal.specs.Contract.{opens, fresh, Opened}
use Rattle.journal.specs.Parts.{Over, Opens, Marked, Laid}
use Rattle.memory.proofs.Judge.{ft, tf}
use Rattle.memory.proofs.Flat.{set_same, set_other, span_is, drop-same}
use Rattle.journal.proofs.Whole.{past-none}

-- the test and its facts
both : (a b : Bool) → (a && b) ≡ true → (a ≡ true) × (b ≡ true)
both true b e = (refl, e)
both false b e = ft e

pub opens_facts : (n d j l : ℕ) → opens n d j l ≡ true → Opens n d j l
opens_facts n d j l e =
    let a = both (leb 1 d) (leb d most && (leb j most && (leb 1 n && (leb n 32 && leb (image_at d j) l)))) e in
    let b = both (leb d most) (leb j most && (leb 1 n && (leb n 32 && leb (image_at d j) l))) a.1 in
    let c = both (leb j most) (leb 1 n && (leb n 32 && leb (image_at d j) l)) b.1 in
    let f = both (leb 1 n) (leb n 32 && leb (image_at d j) l) c.1 in
    let g = both (leb n 32) (leb (image_at d j) l) f.1 in
    record {
      some = leb-true 1 d a.0;
      few = leb-true d most b.0;
      deep = leb-true j most c.0;
      named = leb-true 1 n f.0;
      short = leb-true n 32 g.0;
      long = leb-true (image_at d j) l g.1;
    }

-- room 0 cleared, then four bytes
module _ (m m₁ : List ℕ) (n d j d₀ j₀ n₀ : ℕ) (o : Opens n d j (length m)) (ed : d₀ ≡ d) (ej : j₀ ≡ j) (en : n₀ ≡ n) (z : Over m (λ _. 0) 0 room_size m₁) where
  abbrev M : List ℕ
  M = set (set (set (set m₁ 0 72) 1 d₀) 2 j₀) 5 n₀

  size₁ : room_size ≤ length m₁
  size₁ = omega (arith, o, z.kept)

  size₂ : length (set m₁ 0 72) ≡ length m₁
  size₂ = length-set m₁ 0 72

  size₃ : length (set (set m₁ 0 72) 1 d₀) ≡ length m₁
  size₃ = length-set (set m₁ 0 72) 1 d₀ ∙ size₂

  size₄ : length (set (set (set m₁ 0 72) 1 d₀) 2 j₀) ≡ length m₁
  size₄ = length-set (set (set m₁ 0 72) 1 d₀) 2 j₀ ∙ size₃

  else : (i : ℕ) → (i ≡ 0 → ⊥) → (i ≡ 1 → ⊥) → (i ≡ 2 → ⊥) → (i ≡ 5 → ⊥) → get_or M i 0 ≡ get_or m₁ i 0
  else i a b c e =
      set_other (set (set (set m₁ 0 72) 1 d₀) 2 j₀) 5 n₀ i e ∙ set_other (set (set m₁ 0 72) 1 d₀) 2 j₀ i c
      ∙ set_other (set m₁ 0 72) 1 d₀ i b ∙ set_other m₁ 0 72 i a

  blank : (i : ℕ) → i < room_size → get_or m₁ i 0 ≡ 0
  blank i h = ap (λ (x : ℕ). get_or m₁ x 0) (omega arith) ∙ z.inside i h

  pub marked : Marked m n d j M
  marked = record {
    kept = length-set (set (set (set m₁ 0 72) 1 d₀) 2 j₀) 5 n₀ ∙ size₄ ∙ z.kept;
    marked = set_other (set (set (set m₁ 0 72) 1 d₀) 2 j₀) 5 n₀ 0 (λ e. omega arith) ∙ set_other (set (set m₁ 0 72) 1 d₀) 2 j₀ 0 (λ e. omega arith) ∙ set_other (set m₁ 0 72) 1 d₀ 0 (λ e. omega arith) ∙ set_same m₁ 0 72 (omega (arith, size₁));
    capacity_is = set_other (set (set (set m₁ 0 72) 1 d₀) 2 j₀) 5 n₀ 1 (λ e. omega arith) ∙ set_other (set (set m₁ 0 72) 1 d₀) 2 j₀ 1 (λ e. omega arith) ∙ set_same (set m₁ 0 72) 1 d₀ (omega (arith, size₁, size₂)) ∙ ed;
    depth_is = set_other (set (set (set m₁ 0 72) 1 d₀) 2 j₀) 5 n₀ 2 (λ e. omega arith) ∙ set_same (set (set m₁ 0 72) 1 d₀) 2 j₀ (omega (arith, size₁, size₃)) ∙ ej;
    length_is = set_same (set (set (set m₁ 0 72) 1 d₀) 2 j₀) 5 n₀ (omega (arith, size₁, size₄)) ∙ en;
    ring = λ i a b. else i (λ e. omega arith) (λ e. omega arith) (λ e. omega arith) (λ e. omega arith) ∙ blank i (omega arith);
    zero = λ i a b. else i (λ e. omega arith) (λ e. omega arith) (λ e. omega arith) (λ e. omega arith) ∙ blank i b;
    above = λ i a. else i (λ e. omega arith) (λ e. omega arith) (λ e. omega arith) (λ e. omega arith) ∙ z.above i (omega arith);
  }

-- then the domain and the order
module _ (m m₁ m₂ m₃ domain : List ℕ) (d j : ℕ) (o : Opens (length domain) d j (length m)) (k : Marked m (length domain) d j m₁) (w : Over m₁ (λ i. get_or domain i 0) domain_at (length domain) m₂) (v : Over m₂ (λ i. i) order_at most m₃) where
  below : (i : ℕ) → i < domain_at → get_or m₃ i 0 ≡ get_or m₁ i 0
  below i h = v.below i (omega arith) ∙ w.below i h

  between : (i : ℕ) → domain_at + length domain ≤ i → i < order_at → get_or m₃ i 0 ≡ get_or m₁ i 0
  between i a b = v.below i b ∙ w.above i a

  above : (i : ℕ) → order_at + most ≤ i → get_or m₃ i 0 ≡ get_or m₁ i 0
  above i a = v.above i a ∙ w.above i (omega (arith, o))

  pub laid : Laid m domain d j m₃
  laid = record {
    kept = v.kept ∙ w.kept ∙ k.kept;
    marked = below 0 (omega arith) ∙ k.marked;
    capacity_is = below 1 (omega arith) ∙ k.capacity_is;
    depth_is = below 2 (omega arith) ∙ k.depth_is;
    length_is = below 5 (omega arith) ∙ k.length_is;
    ring = λ i a b. below i (omega arith) ∙ k.ring i a b;
    named = λ i h. v.below (domain_at + i) (omega (arith, o)) ∙ w.inside i h;
    head = λ i h. between (head_at + i) (omega (arith, o)) (omega arith) ∙ k.zero (head_at + i) (omega arith) (omega arith);
    order = λ i h. v.inside i h;
    zero = λ i a b. above i a ∙ k.zero i (omega arith) b;
    above = λ i a. above i (omega arith) ∙ k.above i a;
  }

module _ (m domain m' : List ℕ) (d j : ℕ) (o : Opens (length domain) d j (length m)) (l : Laid m domain d j m') where
  count_is : get_or m' head_at 0 ≡ 0
  count_is = ap (λ (x : ℕ). get_or m' x 0) (omega arith) ∙ l.head 0 (omega arith)

  header : Header m'
  header = omega (arith, o, l.kept, l.marked, l.capacity_is, l.depth_is, l.length_is, l.ring 3 (omega arith) (omega arith), l.ring 4 (omega arith) (omega arith), count_is)

  sound : Sound m'
  unfolding header
  sound = record {
    header = header;
    permuted = record {
      slots = λ i h. omega (arith, o, l.capacity_is, l.order i (omega (arith, o, l.capacity_is)));
      apart = λ i k q h e. omega (arith, l.order i (omega (arith, o, l.capacity_is)), l.order k (omega (arith, o, l.capacity_is)));
    };
  }

  domain_is : span m' domain_at (domain_length m') ≡ domain
  domain_is = ap (span m' domain_at) l.length_is ∙ span_is m' domain domain_at (length domain) (omega (arith, o, l.kept)) refl l.named

  head_is : span m' head_at head_size ≡ replicate head_size 0
  head_is = span_is m' (replicate head_size 0) head_at head_size (omega (arith, o, l.kept)) refl (λ i h. l.head i h ∙ sym (get_or-replicate head_size i 0 0 h))

  state_is : state m' ≡ fresh domain d j (state m').now.rooms
  unfolding state current
  state_is = λ i. record {
    domain = domain_is i;
    capacity = l.capacity_is i;
    depth = l.depth_is i;
    now = record { head = head_is i; rooms = (current m').rooms };
    past = past-none m' (l.ring 4 (omega arith) (omega arith)) i;
  }

  pub opened : true ≡ opens (length domain) d j (length m) → Opened m domain d j m' true
  opened e = record {
    answered = e;
    refused = λ q. tf q;
    sound = λ _. sound;
    opened = λ _. state_is;
    kept = l.kept;
    beyond = drop-same m m' (image_at d j) l.kept (λ i h. l.above i (omega arith));
  }

pub opened-not : (m domain : List ℕ) (d j : ℕ) → false ≡ opens (length domain) d j (length m) → Opened m domain d j m false
opened-not m domain d j e = record {
  answered = e;
  refused = λ _. refl;
  sound = λ q. ft q;
  opened = λ q. ft q;
  kept = refl;
  beyond = refl;
}
