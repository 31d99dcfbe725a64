-- A text that breaks off within a word of a grammar, and what would complete it.
use Prim.Native.Nat.{ℕ, ◌≤◌, ◌<◌}
use native.Mathlib.Omega.{arith}
use mathlib.Core.Path.{◌≡◌, refl, sym, ap, ◌∙◌}
use mathlib.Core.Logic.{inl, inr}
use mathlib.Core.List.{List, [], ◌∷◌, ◌++◌, append_assoc}
use Rattle.abnf.specs.Abnf.{ε, ◌·◌, ◌–◌, ◌//◌, ∗◌, rule, x, lit}
use Rattle.abnf.proofs.Lead.{Many, over, again}
use Rattle.text.proofs.Utf8Place.{AllAscii}
use Rattle.json_grammar.proofs.Depth.{Json, Lead}

pub ascii-join : (k l : List ℕ) → AllAscii k → AllAscii l → AllAscii (k ++ l)
ascii-join [] l h g = g
ascii-join (b ∷ k) l h g = (h.0, ascii-join k l h.1 g)

-- a word of the grammar in ASCII
pub record AsciiWord (a : Json) : Type 0 where
  pub word : List ℕ
  pub ascii : AllAscii word
  pub is : (m : List ℕ) → Lead a (word ++ m) m

-- `l` goes as far as `r` within a word of the grammar that ASCII completes
pub record Broken (a : Json) (l r : List ℕ) : Type 0 where
  pub word : List ℕ
  pub rest : List ℕ
  pub cut : l ≡ word ++ r
  pub ascii : AllAscii rest
  pub is : (m : List ℕ) → Lead a (word ++ (rest ++ m)) m

module _ {a b : Json} where
  pub some-join : AsciiWord a → AsciiWord b → AsciiWord (a · b)
  some-join p q = record { word = p.word ++ q.word; ascii = ascii-join p.word q.word p.ascii q.ascii; is = λ m. rw append_assoc (q.word ++ m, p.is (q.word ++ m), q.is m) }

  pub some_left : AsciiWord a → AsciiWord (a // b)
  some_left p = record { word = p.word; ascii = p.ascii; is = λ m. inl (p.is m) }

  pub some_right : AsciiWord b → AsciiWord (a // b)
  some_right p = record { word = p.word; ascii = p.ascii; is = λ m. inr (p.is m) }

pub some-none : {a : Json} → AsciiWord (∗ a)
some-none = record { word = []; ascii = tt; is = λ m. over }

pub some-nothing : AsciiWord ε
some-nothing = record { word = []; ascii = tt; is = λ m. refl }

pub some_byte : (lo hi b : ℕ) → lo ≤ b → b ≤ hi → b < 128 → AsciiWord (lo – hi)
some_byte lo hi b h k g = record { word = b ∷ []; ascii = (g, tt); is = λ m. (b, h, k, refl) }

pub some-x : (b : ℕ) → b < 128 → AsciiWord (x b)
some-x b g = some_byte b b b (omega arith) (omega arith) g

pub some-lit : (w : List ℕ) → AllAscii w → AsciiWord (lit w)
some-lit [] h = some-nothing
some-lit (b ∷ w) h = some-join (some-x b h.0) (some-lit w h.1)

-- a word stands the same before anything
pub record WordAtFront (a : Json) (l r : List ℕ) : Type 0 where
  pub word : List ℕ
  pub cut : l ≡ word ++ r
  pub is : (m : List ℕ) → Lead a (word ++ m) m

cut-both : {l k : List ℕ} (v w r : List ℕ) → l ≡ v ++ k → k ≡ w ++ r → l ≡ (v ++ w) ++ r
cut-both v w r p q = p ∙ ap (λ (m : List ℕ). v ++ m) q ∙ sym (append_assoc v w r)

pub front_of : (a : Json) {l r : List ℕ} → Lead a l r → WordAtFront a l r
front_of (lo – hi) (b, h, k, e) = record { word = b ∷ []; cut = e; is = λ m. (b, h, k, refl) }
front_of ε e = record { word = []; cut = e; is = λ m. refl }
front_of (a · b) (k, f, g) =
    let p = front_of a f in
    let q = front_of b g in
    record { word = p.word ++ q.word; cut = cut-both p.word q.word _ p.cut q.cut; is = λ m. rw append_assoc (q.word ++ m, p.is (q.word ++ m), q.is m) }
front_of (a // b) (inl f) = let p = front_of a f in record { word = p.word; cut = p.cut; is = λ m. inl (p.is m) }
front_of (a // b) (inr f) = let p = front_of b f in record { word = p.word; cut = p.cut; is = λ m. inr (p.is m) }
front_of (∗ a) h = many (λ l r g. front_of a {l = l} {r = r} g) h
  where
    many : ((l r : List ℕ) → Lead a l r → WordAtFront a l r) → {l r : List ℕ} → Many (Lead a) l r → WordAtFront (∗ a) l r
    many f over = record { word = []; cut = refl; is = λ m. over }
    many f (again {s = l} {m = k} g t) =
        let p = f l k g in
        let q = many f t in
        record { word = p.word ++ q.word; cut = cut-both p.word q.word _ p.cut q.cut; is = λ m. rw append_assoc (again (p.is (q.word ++ m)) (q.is m)) }
front_of (rule n) h = absurd h

-- a word of a and one of b make one of c
abbrev pub Joins : Json → Json → Json → Type 0
Joins a b c = (k l m : List ℕ) → Lead a k l → Lead b l m → Lead c k m

abbrev pub Into : Json → Json → Type 0
Into a c = (k m : List ℕ) → Lead a k m → Lead c k m

-- it breaks off in the second
pub behind : (a b c : Json) → Joins a b c → {l k r : List ℕ} → Lead a l k → Broken b k r → Broken c l r
behind a b c j {r = r} w v = let p = front_of a w in
    record {
      word = p.word ++ v.word;
      rest = v.rest;
      cut = cut-both p.word v.word r p.cut v.cut;
      ascii = v.ascii;
      is = λ m. rw append_assoc (j _ _ m (p.is (v.word ++ (v.rest ++ m))) (v.is m));
    }

-- or in the first
pub before : (a b c : Json) → Joins a b c → {l r : List ℕ} → Broken a l r → AsciiWord b → Broken c l r
before a b c j v p = record {
  word = v.word;
  rest = v.rest ++ p.word;
  cut = v.cut;
  ascii = ascii-join v.rest p.word v.ascii p.ascii;
  is = λ m. rw (append_assoc v.rest p.word m) (j _ _ m (v.is (p.word ++ m)) (p.is m));
}

pub broken_into : (a c : Json) → Into a c → {l r : List ℕ} → Broken a l r → Broken c l r
broken_into a c f v = record { word = v.word; rest = v.rest; cut = v.cut; ascii = v.ascii; is = λ m. f _ m (v.is m) }

-- nothing of the word is there
pub fresh : {a : Json} → AsciiWord a → (l : List ℕ) → Broken a l l
fresh p l = record { word = []; rest = p.word; cut = refl; ascii = p.ascii; is = p.is }
