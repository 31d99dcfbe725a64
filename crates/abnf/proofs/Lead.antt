-- A grammar's words at the front of a text: what is left after them.
use Prim.Native.Nat.{ℕ, zero, suc, ◌≤◌}
use mathlib.Core.Path.{◌≡◌, refl, sym, ap, subst, ◌∙◌}
use mathlib.Core.Logic.{◌⊎◌, inl, inr}
use mathlib.Core.List.{List, [], ◌∷◌, ◌++◌, append_assoc, append-nil}
use Rattle.abnf.specs.Abnf.{Abnf, ◌–◌, ε, ◌·◌, ◌//◌, ∗◌, rule, Words, byte, nothing, join, left, right, none, more, named}

pub data Many (R : List ℕ → List ℕ → Type 0) : List ℕ → List ℕ → Type 0 where
  over : {s : List ℕ} → Many R s s
  again : {s m r : List ℕ} → R s m → Many R m r → Many R s r

-- `s` is a word of the grammar and then `r`; a rule that is only named has no words here
abbrev pub Lead : {N : Type 0} → Abnf N → List ℕ → List ℕ → Type 0
Lead (lo – hi) s r = (b : ℕ) × (lo ≤ b) × (b ≤ hi) × (s ≡ b ∷ r)
Lead ε s r = s ≡ r
Lead (a · b) s r = (m : List ℕ) × Lead a s m × Lead b m r
Lead (a // b) s r = Lead a s r ⊎ Lead b s r
Lead (∗ a) s r = Many (Lead a) s r
Lead (rule n) s r = ⊥

-- an expression with each named rule replaced
abbrev pub fill : {N : Type 0} → (N → Abnf N) → Abnf N → Abnf N
fill f (lo – hi) = lo – hi
fill f ε = ε
fill f (a · b) = fill f a · fill f b
fill f (a // b) = fill f a // fill f b
fill f (∗ a) = ∗ fill f a
fill f (rule n) = f n

cut-both : {s m : List ℕ} (x y r : List ℕ) → s ≡ x ++ m → m ≡ y ++ r → s ≡ (x ++ y) ++ r
cut-both x y r p q = p ∙ ap (λ (l : List ℕ). x ++ l) q ∙ sym (append_assoc x y r)

module _ {N : Type 0} (rules : N → Abnf N) where
  abbrev pub depth : ℕ → N → Abnf N
  depth zero n = rule n
  depth (suc d) n = fill (depth d) (rules n)

  abbrev pub expand : ℕ → Abnf N → Abnf N
  expand d a = fill (depth d) a

  -- the two meanings agree
  pub record Word (d : ℕ) (a : Abnf N) (s r : List ℕ) : Type 0 where
    pub word : List ℕ
    pub is : Words rules d a word
    pub cut : s ≡ word ++ r

  lead_in : (d : ℕ) → ((n : N) (s r : List ℕ) → Lead (depth d n) s r → Word d (rule n) s r) → (a : Abnf N) {s r : List ℕ} → Lead (expand d a) s r → Word d a s r
  lead_in d f (lo – hi) h = record { word = h.0 ∷ []; is = byte h.1 h.2; cut = h.3 }
  lead_in d f ε h = record { word = []; is = nothing; cut = h }
  lead_in d f (a · b) h =
      let p = lead_in d f a h.1 in
      let q = lead_in d f b h.2 in
      record { word = p.word ++ q.word; is = join p.is q.is; cut = cut-both p.word q.word _ p.cut q.cut }
  lead_in d f (a // b) (inl h) = let p = lead_in d f a h in record { word = p.word; is = left p.is; cut = p.cut }
  lead_in d f (a // b) (inr h) = let p = lead_in d f b h in record { word = p.word; is = right p.is; cut = p.cut }
  lead_in d f (∗ a) h = many (λ s r g. lead_in d f a {s = s} {r = r} g) h
    where
      many : ((s r : List ℕ) → Lead (expand d a) s r → Word d a s r) → {s r : List ℕ} → Many (Lead (expand d a)) s r → Word d (∗ a) s r
      many f over = record { word = []; is = none; cut = refl }
      many f (again {s = s} {m = m} h t) =
          let p = f s m h in
          let q = many f t in
          record { word = p.word ++ q.word; is = more p.is q.is; cut = cut-both p.word q.word _ p.cut q.cut }
  lead_in d f (rule n) {s = s} {r = r} h = f n s r h

  lead-named : (d : ℕ) (n : N) (s r : List ℕ) → Lead (depth d n) s r → Word d (rule n) s r
  lead-named zero n s r h = absurd h
  lead-named (suc d) n s r h = let p = lead_in d (lead-named d) (rules n) h in record { word = p.word; is = named p.is; cut = p.cut }

  pub lead-word : (d : ℕ) (a : Abnf N) {s r : List ℕ} → Lead (expand d a) s r → Word d a s r
  lead-word d a h = lead_in d (lead-named d) a h

  pub word-lead : {d : ℕ} {a : Abnf N} {w : List ℕ} (r : List ℕ) → Words rules d a w → Lead (expand d a) (w ++ r) r
  word-lead r (byte {b = b} h k) = (b, h, k, refl)
  word-lead r nothing = refl
  word-lead r (join {x = w} {y = y} p q) = rw append_assoc (y ++ r, word-lead (y ++ r) p, word-lead r q)
  word-lead r (left p) = inl (word-lead r p)
  word-lead r (right p) = inr (word-lead r p)
  word-lead r none = over
  word-lead r (more {x = w} {y = y} p q) = rw append_assoc (again (word-lead (y ++ r) p) (word-lead r q))
  word-lead r (named p) = word-lead r p

  pub whole-lead : (d : ℕ) (a : Abnf N) {w : List ℕ} → Words rules d a w → Lead (expand d a) w []
  whole-lead d a {w} p = rw (append-nil w) at (word-lead [] p)

  pub lead-whole : (d : ℕ) (a : Abnf N) {w : List ℕ} → Lead (expand d a) w [] → Words rules d a w
  lead-whole d a h = let p = lead-word d a h in subst (λ (l : List ℕ). Words rules d a l) (sym (p.cut ∙ append-nil p.word)) p.is
