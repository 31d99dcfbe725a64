-- Laws of values: what each way through the code shows of the specification.
use Rattle.std.specs.Prelude.{Err, Ok, Result, is_ok}
use Prim.Native.Nat.{ℕ, zero, suc, ◌+◌, ◌-◌, ◌≤◌, ◌<◌}
use native.Mathlib.Nat.{add-zero}
use native.Mathlib.Numerals.{add-one, sub-one}
use native.Mathlib.Omega.{arith}
use mathlib.Core.Path.{◌≡◌, refl, sym, ap, subst, ◌∙◌}
use mathlib.Core.List.{List, [], ◌∷◌}
use mathlib.Core.Logic.{◌⊎◌, inl, inr}
use mathlib.Core.Bool.{Bool, true, false, true≢false}
use lib.ListN.{length, get_or, drop, drop_of_length-le}
use lib.Dec.{eqb}
use lib.Seq.{drop-cons}
use borrow.Author.Tests.{ne_eqb, eq-eqb, eqb-true}
use Rattle.json_text.specs.Bytes.{byte, ws, word, and_then, Skipped, EndsWithin, Scanned, Between, Moved}
use Rattle.json_text.specs.Strings.{string_at}
use Rattle.json_text.specs.Number.{number_at}
use Rattle.json_text.specs.Value.{bracket, brace, other, kind_of, after, series, list_of, colon, key_at, member_of, value_of, value_at, array_at, object_at, at_end, document_of, opens, is_container}
use Rattle.json_text.specs.Parts.{Bare}
use Rattle.json_text.proofs.Bytes.{both, inside=}
use Rattle.json_text.proofs.Scans.{carry}

-- ---- words

pub word_ok : (w : ℕ) (l s : List ℕ) (at : ℕ) → byte s at ≡ w → word (w ∷ l) s at ≡ word l s (at + 1)
unfolding word
word_ok w l s at e = rw (eq-eqb (byte s at) w e, word)

pub word-bad : (w : ℕ) (l s : List ℕ) (at : ℕ) → (byte s at ≡ w → ⊥) → word (w ∷ l) s at ≡ Err at
unfolding word
word-bad w l s at f = rw (ne_eqb (byte s at) w f, word)

pub word-step : (w s : List ℕ) (at i : ℕ) → i < length w → byte s (at + i) ≡ get_or w i 0 → word (drop (i + 1) w) s (at + (i + 1)) ≡ word (drop i w) s (at + i)
word-step w s at i h e = rw (add-one i, drop-cons w i 0 h, word_ok (get_or w i 0) (drop (suc i) w) s (at + i) e) (ap (λ (k : ℕ). word (drop (suc i) w) s k) (omega arith))

pub word_miss : (w s : List ℕ) (at i : ℕ) → i < length w → (byte s (at + i) ≡ get_or w i 0 → ⊥) → word (drop i w) s (at + i) ≡ Err (at + i)
word_miss w s at i h f = rw (drop-cons w i 0 h) (word-bad (get_or w i 0) (drop (suc i) w) s (at + i) f)

pub word-done : (w s : List ℕ) (i k : ℕ) → length w ≤ i → word (drop i w) s k ≡ Ok k
unfolding word
word-done w s i k h = rw (drop_of_length-le w h)

pub word-length : (w s : List ℕ) (at e : ℕ) → word w s at ≡ Ok e → e ≡ at + length w
unfolding word
word-length [] s at e q = let z : at ≡ e = cc in omega arith
word-length (b ∷ w) s at e q = both (eqb (byte s at) b)
    (λ y. let h = word-length w s (at + 1) e (sym (rw (y, word)) ∙ q) in omega arith)
    (λ n. let f : word (b ∷ w) s at ≡ Err at = rw (n, word) in let z : ◌≡◌ {A = ℕ} 0 1 = cc in absurd (omega arith))

-- the loop over a word at `at` has come to i
pub record Spelling (w s : List ℕ) (at i : ℕ) : Type 0 where
  pub count : i ≤ length w
  pub to : (at + i) - length s ≤ at - length s
  pub same : word (drop i w) s (at + i) ≡ word w s at

module _ {w s : List ℕ} {at i : ℕ} (v : Spelling w s at i) where
  pub spell-inside : {b : ℕ} → b ≡ byte s (at + i) → b ≡ get_or w i 0 → get_or w i 0 < 256 → at + i < length s
  spell-inside p e h = inside= s (at + i) (get_or w i 0) (sym p ∙ e) h

  pub spell-more : {b : ℕ} → i < length w → b ≡ byte s (at + i) → b ≡ get_or w i 0 → get_or w i 0 < 256 → Spelling w s at (i + 1)
  spell-more l p e h = let k = spell-inside p e h in record { count = omega arith; to = omega arith; same = word-step w s at i l (sym p ∙ e) ∙ v.same }

  pub spell_miss : {b : ℕ} → i < length w → b ≡ byte s (at + i) → (b ≡ get_or w i 0 → ⊥) → Moved (word w s at) at (length s) (Err (at + i))
  spell_miss l p f = record { is = sym (word_miss w s at i l (λ q. f (p ∙ q))) ∙ v.same; lies = (omega arith, v.to) }

  pub spell-done : length w ≤ i → Moved (word w s at) at (length s) (Ok (at + length w))
  spell-done h =
      let e : i ≡ length w = omega (arith, v.count) in
      subst (λ (n : ℕ). Moved (word w s at) at (length s) (Ok (at + n))) e (record { is = sym (word-done w s i (at + i) h) ∙ v.same; lies = (omega arith, v.to) })

-- a word that is not empty
pub spelled : (w s : List ℕ) (at : ℕ) {r : Result ℕ ℕ} → 0 < length w → at < length s → Moved (word w s at) at (length s) r → Scanned (word w s at) at (length s) r
spelled w s at {r} h k m = record { is = m.is; lies = go r m.is m.lies }
  where
    go : (q : Result ℕ ℕ) → q ≡ word w s at → Between at (length s) q → EndsWithin at (length s) q
    go (Ok e) p l = let z = word-length w s at e (sym p) in (omega arith, omega arith)
    go (Err e) p l = l

-- ---- items

-- a series that is read on at i has the answer `want`
pub record Going (item : ℕ → Result ℕ ℕ) (close : ℕ) (s : List ℕ) (i : ℕ) (want : Result ℕ ℕ) : Type 0 where
  pub fuel : ℕ
  pub enough : length s < i + fuel
  pub same : series item close s fuel i ≡ want

module _ (item : ℕ → Result ℕ ℕ) (close : ℕ) (s : List ℕ) where
  pub after_comma : (next : ℕ → Result ℕ ℕ) (j : ℕ) → eqb (byte s j) 44 ≡ true → after next close s j ≡ next (ws s (j + 1))
  unfolding after
  after_comma next j b = rw (b, after)

  pub after_close : (next : ℕ → Result ℕ ℕ) (j : ℕ) → eqb (byte s j) 44 ≡ false → eqb (byte s j) close ≡ true → after next close s j ≡ Ok (j + 1)
  unfolding after
  after_close next j b c = rw (b, after) (rw c)

  pub after-bad : (next : ℕ → Result ℕ ℕ) (j : ℕ) → eqb (byte s j) 44 ≡ false → eqb (byte s j) close ≡ false → after next close s j ≡ Err j
  unfolding after
  after-bad next j b c = rw (b, after) (rw c)

  pub series_then : (f i e : ℕ) → item i ≡ Ok e → series item close s (suc f) i ≡ after (λ j. series item close s f j) close s (ws s e)
  unfolding series and_then
  series_then f i e q = rw q

  pub series-bad : (f i e : ℕ) → item i ≡ Err e → series item close s (suc f) i ≡ Err e
  unfolding series and_then
  series-bad f i e q = rw q

  pub list-none : (i : ℕ) → eqb (byte s i) close ≡ true → list_of item close s i ≡ Ok (i + 1)
  unfolding list_of
  list-none i b = rw (b, list_of)

  pub list-some : (i : ℕ) → eqb (byte s i) close ≡ false → list_of item close s i ≡ series item close s (length s) i
  unfolding list_of
  list-some i b = rw (b, list_of)

  pub going_start : (i : ℕ) → 0 < i → (byte s i ≡ close → ⊥) → Going item close s i (list_of item close s i)
  going_start i h f = record { fuel = length s; enough = omega arith; same = sym (list-some i (ne_eqb _ _ f)) }

  -- there is a turn left
  turn : (i : ℕ) {want : Result ℕ ℕ} → i ≤ length s → (g : Going item close s i want) → (f : ℕ) × (series item close s (suc f) i ≡ want) × (length s ≤ i + f)
  turn i {want} h g = go g.fuel g.enough g.same
    where
      go : (k : ℕ) → length s < i + k → series item close s k i ≡ want → (f : ℕ) × (series item close s (suc f) i ≡ want) × (length s ≤ i + f)
      go zero e q = absurd (let z : i + 0 ≡ i = add-zero i in omega arith)
      go (suc f) e q = (f, q, omega arith)

  module _ (i e : ℕ) {want : Result ℕ ℕ} (h : i ≤ length s) (g : Going item close s i want) where
    pub going-bad : item i ≡ Err e → Err e ≡ want
    going-bad q = let t = turn i h g in sym (series-bad t.0 i e q) ∙ t.1

    pub going_more : item i ≡ Ok e → byte s (ws s e) ≡ 44 → i < ws s (ws s e + 1) → Going item close s (ws s (ws s e + 1)) want
    going_more q b l = let t = turn i h g in record { fuel = t.0; enough = omega (arith, t.2); same = sym (series_then t.0 i e q ∙ after_comma _ _ (eq-eqb _ _ b)) ∙ t.1 }

    pub going-shut : item i ≡ Ok e → (byte s (ws s e) ≡ 44 → ⊥) → byte s (ws s e) ≡ close → Ok (ws s e + 1) ≡ want
    going-shut q n b = let t = turn i h g in sym (series_then t.0 i e q ∙ after_close _ _ (ne_eqb _ _ n) (eq-eqb _ _ b)) ∙ t.1

    pub going_wrong : item i ≡ Ok e → (byte s (ws s e) ≡ 44 → ⊥) → (byte s (ws s e) ≡ close → ⊥) → Err (ws s e) ≡ want
    going_wrong q n b = let t = turn i h g in sym (series_then t.0 i e q ∙ after-bad _ _ (ne_eqb _ _ n) (ne_eqb _ _ b)) ∙ t.1

-- ---- members

-- a string begins with a quote
pub string-quote : (s : List ℕ) (at e : ℕ) → string_at s at ≡ Ok e → byte s at ≡ 34
unfolding string_at
string-quote s at e q = both (eqb (byte s at) 34)
    (λ b. eqb-true _ _ b)
    (λ b. let f : string_at s at ≡ Err at = rw (b, string_at) in let z : ◌≡◌ {A = ℕ} 0 1 = cc in absurd (omega arith))

module _ (s : List ℕ) where
  key_then : (at e : ℕ) → string_at s at ≡ Ok e → key_at s at ≡ colon s (ws s e)
  unfolding key_at and_then
  key_then at e q = rw q

  pub colon_yes : (j : ℕ) → byte s j ≡ 58 → colon s j ≡ Ok (ws s (j + 1))
  unfolding colon
  colon_yes j b = rw (eq-eqb (byte s j) 58 b, colon)

  pub colon_no : (j : ℕ) → (byte s j ≡ 58 → ⊥) → colon s j ≡ Err j
  unfolding colon
  colon_no j f = rw (ne_eqb (byte s j) 58 f, colon)

  pub key-bad : {at e : ℕ} → Scanned (string_at s at) at (length s) (Err e) → Scanned (key_at s at) at (length s) (Err e)
  unfolding key_at and_then
  key-bad w = record { is = rw (sym w.is); lies = w.lies }

  pub key-goes : {at e : ℕ} {r : Result ℕ ℕ} → Scanned (string_at s at) at (length s) (Ok e) → Scanned (colon s (ws s e)) e (length s) r → Scanned (key_at s at) at (length s) r
  key-goes {at} {e} w c = let l = w.lies in carry (sym (key_then at e (sym w.is))) (omega arith) (omega arith) c

  module _ {e j : ℕ} (p : Skipped (ws s e) e (length s) j) {b : ℕ} (q : b ≡ byte s j) where
    pub colon-inside : b ≡ 58 → j < length s
    colon-inside c = inside= s j 58 (sym q ∙ c) (omega arith)

    pub colon-there : {k : ℕ} → b ≡ 58 → Skipped (ws s (j + 1)) (j + 1) (length s) k → Scanned (colon s (ws s e)) e (length s) (Ok k)
    colon-there {k} c x =
        let h = colon-inside c in
        let m = p.from in
        let n = x.from in
        let o = x.to in
        record { is = sym (ap (colon s) (sym p.is) ∙ colon_yes j (sym q ∙ c) ∙ ap Ok (sym x.is)); lies = (omega arith, omega arith) }

    pub colon-missing : (b ≡ 58 → ⊥) → Scanned (colon s (ws s e)) e (length s) (Err j)
    colon-missing f =
        let m = p.from in
        let n = p.to in
        record { is = sym (ap (colon s) (sym p.is) ∙ colon_no j (λ c. f (q ∙ c))); lies = (omega arith, omega arith) }

  pub member-bad : (v : ℕ → Result ℕ ℕ) (i k : ℕ) → key_at s i ≡ Err k → member_of v s i ≡ Err k
  unfolding member_of and_then
  member-bad v i k q = rw q

  pub member_at_lem : (v : ℕ → Result ℕ ℕ) (i k : ℕ) → key_at s i ≡ Ok k → member_of v s i ≡ v k
  unfolding member_of and_then
  member_at_lem v i k q = rw q

-- ---- values

pub kind-other : (b : ℕ) → (b ≡ 91 → ⊥) → (b ≡ 123 → ⊥) → (b ≡ 34 → ⊥) → (b ≡ 116 → ⊥) → (b ≡ 102 → ⊥) → (b ≡ 110 → ⊥) → kind_of b ≡ other
unfolding kind_of
kind-other b f1 f2 f3 f4 f5 f6 = rw (ne_eqb b 91 f1, ne_eqb b 123 f2, ne_eqb b 34 f3, ne_eqb b 116 f4, ne_eqb b 102 f5, ne_eqb b 110 f6)

pub value-array : (d : ℕ) (s : List ℕ) (at : ℕ) → byte s at ≡ 91 → (d ≡ 0 → ⊥) → array_at (d - 1) s at ≡ value_at d s at
unfolding value_at array_at value_of kind_of
value-array zero s at e f = absurd (f refl)
value-array (suc d) s at e f = rw (e, sub-one)

pub value-object : (d : ℕ) (s : List ℕ) (at : ℕ) → byte s at ≡ 123 → (d ≡ 0 → ⊥) → object_at (d - 1) s at ≡ value_at d s at
unfolding value_at object_at value_of kind_of
value-object zero s at e f = absurd (f refl)
value-object (suc d) s at e f = rw (e, sub-one)

pub value-deep : (d : ℕ) (s : List ℕ) (at : ℕ) → (kind_of (byte s at) ≡ bracket) ⊎ (kind_of (byte s at) ≡ brace) → d ≡ 0 → Err at ≡ value_at d s at
unfolding value_at value_of
value-deep zero s at (inl e) z = rw e
value-deep zero s at (inr e) z = rw e
value-deep (suc d) s at e z = absurd (omega arith)

-- any other value is the same at each depth
pub value_flat : (d : ℕ) (s : List ℕ) (at : ℕ) {r : Result ℕ ℕ} → ((a o : ℕ → Result ℕ ℕ) → r ≡ value_of (kind_of (byte s at)) a o s at) → r ≡ value_at d s at
unfolding value_at
value_flat zero s at q = q _ _
value_flat (suc d) s at q = q _ _

module _ (d : ℕ) (s : List ℕ) (at : ℕ) where
  pub value-deep-array : byte s at ≡ 91 → d ≡ 0 → Err at ≡ value_at d s at
  unfolding kind_of
  value-deep-array b z = value-deep d s at (inl (ap kind_of b)) z

  pub value-deep-object : byte s at ≡ 123 → d ≡ 0 → Err at ≡ value_at d s at
  unfolding kind_of
  value-deep-object b z = value-deep d s at (inr (ap kind_of b)) z

  pub value-quote : byte s at ≡ 34 → string_at s at ≡ value_at d s at
  unfolding kind_of value_of
  value-quote b = value_flat d s at (λ a o. rw b)

  pub value-true : byte s at ≡ 116 → word (116 ∷ 114 ∷ 117 ∷ 101 ∷ []) s at ≡ value_at d s at
  unfolding kind_of value_of
  value-true b = value_flat d s at (λ a o. rw b)

  pub value-false : byte s at ≡ 102 → word (102 ∷ 97 ∷ 108 ∷ 115 ∷ 101 ∷ []) s at ≡ value_at d s at
  unfolding kind_of value_of
  value-false b = value_flat d s at (λ a o. rw b)

  pub value-null : byte s at ≡ 110 → word (110 ∷ 117 ∷ 108 ∷ 108 ∷ []) s at ≡ value_at d s at
  unfolding kind_of value_of
  value-null b = value_flat d s at (λ a o. rw b)

  pub value-other : kind_of (byte s at) ≡ other → number_at s at ≡ value_at d s at
  unfolding value_of
  value-other k = value_flat d s at (λ a o. rw k)

-- what begins no string, array or object
pub bare : {b c : ℕ} → b ≡ c → (b ≡ 91 → ⊥) → (b ≡ 123 → ⊥) → (b ≡ 34 → ⊥) → Bare c
bare p f g h = record { no-array = λ q. f (p ∙ q); no-object = λ q. g (p ∙ q); no-string = λ q. h (p ∙ q) }

pub bare-opens : {b c : ℕ} {r : Bool} → b ≡ c → r ≡ opens b → r ≡ false → (b ≡ 34 → ⊥) → Bare c
unfolding opens
bare-opens p o e h = bare p (λ q. true≢false (sym (o ∙ rw q) ∙ e)) (λ q. true≢false (sym (o ∙ rw q) ∙ e)) h

module _ (s : List ℕ) (i : ℕ) (p : i ≡ ws s 0) where
  pub document-bad : (e : ℕ) → value_at 16 s i ≡ Err e → Err e ≡ document_of s
  unfolding document_of and_then
  document-bad e q = rw (← p, q)

  document-rest : (e j : ℕ) → value_at 16 s i ≡ Ok e → j ≡ ws s e → at_end s j ≡ document_of s
  unfolding document_of and_then
  document-rest e j q x = rw (← p, q, x)

  pub document-whole : (e j : ℕ) → value_at 16 s i ≡ Ok e → j ≡ ws s e → j ≡ length s → Ok j ≡ document_of s
  unfolding at_end
  document-whole e j q x y = rw (← document-rest e j q x) (rw (eq-eqb j (length s) y, at_end))

  pub document-more : (e j : ℕ) → value_at 16 s i ≡ Ok e → j ≡ ws s e → (j ≡ length s → ⊥) → Err j ≡ document_of s
  unfolding at_end
  document-more e j q x y = rw (← document-rest e j q x) (rw (ne_eqb j (length s) y, at_end))

-- ---- containers

container-bad : (s : List ℕ) (e : ℕ) → document_of s ≡ Err e → false ≡ is_container s
unfolding is_container
container-bad s e q = rw (q, is_container)

container-end : (s : List ℕ) (e : ℕ) → document_of s ≡ Ok e → opens (byte s (ws s 0)) ≡ is_container s
unfolding is_container
container-end s e q = rw (q, is_container)

module _ (s : List ℕ) {r : Result ℕ ℕ} {b : Bool} (p : r ≡ document_of s) (x : b ≡ is_ok r) where
  pub container-none : b ≡ false → b ≡ is_container s
  container-none n = go r refl
    where
      go : (q : Result ℕ ℕ) → r ≡ q → b ≡ is_container s
      go (Ok e) d = absurd (true≢false (sym (x ∙ ap is_ok d) ∙ n))
      go (Err e) d = n ∙ container-bad s e (sym p ∙ d)

  pub container-some : b ≡ true → {i c : ℕ} → i ≡ ws s 0 → c ≡ byte s i → opens c ≡ is_container s
  container-some n {i} {c} j k = go r refl
    where
      go : (q : Result ℕ ℕ) → r ≡ q → opens c ≡ is_container s
      go (Ok e) d = ap opens (k ∙ ap (byte s) j) ∙ container-end s e (sym p ∙ d)
      go (Err e) d = absurd (true≢false (sym n ∙ (x ∙ ap is_ok d)))
