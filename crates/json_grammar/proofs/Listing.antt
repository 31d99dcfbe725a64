-- The lists of members and of elements are the grammar's.
use Rattle.std.specs.Prelude.{Err, Ok, Result, Option, None}
use Prim.Native.Nat.{ℕ, zero, suc, ◌+◌, ◌≤◌, ◌<◌}
use native.Mathlib.Omega.{arith}
use mathlib.Core.Path.{◌≡◌, refl, sym, ap, ◌∙◌, subst}
use mathlib.Core.List.{List, [], ◌∷◌, ◌++◌}
use mathlib.Core.Bool.{true, false, true≢false}
use lib.ListN.{length, drop, length-append, length-drop}
use lib.Dec.{eqb}
use borrow.Author.Tests.{eqb-true, eq-eqb}
use Rattle.abnf.specs.Abnf.{◌·◌, x}
use Rattle.abnf.proofs.Lead.{lead-word, expand}
use Rattle.json_text.specs.Bytes.{byte, ws, and_then}
use Rattle.json_text.specs.Strings.{string_at}
use Rattle.json_text.specs.Value.{kind_of, series, list_of, array_of, key_at, member_of, object_of, value_of, value_at}
use Rattle.json_text.specs.Members.{Member, next_at, item_at, member_at, element_at, list_from, members_at, elements_at, found}
use Rattle.json_grammar.specs.Rfc8259 as G
use Rattle.json_grammar.specs.Listing.{StandsWithin, Stands, IsMember, IsElement, Chain, last, more, Holds, none, some}
use Rattle.json_text.specs.declared.Item.{Item}
use Rattle.json_text.proofs.Bytes.{both}
use Rattle.json_text.proofs.Raise.{clash, raise}
use Rattle.json_text.proofs.Values.{after_comma, after_close, after-bad, series_then, series-bad, list-none, list-some, member_at_lem, member-bad}
use Rattle.json_grammar.proofs.Depth as D
use Rattle.json_grammar.proofs.Sound.{Sound, value-sound, key-sound, token, begins, closes, shuts}
use Rattle.json_grammar.proofs.Complete.{value_not}
use Rattle.json_grammar.proofs.Ends.{Past, token-ends, begin-ends, close-ends, shut-ends, key-past, value-past}

module _ (s : List ℕ) where
  -- ---- a walk meets the items that the reader read

  settled : (w : List ℕ) (i j : ℕ) → drop i s ≡ w ++ drop j s → (i ≤ j) × (j ≤ length s) → j ≡ i + length w
  settled w i j e l =
      let n : length (drop i s) ≡ length (w ++ drop j s) = ap length e in
      omega (arith, length-drop i s, length-drop j s, length-append w (drop j s))

  stands-within : (d : ℕ) (a : D.Json) (i j : ℕ) → D.Lead (expand G.rules d a) (drop i s) (drop j s) → (i ≤ j) × (j ≤ length s) → StandsWithin d s i a j
  stands-within d a i j h l = let p = lead-word G.rules d a h in (p.word, p.is, p.cut, settled p.word i j p.cut l)

  ends : (i e : ℕ) (r : Result ℕ ℕ) → r ≡ Ok e → Past s i r → (i ≤ e) × (e ≤ length s)
  ends i e r q p = let l : Past s i (Ok e) = subst (Past s i) q p in (omega arith, l.1)

  pub value-within : (d k e : ℕ) → value_at d s k ≡ Ok e → StandsWithin d s k G.value e
  unfolding D.value
  value-within d k e q = stands-within d G.value k e (subst (Sound s (D.value d) k) q (value-sound s d k)) (ends k e (value_at d s k) q (value-past s d k))

  stands : (a : D.Json) (i j : ℕ) → D.Lead (expand G.rules 16 a) (drop i s) (drop j s) → (i ≤ j) × (j ≤ length s) → Stands s i a j
  stands a i j h l = stands-within 16 a i j h l

  next_comma : (e : ℕ) → eqb (byte s (ws s e)) 44 ≡ true → next_at s e ≡ ws s (ws s e + 1)
  unfolding next_at
  next_comma e b = rw (b, next_at)

  next-shut : (e : ℕ) → eqb (byte s (ws s e)) 44 ≡ false → next_at s e ≡ ws s e
  unfolding next_at
  next-shut e b = rw (b, next_at)

  module _ (step : ℕ → Option Item) (item : ℕ → Result ℕ ℕ) (close : ℕ) (small : close < 256) (Is : Member → Type 0)
      (reads : (i e : ℕ) → item i ≡ Ok e → (k : ℕ) × (step i ≡ found k e (next_at s e)) × Is (record { name = i; value = k; end = e }))
      (stops : (i : ℕ) → eqb (byte s i) close ≡ true → step i ≡ None) where
    list-more : (g i k e n : ℕ) → step i ≡ found k e n → list_from step (suc g) i ≡ record { name = i; value = k; end = e } ∷ list_from step g n
    unfolding list_from
    list-more g i k e n q = rw (q, list_from)

    list-stop : (g i : ℕ) → step i ≡ None → list_from step g i ≡ []
    unfolding list_from
    list-stop zero i q = refl
    list-stop (suc g) i q = rw (q, list_from)

    record Listed (i : ℕ) (ms : List Member) (e : ℕ) : Type 0 where
      to : ℕ
      chain : Chain s Is i ms to
      shut : Stands s to (G.ws · x close · G.ws) e

    series-listed : (f g i e : ℕ) → f < g → series item close s f i ≡ Ok e → Listed i (list_from step g i) e
    unfolding series
    series-listed zero g i e h q = clash refl q
    series-listed (suc f) zero i e h q = absurd (omega arith)
    series-listed (suc f) (suc g) i e h q = go (item i) refl (λ j. series-listed f g j e (omega arith))
      where
        go : (r : Result ℕ ℕ) → item i ≡ r → ((j : ℕ) → series item close s f j ≡ Ok e → Listed j (list_from step g j) e) → Listed i (list_from step (suc g) i) e
        go (Err k) p ih = clash (series-bad item close s f i k p) q
        go (Ok k) p ih =
            let j : ℕ = ws s k in
            let r = reads i k p in
            let y = sym (series_then item close s f i k p) ∙ q in
            let l = list-more g i r.0 k (next_at s k) r.1 in
            both (eqb (byte s j) 44)
            (λ b. let t = ih (ws s (j + 1)) (sym (after_comma item close s _ j b) ∙ y) in
            let c : Chain s Is i (record { name = i; value = r.0; end = k } ∷ list_from step g (ws s (j + 1))) t.to = more r.2 (stands G.value-separator k (ws s (j + 1)) (token s k 44 b (omega arith)) (token-ends s k 44 b (omega arith))) t.chain in
            record { to = t.to; chain = subst (λ (ms : List Member). Chain s Is i ms t.to) (sym (l ∙ ap (λ (n : ℕ). record { name = i; value = r.0; end = k } ∷ list_from step g n) (next_comma k b))) c; shut = t.shut })
            (λ b. both (eqb (byte s j) close)
            (λ c. let z : Ok (j + 1) ≡ Ok e = sym (after_close item close s _ j b c) ∙ y in
            let w : j + 1 ≡ e = cc in
            let m : list_from step g (next_at s k) ≡ [] = ap (λ (n : ℕ). list_from step g n) (next-shut k b) ∙ list-stop g j (stops j c) in
            let u : Chain s Is i (record { name = i; value = r.0; end = k } ∷ []) k = last r.2 in
            record { to = k; chain = subst (λ (ms : List Member). Chain s Is i ms k) (sym (l ∙ ap (λ (ms : List Member). record { name = i; value = r.0; end = k } ∷ ms) m)) u; shut = subst (λ (n : ℕ). Stands s k (G.ws · x close · G.ws) n) w (stands (G.ws · x close · G.ws) k (j + 1) (closes s k close c small) (close-ends s k close c small)) })
            (λ c. clash (after-bad item close s _ j b c) y))

    list-listed : (opening at e : ℕ) → eqb (byte s at) opening ≡ true → opening < 256 → list_of item close s (ws s (at + 1)) ≡ Ok e → Holds s opening close Is at (list_from step (suc (length s)) (ws s (at + 1))) e
    list-listed opening at e o h q =
        let i : ℕ = ws s (at + 1) in
        let b = stands (G.ws · x opening · G.ws) at i (begins s at opening o h) (begin-ends s at opening o h) in
        both (eqb (byte s i) close)
        (λ c. let z : Ok (i + 1) ≡ Ok e = sym (list-none item close s i c) ∙ q in
        let w : i + 1 ≡ e = cc in
        let u : Holds s opening close Is at [] e = none i b (subst (λ (n : ℕ). Stands s i (G.ws · x close · G.ws) n) w (stands (G.ws · x close · G.ws) i (i + 1) (shuts s i close c small) (shut-ends s i close c small))) in
        subst (λ (ms : List Member). Holds s opening close Is at ms e) (sym (list-stop (suc (length s)) i (stops i c))) u)
        (λ c. let t = series-listed (length s) (suc (length s)) i e (omega arith) (sym (list-some item close s i c) ∙ q) in some b t.chain t.shut)

  -- ---- of objects and arrays

  value-stands : (k e : ℕ) → value_at 16 s k ≡ Ok e → Stands s k G.value e
  value-stands k e q = value-within 16 k e q

  item_is : (k e : ℕ) → value_at 16 s k ≡ Ok e → item_at s k ≡ found k e (next_at s e)
  unfolding item_at
  item_is k e q = rw (q, item_at)

  member_is : (i k : ℕ) → key_at s i ≡ Ok k → member_at s i ≡ item_at s k
  unfolding member_at
  member_is i k q = rw (q, member_at)

  element_is : (i : ℕ) → element_at s i ≡ item_at s i
  unfolding element_at
  element_is i = refl

  member-done : (i : ℕ) → eqb (byte s i) 125 ≡ true → member_at s i ≡ None
  unfolding member_at key_at string_at and_then
  member-done i b =
      let c = eqb-true (byte s i) 125 b in
      let d : eqb (byte s i) 34 ≡ false = ap (λ (k : ℕ). eqb k 34) c in
      let f : string_at s i ≡ Err i = rw (d, string_at) in
      let g : key_at s i ≡ Err i = rw (f, and_then) in
      rw (g, member_at)

  read-member : (d i e : ℕ) → d ≤ 16 → member_of (λ k. value_at d s k) s i ≡ Ok e → (k : ℕ) × (member_at s i ≡ found k e (next_at s e)) × IsMember s (record { name = i; value = k; end = e })
  read-member d i e h q = go (key_at s i) refl
    where
      go : (r : Result ℕ ℕ) → key_at s i ≡ r → (k : ℕ) × (member_at s i ≡ found k e (next_at s e)) × IsMember s (record { name = i; value = k; end = e })
      go (Err k) p = clash (member-bad s (λ k. value_at d s k) i k p) q
      go (Ok k) p =
          let v = raise s d 16 k e h (sym (member_at_lem s (λ k. value_at d s k) i k p) ∙ q) in
          (k, member_is i k p ∙ item_is k e v, record { key = stands (G.string · G.name-separator) i k (subst (Sound s (G.string · G.name-separator) i) p (key-sound s i)) (ends i k (key_at s i) p (key-past s i)); holds = value-stands k e v })

  object-list : (d at : ℕ) → byte s at ≡ 123 → value_at (suc d) s at ≡ list_of (λ j. member_of (λ k. value_at d s k) s j) 125 s (ws s (at + 1))
  unfolding value_at kind_of value_of object_of
  object-list d at b = rw (ap kind_of b)

  array-list : (d at : ℕ) → byte s at ≡ 91 → value_at (suc d) s at ≡ list_of (λ j. value_at d s j) 93 s (ws s (at + 1))
  unfolding value_at kind_of value_of array_of
  array-list d at b = rw (ap kind_of b)

  pub object-members : (at e : ℕ) → byte s at ≡ 123 → value_at 16 s at ≡ Ok e → Holds s 0x7B 0x7D (IsMember s) at (members_at s at) e
  unfolding members_at
  object-members at e b q =
      list-listed (member_at s) (λ j. member_of (λ k. value_at 15 s k) s j) 125 (omega arith) (IsMember s) (λ i k. read-member 15 i k (omega arith)) member-done
      123 at e (eq-eqb _ _ b) (omega arith) (sym (object-list 15 at b) ∙ q)

  read_element : (d i e : ℕ) → d ≤ 16 → value_at d s i ≡ Ok e → (k : ℕ) × (element_at s i ≡ found k e (next_at s e)) × IsElement s (record { name = i; value = k; end = e })
  read_element d i e h q = let v = raise s d 16 i e h q in (i, element_is i ∙ item_is i e v, record { first = refl; holds = value-stands i e v })

  element-done : (i : ℕ) → eqb (byte s i) 93 ≡ true → element_at s i ≡ None
  unfolding item_at
  element-done i b = go (value_at 16 s i) refl
    where
      go : (r : Result ℕ ℕ) → value_at 16 s i ≡ r → element_at s i ≡ None
      go (Err k) p = element_is i ∙ rw (p, item_at)
      go (Ok k) p = absurd (true≢false (sym b ∙ value_not s 16 i k p))

  pub array-elements : (at e : ℕ) → byte s at ≡ 91 → value_at 16 s at ≡ Ok e → Holds s 0x5B 0x5D (IsElement s) at (elements_at s at) e
  unfolding elements_at
  array-elements at e b q =
      list-listed (element_at s) (λ j. value_at 15 s j) 93 (omega arith) (IsElement s) (λ i k. read_element 15 i k (omega arith)) element-done
      91 at e (eq-eqb _ _ b) (omega arith) (sym (array-list 15 at b) ∙ q)
