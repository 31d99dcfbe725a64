-- What decoding a string shows: one without a backslash, one with half a surrogate pair, one without.
use Rattle.std.specs.Prelude.{Err, Ok, Result, None, Option, Some}
use Prim.Native.Nat.{ℕ, suc, ◌+◌, ◌-◌, ◌≤◌, ◌<◌}
use native.Mathlib.Omega.{arith}
use mathlib.Core.Path.{◌≡◌, refl, sym, ap, ◌∙◌}
use mathlib.Core.List.{List, [], ◌∷◌}
use mathlib.Core.Bool.{Bool, true, false}
use lib.ListN.{length, drop, length-take, length-drop}
use Rattle.json_text.specs.Strings.{string_at, raw_bytes, is_plain}
use Rattle.text.specs.Bytes.{slice, eq_bytes}
use Rattle.text.specs.Ids.{is_id}
use Rattle.text.proofs.Ids.{id-long}
use Rattle.escapes.specs.Decode.{Decoded, whole, half, decode, bytes_of, written, half_of, is_this, alike, Decodes}
use Rattle.escapes.proofs.Theorems as escapes
use Rattle.faults.specs.declared.Fault.{Fault}
use Rattle.faults.specs.Faults.{other_rule, earlier, least, ◌otherwise◌}
use Rattle.faults.proofs.Laws.{at-nothing, least-one, least-none, rule-holds, rule-broken}
use Rattle.fields.specs.Values.{decoded_at, string_bytes, decoding_at, DecodesAt}
use Rattle.fields.specs.Fields.{unless_half, decoded_faults, no_rule, id_rule}
use Rattle.fields.proofs.Plain.{id-plain}

-- ---- no backslash

module _ (s : List ℕ) (k : ℕ) (e : is_plain (raw_bytes s k) ≡ true) where
  pub plain-decoded : decoded_at s k ≡ whole (raw_bytes s k)
  unfolding decoded_at
  plain-decoded = escapes.plain (raw_bytes s k) e

  pub plain-bytes : string_bytes s k ≡ raw_bytes s k
  unfolding string_bytes bytes_of
  plain-bytes = ap bytes_of plain-decoded

  pub plain-faults : (rules : List ℕ → List Fault) → decoded_faults s k rules ≡ rules (raw_bytes s k)
  unfolding decoded_faults unless_half
  plain-faults rules = ap (λ (d : Decoded). unless_half d k rules) plain-decoded

-- ---- by what is decoded

module _ (s : List ℕ) (k : ℕ) where
  own-bytes : {t : List ℕ} → decoded_at s k ≡ whole t → string_bytes s k ≡ t
  unfolding string_bytes bytes_of
  own-bytes e = ap bytes_of e

  pub half-bytes : {p : ℕ} → decoded_at s k ≡ half p → string_bytes s k ≡ []
  unfolding string_bytes bytes_of
  half-bytes e = ap bytes_of e

  pub whole-faults : (rules : List ℕ → List Fault) → decoded_at s k ≡ whole (string_bytes s k) → decoded_faults s k rules ≡ rules (string_bytes s k)
  unfolding decoded_faults unless_half
  whole-faults rules e = ap (λ (d : Decoded). unless_half d k rules) e

  pub half-faults : (rules : List ℕ → List Fault) {p : ℕ} → decoded_at s k ≡ half p → decoded_faults s k rules ≡ other_rule (suc k + p) ∷ []
  unfolding decoded_faults unless_half
  half-faults rules e = ap (λ (d : Decoded). unless_half d k rules) e

  -- without fault it is whole, and its bytes have none
  pub no-faults : (rules : List ℕ → List Fault) → decoded_faults s k rules ≡ [] → (decoded_at s k ≡ whole (string_bytes s k)) × (rules (string_bytes s k) ≡ [])
  no-faults rules h = go (decoded_at s k) refl
    where
      go : (d : Decoded) → decoded_at s k ≡ d → (decoded_at s k ≡ whole (string_bytes s k)) × (rules (string_bytes s k) ≡ [])
      go (whole t) e = let w : decoded_at s k ≡ whole (string_bytes s k) = rw (own-bytes e) e in (w, sym (whole-faults rules w) ∙ h)
      go (half p) e = absurd (at-nothing (least-one (other_rule (suc k + p)) ∙ (sym (ap least (half-faults rules e)) ∙ sym (least-none h))))

  -- what `decode_at` answers
  module _ {before after : List ℕ} {r : Result ℕ ℕ} (w : DecodesAt s k before after r) where
    module _ {n : ℕ} (q : r ≡ Ok n) where
      answer-whole : (d : Decoded) → decoded_at s k ≡ d → r ≡ decoding_at k d → (decoded_at s k ≡ whole (string_bytes s k)) × (n ≡ length (string_bytes s k))
      unfolding decoding_at
      answer-whole (whole t) e a = let z : n ≡ length t = cc in rw (own-bytes e) (e, z)
      answer-whole (half p) e a = let z : ◌≡◌ {A = ℕ} 0 1 = cc in absurd (omega arith)

      pub decoded-whole : decoded_at s k ≡ whole (string_bytes s k)
      decoded-whole = (answer-whole (decoded_at s k) refl w.answer).0

      pub decoded-length : n ≡ length (string_bytes s k)
      decoded-length = (answer-whole (decoded_at s k) refl w.answer).1

      pub decoded-faults : (rules : List ℕ → List Fault) → decoded_faults s k rules ≡ rules (string_bytes s k)
      decoded-faults rules = whole-faults rules decoded-whole

      -- the bytes, where they fit
      pub decoded-bytes : n ≤ length before → {t : List ℕ} → t ≡ slice after 0 n → t ≡ string_bytes s k
      decoded-bytes h {t} x = x ∙ (ap (λ (l : List ℕ). slice l 0 n) w.buffer ∙ escapes.filled-slice (string_bytes s k) before (omega (arith, decoded-length)) n decoded-length)

    module _ {p : ℕ} (q : r ≡ Err p) where
      answer-half : (d : Decoded) → decoded_at s k ≡ d → r ≡ decoding_at k d → (i : ℕ) × ((p ≡ suc k + i) × (decoded_at s k ≡ half i))
      unfolding decoding_at
      answer-half (whole t) e a = let z : ◌≡◌ {A = ℕ} 0 1 = cc in absurd (omega arith)
      answer-half (half i) e a = let z : p ≡ suc k + i = cc in (i, (z, e))

      pub broken_at : (i : ℕ) × (decoded_at s k ≡ half i)
      broken_at = let h = answer-half (decoded_at s k) refl w.answer in (h.0, h.1.1)

      pub broken-faults : (rules : List ℕ → List Fault) → decoded_faults s k rules ≡ other_rule p ∷ []
      broken-faults rules = let h = answer-half (decoded_at s k) refl w.answer in half-faults rules h.1.1 ∙ ap (λ (j : ℕ). other_rule j ∷ []) (sym h.1.0)

      pub broken-bytes : string_bytes s k ≡ []
      broken-bytes = half-bytes broken_at.1

  -- what `half_told` answers
  module _ {r : Option Fault} (w : r ≡ least (decoded_faults s k no_rule)) where
    pub untold-whole : r ≡ None → decoded_at s k ≡ whole (string_bytes s k)
    untold-whole q = go (decoded_at s k) refl
      where
        go : (d : Decoded) → decoded_at s k ≡ d → decoded_at s k ≡ whole (string_bytes s k)
        go (whole t) e = rw (own-bytes e) e
        go (half p) e = absurd (at-nothing (least-one (other_rule (suc k + p)) ∙ (sym (ap least (half-faults no_rule e)) ∙ (sym w ∙ q))))

    told_at : {x : Fault} → r ≡ Some x → (i : ℕ) × ((decoded_at s k ≡ half i) × (x ≡ other_rule (suc k + i)))
    unfolding no_rule least earlier
    told_at {x} q = go (decoded_at s k) refl
      where
        go : (d : Decoded) → decoded_at s k ≡ d → (i : ℕ) × ((decoded_at s k ≡ half i) × (x ≡ other_rule (suc k + i)))
        go (whole t) e = absurd (at-nothing (sym q ∙ (w ∙ ap least (whole-faults no_rule (rw (own-bytes e) e)))))
        go (half i) e = let z : Some x ≡ Some (other_rule (suc k + i)) = sym q ∙ (w ∙ ap least (half-faults no_rule e)) in (i, (e, cc))

    pub told-broken : {x : Fault} → r ≡ Some x → (i : ℕ) × (decoded_at s k ≡ half i)
    told-broken q = let h = told_at q in (h.0, h.1.0)

    pub told-faults : {x : Fault} → r ≡ Some x → (rules : List ℕ → List Fault) → decoded_faults s k rules ≡ x ∷ []
    told-faults q rules = let h = told_at q in half-faults rules h.1.0 ∙ ap (λ (f : Fault). f ∷ []) (sym h.1.1)

-- ---- where half a pair stands

module _ (s : List ℕ) (k : ℕ) where
  -- what stands between the quotes lies behind the first
  raw-inside : (p : ℕ) → p < length (raw_bytes s k) → suc k + p < length s
  unfolding raw_bytes
  raw-inside p h = go (string_at s k) refl
    where
      go : (r : Result ℕ ℕ) → string_at s k ≡ r → suc k + p < length s
      go (Ok e) q = let l = rw (q, raw_bytes) at h in let a = length-take ((e - 1) - (k + 1)) (drop (k + 1) s) in let b = length-drop (k + 1) s in omega (arith, l, a, b)
      go (Err e) q = let l : p < 0 = rw (q, raw_bytes) at h in absurd (omega (arith, l))

  pub half-inside : {p : ℕ} → decoded_at s k ≡ half p → suc k + p < length s
  unfolding decoded_at
  half-inside {p} e = raw-inside p (escapes.told-inside (raw_bytes s k) p e)

  module _ {raw : List ℕ} (x : raw ≡ raw_bytes s k) where
    -- what `decode` answers of what stands there
    module _ {before after : List ℕ} {r : Result ℕ ℕ} (w : Decodes raw before after r) where
      pub decoding-whole : {n : ℕ} → r ≡ Ok n → DecodesAt s k before after (Ok n)
      unfolding decoded_at decoding_at string_bytes written
      decoding-whole {n} q = let v = escapes.decoded-whole w q in record { answer = rw (sym x, v.is) (ap Ok v.size); buffer = rw (sym x) v.buffer }

      pub decoding-half : {p q : ℕ} → r ≡ Err p → q ≡ suc k + p → DecodesAt s k before after (Err q)
      unfolding decoded_at decoding_at string_bytes written
      decoding-half {p} {q} e z = let v = escapes.decoded-half w e in record { answer = rw (sym x, v.is) (ap Err z); buffer = rw (sym x) w.buffer }

      pub decoding-inside : {p : ℕ} → r ≡ Err p → suc k + p < length s
      unfolding decoded_at
      decoding-inside {p} e = half-inside (ap (λ (l : List ℕ). decode l) (sym x) ∙ (escapes.decoded-half w e).is)

    -- what `half` answers of it
    module _ {r : Option ℕ} (w : r ≡ half_of (decode raw)) where
      pair_at : {p : ℕ} → r ≡ Some p → decoded_at s k ≡ half p
      unfolding decoded_at
      pair_at e = ap (λ (l : List ℕ). decode l) (sym x) ∙ escapes.with-half raw (sym w ∙ e)

      pub pair_inside : {p : ℕ} → r ≡ Some p → suc k + p < length s
      pair_inside e = half-inside (pair_at e)

      pub pair-told : {p q : ℕ} → r ≡ Some p → q ≡ suc k + p → Some (other_rule q) ≡ least (decoded_faults s k no_rule)
      pair-told {p} {q} e z = ap (λ (j : ℕ). Some (other_rule j)) z ∙ (least-one (other_rule (suc k + p)) ∙ ap least (sym (half-faults s k no_rule (pair_at e))))

      pub pair-none : r ≡ None → None ≡ least (decoded_faults s k no_rule)
      unfolding decoded_at decoded_faults unless_half no_rule
      pair-none e = least-none (ap (λ (l : List ℕ). unless_half (decode l) k no_rule) (sym x) ∙ ap (λ (d : Decoded). unless_half d k no_rule) (escapes.without-half raw (sym w ∙ e)))

  pub plain-told : {b : Bool} → b ≡ is_plain (raw_bytes s k) → b ≡ true → None ≡ least (decoded_faults s k no_rule)
  unfolding no_rule
  plain-told p e = least-none (plain-faults s k (sym p ∙ e) no_rule)

-- ---- an ID

module _ (s : List ℕ) (k : ℕ) where
  -- a string whose bytes are an ID, or not
  id_is : decoded_at s k ≡ whole (string_bytes s k) → {b : Bool} {r : Option Fault} → b ≡ is_id (string_bytes s k) → r ≡ least (b otherwise other_rule k) → r ≡ least (decoded_faults s k (id_rule k))
  unfolding id_rule
  id_is w {b} {r} p x = x ∙ (ap (λ (t : Bool). least (t otherwise other_rule k)) p ∙ ap least (sym (whole-faults s k (id_rule k) w)))

  -- as it is sent
  module _ {t : List ℕ} {b : Bool} (x : t ≡ raw_bytes s k) (y : b ≡ is_id t) where
    raw-id : is_plain (raw_bytes s k) ≡ true → b ≡ is_id (string_bytes s k)
    raw-id e = y ∙ ap is_id (x ∙ sym (plain-bytes s k e))

    raw-whole : is_plain (raw_bytes s k) ≡ true → decoded_at s k ≡ whole (string_bytes s k)
    raw-whole e = plain-decoded s k e ∙ ap whole (sym (plain-bytes s k e))

    pub id-sent : b ≡ true → None ≡ least (decoded_faults s k (id_rule k))
    id-sent q = let e = ap is_plain (sym x) ∙ id-plain t (sym y ∙ q) in id_is (raw-whole e) (raw-id e) (rule-holds b (other_rule k) q)

    pub id-plain-not : {c : Bool} → b ≡ false → c ≡ is_plain (raw_bytes s k) → c ≡ true → Some (other_rule k) ≡ least (decoded_faults s k (id_rule k))
    id-plain-not q p h = let e = sym p ∙ h in id_is (raw-whole e) (raw-id e) (rule-broken b (other_rule k) q)

  -- decoded
  module _ {before after : List ℕ} {r : Result ℕ ℕ} (w : DecodesAt s k before after r) where
    pub id-half : {p : ℕ} → r ≡ Err p → Some (other_rule p) ≡ least (decoded_faults s k (id_rule k))
    id-half {p} q = least-one (other_rule p) ∙ ap least (sym (broken-faults s k w q (id_rule k)))

    module _ {n : ℕ} (q : r ≡ Ok n) where
      pub id_too-long : 32 < n → Some (other_rule k) ≡ least (decoded_faults s k (id_rule k))
      id_too-long h = id_is (decoded-whole s k w q) (sym (id-long (string_bytes s k) (omega (arith, decoded-length s k w q)))) (rule-broken false (other_rule k) refl)

      pub id-decoded : n ≤ length before → {t : List ℕ} {b : Bool} {o : Option Fault} → t ≡ slice after 0 n → b ≡ is_id t → o ≡ least (b otherwise other_rule k) → o ≡ least (decoded_faults s k (id_rule k))
      id-decoded h x y z = id_is (decoded-whole s k w q) (y ∙ ap is_id (decoded-bytes s k w q h x)) z

-- ---- the same name

module _ (s : List ℕ) (j : ℕ) (raw : List ℕ) {other : List ℕ} (x : other ≡ raw_bytes s j) where
  pub alike-decoded : {r : Bool} → r ≡ alike (decode raw) (decode other) → r ≡ alike (decode raw) (decoded_at s j)
  unfolding decoded_at
  alike-decoded y = y ∙ ap (λ (l : List ℕ). alike (decode raw) (decode l)) x

  pub alike-plain : {plain b r : Bool} → plain ≡ is_plain raw → plain ≡ true → b ≡ is_plain (raw_bytes s j) → b ≡ true → r ≡ eq_bytes other raw → r ≡ alike (decode raw) (decoded_at s j)
  unfolding alike is_this
  alike-plain p e q f y = y ∙ (ap (λ (l : List ℕ). eq_bytes l raw) x ∙ sym (rw (escapes.plain raw (sym p ∙ e), plain-decoded s j (sym q ∙ f))))
