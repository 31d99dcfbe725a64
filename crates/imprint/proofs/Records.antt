-- A property's record, and the records one after the other.
use Rattle.std.specs.Prelude.{None}
use Prim.Native.Nat.{ℕ, zero, suc, ◌+◌, ◌≤◌, ◌<◌, min}
use native.Mathlib.Numerals.{add-one}
use native.Mathlib.Omega.{arith}
use native.Mathlib.Decide.{dec_lt}
use mathlib.Core.Path.{◌≡◌, refl, sym, ap, ap₂, ◌∙◌}
use mathlib.Core.List.{List, [], ◌∷◌, ◌++◌}
use lib.ListN.{length, get_or, take}
use lib.Seq.{take-suc, take_all}
use Rattle.memory.specs.Bytes.{tab}
use Rattle.memory.specs.Layout.{room_size}
use Rattle.memory.proofs.Lists.{tab_ext}
use Rattle.payload.specs.Datatypes.{code_of, datatype_at}
use Rattle.payload.proofs.Judging.{code-back}
use Rattle.fields.specs.Values.{string_bytes}
use Rattle.fields.specs.Fields.{text_in}
use Rattle.payload.specs.Formats.{kept_bytes}
use Rattle.properties.specs.declared.Entry.{Entry}
use Rattle.properties.specs.declared.Entries.{Entries}
use Rattle.properties.specs.Property as declaration
use Rattle.properties.specs.Property.{text_of}
use Rattle.properties.specs.Entries.{content, contents}
use Rattle.properties.proofs.Insertion.{contents-append}
use Rattle.rules.specs.Table.{Property, empty_lanes}
use Rattle.text.specs.Ids.{id_most}
use Rattle.device.specs.Layout.{format_most, node_at, property_at, datatype_code_at, settable_at, retained_at, format_at, lanes_at, lane_size, payload_at, records_at, record_size, record_at, properties_most}
use Rattle.device.specs.Decode.{is_set, text_at, held_at, declared_at, record_of}
use Rattle.patch.proofs.Frame.{text-alike, record-alike}
use Rattle.imprint.specs.Fits.{FitsProperty, FitEach}
use Rattle.imprint.specs.Parts.{WritesWithin, Texted, Traits, Blank, Recorded, Listed, bare, flag}
use Rattle.imprint.proofs.Fields.{alike-below, wider, then, is-flag, empty-lane}

-- ---- one record: four writes, one after the other

module _ (m₀ m₁ m₂ m₃ m₄ s : List ℕ) (e : Entry) (a code : ℕ) (l : a + record_size ≤ length m₀) (z : Blank m₀ a)
    (w₁ : Texted m₀ (string_bytes s e.node) (a + node_at) id_most m₁)
    (w₂ : Texted m₁ (string_bytes s e.id) (a + property_at) id_most m₂)
    (q : code ≡ code_of e.datatype) (w₃ : Traits m₂ a code (flag e.settable) (flag e.retained) m₃)
    (w₄ : Texted m₃ (text_of (kept_bytes (text_of (text_in s e.format)) e.kept)) (a + format_at) format_most m₄) where
  long₁ : length m₁ ≡ length m₀
  long₁ = w₁.within.kept

  long₂ : length m₂ ≡ length m₀
  long₂ = w₂.within.kept ∙ long₁

  long₃ : length m₃ ≡ length m₀
  long₃ = w₃.within.kept ∙ long₂

  only : WritesWithin m₀ a (a + record_size) m₄
  only =
      then (wider w₁.within a (a + record_size) (omega arith) (omega arith))
      (then (wider w₂.within a (a + record_size) (omega arith) (omega arith))
      (then (wider w₃.within a (a + record_size) (omega arith) (omega arith)) (wider w₄.within a (a + record_size) (omega arith) (omega arith))))

  node_is : length (string_bytes s e.node) ≤ id_most → text_at m₄ (a + node_at) id_most ≡ string_bytes s e.node
  node_is h =
      text-alike id_most (alike-below w₄.within (a + node_at) 33 (omega arith) (omega (arith, long₃)))
      ∙ text-alike id_most (alike-below w₃.within (a + node_at) 33 (omega arith) (omega (arith, long₂)))
      ∙ text-alike id_most (alike-below w₂.within (a + node_at) 33 (omega arith) (omega (arith, long₁)))
      ∙ w₁.text h

  id_is : length (string_bytes s e.id) ≤ id_most → text_at m₄ (a + property_at) id_most ≡ string_bytes s e.id
  id_is h =
      text-alike id_most (alike-below w₄.within (a + property_at) 33 (omega arith) (omega (arith, long₃)))
      ∙ text-alike id_most (alike-below w₃.within (a + property_at) 33 (omega arith) (omega (arith, long₂)))
      ∙ w₂.text h

  code_is : datatype_at (get_or m₄ (a + datatype_code_at) 0) ≡ e.datatype
  code_is = ap datatype_at (w₄.within.below (a + datatype_code_at) (omega arith) ∙ w₃.code ∙ q) ∙ code-back e.datatype

  settable_is : is_set m₄ (a + settable_at) ≡ e.settable
  settable_is = is-flag m₄ (a + settable_at) e.settable (w₄.within.below (a + settable_at) (omega arith) ∙ w₃.settable)

  retained_is : is_set m₄ (a + retained_at) ≡ e.retained
  retained_is = is-flag m₄ (a + retained_at) e.retained (w₄.within.below (a + retained_at) (omega arith) ∙ w₃.retained)

  zeros : (i : ℕ) → a + lanes_at ≤ i → get_or m₄ i 0 ≡ 0
  zeros i h = w₄.within.above i (omega arith) ∙ w₃.within.above i (omega arith) ∙ w₂.within.above i (omega arith) ∙ w₁.within.above i (omega arith) ∙ z i (omega arith)

  lane_is : (k : ℕ) → lanes_at ≤ k → held_at m₄ (a + k) ≡ None
  lane_is k h = empty-lane m₄ (a + k) (zeros (a + k + payload_at) (omega arith))

  written_is : FitsProperty (content s e) → record_of m₄ a ≡ bare (content s e)
  unfolding record_of declared_at content
  written_is f =
      let node = node_is f.node in
      let id = id_is f.id in
      let format = w₄.text f.format in
      let value = lane_is lanes_at (omega arith) in
      let target = lane_is (lanes_at + lane_size) (omega arith) in
      let asked = lane_is (lanes_at + (lane_size + lane_size)) (omega arith) in
      λ i. record {
        declared = record { node = node i; id = id i; datatype = code_is i; format = format i; settable = settable_is i; retained = retained_is i };
        value = value i;
        target = target i;
        asked = asked i;
      }

  pub recorded : Recorded m₀ s e a m₄
  recorded = record { within = only; written = written_is }

-- ---- all records

tab_snoc : {A : Type 0} (n : ℕ) (f : ℕ → A) → tab (suc n) f ≡ tab n f ++ (f n ∷ [])
unfolding tab
tab_snoc zero f = refl
tab_snoc {A} (suc n) f = ap (λ (l : List A). f zero ∷ l) (tab_snoc n (λ i. f (suc i)))

lanes_snoc : (ps : List declaration.Property) (p : declaration.Property) → empty_lanes (ps ++ (p ∷ [])) ≡ empty_lanes ps ++ (bare p ∷ [])
unfolding empty_lanes
lanes_snoc [] p = refl
lanes_snoc (q ∷ ps) p = ap (λ (l : List Property). bare q ∷ l) (lanes_snoc ps p)

fit_snoc : (ps : List declaration.Property) (p : declaration.Property) → FitEach (ps ++ (p ∷ [])) → FitEach ps × FitsProperty p
fit_snoc [] p f = (tt, f.0)
fit_snoc (q ∷ ps) p f = (let r = fit_snoc ps p f.1 in ((f.0, r.0), r.1))

contents_snoc : (s : List ℕ) (blank : Entry) (items : List Entry) (i : ℕ) → i < length items → contents s (take (suc i) items) ≡ contents s (take i items) ++ (content s (get_or items i blank) ∷ [])
unfolding contents
contents_snoc s blank items i h = ap (contents s) (take-suc items i blank h) ∙ contents-append s (take i items) (get_or items i blank ∷ [])

-- the records of the first i entries
pub record Rows (m s : List ℕ) (items : List Entry) (i : ℕ) (m' : List ℕ) : Type 0 where
  pub within : WritesWithin m records_at (record_at i) m'
  pub rows : FitEach (contents s (take i items)) → tab i (λ k. record_of m' (record_at k)) ≡ empty_lanes (contents s (take i items))

pub rows_none : (m s : List ℕ) (items : List Entry) → Rows m s items 0 m
unfolding tab contents empty_lanes
rows_none m s items = record { within = record { kept = refl; below = λ i h. refl; above = λ i h. refl }; rows = λ f. refl }

module _ (blank : Entry) (m m₁ m₂ s : List ℕ) (items : List Entry) (i : ℕ) (h : i < length items) (l : record_at i + record_size ≤ length m) (r : Rows m s items i m₁) (w : Recorded m₁ s (get_or items i blank) (record_at i) m₂) where
  abbrev e : Entry
  e = get_or items i blank

  older : tab i (λ k. record_of m₂ (record_at k)) ≡ tab i (λ k. record_of m₁ (record_at k))
  older = tab_ext i (λ k. record_of m₂ (record_at k)) (λ k. record_of m₁ (record_at k)) (λ k q. record-alike (alike-below w.within (record_at k) record_size (omega arith) (omega (arith, r.within.kept))))

  all-rows : FitEach (contents s (take (suc i) items)) → tab (suc i) (λ k. record_of m₂ (record_at k)) ≡ empty_lanes (contents s (take (suc i) items))
  all-rows f =
      let c = contents_snoc s blank items i h in
      let g = fit_snoc (contents s (take i items)) (content s e) (rw c at f) in
      tab_snoc i (λ k. record_of m₂ (record_at k))
      ∙ ap₂ (λ (l : List Property) (p : Property). l ++ (p ∷ [])) (older ∙ r.rows g.0) (w.written g.1)
      ∙ sym (ap empty_lanes c ∙ lanes_snoc (contents s (take i items)) (content s e))

  pub rows_more : Rows m s items (i + 1) m₂
  rows_more = record {
    within = then (wider r.within records_at (record_at (i + 1)) (omega arith) (omega arith)) (wider w.within records_at (record_at (i + 1)) (omega arith) (omega arith));
    rows = rw (add-one i) all-rows;
  }

-- the first n, of k at most
take-least : {A : Type 0} (n k : ℕ) (l : List A) → length l ≤ k → take (min n k) l ≡ take n l
take-least n k l h = elim (dec_lt n k) as (λ _. take (min n k) l ≡ take n l) [
  | yes q ↦ (let e : min n k ≡ n = omega arith in rw e)
  | no q ↦ (let e : min n k ≡ k = omega arith in rw e (take_all k l h ∙ sym (take_all n l (omega arith))))
]

pub listed : (m s m' : List ℕ) (l : Entries) (i : ℕ) → length l.items ≡ properties_most → i ≡ min l.n properties_most → Rows m s l.items i m' → Listed m s l m'
listed m s m' l i full e r =
    let c : contents s (take i l.items) ≡ contents s (take l.n l.items) = ap (λ (k : ℕ). contents s (take k l.items)) e ∙ ap (contents s) (take-least l.n properties_most l.items (omega arith)) in
    record {
      within = wider r.within records_at room_size (omega arith) (omega arith);
      rows = λ f. ap (λ (k : ℕ). tab k (λ j. record_of m' (record_at j))) (sym e) ∙ r.rows (rw c f) ∙ ap empty_lanes c;
    }
