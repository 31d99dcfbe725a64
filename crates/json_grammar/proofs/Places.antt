-- The place that the reader answers for a text that is not JSON, and the least of the places of a text at fault.
use Rattle.std.specs.Prelude.{Err, Ok, Result}
use Prim.Native.Nat.{ℕ, suc, ◌+◌, ◌≤◌, ◌<◌, min}
use native.Mathlib.Nat.{min-eq_left, min-eq_right}
use native.Mathlib.Omega.{arith}
use mathlib.Core.Path.{◌≡◌, refl, sym, ap, ◌∙◌, subst}
use mathlib.Core.Logic.{◌↔◌, ◌⊎◌, inl, inr}
use mathlib.Core.List.{List, [], ◌++◌, append_assoc, append-nil}
use mathlib.Core.Bool.{true, false, false≢true}
use lib.ListN.{length, take, drop, take-append-drop, length-drop, length-append}
use lib.Seq.{take_at, take-length, length-take-le}
use Rattle.abnf.specs.Place.{Viable, Furthest, FirstBad}
use Rattle.abnf.proofs.Lead.{whole-lead, lead-whole}
use Rattle.abnf.proofs.Places.{viable-less, one_place, viable-end, whole_viable, furthest-both}
use Rattle.text.specs.Utf8.{is_utf8}
use Rattle.text.specs.Utf8Place.{Utf8, utf8_place}
use Rattle.text.proofs.Utf8.{is_utf8_is}
use Rattle.text.proofs.Utf8Place.{AllAscii, completion, utf8_reach_lem}
use Rattle.json_text.specs.Bytes.{byte}
use Rattle.json_text.specs.Value.{document_of, opens}
use Rattle.json_text.proofs.Bytes.{split, both}
use Rattle.json_grammar.specs.Rfc8259 as G
use Rattle.json_grammar.specs.Place.{JsonOfAnyDepth, JsonText, TooDeep, NotJsonAt, is_not_json, not-utf8, too-deep, too_long, reach_of, json_place, text_place}
use Rattle.json_grammar.proofs.Depth.{document_at, document_16}
use Rattle.json_grammar.proofs.Sound.{sound, broken}
use Rattle.json_grammar.proofs.Complete.{complete}
use Rattle.json_grammar.proofs.Containers.{ends_at}
use Rattle.json_grammar.proofs.Stops.{document_stops}
use Rattle.json_grammar.proofs.Alike.{same_place}
use Rattle.json_grammar.proofs.Deeper.{deep, deep_is, Spread, document_spread}
use Rattle.json_grammar.proofs.Grow.{json_grows, grow_in}

-- ---- JSON to a depth

module _ (d : ℕ) where
  abbrev To : List ℕ → Type 0
  To s = G.JSON d s

  -- what ASCII completes
  pub record Finish (s : List ℕ) : Type 0 where
    pub rest : List ℕ
    pub ascii : AllAscii rest
    pub is : To (s ++ rest)

  pub reads : (s : List ℕ) → To s → document_at d s ≡ Ok (length s)
  reads s w = complete s d (whole-lead G.rules d G.JSON-text w)

  not_to : (s : List ℕ) (p : ℕ) → document_at d s ≡ Err p → To s → ⊥
  not_to s p e w = let f = reads s w in let z : ◌≡◌ {A = ℕ} 0 1 = cc in omega arith

  module _ (s : List ℕ) (p : ℕ) (e : document_at d s ≡ Err p) where
    bad-inside : p ≤ length s
    bad-inside = let w = document_stops s d in let z : reach_of (document_at d s) ≡ p = ap reach_of e in omega arith

    bad_finish : Finish (take p s)
    bad_finish =
        let b = broken s d p e in
        let n : length s ≡ length b.word + length (drop p s) = ap length b.cut ∙ length-append b.word (drop p s) in
        let m = length-drop p s in
        let i = bad-inside in
        let c : take p s ≡ b.word = ap (take p) b.cut ∙ take_at b.word (drop p s) p (omega arith) in
        record { rest = b.rest; ascii = b.ascii; is = rw c (rw (append-nil b.rest) at (lead-whole G.rules d G.JSON-text (b.is []))) }

    -- what begins so fails there too
    bad-again : (t : List ℕ) → p < length s → document_at d (take (p + 1) s ++ t) ≡ Err p
    bad-again t h =
        let n = length-take-le (p + 1) s (omega arith) in
        same_place d (take (p + 1) s) (drop (p + 1) s) t p (omega arith) (ap (document_at d) (take-append-drop (p + 1) s) ∙ e)

    bad-place : FirstBad To s p
    bad-place = let f = bad_finish in record {
      fails = not_to s p e;
      furthest = record { inside = bad-inside; before = (f.rest, f.is); at = λ h v. not_to (take (p + 1) s ++ v.0) p (bad-again v.0 h) v.1 };
    }

  -- a text is JSON or has a place
  pub decide {ℓ} : {X : Type ℓ} (s : List ℕ) → (To s → document_at d s ≡ Ok (length s) → X) → ((p : ℕ) → document_at d s ≡ Err p → X) → X
  decide {X = X} s f g = go (document_at d s) refl
    where
      go : (q : Result ℕ ℕ) → document_at d s ≡ q → X
      go (Ok e) h = let k : document_at d s ≡ Ok (length s) = h ∙ ap Ok (ends_at d s e h) in f (lead-whole G.rules d G.JSON-text (sound s d k)) k
      go (Err p) h = g p h

  reach : (s : List ℕ) → Furthest To s (reach_of (document_at d s))
  reach s = decide s (λ w e. rw e (viable-end To s (whole_viable To s w))) (λ p e. rw e (bad-place s p e).furthest)

  -- what can be completed at all ASCII completes
  finish : (s : List ℕ) → Viable To s → Finish s
  finish s v = decide s
      (λ w e. record { rest = []; ascii = tt; is = rw (append-nil s) w })
      (λ p e. let q : p ≡ length s = one_place To s p (length s) (bad-place s p e).furthest (viable-end To s v) in
      subst Finish (ap (λ (k : ℕ). take k s) q ∙ take-length s) (bad_finish s p e))

-- ---- the reader's place

pub first-bad : (s : List ℕ) (p : ℕ) → (document_of s ≡ Err p) ↔ FirstBad (G.JSON 16) s p
first-bad s p = (
  (λ e. bad-place 16 s p (sym (document_16 s) ∙ e)),
  (λ f. decide 16 s (λ w e. absurd (f.fails w)) (λ q e. document_16 s ∙ e ∙ ap Err (one_place (G.JSON 16) s q p (bad-place 16 s q e).furthest f.furthest))),
)

pub json_reach : (s : List ℕ) → Furthest (G.JSON 16) s (json_place s)
unfolding json_place
json_reach s = rw (document_16 s) (reach 16 s)

-- ---- with UTF-8

-- what can be continued as JSON, and as UTF-8, can be as both: the character that is begun is ended, and ASCII completes the rest
pub join : (s : List ℕ) → Viable (G.JSON 16) s → Viable Utf8 s → Viable JsonText s
join s (u, w) v =
    let c = completion s v in
    let g : G.JSON 16 ((s ++ c.rest) ++ u) = subst (G.JSON 16) (sym (append_assoc s c.rest u)) (json_grows 16 (s ++ u) (s ++ (c.rest ++ u)) w (grow_in s false c.rest u c.tail)) in
    let f = finish 16 (s ++ c.rest) (u, g) in
    (c.rest ++ f.rest, (subst (G.JSON 16) (append_assoc s c.rest f.rest) f.is, c.is f.rest f.ascii))

pub text_reach : (s : List ℕ) → Furthest JsonText s (text_place s)
unfolding text_place
text_reach s = furthest-both (G.JSON 16) Utf8 join s _ _ (json_reach s) (utf8_reach_lem s)

pub text-place : (s : List ℕ) (p : ℕ) → (JsonText s → ⊥) → (p ≡ text_place s) ↔ FirstBad JsonText s p
text-place s p n = (λ e. rw e (record { fails = n; furthest = text_reach s }), λ f. one_place JsonText s p (text_place s) f.furthest (text_reach s))

-- ---- depth

-- a text stays JSON where more depth is allowed
raised : (d k : ℕ) (s : List ℕ) → G.JSON d s → document_at (deep d k) s ≡ Ok (length s)
raised d k s w = go (document_spread s d)
  where
    go : Spread s (document_at d s) (λ j. document_at (deep d j) s) → document_at (deep d k) s ≡ Ok (length s)
    go (inl f) = f k ∙ reads d s w
    go (inr p) = absurd (not_to d s p.at p.bad w)

-- where 17 levels and more all fail at p, nothing is JSON that begins so
module _ (s : List ℕ) (p : ℕ) (f : (k : ℕ) → document_at (deep 16 k) s ≡ Err p) where
  never_json : (d : ℕ) (l : List ℕ) → document_at (deep 16 d) l ≡ Err p → G.JSON d l → ⊥
  never_json d l e w =
      let q : deep d 16 ≡ deep 16 d = deep_is d 16 ∙ (let z : suc (d + 16) ≡ suc (16 + d) = omega arith in z) ∙ sym (deep_is 16 d) in
      let r : document_at (deep 16 d) l ≡ Ok (length l) = ap (λ (n : ℕ). document_at n l) (sym q) ∙ raised d 16 l w in
      let z : ◌≡◌ {A = ℕ} 0 1 = cc in omega arith

  no_json : FirstBad (G.JSON 16) s p → FirstBad JsonOfAnyDepth s p
  no_json b = let v = b.furthest.before in record {
    fails = λ w. never_json w.0 s (f w.0) w.1;
    furthest = record {
      inside = b.furthest.inside;
      before = (v.0, (16, v.1));
      at = λ h u. never_json u.1.0 (take (p + 1) s ++ u.0) (bad-again (deep 16 u.1.0) s p (f u.1.0) u.0 h) u.1.1;
    };
  }

-- the reader fails where nothing goes on at any depth, or at the bracket too deep
bad_or-deep : (s : List ℕ) (p : ℕ) → document_at 16 s ≡ Err p → FirstBad JsonOfAnyDepth s p ⊎ TooDeep 16 s p
bad_or-deep s p e = go (document_spread s 16)
  where
    go : Spread s (document_at 16 s) (λ k. document_at (deep 16 k) s) → FirstBad JsonOfAnyDepth s p ⊎ TooDeep 16 s p
    go (inl f) = inl (no_json s p (λ k. f k ∙ e) (bad-place 16 s p e))
    go (inr b) =
        let q : b.at ≡ p = cc b.bad in
        let r = reach 17 s in
        let g = (bad-place 16 s p e).furthest in
        let h : p < reach_of (document_at 17 s) = subst (λ (k : ℕ). k < reach_of (document_at 17 s)) q (b.past 0) in
        let i : p < length s = (let z = r.inside in omega arith) in
        inr (record {
          inside = i;
          bracket = subst (λ (k : ℕ). opens (byte s k) ≡ true) q b.bracket;
          before = g.before;
          at = g.at i;
          past = viable-less (λ (l : List ℕ). G.JSON 17 l) s (p + 1) (reach_of (document_at 17 s)) (omega arith) r.before;
        })

pub reader-deep : (s : List ℕ) (p : ℕ) → document_of s ≡ Err p → FirstBad JsonOfAnyDepth s p ⊎ TooDeep 16 s p
reader-deep s p e = bad_or-deep s p (sym (document_16 s) ∙ e)

reader-fault : (s : List ℕ) (p : ℕ) → document_at 16 s ≡ Err p → NotJsonAt s p
reader-fault s p e = go (bad_or-deep s p e)
  where
    go : FirstBad JsonOfAnyDepth s p ⊎ TooDeep 16 s p → NotJsonAt s p
    go (inl f) = is_not_json f
    go (inr f) = too-deep f

-- ---- the least of the places

json_part : (s : List ℕ) → (G.JSON 16 s × (json_place s ≡ length s)) ⊎ NotJsonAt s (json_place s)
unfolding json_place
json_part s = decide 16 s (λ w e. inl (w, ap reach_of (document_16 s ∙ e))) (λ p e. inr (subst (NotJsonAt s) (sym (ap reach_of (document_16 s ∙ e))) (reader-fault s p e)))

pub utf8-end : (s : List ℕ) → is_utf8 s ≡ true → utf8_place s ≡ length s
utf8-end s e = one_place Utf8 s (utf8_place s) (length s) (utf8_reach_lem s) (viable-end Utf8 s (whole_viable Utf8 s ((is_utf8_is s).0 e)))

utf8_part : (s : List ℕ) → (Utf8 s × (utf8_place s ≡ length s)) ⊎ NotJsonAt s (utf8_place s)
utf8_part s = both (is_utf8 s)
    (λ e. inl ((is_utf8_is s).0 e, utf8-end s e))
    (λ e. inr (not-utf8 (record { fails = λ w. false≢true (sym e ∙ (is_utf8_is s).1 w); furthest = utf8_reach_lem s })))

text_part : (s : List ℕ) → (JsonText s × (text_place s ≡ length s)) ⊎ NotJsonAt s (text_place s)
unfolding text_place
text_part s = split (json_place s) (utf8_place s)
    (λ h. rw (min-eq_left h) (one h (json_part s) (utf8_part s)))
    (λ h. let k : utf8_place s ≤ json_place s = omega arith in rw (min-eq_right k) (two h (utf8_part s)))
  where
    one : json_place s ≤ utf8_place s → (G.JSON 16 s × (json_place s ≡ length s)) ⊎ NotJsonAt s (json_place s) → (Utf8 s × (utf8_place s ≡ length s)) ⊎ NotJsonAt s (utf8_place s) → (JsonText s × (json_place s ≡ length s)) ⊎ NotJsonAt s (json_place s)
    one h (inr f) b = inr f
    one h (inl a) (inl b) = inl ((a.0, b.0), a.1)
    one h (inl a) (inr f) = let e : utf8_place s ≡ json_place s = (let z = (utf8_reach_lem s).inside in let y = a.1 in omega arith) in inr (subst (NotJsonAt s) e f)

    two : utf8_place s < json_place s → (Utf8 s × (utf8_place s ≡ length s)) ⊎ NotJsonAt s (utf8_place s) → (JsonText s × (utf8_place s ≡ length s)) ⊎ NotJsonAt s (utf8_place s)
    two h (inl b) = absurd (let z = (json_reach s).inside in let y = b.1 in omega arith)
    two h (inr f) = inr f

pub fault_is : (s : List ℕ) → (JsonText s → length s ≤ 8192 → ⊥) → NotJsonAt s (min (text_place s) 8192)
fault_is s n = split (text_place s) 8192
    (λ h. rw (min-eq_left h) (one h (text_part s)))
    (λ h. let k : 8192 ≤ text_place s = omega arith in rw (min-eq_right k) (too_long (let z = (text_reach s).inside in omega arith) refl))
  where
    one : text_place s ≤ 8192 → (JsonText s × (text_place s ≡ length s)) ⊎ NotJsonAt s (text_place s) → NotJsonAt s (text_place s)
    one h (inl a) = absurd (n a.0 (let z = a.1 in omega arith))
    one h (inr f) = f

-- no fault comes before
json-first : (s : List ℕ) (q : ℕ) → FirstBad JsonOfAnyDepth s q → json_place s ≤ q
json-first s q f = split (json_place s) q (λ h. h)
    (λ h. let r = json_reach s in let v = r.before in let i = r.inside in
    absurd (f.furthest.at (omega arith) (viable-less JsonOfAnyDepth s (q + 1) (json_place s) (omega arith) (v.0, (16, v.1)))))

deep-first : (s : List ℕ) (q : ℕ) → TooDeep 16 s q → q ≡ json_place s
deep-first s q f = one_place (G.JSON 16) s q (json_place s) (record { inside = (let z = f.inside in omega arith); before = f.before; at = λ h. f.at }) (json_reach s)

pub fault-first : (s : List ℕ) (q : ℕ) → NotJsonAt s q → min (text_place s) 8192 ≤ q
unfolding text_place
fault-first s q (is_not_json f) = let z = json-first s q f in omega arith
fault-first s q (not-utf8 f) = let z = one_place Utf8 s q (utf8_place s) f.furthest (utf8_reach_lem s) in omega arith
fault-first s q (too-deep f) = let z = deep-first s q f in omega arith
fault-first s q (too_long h e) = omega arith
