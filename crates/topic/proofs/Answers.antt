-- What each answer of the code shows.
use Rattle.std.specs.Prelude.{None, Result, Ok, Err}
use Rattle.answer.specs.declared.Refused.{Refused}
use Rattle.answer.specs.Refused.{refusal_of}
use Prim.Native.Nat.{ℕ, suc, ◌+◌, ◌-◌, ◌≤◌, ◌<◌}
use native.Mathlib.Omega.{arith}
use mathlib.Core.Path.{◌≡◌, refl, sym, ap, subst, ◌∙◌}
use mathlib.Core.List.{List, [], ◌∷◌}
use mathlib.Core.Bool.{Bool, true, false, ◌&&◌, false≢true, and-true, and-false}
use lib.ListN.{length, drop, length-take}
use lib.Seq.{drop-cons}
use native.Mathlib.Nat.{sub_self}
use native.Mathlib.Numerals.{add-one}
use Rattle.text.proofs.Slices.{slice-length}
use Rattle.text.proofs.Split.{is_none}
use Rattle.answer.specs.Answer.{Answer, refused, gives, require, only}
use Rattle.text.specs.Bytes.{eq_bytes, slice}
use Rattle.text.specs.Split.{split, part_at, found_part}
use Rattle.text.specs.Ids.{is_id}
use Rattle.text.proofs.Bytes.{eq_bytes-true}
use Rattle.text.specs.declared.Place.{Place}
use Rattle.topic.specs.declared.Topic.{Topic}
use Rattle.topic.specs.declared.Topic.TheVariants.{State, Description, Value, Set, Target, Alert, Log, Broadcast, Other}
use Rattle.topic.specs.Words.{slash, five, state_word, description_word, set_word, target_word, alert_word, log_word, broadcast_word, log_levels, reserved}
use Rattle.topic.specs.Form.{Form, alert, log, other}
use Rattle.topic.specs.Topics.{one_of, dollar_id, other_word, filled, fits, end, each, when◌give◌else◌, level, form_of, read_levels, read_topic}
use Rattle.text.specs.Places.{bytes_at, Within}
use Rattle.topic.specs.Meaning.{levels_in, form_at, Shows, rest_of}
use Rattle.topic.specs.Parts.{levels_from, Next, IdAt, WordAt, Ended, Last, LastAt}
use Rattle.topic.proofs.Levels.{levels-here, levels-past, levels-more, levels-none, found, levels-step, slice-tail}
use Rattle.topic.proofs.Rows.{free, no-levels, no_device, broadcast_row, broadcast-bad, broadcast-none, device_alone, node_alone, node-bad, value_row, set_row, target_row, property-bad, property-long, state-fits, description-fits, alert-fits, log-fits, other_fits}

-- an answer without places
pub refuse : (t : List ℕ) {b : ℕ} (r : Refused) (a : Answer Form) → a ≡ refused (refusal_of r) → Shows t b a (Err r)
refuse t r a e = record { says = sym e; places = tt; stand = tt }

-- the place of a found part
pub placed : (t : List ℕ) (at s e n : ℕ) → found_part s e n ≡ part_at slash t at → Within (length t) (record { start = s; end = e })
placed t at s e n q = let p = found t at s e n q in record { ordered = p.ordered; inside = p.within }

-- the last part ends with the topic
ends : (t : List ℕ) (at s e n : ℕ) → found_part s e n ≡ part_at slash t at → length t < n → e ≡ length t
ends t at s e n q h = let p = found t at s e n q in omega (arith, p.next, p.within)

-- a found part that is an ID, and one that is none
module _ (t : List ℕ) (at s e n : ℕ) (q : found_part s e n ≡ part_at slash t at) where
  pub id_at : is_id (slice t s e) ≡ true → IdAt t (record { start = s; end = e })
  id_at h = record { within = placed t at s e n q; id = h }

  pub word_at : is_id (slice t s e) ≡ false → WordAt t (record { start = s; end = e })
  word_at h = record { within = placed t at s e n q; no_id = h }

  -- it begins where it was looked for, and what follows begins behind it
  pub starts : {x : ℕ} → at ≡ x → s ≡ x
  starts h = (found t at s e n q).start ∙ h

  pub next_of : Next (record { start = s; end = e }) n
  next_of = (found t at s e n q).next

module _ (t : List ℕ) (d : Place) (at : ℕ) (i : IdAt t d) where
  -- `$state`, `$description`
  pub state_no : at ≤ length t → Shows t d.start (form_of (bytes_at t d ∷ state_word ∷ levels_from t at)) (Err Refused.NoForm)
  unfolding when◌give◌else◌
  state_no h = refuse t Refused.NoForm _ (state-fits (bytes_at t d) i.id (levels_from t at) ∙ rw (levels-more t at h))

  pub state_yes : length t < at → Shows t d.start (form_of (bytes_at t d ∷ state_word ∷ levels_from t at)) (Ok (State d))
  unfolding when◌give◌else◌ end form_at
  state_yes h = record { says = sym (state-fits (bytes_at t d) i.id (levels_from t at) ∙ rw (levels-past t at h)); places = i.within; stand = refl }

  pub description_no : at ≤ length t → Shows t d.start (form_of (bytes_at t d ∷ description_word ∷ levels_from t at)) (Err Refused.NoForm)
  unfolding when◌give◌else◌
  description_no h = refuse t Refused.NoForm _ (description-fits (bytes_at t d) i.id (levels_from t at) ∙ rw (levels-more t at h))

  pub description_yes : length t < at → Shows t d.start (form_of (bytes_at t d ∷ description_word ∷ levels_from t at)) (Ok (Description d))
  unfolding when◌give◌else◌ end form_at
  description_yes h = record { says = sym (description-fits (bytes_at t d) i.id (levels_from t at) ∙ rw (levels-past t at h)); places = i.within; stand = refl }

  pub state-shows : (r : Result Topic Refused) → Ended t at (State d) r → Shows t d.start (form_of (bytes_at t d ∷ state_word ∷ levels_from t at)) r
  state-shows (Ok f) e = rw e.0 (state_yes e.1)
  state-shows (Err x) e = rw e.0 (state_no e.1)

  pub description-shows : (r : Result Topic Refused) → Ended t at (Description d) r → Shows t d.start (form_of (bytes_at t d ∷ description_word ∷ levels_from t at)) r
  description-shows (Ok f) e = rw e.0 (description_yes e.1)
  description-shows (Err x) e = rw e.0 (description_no e.1)

-- the last level
module _ (passes : List ℕ → Bool) (t : List ℕ) (at : ℕ) where
  pub last-none : None ≡ part_at slash t at → fits (passes ∷ []) end (levels_from t at) ≡ false
  unfolding fits
  last-none q = rw (levels-none t at q)

  module _ (s e n : ℕ) (q : found_part s e n ≡ part_at slash t at) where
    one-fits : fits (passes ∷ []) end (levels_from t at) ≡ (passes (slice t s e) && end (levels_from t n))
    unfolding fits
    one-fits = rw (levels-step t at s e n q)

    pub last-long : n ≤ length t → fits (passes ∷ []) end (levels_from t at) ≡ false
    last-long h = one-fits ∙ rw (levels-more t n h, and-false (passes (slice t s e)))

    pub last-bad : passes (slice t s e) ≡ false → fits (passes ∷ []) end (levels_from t at) ≡ false
    last-bad h = one-fits ∙ rw h

    pub last_yes : length t < n → passes (slice t s e) ≡ true → LastAt passes t at (record { start = s; end = e })
    last_yes h k = record { within = placed t at s e n q; ends = ends t at s e n q h; levels = levels-step t at s e n q ∙ ap (λ (ls : List (List ℕ)). slice t s e ∷ ls) (levels-past t n h); passed = k }

-- a device and a word that one level follows: `$alert`, `$log`
module _ (t d : List ℕ) (at b : ℕ) (w : List ℕ) (test : List ℕ → Bool) (make : List ℕ → Form)
    (row : (ls : List (List ℕ)) → form_of (d ∷ w ∷ ls) ≡ (when fits (test ∷ []) end ls give make (level ls 0) else refused (only 9))) where
  one_no : (e : Refused) → Last test t at (Err e) → Shows t b (form_of (d ∷ w ∷ levels_from t at)) (Err e)
  unfolding when◌give◌else◌
  one_no e k = rw k.0 (refuse t Refused.NoForm _ (row (levels_from t at) ∙ rw k.1))

  one_row : (p : Place) → LastAt test t at p → form_of (d ∷ w ∷ levels_from t at) ≡ gives (make (bytes_at t p))
  unfolding when◌give◌else◌ fits end
  one_row p k = row (levels_from t at) ∙ rw (k.levels, k.passed)

-- `$alert`, `$log`
module _ (t : List ℕ) (d : Place) (at : ℕ) (i : IdAt t d) where
  pub alert_no : (e : Refused) → Last is_id t at (Err e) → Shows t d.start (form_of (bytes_at t d ∷ alert_word ∷ levels_from t at)) (Err e)
  alert_no = one_no t (bytes_at t d) at d.start alert_word is_id (alert (bytes_at t d)) (alert-fits (bytes_at t d) i.id)

  pub alert_yes : (p : Place) → LastAt is_id t at p → Shows t d.start (form_of (bytes_at t d ∷ alert_word ∷ levels_from t at)) (Ok (Alert d p))
  unfolding form_at
  alert_yes p k = record {
    says = sym (one_row t (bytes_at t d) at d.start alert_word is_id (alert (bytes_at t d)) (alert-fits (bytes_at t d) i.id) p k);
    places = (i.within, k.within);
    stand = (refl, k.ends);
  }

  pub log_no : (e : Refused) → Last (one_of log_levels) t at (Err e) → Shows t d.start (form_of (bytes_at t d ∷ log_word ∷ levels_from t at)) (Err e)
  log_no = one_no t (bytes_at t d) at d.start log_word (one_of log_levels) (log (bytes_at t d)) (log-fits (bytes_at t d) i.id)

  pub log_yes : (p : Place) → LastAt (one_of log_levels) t at p → Shows t d.start (form_of (bytes_at t d ∷ log_word ∷ levels_from t at)) (Ok (Log d p))
  unfolding form_at
  log_yes p k = record {
    says = sym (one_row t (bytes_at t d) at d.start log_word (one_of log_levels) (log (bytes_at t d)) (log-fits (bytes_at t d) i.id) p k);
    places = (i.within, k.within);
    stand = (refl, k.ends);
  }

-- a device and a node
module _ (t : List ℕ) (d n : Place) (at : ℕ) (i : IdAt t d) (j : IdAt t n) where
  pub node-none : None ≡ part_at slash t at → Shows t d.start (form_of (bytes_at t d ∷ bytes_at t n ∷ levels_from t at)) (Err Refused.NoForm)
  node-none q = refuse t Refused.NoForm _ (rw (levels-none t at q) (node_alone (bytes_at t d) i.id (bytes_at t n) j.id))

  module _ (s e m : ℕ) (q : found_part s e m ≡ part_at slash t at) where
    pub node_no : is_id (slice t s e) ≡ false → Shows t d.start (form_of (bytes_at t d ∷ bytes_at t n ∷ levels_from t at)) (Err Refused.NoForm)
    node_no h = refuse t Refused.NoForm _ (rw (levels-step t at s e m q) (node-bad (bytes_at t d) i.id (bytes_at t n) j.id (slice t s e) (levels_from t m) h))

    pub node-next : (r : Result Topic Refused) → Shows t d.start (form_of (bytes_at t d ∷ bytes_at t n ∷ slice t s e ∷ levels_from t m)) r → Shows t d.start (form_of (bytes_at t d ∷ bytes_at t n ∷ levels_from t at)) r
    node-next r h = rw (levels-step t at s e m q) h

-- a property
module _ (t : List ℕ) (d n p : Place) (at : ℕ) (i : IdAt t d) (j : IdAt t n) (k : IdAt t p) (a : Next d n.start) (b : Next n p.start) where
  pub value_yes : None ≡ part_at slash t at → Shows t d.start (form_of (bytes_at t d ∷ bytes_at t n ∷ bytes_at t p ∷ levels_from t at)) (Ok (Value d n p))
  unfolding form_at
  value_yes q = record {
    says = sym (rw (levels-none t at q) (value_row (bytes_at t d) i.id (bytes_at t n) j.id (bytes_at t p) k.id));
    places = (i.within, j.within, k.within);
    stand = (refl, a, b);
  }

  module _ (s e m : ℕ) (q : found_part s e m ≡ part_at slash t at) where
    pub property-more : m ≤ length t → Shows t d.start (form_of (bytes_at t d ∷ bytes_at t n ∷ bytes_at t p ∷ levels_from t at)) (Err Refused.NoForm)
    property-more h = refuse t Refused.NoForm _ (rw (levels-step t at s e m q) (property-long (bytes_at t d) i.id (bytes_at t n) j.id (bytes_at t p) k.id (slice t s e) (levels_from t m) (levels-more t m h)))

    pub property_no : eq_bytes (slice t s e) set_word ≡ false → eq_bytes (slice t s e) target_word ≡ false → Shows t d.start (form_of (bytes_at t d ∷ bytes_at t n ∷ bytes_at t p ∷ levels_from t at)) (Err Refused.NoForm)
    property_no f g = refuse t Refused.NoForm _ (rw (levels-step t at s e m q) (property-bad (bytes_at t d) i.id (bytes_at t n) j.id (bytes_at t p) k.id (slice t s e) (levels_from t m) f g))

    module _ (h : length t < m) where
      last : levels_from t at ≡ slice t s e ∷ []
      last = levels-step t at s e m q ∙ rw (levels-past t m h)

      pub set_yes : eq_bytes (slice t s e) set_word ≡ true → Shows t d.start (form_of (bytes_at t d ∷ bytes_at t n ∷ bytes_at t p ∷ levels_from t at)) (Ok (Set d n p))
      unfolding form_at
      set_yes f = record {
        says = sym (rw last (set_row (bytes_at t d) i.id (bytes_at t n) j.id (bytes_at t p) k.id (slice t s e) f));
        places = (i.within, j.within, k.within);
        stand = (refl, a, b);
      }

      pub target_yes : eq_bytes (slice t s e) set_word ≡ false → eq_bytes (slice t s e) target_word ≡ true → Shows t d.start (form_of (bytes_at t d ∷ bytes_at t n ∷ bytes_at t p ∷ levels_from t at)) (Ok (Target d n p))
      unfolding form_at
      target_yes f g = record {
        says = sym (rw last (target_row (bytes_at t d) i.id (bytes_at t n) j.id (bytes_at t p) k.id (slice t s e) f g));
        places = (i.within, j.within, k.within);
        stand = (refl, a, b);
      }

-- what is left of a topic, as one part
rest-levels : (test : List ℕ → Bool) → test [] ≡ false → (s : List ℕ) → each test (split slash s) ≡ true → levels_in s ≡ split slash s
unfolding levels_in each split
rest-levels test h [] k = absurd (false≢true (sym (rw h) ∙ k))
rest-levels test h (b ∷ s) k = refl

pub rest_is : (test : List ℕ → Bool) → test [] ≡ false → (t : List ℕ) (at : ℕ) → at ≤ length t → each test (levels_from t at) ≡ true
    → levels_in (slice t at (length t)) ≡ levels_from t at
rest_is test h t at k e = rw (slice-tail t at, levels-here t at k) (rest-levels test h (drop at t) (rw (levels-here t at k) at e))

-- `$broadcast`
module _ (t : List ℕ) (at b : ℕ) where
  pub broadcast-past : length t < at → Shows t b (form_of (broadcast_word ∷ levels_from t at)) (Err Refused.NoForm)
  broadcast-past h = refuse t Refused.NoForm _ (rw (levels-past t at h) broadcast-none)

  pub broadcast_no : each is_id (levels_from t at) ≡ false → Shows t b (form_of (broadcast_word ∷ levels_from t at)) (Err Refused.NoForm)
  broadcast_no h = refuse t Refused.NoForm _ (broadcast-bad (levels_from t at) h)

  pub broadcast_yes : at ≤ length t → each is_id (levels_from t at) ≡ true → Shows t b (form_of (broadcast_word ∷ levels_from t at)) (Ok (Broadcast (record { start = at; end = length t })))
  unfolding form_at is_id
  broadcast_yes h k = record {
    says = rw (rest_is is_id refl t at h k) (sym (broadcast_row (levels_from t at) (levels-more t at h) k));
    places = record { ordered = h; inside = omega arith };
    stand = refl;
  }

-- ---- `other`

-- the ID behind the `$` of a word
pub word-tail : (t : List ℕ) (s e : ℕ) → s < e → e ≤ length t → drop 1 (slice t s e) ≡ slice t (s + 1) e
word-tail t s e h k =
    let z : e - s ≡ suc (e - (s + 1)) = omega arith in
    rw (z, drop-cons t s 0 (omega arith), add-one)

dollar-some : (l : List ℕ) → dollar_id l ≡ true → 0 < length l
unfolding dollar_id
dollar-some [] h = absurd (false≢true h)
dollar-some (b ∷ l) h = omega arith

pub dollar-place : (t : List ℕ) (s e : ℕ) → dollar_id (slice t s e) ≡ true → s < e
dollar-place t s e h = omega (arith, dollar-some (slice t s e) h, length-take (e - s) (drop s t))

module _ (t : List ℕ) (d w : Place) (at : ℕ) (i : IdAt t d) (j : WordAt t w) (f : one_of reserved (bytes_at t w) ≡ false) (a : Next d w.start) (b : Next w at) where
  word_fits : form_of (bytes_at t d ∷ bytes_at t w ∷ levels_from t at) ≡ (when (dollar_id (bytes_at t w) && each filled (levels_from t at)) give other (bytes_at t d) (drop 1 (bytes_at t w)) (levels_from t at) else refused (only 9))
  unfolding other_word
  word_fits = other_fits (bytes_at t d) i.id (levels_from t at) (bytes_at t w) (free (bytes_at t w) f) j.no_id ∙ rw (f, and-true (dollar_id (bytes_at t w)))

  pub word_no : dollar_id (bytes_at t w) ≡ false → Shows t d.start (form_of (bytes_at t d ∷ bytes_at t w ∷ levels_from t at)) (Err Refused.NoForm)
  unfolding when◌give◌else◌
  word_no h = refuse t Refused.NoForm _ (word_fits ∙ rw h)

  pub levels_no : each filled (levels_from t at) ≡ false → Shows t d.start (form_of (bytes_at t d ∷ bytes_at t w ∷ levels_from t at)) (Err Refused.NoForm)
  unfolding when◌give◌else◌
  levels_no h = refuse t Refused.NoForm _ (word_fits ∙ rw (h, and-false (dollar_id (bytes_at t w))))

  module _ (h : dollar_id (bytes_at t w) ≡ true) (k : each filled (levels_from t at) ≡ true) where
    some : w.start < w.end
    some = dollar-place t w.start w.end h

    other_row : form_of (bytes_at t d ∷ bytes_at t w ∷ levels_from t at) ≡ gives (other (bytes_at t d) (slice t (w.start + 1) w.end) (levels_from t at))
    unfolding when◌give◌else◌
    other_row = word_fits ∙ rw (h, k, word-tail t w.start w.end some j.within.inside)

    behind : Within (length t) (record { start = w.start + 1; end = w.end })
    behind = record { ordered = omega (arith, some); inside = j.within.inside }

    pub other_last : length t < at → Shows t d.start (form_of (bytes_at t d ∷ bytes_at t w ∷ levels_from t at)) (Ok (Other d (record { start = w.start + 1; end = w.end }) (record { start = w.end; end = w.end })))
    unfolding form_at levels_in
    other_last g = record {
      says = sym (other_row ∙ rw (levels-past t at g, sub_self w.end));
      places = (i.within, behind, record { ordered = omega arith; inside = j.within.inside });
      stand = (refl, omega (arith, a), omega (arith, b, g, j.within.inside));
    }

    pub other-more : at ≤ length t → Shows t d.start (form_of (bytes_at t d ∷ bytes_at t w ∷ levels_from t at)) (Ok (Other d (record { start = w.start + 1; end = w.end }) (record { start = at; end = length t })))
    unfolding form_at filled
    other-more g = record {
      says = rw (rest_is filled refl t at g k) (sym other_row);
      places = (i.within, behind, record { ordered = g; inside = omega arith });
      stand = (refl, omega (arith, a), refl);
    }

-- ---- one level more in front

-- the word that a level was found to be
pub as-word : (t : List ℕ) (b : ℕ) (d w x : List ℕ) (ls : List (List ℕ)) (r : Result Topic Refused) → eq_bytes w x ≡ true → Shows t b (form_of (d ∷ x ∷ ls)) r → Shows t b (form_of (d ∷ w ∷ ls)) r
as-word t b d w x ls r e h = rw (eq_bytes-true w x e) h

-- no word that `other` excludes
pub unreserved : (l : List ℕ) → eq_bytes l state_word ≡ false → eq_bytes l description_word ≡ false → eq_bytes l alert_word ≡ false → eq_bytes l log_word ≡ false → one_of reserved l ≡ false
unfolding one_of
unreserved l a b c d = rw (a, b, c, d)

module _ (t : List ℕ) (d : Place) (at : ℕ) (i : IdAt t d) where
  pub device-none : None ≡ part_at slash t at → Shows t d.start (form_of (bytes_at t d ∷ levels_from t at)) (Err Refused.NoForm)
  device-none q = refuse t Refused.NoForm _ (rw (levels-none t at q) (device_alone (bytes_at t d) i.id))

  pub device-next : (s e n : ℕ) → found_part s e n ≡ part_at slash t at → (r : Result Topic Refused) → Shows t d.start (form_of (bytes_at t d ∷ slice t s e ∷ levels_from t n)) r → Shows t d.start (form_of (bytes_at t d ∷ levels_from t at)) r
  device-next s e n q r h = rw (levels-step t at s e n q) h

module _ (t : List ℕ) (at : ℕ) where
  pub form-none : None ≡ part_at slash t at → Shows t at (form_of (levels_from t at)) (Err Refused.NoForm)
  form-none q = refuse t Refused.NoForm _ (rw (levels-none t at q) no-levels)

  module _ (s e n : ℕ) (q : found_part s e n ≡ part_at slash t at) where
    pub form_no : eq_bytes (slice t s e) broadcast_word ≡ false → is_id (slice t s e) ≡ false → Shows t at (form_of (levels_from t at)) (Err Refused.NoForm)
    form_no f g = refuse t Refused.NoForm _ (rw (levels-step t at s e n q) (no_device (slice t s e) (levels_from t n) f g))

    pub form-next : (r : Result Topic Refused) → Shows t s (form_of (slice t s e ∷ levels_from t n)) r → Shows t at (form_of (levels_from t at)) r
    form-next r h = rw (levels-step t at s e n q) (subst (λ (b : ℕ). Shows t b (form_of (slice t s e ∷ levels_from t n)) r) (found t at s e n q).start h)

    pub form-broadcast : eq_bytes (slice t s e) broadcast_word ≡ true → (r : Result Topic Refused) → Shows t at (form_of (broadcast_word ∷ levels_from t n)) r → Shows t at (form_of (levels_from t at)) r
    form-broadcast f r h = rw (levels-step t at s e n q, eq_bytes-true (slice t s e) broadcast_word f) h

-- ---- the first two levels

-- a topic's levels
all-levels : (t : List ℕ) → split slash t ≡ levels_from t 0
all-levels t = sym (levels-here t 0 (omega arith))

module _ (d t : List ℕ) (s e n : ℕ) (q : found_part s e n ≡ part_at slash t 0) where
  first : read_topic d t ≡ read_levels d (slice t s e ∷ levels_from t n)
  unfolding read_topic
  first = rw (all-levels t, levels-step t 0 s e n q)

  other-domain : (l : List ℕ) (ls : List (List ℕ)) → eq_bytes l d ≡ false → read_levels d (l ∷ ls) ≡ refused (only 8)
  unfolding read_levels require
  other-domain l [] f = refl
  other-domain l (m ∷ ls) f = rw f

  pub domain_no : eq_bytes (slice t s e) d ≡ false → Shows t (rest_of d) (read_topic d t) (Err Refused.OtherDomain)
  domain_no f = refuse t Refused.OtherDomain _ (first ∙ other-domain (slice t s e) (levels_from t n) f)

  pub domain_alone : None ≡ part_at slash t n → Shows t (rest_of d) (read_topic d t) (Err Refused.OtherDomain)
  unfolding read_levels
  domain_alone r = refuse t Refused.OtherDomain _ (first ∙ rw (levels-none t n r))

  module _ (s2 e2 n2 : ℕ) (r : found_part s2 e2 n2 ≡ part_at slash t n) where
    both-levels : read_topic d t ≡ require (eq_bytes (slice t s e) d && eq_bytes (slice t s2 e2) five) 8 (form_of (levels_from t n2))
    unfolding read_levels
    both-levels = first ∙ rw (levels-step t n s2 e2 n2 r)

    -- the domain, `/`, `5` and `/` stand before the rest
    rest_at : eq_bytes (slice t s e) d ≡ true → eq_bytes (slice t s2 e2) five ≡ true → n2 ≡ rest_of d
    rest_at f g =
        let p = found t 0 s e n q in
        let p2 = found t n s2 e2 n2 r in
        let a : e - s ≡ length d = sym (slice-length t s e p.ordered p.within) ∙ ap (λ (l : List ℕ). length l) (eq_bytes-true (slice t s e) d f) in
        let b : e2 - s2 ≡ 1 = sym (slice-length t s2 e2 p2.ordered p2.within) ∙ ap (λ (l : List ℕ). length l) (eq_bytes-true (slice t s2 e2) five g) in
        omega (arith, a, b, p.start, p.ordered, p.next, p2.start, p2.ordered, p2.next)

    pub version_no : eq_bytes (slice t s2 e2) five ≡ false → Shows t (rest_of d) (read_topic d t) (Err Refused.OtherDomain)
    unfolding require
    version_no f = refuse t Refused.OtherDomain _ (both-levels ∙ rw (f, and-false (eq_bytes (slice t s e) d)))

    pub version_yes : eq_bytes (slice t s e) d ≡ true → eq_bytes (slice t s2 e2) five ≡ true → (a : Result Topic Refused) → Shows t n2 (form_of (levels_from t n2)) a → Shows t (rest_of d) (read_topic d t) a
    unfolding require
    version_yes f g a h = rw (both-levels, f, g) (subst (λ (b : ℕ). Shows t b (form_of (levels_from t n2)) a) (rest_at f g) h)

pub no-level : (d t : List ℕ) → None ≡ part_at slash t 0 → Shows t (rest_of d) (read_topic d t) (Err Refused.OtherDomain)
no-level d t q = absurd (omega (arith, is_none slash t 0 q))
