-- The rows of the table, one at a time: what the levels must be for a form, and when there is none.
use Prim.Native.Nat.{ℕ}
use mathlib.Core.Path.{◌≡◌, refl, sym, ◌∙◌}
use mathlib.Core.List.{List, [], ◌∷◌}
use mathlib.Core.Bool.{Bool, true, false, ◌&&◌, ◌||◌, false≢true, and-false}
use lib.Dec.{eqb}
use lib.ListN.{drop}
use borrow.Author.Tests.{eqb-true}
use Rattle.answer.specs.Answer.{refused, gives, only}
use Rattle.text.specs.Bytes.{eq_bytes, every}
use Rattle.text.specs.Ids.{is_id, id_byte}
use Rattle.text.proofs.Bytes.{both, eq_bytes_no}
use Rattle.topic.specs.Words.{dollar, state_word, description_word, set_word, target_word, alert_word, log_word, broadcast_word, log_levels, reserved}
use Rattle.topic.specs.Form.{state, description, value, set, target, alert, log, broadcast, other}
use Rattle.topic.specs.Topics.{is, one_of, dollar_id, other_word, filled, fits, end, each, when◌give◌else◌, level, form_of}

-- ---- IDs and words

-- no ID begins with `$`
pub dollar_no-id : (l : List ℕ) → is_id (dollar ∷ l) ≡ false
unfolding is_id every id_byte
dollar_no-id l = simp and-false

module _ (l : List ℕ) (h : is_id l ≡ true) where
  pub id_no-word : (w : List ℕ) → eq_bytes l (dollar ∷ w) ≡ false
  id_no-word w = eq_bytes_no l (dollar ∷ w) (λ e. false≢true (sym (dollar_no-id w) ∙ (rw e at h)))

pub id_no-dollar : (l : List ℕ) → is_id l ≡ true → dollar_id l ≡ false
unfolding dollar_id
id_no-dollar [] h = refl
id_no-dollar (b ∷ l) h = both (eqb b dollar)
    (λ p. absurd (false≢true (sym (dollar_no-id l) ∙ (rw (eqb-true b dollar p) at h))))
    (λ p. rw p)

pub id_no-other : (l : List ℕ) → is_id l ≡ true → other_word l ≡ false
unfolding other_word
id_no-other l h = rw (id_no-dollar l h)

-- `$` and an ID is no ID
pub dollar-word : (l : List ℕ) → dollar_id l ≡ true → is_id l ≡ false
dollar-word l h = both (is_id l) (λ p. absurd (false≢true (sym (id_no-dollar l p) ∙ h))) (λ p. p)

-- the words that `other` excludes
pub other-reserved : (l : List ℕ) → one_of reserved l ≡ true → other_word l ≡ false
unfolding other_word
other-reserved l h = rw h (and-false (dollar_id l))

pub record Free (l : List ℕ) : Type 0 where
  pub state : eq_bytes l state_word ≡ false
  pub description : eq_bytes l description_word ≡ false
  pub alert : eq_bytes l alert_word ≡ false
  pub log : eq_bytes l log_word ≡ false

pub free : (l : List ℕ) → one_of reserved l ≡ false → Free l
unfolding one_of
free l h = pick (eq_bytes l state_word) (eq_bytes l description_word) (eq_bytes l alert_word) (eq_bytes l log_word) refl refl refl refl h
  where
    pick : (a b c d : Bool) → eq_bytes l state_word ≡ a → eq_bytes l description_word ≡ b → eq_bytes l alert_word ≡ c → eq_bytes l log_word ≡ d → (a || (b || (c || (d || false)))) ≡ false → Free l
    pick true b c d ea eb ec ed h = absurd (false≢true (sym h))
    pick false true c d ea eb ec ed h = absurd (false≢true (sym h))
    pick false false true d ea eb ec ed h = absurd (false≢true (sym h))
    pick false false false true ea eb ec ed h = absurd (false≢true (sym h))
    pick false false false false ea eb ec ed h = record { state = ea; description = eb; alert = ec; log = ed }

pub id-free : (l : List ℕ) → is_id l ≡ true → Free l
id-free l h = record { state = id_no-word l h (drop 1 state_word); description = id_no-word l h (drop 1 description_word); alert = id_no-word l h (drop 1 alert_word); log = id_no-word l h (drop 1 log_word) }

-- ---- the rows

pub no-levels : form_of [] ≡ refused (only 9)
unfolding form_of fits when◌give◌else◌
no-levels = refl

-- neither an ID nor `$broadcast`
pub no_device : (d : List ℕ) (ls : List (List ℕ)) → eq_bytes d broadcast_word ≡ false → is_id d ≡ false → form_of (d ∷ ls) ≡ refused (only 9)
unfolding form_of fits when◌give◌else◌ is
no_device d ls hb hd = simp (hd, hb)

-- `$broadcast`
module _ (ls : List (List ℕ)) where
  broadcast-fits : form_of (broadcast_word ∷ ls) ≡ (when fits (is_id ∷ []) (each is_id) ls give broadcast ls else refused (only 9))
  unfolding form_of fits when◌give◌else◌ is eq_bytes
  broadcast-fits = simp (dollar_no-id (drop 1 broadcast_word))

pub broadcast_row : (ls : List (List ℕ)) → end ls ≡ false → each is_id ls ≡ true → form_of (broadcast_word ∷ ls) ≡ gives (broadcast ls)
unfolding fits when◌give◌else◌ end each
broadcast_row [] h k = absurd (false≢true (sym h))
broadcast_row (l ∷ ls) h k = broadcast-fits (l ∷ ls) ∙ rw k

pub broadcast-bad : (ls : List (List ℕ)) → each is_id ls ≡ false → form_of (broadcast_word ∷ ls) ≡ refused (only 9)
unfolding fits when◌give◌else◌ each
broadcast-bad [] k = broadcast-fits []
broadcast-bad (l ∷ ls) k = broadcast-fits (l ∷ ls) ∙ rw k

pub broadcast-none : form_of (broadcast_word ∷ []) ≡ refused (only 9)
unfolding fits when◌give◌else◌
broadcast-none = broadcast-fits []

-- a device
module _ (d : List ℕ) (hd : is_id d ≡ true) where
  hb : eq_bytes d broadcast_word ≡ false
  hb = id_no-word d hd (drop 1 broadcast_word)

  pub device_alone : form_of (d ∷ []) ≡ refused (only 9)
  unfolding form_of fits when◌give◌else◌ is
  device_alone = simp (hd, hb)

  -- and a node
  module _ (n : List ℕ) (hn : is_id n ≡ true) where
    hf : Free n
    hf = id-free n hn

    pub node_alone : form_of (d ∷ n ∷ []) ≡ refused (only 9)
    unfolding form_of fits when◌give◌else◌ is
    node_alone = simp (hd, hn, hb, hf.state, hf.description, hf.alert, hf.log, id_no-other n hn)

    pub node-bad : (p : List ℕ) (ls : List (List ℕ)) → is_id p ≡ false → form_of (d ∷ n ∷ p ∷ ls) ≡ refused (only 9)
    unfolding form_of fits when◌give◌else◌ is end
    node-bad p ls hp = simp (hd, hn, hp, hb, hf.state, hf.description, hf.alert, hf.log, id_no-other n hn)

    module _ (p : List ℕ) (hp : is_id p ≡ true) where
      pub value_row : form_of (d ∷ n ∷ p ∷ []) ≡ gives (value d n p)
      unfolding form_of fits when◌give◌else◌ is end
      value_row = simp (hd, hn, hp, hb, hf.state, hf.description)

      pub set_row : (x : List ℕ) → eq_bytes x set_word ≡ true → form_of (d ∷ n ∷ p ∷ x ∷ []) ≡ gives (set d n p)
      unfolding form_of fits when◌give◌else◌ is end
      set_row x h = simp (hd, hn, hp, h, hf.state, hf.description)

      pub target_row : (x : List ℕ) → eq_bytes x set_word ≡ false → eq_bytes x target_word ≡ true → form_of (d ∷ n ∷ p ∷ x ∷ []) ≡ gives (target d n p)
      unfolding form_of fits when◌give◌else◌ is end
      target_row x g h = simp (hd, hn, hp, g, h, hf.state, hf.description)

      pub property-bad : (x : List ℕ) (ls : List (List ℕ)) → eq_bytes x set_word ≡ false → eq_bytes x target_word ≡ false → form_of (d ∷ n ∷ p ∷ x ∷ ls) ≡ refused (only 9)
      unfolding form_of fits when◌give◌else◌ is end
      property-bad x ls g h = simp (hd, hn, hp, hb, g, h, hf.state, hf.description, hf.alert, hf.log, id_no-other n hn)

      pub property-long : (x : List ℕ) (ls : List (List ℕ)) → end ls ≡ false → form_of (d ∷ n ∷ p ∷ x ∷ ls) ≡ refused (only 9)
      unfolding form_of fits when◌give◌else◌ is end
      property-long x ls g = simp (hd, hn, hp, hb, g, and-false, hf.state, hf.description, hf.alert, hf.log, id_no-other n hn)

  -- and a word of its own form
  module _ (ls : List (List ℕ)) where
    pub state-fits : form_of (d ∷ state_word ∷ ls) ≡ (when end ls give state d else refused (only 9))
    unfolding form_of fits when◌give◌else◌ is eq_bytes one_of
    state-fits = simp (hd, hb, dollar_no-id (drop 1 state_word), other-reserved state_word refl)

    pub description-fits : form_of (d ∷ description_word ∷ ls) ≡ (when end ls give description d else refused (only 9))
    unfolding form_of fits when◌give◌else◌ is eq_bytes one_of
    description-fits = simp (hd, hb, dollar_no-id (drop 1 description_word), other-reserved description_word refl)

    pub alert-fits : form_of (d ∷ alert_word ∷ ls) ≡ (when fits (is_id ∷ []) end ls give alert d (level ls 0) else refused (only 9))
    unfolding form_of fits when◌give◌else◌ is eq_bytes one_of
    alert-fits = simp (hd, hb, dollar_no-id (drop 1 alert_word), other-reserved alert_word refl)

    pub log-fits : form_of (d ∷ log_word ∷ ls) ≡ (when fits (one_of log_levels ∷ []) end ls give log d (level ls 0) else refused (only 9))
    unfolding form_of fits when◌give◌else◌ is eq_bytes one_of
    log-fits = simp (hd, hb, dollar_no-id (drop 1 log_word), other-reserved log_word refl)

    -- and another word
    pub other_fits : (w : List ℕ) → Free w → is_id w ≡ false → form_of (d ∷ w ∷ ls) ≡ (when (other_word w && each filled ls) give other d (drop 1 w) ls else refused (only 9))
    unfolding form_of fits when◌give◌else◌ is
    other_fits w hf hw = simp (hd, hb, hw, hf.state, hf.description, hf.alert, hf.log)
