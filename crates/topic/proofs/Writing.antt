-- Writing the topic of a form and reading it back, and the other way round.
use Prim.Native.Nat.{ℕ}
use mathlib.Core.Path.{◌≡◌, refl, sym, ◌∙◌}
use mathlib.Core.List.{List, [], ◌∷◌}
use mathlib.Core.Bool.{Bool, true, not, ◌&&◌, false≢true}
use lib.Dec.{eqb}
use borrow.Author.Tests.{eqb-true, not-true}
use Rattle.answer.specs.Answer.{gives}
use Rattle.text.specs.Bytes.{eq_bytes, every}
use Rattle.text.specs.Split.{free, AllFree, none, more}
use Rattle.text.specs.Ids.{is_id, id_byte}
use Rattle.text.proofs.Bytes.{both, and_both, or_cases, eq_bytes-true}
use Rattle.text.proofs.Joins.{split-join, splits}
use Rattle.text.proofs.Ids.{is-id}
use Rattle.topic.specs.Words.{slash, dollar, five, log_levels, reserved}
use Rattle.topic.specs.Form.{Form, state, description, value, set, target, alert, log, broadcast, other}
use Rattle.topic.specs.Topics.{one_of, filled, end, each, read_topic}
use Rattle.topic.specs.Table.{HasTopicForm, HasForm, is_state, is_description, is_value, is_set, is_target, is_alert, is_log, is_broadcast, is_other}
use Rattle.topic.specs.Writing.{levels_of, write_topic, a_level, valid}
use Rattle.topic.proofs.Table.{complete}
use Rattle.topic.proofs.Reading.{read-form}

-- ---- levels without `/`

all-free : (ls : List (List ℕ)) → each (free slash) ls ≡ true → AllFree slash ls
unfolding each
all-free [] h = none
all-free (l ∷ ls) h = let p = and_both (free slash l) (each (free slash) ls) h in more p.0 (all-free ls p.1)

bytes-free : (l : List ℕ) → every id_byte l ≡ true → free slash l ≡ true
unfolding every free id_byte
bytes-free [] h = refl
bytes-free (b ∷ l) h =
    let p = and_both (id_byte b) (every id_byte l) h in
    both (eqb b slash)
    (λ e. absurd (false≢true (rw (eqb-true b slash e) at p.0)))
    (λ e. rw e (bytes-free l p.1))

pub id-free : (l : List ℕ) → is_id l ≡ true → free slash l ≡ true
id-free l h = bytes-free l (is-id l h).all

-- what each of the words has, one of them has
one_of_lem : (test : List ℕ → Bool) (ws : List (List ℕ)) (l : List ℕ) → each test ws ≡ true → one_of ws l ≡ true → test l ≡ true
unfolding each one_of
one_of_lem test [] l h k = absurd (false≢true k)
one_of_lem test (w ∷ ws) l h k =
    let p = and_both (test w) (each test ws) h in
    or_cases (eq_bytes l w) (one_of ws l) k (λ e. rw (eq_bytes-true l w e) p.0) (λ e. one_of_lem test ws l p.1 e)

log-free : (l : List ℕ) → one_of log_levels l ≡ true → free slash l ≡ true
unfolding each free every
log-free l h = one_of_lem (free slash) log_levels l refl h

each_map : (a b : List ℕ → Bool) → ((l : List ℕ) → a l ≡ true → b l ≡ true) → (ls : List (List ℕ)) → each a ls ≡ true → each b ls ≡ true
unfolding each
each_map a b f [] h = refl
each_map a b f (l ∷ ls) h = let p = and_both (a l) (each a ls) h in rw (f l p.0) (each_map a b f ls p.1)

level-filled : (l : List ℕ) → a_level l ≡ true → filled l ≡ true
unfolding a_level
level-filled l h = (and_both (filled l) (free slash l) h).0

level-free : (l : List ℕ) → a_level l ≡ true → free slash l ≡ true
unfolding a_level
level-free l h = (and_both (filled l) (free slash l) h).1

levels-both : (ls : List (List ℕ)) → each filled ls ≡ true → AllFree slash ls → each a_level ls ≡ true
unfolding each a_level
levels-both [] h none = refl
levels-both (l ∷ ls) h (more f k) =
    let p = and_both (filled l) (each filled ls) h in
    rw (p.0, f) (levels-both ls p.1 k)

-- ---- a form's levels

-- a valid form has the levels of its row, and none of them has a `/`
pub valid-form : (f : Form) → valid f ≡ true → HasForm (levels_of f) f × (each (free slash) (levels_of f) ≡ true)
unfolding valid levels_of each free every end
valid-form (state d) h = (is_state h, rw (id-free d h))
valid-form (description d) h = (is_description h, rw (id-free d h))
valid-form (value d n p) h =
    let a = and_both (is_id d) (is_id n && is_id p) h in
    let b = and_both (is_id n) (is_id p) a.1 in
    (is_value a.0 b.0 b.1, rw (id-free d a.0, id-free n b.0, id-free p b.1))
valid-form (set d n p) h =
    let a = and_both (is_id d) (is_id n && is_id p) h in
    let b = and_both (is_id n) (is_id p) a.1 in
    (is_set a.0 b.0 b.1, rw (id-free d a.0, id-free n b.0, id-free p b.1))
valid-form (target d n p) h =
    let a = and_both (is_id d) (is_id n && is_id p) h in
    let b = and_both (is_id n) (is_id p) a.1 in
    (is_target a.0 b.0 b.1, rw (id-free d a.0, id-free n b.0, id-free p b.1))
valid-form (alert d n) h =
    let a = and_both (is_id d) (is_id n) h in
    (is_alert a.0 a.1, rw (id-free d a.0, id-free n a.1))
valid-form (log d l) h =
    let a = and_both (is_id d) (one_of log_levels l) h in
    (is_log a.0 a.1, rw (id-free d a.0, log-free l a.1))
valid-form (broadcast []) h = absurd (false≢true h)
valid-form (broadcast (i ∷ ids)) h = (is_broadcast h, each_map is_id (free slash) id-free (i ∷ ids) h)
valid-form (other d w ls) h =
    let a = and_both (is_id d) (is_id w && (not (one_of reserved (dollar ∷ w)) && each a_level ls)) h in
    let b = and_both (is_id w) (not (one_of reserved (dollar ∷ w)) && each a_level ls) a.1 in
    let c = and_both (not (one_of reserved (dollar ∷ w))) (each a_level ls) b.1 in (
      is_other a.0 b.0 (not-true (one_of reserved (dollar ∷ w)) c.0) (each_map a_level filled level-filled ls c.1),
      rw (id-free d a.0, id-free w b.0) (each_map a_level (free slash) level-free ls c.1),
    )

-- the levels of a form are those that it was found in
pub form-levels : {ls : List (List ℕ)} {f : Form} → HasForm ls f → levels_of f ≡ ls
unfolding levels_of
form-levels (is_state hd) = refl
form-levels (is_description hd) = refl
form-levels (is_value hd hn hp) = refl
form-levels (is_set hd hn hp) = refl
form-levels (is_target hd hn hp) = refl
form-levels (is_alert hd ha) = refl
form-levels (is_log hd hl) = refl
form-levels (is_broadcast h) = refl
form-levels (is_other hd hw hr hs) = refl

pub form-valid : {ls : List (List ℕ)} {f : Form} → HasForm ls f → AllFree slash ls → valid f ≡ true
unfolding valid each end
form-valid (is_state hd) k = hd
form-valid (is_description hd) k = hd
form-valid (is_value hd hn hp) k = rw (hd, hn, hp)
form-valid (is_set hd hn hp) k = rw (hd, hn, hp)
form-valid (is_target hd hn hp) k = rw (hd, hn, hp)
form-valid (is_alert hd ha) k = rw (hd, ha)
form-valid (is_log hd hl) k = rw (hd, hl)
form-valid (is_broadcast h) k = h
form-valid (is_other {d} {w} {ls} hd hw hr hs) (more f (more g k)) = rw (hd, hw, hr, levels-both ls hs k)

-- ---- there and back

-- a topic that is written is read as its form, in a domain without `/`
pub read-written : (d : List ℕ) (f : Form) → free slash d ≡ true → valid f ≡ true → read_topic d (write_topic d f) ≡ gives f
unfolding read_topic write_topic free every
read-written d f h k =
    let v = valid-form f k in
    rw (split-join slash d (five ∷ levels_of f) (more h (more refl (all-free _ v.1)))) (read-form d (levels_of f) ∙ complete v.0)

-- a topic that is read as a form is the one that is written for it
pub written : (d t : List ℕ) (f : Form) → HasTopicForm d t f → write_topic d f ≡ t
unfolding write_topic
written d t f h =
    let s = splits slash t in
    let e : s.first ∷ s.others ≡ d ∷ five ∷ h.rest = sym s.parts ∙ h.levels in
    let a : s.first ≡ d = cc in
    let b : s.others ≡ five ∷ h.rest = cc in
    rw (form-levels h.form) (rw (a, b) at s.whole)

pub read-valid : (d t : List ℕ) (f : Form) → HasTopicForm d t f → valid f ≡ true
read-valid d t f h =
    let s = splits slash t in
    let e : s.first ∷ s.others ≡ d ∷ five ∷ h.rest = sym s.parts ∙ h.levels in
    clean (rw e at s.clean)
  where
    clean : AllFree slash (d ∷ five ∷ h.rest) → valid f ≡ true
    clean (more a (more b k)) = form-valid h.form k
