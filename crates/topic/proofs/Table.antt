-- The table as a function and the table as a relation agree.
use Prim.Native.Nat.{ℕ}
use mathlib.Core.Path.{◌≡◌, refl, ◌∙◌}
use mathlib.Core.List.{List, [], ◌∷◌}
use mathlib.Core.Bool.{Bool, true, false, not, ◌&&◌, false≢true}
use native.Mathlib.Omega.{arith}
use lib.Dec.{eqb}
use lib.ListN.{drop}
use borrow.Author.Tests.{eqb-true, not-true}
use Rattle.answer.specs.Answer.{Answer, gives}
use Rattle.text.specs.Bytes.{eq_bytes}
use Rattle.text.specs.Ids.{is_id}
use Rattle.text.proofs.Bytes.{and_both, eq_bytes-true}
use Rattle.topic.specs.Words.{dollar, state_word, description_word, set_word, target_word, alert_word, log_word, broadcast_word, log_levels, reserved}
use Rattle.topic.specs.Form.{Form, state, description, value, set, target, alert, log, broadcast, other}
use Rattle.topic.specs.Topics.{is, one_of, dollar_id, other_word, filled, fits, end, each, when◌give◌else◌, level, form_of}
use Rattle.topic.specs.Table.{HasForm, is_state, is_description, is_value, is_set, is_target, is_alert, is_log, is_broadcast, is_other}
use Rattle.topic.proofs.Rows.{dollar_no-id, free, broadcast_row, value_row, set_row, target_row, state-fits, description-fits, alert-fits, log-fits, other_fits}

-- ---- what a row admits is read as its form
pub complete : {ls : List (List ℕ)} {f : Form} → HasForm ls f → form_of ls ≡ gives f
unfolding when◌give◌else◌ fits end eq_bytes other_word dollar_id
complete (is_state {d} hd) = state-fits d hd []
complete (is_description {d} hd) = description-fits d hd []
complete (is_value {d} {n} {p} hd hn hp) = value_row d hd n hn p hp
complete (is_set {d} {n} {p} hd hn hp) = set_row d hd n hn p hp set_word refl
complete (is_target {d} {n} {p} hd hn hp) = target_row d hd n hn p hp target_word refl refl
complete (is_alert {d} {a} hd ha) = alert-fits d hd (a ∷ []) ∙ rw ha
complete (is_log {d} {l} hd hl) = log-fits d hd (l ∷ []) ∙ rw hl
complete (is_broadcast {i} {ids} h) = broadcast_row (i ∷ ids) refl h
complete (is_other {d} {w} {ls} hd hw hr hs) = other_fits d hd ls (dollar ∷ w) (free (dollar ∷ w) hr) (dollar_no-id w) ∙ rw (hw, hr, hs)

-- ---- and nothing else is

-- a row that fits, level by level
data Fits : List (List ℕ → Bool) → (List (List ℕ) → Bool) → List (List ℕ) → Type 0 where
  done : {left : List (List ℕ) → Bool} {ls : List (List ℕ)} → left ls ≡ true → Fits [] left ls
  next : {test : List ℕ → Bool} {tests : List (List ℕ → Bool)} {left : List (List ℕ) → Bool} {l : List ℕ} {ls : List (List ℕ)}
      → test l ≡ true → Fits tests left ls → Fits (test ∷ tests) left (l ∷ ls)

fits-true : (tests : List (List ℕ → Bool)) (left : List (List ℕ) → Bool) (ls : List (List ℕ)) → fits tests left ls ≡ true → Fits tests left ls
unfolding fits
fits-true [] left ls h = done h
fits-true (test ∷ tests) left [] h = absurd (false≢true h)
fits-true (test ∷ tests) left (l ∷ ls) h = let p = and_both (test l) (fits tests left ls) h in next p.0 (fits-true tests left ls p.1)

ended : (ls : List (List ℕ)) → end ls ≡ true → ls ≡ []
unfolding end
ended [] h = refl
ended (l ∷ ls) h = absurd (false≢true h)

word : (w l : List ℕ) → is w l ≡ true → l ≡ w
unfolding is
word w l h = eq_bytes-true l w h

state_in : {ls : List (List ℕ)} → Fits (is_id ∷ is state_word ∷ []) end ls → HasForm ls (state (level ls 0))
state_in (next {l = d} hd (next {l = w} hw (done {ls} he))) = rw (word state_word w hw, ended ls he) (is_state hd)

description_in_lem : {ls : List (List ℕ)} → Fits (is_id ∷ is description_word ∷ []) end ls → HasForm ls (description (level ls 0))
description_in_lem (next {l = d} hd (next {l = w} hw (done {ls} he))) = rw (word description_word w hw, ended ls he) (is_description hd)

value_in : {ls : List (List ℕ)} → Fits (is_id ∷ is_id ∷ is_id ∷ []) end ls → HasForm ls (value (level ls 0) (level ls 1) (level ls 2))
value_in (next hd (next hn (next hp (done {ls} he)))) = rw (ended ls he) (is_value hd hn hp)

set_in : {ls : List (List ℕ)} → Fits (is_id ∷ is_id ∷ is_id ∷ is set_word ∷ []) end ls → HasForm ls (set (level ls 0) (level ls 1) (level ls 2))
set_in (next hd (next hn (next hp (next {l = w} hw (done {ls} he))))) = rw (word set_word w hw, ended ls he) (is_set hd hn hp)

target_in : {ls : List (List ℕ)} → Fits (is_id ∷ is_id ∷ is_id ∷ is target_word ∷ []) end ls → HasForm ls (target (level ls 0) (level ls 1) (level ls 2))
target_in (next hd (next hn (next hp (next {l = w} hw (done {ls} he))))) = rw (word target_word w hw, ended ls he) (is_target hd hn hp)

alert_in : {ls : List (List ℕ)} → Fits (is_id ∷ is alert_word ∷ is_id ∷ []) end ls → HasForm ls (alert (level ls 0) (level ls 2))
alert_in (next hd (next {l = w} hw (next ha (done {ls} he)))) = rw (word alert_word w hw, ended ls he) (is_alert hd ha)

log_in : {ls : List (List ℕ)} → Fits (is_id ∷ is log_word ∷ one_of log_levels ∷ []) end ls → HasForm ls (log (level ls 0) (level ls 2))
log_in (next hd (next {l = w} hw (next hl (done {ls} he)))) = rw (word log_word w hw, ended ls he) (is_log hd hl)

broadcast_in : {ls : List (List ℕ)} → Fits (is broadcast_word ∷ is_id ∷ []) (each is_id) ls → HasForm ls (broadcast (drop 1 ls))
unfolding each
broadcast_in (next {l = w} hw (next {l = i} hi (done {ls} he))) =
    let h : each is_id (i ∷ ls) ≡ true = rw (hi, he) in
    rw (word broadcast_word w hw) (is_broadcast h)

other_in : {ls : List (List ℕ)} → Fits (is_id ∷ other_word ∷ []) (each filled) ls → HasForm ls (other (level ls 0) (drop 1 (level ls 1)) (drop 2 ls))
unfolding other_word dollar_id
other_in (next hd (next {l = []} hw (done hs))) = absurd (false≢true hw)
other_in (next hd (next {l = b ∷ w} hw (done hs))) =
    let p = and_both (eqb b dollar && is_id w) (not (one_of reserved (b ∷ w))) hw in
    let q = and_both (eqb b dollar) (is_id w) p.0 in
    let e = eqb-true b dollar q.0 in
    rw e (is_other hd q.1 (rw e at (not-true (one_of reserved (b ∷ w)) p.1)) hs)

-- a row fits, or the rows below it decide
when_cases : {X : Type 0} (b : Bool) (x : Form) (y : Answer Form) (f : Form) → (b ≡ true → x ≡ f → X) → (y ≡ gives f → X) → (when b give x else y) ≡ gives f → X
unfolding when◌give◌else◌
when_cases true x y f g h e = g refl (cc)
when_cases false x y f g h e = h e

pub sound : (ls : List (List ℕ)) (f : Form) → form_of ls ≡ gives f → HasForm ls f
unfolding form_of
sound ls f =
    when_cases _ _ _ f (λ p e. rw e at (state_in (fits-true _ _ ls p)))
    (when_cases _ _ _ f (λ p e. rw e at (description_in_lem (fits-true _ _ ls p)))
    (when_cases _ _ _ f (λ p e. rw e at (value_in (fits-true _ _ ls p)))
    (when_cases _ _ _ f (λ p e. rw e at (set_in (fits-true _ _ ls p)))
    (when_cases _ _ _ f (λ p e. rw e at (target_in (fits-true _ _ ls p)))
    (when_cases _ _ _ f (λ p e. rw e at (alert_in (fits-true _ _ ls p)))
    (when_cases _ _ _ f (λ p e. rw e at (log_in (fits-true _ _ ls p)))
    (when_cases _ _ _ f (λ p e. rw e at (broadcast_in (fits-true _ _ ls p)))
    (when_cases _ _ _ f (λ p e. rw e at (other_in (fits-true _ _ ls p)))
    (λ e. let z : ◌≡◌ {A = ℕ} 0 1 = cc in absurd (omega arith))))))))))
