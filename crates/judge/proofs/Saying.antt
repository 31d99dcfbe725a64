-- Answers as text.
use Rattle.faults.specs.declared.Fault.{Fault}
use Rattle.std.specs.Prelude.{None, Option, Some, Err, Ok, Result}
use Rattle.faults.specs.Faults.{fault_number}
use Prim.Native.Nat.{ℕ, ◌+◌}
use native.Mathlib.Nat.{add-sub_cancel_left}
use mathlib.Core.Path.{◌≡◌, refl}
use mathlib.Core.List.{List, ◌++◌}
use mathlib.Core.Bool.{Bool, true, false}
use lib.ListN.{take, drop}
use Rattle.answer.specs.declared.Refused.{Refused}
use Rattle.answer.specs.Refused.{number_of}
use Rattle.text.specs.Ascii.{ascii}
use Rattle.text.specs.Bytes.{slice}
use Rattle.lines.specs.Number.{decimal_text}
use Rattle.lines.specs.Hex.{hex_of}
use Rattle.lines.specs.Out.{Puts, Adds}
use Rattle.lines.proofs.Adding.{put-adds, adds_then}
use Rattle.text.specs.declared.Place.{Place}
use Rattle.topic.specs.declared.Topic.{Topic}
use Rattle.text.specs.Places.{bytes_at}
use Rattle.topic.specs.Meaning.{form_at}
use Rattle.trace.specs.declared.EventAt.{EventAt}
use Rattle.trace.specs.Calls.{shown, meaning_checked, meaning_written}
use Rattle.judge.specs.Texts.{yes_or_no, numbers_text, told, flag_text, also, three_ids, form_text, events_text, event_text, used_text}
use Rattle.judge.specs.Parts.{told_text}

-- the same text by another name
pub says : {d d' t u : List ℕ} {at r : ℕ} → t ≡ u → Adds d at t r d' → Adds d at u r d'
says e p = rw e at p

pub says_yes : (b : Bool) → b ≡ true → ascii "yes" ≡ yes_or_no b
unfolding yes_or_no
says_yes b e = rw e

pub says_no : (b : Bool) → b ≡ false → ascii "no" ≡ yes_or_no b
unfolding yes_or_no
says_no b e = rw e

pub says-one : (b : Bool) → b ≡ true → ascii " 1 " ≡ flag_text b
unfolding flag_text
says-one b e = rw e

pub says-zero : (b : Bool) → b ≡ false → ascii " 0 " ≡ flag_text b
unfolding flag_text
says-zero b e = rw e

-- what an answer says, case by case
module _ (topic : List ℕ) (t : Topic) where
  pub is_state : {d : Place} → t ≡ Topic.State d → ascii "state" ++ also (bytes_at topic d) ≡ form_text (form_at topic t)
  unfolding form_text form_at
  is_state e = rw e

  pub is-description : {d : Place} → t ≡ Topic.Description d → ascii "description" ++ also (bytes_at topic d) ≡ form_text (form_at topic t)
  unfolding form_text form_at
  is-description e = rw e

  pub is-value : {d n p : Place} → t ≡ Topic.Value d n p → ascii "value" ++ three_ids (bytes_at topic d) (bytes_at topic n) (bytes_at topic p) ≡ form_text (form_at topic t)
  unfolding form_text form_at
  is-value e = rw e

  pub is-set : {d n p : Place} → t ≡ Topic.Set d n p → ascii "set" ++ three_ids (bytes_at topic d) (bytes_at topic n) (bytes_at topic p) ≡ form_text (form_at topic t)
  unfolding form_text form_at
  is-set e = rw e

  pub is-target : {d n p : Place} → t ≡ Topic.Target d n p → ascii "target" ++ three_ids (bytes_at topic d) (bytes_at topic n) (bytes_at topic p) ≡ form_text (form_at topic t)
  unfolding form_text form_at
  is-target e = rw e

  pub is-alert : {d a : Place} → t ≡ Topic.Alert d a → ascii "alert" ++ (also (bytes_at topic d) ++ also (bytes_at topic a)) ≡ form_text (form_at topic t)
  unfolding form_text form_at
  is-alert e = rw e

  pub is-log : {d l : Place} → t ≡ Topic.Log d l → ascii "log" ++ also (bytes_at topic d) ≡ form_text (form_at topic t)
  unfolding form_text form_at
  is-log e = rw e

  pub is-broadcast : {ids : Place} → t ≡ Topic.Broadcast ids → ascii "broadcast" ≡ form_text (form_at topic t)
  unfolding form_text form_at
  is-broadcast e = rw e

  pub is-other : {d w ls : Place} → t ≡ Topic.Other d w ls → ascii "other" ++ also (bytes_at topic d) ≡ form_text (form_at topic t)
  unfolding form_text form_at
  is-other e = rw e

pub no-events : (c : Result ℕ Refused) {r : Refused} → c ≡ Err r → ascii "refused " ++ decimal_text (number_of r) ≡ told events_text (meaning_checked c)
unfolding told numbers_text meaning_checked
no-events c e = rw e

pub some-events : (c : Result ℕ Refused) {n : ℕ} → c ≡ Ok n → ascii "events " ++ decimal_text n ≡ told events_text (meaning_checked c)
unfolding told meaning_checked events_text
some-events c e = rw e

pub not_taken : (t : Option Fault) {x : Fault} {k : ℕ} → t ≡ Some x → k ≡ fault_number x.kind → ascii "refused " ++ (decimal_text k ++ (ascii " " ++ decimal_text x.place)) ≡ told_text t
unfolding told_text numbers_text
not_taken t e h = rw (e, h)

pub is-taken : (t : Option Fault) → t ≡ None → ascii "yes" ≡ told_text t
unfolding told_text
is-taken t e = rw e

pub not_used : (m : List ℕ) (w : Result ℕ Refused) {r : Refused} → w ≡ Err r → ascii "refused " ++ decimal_text (number_of r) ≡ told (used_text m) (meaning_written w)
unfolding told numbers_text meaning_written
not_used m w e = rw e

pub is_used : (m : List ℕ) (w : Result ℕ Refused) {n : ℕ} → w ≡ Ok n → ascii "used " ++ (decimal_text n ++ (ascii " " ++ hex_of m)) ≡ told (used_text m) (meaning_written w)
unfolding told meaning_written used_text
is_used m w e = rw e

-- a space and a word
pub adds-id : {d d' d'' t w : List ℕ} {at r r' : ℕ} → Puts d at (ascii " ") r d' → w ≡ t → Puts d' r w r' d'' → Adds d at (also t) r' d''
unfolding also
adds-id {d} {d'} {d''} {t} {w} {at} {r} {r'} p e q = adds_then (put-adds d at (ascii " ") p) (put-adds d' r t (rw e at q))

pub three_is : (x y z : List ℕ) → also x ++ (also y ++ also z) ≡ three_ids x y z
unfolding three_ids
three_is x y z = refl

-- an event
pub adds-event : (f : List ℕ) (e : EventAt) {d0 d1 d2 d3 d4 d5 t p : List ℕ} {r1 r2 r3 r4 r5 : ℕ}
    → Puts d0 0 (decimal_text e.time) r1 d1 → Puts d1 r1 (ascii " ") r2 d2 → t ≡ bytes_at f e.topic → Puts d2 r2 (hex_of t) r3 d3
    → Adds d3 r3 (flag_text e.retained) r4 d4 → p ≡ bytes_at f e.payload → Puts d4 r4 (hex_of p) r5 d5
    → Adds d0 0 (event_text (shown f e)) r5 d5
unfolding event_text shown
adds-event f e {d0} {d1} {d2} {d3} {d4} {d5} {t} {p} {r1} {r2} {r3} {r4} {r5} a b k c g l h =
    adds_then (put-adds d0 0 (decimal_text e.time) a)
    (adds_then (put-adds d1 r1 (ascii " ") b)
    (adds_then (put-adds d2 r2 (hex_of (bytes_at f e.topic)) (rw k at c))
    (adds_then g (put-adds d4 r4 (hex_of (bytes_at f e.payload)) (rw l at h)))))
