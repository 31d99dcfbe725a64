-- The tests of every message, 7 to 11, and the forms.
use Rattle.std.specs.Prelude.{Result, Ok, Err}
use Rattle.answer.specs.declared.Refused.{Refused}
use Prim.Native.Nat.{ℕ, ◌≤◌}
use mathlib.Core.Path.{◌≡◌, sym, ap, ◌∙◌}
use mathlib.Core.List.{List}
use mathlib.Core.Bool.{Bool, true, false}
use lib.ListN.{length}
use Rattle.answer.specs.Answer.{Answer, gives, and_then}
use Rattle.answer.proofs.Theorems.{require-holds, require-fails}
use Rattle.text.specs.Ids.{is_id, id_most}
use Rattle.text.proofs.Ids.{is-id}
use Rattle.text.specs.Utf8.{is_text}
use Rattle.topic.specs.Form.{Form}
use Rattle.topic.specs.Topics.{read_topic}
use Rattle.topic.specs.Flags.{flag_of, admits}
use Rattle.text.specs.Places.{bytes_at}
use Rattle.topic.specs.Meaning.{form_at, meaning}
use Rattle.topic.specs.Writing.{valid}
use Rattle.topic.specs.declared.Topic.{Topic}
use Rattle.topic.specs.declared.Topic.TheVariants as shown
use Rattle.text.specs.declared.Place.{Place}
use Rattle.topic.specs.declared.Flag.{Flag}
use Rattle.topic.proofs.Theorems.{write_read}
use Rattle.rules.specs.declared.LaneKind.TheVariants.{Value, Target, Asked}
use Rattle.rules.specs.Table.{Table}
use Rattle.rules.specs.Messages.{Message, is_due, admitted_form, obey}
use Rattle.verdict.specs.declared.Verdict.{Verdict}
use Rattle.verdict.specs.declared.Verdict.TheVariants.{Time}
use Rattle.verdict.specs.Verdict.{sent, makes, Judged, obeyed}
use Rattle.verdict.specs.Parts.{unless, formed, Named, OnState, OnDescription, OnLane, OnKnown, OnForm}

-- ---- 10 and 11

module _ (retained : Bool) (payload : List ℕ) (f : Form) where
  pub no_text : is_text payload ≡ false → formed retained payload (gives f) ≡ unless (Err Refused.NotUtf8) (gives f)
  unfolding formed and_then unless
  no_text t = require-fails (is_text payload) 10 _ t

  module _ (t : is_text payload ≡ true) (flag : Flag) (asked : flag ≡ flag_of f) where
    pub wrong-flag : admits flag retained ≡ false → formed retained payload (gives f) ≡ unless (Err Refused.WrongFlag) (gives f)
    unfolding formed and_then unless
    wrong-flag k = require-holds (is_text payload) 10 _ t ∙ require-fails (admits (flag_of f) retained) 11 _ (ap (λ (g : Flag). admits g retained) (sym asked) ∙ k)

    pub right-flag : admits flag retained ≡ true → formed retained payload (gives f) ≡ unless (Ok tt) (gives f)
    unfolding formed and_then unless
    right-flag k = require-holds (is_text payload) 10 _ t ∙ require-holds (admits (flag_of f) retained) 11 _ (ap (λ (g : Flag). admits g retained) (sym asked) ∙ k)

-- ---- the whole order

module _ (domain : List ℕ) (d : ℕ) (t : Table) (x : Message) where
  pub early : is_due t.last x.time ≡ false → Judged d x t.devices (obeyed domain d t x) (Err Refused.Earlier)
  unfolding makes obeyed admitted_form and_then
  early e = record { says = rw (require-fails {A = Form} (is_due t.last x.time) 7 _ e); fits = tt }

  due : is_due t.last x.time ≡ true → obeyed domain d t x ≡ and_then (formed x.retained x.payload (read_topic domain x.topic)) (λ f. obey d x t.devices f)
  unfolding obeyed admitted_form formed
  due e = rw (require-holds {A = Form} (is_due t.last x.time) 7 _ e)

  -- a topic that was read so
  module _ (e : is_due t.last x.time ≡ true) (topic : Result Topic Refused) (read : meaning x.topic topic ≡ read_topic domain x.topic) where
    reached : {a : Answer Form} → meaning x.topic topic ≡ a → obeyed domain d t x ≡ and_then (formed x.retained x.payload a) (λ f. obey d x t.devices f)
    reached q = due e ∙ ap (λ (a : Answer Form). and_then (formed x.retained x.payload a) (λ f. obey d x t.devices f)) (sym read ∙ q)

    pub unread : (r : Refused) → topic ≡ Err r → Judged d x t.devices (obeyed domain d t x) (Err r)
    unfolding and_then formed
    unread r q = record { says = sym (reached (ap (meaning x.topic) q)); fits = tt }

    module _ (u : Topic) (q : topic ≡ Ok u) (n : Result Unit Refused) (says : formed x.retained x.payload (gives (form_at x.topic u)) ≡ unless n (gives (form_at x.topic u))) where
      tested : {m : Result Unit Refused} → n ≡ m → obeyed domain d t x ≡ and_then (unless m (gives (form_at x.topic u))) (λ f. obey d x t.devices f)
      tested p = reached (ap (meaning x.topic) q) ∙ ap (λ (a : Answer Form). and_then a (λ f. obey d x t.devices f)) (says ∙ ap (λ (m : Result Unit Refused). unless m (gives (form_at x.topic u))) p)

      pub refused_by : (r : Refused) → n ≡ Err r → Judged d x t.devices (obeyed domain d t x) (Err r)
      unfolding and_then unless
      refused_by r p = record { says = sym (tested p); fits = tt }

      pub by_form : (v : Result Verdict Refused) (w : Unit) → n ≡ Ok w → Judged d x t.devices (obey d x t.devices (form_at x.topic u)) v → Judged d x t.devices (obeyed domain d t x) v
      unfolding and_then unless
      by_form v w p j = record { says = j.says ∙ sym (tested p); fits = j.fits }

pub named : (domain s : List ℕ) (r : Result Topic Refused) (t : Topic) → r ≡ Ok t → meaning s r ≡ read_topic domain s → Named s t
named domain s r t q e = (write_read domain s (form_at s t) (sym e ∙ ap (meaning s) q)).1

-- ---- by form

id-short : (s : List ℕ) → is_id s ≡ true → length s ≤ id_most
id-short s e = (is-id s e).few

module _ (m topic : List ℕ) (t : Topic) (retained : Bool) (payload : List ℕ) where
  pub on-broadcast : (ids : Place) → t ≡ shown.Broadcast ids → OnForm m topic t retained payload (Ok Time)
  unfolding form_at and_then obey makes
  on-broadcast ids e = λ time named. record { says = rw e; fits = tt }

module _ (m topic : List ℕ) (t : Topic) (retained : Bool) (payload : List ℕ) (v : Result Verdict Refused) where
  pub on-state : (d : Place) → t ≡ shown.State d → OnState m topic d payload v → OnForm m topic t retained payload v
  unfolding form_at and_then obey valid
  on-state d e h = λ time named. rw e (h time retained (id-short (bytes_at topic d) (sym (ap (λ (s : Topic). valid (form_at topic s)) e) ∙ named)))

  pub on-description : (d : Place) → t ≡ shown.Description d → OnDescription m topic d payload v → OnForm m topic t retained payload v
  unfolding form_at and_then obey
  on-description d e h = λ time named. rw e (h time retained)

  module _ (d n p : Place) where
    pub on_value : t ≡ shown.Value d n p → OnLane m Value topic d n p retained payload v → OnForm m topic t retained payload v
    unfolding form_at and_then obey
    on_value e h = λ time named. rw e (h time)

    pub on-set : t ≡ shown.Set d n p → OnLane m Asked topic d n p retained payload v → OnForm m topic t retained payload v
    unfolding form_at and_then obey
    on-set e h = λ time named. rw e (h time)

    pub on-target : t ≡ shown.Target d n p → OnLane m Target topic d n p retained payload v → OnForm m topic t retained payload v
    unfolding form_at and_then obey
    on-target e h = λ time named. rw e (h time)

  pub on-alert : (d a : Place) → t ≡ shown.Alert d a → OnKnown m topic d v → OnForm m topic t retained payload v
  unfolding form_at and_then obey
  on-alert d a e h = λ time named. rw e (h (sent time topic retained payload))

  pub on-log : (d l : Place) → t ≡ shown.Log d l → OnKnown m topic d v → OnForm m topic t retained payload v
  unfolding form_at and_then obey
  on-log d l e h = λ time named. rw e (h (sent time topic retained payload))

  pub on-other : (d w ls : Place) → t ≡ shown.Other d w ls → OnKnown m topic d v → OnForm m topic t retained payload v
  unfolding form_at and_then obey
  on-other d w ls e h = λ time named. rw e (h (sent time topic retained payload))
