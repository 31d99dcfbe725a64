-- A message obeyed by one change, or refused.
use Rattle.faults.specs.declared.Fault.{Fault}
use Rattle.faults.specs.Faults.{fault_number}
use Rattle.std.specs.Prelude.{Option, None, Some, Result, Ok, Err}
use Prim.Native.Nat.{ℕ, ◌+◌, ◌≤◌, ◌<◌}
use native.Mathlib.Omega.{arith}
use mathlib.Core.Path.{◌≡◌, refl, sym, ap, ap₂, ◌∙◌, subst}
use mathlib.Core.List.{List, []}
use mathlib.Core.Bool.{Bool, true, false, false≢true}
use lib.ListN.{length, get_or, take, drop, length-drop}
use lib.Seq.{take_all}
use Rattle.answer.specs.Answer.{Refusal, Answer, refused, gives, and_then, placed}
use Rattle.answer.specs.Refused.{refusal_of}
use Rattle.answer.specs.declared.Refused.{Refused}
use Rattle.topic.specs.Form.{Form}
use Rattle.text.specs.Places.{bytes_at}
use Rattle.text.specs.declared.Place.{Place}
use Rattle.json_text.specs.Bytes.{ws}
use Rattle.description.specs.Description.{Described, describe, described_in}
use Rattle.description.specs.Meaning.{meaning}
use Rattle.description.proofs.Theorems as declared
use Rattle.description.specs.declared.Description.{Description}
use Rattle.memory.specs.Bytes.{remove_at, insert_at}
use Rattle.memory.specs.Layout.{room_size}
use Rattle.memory.specs.State.{room_of, state}
use Rattle.journal.specs.Contract.{change_of, Committed}
use Rattle.book.specs.Book.{message}
use Rattle.rules.specs.declared.DeviceState.{DeviceState}
use Rattle.rules.specs.declared.LaneKind.{LaneKind}
use Rattle.rules.specs.Table as table
use Rattle.rules.specs.Table.{Device, Table, with_lane, properties_of}
use Rattle.rules.specs.Handover.{republished}
use Rattle.rules.specs.Find.{in_device, change_at}
use Rattle.rules.specs.Messages as rule
use Rattle.rules.specs.Messages.{Message, held_by, new_device, with_state, with_description, redescribed, admitted_form, obey}
use Rattle.rules.specs.Questions.{Value, taken, at}
use Rattle.rules.proofs.Ranks.{at_some}
use Rattle.rules.specs.Rules.{outcome}
use Rattle.text.specs.Ids.{id_most}
use Rattle.device.specs.Layout.{described_at, lane_at, lane_size, payload_most}
use Rattle.lookup.specs.Meaning.{Sound, last_of, opening_of, means, devices_in}
use Rattle.lookup.specs.Contract.{Did, is_taken}
use Rattle.lookup.proofs.Edits as edit
use Rattle.lookup.proofs.Theorems.{left, took, device_at}
use Rattle.verdict.specs.declared.Verdict.{Verdict}
use Rattle.verdict.specs.declared.Verdict.TheVariants as verdict
use Rattle.verdict.specs.Verdict.{sent, makes, made, Verdicts, obeyed}
use Rattle.device.specs.Decode.{device_of}
use Rattle.device.specs.Meaning.{lane_number}
use Rattle.patch.specs.Makes.{Makes, LaneMakes, held_since}
use Rattle.patch.proofs.Theorems.{lane, lane_inside}
use Rattle.imprint.specs.Contract.{Imprinted}
use Rattle.imprint.proofs.Theorems as imprint
use Rattle.handover.specs.Contract.{HandedOver}
use Rattle.handover.proofs.Theorems as handover
use Rattle.table.specs.Parts.{Obeys, Carries, Fills, Creates, Describes, Patches, Writes}

-- "Every message taken becomes the last time"
abbrev since : ℕ → List Device → Table
since time ds = record { devices = ds; last = Some time }

module _ (domain : List ℕ) (d : ℕ) (t : Table) (x : Message) where
  again : (a : Answer Form) → and_then a (λ f. and_then (obey d x t.devices f) (λ ds. gives (since x.time ds))) ≡ and_then (and_then a (λ f. obey d x t.devices f)) (λ ds. gives (since x.time ds))
  unfolding and_then
  again (refused n) = refl
  again (gives f) = refl

  by-devices : rule.message domain d t x ≡ and_then (obeyed domain d t x) (λ ds. gives (since x.time ds))
  unfolding rule.message obeyed
  by-devices = again (admitted_form domain t x)

  pub taken_as : (ds : List Device) → obeyed domain d t x ≡ gives ds → rule.message domain d t x ≡ gives (since x.time ds)
  unfolding and_then
  taken_as ds e = by-devices ∙ ap (λ (a : Answer (List Device)). and_then a (λ l. gives (since x.time l))) e

  pub refused_as : (n : Refusal) → obeyed domain d t x ≡ refused n → rule.message domain d t x ≡ refused n
  unfolding and_then
  refused_as n e = by-devices ∙ ap (λ (a : Answer (List Device)). and_then a (λ l. gives (since x.time l))) e

-- ---- a refusal

pub refuses : (m : List ℕ) (x : Message) (n : Refusal) → Sound m → obeyed (opening_of m).domain (opening_of m).devices (means m).now x ≡ refused n → Did (message x) m m (refused n)
unfolding is_taken outcome
refuses m x n s e = left (message x) m (refused n) s (rw (refused_as (opening_of m).domain (opening_of m).devices (means m).now x n e)) refl

-- ---- a change

module _ (m : List ℕ) (from to n offset : ℕ) (bytes : List ℕ) (time : ℕ) (m' head : List ℕ) (r : Bool) (k : Committed m (change_of from to offset bytes head) m' r) (count : get_or head 0 0 ≡ n) (last : last_of head ≡ Some time) where
  pub wrote : r ≡ true → Writes m from to n offset bytes time m' (gives taken)
  wrote t s ds b x e q =
      took m m' (change_of from to offset bytes head) x (since x.time ds) s (subst (Committed m (change_of from to offset bytes head) m') t k)
      (taken_as (opening_of m).domain (opening_of m).devices (means m).now x ds q)
      ((b head count last).table ∙ ap (λ (i : ℕ). since i ds) (sym e))

  pub wrote-not : (o : Answer Value) → r ≡ false → Writes m from to n offset bytes time m' o
  wrote-not o t s ds b x e q = absurd (false≢true (sym t ∙ k.taken (b head count last).able))

module _ (m : List ℕ) (n : ℕ) (count : n ≡ length (devices_in m)) (bytes : List ℕ) (time : ℕ) (m' : List ℕ) (o : Answer Value) where
  pub patched : (rank offset : ℕ) → Writes m rank rank n offset bytes time m' o → Patches m rank offset bytes time m' o
  patched rank offset w s h i f k = w s (change_at rank f (devices_in m)) (λ head e l. record {
    able = edit.patch-able m s n count head time l rank offset bytes i e (omega arith);
    table = edit.patched m s n count head time l rank offset bytes i e (omega arith) f k.makes;
  })

  pub created : (rank : ℕ) (id : List ℕ) (t : DeviceState) → length bytes ≤ room_size → (length id ≤ id_most → Makes 0 bytes (λ _. new_device id t time)) → Writes m n rank (n + 1) 0 bytes time m' o → Creates m rank id t time m' o
  unfolding makes
  created rank id t z k w topic retained payload p q s j =
      let i = subst (λ (u : List ℕ). length u ≤ id_most) (sym q) j.fits.2 in
      w s (insert_at rank (new_device id t time) (devices_in m)) (λ head e l. record {
        able = edit.create-able m s n count head time l rank bytes z e (omega (arith, j.fits.0)) (omega (arith, j.fits.1));
        table = edit.created m s n count head time l rank bytes z e (omega (arith, j.fits.0)) (omega (arith, j.fits.1)) (new_device id t time) (k i).makes;
      }) (sent time topic retained payload) refl (sym j.says ∙ ap (λ (u : List ℕ). gives (insert_at rank (new_device u t time) (devices_in m))) (sym q))

module _ (m : List ℕ) (n : ℕ) (count : n ≡ length (devices_in m)) (time : ℕ) (m' : List ℕ) (o : Answer Value) where
  pub kept : Writes m 0 0 n 0 [] time m' o → Carries m time verdict.Time m' o
  unfolding makes
  kept w topic retained payload s j =
      w s (devices_in m) (λ head e l. record { able = edit.time-able m s n count head time l e; table = edit.timed m s n count head time l e })
      (sent time topic retained payload) refl (sym j.says)

  pub removed : (rank k : ℕ) → n ≡ k + 1 → Writes m rank k k 0 [] time m' o → Carries m time (verdict.Remove rank) m' o
  unfolding makes
  removed rank k p w topic retained payload s j = w s (remove_at rank (devices_in m)) (λ head e l. record {
    able = edit.remove-able m s n count head time l rank k e p (omega (arith, j.fits));
    table = edit.removed m s n count head time l rank k e p (omega (arith, j.fits));
  }) (sent time topic retained payload) refl (sym j.says)

pub removed-none : (m : List ℕ) (rank time : ℕ) (m' : List ℕ) (o : Answer Value) → 0 ≡ length (devices_in m) → Carries m time (verdict.Remove rank) m' o
removed-none m rank time m' o e topic retained payload s j = absurd (omega (arith, j.fits))

pub created-none : (m : List ℕ) (rank : ℕ) (id : List ℕ) (t : DeviceState) (time : ℕ) (m' : List ℕ) (o : Answer Value) → 255 ≡ length (devices_in m) → Creates m rank id t time m' o
created-none m rank id t time m' o e topic retained payload p q s j = absurd (omega (arith, edit.devices-most m, s.memory.header, j.fits.1))

-- ---- a device changed

module _ (m : List ℕ) (rank offset : ℕ) (bytes : List ℕ) (time : ℕ) (m' : List ℕ) (o : Answer Value) (w : Patches m rank offset bytes time m' o) where
  pub stated : (t : DeviceState) → offset + length bytes ≤ room_size → Makes offset bytes (with_state t time) → Carries m time (verdict.State rank t) m' o
  unfolding makes
  stated t i k topic retained payload s j = w s j.fits i (with_state t time) k (sent time topic retained payload) refl (sym j.says)

  pub undescribed : offset + length bytes ≤ room_size → Makes offset bytes (with_description None) → Carries m time (verdict.Undescribe rank) m' o
  unfolding makes
  undescribed i k topic retained payload s j = w s j.fits i (with_description None) k (sent time topic retained payload) refl (sym j.says)

  pub filled : (i : ℕ) (kind : LaneKind) (payload : List ℕ) → offset ≡ lane_at i (lane_number kind) → length bytes ≡ lane_size → LaneMakes bytes (held_since time (take payload_most payload)) → Fills m rank i kind payload time m' o
  unfolding makes held_since held_by
  filled i kind payload e l k topic retained s j =
      let f = in_device (change_at i (with_lane kind (held_since time payload))) in
      w s j.fits.0 (omega (arith, lane_inside i kind j.fits.1)) f (subst (λ (a : ℕ). Makes a bytes f) (sym e) ((lane bytes payload time j.fits.2 k).makes i kind j.fits.1))
      (sent time topic retained payload) refl (sym j.says)

-- ---- a description

module _ (m : List ℕ) (rank : ℕ) (id payload : List ℕ) (time : ℕ) (d : Description) (e : meaning payload d ≡ describe id payload) where
  abbrev new : Option table.Description → Answer (List Device)
  new y = gives (change_at rank (with_description y) (devices_in m))

  -- what the rules make of the devices, by the device that is there
  by_device : (x : Message) (p : Place) (v : Device) → x.payload ≡ payload → id ≡ bytes_at x.topic p → at rank (devices_in m) ≡ gives v → Verdicts m x (Ok (verdict.Describe rank p))
      → obeyed (opening_of m).domain (opening_of m).devices (means m).now x ≡ and_then (redescribed id v.description payload) new
  unfolding makes and_then
  by_device x p v z q g j =
      sym j.says
      ∙ ap (λ (a : Answer Device). and_then a (λ w. and_then (redescribed (bytes_at x.topic p) w.description x.payload) new)) g
      ∙ ap₂ (λ (u s : List ℕ). and_then (redescribed u v.description s) new) (sym q) z

  -- and by what the description is
  by-description : (x : Message) (p : Place) (v : Device) (a : Answer Described) → x.payload ≡ payload → id ≡ bytes_at x.topic p → at rank (devices_in m) ≡ gives v → describe id payload ≡ a
      → Verdicts m x (Ok (verdict.Describe rank p)) → obeyed (opening_of m).domain (opening_of m).devices (means m).now x ≡ and_then (and_then a (λ y. gives (Some (republished (properties_of v.description) y)))) new
  unfolding redescribed
  by-description x p v a z q g i j = by_device x p v z q g j ∙ ap (λ (b : Answer Described). and_then (and_then b (λ y. gives (Some (republished (properties_of v.description) y)))) new) i

  -- the device of the rank is what its room means
  there : (room : List ℕ) → room ≡ room_of (state m).now rank → rank < length (devices_in m) → at rank (devices_in m) ≡ gives (device_of room)
  there room r h = at_some rank (devices_in m) (device_of room) h ∙ ap gives (device_at m rank (device_of room) h ∙ ap device_of (sym r))

  pub described-not : (x : Fault) → d.told ≡ Some x → Describes m rank id payload time m (refused (placed (fault_number x.kind) x.place))
  unfolding and_then
  described-not y f topic retained p q s j =
      let x = sent time topic retained payload in
      refuses m x (placed (fault_number y.kind) y.place) s (by-description x p _ (refused (placed (fault_number y.kind) y.place)) refl q (there (room_of (state m).now rank) refl j.fits) (declared.not_taken id payload d e f) j)

  pub described : d.told ≡ None → (image : List ℕ) → length image ≡ room_size → Imprinted payload d image
      → (room image' : List ℕ) → room ≡ room_of (state m).now rank → HandedOver image room image' → (m' : List ℕ) (o : Answer Value)
      → (n : ℕ) → Patches m rank described_at (take n (drop described_at image')) time m' o → length image' ≤ n + described_at → Describes m rank id payload time m' o
  unfolding and_then
  described t image l k room image' r h m' o n w b topic retained p q s j =
      let u = subst (λ (u : List ℕ). Patches m rank described_at u time m' o) (take_all n (drop described_at image') (omega (arith, length-drop described_at image'))) w in
      let x = sent time topic retained payload in
      let y = described_in payload (ws payload 0) in
      let g = declared.taken id payload d e t in
      u s j.fits (omega (arith, h.long, length-drop described_at image')) (with_description (Some (republished (properties_of (device_of room).description) y)))
      (handover.makes image l room image' h y (imprint.makes id payload image d y e g k)) x refl
      (by-description x p (device_of room) (gives y) refl q (there room r j.fits) g j)

-- ---- the verdict on a message

module _ (m : List ℕ) (x : Message) (v : Result Verdict Refused) (s : Sound m) (j : Verdicts m x v) where
  pub carried : (m' : List ℕ) (o : Answer Value) (u w : Verdict) → v ≡ Ok u → u ≡ w → Obeys m x w m' o → Did (message x) m m' o
  carried m' o u w e q h = h s (subst (Verdicts m x) (e ∙ ap Ok q) j)

  pub not_carried : (r : Refused) → v ≡ Err r → Did (message x) m m (refused (refusal_of r))
  not_carried r e = refuses m x (refusal_of r) s (sym j.says ∙ ap (made x (devices_in m)) e)
