-- What the rules of the table promise. Paper 01, "The table", "Refusal numbers", "Easy errors".
use Rattle.std.specs.Prelude.{Option, None, Some}
use Prim.Native.Nat.{ℕ, suc}
use native.Mathlib.Omega.{arith}
use mathlib.Core.Path.{◌≡◌, refl, ap, ◌∙◌}
use mathlib.Core.List.{List, [], map}
use mathlib.Core.Bool.{true, false}
use lib.ListN.{length}
use Rattle.text.specs.Ascii.{ascii}
use Rattle.answer.specs.Answer.{refused, gives, only, Refusal}
use Rattle.topic.specs.Form as form
use Rattle.book.specs.Book as book
use Rattle.rules.specs.declared.DeviceState.{DeviceState}
use Rattle.rules.specs.declared.DeviceState.TheVariants.{Lost}
use Rattle.rules.specs.declared.LaneKind.TheVariants.{Value, Target, Asked}
use Rattle.rules.specs.States.{state_worded}
use Rattle.description.specs.Description.{Described, describe}
use Rattle.rules.specs.Table.{Property, Description, Device, Table, no_devices, root_of, new_description}
use Rattle.rules.specs.Find.{find, find_property, in_device}
use Rattle.rules.specs.Handover.{republished}
use Rattle.rules.specs.Messages.{Message, is_empty, with_description, described_by, held_by, obey, message}
use Rattle.rules.specs.Questions.{Question, ask_lane, a_lane, effective, reply}
use Rattle.rules.specs.Rules.{rules, outcome}
use Rattle.rules.specs.Promises.{Takes, ascends, have_ids, Invariant, NotBefore, updated, without, device_in, is_report, declared_in, settled, Proper, of_message, of_question}
use Rattle.rules.proofs.Answers.{Given, given}
use Rattle.rules.proofs.Refusals.{message-refused, reply-refused}
use Rattle.rules.proofs.Taken.{form-message, last-given, from_orderly, from-due}
use Rattle.rules.proofs.Handover.{again, settled_device, asked-again, kept_target, kept-value, found-retained, first-bare}
use Rattle.rules.proofs.Proper.{from-proper}
use Rattle.rules.proofs.Effects.{obey-others, obey_report, lane_forgotten, lane-others-asked, value-asked, value-target, state-made, state_removed, state_freed, state-lanes, description-changed, lane-filled}
use Rattle.rules.proofs.Effective.{no-root, root_lost_lem, root-not_lost}
use Rattle.rules.specs.Examples as examples
use Rattle.rules.proofs.Examples as computed

-- ---- every table

-- "the i-th by ascending ID bytes": after any list of messages the IDs of the devices strictly ascend, each is an ID, and they are at most D
pub orderly : (domain : List ℕ) (d : ℕ) (xs : List Message) → Invariant d (book.table_after (rules domain d) xs).devices
unfolding ascends have_ids
orderly domain d xs = from_orderly domain d no_devices xs (record { ascending = refl; few = omega arith; named = refl })

-- "the i-th property by node ID, then property ID": after any list of messages what a device declares is what a valid description may (at most 24
-- properties, strictly ascending, IDs, kept formats), and its lanes are empty or hold payloads that are valid for their property
pub proper : (domain : List ℕ) (d : ℕ) (xs : List Message) {id : List ℕ} {v : Device} {y : Description} → find id (book.table_after (rules domain d) xs).devices ≡ gives v → v.description ≡ Some y → Proper id y
proper domain d xs {id} {v} {y} e i = from-proper domain d no_devices xs refl id v y e i

-- "Every message taken becomes the last time"; the last time never falls
module _ (domain : List ℕ) (d : ℕ) where
  pub last-time : (t t' : Table) (x : Message) → message domain d t x ≡ gives t' → t'.last ≡ Some x.time
  last-time t t' x e = given (λ (u : Table). u.last ≡ Some x.time) (last-given domain d t x) e

  pub times-never_fall : (t : Table) (u : ℕ) (xs : List Message) → t.last ≡ Some u → NotBefore u (book.from (rules domain d) t xs)
  times-never_fall t u xs e = from-due domain d u t xs (record { time = u; last = e; due = omega arith })

  -- ---- what a taken message changes

  module _ {t t' : Table} {x : Message} where
    effect : {f : form.Form} (P : List Device → Type 0) → Takes domain d t x f t' → Given P (obey d x t.devices f) → P t'.devices
    effect {f} P h g = given (λ (u : Table). P u.devices) (form-message domain d t x P f h.formed g) h.taken

    -- "state: a state word makes or updates the device"
    pub state-word : {id : List ℕ} {s : DeviceState} → Takes domain d t x (form.state id) t' → state_worded x.payload ≡ Some s → find id t'.devices ≡ gives (updated id s x.time (find id t.devices))
    unfolding obey
    state-word {id} {s} h e = effect (λ ds. find id ds ≡ gives (updated id s x.time (find id t.devices))) h (state-made d x t.devices id s e)

    -- "empty payload removes it"
    pub state_empty : {id : List ℕ} → Takes domain d t x (form.state id) t' → Invariant d t.devices → is_empty x.payload ≡ true → find id t'.devices ≡ refused (only 12)
    unfolding obey
    state_empty {id} h o e = effect (λ ds. find id ds ≡ refused (only 12)) h (state_removed d x t.devices id o.ascending e)

    -- ".. and frees its room for any other": one device fewer is there
    pub state_frees : {id : List ℕ} → Takes domain d t x (form.state id) t' → is_empty x.payload ≡ true → suc (length t'.devices) ≡ length t.devices
    unfolding obey
    state_frees {id} h e = effect (λ ds. suc (length ds) ≡ length t.devices) h (state_freed d x t.devices id e)

    -- "description: replaces what the device has", but for the lanes that it hands on (paper 02, K2). "Empty payload removes the description and the lanes."
    pub described : {id : List ℕ} {v : Device} {y : Option Description} → Takes domain d t x (form.description id) t' → find id t.devices ≡ gives v → described_by id v.description x.payload ≡ gives y → find id t'.devices ≡ gives (with_description y v)
    unfolding obey
    described {id} {v} {y} h e g = effect (λ ds. find id ds ≡ gives (with_description y v)) h (description-changed d x t.devices id v y e g)

    -- paper 02, K2: "our picture goes blank while the house works" no more. A description published again as it is keeps every target and, of retained
    -- properties, every value; what was asked is gone, and so is the value of a property that is not retained
    module _ {id : List ℕ} {v : Device} {y : Description} (h : Takes domain d t x (form.description id) t') (e : find id t.devices ≡ gives v) (i : v.description ≡ Some y) (g : Proper id y)
        (filled : is_empty x.payload ≡ false) (same : describe id x.payload ≡ gives (declared_in y)) where
      pub republished-same : find id t'.devices ≡ gives (in_device (map settled) v)
      republished-same = described h e (again id v y i g x.payload filled same) ∙ ap gives (settled_device id v y i)

      pub republished_targets : (node property : List ℕ) → reply t' (ask_lane id node property Target) ≡ reply t (ask_lane id node property Target)
      unfolding reply
      republished_targets node property = asked-again Target id node property v y i t.devices t'.devices e republished-same (λ p k. kept_target p)

      pub republished-values : (node property : List ℕ) {p : Property} → find_property node property y.properties ≡ gives p → p.declared.retained ≡ true
          → reply t' (ask_lane id node property Value) ≡ reply t (ask_lane id node property Value)
      unfolding reply
      republished-values node property {p} f r = asked-again Value id node property v y i t.devices t'.devices e republished-same (λ q k. kept-value q (found-retained f k r))

    -- "value, target: fill that lane; empty payload empties it"; "set: fills asked"
    pub value_fills : {id n p : List ℕ} → Takes domain d t x (form.value id n p) t' → reply t' (ask_lane id n p Value) ≡ gives (a_lane (held_by x))
    unfolding obey reply
    value_fills {id} {n} {p} h = effect _ h (lane-filled d x t.devices id Value n p)

    pub target_fills : {id n p : List ℕ} → Takes domain d t x (form.target id n p) t' → reply t' (ask_lane id n p Target) ≡ gives (a_lane (held_by x))
    unfolding obey reply
    target_fills {id} {n} {p} h = effect _ h (lane-filled d x t.devices id Target n p)

    pub set_fills : {id n p : List ℕ} → Takes domain d t x (form.set id n p) t' → reply t' (ask_lane id n p Asked) ≡ gives (a_lane (held_by x))
    unfolding obey reply
    set_fills {id} {n} {p} h = effect _ h (lane-filled d x t.devices id Asked n p)

    -- ---- what it leaves

    -- ".. and nothing else": all that devices have but asked lanes is as it was
    pub set_alone : {id n p : List ℕ} → Takes domain d t x (form.set id n p) t' → without Asked t'.devices ≡ without Asked t.devices
    unfolding obey
    set_alone {id} {n} {p} h = effect (λ ds. without Asked ds ≡ without Asked t.devices) h (lane_forgotten Asked id n p x t.devices)

    pub target_alone : {id n p : List ℕ} → Takes domain d t x (form.target id n p) t' → without Target t'.devices ≡ without Target t.devices
    unfolding obey
    target_alone {id} {n} {p} h = effect (λ ds. without Target ds ≡ without Target t.devices) h (lane_forgotten Target id n p x t.devices)

    pub value_alone : {id n p : List ℕ} → Takes domain d t x (form.value id n p) t' → without Value t'.devices ≡ without Value t.devices
    unfolding obey
    value_alone {id} {n} {p} h = effect (λ ds. without Value ds ≡ without Value t.devices) h (lane_forgotten Value id n p x t.devices)

    -- "A set that changes the value lane": no set changes what any value lane is asked for
    pub set-keeps-values : {id n p : List ℕ} (a b c : List ℕ) → Takes domain d t x (form.set id n p) t' → reply t' (ask_lane a b c Value) ≡ reply t (ask_lane a b c Value)
    unfolding obey reply
    set-keeps-values {id} {n} {p} a b c h = effect _ h (lane-others-asked Value Asked value-asked x t.devices a b c id n p)

    -- "The device's own value message alone changes the value lane.": nor does a target, nor a state word, of any device that was there
    pub target-keeps-values : {id n p : List ℕ} (a b c : List ℕ) → Takes domain d t x (form.target id n p) t' → reply t' (ask_lane a b c Value) ≡ reply t (ask_lane a b c Value)
    unfolding obey reply
    target-keeps-values {id} {n} {p} a b c h = effect _ h (lane-others-asked Value Target value-target x t.devices a b c id n p)

    pub state-keeps-values : {id : List ℕ} {s : DeviceState} (a b c : List ℕ) {v : Device} → Takes domain d t x (form.state id) t' → state_worded x.payload ≡ Some s → find a t.devices ≡ gives v → reply t' (ask_lane a b c Value) ≡ reply t (ask_lane a b c Value)
    unfolding obey reply
    state-keeps-values {id} {s} a b c {v} h e f = effect _ h (state-lanes d x t.devices id s e a b c Value v f)

    -- a message leaves every device that its topic does not name
    pub others_stay : {f : form.Form} (other : List ℕ) → Takes domain d t x f t' → (device_in f ≡ Some other → ⊥) → find other t'.devices ≡ find other t.devices
    others_stay {f} other h n = effect (λ ds. find other ds ≡ find other t.devices) h (obey-others d x t.devices f other n)

    -- "A child's stored state overwritten when its root is lost": a state message leaves every other device as it was
    pub child-stays : {root : List ℕ} (child : List ℕ) → Takes domain d t x (form.state root) t' → (root ≡ child → ⊥) → find child t'.devices ≡ find child t.devices
    unfolding device_in
    child-stays {root} child h n = others_stay child h (λ e. let q : root ≡ child = cc in n q)

    -- "alert, log, broadcast, other: taken, lanes and devices unchanged."
    pub reports : {f : form.Form} → Takes domain d t x f t' → is_report f ≡ true → t'.devices ≡ t.devices
    reports {f} h e = effect (λ ds. ds ≡ t.devices) h (obey_report d x t.devices f e)

  -- ---- refusals

  -- "A refused message using up a step": a refused message changes neither what memory means nor the book
  pub refused-stays : (j : ℕ) (n : Refusal) (s : book.State Table) (x : Message) → message domain d s.now x ≡ refused n → book.become (rules domain d) j s (book.message x) ≡ s
  unfolding outcome
  refused-stays j n s x e = ap (λ a. book.moved (rules domain d) j s (outcome a)) e

  pub refused_unnoted : (j : ℕ) (n : Refusal) (b : book.Book (rules domain d)) (x : Message) → message domain d (book.table_after (rules domain d) b.standing) x ≡ refused n → book.after (rules domain d) j b (book.message x) ≡ b
  unfolding outcome
  refused_unnoted j n b x e = ap (λ a. book.noted (rules domain d) j b x (outcome a)) e

  -- a message is refused with a number from 7 to 17, or with what is told of a description
  pub message_numbers : (t : Table) (x : Message) (r : Refusal) → message domain d t x ≡ refused r → of_message r ≡ true
  message_numbers = message-refused domain d

-- "Questions: 6, 12, 16, 3 as they apply."
pub question_numbers : (t : Table) (q : Question) (r : Refusal) → reply t q ≡ refused r → of_question r ≡ true
question_numbers = reply-refused

-- a device that had no properties is handed nothing: all lanes are empty
pub described-first : (x : Described) → republished [] x ≡ new_description x
described-first = first-bare

-- ---- "Effective state: `lost` if the device has a root that is in the table with own state `lost`; else its own."

module _ (ds : List Device) (v : Device) where
  pub effective_lost : {root : List ℕ} {w : Device} → root_of v.description ≡ Some root → find root ds ≡ gives w → w.state ≡ Lost → effective ds v ≡ Lost
  effective_lost {root} {w} e f l = root_lost_lem ds v root e w f l

  -- a root that is not in the table, or whose own state is not lost, whatever the root's root: its own
  pub effective-one-root : {root : List ℕ} → root_of v.description ≡ Some root → ((w : Device) → find root ds ≡ gives w → w.state ≡ Lost → ⊥) → effective ds v ≡ v.state
  effective-one-root {root} e n = root-not_lost ds v root e n

  pub effective_no-root : root_of v.description ≡ None → effective ds v ≡ v.state
  effective_no-root e = no-root ds v e

-- The paper's worked trace is answered as it is written there.
pub worked_trace : book.answers (rules (ascii "homie") 4) 3 (book.blank (rules (ascii "homie") 4)) examples.calls ≡ examples.expected
worked_trace = computed.worked_trace
