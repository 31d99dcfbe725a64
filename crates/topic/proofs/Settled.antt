-- What an answer says settles the places that it shows.
use Rattle.std.specs.Prelude.{Result, Ok, Err, IfOk}
use Rattle.answer.specs.declared.Refused.{Refused}
use Rattle.answer.proofs.Settled.{refused_as, is_refused}
use Prim.Native.Nat.{ℕ, ◌+◌, ◌-◌}
use native.Mathlib.Omega.{arith}
use mathlib.Core.Path.{◌≡◌, refl, sym, ap, ap₂, ◌∙◌}
use mathlib.Core.List.{List, [], ◌∷◌}
use lib.ListN.{length}
use Rattle.answer.specs.Answer.{Answer, refused, gives}
use Rattle.text.specs.Split.{join_by}
use Rattle.text.proofs.Joins.{splits}
use Rattle.topic.specs.Words.{slash}
use Rattle.topic.specs.Form.{Form, state, description, value, set, target, alert, log, broadcast, other}
use Rattle.text.specs.declared.Place.{Place}
use Rattle.text.specs.Places.{bytes_at, Within}
use Rattle.topic.specs.declared.Topic.{Topic}
use Rattle.topic.specs.declared.Topic.TheVariants.{State, Description, Value, Set, Target, Alert, Log, Broadcast, Other}
use Rattle.topic.specs.Meaning.{levels_in, form_at, meaning, Inside, Stands, Shows}
use Rattle.text.proofs.Slices.{slice-length}

-- n bytes from a place on, and up to a place
abbrev from : ℕ → ℕ → Place
from at n = record { start = at; end = at + n }

abbrev up_to : ℕ → ℕ → Place
up_to end n = record { start = end - n; end = end }

-- the bytes of levels
unfoldable joined : List (List ℕ) → List ℕ
joined [] = []
joined (l ∷ ls) = join_by slash l ls

joined_in : (s : List ℕ) → joined (levels_in s) ≡ s
unfolding joined levels_in
joined_in [] = refl
joined_in (b ∷ s) = let p = splits slash (b ∷ s) in ap joined p.parts ∙ p.whole

-- the answer that says x of a topic that ends at n
unfoldable shown_form : ℕ → ℕ → Form → Topic
shown_form at n (state d) = State (from at (length d))
shown_form at n (description d) = Description (from at (length d))
shown_form at n (value d e p) = Value (from at (length d)) (from (at + length d + 1) (length e)) (from (at + length d + 1 + length e + 1) (length p))
shown_form at n (set d e p) = Set (from at (length d)) (from (at + length d + 1) (length e)) (from (at + length d + 1 + length e + 1) (length p))
shown_form at n (target d e p) = Target (from at (length d)) (from (at + length d + 1) (length e)) (from (at + length d + 1 + length e + 1) (length p))
shown_form at n (alert d a) = Alert (from at (length d)) (up_to n (length a))
shown_form at n (log d l) = Log (from at (length d)) (up_to n (length l))
shown_form at n (broadcast ids) = Broadcast (up_to n (length (joined ids)))
shown_form at n (other d w ls) = Other (from at (length d)) (from (at + length d + 2) (length w)) (up_to n (length (joined ls)))

unfoldable shown_of : ℕ → ℕ → Answer Form → Result Topic Refused
shown_of at n (refused k) = Err (refused_as k)
shown_of at n (gives f) = Ok (shown_form at n f)

module _ (t : List ℕ) (p : Place) (w : Within (length t) p) where
  width : length (bytes_at t p) ≡ p.end - p.start
  width = slice-length t p.start p.end w.ordered w.inside

  ends : {at : ℕ} → p.start ≡ at → p.end ≡ at + length (bytes_at t p)
  ends e = omega (arith, e, width, w.ordered)

  is_from : {at : ℕ} → p.start ≡ at → p ≡ from at (length (bytes_at t p))
  is_from e = ap₂ (λ (s f : ℕ). record { start = s; end = f }) e (ends e)

  is-up_to : {n : ℕ} → p.end ≡ n → p ≡ up_to n (length (bytes_at t p))
  is-up_to e = ap₂ (λ (s f : ℕ). record { start = s; end = f }) (omega (arith, e, width, w.ordered)) e

  -- the levels at a place that ends with the topic
  is-rest : {n : ℕ} → p.end ≡ n → p ≡ up_to n (length (joined (levels_in (bytes_at t p))))
  is-rest {n} e = is-up_to e ∙ ap (λ (s : List ℕ). up_to n (length s)) (sym (joined_in (bytes_at t p)))

module _ (t : List ℕ) (at : ℕ) where
  -- a device, a node and a property, one behind the other
  three : {A : Type 0} (f : Place → Place → Place → A) (d e p : Place) → Within (length t) d → Within (length t) e → Within (length t) p
      → d.start ≡ at → e.start ≡ d.end + 1 → p.start ≡ e.end + 1
      → f d e p ≡ f (from at (length (bytes_at t d))) (from (at + length (bytes_at t d) + 1) (length (bytes_at t e))) (from (at + length (bytes_at t d) + 1 + length (bytes_at t e) + 1) (length (bytes_at t p)))
  three f d e p i j k a b c =
      let b' : e.start ≡ at + length (bytes_at t d) + 1 = b ∙ ap (λ (n : ℕ). n + 1) (ends t d i a) in
      let c' : p.start ≡ at + length (bytes_at t d) + 1 + length (bytes_at t e) + 1 = c ∙ ap (λ (n : ℕ). n + 1) (ends t e j b') in
      ap (λ (x : Place). f x e p) (is_from t d i a) ∙ ap₂ (λ (y z : Place). f (from at (length (bytes_at t d))) y z) (is_from t e j b') (is_from t p k c')

  is-shown : (r : Topic) → Inside (length t) r → Stands at (length t) r → r ≡ shown_form at (length t) (form_at t r)
  unfolding form_at shown_form
  is-shown (State d) i s = ap State (is_from t d i s)
  is-shown (Description d) i s = ap Description (is_from t d i s)
  is-shown (Value d e p) i s = three Value d e p i.0 i.1 i.2 s.0 s.1 s.2
  is-shown (Set d e p) i s = three Set d e p i.0 i.1 i.2 s.0 s.1 s.2
  is-shown (Target d e p) i s = three Target d e p i.0 i.1 i.2 s.0 s.1 s.2
  is-shown (Alert d a) i s = ap₂ Alert (is_from t d i.0 s.0) (is-up_to t a i.1 s.1)
  is-shown (Log d l) i s = ap₂ Log (is_from t d i.0 s.0) (is-up_to t l i.1 s.1)
  is-shown (Broadcast ids) i s = ap Broadcast (is-rest t ids i s)
  is-shown (Other d w ls) i s =
      let b : w.start ≡ at + length (bytes_at t d) + 2 = s.1 ∙ ap (λ (n : ℕ). n + 2) (ends t d i.0 s.0) in
      ap (λ (x : Place). Other x w ls) (is_from t d i.0 s.0) ∙ ap₂ (λ (y z : Place). Other (from at (length (bytes_at t d))) y z) (is_from t w i.1 b) (is-rest t ls i.2 s.2)

  is-answer : (r : Result Topic Refused) → IfOk r (Inside (length t)) → IfOk r (Stands at (length t)) → r ≡ shown_of at (length t) (meaning t r)
  unfolding shown_of
  is-answer (Ok r) i s = ap Ok (is-shown r i s)
  is-answer (Err r) i s = ap Err (is_refused r)

pub shows-settled : (t : List ℕ) (at : ℕ) (x : Answer Form) (r r' : Result Topic Refused) → Shows t at x r → Shows t at x r' → r ≡ r'
shows-settled t at x r r' h h' =
    is-answer t at r h.places h.stand ∙ ap (shown_of at (length t)) (h.says ∙ sym h'.says) ∙ sym (is-answer t at r' h'.places h'.stand)
