-- What the contracts of private functions cite. No promise rests on it.
use Rattle.std.specs.Prelude.{ℕ, ◌+◌, ◌≡◌, ◌≤◌, ◌<◌, Bool, true, false, cond, List, [], ◌∷◌, leb, length, drop, Result, Ok, Err}
use Rattle.answer.specs.declared.Refused.{Refused}
use Rattle.text.specs.Split.{split}
use Rattle.text.specs.Ids.{is_id}
use Rattle.topic.specs.Words.{slash}
use Rattle.topic.specs.Topics.{fits, end}
use Rattle.topic.specs.declared.Topic.{Topic}
use Rattle.text.specs.Places.{bytes_at, Within}
use Rattle.text.specs.declared.Place.{Place}

-- the levels from a place on; past the end there are none
unfoldable pub levels_from : List ℕ → ℕ → List (List ℕ)
levels_from t at = cond (leb at (length t)) (split slash (drop at t)) []

-- the level behind a place begins there
abbrev pub Next : Place → ℕ → Type 0
Next p at = at ≡ p.end + 1

-- the place of an ID
pub record IdAt (t : List ℕ) (p : Place) : Type 0 where
  pub within : Within (length t) p
  pub id : is_id (bytes_at t p) ≡ true

-- the place of a level that is no ID
pub record WordAt (t : List ℕ) (p : Place) : Type 0 where
  pub within : Within (length t) p
  pub no_id : is_id (bytes_at t p) ≡ false

-- a form that no more levels may follow
abbrev pub Ended : List ℕ → ℕ → Topic → Result Topic Refused → Type 0
Ended t at form (Ok f) = (f ≡ form) × (length t < at)
Ended t at form (Err e) = (e ≡ Refused.NoForm) × (at ≤ length t)

-- the place of the level at a place, which is the last one and passes a test
pub record LastAt (passes : List ℕ → Bool) (t : List ℕ) (at : ℕ) (p : Place) : Type 0 where
  pub within : Within (length t) p
  pub ends : p.end ≡ length t
  pub levels : levels_from t at ≡ bytes_at t p ∷ []
  pub passed : passes (bytes_at t p) ≡ true

abbrev pub Last : (List ℕ → Bool) → List ℕ → ℕ → Result Place Refused → Type 0
Last passes t at (Ok p) = LastAt passes t at p
Last passes t at (Err e) = (e ≡ Refused.NoForm) × (fits (passes ∷ []) end (levels_from t at) ≡ false)
