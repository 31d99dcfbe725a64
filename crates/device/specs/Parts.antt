-- What only the private functions promise.
use Rattle.std.specs.Prelude.{ℕ, ◌+◌, ◌*◌, ◌^◌, ◌<◌, ◌≡◌, List, [], ◌∷◌, true, false, cond, get_or, Option, None}
use Rattle.rules.specs.Table as table
use Rattle.rules.specs.Questions.{is_filled}
use Rattle.device.specs.declared.Lane.{Lane}
use Rattle.text.specs.Ids.{id_most}
use Rattle.device.specs.Layout.{described_at, lanes_at, lane_size}
use Rattle.device.specs.Decode.{is_set, held_at, optional_at}
use Rattle.device.specs.Meaning.{LaneIn}

-- an ID of the description, where there is one
unfoldable pub described_text : List ℕ → ℕ → Option (List ℕ)
described_text r at = elim (is_set r described_at) [ true ↦ optional_at r at id_most | false ↦ None ]

-- the three lanes of the record at a place
pub record LanesAt (room : List ℕ) (a : ℕ) (l : List (Option Lane)) : Type 0 where
  pub value : LaneIn room (held_at room (a + lanes_at)) (get_or l 0 None)
  pub target : LaneIn room (held_at room (a + (lanes_at + lane_size))) (get_or l 1 None)
  pub asked : LaneIn room (held_at room (a + (lanes_at + (lane_size + lane_size)))) (get_or l 2 None)

-- "A 24-bit word with one bit per filled value lane": the first property's is the lowest
unfoldable pub word_of : List table.Property → ℕ
word_of [] = 0
word_of (p ∷ ps) = cond (is_filled p.value) 1 0 + 2 * word_of ps

pub record ValueWord (ps : List table.Property) (w : ℕ) : Type 0 where
  pub word : w ≡ word_of ps
  pub small : w < 2 ^ 24
