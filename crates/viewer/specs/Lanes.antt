-- Lanes by number.
use Rattle.std.specs.Prelude.{ℕ, [], ◌∷◌, get_or}
use Rattle.rules.specs.declared.LaneKind.{LaneKind}
use Rattle.rules.specs.declared.LaneKind.TheVariants.{Value, Target, Asked}

-- "A property has three lanes: value, target, asked": from 0; a number past the last is the last
unfoldable pub kind_at : ℕ → LaneKind
kind_at n = get_or (Value ∷ Target ∷ []) n Asked
