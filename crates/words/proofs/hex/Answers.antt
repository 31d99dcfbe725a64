use mathlib.Core.Path.{ap}
use Rattle.lines.specs.Hex.{hex_of}
use Rattle.words.proofs.Wording.{put_same}
use Rattle.words.proofs.hex.Goals as goal

pub returns : goal.returns
returns c = put_same (ap hex_of c.slice.ensures) c.encode.ensures
