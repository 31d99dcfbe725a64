use native.Mathlib.Omega.{arith}
use Rattle.json_text.proofs.Strings.{plain_yes}
use Rattle.json_text.proofs.string.stands_unbranched.Goals as goal

pub returns : goal.returns
returns c = plain_yes c.args.b (omega (arith, c.well_formed.0))
