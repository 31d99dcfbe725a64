use Rattle.std.specs.Prelude.{None}
use Prim.Native.Nat.{◌-◌}
use lib.ListN.{length}
use mathlib.Core.Path.{◌≡◌}
use Rattle.json_text.specs.Ends.{Ends}
use Rattle.escapes.specs.Decode.{whole}
use Rattle.fields.specs.Values.{decoded_at, string_bytes}
use Rattle.fields.specs.Fields.{field}
use Rattle.fields.specs.Known.{IsMember}
use Rattle.fields.proofs.Fields.{Looking}
use Rattle.fields.proofs.first_named.Given as goal

abbrev pub invariant-loop-i : goal.invariant-loop-i
invariant-loop-i l = Ends l.s l.ends → decoded_at l.s l.own ≡ whole (string_bytes l.s l.own) → IsMember l.s l.own l.value → Looking l.s (string_bytes l.s l.own) None l.i (field l.s l.at (string_bytes l.s l.own))

abbrev pub decreases-loop-i : goal.decreases-loop-i
decreases-loop-i l = length l.s - l.i
