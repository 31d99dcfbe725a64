use Rattle.std.proofs.Common.{arith, ◌≡◌, ◌+◌, ◌-◌, take, ap, ◌∙◌}
use Rattle.little_endian.specs.Bytes.{le_bytes}
use Rattle.little_endian.proofs.Numbers.{first-bytes, length-le_bytes}
use Rattle.little_endian.proofs.Put.{put-over}
use Rattle.little_endian.proofs.write.Goals as goal

pub returns : goal.returns
returns g c =
    let a = c.args in
    let w = g.row.W in
    let k : w ≡ a.at + w - a.at = omega arith in
    let b : c.copy_from_slice.new.self ≡ le_bytes w a.x = c.copy_from_slice.ensures.after ∙ ap (take w) c.to_le_bytes-bytes.ensures ∙ first-bytes w a.x (omega arith) in
    put-over a.d.now _ (le_bytes w a.x) a.at _ (length-le_bytes w a.x ∙ k) b
