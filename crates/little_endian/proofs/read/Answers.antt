use Rattle.std.proofs.Common.{arith, ◌≡◌, ◌+◌, ◌-◌, take, drop, ap, ◌∙◌}
use Rattle.little_endian.specs.Bytes.{num}
use Rattle.little_endian.proofs.Numbers.{padded, num_lt}
use Rattle.little_endian.proofs.read.Goals as goal

pub returns : goal.returns
returns g c =
    let a = c.args in
    let w = g.row.W in
    let k : a.at + w - a.at ≡ w = omega arith in
    let b : c.copy_from_slice.new.self ≡ take w (drop a.at a.s.now) = c.copy_from_slice.ensures.after ∙ ap (λ n. take n (drop a.at a.s.now)) k in
    let e : c.from_le_bytes.result ≡ num w a.at a.s.now = padded w a.at a.s.now c.copy_from_slice.new.self _ (omega arith) (omega arith) b c.from_le_bytes.ensures in
    (e, rw e (num_lt w a.at a.s.now (λ i. omega (arith, c.type_inv.s i))))
