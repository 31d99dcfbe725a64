use native.Mathlib.Omega.{arith}
use mathlib.Core.Path.{sym}
use Rattle.json_text.proofs.Scans.{told}
use Rattle.json_text.proofs.Strings.{raw-none, raw-some, two-quotes}
use Rattle.json_text.proofs.string.is_plain.Goals as goal

pub is_plain_between-requires : goal.is_plain_between-requires
is_plain_between-requires c =
    let w = told _ c.string.ensures c.in-Ok.is in
    let l = w.lies in
    let h = two-quotes c.args.s.now c.args.at _ (sym w.is) in
    (omega arith, omega arith)

pub returns-in-Err : goal.returns-in-Err
returns-in-Err c = raw-none _ _ c.string.ensures c.in-Err.is

pub returns-in-Ok : goal.returns-in-Ok
returns-in-Ok c = raw-some _ _ c.string.ensures c.in-Ok.is c.is_plain_between.ensures
