use native.Mathlib.Omega.{arith}
use mathlib.Core.Path.{refl}
use Rattle.json_text.proofs.Scans.{on-error}
use Rattle.json_text.proofs.Strings.{string-not, string-inside, string-start, special-inside, string-shut, string-plain, string_stuck, string-bad, string_on}
use Rattle.json_text.proofs.Ends.{kept, kept_then, noted-string}
use Rattle.json_text.proofs.string.mark_string.Goals as goal

pub returns-then-peek-ne34 : goal.returns-then-peek-ne34
returns-then-peek-ne34 c = (string-not _ _ c.peek.ensures c.if-peek-ne34.true, kept)

pub overflow_add-i : goal.overflow_add-i
overflow_add-i c = let h = string-inside c.args.s.now _ c.peek.ensures c.if-peek-ne34.false in omega arith

pub loop-end-init : goal.loop-end-init
loop-end-init c = record { reading = string-start _ _ c.peek.ensures c.if-peek-ne34.false; kept = kept; size = refl }

pub returns-then-i-at : goal.returns-then-i-at
returns-then-i-at c = (string-shut c.loop-end.invariant.reading c.plain_run-j.ensures c.peek-in-loop-end.ensures c.in-34.is, c.loop-end.invariant.kept)

pub returns-in-34 : goal.returns-in-34
returns-in-34 c =
    let w = string-shut c.loop-end.invariant.reading c.plain_run-j.ensures c.peek-in-loop-end.ensures c.in-34.is in (w, kept_then c.loop-end.invariant.kept (noted-string (string-plain c.loop-end.invariant.reading c.plain_run-j.ensures c.peek-in-loop-end.ensures c.if-i-at.false c.in-34.is) w c.note.ensures))

pub escape-requires : goal.escape-requires
escape-requires c =
    let h = special-inside c.loop-end.invariant.reading c.plain_run-j.ensures c.peek-in-loop-end.ensures 92 c.in-92.is (omega arith) in omega arith

pub returns-in_err-i-in-92 : goal.returns-in_err-i-in-92
returns-in_err-i-in-92 c =
    (on-error c.from_residual.ensures.1 (string-bad c.loop-end.invariant.reading c.plain_run-j.ensures c.peek-in-loop-end.ensures c.in-92.is c.in_err-i-in-92.ensures), c.loop-end.invariant.kept)

pub loop-end-preserved : goal.loop-end-preserved
loop-end-preserved c =
    record { reading = string_on c.loop-end.invariant.reading c.plain_run-j.ensures c.peek-in-loop-end.ensures c.in-92.is c.in_ok-i-in-92.ensures; kept = c.loop-end.invariant.kept; size = c.loop-end.invariant.size }

pub returns-in_default : goal.returns-in_default
returns-in_default c =
    (string_stuck c.loop-end.invariant.reading c.plain_run-j.ensures c.peek-in-loop-end.ensures c.in_default.in_default-own.rest.0.1 c.in_default.in_default-own.rest.1, c.loop-end.invariant.kept)
