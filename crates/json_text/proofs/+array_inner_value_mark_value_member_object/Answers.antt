use Rattle.json_text.proofs.Scans.{on-error, same_as}
use Rattle.json_text.proofs.Values.{value-array, value-object, value-deep-array, value-deep-object, value-quote, bare-opens}
use native.Mathlib.Omega.{arith}
use borrow.Author.Rules.{rules}
use mathlib.Core.Path.{refl, sym, ◌∙◌}
use Rattle.json_text.proofs.Bytes.{inside=}
use Rattle.json_text.proofs.Ends.{kept, kept_then, kept_less, noted-kept}
use Rattle.json_text.proofs.Items.{item-bad, item-more, item-shut, item_wrong, member_stops, member-goes, array-none, array-some, object-none, object-some}
use Rattle.json_text.proofs.+array_inner_value_mark_value_member_object.Goals as goal

pub array-returns-then-peek-eq93 : goal.array-returns-then-peek-eq93
array-returns-then-peek-eq93 t c =
    (array-none _ _ _ _ c.requires c.skip-i.ensures (sym c.peek.ensures ∙ c.if-peek-eq93.true), kept)

pub array-loop-v-init : goal.array-loop-v-init
array-loop-v-init t c =
    record { inv = array-some _ _ _ _ c.requires c.skip-i.ensures (λ q. c.if-peek-eq93.false (c.peek.ensures ∙ q)); kept = kept; size = refl }

pub array-returns-in_err-v : goal.array-returns-in_err-v
array-returns-in_err-v t c =
    (on-error c.from_residual.ensures.1 (item-bad c.loop-v.invariant.inv c.in_err-v.ensures.0), kept_then c.loop-v.invariant.kept c.inner_value.ensures.1)

pub array-loop-v-preserved : goal.array-loop-v-preserved
array-loop-v-preserved t c =
    record { inv = item-more c.loop-v.invariant.inv c.in_ok-v.ensures.0 c.skip-j.ensures (sym c.peek-in-loop-v.ensures ∙ c.in-44.is) c.skip-i-in-44.ensures; kept = kept_then c.loop-v.invariant.kept c.inner_value.ensures.1; size = search rules }

pub array-returns-in-93 : goal.array-returns-in-93
array-returns-in-93 t c =
    (item-shut c.loop-v.invariant.inv c.in_ok-v.ensures.0 c.skip-j.ensures (sym c.peek-in-loop-v.ensures ∙ c.in-93.is) (omega arith) (omega arith), kept_then c.loop-v.invariant.kept c.inner_value.ensures.1)

pub array-returns-in_default : goal.array-returns-in_default
array-returns-in_default t c =
    (item_wrong c.loop-v.invariant.inv c.in_ok-v.ensures.0 c.skip-j.ensures (λ q. c.in_default.in_default-own.rest.0.1 (c.peek-in-loop-v.ensures ∙ q)) (λ q. c.in_default.in_default-own.rest.1 (c.peek-in-loop-v.ensures ∙ q)), kept_then c.loop-v.invariant.kept c.inner_value.ensures.1)

pub inner_value-returns-then-b-eq34 : goal.inner_value-returns-then-b-eq34
inner_value-returns-then-b-eq34 t c =
    (same_as (value-quote _ _ _ (sym c.peek-b.ensures ∙ c.if-b-eq34.true)) c.mark_string.ensures.0, kept_less (omega arith) c.mark_string.ensures.1)

pub inner_value-leaf-requires : goal.inner_value-leaf-requires
inner_value-leaf-requires t c =
    bare-opens c.peek-b.ensures c.is_opening.ensures c.if-is_opening.false c.if-b-eq34.false

pub inner_value-returns : goal.inner_value-returns
inner_value-returns t c =
    (c.leaf.ensures.at-depth _, kept)

pub mark_value-returns-then-depth-eq0 : goal.mark_value-returns-then-depth-eq0
mark_value-returns-then-depth-eq0 t c =
    (record { is = value-deep-array _ _ _ (sym c.peek.ensures ∙ c.in-91.is) c.if-depth-eq0.true; lies = (omega arith, omega arith) }, kept)

pub mark_value-array-r-requires : goal.mark_value-array-r-requires
mark_value-array-r-requires t c =
    (omega arith, inside= c.args.s.now _ 91 (sym c.peek.ensures ∙ c.in-91.is) (omega arith))

pub mark_value-returns-then-depth-eq0-2 : goal.mark_value-returns-then-depth-eq0-2
mark_value-returns-then-depth-eq0-2 t c =
    (record { is = value-deep-object _ _ _ (sym c.peek.ensures ∙ c.in-123.is) c.if-depth-eq0-2.true; lies = (omega arith, omega arith) }, kept)

pub mark_value-object-r-requires : goal.mark_value-object-r-requires
mark_value-object-r-requires t c =
    (omega arith, inside= c.args.s.now _ 123 (sym c.peek.ensures ∙ c.in-123.is) (omega arith))

pub mark_value-returns-else-depth-eq0 : goal.mark_value-returns-else-depth-eq0
mark_value-returns-else-depth-eq0 t c =
    let w = same_as (value-array _ _ _ (sym c.peek.ensures ∙ c.in-91.is) c.if-depth-eq0.false) c.array-r.ensures.0 in (w, kept_then (kept_less (omega arith) c.array-r.ensures.1) (noted-kept (sym c.peek.ensures ∙ c.in-91.is) (omega arith) w c.note.ensures))

pub mark_value-returns-else-depth-eq0-2 : goal.mark_value-returns-else-depth-eq0-2
mark_value-returns-else-depth-eq0-2 t c =
    let w = same_as (value-object _ _ _ (sym c.peek.ensures ∙ c.in-123.is) c.if-depth-eq0-2.false) c.object-r.ensures.0 in (w, kept_then (kept_less (omega arith) c.object-r.ensures.1) (noted-kept (sym c.peek.ensures ∙ c.in-123.is) (omega arith) w c.note-in-123.ensures))

pub mark_value-returns-in-34 : goal.mark_value-returns-in-34
mark_value-returns-in-34 t c =
    (same_as (value-quote _ _ _ (sym c.peek.ensures ∙ c.in-34.is)) c.mark_string.ensures.0, kept_less (omega arith) c.mark_string.ensures.1)

pub mark_value-returns-in_default : goal.mark_value-returns-in_default
mark_value-returns-in_default t c =
    (c.leaf.ensures.at-depth _, kept)

pub member-returns-in_err-k : goal.member-returns-in_err-k
member-returns-in_err-k t c =
    (on-error c.from_residual.ensures.1 (member_stops _ _ _ _ c.in_err-k.ensures.0), kept_less (omega arith) c.mark_key.ensures.1)

pub member-returns : goal.member-returns
member-returns t c =
    (member-goes _ _ _ _ c.in_ok-k.ensures.0 c.inner_value.ensures.0, kept_then (kept_less (omega arith) c.mark_key.ensures.1) c.inner_value.ensures.1)

pub object-returns-then-peek-eq125 : goal.object-returns-then-peek-eq125
object-returns-then-peek-eq125 t c =
    (object-none _ _ _ _ c.requires c.skip-i.ensures (sym c.peek.ensures ∙ c.if-peek-eq125.true), kept)

pub object-loop-m-init : goal.object-loop-m-init
object-loop-m-init t c =
    record { inv = object-some _ _ _ _ c.requires c.skip-i.ensures (λ q. c.if-peek-eq125.false (c.peek.ensures ∙ q)); kept = kept; size = refl }

pub object-returns-in_err-m : goal.object-returns-in_err-m
object-returns-in_err-m t c =
    (on-error c.from_residual.ensures.1 (item-bad c.loop-m.invariant.inv c.in_err-m.ensures.0), kept_then c.loop-m.invariant.kept c.member.ensures.1)

pub object-loop-m-preserved : goal.object-loop-m-preserved
object-loop-m-preserved t c =
    record { inv = item-more c.loop-m.invariant.inv c.in_ok-m.ensures.0 c.skip-j.ensures (sym c.peek-in-loop-m.ensures ∙ c.in-44.is) c.skip-i-in-44.ensures; kept = kept_then c.loop-m.invariant.kept c.member.ensures.1; size = search rules }

pub object-returns-in-125 : goal.object-returns-in-125
object-returns-in-125 t c =
    (item-shut c.loop-m.invariant.inv c.in_ok-m.ensures.0 c.skip-j.ensures (sym c.peek-in-loop-m.ensures ∙ c.in-125.is) (omega arith) (omega arith), kept_then c.loop-m.invariant.kept c.member.ensures.1)

pub object-returns-in_default : goal.object-returns-in_default
object-returns-in_default t c =
    (item_wrong c.loop-m.invariant.inv c.in_ok-m.ensures.0 c.skip-j.ensures (λ q. c.in_default.in_default-own.rest.0.1 (c.peek-in-loop-m.ensures ∙ q)) (λ q. c.in_default.in_default-own.rest.1 (c.peek-in-loop-m.ensures ∙ q)), kept_then c.loop-m.invariant.kept c.member.ensures.1)
