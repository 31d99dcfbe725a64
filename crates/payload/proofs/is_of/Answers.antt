use mathlib.Core.Path.{sym, ap, ◌∙◌}
use Rattle.text.proofs.Utf8.{utf8-answer}
use Rattle.payload.specs.declared.Datatype.{Datatype}
use Rattle.payload.specs.Payloads.{is_of}
use Rattle.payload.proofs.is_of.Goals as goal

pub returns-in-String : goal.returns-in-String
unfolding is_of
returns-in-String c = utf8-answer _ c.args.s.now c.is_utf8.ensures ∙ sym (ap (λ (d : Datatype). is_of d c.args.f.now c.args.s.now) c.in-String.is)
