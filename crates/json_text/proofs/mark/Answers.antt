use mathlib.Core.Path.{sym, ◌∙◌}
use Rattle.json_text.proofs.Scans.{raised}
use Rattle.json_text.proofs.Values.{document-bad, document-whole, document-more}
use Rattle.json_text.proofs.Ends.{marked-kept}
use Rattle.json_text.proofs.mark.Goals as goal

pub returns-in_err-e : goal.returns-in_err-e
returns-in_err-e c =
    record { is = raised _ c.from_residual.ensures.1 ∙ document-bad _ _ c.skip.ensures.is _ (sym c.in_err-e.ensures.0.is); table = marked-kept c.clear.ensures c.mark_value.ensures.1 }

pub returns-then-j-s : goal.returns-then-j-s
returns-then-j-s c =
    record { is = document-whole _ _ c.skip.ensures.is _ _ (sym c.in_ok-e.ensures.0.is) c.skip-j.ensures.is c.if-j-s.true; table = marked-kept c.clear.ensures c.mark_value.ensures.1 }

pub returns-else-j-s : goal.returns-else-j-s
returns-else-j-s c =
    record { is = document-more _ _ c.skip.ensures.is _ _ (sym c.in_ok-e.ensures.0.is) c.skip-j.ensures.is c.if-j-s.false; table = marked-kept c.clear.ensures c.mark_value.ensures.1 }
