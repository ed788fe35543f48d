use Rattle.ngc_certificate.proofs.WideSums.{narrow_kept}
use Rattle.ngc_certificate.proofs.derived.highest_needed.Goals as goal

pub returns-clause-narrow : goal.returns-clause-narrow
returns-clause-narrow c on_line = record {
  x = narrow_kept c.last_needed.result (c.last_needed.ensures.narrow on_line);
  y = narrow_kept c.last_needed-2.result (c.last_needed-2.ensures.narrow on_line);
  z = narrow_kept c.last_needed-3.result (c.last_needed-3.ensures.narrow on_line);
}
