use Rattle.ngc_certificate.proofs.WideSums.{narrow_kept}
use Rattle.ngc_certificate.proofs.derived.lowest_needed.Goals as goal

pub returns-clause-narrow : goal.returns-clause-narrow
returns-clause-narrow c on_line = record {
  x = narrow_kept c.first_needed.result (c.first_needed.ensures.narrow on_line);
  y = narrow_kept c.first_needed-2.result (c.first_needed-2.ensures.narrow on_line);
  z = narrow_kept c.first_needed-3.result (c.first_needed-3.ensures.narrow on_line);
}
