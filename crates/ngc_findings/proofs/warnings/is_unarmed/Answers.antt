use Rattle.ngc_findings.proofs.warnings.is_unarmed.Goals as goal

pub returns-in-None : goal.returns-in-None
returns-in-None g c = rw (c.in-None.is, c.leaves.ensures, c.to_grid.ensures.value, c.reach.ensures)
