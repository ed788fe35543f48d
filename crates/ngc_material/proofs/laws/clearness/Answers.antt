use Rattle.ngc_material.proofs.Deepest.{clear_none, none_clear}
use Rattle.ngc_material.proofs.laws.clearness.Goals as goal

pub returns : goal.returns
returns c s t a b heights = (none_clear s t a b heights, clear_none s t a b heights)
