use Rattle.std.proofs.Common.{◌∙◌}
use Rattle.ngc_machine_files.proofs.Trees.{has_only-keys}
use Rattle.ngc_machine_files.proofs.tree.has_only.Goals as goal

pub returns-in-Some : goal.returns-in-Some
returns-in-Some c = c.are_known.ensures ∙ has_only-keys _ _ c.in-Some.table.now.entries c.in-Some.ensures
