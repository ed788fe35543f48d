use Rattle.std.proofs.Common.{ap, sym, ◌∙◌, Some}
use Rattle.toml.proofs.Views.{view-Table}
use Rattle.ngc_machine_files.proofs.Trees.{tree_of-parsed, tree_of-refused}
use Rattle.ngc_refused_files.proofs.stop.read_document.Goals as goal

pub returns-in-Ok-clause-tree : goal.returns-in-Ok-clause-tree
returns-in-Ok-clause-tree c = tree_of-parsed c.args.bytes.now _ c.in-Ok.ensures.ok.0 c.in-Ok.ensures.ok.1 ∙ ap Some (sym (view-Table _))

pub returns-in-Err-clause-refused : goal.returns-in-Err-clause-refused
returns-in-Err-clause-refused c = λ other. tree_of-refused c.args.bytes.now (c.in-Err.ensures.refused other)
