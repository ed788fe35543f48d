use Rattle.std.proofs.Common.{ap, sym, ◌∙◌, Some, rules}
use Rattle.toml.proofs.Views.{view-Table}
use Rattle.ngc_machine_files.proofs.Trees.{tree_of-parsed, tree_of-refused}
use Rattle.ngc_machine_files.proofs.tree.read_tree.Goals as goal

pub returns-in-Ok-clause-tree : goal.returns-in-Ok-clause-tree
returns-in-Ok-clause-tree c = ap Some (view-Table _) ∙ sym (tree_of-parsed c.args.bytes.now _ c.in-Ok.ensures.ok.0 c.in-Ok.ensures.ok.1)

pub returns-in-Err-2-clause-tree : goal.returns-in-Err-2-clause-tree
returns-in-Err-2-clause-tree c = sym (tree_of-refused c.args.bytes.now (c.in-Err.ensures.refused (search rules)))
