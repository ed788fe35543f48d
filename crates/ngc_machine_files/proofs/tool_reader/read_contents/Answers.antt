use Rattle.std.specs.Prelude.{codes}
use Rattle.ngc_machine_files.proofs.BlankFiles.{read-blank}
use Rattle.ngc_machine_files.proofs.tool_reader.read_contents.Goals as goal

pub returns-in-Some-clause-blank : goal.returns-in-Some-clause-blank
returns-in-Some-clause-blank c =
    let same = rw c.in-Some.is at c.in_ok-tree.ensures.tree in
    read-blank _ _ _ (codes "tool") same c.read.ensures.memory
