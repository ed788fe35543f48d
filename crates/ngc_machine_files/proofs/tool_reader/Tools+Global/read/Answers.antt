use Rattle.ngc_machine_files.proofs.BlankFiles.{table-blank}
use Rattle.ngc_machine_files.proofs.tool_reader.Tools+Global.read.Goals as goal

pub returns-clause-blank : goal.returns-clause-blank
returns-clause-blank c =
    let same = rw c.in-Ok-Some.field-0-is at c.in-Ok-Some.ensures.contents in
    λ blank. let none = table-blank _ blank in cc
