use Rattle.ngc_machine_files.proofs.BlankFiles.{machine-blank}
use Rattle.ngc_machine_files.proofs.machine_reader.Machine+Global.read.Goals as goal

pub returns-clause-blank : goal.returns-clause-blank
returns-clause-blank c =
    let same = rw c.in-Ok-Some.field-0-is at c.in-Ok-Some.ensures.contents in
    λ blank. let none = machine-blank _ blank in cc
