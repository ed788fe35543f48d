-- The faults found so far, with those of the rest, are the faults of the text.
use Rattle.std.proofs.Common.{◌≡◌, ◌-◌, ◌++◌, List, Some}
use Rattle.ngc_canonical.specs.Interpreter.{setup_of}
use Rattle.ngc_all_faults.specs.Faults.{AreFaults}
use Rattle.ngc_all_faults.specs.declared.text_fault.TextFault.{TextFault}
use Rattle.ngc_all_faults.proofs.search.faults_of.Given as goal

abbrev pub invariant-loop-round : goal.invariant-loop-round
invariant-loop-round g l =
    (fs : List TextFault) → AreFaults (setup_of l.machine l.tools) l.block_delete (100 - l.round) (Some l.rest.items) fs →
    AreFaults (setup_of l.machine l.tools) l.block_delete 100 (Some l.text) (l.found.items ++ fs)
