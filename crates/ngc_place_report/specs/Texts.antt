-- The text of a placement on a machine. Our own.
use Rattle.std.specs.Prelude.{ℕ, List}
use Rattle.ngc_fixed_length.specs.declared.modes.System.{System}
use Rattle.ngc_machine_files.specs.Machine.{MachineFile}
use Rattle.ngc_place_report.specs.Facts.{placement_facts}
use Rattle.ngc_shifted_program.specs.Origins.{origin_in}
use Rattle.ngc_place_report.specs.Words.{placement_words}
use Rattle.ngc_place_report.specs.declared.placement.Placement.{Placement}

abbrev pub words_text : MachineFile → System → Placement → List ℕ
words_text machine system p = placement_words system (origin_in machine system) machine.step p

-- as a JSON document
abbrev pub document_text : MachineFile → System → Placement → List ℕ
document_text machine system p =
    placement_facts system (origin_in machine system) machine.step p
