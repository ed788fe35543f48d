-- No line so far begins with /.
use Rattle.std.proofs.Common.{◌≡◌, List, drop}
use Rattle.ngc_line_reader.specs.Grammar.{Reading}
use Rattle.ngc_line_reader.specs.ProgramText.{AreReadings}
use Rattle.ngc_line_reader.specs.ProgramView.{text_in}
use Rattle.ngc_canonical.specs.Meaning.{has_deleted, with_readings}
use Rattle.ngc_canonical.proofs.deleted.has_deleted_lines.Given as goal

abbrev pub invariant-loop-index : goal.invariant-loop-index
invariant-loop-index g l =
    (rs : List Reading) → AreReadings (text_in l.program).lines rs
    → has_deleted (with_readings (text_in l.program).lines rs) ≡ has_deleted (with_readings (drop l.index (text_in l.program).lines) (drop l.index rs))
