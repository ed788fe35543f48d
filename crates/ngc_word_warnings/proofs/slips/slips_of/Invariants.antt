-- The mistakes of each kind found so far, with those of the remaining lines, are those of all lines.
use Rattle.std.proofs.Common.{◌≡◌, ◌≤◌, drop, length}
use Rattle.ngc_machine_files.specs.Machine.{file_of}
use Rattle.ngc_line_reader.specs.ProgramView.{text_in}
use Rattle.ngc_word_warnings.specs.Slips.{all_found, slips_of, slips_of_kind, count_of, with_later}
use Rattle.ngc_word_warnings.specs.declared.slip.Kind.{Kind}
use Rattle.ngc_word_warnings.proofs.slips.slips_of.Given as goal

abbrev pub invariant-loop-index : goal.invariant-loop-index
invariant-loop-index g l = record {
  same : (kind : Kind) → with_later (slips_of_kind kind l.found) (all_found kind l.tools l.deletes l.commands l.between (drop l.index (text_in l.program).lines))
      ≡ slips_of kind l.tools l.deletes (file_of l.machine) l.commands (text_in l.program).lines;
  few : (kind : Kind) → count_of (slips_of_kind kind l.found) ≤ l.index;
  inside : l.between.count ≤ length l.commands;
}
