use Rattle.std.proofs.Common.{◌≡◌, ◌≤◌, ◌*◌, ◌+◌, ◌++◌, drop}
use Rattle.arrayvec.specs.ArrayVec.{array_vec_len}
use Rattle.ngc_fixed_length.specs.declared.modes.System.TheVariants as systems
use Rattle.ngc_machine_files.specs.Machine.{file_of}
use Rattle.ngc_setup_sheet.specs.Sheets.{origins_from}
use Rattle.ngc_setup_sheet.proofs.lines.add_origins.Given as goal

abbrev pub invariant-loop-origin : goal.invariant-loop-origin
invariant-loop-origin g l = record {
  count : array_vec_len l.lines ≤ array_vec_len l.initial.lines + 2 * l.origin-index;
  same : l.lines.items ++ origins_from (file_of l.machine) l.reach l.system (drop l.origin-index l.origins)
      ≡ l.initial.lines.items ++ origins_from (file_of l.machine) l.reach systems.First l.origins;
}
