use Rattle.std.proofs.Common.{◌≡◌, ◌≤◌, ◌*◌, ◌+◌, ◌++◌, drop, unsigned_abs}
use Rattle.arrayvec.specs.ArrayVec.{array_vec_len}
use Rattle.ngc_setup_sheet.specs.Sheets.{part_lines}
use Rattle.ngc_setup_sheet.proofs.lines.add_parts.Given as goal

abbrev pub invariant-loop-part : goal.invariant-loop-part
invariant-loop-part l = record {
  count : array_vec_len l.lines ≡ array_vec_len l.initial.lines + l.part-index;
  bound : unsigned_abs l.height ≤ 100000000000 * (1 + l.part-index);
  same : l.lines.items ++ part_lines l.height (drop l.part-index l.part-items) ≡ l.initial.lines.items ++ part_lines l.fn.foot l.parts;
}
