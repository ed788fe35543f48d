-- The rest of the text has the same reading as the whole.
use Rattle.std.proofs.Common.{◌≡◌, ◌+◌, ◌*◌, ◌≤◌, ◌<◌, length}
use Rattle.arrayvec.specs.ArrayVec.{array_vec_len}
use Rattle.ngc_line_reader.specs.Text.{place_in}
use Rattle.ngc_line_reader.specs.ScanLine.{parts_of, items_at}
use Rattle.ngc_line_reader.proofs.line.reading.items_at.Given as goal

abbrev pub invariant-loop-rest : goal.invariant-loop-rest
invariant-loop-rest l = record {
  read : items_at (place_in l.columns) l.room (parts_of l.line) l.rest ≡ items_at (place_in l.columns) l.fn.room (parts_of l.initial.line) l.fn.text;
  room : length l.rest < l.room;
  space : array_vec_len l.line.tokens + length l.rest ≤ 256;
  few : 4 * array_vec_len l.line.settings + length l.rest ≤ 256;
}

abbrev pub decreases-loop-rest : goal.decreases-loop-rest
decreases-loop-rest l = length l.rest
