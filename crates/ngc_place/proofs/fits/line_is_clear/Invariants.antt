use Rattle.std.proofs.Common.{◌≡◌}
use Rattle.std.specs.Prelude.{drop}
use Rattle.ngc_machine_files.specs.Machine.{file_of}
use Rattle.ngc_collision.specs.Inside.{place_of}
use Rattle.ngc_certificate.specs.Made.{powers_of_two}
use Rattle.ngc_place.specs.Inside.{line_clear}
use Rattle.ngc_place.proofs.Tests.{in_pieces, found_among}
use Rattle.ngc_place.proofs.fits.line_is_clear.Given as goal

abbrev pub invariant-loop-count : goal.invariant-loop-count
invariant-loop-count g l =
    line_clear (file_of l.machine) l.cuts l.tool (place_of l.lowest.start) (place_of l.lowest.end) (place_of l.highest.start) (place_of l.highest.end)
    ≡ found_among (in_pieces (file_of l.machine) l.tool (place_of l.lowest.start) (place_of l.lowest.end) (place_of l.highest.start) (place_of l.highest.end)) l.cuts (drop l.count-index powers_of_two)
