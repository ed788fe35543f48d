use Rattle.std.proofs.Common.{◌≡◌, ◌-◌}
use Rattle.ngc_machine_files.specs.Machine.{file_of}
use Rattle.ngc_collision.specs.Inside.{place_of}
use Rattle.ngc_place.specs.Holds.{pieces_clear}
use Rattle.ngc_place.proofs.fits.pieces_are_clear.Given as goal

abbrev pub invariant-loop-k : goal.invariant-loop-k
invariant-loop-k g l =
    pieces_clear (file_of l.machine) l.tool (place_of l.lowest.start) (place_of l.lowest.end) (place_of l.highest.start) (place_of l.highest.end) l.count 0 l.count
    ≡ pieces_clear (file_of l.machine) l.tool (place_of l.lowest.start) (place_of l.lowest.end) (place_of l.highest.start) (place_of l.highest.end) l.count l.k (l.count - l.k)
