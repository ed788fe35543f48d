-- The moves of a cycle's repeats (NISTIR 6556, 3.5.16 and 3.5.16.1).
use Rattle.std.specs.Prelude.{ℕ, ◌+◌, ◌*◌, ◌==◌, ℤ, ◌-ℤ◌, unsigned_abs, int_lt, List, [], ◌∷◌, ◌++◌}
use Rattle.std.specs.Prelude.{Result, Ok, ◌&&◌, if◌then◌else◌}
use Rattle.ngc_fixed_length.specs.Places.{at_height}
use Rattle.ngc_fixed_length.specs.Signed.{same}
use Rattle.ngc_canned_cycles.specs.declared.cycle.Cycle.{Cycle}
use Rattle.ngc_canned_cycles.specs.declared.cycle.Hole.{Hole}
use Rattle.ngc_canned_cycles.specs.declared.cycle.Hole.TheVariants.{Drill, DrillWithDwell, Peck}
use Rattle.ngc_canned_cycles.specs.declared.cycle.Hole.TheVariants.{Bore, BoreWithStop}
use Rattle.ngc_canned_cycles.specs.declared.cycle.Hole.TheVariants.{BoreWithDwell}
use Rattle.ngc_canned_cycles.specs.declared.cycle.Site.{Site}
use Rattle.ngc_canned_cycles.specs.declared.cycle.Start.{Start}
use Rattle.ngc_canned_cycles.specs.declared.cycle.CycleMove.{CycleMove}
use Rattle.ngc_canned_cycles.specs.declared.cycle.CycleMove.TheVariants.{Traverse}
use Rattle.ngc_canned_cycles.specs.declared.fault.CycleFault.{CycleFault}
use Rattle.ngc_canned_cycles.specs.Faults.{◌>>◌}
use Rattle.ngc_canned_cycles.specs.Heights.{height_before, place_before, retract_of, bottom_of}
use Rattle.ngc_canned_cycles.specs.Heights.{top_of, clear_of, site_of}
use Rattle.ngc_canned_cycles.specs.Holes.{traverse_to, hole_moves, peck_count}
use Rattle.ngc_canned_cycles.specs.Refusals.{check}

-- the rise to R, once for the line, if the height before is below R
abbrev pub first_rise : Cycle → Start → ℕ → List CycleMove
first_rise c s j =
    if (j == 1) && int_lt (height_before c s) (retract_of c s)
    then Traverse (at_height c.plane (place_before c s) (retract_of c s)) ∷ [] else []

-- the height at which repeat j reaches its place
abbrev pub arrival : Cycle → Start → ℕ → ℤ
arrival c s j = if j == 1 then top_of c s else clear_of c s

-- the move to the place of the hole at a height, and the move to R unless the tool is there already
abbrev pub approach : Site → ℤ → List CycleMove
approach site w =
    traverse_to site w ∷ (if same w site.retract then [] else traverse_to site site.retract ∷ [])

abbrev pub repeat_moves : Cycle → Start → ℕ → List CycleMove
repeat_moves c s j = let site = site_of c s j in
    first_rise c s j ++ approach site (arrival c s j) ++ hole_moves c.hole site

-- the moves of repeat j, counted from 1
abbrev pub expand : Cycle → Start → ℕ → Result (List CycleMove) CycleFault
expand c s j = check c s >> Ok (repeat_moves c s j)

-- the greatest number of moves for a hole, and for a repeat
abbrev pub hole_limit : Hole → ℤ → ℕ
hole_limit (Peck q) way = 3 * peck_count way (unsigned_abs q) + 1
hole_limit Drill way = 5
hole_limit (DrillWithDwell p) way = 5
hole_limit Bore way = 5
hole_limit (BoreWithStop p) way = 5
hole_limit (BoreWithDwell p) way = 5

abbrev pub move_limit : Cycle → Start → ℕ
move_limit c s = 3 + hole_limit c.hole (retract_of c s -ℤ bottom_of c s)
