-- What a report says of the material. Our own.
use Rattle.std.specs.Prelude.{ℕ, List, [], ◌∷◌, ◌++◌, codes, Option, Some, None, Bool, true, false, ◌||◌, if◌then◌else◌}
use Rattle.ngc_fixed_length.specs.declared.modes.Plane.{Plane}
use Rattle.ngc_fixed_length.specs.declared.modes.Plane.TheVariants.{XY}
use Rattle.ngc_fixed_length.specs.declared.points.Point3.{Point3}
use Rattle.ngc_machine_files.specs.Machine.{MachineFile}
use Rattle.ngc_machine_files.specs.declared.machine.StockBox.{StockBox}
use Rattle.ngc_machine_files.specs.declared.tools.Tool.{Tool}
use Rattle.ngc_commands.specs.declared.command.Action.{Action}
use Rattle.ngc_commands.specs.declared.command.Action.TheVariants.{Move}
use Rattle.ngc_commands.specs.declared.command.Command.{Command}
use Rattle.ngc_commands.specs.declared.movement.Way.{Way}
use Rattle.ngc_commands.specs.declared.movement.Way.TheVariants.{Line, Arc}
use Rattle.ngc_commands.specs.Reached.{at_start}
use Rattle.ngc_cells.specs.Stretches.{spot}
use Rattle.ngc_cells.specs.declared.stretch.Spot.{Spot}
use Rattle.ngc_material.specs.declared.walk.Found.{Found}
use Rattle.ngc_material_report.specs.Sentences.{touches_text, depths_text, cuts_text, untested_text}
use Rattle.ngc_report.specs.declared.form.Form.{Form}
use Rattle.ngc_report.specs.declared.form.Form.TheVariants.{Words, Json}
use Rattle.ngc_stock_report.specs.Overlaps.{overlaps_text}
use Rattle.ngc_stock_report.specs.Placed.{origin_at}
use Rattle.ngc_stock_report.specs.Uncut.{uncut_text}
use Rattle.ngc_stock_report.specs.Walked.{WalkData}

-- the origin of the block's coordinate system, from which places are written
abbrev pub spot_of : Point3 → Spot
spot_of p = spot p.x p.y

abbrev pub block_origin : MachineFile → Option StockBox → Spot
block_origin m None = spot_of (origin_at m 0)
block_origin m (Some b) = spot_of (origin_at m b.system)

-- at most this number of traverses have a line, and of feeds
abbrev pub MOST_LINES : ℕ
MOST_LINES = 10

-- an arc in another plane than that of X and Y
abbrev pub is_other : Plane → Bool
is_other XY = false
is_other _ = true

abbrev pub is_other_way : Way → Bool
is_other_way (Line a b) = false
is_other_way (Arc a) = is_other a.plane

abbrev pub is_other_arc : Action → Bool
is_other_arc (Move m) = is_other_way m.way
is_other_arc _ = false

abbrev pub has_other_arcs : List Command → Bool
has_other_arcs [] = false
has_other_arcs (c ∷ cs) = is_other_arc c.action || has_other_arcs cs

-- such arcs count at their ends only: a motion that is reported may go where one has cut
unfoldable pub arcs_words : List ℕ
arcs_words = codes "Cuts along arcs of G18 and G19 are not counted: the material may be gone there.\n"

abbrev pub arcs_line : Form → List Command → List Found → List ℕ
arcs_line Words commands [] = []
arcs_line Words commands (f ∷ fs) = if has_other_arcs commands then arcs_words else []
arcs_line Json commands found = []

-- the traverses that are found, or else the feeds
abbrev pub found_or : List Found → List Found → List Found
found_or [] feeds = feeds
found_or (f ∷ fs) feeds = f ∷ fs

-- the block, or the end of a motion, is too far from the machine's zero
unfoldable pub far_words : List ℕ
far_words =
    codes "The material, or the end of a motion, is more than 2 m from the machine's zero: traverses were not tested for material.\n"

unfoldable pub far_fact : List ℕ
far_fact = codes ",\n{\"fact\":\"material_far\"}"

abbrev pub far_line : Form → List ℕ
far_line Words = far_words
far_line Json = far_fact

-- without a block of material nothing is said of it
abbrev pub unwalked_text : Form → Option StockBox → List ℕ
unwalked_text form None = []
unwalked_text form (Some b) = far_line form

-- the tool changes below the top of the material, the feeds below its bottom, how deep feeds cut, and what
-- isn't tested
abbrev pub rest_text : Form → MachineFile → List Tool → List Command → WalkData → List ℕ
rest_text form m tools commands w =
    depths_text form (block_origin m m.stock) w.stock (at_start m) commands
    ++ (cuts_text form tools w.cuts ++ untested_text form w.stock.grid tools w.cuts)

abbrev pub walk_text : Form → MachineFile → List Tool → List Command → WalkData → List ℕ
walk_text form m tools commands w =
    touches_text form MOST_LINES (block_origin m m.stock) tools w.traverses w.feeds
    ++ (arcs_line form commands (found_or w.found w.feeds) ++ rest_text form m tools commands w)

-- that no feed cuts the block, if that is so, and the rest
abbrev pub told_text : Form → MachineFile → List Tool → List Command → WalkData → List ℕ
told_text form m tools commands w = uncut_text form m m.stock w.stock.grid commands ++ walk_text form m tools commands w

-- the motions that may touch material, the tool changes in it, the feeds below it, how deep feeds cut, and
-- what isn't tested
abbrev pub walked_text : Form → MachineFile → List Tool → List Command → Option WalkData → List ℕ
walked_text form m tools commands None = unwalked_text form m.stock
walked_text form m tools commands (Some w) = told_text form m tools commands w

-- which fixtures overlap the block, and what a walk has found
unfoldable pub material_text : Form → MachineFile → List Tool → List Command → Option WalkData → List ℕ
material_text form m tools commands walk = overlaps_text form m m.stock ++ walked_text form m tools commands walk
