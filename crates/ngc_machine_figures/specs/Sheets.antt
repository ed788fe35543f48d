-- What is written before the fixtures, in the order in which mistakes are found. Our own.
use Rattle.std.specs.Prelude.{List, [], ◌∷◌, ◌++◌, replicate, codes, Option, Some, None, Result, Ok, pos, true, false}
use Rattle.std.specs.Prelude.{if◌then◌else◌, Bool}
use Rattle.std.specs.Ordering.{int_eq}
use Rattle.toml.specs.Data.{Data, integer, get}
use Rattle.ngc_quantities.specs.declared.range.Place.{Place}
use Rattle.ngc_machine_figures.specs.declared.key.AxisName.{AxisName}
use Rattle.ngc_machine_figures.specs.declared.key.AxisName.TheVariants as axes
use Rattle.ngc_machine_figures.specs.declared.key.Key.TheVariants as keys
use Rattle.ngc_machine_figures.specs.declared.key.TheConstants as tables
use Rattle.ngc_machine_figures.specs.declared.refusal.FileRefusal.{FileRefusal}
use Rattle.ngc_machine_figures.specs.declared.refusal.Wrong.TheVariants as wrongs
use Rattle.ngc_machine_figures.specs.declared.sheet.AxesSheet.{AxesSheet}
use Rattle.ngc_machine_figures.specs.declared.sheet.AxisSheet.{AxisSheet}
use Rattle.ngc_machine_figures.specs.declared.sheet.ControlSheet.{ControlSheet}
use Rattle.ngc_machine_figures.specs.declared.sheet.HeadSheet.{HeadSheet}
use Rattle.ngc_machine_figures.specs.declared.sheet.PlaceSheet.{PlaceSheet}
use Rattle.ngc_machine_figures.specs.Found.{only_known}
use Rattle.ngc_machine_figures.specs.Keys.{axis_name, axis_keys}
use Rattle.ngc_machine_figures.specs.Kinds.{length_value, speed_value, acceleration_value, motor_value}
use Rattle.ngc_machine_figures.specs.Kinds.{range_value, place_value, dialect_value, rapids_value}
use Rattle.ngc_machine_figures.specs.Kinds.{flag_value, whole_value}
use Rattle.ngc_machine_figures.specs.Reading.{◌>>=◌, refused, required, optional}

-- ---- the version

abbrev pub third : Data → Result (Unit {0}) FileRefusal
third (integer n) = if int_eq n (pos 3) then Ok tt else refused keys.Version wrongs.NoVersion
third _ = refused keys.Version wrongs.NoVersion

abbrev pub version_of : Option Data → Result (Unit {0}) FileRefusal
version_of None = refused keys.Version wrongs.Missing
version_of (Some value) = third value

unfoldable pub version_at : Data → Result (Unit {0}) FileRefusal
version_at tree = version_of (get (codes "version") tree)

-- ---- keys that may be missing

unfoldable pub control_of : Data → Result ControlSheet FileRefusal
control_of tree = do
  dialect ← optional dialect_value keys.Dialect tree
  changer ← optional flag_value keys.Changer tree
  ticks ← optional whole_value keys.Ticks tree
  ring ← optional whole_value keys.Ring tree
  corner ← optional speed_value keys.Corner tree
  jump ← optional speed_value keys.Jump tree
  arc_feed ← optional whole_value keys.ArcFeed tree
  turn ← optional acceleration_value keys.Turn tree
  Ok (record {
    dialect = dialect;
    changer = changer;
    ticks = ticks;
    ring = ring;
    corner = corner;
    jump = jump;
    arc_feed = arc_feed;
    turn = turn;
  })

unfoldable pub places_of : Data → Result PlaceSheet FileRefusal
places_of tree = do
  margin ← optional length_value keys.Margin tree
  travel_margin ← optional length_value keys.TravelMargin tree
  rapids ← optional rapids_value keys.Rapids tree
  start ← optional place_value keys.Start tree
  home28 ← optional place_value keys.Home28 tree
  home30 ← optional place_value keys.Home30 tree
  Ok (record {
    margin = margin;
    travel_margin = travel_margin;
    rapids = rapids;
    start = start;
    home28 = home28;
    home30 = home30;
  })

-- ---- axes

unfoldable pub axis_of : AxisName → Data → Result AxisSheet FileRefusal
axis_of axis section = do
  known ← only_known (keys.Axis axis) (axis_keys axis) section
  motor ← required motor_value (keys.Motor axis) section
  travel ← required range_value (keys.Travel axis) section
  speed ← required speed_value (keys.Speed axis) section
  acceleration ← required acceleration_value (keys.Acceleration axis) section
  Ok (record { motor = motor; travel = travel; speed = speed; acceleration = acceleration })

abbrev pub axis_found : AxisName → Option Data → Result AxisSheet FileRefusal
axis_found axis None = refused (keys.Axis axis) wrongs.Missing
axis_found axis (Some section) = axis_of axis section

unfoldable pub axis_at : AxisName → Data → Result AxisSheet FileRefusal
axis_at axis section = axis_found axis (get (axis_name axis) section)

unfoldable pub axes_of : Data → Result AxesSheet FileRefusal
axes_of section = do
  known ← only_known keys.Axes tables.AXES_KEYS section
  x ← axis_at axes.X section
  y ← axis_at axes.Y section
  z ← axis_at axes.Z section
  Ok (record { x = x; y = y; z = z })

abbrev pub axes_found : Option Data → Result AxesSheet FileRefusal
axes_found None = refused keys.Axes wrongs.Missing
axes_found (Some section) = axes_of section

unfoldable pub axes_at : Data → Result AxesSheet FileRefusal
axes_at tree = axes_found (get (codes "axis") tree)

-- ---- origins

unfoldable pub first_origins : Data → Result (List (Option Place)) FileRefusal
first_origins section = do
  g54 ← optional place_value (keys.Origin 1) section
  g55 ← optional place_value (keys.Origin 2) section
  g56 ← optional place_value (keys.Origin 3) section
  g57 ← optional place_value (keys.Origin 4) section
  g58 ← optional place_value (keys.Origin 5) section
  Ok (g54 ∷ g55 ∷ g56 ∷ g57 ∷ g58 ∷ [])

unfoldable pub last_origins : Data → Result (List (Option Place)) FileRefusal
last_origins section = do
  g59 ← optional place_value (keys.Origin 6) section
  g59_1 ← optional place_value (keys.Origin 7) section
  g59_2 ← optional place_value (keys.Origin 8) section
  g59_3 ← optional place_value (keys.Origin 9) section
  Ok (g59 ∷ g59_1 ∷ g59_2 ∷ g59_3 ∷ [])

unfoldable pub origins_of : Data → Result (List (Option Place)) FileRefusal
origins_of section = do
  known ← only_known keys.Origins tables.ORIGIN_KEYS section
  first ← first_origins section
  last ← last_origins section
  Ok (first ++ last)

abbrev pub origins_found : Option Data → Result (List (Option Place)) FileRefusal
origins_found None = Ok (replicate 9 None)
origins_found (Some section) = origins_of section

unfoldable pub origins_at : Data → Result (List (Option Place)) FileRefusal
origins_at tree = origins_found (get (codes "origin") tree)

-- ---- all of it

unfoldable pub head_of : Data → Result HeadSheet FileRefusal
head_of tree = do
  version ← version_at tree
  known ← only_known keys.File tables.FILE_KEYS tree
  control ← control_of tree
  places ← places_of tree
  axes ← axes_at tree
  origins ← origins_at tree
  Ok (record { control = control; places = places; axes = axes; origins = origins })
