-- Arcs (NISTIR 6556, 3.5.3: G2 and G3).
use Rattle.std.specs.Prelude.{ℤ, Option, Some, None, Result, Bool, false, is_some, not, ◌||◌}
use Rattle.ngc_fixed_length.specs.declared.modes.Plane.{Plane}
use Rattle.ngc_fixed_length.specs.declared.modes.Plane.TheVariants.{XY, ZX, YZ}
use Rattle.ngc_fixed_length.specs.declared.modes.Turn.{Turn}
use Rattle.ngc_fixed_length.specs.declared.points.Point3.{Point3}
use Rattle.ngc_modal_state.specs.declared.block.AxisWords.{AxisWords}
use Rattle.ngc_modal_state.specs.declared.effect.ArcWords.{ArcWords}
use Rattle.ngc_arc_geometry.specs.Centre.{centre_format, radius_format}
use Rattle.ngc_arc_geometry.specs.Shape.{ArcShape}
use Rattle.ngc_arc_geometry.specs.declared.fault.ArcFault.TheVariants.{NoAxisWord}
use Rattle.ngc_arc_geometry.specs.declared.given.Ends.{Ends}
use Rattle.ngc_canonical.specs.declared.fault.Fault.{Fault}
use Rattle.ngc_canonical.specs.declared.fault.Fault.TheVariants as faults
use Rattle.ngc_commands.specs.declared.movement.Pace.TheVariants as paces
use Rattle.ngc_commands.specs.declared.movement.Way.TheVariants as ways
use Rattle.ngc_canonical.specs.Steps.{◌>>=◌, faulted, refuse_if}
use Rattle.ngc_canonical.specs.State.{State, go}
use Rattle.ngc_canonical.specs.Places.{word_length, end_of}
use Rattle.ngc_canonical.specs.Motions.{feed_in}

-- whether there is an axis word of the plane
abbrev pub has_plane_word : Plane → AxisWords → Bool
has_plane_word XY words = is_some words.x || is_some words.y
has_plane_word ZX words = is_some words.z || is_some words.x
has_plane_word YZ words = is_some words.y || is_some words.z

-- the plane's two of I, J and K
abbrev pub along_u : Plane → ArcWords → Option ℤ
along_u XY words = words.i
along_u ZX words = words.k
along_u YZ words = words.j

abbrev pub along_v : Plane → ArcWords → Option ℤ
along_v XY words = words.j
along_v ZX words = words.i
along_v YZ words = words.k

abbrev pub ends_of : Turn → State → AxisWords → Point3 → Ends
ends_of turn s words end = record {
  plane = s.modes.plane;
  turn = turn;
  start = s.place;
  end = end;
  has_axis_word = has_plane_word s.modes.plane words;
}

-- radius format if there is an R, otherwise centre format
abbrev pub arc_by : Option ℤ → State → ArcWords → Ends → Result ArcShape Fault
arc_by (Some r) s words e = faulted faults.Arc (radius_format s.modes.units e r)
arc_by None s words e = do
  u ← word_length s.modes.units (along_u s.modes.plane words)
  v ← word_length s.modes.units (along_v s.modes.plane words)
  faulted faults.Arc (centre_format s.modes.units e (record { u = u; v = v }))

-- the arc of the words
abbrev pub arc_of : Turn → AxisWords → ArcWords → State → Result ArcShape Fault
arc_of turn axes words s = do
  end ← end_of false s axes
  r ← word_length s.modes.units words.r
  arc_by r s words (ends_of turn s axes end)

-- without an axis word of the plane there is no motion, so its feed and lengths are not checked
abbrev pub arc : Turn → AxisWords → ArcWords → Option ℤ → State → Result State Fault
arc turn axes words f s = do
  worded ← refuse_if (not (has_plane_word s.modes.plane axes)) (faults.Arc NoAxisWord)
  feed ← feed_in s.modes.feed_mode s.feed f
  a ← arc_of turn axes words s
  go (ways.Arc a) (paces.Feed feed) s
