-- How the report of a refused line writes the values of its fault. Our own.
use Rattle.std.specs.Prelude.{ℕ, ◌+◌, ◌/◌, ℤ, unsigned_abs, List, [], ◌++◌, codes, decimal}
use Rattle.std.specs.Prelude.{Option, Some, None, Bool}
use Rattle.std.specs.Fmt.{signed_decimal}
use Rattle.std.specs.Int.{abs_diff}
use Rattle.ngc_text.specs.Millimetres.{sign_text}
use Rattle.ngc_offsets.specs.Ranges.{limit_of}
use Rattle.ngc_offsets.specs.declared.fault.Axis.{Axis}
use Rattle.ngc_offsets.specs.declared.fault.Axis.TheVariants.{X, Y, Z}
use Rattle.ngc_offsets.specs.declared.fault.FrameFault.{FrameFault}
use Rattle.ngc_offsets.specs.declared.fault.FrameFault.TheVariants.{BeyondRange, NoSuchTool}
use Rattle.ngc_offsets.specs.declared.fault.Quantity.{Quantity}
use Rattle.ngc_offsets.specs.declared.fault.Quantity.TheVariants.{Coordinate, Offset}
use Rattle.ngc_offsets.specs.declared.fault.CoordinateRange.{CoordinateRange}
use Rattle.ngc_offsets.specs.declared.fault.CoordinateRange.TheVariants.{Near, Far}
use Rattle.ngc_arc_geometry.specs.declared.fault.ArcFault.{ArcFault}
use Rattle.ngc_arc_geometry.specs.declared.fault.ArcFault.TheVariants.{RadiiDiffer}
use Rattle.ngc_line_reader.specs.Program.{Line}
use Rattle.ngc_canonical.specs.declared.fault.Fault.{Fault}
use Rattle.ngc_canonical.specs.declared.fault.Fault.TheVariants as faults
use Rattle.ngc_report.specs.Words.{shift_text, thousandths_text}
use Rattle.ngc_report.specs.declared.form.Form.{Form}
use Rattle.ngc_report.specs.declared.form.Form.TheVariants.{Words, Json}
use Rattle.ngc_refused_values.specs.Values.{inches_since, selected_tool}
use Rattle.ngc_refused_values.specs.declared.last_words.LastWord.{LastWord}

-- ---- a sentence, and in JSON what it says as numbers

abbrev pub words_of : List ℕ → List ℕ
words_of phrase = phrase ++ codes "\n"

abbrev pub fact_of : List ℕ → List ℕ → List ℕ
fact_of phrase values =
    codes ",\n{\"fact\":\"reason\",\"text\":\"" ++ phrase ++ codes "\"" ++ values ++ codes "}"

-- ---- the line that selects a tool

unfoldable pub selection_phrase : ℕ → List ℕ
selection_phrase line = codes "Line " ++ decimal line ++ codes " selects it."

abbrev pub selection_values : ℕ → ℕ → List ℕ
selection_values line tool = codes ",\"tool\":" ++ decimal tool ++ codes ",\"line\":" ++ decimal line

abbrev pub selection_line : Form → ℕ → ℕ → List ℕ
selection_line Words line tool = words_of (selection_phrase line)
selection_line Json line tool = fact_of (selection_phrase line) (selection_values line tool)

unfoldable pub selection_text : Form → ℕ → Option LastWord → List ℕ
selection_text form tool None = []
selection_text form tool (Some w) = selection_line form w.line tool

-- ---- a coordinate, an origin or an offset out of range

abbrev pub axis_text : Axis → List ℕ
axis_text X = codes "X"
axis_text Y = codes "Y"
axis_text Z = codes "Z"

-- a length with at most three decimals, rounded away from zero
unfoldable pub far_text : ℤ → List ℕ
far_text z = sign_text z ++ shift_text (unsigned_abs z)

abbrev pub quantity_text : Quantity → List ℕ
quantity_text (Coordinate reach) = []
quantity_text Offset = codes "The origin or offset of "

unfoldable pub inches_phrase : Option ℕ → List ℕ
inches_phrase None = []
inches_phrase (Some line) = codes " Lengths are in inches since line " ++ decimal line ++ codes "."

unfoldable pub far_phrase : Option ℕ → Axis → Quantity → ℤ → List ℕ
far_phrase inches axis quantity at =
    quantity_text quantity ++ axis_text axis ++ codes " is at " ++ far_text at
    ++ codes " mm, but the limit is " ++ shift_text (limit_of quantity) ++ codes " mm either way."
    ++ inches_phrase inches

unfoldable pub inches_fact : Option ℕ → List ℕ
inches_fact None = []
inches_fact (Some line) = codes ",\"inches_since\":" ++ decimal line

unfoldable pub far_values : Option ℕ → Axis → Quantity → ℤ → List ℕ
far_values inches axis quantity at =
    codes ",\"axis\":\"" ++ axis_text axis ++ codes "\",\"at\":" ++ signed_decimal at
    ++ codes ",\"limit\":" ++ decimal (limit_of quantity) ++ inches_fact inches

abbrev pub far_line : Form → Option ℕ → Axis → Quantity → ℤ → List ℕ
far_line Words inches axis quantity at = words_of (far_phrase inches axis quantity at)
far_line Json inches axis quantity at =
    fact_of (far_phrase inches axis quantity at) (far_values inches axis quantity at)

abbrev pub frame_line : Form → Option ℕ → FrameFault → List ℕ
frame_line form inches (BeyondRange axis quantity at) = far_line form inches axis quantity at
frame_line form inches NoSuchTool = []

-- ---- a canned cycle

abbrev pub cycle_text : CoordinateRange → List ℕ
cycle_text Near = codes "A height or a hole of the cycle is over 1000 mm from zero."
cycle_text Far = codes "A height or a hole of the cycle is over 4000 mm from zero."

unfoldable pub cycle_phrase : CoordinateRange → Option ℕ → List ℕ
cycle_phrase reach inches = cycle_text reach ++ inches_phrase inches

abbrev pub cycle_line : Form → CoordinateRange → Option ℕ → List ℕ
cycle_line Words reach inches = words_of (cycle_phrase reach inches)
cycle_line Json reach inches = fact_of (cycle_phrase reach inches) (inches_fact inches)

-- ---- the radii of an arc

-- a length with at most three decimals, the nearest one
unfoldable pub near_text : ℕ → List ℕ
near_text n = thousandths_text ((n + 500) / 1000)

unfoldable pub radii_phrase : ℕ → ℕ → List ℕ
radii_phrase at_start at_end =
    codes "The radius is " ++ near_text at_start ++ codes " mm at the start and " ++ near_text at_end
    ++ codes " mm at the end: they differ by " ++ shift_text (abs_diff at_start at_end)
    ++ codes " mm."

unfoldable pub radii_values : ℕ → ℕ → List ℕ
radii_values at_start at_end =
    codes ",\"start_radius\":" ++ decimal at_start ++ codes ",\"end_radius\":" ++ decimal at_end
    ++ codes ",\"difference\":" ++ decimal (abs_diff at_start at_end)

abbrev pub radii_line : Form → ℕ → ℕ → List ℕ
radii_line Words at_start at_end = words_of (radii_phrase at_start at_end)
radii_line Json at_start at_end =
    fact_of (radii_phrase at_start at_end) (radii_values at_start at_end)

abbrev pub arc_line : Form → ArcFault → List ℕ
arc_line form (RadiiDiffer at_start at_end) = radii_line form at_start at_end
arc_line form e = []

-- ---- below the line with this number

abbrev pub value_line : Form → Bool → ℕ → Fault → List Line → List ℕ
value_line form deletes number (faults.NoSuchTool tool) lines =
    selection_text form tool (selected_tool deletes number lines)
value_line form deletes number (faults.Frame e) lines =
    frame_line form (inches_since deletes number lines) e
value_line form deletes number (faults.CycleBeyondRange reach) lines =
    cycle_line form reach (inches_since deletes number lines)
value_line form deletes number (faults.Arc e) lines = arc_line form e
value_line form deletes number fault lines = []
