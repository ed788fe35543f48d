-- How the figures of tools are written, in words and as facts of a JSON document. Our own.
use Rattle.std.specs.Prelude.{ℕ, ◌*◌, ◌/◌, ◌%◌, ◌==◌, List, [], ◌++◌, codes, decimal, flat_map}
use Rattle.std.specs.Prelude.{Option, Some, None, is_some, is_none, Bool, ◌&&◌, ◌||◌}
use Rattle.std.specs.Prelude.{if◌then◌else◌}
use Rattle.std.specs.Fmt.{signed_decimal}
use Rattle.ngc_text.specs.Millimetres.{mm_text, size_text}
use Rattle.ngc_sentences.specs.Parts.{clock_text, three_digits}
use Rattle.ngc_machine_files.specs.declared.tools.Tool.{Tool}
use Rattle.ngc_commands.specs.declared.command.Command.{Command}
use Rattle.ngc_report.specs.declared.form.Form.{Form}
use Rattle.ngc_report.specs.declared.form.Form.TheVariants.{Words, Json}
use Rattle.ngc_tool_figures.specs.Feedings.{feeding_of}
use Rattle.ngc_tool_figures.specs.Holes.{holes_of}
use Rattle.ngc_tool_figures.specs.Ticks.{ticks_of}
use Rattle.ngc_tool_figures.specs.declared.figures.Feeding.{Feeding}
use Rattle.ngc_tool_figures.specs.declared.figures.Figures.{Figures}
use Rattle.ngc_tool_figures.specs.declared.figures.Range.{Range}

-- ---- in words

-- the tool's number, or that there is none
abbrev pub tool_words : Option ℕ → List ℕ
tool_words None = codes "no tool"
tool_words (Some number) = codes "tool " ++ decimal number

-- the least and the greatest of numbers in millionths, or the one number that both are
abbrev pub range_text : Range → List ℕ
range_text r = if r.least == r.greatest then size_text r.least
    else size_text r.least ++ codes " to " ++ size_text r.greatest

-- a range between its name and its unit, or nothing without numbers
abbrev pub range_words : List ℕ → Option Range → List ℕ → List ℕ
range_words name None unit = []
range_words name (Some r) unit = name ++ range_text r ++ unit

-- the spindle's speeds in each direction, or that it is off in all feeds
abbrev pub speeds_words : Feeding → List ℕ
speeds_words f =
    range_words (codes " spindle clockwise ") f.clockwise (codes " rpm,")
    ++ range_words (codes " spindle counterclockwise ") f.counterclockwise (codes " rpm,")

abbrev pub is_off : Feeding → Bool
is_off f = is_none f.clockwise && is_none f.counterclockwise

abbrev pub spindle_words : Feeding → List ℕ
spindle_words f = if is_off f then codes " spindle off," else speeds_words f

abbrev pub feeding_words : Feeding → List ℕ
feeding_words f =
    range_words (codes " feeds ") f.feeds (codes " mm/min,")
    ++ range_words (codes " inverse feeds ") f.inverse_feeds (codes " a minute,")
    ++ spindle_words f ++ (codes " greatest plunge " ++ mm_text f.plunge)

-- ticks as hours, minutes and seconds, cut to thousandths
abbrev pub time_words : ℕ → ℕ → List ℕ
time_words ticks_per_second ticks =
    clock_text (ticks / ticks_per_second) ++ codes "."
    ++ three_digits (ticks % ticks_per_second * 1000 / ticks_per_second)

abbrev pub use_words : ℕ → Figures → List ℕ
use_words ticks_per_second f =
    codes ", holes " ++ decimal f.holes ++ codes ", time "
    ++ time_words ticks_per_second f.ticks ++ codes ".\n"

abbrev pub figures_words : ℕ → Option ℕ → Figures → List ℕ
figures_words ticks_per_second tool f =
    codes "Figures of " ++ tool_words tool ++ codes ":" ++ feeding_words f.feeding
    ++ use_words ticks_per_second f

-- ---- as a fact

abbrev pub tool_value : Option ℕ → List ℕ
tool_value None = codes "null"
tool_value (Some number) = decimal number

-- a range as an array, or null
abbrev pub range_value : Option Range → List ℕ
range_value None = codes "null"
range_value (Some r) =
    codes "[" ++ decimal r.least ++ codes "," ++ decimal r.greatest ++ codes "]"

-- a range as a member of an object
abbrev pub range_fact : List ℕ → Option Range → List ℕ
range_fact key range = key ++ range_value range

abbrev pub feeding_fact : Feeding → List ℕ
feeding_fact f =
    range_fact (codes ",\"feeds\":") f.feeds
    ++ range_fact (codes ",\"inverse_feeds\":") f.inverse_feeds
    ++ range_fact (codes ",\"clockwise\":") f.clockwise
    ++ range_fact (codes ",\"counterclockwise\":") f.counterclockwise
    ++ (codes ",\"plunge\":" ++ signed_decimal f.plunge)

-- ticks as seconds, cut to thousandths
abbrev pub seconds_text : ℕ → ℕ → List ℕ
seconds_text ticks_per_second ticks =
    decimal (ticks / ticks_per_second) ++ codes "."
    ++ three_digits (ticks % ticks_per_second * 1000 / ticks_per_second)

abbrev pub use_fact : ℕ → Figures → List ℕ
use_fact ticks_per_second f =
    codes ",\"holes\":" ++ decimal f.holes ++ codes ",\"ticks\":" ++ decimal f.ticks
    ++ codes ",\"seconds\":" ++ seconds_text ticks_per_second f.ticks ++ codes "}"

abbrev pub figures_fact : ℕ → Option ℕ → Figures → List ℕ
figures_fact ticks_per_second tool f =
    codes ",\n{\"fact\":\"figures\",\"tool\":" ++ tool_value tool ++ feeding_fact f.feeding
    ++ use_fact ticks_per_second f

-- ---- of all tools

abbrev pub spelled : Form → ℕ → Option ℕ → Figures → List ℕ
spelled Words ticks_per_second tool f = figures_words ticks_per_second tool f
spelled Json ticks_per_second tool f = figures_fact ticks_per_second tool f

-- the figures of a tool in a program, whose parts between tool changes take these ticks
abbrev pub figures_of : Option ℕ → List Command → List ℕ → Figures
figures_of tool commands parts = record {
  feeding = feeding_of tool commands;
  holes = holes_of tool commands;
  ticks = ticks_of tool commands parts;
}

abbrev pub feeds : Feeding → Bool
feeds f = is_some f.feeds || is_some f.inverse_feeds

-- the line of a tool, or nothing if it doesn't feed
abbrev pub tool_line : Form → ℕ → List Command → List ℕ → Option ℕ → List ℕ
tool_line form ticks_per_second commands parts tool =
    if feeds (feeding_of tool commands)
    then spelled form ticks_per_second tool (figures_of tool commands parts) else []

-- the line of feeds without a tool, and those of the tools of the table, in its order
abbrev pub figures_text : Form → ℕ → List Tool → List Command → List ℕ → List ℕ
figures_text form ticks_per_second tools commands parts =
    tool_line form ticks_per_second commands parts None
    ++ flat_map (λ t. tool_line form ticks_per_second commands parts (Some t.number)) tools
