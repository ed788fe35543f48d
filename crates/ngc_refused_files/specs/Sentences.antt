-- What is wrong in a machine file or a tool table, and what to write. Our own.
use Rattle.std.specs.Prelude.{ℕ, ℤ, List, [], ◌++◌, codes, decimal, Option, Some, None}
use Rattle.std.specs.Fmt.{signed_decimal}
use Rattle.ngc_text.specs.Shown.{shown_text}
use Rattle.ngc_quantities.specs.Units.{name_of as unit_name}
use Rattle.ngc_quantities.specs.declared.fault.Cause.{Cause}
use Rattle.ngc_quantities.specs.declared.fault.Cause.TheVariants as causes
use Rattle.ngc_quantities.specs.declared.unit.Ending.TheVariants as endings
use Rattle.ngc_quantities.specs.declared.unit.Kind.{Kind}
use Rattle.ngc_quantities.specs.declared.unit.Kind.TheVariants as kinds
use Rattle.ngc_quantities.specs.declared.unit.Unit.{Unit}
use Rattle.ngc_machine_figures.specs.Keys.{name_of}
use Rattle.ngc_machine_figures.specs.Words.{bytes_of}
use Rattle.ngc_machine_figures.specs.declared.key.Key.{Key}
use Rattle.ngc_machine_figures.specs.declared.key.Key.TheVariants as keys
use Rattle.ngc_machine_figures.specs.declared.refusal.Wrong.{Wrong}
use Rattle.ngc_machine_figures.specs.declared.refusal.Wrong.TheVariants as wrongs
use Rattle.ngc_machine_figures.specs.declared.tool_key.ToolKey.TheVariants as tool_keys
use Rattle.ngc_machine_figures.specs.declared.tool_key.ToolWrong.{ToolWrong}
use Rattle.ngc_machine_figures.specs.declared.tool_key.ToolWrong.TheVariants as tools
use Rattle.ngc_refused_files.specs.Examples.{sample_of, sample_text, example, remedy}
use Rattle.ngc_refused_files.specs.Places.{table_of, header_text}
use Rattle.ngc_refused_files.specs.declared.example.Sample.{Sample}
use Rattle.ngc_refused_files.specs.declared.example.Sample.TheVariants as samples

-- ---- a text with a unit. The subject is the value as it is written, or "the value"

-- the sentence on a cause, up to what `remedy` ends it with; the other causes have one of their own
abbrev pub complaint : Cause → List ℕ
complaint causes.LongText = codes "the text is longer than 256 bytes; example: "
complaint causes.NoNumber = codes "a number is missing or wrong; example: "
complaint causes.NoBlanks = codes "+ and - need a blank on each side: write it like "
complaint causes.ManyDigits = codes "a number has too many digits: write at most 12 on each side of the point"
complaint causes.ZeroBelow = codes "a fraction is over zero; example: "
complaint causes.Comma = codes "there is a comma too many: write decimals as "
complaint causes.FractionUnit = codes "a fraction must be in inches; example: "
complaint (causes.OtherEnding endings.Nothing) = codes "there is more text after the unit; example: "
complaint (causes.OtherEnding endings.Pitch) = codes "the word pitch is missing; example: "
complaint (causes.OtherEnding endings.Belt) = codes "the word belt is missing; example: "
complaint causes.Negative = codes "a number is below zero; example: "
complaint causes.Zero = codes "a number is zero; example: "
complaint causes.NoTo = codes "the word to is missing; example: "
complaint causes.Reversed = codes "the end is below the start; example: "
complaint causes.NoGear = codes "the last part is no gear; example: "
complaint _ = codes ""

abbrev pub kind_text : Kind → List ℕ
kind_text kinds.Length = codes "a length"
kind_text kinds.Speed = codes "a speed"
kind_text kinds.Acceleration = codes "an acceleration"
kind_text kinds.Turning = codes "a spindle speed"
kind_text kinds.Steps = codes "a motor"
kind_text kinds.Angle = codes "an angle"
kind_text kinds.Microsteps = codes "microsteps"
kind_text kinds.Teeth = codes "teeth"

abbrev pub most_text : Kind → List ℕ
most_text kinds.Length = codes "1000000 mm"
most_text kinds.Speed = codes "1000000 mm/min"
most_text kinds.Acceleration = codes "1000000 mm/s2"
most_text kinds.Turning = codes "1000000 rpm"
most_text kinds.Steps = codes "1000000 steps/mm"
most_text kinds.Angle = codes "360 deg"
most_text kinds.Microsteps = codes "99999 microsteps"
most_text kinds.Teeth = codes "99999 teeth"

-- the unit of the numbers between which an amount is; a part of a motor's text has none here
abbrev pub base_unit : Sample → List ℕ
base_unit samples.Length = codes " nm"
base_unit samples.Speed = codes " nm/min"
base_unit samples.Acceleration = codes " nm/s2"
base_unit samples.Range = codes " nm"
base_unit samples.Place = codes " nm"
base_unit samples.Diameter = codes " nm"
base_unit samples.Reach = codes " nm"
base_unit samples.Flute = codes " nm"
base_unit samples.HolderDiameter = codes " nm"
base_unit samples.HolderLength = codes " nm"
base_unit samples.Feeds = codes " nm/min"
base_unit samples.Plunge = codes " nm/min"
base_unit samples.Turning = codes " millionths of rpm"
base_unit _ = codes ""

unfoldable pub no_unit : List ℕ → List ℕ → List ℕ
no_unit subject example = subject ++ codes " has no unit; example: " ++ example

unfoldable pub meant_unit : List ℕ → List ℕ → List ℕ
meant_unit subject unit =
    subject ++ codes " has an unknown unit: did you mean " ++ unit ++ codes "?"

unfoldable pub unmeant_unit : List ℕ → List ℕ
unmeant_unit example = codes "the unit is unknown; example: " ++ example

unfoldable pub unknown_unit : List ℕ → List ℕ → Option Unit → List ℕ
unknown_unit subject example None = unmeant_unit example
unknown_unit subject example (Some unit) = meant_unit subject (unit_name unit)

unfoldable pub other_kind : List ℕ → List ℕ → List ℕ → List ℕ
other_kind example kind unit =
    unit ++ codes " is no unit of " ++ kind ++ codes "; example: " ++ example

unfoldable pub too_large : List ℕ → List ℕ
too_large most = codes "the number is too large: write at most " ++ most

unfoldable pub between_text : List ℕ → ℤ → ℤ → List ℕ
between_text unit low high =
    codes "a number is between " ++ signed_decimal low ++ codes " and " ++ signed_decimal high
    ++ unit ++ codes ": round it"

-- a complaint, and what ends it
unfoldable pub ended : List ℕ → List ℕ → List ℕ
ended complaint remedy = complaint ++ remedy

unfoldable pub cause_text : List ℕ → Key → Cause → List ℕ
cause_text subject key (causes.NoUnit kind) = no_unit subject (example key kind)
cause_text subject key (causes.UnknownUnit kind meant) = unknown_unit subject (example key kind) meant
cause_text subject key (causes.OtherKind kind unit) =
    other_kind (example key kind) (kind_text kind) (unit_name unit)
cause_text subject key (causes.TooLarge kind) = too_large (most_text kind)
cause_text subject key (causes.Between low high) = between_text (base_unit (sample_of key)) low high
cause_text subject key cause = ended (complaint cause) (remedy key cause)

-- ---- other values

-- what is wrong with a value of another kind, after the subject
abbrev pub other_text : Wrong → List ℕ
other_text wrongs.NoVersion = codes " isn't a version that is read here: write 3"
other_text wrongs.NoDialect = codes " isn't a language: write \"linuxcnc\", \"grbl\", \"mach3\" or \"fanuc\""
other_text wrongs.NoBool = codes " is neither true nor false: write one of them"
other_text wrongs.NoRapids = codes " isn't a kind of traverse: write \"straight\" or \"free\""
other_text wrongs.NoSystem = codes " isn't a coordinate system: write one of \"G54\" to \"G59.3\""
other_text _ = codes ""

-- the whole sentence on what only a tool table may have wrong
abbrev pub tool_text : ToolWrong → List ℕ
tool_text tools.NoTools = codes "it isn't a list: write [[tool]] above the keys of each tool"
tool_text tools.NoHolder = codes "it isn't a list: write [{ diameter = \"25 mm\", length = \"30 mm\" }]"
tool_text tools.NoPart = codes "it isn't a table: write { diameter = \"25 mm\", length = \"30 mm\" }"
tool_text tools.NoLength = codes "length and stickout are missing: write length = \"45 mm\""
tool_text tools.LoneShank = codes "it needs flute, above which it begins: write flute = \"18 mm\""
tool_text tools.ManyTools = codes "there are more than 1000 tools: remove some"
tool_text tools.Number = codes "a tool's number is from 1 to 9999: write one of them"
tool_text tools.NumberTwice = codes "a later tool has this number too: give each tool a number of its own"
tool_text tools.Size = codes "it isn't above 0 mm and at most 1000 mm: change it"
tool_text tools.Offset = codes "the offset is over 1000 mm: write at most 1000 mm either way"
tool_text tools.ShortTool = codes "the holder is as long or longer: write the length from spindle nose to tip"
tool_text tools.LongTool = codes "stickout and holder are over 1000 mm together: write shorter ones"
tool_text tools.UnequalHolder = codes "with the holder it isn't the length: change it, or remove it"
tool_text tools.UnequalLength = codes "it isn't the length: describe the rest of it with the key holder"
tool_text tools.LongFlute = codes "it is longer than what sticks out of the holder: write a shorter one"
tool_text tools.ManyParts = codes "cutter, shank and holder have over four parts: join parts of the holder"
tool_text tools.NoCutter = codes "it isn't a cutter: write \"flat\", \"ball\", \"vee\" or \"drill\""
tool_text tools.LonePoint = codes "only a vee or a drill has a point: write cutter = \"vee\", or remove it"
tool_text tools.LongPoint = codes "it is longer than the cutter: write at most the flute"

-- the whole sentence where it has no subject and no example
abbrev pub whole_text : Wrong → List ℕ
whole_text wrongs.Far = codes "a length is over 4000 mm: write at most 4000 mm either way"
whole_text wrongs.NoName = codes "it isn't a name: write 1 to 40 printable ASCII characters in quotation marks"
whole_text wrongs.NoArray = codes "it isn't a list: write [[fixture]] above the keys of each fixture"
whole_text wrongs.ManyFixtures = codes "there are more than 256 fixtures: remove some"
whole_text wrongs.ManyClamps = codes "there are more than 16 fixtures: move some to the machine file"
whole_text wrongs.NoPath = codes "it isn't a path: write it in quotation marks, as \"../mill.toml\""
whole_text wrongs.NoEnd = codes "the box has no end: write to or size, as size = \"60, 40, 20 mm\""
whole_text wrongs.TwoEnds = codes "the box has to and size: remove one of them"
whole_text (wrongs.Tool wrong) = tool_text wrong
whole_text _ = codes ""

unfoldable pub range_text : List ℕ → ℕ → ℕ → List ℕ
range_text subject low high =
    subject ++ codes " isn't a whole number from " ++ decimal low ++ codes " to " ++ decimal high
    ++ codes ": write one"

-- ---- keys

-- what is said of a key that must be there, and what to write where no example is a text with a unit: a
-- table's header, or a key
abbrev pub lacking : Key → List ℕ
lacking keys.Axes = codes "the table is missing: write "
lacking (keys.Axis axis) = codes "the table is missing: write "
lacking key = codes "the key is missing: write "

abbrev pub table_example : Key → List ℕ
table_example keys.Axes = codes "[axis.x], [axis.y] and [axis.z]"
table_example keys.Version = codes "version = 3"
table_example (keys.Tool (tool_keys.Number n)) = codes "number = 2"
table_example (keys.Axis axis) = header_text (table_of (keys.Axis axis))
table_example key = name_of key

unfoldable pub with_example : List ℕ → List ℕ → List ℕ → List ℕ
with_example lacking name example = lacking ++ name ++ codes " = " ++ example

unfoldable pub missing_text : Key → Sample → List ℕ
missing_text key samples.Other = ended (lacking key) (table_example key)
missing_text key sample = with_example (lacking key) (name_of key) (sample_text sample)

unfoldable pub did_you_mean : List ℕ → List ℕ
did_you_mean name = codes "did you mean " ++ name ++ codes "?"

unfoldable pub meant_key : Option Key → List ℕ
meant_key None = codes "remove it"
meant_key (Some key) = did_you_mean (name_of key)

unfoldable pub not_here : List ℕ → List ℕ
not_here word = codes "\"" ++ word ++ codes "\" isn't a key here: "

unfoldable pub unknown_text : List ℕ → Option Key → List ℕ
unknown_text word meant =
    not_here (shown_text word) ++ meant_key meant

-- ---- the sentence

unfoldable pub no_text : List ℕ → List ℕ
no_text example = codes "the value isn't a text with a unit; example: " ++ example

unfoldable pub no_table : List ℕ → List ℕ
no_table header = codes "it isn't a table: write " ++ header ++ codes " and its keys below"

unfoldable pub wrong_text : List ℕ → Key → Wrong → List ℕ
wrong_text subject key wrongs.Missing = missing_text key (sample_of key)
wrong_text subject key (wrongs.Unknown word meant) = unknown_text (bytes_of word) meant
wrong_text subject key (wrongs.Bare form) = no_unit subject (sample_text (sample_of key))
wrong_text subject key (wrongs.NoText form) = no_text (sample_text (sample_of key))
wrong_text subject key (wrongs.Text fault) = cause_text subject key fault.cause
wrong_text subject key (wrongs.NoWhole low high) = range_text subject low high
wrong_text subject key wrongs.NoTable = no_table (header_text (table_of key))
wrong_text subject key wrongs.NoVersion = ended subject (other_text wrongs.NoVersion)
wrong_text subject key wrongs.NoDialect = ended subject (other_text wrongs.NoDialect)
wrong_text subject key wrongs.NoBool = ended subject (other_text wrongs.NoBool)
wrong_text subject key wrongs.NoRapids = ended subject (other_text wrongs.NoRapids)
wrong_text subject key wrongs.NoSystem = ended subject (other_text wrongs.NoSystem)
wrong_text subject key wrong = whole_text wrong
