-- The command line of the program, as `clap` reads a command.
use Rattle.std.specs.Prelude.{ℕ, Bool, List, [], ◌∷◌, ◌++◌, Option, Some, None, true, codes, fold}
use Rattle.std.specs.Prelude.{if◌then◌else◌}
use Rattle.std.specs.Fmt.{decimal}
use Rattle.clap.specs.Words.{App, Rule, Shape, Text, new_app, new_rule, with_rule, with_subcommand}
use Rattle.clap.specs.declared.builder.action.ArgAction.TheVariants.{Set, Append, SetTrue}
use Rattle.clap.specs.declared.builder.value_parser.ValueParser.TheVariants.{Unsigned}
use Rattle.ngc_command_line.specs.declared.options.Format.{Format}
use Rattle.ngc_command_line.specs.declared.options.Format.TheVariants.{One, Two}
use Rattle.ngc_command_line.specs.declared.options.Recording.{Recording}
use Rattle.ngc_command_line.specs.declared.options.Recording.TheVariants.{Log, Pulses}

-- `--NAME FILE`
abbrev pub file_option : Text → Rule
file_option name = record (new_rule name) { long = Some name; value_names = 1; action = Some Set }

-- `--NAME FILE`, which may not be left out
abbrev pub required_file : Text → Rule
required_file name = record (file_option name) { required = true }

-- `--cuts N`, with a number from 1 to 65,535
abbrev pub cuts_option : Rule
cuts_option = record (file_option (codes "cuts")) { parser = Some (Unsigned 1 65535) }

-- `--format VERSION`, with 1 or 2
abbrev pub format_option : Rule
format_option = record (file_option (codes "format")) { parser = Some (Unsigned 1 2) }

-- `--inverted MASK`, with a number from 0 to 255
abbrev pub inverted_option : Rule
inverted_option = record (file_option (codes "inverted")) { parser = Some (Unsigned 0 255) }

-- `--origin SYSTEM=X,Y,Z`, which may be written several times
abbrev pub origin_option : Rule
origin_option = record (file_option (codes "origin")) { action = Some Append }

-- `--fixture BOX`, which may be written several times, and `--stock BOX`
abbrev pub fixture_option : Rule
fixture_option = record (file_option (codes "fixture")) { action = Some Append }

abbrev pub stock_option : Rule
stock_option = file_option (codes "stock")

-- `--cells N`, with a number from 1 to 4,000,000
abbrev pub cells_option : Rule
cells_option = record (file_option (codes "cells")) { parser = Some (Unsigned 1 4000000) }

-- `--margin MM`, `--travel-margin MM` and `--rapids WAY`
abbrev pub margin_option : Rule
margin_option = file_option (codes "margin")

abbrev pub travel_margin_option : Rule
travel_margin_option = file_option (codes "travel-margin")

abbrev pub rapids_option : Rule
rapids_option = file_option (codes "rapids")

-- `--dialect NAME`
abbrev pub dialect_option : Rule
dialect_option = file_option (codes "dialect")

-- `--NAME`
abbrev pub flag : Text → Rule
flag name = record (new_rule name) { long = Some name; action = Some SetTrue }

-- `list [--program FILE] [--machine FILE] [--tools FILE] [--delete] [--origin SYSTEM=X,Y,Z]..
-- [--dialect NAME]`
abbrev pub list_app : App
list_app = fold with_rule (new_app (codes "list"))
    (file_option (codes "program") ∷ file_option (codes "machine") ∷ file_option (codes "tools")
    ∷ flag (codes "delete") ∷ origin_option ∷ dialect_option ∷ [])

-- In the commands below, the last two points stand for `[--fixture BOX].. [--stock BOX]` and
-- `[--margin MM] [--travel-margin MM] [--rapids WAY]`. `report` and `draw` have `[--cells N]` between
-- the two.

-- `certify --machine FILE --tools FILE [--program FILE] [--cuts N] [--format VERSION]
-- [--origin SYSTEM=X,Y,Z].. .. [--dialect NAME]`
abbrev pub certify_app : App
certify_app = fold with_rule (new_app (codes "certify"))
    (required_file (codes "machine") ∷ required_file (codes "tools")
    ∷ file_option (codes "program") ∷ cuts_option ∷ format_option ∷ origin_option ∷ fixture_option
    ∷ stock_option ∷ margin_option ∷ travel_margin_option ∷ rapids_option ∷ dialect_option ∷ [])

-- `check --machine FILE --tools FILE --certificate FILE [--program FILE]
-- [--origin SYSTEM=X,Y,Z].. .. [--dialect NAME]`
abbrev pub check_app : App
check_app = fold with_rule (new_app (codes "check"))
    (required_file (codes "machine") ∷ required_file (codes "tools")
    ∷ required_file (codes "certificate") ∷ file_option (codes "program") ∷ origin_option ∷ fixture_option
    ∷ stock_option ∷ margin_option ∷ travel_margin_option ∷ rapids_option ∷ dialect_option ∷ [])

-- `--machine FILE --tools FILE --certificate FILE [--events FILE] [--program FILE] [--delete]`
-- and `[--output FORM] [--inverted MASK] [--origin SYSTEM=X,Y,Z].. .. [--dialect NAME]`
abbrev pub with_run_rules : App → App
with_run_rules app = fold with_rule app
    (required_file (codes "machine") ∷ required_file (codes "tools")
    ∷ required_file (codes "certificate") ∷ file_option (codes "events")
    ∷ file_option (codes "program") ∷ flag (codes "delete") ∷ file_option (codes "output")
    ∷ inverted_option ∷ origin_option ∷ fixture_option
    ∷ stock_option ∷ margin_option ∷ travel_margin_option ∷ rapids_option ∷ dialect_option ∷ [])

-- the name of a run's command, by its output
abbrev pub run_name : Recording → Text
run_name Log = codes "run"
run_name Pulses = codes "pulses"

-- `run ..`
abbrev pub run_app : App
run_app = with_run_rules (new_app (codes "run"))

-- `pulses ..`
abbrev pub pulses_app : App
pulses_app = with_run_rules (new_app (codes "pulses"))

-- `live --machine FILE --tools FILE --certificate FILE --program FILE [--delete] [--output FORM]
-- [--inverted MASK] [--feed-ring] [--abort] [--origin SYSTEM=X,Y,Z].. .. [--dialect NAME]`
abbrev pub live_app : App
live_app = fold with_rule (new_app (codes "live"))
    (required_file (codes "machine") ∷ required_file (codes "tools")
    ∷ required_file (codes "certificate") ∷ required_file (codes "program")
    ∷ flag (codes "delete") ∷ file_option (codes "output") ∷ inverted_option
    ∷ flag (codes "feed-ring") ∷ flag (codes "abort") ∷ origin_option ∷ fixture_option
    ∷ stock_option ∷ margin_option ∷ travel_margin_option ∷ rapids_option ∷ dialect_option ∷ [])

-- `draw --machine FILE --tools FILE [--certificate FILE] [--program FILE] [--view VIEW] [--delete]
-- [--bodies] [--whole] [--map] [--origin SYSTEM=X,Y,Z].. .. [--dialect NAME]`
abbrev pub draw_app : App
draw_app = fold with_rule (new_app (codes "draw"))
    (required_file (codes "machine") ∷ required_file (codes "tools")
    ∷ file_option (codes "certificate") ∷ file_option (codes "program")
    ∷ file_option (codes "view") ∷ flag (codes "delete") ∷ flag (codes "bodies")
    ∷ flag (codes "whole") ∷ flag (codes "map") ∷ origin_option ∷ fixture_option
    ∷ stock_option ∷ cells_option ∷ margin_option ∷ travel_margin_option ∷ rapids_option ∷ dialect_option ∷ [])

-- `show --machine FILE [--tools FILE] [--warnings]`
abbrev pub show_app : App
show_app = fold with_rule (new_app (codes "show"))
    (required_file (codes "machine") ∷ file_option (codes "tools") ∷ flag (codes "warnings") ∷ [])

-- `report --machine FILE --tools FILE [--program FILE] [--cuts N] [--all] [--json]
-- [--origin SYSTEM=X,Y,Z].. .. [--dialect NAME]`
abbrev pub report_app : App
report_app = fold with_rule (new_app (codes "report"))
    (required_file (codes "machine") ∷ required_file (codes "tools")
    ∷ file_option (codes "program") ∷ cuts_option ∷ flag (codes "all") ∷ flag (codes "json")
    ∷ origin_option ∷ fixture_option
    ∷ stock_option ∷ cells_option ∷ margin_option ∷ travel_margin_option ∷ rapids_option ∷ dialect_option ∷ [])

-- `place --machine FILE --tools FILE [--program FILE] [--system SYSTEM] [--cuts N] [--json]
-- [--origin SYSTEM=X,Y,Z].. .. [--dialect NAME]`
abbrev pub place_app : App
place_app = fold with_rule (new_app (codes "place"))
    (required_file (codes "machine") ∷ required_file (codes "tools")
    ∷ file_option (codes "program") ∷ file_option (codes "system") ∷ cuts_option
    ∷ flag (codes "json") ∷ origin_option ∷ fixture_option
    ∷ stock_option ∷ margin_option ∷ travel_margin_option ∷ rapids_option ∷ dialect_option ∷ [])

-- `--tool N`, with a number from 1 to 9,999
-- `adapt --from CONTROL [--machine FILE] [--tools FILE] [--program FILE] [--delete]`
abbrev pub adapt_app : App
adapt_app = fold with_rule (new_app (codes "adapt"))
    (required_file (codes "from") ∷ file_option (codes "machine") ∷ file_option (codes "tools")
    ∷ file_option (codes "program") ∷ flag (codes "delete") ∷ [])

-- `machine [--grbl FILE] [--steps-per-mm N] [--travel X,Y,Z] [--feed X,Y,Z] [--acceleration X,Y,Z]`
-- and `[--corner SPEED] [--ticks N] [--frame END] [--jump SPEED] [--turn ACCELERATION]
-- [--start X,Y,Z] [--home28 X,Y,Z] [--home30 X,Y,Z] [--ring N] [--arc-feed] [--rates]`
abbrev pub machine_app : App
machine_app = fold with_rule (new_app (codes "machine"))
    (file_option (codes "grbl") ∷ file_option (codes "steps-per-mm") ∷ file_option (codes "travel")
    ∷ file_option (codes "feed") ∷ file_option (codes "acceleration")
    ∷ file_option (codes "corner") ∷ file_option (codes "ticks") ∷ file_option (codes "frame")
    ∷ file_option (codes "jump") ∷ file_option (codes "turn") ∷ file_option (codes "start")
    ∷ file_option (codes "home28") ∷ file_option (codes "home30") ∷ file_option (codes "ring")
    ∷ flag (codes "arc-feed") ∷ flag (codes "rates") ∷ [])

-- `N`, a number from 1 to 999, which may not be left out
abbrev pub number_argument : Rule
number_argument = record (new_rule (codes "number")) {
  value_names = 1;
  action = Some Set;
  parser = Some (Unsigned 1 999);
  required = true;
}

-- `[COMMAND]`
abbrev pub command_argument : Rule
command_argument = record (new_rule (codes "command")) { value_names = 1; action = Some Set }

-- `explain N`
abbrev pub explain_app : App
explain_app = with_rule (new_app (codes "explain")) number_argument

-- `help [COMMAND]`
abbrev pub help_app : App
help_app = with_rule (new_app (codes "help")) command_argument

-- the words begin after the program's name, and name a subcommand
abbrev pub ngc_settings : App
ngc_settings = let bare : App = new_app (codes "ngc") in record bare {
  top = record bare.top {
    no_binary_name = true;
    subcommand_required = true;
    disable_help_subcommand = true;
  };
}

-- the program's commands: those that list a program, and make and check its certificate; those that
-- run it, show it, adapt it, and make a machine file; and those that read no file
abbrev pub certifying_shapes : List Shape
certifying_shapes = list_app.top ∷ certify_app.top ∷ check_app.top ∷ []

abbrev pub running_shapes : List Shape
running_shapes = run_app.top ∷ pulses_app.top ∷ live_app.top ∷ draw_app.top ∷ show_app.top
    ∷ report_app.top ∷ place_app.top ∷ adapt_app.top ∷ machine_app.top ∷ []

abbrev pub guide_shapes : List Shape
guide_shapes = explain_app.top ∷ help_app.top ∷ (new_app (codes "version")).top ∷ []

abbrev pub ngc_app : App
ngc_app = fold with_subcommand ngc_settings (certifying_shapes ++ running_shapes ++ guide_shapes)

-- the one word `--NAME=FILE`, where there is a file and `beginning` is `--NAME=`
abbrev pub file_words : Text → Option Text → List Text
file_words beginning None = []
file_words beginning (Some file) = (beginning ++ file) ∷ []

-- the one word of a flag, where it is set
abbrev pub flag_words : Text → Bool → List Text
flag_words word set = if set then word ∷ [] else []

-- the one word `--cuts=N`, where there is a number
abbrev pub cuts_words : Option ℕ → List Text
cuts_words None = []
cuts_words (Some cuts) = (codes "--cuts=" ++ decimal cuts) ∷ []

-- a version by its digit
abbrev pub format_text : Format → Text
format_text One = codes "1"
format_text Two = codes "2"

-- the one word `--format=VERSION`, where there is a version
abbrev pub format_words : Option Format → List Text
format_words None = []
format_words (Some format) = (codes "--format=" ++ format_text format) ∷ []

-- the words of `ngc list` with these options, in one form
abbrev pub list_words : Option Text → Option Text → Option Text → Bool → List Text
list_words program machine tools delete = codes "list"
    ∷ (file_words (codes "--program=") program ++ file_words (codes "--machine=") machine
    ++ file_words (codes "--tools=") tools ++ flag_words (codes "--delete") delete)

-- the words of `ngc certify` with these options, in one form
abbrev pub certify_words : Text → Text → Option Text → Option ℕ → Option Format → List Text
certify_words machine tools program cuts format = codes "certify"
    ∷ (codes "--machine=" ++ machine) ∷ (codes "--tools=" ++ tools)
    ∷ (file_words (codes "--program=") program ++ cuts_words cuts ++ format_words format)

-- the words of `ngc check` with these options, in one form
abbrev pub check_words : Text → Text → Text → Option Text → List Text
check_words machine tools certificate program = codes "check"
    ∷ (codes "--machine=" ++ machine) ∷ (codes "--tools=" ++ tools)
    ∷ (codes "--certificate=" ++ certificate) ∷ file_words (codes "--program=") program

-- the words of `ngc help` and `ngc help COMMAND`
abbrev pub help_words : Option Text → List Text
help_words None = codes "help" ∷ []
help_words (Some command) = codes "help" ∷ command ∷ []

-- the words of `ngc draw` with these options, in one form
abbrev pub draw_words : Text → Text → Option Text → Option Text → Option Text → Bool → Bool →
    Bool → List Text
draw_words machine tools certificate program view delete bodies whole = codes "draw"
    ∷ (codes "--machine=" ++ machine) ∷ (codes "--tools=" ++ tools)
    ∷ (file_words (codes "--certificate=") certificate ++ file_words (codes "--program=") program
    ++ file_words (codes "--view=") view ++ flag_words (codes "--delete") delete
    ++ flag_words (codes "--bodies") bodies ++ flag_words (codes "--whole") whole)

-- the words of `ngc show` with these options, in one form
abbrev pub show_words : Text → Option Text → Bool → List Text
show_words machine tools warnings = codes "show" ∷ (codes "--machine=" ++ machine)
    ∷ (file_words (codes "--tools=") tools ++ flag_words (codes "--warnings") warnings)

-- the words of `ngc report` with these options, in one form
abbrev pub report_words : Text → Text → Option Text → Option ℕ → Bool → Bool → List Text
report_words machine tools program cuts all json = codes "report"
    ∷ (codes "--machine=" ++ machine) ∷ (codes "--tools=" ++ tools)
    ∷ (file_words (codes "--program=") program ++ cuts_words cuts
    ++ flag_words (codes "--all") all ++ flag_words (codes "--json") json)

-- the words of `ngc place` with these options, in one form
abbrev pub place_words : Text → Text → Option Text → Option Text → Option ℕ → Bool → List Text
place_words machine tools program system cuts json = codes "place"
    ∷ (codes "--machine=" ++ machine) ∷ (codes "--tools=" ++ tools)
    ∷ (file_words (codes "--program=") program ++ file_words (codes "--system=") system
    ++ cuts_words cuts ++ flag_words (codes "--json") json)

-- the words of `ngc adapt` with these options, in one form
abbrev pub adapt_words : Text → Option Text → Option Text → Option Text → Bool → List Text
adapt_words from machine tools program delete = codes "adapt" ∷ (codes "--from=" ++ from)
    ∷ (file_words (codes "--machine=") machine ++ file_words (codes "--tools=") tools
    ++ file_words (codes "--program=") program ++ flag_words (codes "--delete") delete)

-- the source of a machine's figures: a dump of GRBL's settings, or steps, travel, feed and
-- acceleration
pub data MachineSource : Type 0 where
  FromGrbl : (file : Text) → MachineSource
  FromFigures : (steps travel feed acceleration : Text) → MachineSource

abbrev pub source_words : MachineSource → List Text
source_words (FromGrbl file) = (codes "--grbl=" ++ file) ∷ []
source_words (FromFigures steps travel feed acceleration) =
    (codes "--steps-per-mm=" ++ steps) ∷ (codes "--travel=" ++ travel)
    ∷ (codes "--feed=" ++ feed) ∷ (codes "--acceleration=" ++ acceleration) ∷ []

-- the words of `ngc machine` with these options, in one form
abbrev pub machine_words : MachineSource → Option Text → Option Text → Option Text → List Text
machine_words source corner ticks frame = codes "machine"
    ∷ (source_words source ++ file_words (codes "--corner=") corner
    ++ file_words (codes "--ticks=") ticks ++ file_words (codes "--frame=") frame)

-- the words of `ngc run` or `ngc pulses` with these options, in one form
abbrev pub run_words : Recording → Text → Text → Text → Option Text → Option Text → Bool →
    Option Text → List Text
run_words recording machine tools certificate events program delete output = run_name recording
    ∷ (codes "--machine=" ++ machine) ∷ (codes "--tools=" ++ tools)
    ∷ (codes "--certificate=" ++ certificate)
    ∷ (file_words (codes "--events=") events ++ file_words (codes "--program=") program
    ++ flag_words (codes "--delete") delete ++ file_words (codes "--output=") output)

-- the words of `ngc live` with these options, in one form
abbrev pub live_words : Text → Text → Text → Text → Bool → Option Text → Bool → List Text
live_words machine tools certificate program delete output feed_ring = codes "live"
    ∷ (codes "--machine=" ++ machine) ∷ (codes "--tools=" ++ tools)
    ∷ (codes "--certificate=" ++ certificate) ∷ (codes "--program=" ++ program)
    ∷ (flag_words (codes "--delete") delete ++ file_words (codes "--output=") output
    ++ flag_words (codes "--feed-ring") feed_ring)
