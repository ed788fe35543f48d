-- The words that a job file adds to a call. The call with a job file is the call with these words. Our
-- own.
use Rattle.std.specs.Prelude.{ℕ, ◌+◌, List, [], ◌∷◌, ◌++◌, map, codes}
use Rattle.std.specs.Prelude.{Option, Some, None, option_map, is_some, unwrap_or, Bool, not, ◌&&◌, if◌then◌else◌}
use Rattle.std.specs.List.{list_any}
use Rattle.ngc_dialect_names.specs.Names.{name_of as dialect_name}
use Rattle.ngc_dialect_names.specs.declared.dialect.Dialect.{Dialect}
use Rattle.ngc_text.specs.Millimetres.{length_text}
use Rattle.ngc_quantities.specs.declared.range.Place.{Place}
use Rattle.ngc_machine_figures.specs.declared.sheet.StockSheet.{StockSheet}
use Rattle.ngc_machine_files.specs.declared.machine.Rapids.{Rapids}
use Rattle.ngc_machine_files.specs.declared.machine.Rapids.TheVariants as rapids
use Rattle.ngc_job_files.specs.Jobs.{Job}
use Rattle.ngc_job_files.specs.Paths.{Paths}
use Rattle.ngc_job_files.specs.declared.job.JobFixture.{JobFixture}
use Rattle.ngc_job_files.specs.declared.job.JobHead.{JobHead}
use Rattle.ngc_job_words.specs.Commands.{Text, family_of, has_option, name_of}
use Rattle.ngc_job_words.specs.Folders.{path_in}
use Rattle.ngc_job_words.specs.Texts.{system_code, origin_text, fixture_text, stock_text}
use Rattle.ngc_job_words.specs.Words.{after, has, value_in, values_of}
use Rattle.ngc_job_words.specs.declared.command.JobOption.{JobOption}
use Rattle.ngc_job_words.specs.declared.command.JobOption.TheVariants as options

-- an option with its value, as --machine=mill.toml
abbrev pub word_of : JobOption → Text → Text
word_of option value = name_of option ++ codes "=" ++ value

-- the command has the option, and the words don't
abbrev pub wants : List Text → JobOption → Bool
wants words option = has_option (family_of words) option && not (has (name_of option) words)

abbrev pub option_words : List Text → JobOption → Option Text → List Text
option_words words option None = []
option_words words option (Some value) = if wants words option then word_of option value ∷ [] else []

-- ---- files and languages

unfoldable pub file_words : List Text → Text → Paths → List Text
file_words words folder paths =
    option_words words options.Machine (option_map (path_in folder) paths.machine)
    ++ option_words words options.Tools (option_map (path_in folder) paths.tools)

-- `adapt` knows the language as --from
unfoldable pub dialect_words : List Text → Option Dialect → List Text
dialect_words words dialect =
    option_words words options.Dialect (option_map dialect_name dialect)
    ++ option_words words options.From (option_map dialect_name dialect)

-- ---- origins: one for each system that has none by the words

-- the code in a value may begin with a G
abbrev pub without_g : Text → Text
without_g value = unwrap_or (after (codes "G") value) (unwrap_or (after (codes "g") value) value)

-- the value of the option is for the system with this code
abbrev pub begins_code : Text → Text → Bool
begins_code code value = is_some (value_in code (without_g value))

abbrev pub has_system : List Text → ℕ → Bool
has_system values system = list_any (begins_code (system_code system)) values

abbrev pub origin_words : List Text → ℕ → Option Place → List Text
origin_words values system None = []
origin_words values system (Some place) =
    if has_system values system then [] else word_of options.Origin (origin_text system place) ∷ []

-- from this system on, where 1 is G54
abbrev pub origins_from : List Text → ℕ → List (Option Place) → List Text
origins_from values system [] = []
origins_from values system (origin ∷ origins) =
    origin_words values system origin ++ origins_from values (system + 1) origins

unfoldable pub all_origin_words : List Text → List (Option Place) → List Text
all_origin_words words origins =
    if has_option (family_of words) options.Origin
    then origins_from (values_of (codes "--origin") words) 1 origins else []

-- ---- margins

abbrev pub rapids_name : Rapids → Text
rapids_name rapids.Straight = codes "straight"
rapids_name rapids.Free = codes "free"

unfoldable pub margin_words : List Text → JobHead → List Text
margin_words words head =
    option_words words options.Margin (option_map (λ l. length_text l.nanometres) head.margin)
    ++ option_words words options.TravelMargin (option_map (λ l. length_text l.nanometres) head.travel_margin)
    ++ option_words words options.Rapids (option_map rapids_name head.rapids)

-- ---- boxes: the fixtures are added to those of the words

abbrev pub fixture_word : JobFixture → Text
fixture_word fixture = word_of options.Fixture (fixture_text fixture)

unfoldable pub fixture_words : List Text → List JobFixture → List Text
fixture_words words fixtures =
    if has_option (family_of words) options.Fixture then map fixture_word fixtures else []

unfoldable pub stock_words : List Text → Option StockSheet → List Text
stock_words words stock = option_words words options.Stock (option_map stock_text stock)

unfoldable pub box_words : List Text → Job → List Text
box_words words job = fixture_words words job.fixtures ++ stock_words words job.head.stock

-- ---- all

-- what a job file in this folder adds to the words of a call
unfoldable pub added_words : Text → Job → List Text → List Text
added_words folder job words =
    file_words words folder job.paths
    ++ dialect_words words job.head.dialect
    ++ all_origin_words words job.head.origins
    ++ margin_words words job.head
    ++ box_words words job

-- the words of a call with a job file
abbrev pub words_with_job : Text → Job → List Text → List Text
words_with_job folder job words = words ++ added_words folder job words
