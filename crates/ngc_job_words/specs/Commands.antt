-- The commands, and which options of a job file each of them has. Our own.
use Rattle.std.specs.Prelude.{ℕ, List, [], ◌∷◌, codes, Bool, true, false, not, ◌||◌, if◌then◌else◌}
use Rattle.std.specs.Str.{bytes_eq}
use Rattle.ngc_job_words.specs.declared.command.Family.{Family}
use Rattle.ngc_job_words.specs.declared.command.Family.TheVariants as families
use Rattle.ngc_job_words.specs.declared.command.JobOption.{JobOption}
use Rattle.ngc_job_words.specs.declared.command.JobOption.TheVariants as options

abbrev pub Text : Type 0
Text = List ℕ

-- an option as it is written
abbrev pub name_of : JobOption → Text
name_of options.Machine = codes "--machine"
name_of options.Tools = codes "--tools"
name_of options.Dialect = codes "--dialect"
name_of options.From = codes "--from"
name_of options.Origin = codes "--origin"
name_of options.Margin = codes "--margin"
name_of options.TravelMargin = codes "--travel-margin"
name_of options.Rapids = codes "--rapids"
name_of options.Fixture = codes "--fixture"
name_of options.Stock = codes "--stock"

abbrev pub is_judging : Text → Bool
is_judging command =
    bytes_eq command (codes "report") || bytes_eq command (codes "place")
    || bytes_eq command (codes "draw") || bytes_eq command (codes "certify")
    || bytes_eq command (codes "check") || bytes_eq command (codes "run")
    || bytes_eq command (codes "pulses") || bytes_eq command (codes "live")

abbrev pub family_named : Text → Family
family_named command =
    if is_judging command then families.Judging else (
    if bytes_eq command (codes "list") then families.Listing else (
    if bytes_eq command (codes "adapt") then families.Adapting else (
    if bytes_eq command (codes "show") then families.Showing else families.Other)))

-- the command is the first word
abbrev pub family_of : List Text → Family
family_of [] = families.Other
family_of (command ∷ words) = family_named command

-- a job file changes no call of these commands
abbrev pub is_other : Family → Bool
is_other families.Other = true
is_other _ = false

abbrev pub has_program : Family → Bool
has_program families.Judging = true
has_program families.Listing = true
has_program families.Adapting = true
has_program _ = false

-- the options that the commands have
abbrev pub has_option : Family → JobOption → Bool
has_option family options.Machine = not (is_other family)
has_option family options.Tools = not (is_other family)
has_option families.Adapting options.From = true
has_option families.Judging options.From = false
has_option families.Judging option = true
has_option families.Listing options.Dialect = true
has_option families.Listing options.Origin = true
has_option _ _ = false
