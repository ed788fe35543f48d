-- What a call asks for: its words without --job FILE and with the program as an option, the job file and
-- the program. Our own.
use Rattle.std.specs.Prelude.{◌≡◌, ◌==◌, List, [], ◌∷◌, length, map, codes, Option, Some, None, option_map, Result, Ok, Err}
use Rattle.std.specs.Prelude.{Bool, true, false, not, ◌&&◌, if◌then◌else◌}
use Rattle.ngc_job_words.specs.Commands.{Text, family_named, is_other, has_program}
use Rattle.ngc_job_words.specs.Places.{plain_words, job_files, lacks_file, kept_words, named_words}
use Rattle.ngc_job_words.specs.Words.{has, values_of}
use Rattle.ngc_job_words.specs.declared.call.Asked.{Asked}
use Rattle.ngc_job_words.specs.declared.call.AskedFault.{AskedFault}
use Rattle.ngc_job_words.specs.declared.call.AskedFault.TheVariants as faults
use Rattle.ngc_job_words.specs.declared.command.Family.{Family}

abbrev pub is_one : List Text → Bool
is_one (word ∷ []) = true
is_one _ = false

-- the only plain word of a command that reads a program is the program, unless --program is there
abbrev pub is_program : Family → Text → List Text → Bool
is_program family command rest =
    has_program family && is_one (plain_words rest)
    && not (has (codes "--program") (command ∷ kept_words rest))

-- the words for the command
abbrev pub words_for : Family → Text → List Text → List Text
words_for family command rest =
    if is_program family command rest then command ∷ named_words rest else command ∷ kept_words rest

abbrev pub one_file : Text → Result (Option Text) AskedFault
one_file file = if length file == 0 then Err faults.NoFile else Ok (Some file)

-- the file that these are: none or one, which has a name
abbrev pub file_of : List Text → Result (Option Text) AskedFault
file_of [] = Ok None
file_of (file ∷ []) = one_file file
file_of _ = Err faults.Twice

-- the same, if the last word may be a --job that lacks its file
abbrev pub file_by : Bool → List Text → Result (Option Text) AskedFault
file_by lacks files = if lacks then Err faults.NoFile else file_of files

-- the file that --job names, if it is there. The words are refused if --job is there twice or without
-- a file, or the file's name is empty
abbrev pub file_asked : List Text → Result (Option Text) AskedFault
file_asked rest = file_by (lacks_file rest) (job_files rest)

abbrev pub first_of : List Text → Option Text
first_of [] = None
first_of (text ∷ texts) = Some text

-- the file of --program
abbrev pub program_in : List Text → Option Text
program_in words = first_of (values_of (codes "--program") words)

-- ---- a call

pub record AskedValues : Type 0 where
  pub words : List Text
  pub job : Option Text
  pub program : Option Text

abbrev pub unasked : List Text → AskedValues
unasked words = record { words = words; job = None; program = None }

abbrev pub asked_with : List Text → Result (Option Text) AskedFault → Result AskedValues AskedFault
asked_with words (Err fault) = Err fault
asked_with words (Ok job) = Ok (record { words = words; job = job; program = program_in words })

abbrev pub asked_after : Text → List Text → Result AskedValues AskedFault
asked_after command rest =
    if is_other (family_named command) then Ok (unasked (command ∷ rest))
    else asked_with (words_for (family_named command) command rest) (file_asked rest)

-- what the words of a call ask for, or why they are refused. A call of a command that no job file
-- changes keeps its words
unfoldable pub asked_of : List Text → Result AskedValues AskedFault
asked_of [] = Ok (unasked [])
asked_of (command ∷ rest) = asked_after command rest

-- ---- the code

abbrev pub asked_values : Asked → AskedValues
asked_values a =
    record {
      words = map (λ w. w.now) a.words.items;
      job = option_map (λ j. j.now) a.job;
      program = option_map (λ p. p.now) a.program;
    }

abbrev pub fault_text : AskedFault → Text
fault_text faults.Twice =
    codes "error: the argument '--job <FILE>' cannot be used multiple times\n\nFor more information, try '--help'.\n"
fault_text faults.NoFile =
    codes "error: a value is required for '--job <FILE>' but none was supplied\n\nFor more information, try '--help'.\n"
fault_text faults.Memory = codes "ngc: fault 900\n"

-- a result, unless memory was refused
abbrev pub AskedIs : Result Asked AskedFault → Result AskedValues AskedFault → Type 0
AskedIs (Ok asked) says = says ≡ Ok (asked_values asked)
AskedIs (Err faults.Memory) says = Unit {0}
AskedIs (Err fault) says = says ≡ Err fault
