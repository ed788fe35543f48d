-- The folder of a file, and the job file of a call. Our own.
use Rattle.std.specs.Prelude.{ℕ, ◌==◌, List, [], ◌∷◌, ◌++◌, codes, Option, Some, None, string_bytes}
use Rattle.std.specs.Prelude.{Bool, true, false, ◌||◌, if◌then◌else◌}
use Rattle.std.specs.List.{list_any}
use Rattle.ngc_job_words.specs.Commands.{Text}
use Rattle.ngc_job_words.specs.declared.folder.JobFile.{JobFile}

-- a slash or a backslash
abbrev pub is_separator : ℕ → Bool
is_separator b = b == 47 || b == 92

-- the name up to its last separator, with it
abbrev pub folder_of : Text → Text
folder_of [] = []
folder_of (b ∷ name) =
    if is_separator b || list_any is_separator name then b ∷ folder_of name else []

-- a path from the root, or from a drive's letter and a colon
abbrev pub is_absolute : Text → Bool
is_absolute [] = false
is_absolute (a ∷ []) = is_separator a
is_absolute (a ∷ b ∷ path) = is_separator a || b == 58

abbrev pub joined : Text → Text → Text
joined folder path = folder ++ path

-- a path of a job file in this folder
abbrev pub path_in : Text → Text → Text
path_in folder path = if is_absolute path then path else joined folder path

-- ---- the job file

pub record File : Type 0 where
  pub name : Text
  pub is_named : Bool

abbrev pub default_file : Text → File
default_file program = record { name = folder_of program ++ codes "ngc.toml"; is_named = false }

abbrev pub named_file : Text → File
named_file name = record { name = name; is_named = true }

-- the file that the call names, or ngc.toml in the program's folder
abbrev pub job_file : Option Text → Option Text → Option File
job_file (Some name) program = Some (named_file name)
job_file None (Some program) = Some (default_file program)
job_file None None = None

abbrev pub file_in : JobFile → File
file_in f = record { name = string_bytes f.name; is_named = f.is_named }
