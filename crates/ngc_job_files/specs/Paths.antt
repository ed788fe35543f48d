-- The files that a job file names. Our own.
use Rattle.std.specs.Prelude.{ℕ, nat_le, ◌==◌, List, length, Bool, not, ◌&&◌, if◌then◌else◌}
use Rattle.std.specs.Prelude.{Option, Some, None, option_map, option_and_then, Result, Ok}
use Rattle.std.specs.List.{list_all}
use Rattle.toml.specs.Data.{Data, as_str, get}
use Rattle.ngc_machine_figures.specs.declared.key.Key.{Key}
use Rattle.ngc_machine_figures.specs.declared.key.Key.TheVariants as keys
use Rattle.ngc_machine_figures.specs.declared.refusal.FileRefusal.{FileRefusal}
use Rattle.ngc_machine_figures.specs.declared.refusal.Wrong.TheVariants as wrongs
use Rattle.ngc_machine_figures.specs.Keys.{name_of}
use Rattle.ngc_machine_figures.specs.Reading.{◌>>=◌, found, optional_value}
use Rattle.ngc_job_files.specs.declared.job.JobPaths.{JobPaths}

-- no control character
abbrev pub is_of_path : ℕ → Bool
is_of_path b = nat_le 32 b && not (b == 127)

abbrev pub is_path : List ℕ → Bool
is_path text = not (length text == 0) && list_all is_of_path text

abbrev pub path_text : List ℕ → Option (List ℕ)
path_text text = if is_path text then Some text else None

abbrev pub path_in : Data → Option (List ℕ)
path_in value = option_and_then path_text (as_str value)

abbrev pub path_value : Key → Data → Result (List ℕ) FileRefusal
path_value key value = found key wrongs.NoPath (path_in value)

unfoldable pub path_at : Key → Data → Result (Option (List ℕ)) FileRefusal
path_at key tree = optional_value path_value key (get (name_of key) tree)

pub record Paths : Type 0 where
  pub machine : Option (List ℕ)
  pub tools : Option (List ℕ)

unfoldable pub paths_of : Data → Result Paths FileRefusal
paths_of tree = do
  machine ← path_at keys.Machine tree
  tools ← path_at keys.Tools tree
  Ok (record { machine = machine; tools = tools })

-- the texts in memory
abbrev pub paths_in : JobPaths → Paths
paths_in p = record { machine = option_map (λ t. t.now) p.machine; tools = option_map (λ t. t.now) p.tools }
