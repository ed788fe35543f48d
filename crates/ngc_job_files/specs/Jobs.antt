-- A job file: what the calls for a folder's programs may leave out. Our own.
use Rattle.std.specs.Prelude.{◌≡◌, ℕ, List, codes, Option, Some, None, Result, Ok, Err}
use Rattle.toml.specs.Data.{Data, get}
use Rattle.ngc_machine_figures.specs.declared.key.Key.TheVariants as keys
use Rattle.ngc_machine_figures.specs.declared.refusal.FileRefusal.{FileRefusal}
use Rattle.ngc_machine_figures.specs.Boxes.{stock_at}
use Rattle.ngc_machine_figures.specs.Found.{only_known}
use Rattle.ngc_machine_figures.specs.Kinds.{dialect_value, length_value, rapids_value}
use Rattle.ngc_machine_figures.specs.Reading.{◌>>=◌, optional}
use Rattle.ngc_machine_figures.specs.Sheets.{origins_at, third}
use Rattle.ngc_job_files.specs.Clamps.{clamps_at}
use Rattle.ngc_job_files.specs.Paths.{Paths, paths_of, paths_in}
use Rattle.ngc_job_files.specs.declared.job.JobFault.{JobFault}
use Rattle.ngc_job_files.specs.declared.job.JobFault.TheVariants.{Memory, Refused}
use Rattle.ngc_job_files.specs.declared.job.JobFixture.{JobFixture}
use Rattle.ngc_job_files.specs.declared.job.JobHead.{JobHead}
use Rattle.ngc_job_files.specs.declared.job.JobSheet.{JobSheet}
use Rattle.ngc_job_files.specs.declared.keys.TheConstants.{JOB_KEYS}

pub record Job : Type 0 where
  pub paths : Paths
  pub head : JobHead
  pub fixtures : List JobFixture

-- the version may be missing
abbrev pub version_found : Option Data → Result (Unit {0}) FileRefusal
version_found None = Ok tt
version_found (Some value) = third value

unfoldable pub version_at : Data → Result (Unit {0}) FileRefusal
version_at tree = version_found (get (codes "version") tree)

unfoldable pub known_at : Data → Result (Unit {0}) FileRefusal
known_at tree = version_at tree >>= λ version. only_known keys.File JOB_KEYS tree

unfoldable pub head_of : Data → Result JobHead FileRefusal
head_of tree = do
  dialect ← optional dialect_value keys.Dialect tree
  margin ← optional length_value keys.Margin tree
  travel_margin ← optional length_value keys.TravelMargin tree
  rapids ← optional rapids_value keys.Rapids tree
  origins ← origins_at tree
  stock ← stock_at tree
  Ok (record {
    dialect = dialect;
    margin = margin;
    travel_margin = travel_margin;
    rapids = rapids;
    origins = origins;
    stock = stock;
  })

-- what is written in the file, or the first refusal
unfoldable pub job_of : Data → Result Job FileRefusal
job_of tree = do
  known ← known_at tree
  paths ← paths_of tree
  head ← head_of tree
  fixtures ← clamps_at tree
  Ok (record { paths = paths; head = head; fixtures = fixtures })

abbrev pub values_of : JobSheet → Job
values_of s = record { paths = paths_in s.paths; head = s.head; fixtures = s.fixtures.items }

-- a reader's result is what the file says, unless memory was refused
abbrev pub SaysJob : Result JobSheet JobFault → Result Job FileRefusal → Type 0
SaysJob (Ok sheet) says = says ≡ Ok (values_of sheet)
SaysJob (Err (Refused refusal)) says = says ≡ Err refusal
SaysJob (Err Memory) says = Unit {0}
