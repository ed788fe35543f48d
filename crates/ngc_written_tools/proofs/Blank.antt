-- A file of white space and comments isn't of version 3.
use Rattle.std.proofs.Common.{◌≡◌, ℕ, List, Option, Some, None, IsSome, Bool, true, false, Result, Err, refl, codes}
use Rattle.toml.specs.Data.{Data, get, as_integer}
use Rattle.toml.specs.Errors.{IsBlank}
use Rattle.ngc_machine_files.specs.Tree.{tree_of, ◌>>=◌}
use Rattle.ngc_machine_files.proofs.BlankFiles.{read-blank}
use Rattle.ngc_machine_figures.specs.Version.{is_third, is_written}

keyed : (o : Option Data) → is_third (o >>= as_integer) ≡ true → IsSome o
keyed None h = cc
keyed (Some value) h = refl

abbrev failed : Result ℕ ℕ
failed = Err 0

-- so it can't be one
pub unwritten : {A : Type 0} (bytes : List ℕ) (tree : Data) → Some tree ≡ tree_of bytes → is_written tree ≡ true → IsBlank bytes → A
unwritten bytes tree same third blank =
    let no : false ≡ true = read-blank failed bytes tree (codes "version") same (keyed (get (codes "version") tree) third) blank in
    cc
