-- The files that a page passes.
use Rattle.std.specs.Prelude.{ℕ, List, [], Some, None, codes, if◌then◌else◌}
use Rattle.std.specs.Str.{bytes_eq}
use Rattle.ngc_inputs.specs.Setups.{FileBytes}

-- The four files have their names, and any other file and standard input are empty.
abbrev pub passed : List ℕ → List ℕ → List ℕ → List ℕ → FileBytes
passed program machine tools certificate None = Some []
passed program machine tools certificate (Some name) =
    if bytes_eq name (codes "program") then Some program
    else if bytes_eq name (codes "machine") then Some machine
    else if bytes_eq name (codes "tools") then Some tools
    else if bytes_eq name (codes "certificate") then Some certificate else Some []

-- The job file has its name, and any other file and standard input are empty.
abbrev pub job_passed : List ℕ → List ℕ → FileBytes
job_passed name job None = Some []
job_passed name job (Some other) = if bytes_eq other name then Some job else Some []
