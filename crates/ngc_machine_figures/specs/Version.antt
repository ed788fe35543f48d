-- Which machine files and tool tables are of version 3. Our own.
use Rattle.std.specs.Prelude.{ℤ, pos, codes, Bool, false, Option, Some, None}
use Rattle.std.specs.Ordering.{int_eq}
use Rattle.toml.specs.Data.{Data}
use Rattle.ngc_machine_files.specs.Tree.{whole_at}

abbrev pub is_third : Option ℤ → Bool
is_third None = false
is_third (Some version) = int_eq version (pos 3)

-- a tree of version 3
abbrev pub is_written : Data → Bool
is_written tree = is_third (whole_at (codes "version") tree)
