-- Limits of tools. Our own.
use Rattle.std.specs.Prelude.{ℕ, ◌==◌, nat_le, List, find, Option, Bool, ◌&&◌}
use Rattle.ngc_file_figures.specs.declared.limits.Limits.{Limits}
use Rattle.ngc_file_figures.specs.declared.limits.ToolLimits.{ToolLimits}

-- a number is within limits
abbrev pub hold : Limits → ℕ → Bool
hold l number = nat_le l.least number && nat_le number l.greatest

abbrev pub is_of : ℕ → ToolLimits → Bool
is_of number l = l.number == number

-- what a table says of the tool with this number
abbrev pub limits_of : ℕ → List ToolLimits → Option ToolLimits
limits_of number table = find (is_of number) table
