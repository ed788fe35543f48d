-- What the parameters of dialects differ in (LinuxCNC, "G-code overview", "Numbered parameters";
-- Fanuc, "Custom macro", "Variables").
use Rattle.std.specs.Prelude.{ℕ, Bool, true, false}
use Rattle.ngc_dialect_names.specs.declared.dialect.Dialect.{Dialect}
use Rattle.ngc_dialect_names.specs.declared.dialect.Dialect.TheVariants as dialects

-- the parameters that can be stored: those below this number
abbrev pub COUNT : ℕ
COUNT = 6000

-- how many names may be set that belong to one call, and how many that belong to all
abbrev pub NAMES : ℕ
NAMES = 10000

-- the number from which on parameters belong to the control
abbrev pub first_of_control : Dialect → ℕ
first_of_control dialects.LinuxCnc = 5161
first_of_control dialects.Grbl = 5161
first_of_control dialects.Mach3 = 5161
first_of_control dialects.Fanuc = 1000

-- the parameters from 1 up to this one belong to a call
abbrev pub local_count : Dialect → ℕ
local_count dialects.LinuxCnc = 30
local_count dialects.Grbl = 30
local_count dialects.Mach3 = 30
local_count dialects.Fanuc = 33

-- whether an unset parameter is empty, and each setting of a line takes effect before the next one is
-- computed
abbrev pub has_macros : Dialect → Bool
has_macros dialects.LinuxCnc = false
has_macros dialects.Grbl = false
has_macros dialects.Mach3 = false
has_macros dialects.Fanuc = true
