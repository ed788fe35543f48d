-- Dialects, as far as notes need them. Our own.
use Rattle.std.specs.Prelude.{Bool, true, false}
use Rattle.ngc_dialect_names.specs.declared.dialect.Dialect.{Dialect}
use Rattle.ngc_dialect_names.specs.declared.dialect.Dialect.TheVariants as dialects

abbrev pub is_grbl : Dialect → Bool
is_grbl dialects.Grbl = true
is_grbl _ = false

abbrev pub is_mach3 : Dialect → Bool
is_mach3 dialects.Mach3 = true
is_mach3 _ = false

-- a cycle's line may leave out words of another cycle's code
abbrev pub keeps_words : Dialect → Bool
keeps_words dialects.Mach3 = true
keeps_words dialects.Fanuc = true
keeps_words _ = false
