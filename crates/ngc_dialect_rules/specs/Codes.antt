-- Codes: a G code in tenths, or an M code.
use Rattle.std.specs.Prelude.{◌==◌, Bool, false}
use Rattle.ngc_dialect_rules.specs.declared.code.Code.{Code}
use Rattle.ngc_dialect_rules.specs.declared.code.Code.TheVariants.{G, M}

abbrev pub is_code : Code → Code → Bool
is_code (G a) (G b) = a == b
is_code (M a) (M b) = a == b
is_code _ _ = false
