-- The motion by which a line is noted. Our own.
use Rattle.std.specs.Prelude.{List, Option, None, Result, Ok, Err}
use Rattle.ngc_dialect_parameters.specs.declared.statement.Word.{Word}
use Rattle.ngc_dialect_rules.specs.declared.code.Code.{Code}
use Rattle.ngc_dialect_rules.specs.declared.fault.Fault.{Fault}
use Rattle.ngc_dialect_rules.specs.declared.front.Known.{Known}
use Rattle.ngc_dialect_rules.specs.Moves.{motion_of}

abbrev pub accepted : Result (Option Code) Fault → Option Code
accepted (Ok motion) = motion
accepted (Err e) = None

-- that of the rules, and none where they refuse it
abbrev pub motion_on : Known → List Code → List Word → Option Code
motion_on k line words = accepted (motion_of k line words)
