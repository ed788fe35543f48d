-- What a series of cycles keeps (LinuxCNC's documentation, "Canned cycles"). A line may leave out
-- R, the depth, P and Q if the line before it has the same code; with Mach3 and Fanuc also after
-- another cycle's code.
use Rattle.std.specs.Prelude.{ℤ, Bool, true, false, not, ◌||◌, List, Option, Some, None, Result}
use Rattle.std.specs.Prelude.{Ok, Err, option_map, if◌then◌else◌}
use Rattle.ngc_dialect_names.specs.declared.dialect.Dialect.{Dialect}
use Rattle.ngc_dialect_names.specs.declared.dialect.Dialect.TheVariants as dialects
use Rattle.ngc_dialect_parameters.specs.declared.statement.Word.{Word}
use Rattle.ngc_dialect_rules.specs.declared.code.Code.{Code}
use Rattle.ngc_dialect_rules.specs.declared.fault.Cause.TheVariants as causes
use Rattle.ngc_dialect_rules.specs.declared.fault.Fault.{Fault}
use Rattle.ngc_dialect_rules.specs.declared.front.KeptSeries.{KeptSeries}
use Rattle.ngc_dialect_rules.specs.declared.front.Known.{Known}
use Rattle.ngc_dialect_rules.specs.Amounts.{seconds}
use Rattle.ngc_dialect_rules.specs.Bytes as bytes
use Rattle.ngc_dialect_rules.specs.Codes.{is_code}
use Rattle.ngc_dialect_rules.specs.Faults.{◌>>=◌, about_code}
use Rattle.ngc_dialect_rules.specs.Words.{value_of, word_of}
use Rattle.ngc_dialect_drilling.specs.Heights.{level_here}
use Rattle.ngc_dialect_drilling.specs.Places.{depth_letter}

abbrev pub needs_words_again : Dialect → Bool
needs_words_again dialects.LinuxCnc = true
needs_words_again dialects.Grbl = true
needs_words_again _ = false

-- the series whose words a line of this code may leave out
abbrev pub kept_for : Dialect → Code → Option KeptSeries → Option KeptSeries
kept_for d code None = None
kept_for d code (Some kept) =
    if is_code kept.code code || not (needs_words_again d) then Some kept else None

-- the line's word, else the kept one
abbrev pub or_kept : Option ℤ → Option ℤ → Option ℤ
or_kept (Some v) kept = Some v
or_kept None kept = kept

-- a word that each cycle needs
abbrev pub needed : Code → Option ℤ → Result ℤ Fault
needed code (Some v) = Ok v
needed code None = Err (about_code causes.WordMissing code)

abbrev pub retract_in : Option KeptSeries → Option ℤ
retract_in None = None
retract_in (Some kept) = Some kept.retract

abbrev pub depth_in : Option KeptSeries → Option ℤ
depth_in None = None
depth_in (Some kept) = Some kept.depth

abbrev pub dwell_in : Option KeptSeries → Option ℤ
dwell_in None = None
dwell_in (Some kept) = kept.dwell

abbrev pub peck_in : Option KeptSeries → Option ℤ
peck_in None = None
peck_in (Some kept) = kept.peck

-- P in millionths of a second
abbrev pub dwell_on : Dialect → List Word → Option ℤ
dwell_on d words = option_map (seconds d) (word_of bytes.P words)

-- The initial level is the height where the series began.
abbrev pub level_in : Known → Option KeptSeries → Result ℤ Fault
level_in k None = level_here k
level_in k (Some series) = Ok series.level

abbrev pub level_of : Known → Result ℤ Fault
level_of k = level_in k k.front.series

unfoldable pub kept_after : Known → Code → List Word → Result KeptSeries Fault
kept_after k code words =
    let kept = kept_for k.dialect code k.front.series in
    (needed code (or_kept (value_of bytes.R words) (retract_in kept)) >>= λ retract.
    needed code (or_kept (value_of (depth_letter k.modes.plane) words) (depth_in kept)) >>= λ depth.
    level_of k >>= λ level.
    Ok (record {
      code = code;
      level = level;
      retract = retract;
      depth = depth;
      dwell = or_kept (dwell_on k.dialect words) (dwell_in kept);
      peck = or_kept (value_of bytes.Q words) (peck_in kept);
    }))
