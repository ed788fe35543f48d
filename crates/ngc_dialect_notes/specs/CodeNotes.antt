-- What is noted of a line's codes, each with its condition. LinuxCNC's meanings were compared with
-- LinuxCNC; those of the other dialects are from their documentation. Our own.
use Rattle.std.specs.Prelude.{ℕ, ℤ, Bool, true, false, not, ◌&&◌, ◌||◌, List, [], ◌∷◌, Option, Some, None}
use Rattle.std.specs.Prelude.{if◌then◌else◌}
use Rattle.ngc_fixed_length.specs.Signed.{is_zero}
use Rattle.ngc_dialect_names.specs.declared.dialect.Dialect.{Dialect}
use Rattle.ngc_dialect_parameters.specs.declared.statement.Word.{Word}
use Rattle.ngc_dialect_rules.specs.declared.code.Code.{Code}
use Rattle.ngc_dialect_rules.specs.declared.front.Known.{Known}
use Rattle.ngc_dialect_rules.specs.Bytes as bytes
use Rattle.ngc_dialect_rules.specs.Moves.{dwells_by_axis, has_axes}
use Rattle.ngc_dialect_rules.specs.Tables.{has, is_empty, is_fanuc, is_linuxcnc}
use Rattle.ngc_dialect_rules.specs.Words.{has_letter, value_of, word_of}
use Rattle.ngc_dialect_rules.specs.declared.codes.TheConstants as codes
use Rattle.ngc_dialect_notes.specs.declared.noted.TheConstants as noted
use Rattle.ngc_dialect_notes.specs.declared.kind.Kind.{Kind}
use Rattle.ngc_dialect_notes.specs.declared.kind.Kind.TheVariants as kinds
use Rattle.ngc_dialect_notes.specs.declared.notes.Notes.{Notes}
use Rattle.ngc_dialect_notes.specs.Dialects.{is_grbl}
use Rattle.ngc_dialect_notes.specs.InForce.{changes_units, ends_inverse_time, is_incremental}
use Rattle.ngc_dialect_notes.specs.InForce.{is_per_minute}
use Rattle.ngc_dialect_notes.specs.Notes.{all_noted}

-- ---- left out, or taken as another code

abbrev pub has_tolerance : List Code → List Word → Bool
has_tolerance line words =
    has noted.BLENDING line && (has_letter bytes.P words || has_letter bytes.Q words)

-- a code without axis words
abbrev pub is_lone : List Code → Dialect → List Code → List Word → Bool
is_lone table d line words = has table line && not (has_axes d line words)

unfoldable pub by_left_out : Known → List Code → List Word → List (Bool × Kind)
by_left_out k line words =
    (has noted.SWITCHES line, kinds.Switch)
    ∷ (has noted.LOOK_AHEAD line, kinds.LookAhead)
    ∷ (has codes.IDLE line, kinds.IdleCode)
    ∷ (has_tolerance line words, kinds.PathTolerance)
    ∷ (is_lone codes.MACHINE_PLACE k.dialect line words, kinds.LoneMachinePlace)
    ∷ (is_lone codes.CYCLES k.dialect line words, kinds.LoneCycle)
    ∷ (has noted.OLD_UNITS line, kinds.OldUnits)
    ∷ (has noted.TOOL_CENTRE line, kinds.ToolCentre)
    ∷ (has codes.COMPENSATION line, kinds.CutterRadius) ∷ []

-- ---- tools

abbrev pub has_no_h : List Code → List Word → Bool
has_no_h line words = has codes.TABLE_LENGTHS line && not (has_letter bytes.H words)

-- Grbl changes no tools
abbrev pub changes_tool_in_grbl : Dialect → List Code → Bool
changes_tool_in_grbl d line = is_grbl d && has codes.TOOL_CHANGE line

unfoldable pub by_tool : Known → List Code → List Word → List (Bool × Kind)
by_tool k line words =
    (has_no_h line words, kinds.LengthWithoutH)
    ∷ (changes_tool_in_grbl k.dialect line, kinds.ToolChange) ∷ []

-- ---- places and origins

-- an axis that G28 or G30 names, with Fanuc also by U, V or W
abbrev pub names_axis : Dialect → ℕ → ℕ → List Word → Bool
names_axis d axis other words = has_letter axis words || (is_fanuc d && has_letter other words)

-- one or two of three
abbrev pub is_mixed : Bool → Bool → Bool → Bool
is_mixed x y z = (x || y || z) && not (x && y && z)

abbrev pub names_some_axes : Dialect → List Word → Bool
names_some_axes d words =
    is_mixed (names_axis d bytes.X bytes.U words) (names_axis d bytes.Y bytes.V words)
    (names_axis d bytes.Z bytes.W words)

abbrev pub homes_some_axes : Dialect → List Code → List Word → Bool
homes_some_axes d line words = has codes.HOMES line && names_some_axes d words

abbrev pub is_place_in_g91 : Known → List Code → List Word → Bool
is_place_in_g91 k line words =
    has codes.MACHINE_PLACE line && is_incremental k.modes.distance line
    && has_axes k.dialect line words

-- another code takes the axis words, and the motion code sets only the mode
abbrev pub is_motion_apart : Dialect → List Code → List Word → Bool
is_motion_apart d line words =
    has codes.TAKE_AXES line && has codes.MOTIONS line && has_axes d line words

abbrev pub adds_to_origin : Known → List Code → Bool
adds_to_origin k line =
    is_fanuc k.dialect && has codes.SETTING line && is_incremental k.modes.distance line

abbrev pub is_zero_or_none : Option ℤ → Bool
is_zero_or_none None = true
is_zero_or_none (Some v) = is_zero v

-- G10 with P0 or without P
abbrev pub sets_system_in_force : List Code → List Word → Bool
sets_system_in_force line words =
    has codes.SETTING line && is_zero_or_none (value_of bytes.P words)

unfoldable pub by_place : Known → List Code → List Word → List (Bool × Kind)
by_place k line words =
    (is_place_in_g91 k line words, kinds.MachinePlaceInG91)
    ∷ (homes_some_axes k.dialect line words, kinds.HomeAxes)
    ∷ (is_motion_apart k.dialect line words, kinds.MotionApart)
    ∷ (adds_to_origin k line, kinds.OriginAdded)
    ∷ (sets_system_in_force line words, kinds.SystemInForce)
    ∷ (has codes.LOCAL_OFFSET line, kinds.LocalOffset) ∷ []

-- ---- feeds and times

abbrev pub feeds_in_new_units : Known → List Code → List Word → Bool
feeds_in_new_units k line words =
    has_letter bytes.F words && changes_units k.modes.units line
    && is_per_minute k.modes.feed_mode line

abbrev pub keeps_feed : Known → List Code → List Word → Bool
keeps_feed k line words =
    ends_inverse_time k.modes.feed_mode line && not (has_letter bytes.F words)

-- a time without a point; 0 is the same in both units
abbrev pub is_in_milliseconds : Option Word → Bool
is_in_milliseconds None = false
is_in_milliseconds (Some w) = not w.point && not (is_zero w.value)

abbrev pub dwells_in_milliseconds : Dialect → List Code → List Word → Bool
dwells_in_milliseconds d line words =
    is_fanuc d && has codes.DWELL line && is_in_milliseconds (word_of bytes.P words)

-- beside X or U: one word is the time, and the others are left out
abbrev pub is_beside_dwell : List Word → Bool
is_beside_dwell words =
    has_letter bytes.P words || has_letter bytes.Y words || has_letter bytes.Z words
    || (has_letter bytes.X words && has_letter bytes.U words)

abbrev pub has_words_beside_dwell : Dialect → List Code → List Word → Bool
has_words_beside_dwell d line words = dwells_by_axis d line words && is_beside_dwell words

unfoldable pub by_feed : Known → List Code → List Word → List (Bool × Kind)
by_feed k line words =
    (feeds_in_new_units k line words, kinds.FeedUnits)
    ∷ (keeps_feed k line words, kinds.KeptFeed)
    ∷ (dwells_in_milliseconds k.dialect line words, kinds.Milliseconds)
    ∷ (has_words_beside_dwell k.dialect line words, kinds.BesideDwell) ∷ []

-- ---- all

-- what LinuxCNC does too isn't noted of it
abbrev pub by_others : Known → ℕ → List Code → List Word → Notes → Notes
by_others k line codes words n =
    if is_linuxcnc k.dialect then n
    else all_noted line (by_feed k codes words) (all_noted line (by_place k codes words)
    (all_noted line (by_tool k codes words) n))

unfoldable pub codes_noted : ℕ → Known → List Code → List Word → Notes → Notes
codes_noted line k codes words n =
    if is_empty codes then n
    else by_others k line codes words (all_noted line (by_left_out k codes words) n)
