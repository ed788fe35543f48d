-- What is noted of the motion that a line makes: of all dialects a centre that is moved, and the rest
-- of other dialects than LinuxCNC's, whose motions were compared. Our own.
use Rattle.std.specs.Prelude.{ℕ, Bool, false, not, ◌&&◌, ◌||◌, List, [], ◌∷◌, Option, Some, None}
use Rattle.std.specs.Prelude.{is_some, if◌then◌else◌}
use Rattle.ngc_dialect_names.specs.declared.dialect.Dialect.{Dialect}
use Rattle.ngc_dialect_parameters.specs.declared.statement.Word.{Word}
use Rattle.ngc_dialect_rules.specs.declared.code.Code.{Code}
use Rattle.ngc_dialect_rules.specs.declared.front.KeptSeries.{KeptSeries}
use Rattle.ngc_dialect_rules.specs.declared.front.Known.{Known}
use Rattle.ngc_dialect_rules.specs.Bytes as bytes
use Rattle.ngc_dialect_rules.specs.Codes.{is_code}
use Rattle.ngc_dialect_rules.specs.Moves.{has_offsets}
use Rattle.ngc_dialect_rules.specs.Tables.{is_among, is_fanuc, is_linuxcnc}
use Rattle.ngc_dialect_rules.specs.Words.{has_letter, word_of}
use Rattle.ngc_dialect_rules.specs.declared.codes.TheConstants as tables
use Rattle.ngc_dialect_notes.specs.declared.noted.TheConstants as noted
use Rattle.ngc_dialect_notes.specs.declared.kind.Kind.{Kind}
use Rattle.ngc_dialect_notes.specs.declared.kind.Kind.TheVariants as kinds
use Rattle.ngc_dialect_notes.specs.declared.notes.Notes.{Notes}
use Rattle.ngc_dialect_notes.specs.declared.notes.Said.{Said}
use Rattle.ngc_dialect_notes.specs.CodeNotes.{is_in_milliseconds}
use Rattle.ngc_dialect_notes.specs.Dialects.{is_grbl, is_mach3, keeps_words}
use Rattle.ngc_dialect_notes.specs.InForce.{depth_letter, plane_on, u_letter, v_letter}
use Rattle.ngc_dialect_notes.specs.MovedCentres.{has_moved_centre}
use Rattle.ngc_dialect_notes.specs.Notes.{all_noted, note_if}

-- ---- arcs

abbrev pub has_no_end : Known → List Code → List Word → Bool
has_no_end k line words =
    not (has_letter (u_letter (plane_on k.modes.plane line)) words
    || has_letter (v_letter (plane_on k.modes.plane line)) words)

-- a setting of Mach3 says how centres are given before the first G90.1 or G91.1
abbrev pub has_unsaid_centre : Dialect → Said → List Word → Bool
has_unsaid_centre d said words = is_mach3 d && not said.centres && has_offsets words

unfoldable pub by_arc : Known → Said → List Code → List Word → List (Bool × Kind)
by_arc k said line words =
    (has_no_end k line words, kinds.FullCircle)
    ∷ (has_unsaid_centre k.dialect said words, kinds.CentreMode) ∷ []

-- ---- canned cycles

-- P that the series of cycles keeps for a line with this code
abbrev pub has_kept_dwell : Dialect → Code → Option KeptSeries → Bool
has_kept_dwell d code None = false
has_kept_dwell d code (Some s) = is_some s.dwell && (is_code s.code code || keeps_words d)

abbrev pub has_no_dwell : Known → Code → List Word → Bool
has_no_dwell k code words =
    is_among noted.DWELLING code && not (has_letter bytes.P words)
    && not (has_kept_dwell k.dialect code k.front.series)

-- a line lacks R, the depth, the P of a cycle that dwells, or the Q of one that pecks
abbrev pub lacks_word : Known → List Code → Code → List Word → Bool
lacks_word k line code words =
    not (has_letter bytes.R words)
    || not (has_letter (depth_letter (plane_on k.modes.plane line)) words)
    || (is_among noted.DWELLING code && not (has_letter bytes.P words))
    || (is_among noted.PECKS code && not (has_letter bytes.Q words))

-- the series before has another code
abbrev pub follows_other : Code → Option KeptSeries → Bool
follows_other code None = false
follows_other code (Some s) = not (is_code s.code code)

abbrev pub takes_kept_words : Known → List Code → Code → List Word → Bool
takes_kept_words k line code words =
    keeps_words k.dialect && follows_other code k.front.series && lacks_word k line code words

abbrev pub counts_holes : Dialect → List Word → Bool
counts_holes d words = is_fanuc d && (has_letter bytes.K words || has_letter bytes.L words)

abbrev pub dwells_in_milliseconds : Dialect → Code → List Word → Bool
dwells_in_milliseconds d code words =
    is_fanuc d && is_among noted.DWELLING code && is_in_milliseconds (word_of bytes.P words)

unfoldable pub by_cycle : Known → Said → List Code → Code → List Word → List (Bool × Kind)
by_cycle k said line code words =
    (is_grbl k.dialect, kinds.CycleInGrbl)
    ∷ (not said.retract, kinds.StartRetract)
    ∷ (has_no_dwell k code words, kinds.NoDwell)
    ∷ (dwells_in_milliseconds k.dialect code words, kinds.Milliseconds)
    ∷ (is_among noted.CLEARING code, kinds.PeckClearance)
    ∷ (is_among noted.CHIP_BREAKING code, kinds.ChipBreaking)
    ∷ (takes_kept_words k line code words, kinds.KeptWords)
    ∷ (counts_holes k.dialect words, kinds.HoleCount) ∷ []

-- ---- all

-- a motion before the first motion code
abbrev pub is_unsaid_motion : Dialect → Said → Bool
is_unsaid_motion d said = is_grbl d && not said.motion

abbrev pub special_noted : ℕ → Known → List Code → List Word → Code → Notes → Notes
special_noted line k codes words code n =
    if is_among tables.ARCS code then all_noted line (by_arc k n.said codes words) n else (
    if is_among tables.CYCLES code then all_noted line (by_cycle k n.said codes code words) n else n)

abbrev pub other_by : ℕ → Known → List Code → List Word → Code → Notes → Notes
other_by line k codes words code n =
    if is_linuxcnc k.dialect then n
    else special_noted line k codes words code
    (note_if (is_unsaid_motion k.dialect n.said) line kinds.FirstTraverse n)

abbrev pub motion_by : ℕ → Known → List Code → List Word → Code → Notes → Notes
motion_by line k codes words code n =
    other_by line k codes words code
    (note_if (has_moved_centre k codes words code) line kinds.MovedCentre n)

abbrev pub motion_noted : ℕ → Known → List Code → List Word → Option Code → Notes → Notes
motion_noted line k codes words None n = n
motion_noted line k codes words (Some code) n = motion_by line k codes words code n
