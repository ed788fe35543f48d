-- The motion that a line makes, and the words that nothing uses (LinuxCNC's documentation, "Modal
-- groups", "G53"; NISTIR 6556, 3.5).
use Rattle.std.specs.Prelude.{ℕ, Bool, true, false, not, ◌&&◌, ◌||◌, List, Option}
use Rattle.std.specs.Prelude.{Some, None, Result, Ok, Err}
use Rattle.std.specs.Prelude.{if◌then◌else◌}
use Rattle.ngc_fixed_length.specs.declared.modes.Distance.{Distance}
use Rattle.ngc_fixed_length.specs.declared.modes.Distance.TheVariants.{Absolute, Incremental}
use Rattle.ngc_dialect_names.specs.declared.dialect.Dialect.{Dialect}
use Rattle.ngc_dialect_names.specs.declared.dialect.Dialect.TheVariants as dialects
use Rattle.ngc_dialect_parameters.specs.declared.statement.Word.{Word}
use Rattle.ngc_dialect_rules.specs.declared.code.Code.{Code}
use Rattle.ngc_dialect_rules.specs.declared.code.Code.TheVariants.{G}
use Rattle.ngc_dialect_rules.specs.declared.codes.TheConstants as codes
use Rattle.ngc_dialect_rules.specs.declared.fault.Cause.TheVariants as causes
use Rattle.ngc_dialect_rules.specs.declared.fault.Fault.{Fault}
use Rattle.ngc_dialect_rules.specs.declared.plan.InForce.{InForce}
use Rattle.ngc_dialect_rules.specs.declared.front.Known.{Known}
use Rattle.ngc_dialect_rules.specs.Faults.{about_code, about_letter}
use Rattle.ngc_dialect_rules.specs.Tables.{has, code_in, is_among, is_linuxcnc, is_fanuc, or_else}
use Rattle.ngc_dialect_rules.specs.Words.{has_letter}
use Rattle.ngc_dialect_rules.specs.Bytes as bytes

-- Fanuc's dwell takes X or U
abbrev pub dwells_by_axis : Dialect → List Code → List Word → Bool
dwells_by_axis d line words =
    is_fanuc d && has codes.DWELL line && (has_letter bytes.X words || has_letter bytes.U words)

unfoldable pub has_axes : Dialect → List Code → List Word → Bool
has_axes d line words =
    not (dwells_by_axis d line words) && (has_letter bytes.X words || has_letter bytes.Y words
    || has_letter bytes.Z words)

-- the first axis that is named
abbrev pub first_axis : List Word → ℕ
first_axis words =
    if has_letter bytes.X words then bytes.X else (if has_letter bytes.Y words then bytes.Y else bytes.Z)

abbrev pub has_offsets : List Word → Bool
has_offsets words =
    has_letter bytes.I words || has_letter bytes.J words || has_letter bytes.K words

-- an arc's code of the line moves by I, J, K and R too; one in force by I, J and K
abbrev pub has_arc_words : Code → List Word → Bool
has_arc_words code words =
    is_among codes.ARCS code && (has_offsets words || has_letter bytes.R words)

abbrev pub is_one_of : List Code → Option Code → Bool
is_one_of table None = false
is_one_of table (Some code) = is_among table code

unfoldable pub goes_on : Known → List Code → List Word → Bool
goes_on k line words =
    is_one_of codes.ARCS k.front.motion && has_offsets words
    && not (has codes.MOTION_END line) && not (has codes.TAKE_AXES line)

-- A motion code of the line moves if there are words for it and no other code takes them.
abbrev pub moved_by_code : Dialect → List Code → Bool → Code → Result (Option Code) Fault
moved_by_code d line axes code =
    if axes && has codes.WORD_LENGTH line then Err (about_code causes.MotionBesideLength code) else (
    if axes && has codes.TAKE_AXES line
    then (if is_linuxcnc d then Err (about_code causes.AxesTwice code) else Ok None)
    else Ok (if axes then Some code else None))

-- Axis words alone move by the motion mode.
abbrev pub moved_by_mode : ℕ → Option Code → Result (Option Code) Fault
moved_by_mode axis None = Err (about_letter causes.NoMotionCode axis)
moved_by_mode axis (Some code) = Ok (Some code)

abbrev pub moved_without_code : Known → List Code → List Word → Bool → Result (Option Code) Fault
moved_without_code k line words axes =
    if not axes then Ok None else (
    if has codes.TAKE_AXES line
    then (if has codes.WORD_LENGTH line then Err (about_code causes.AxesTwice (G 431)) else Ok None)
    else (
    if has codes.MOTION_END line then Err (about_letter causes.AxesBesideEnd (first_axis words)) else (
    if has codes.WORD_LENGTH line then Ok None else moved_by_mode (first_axis words) k.front.motion)))

abbrev pub moved_by : Known → List Code → List Word → Option Code → Result (Option Code) Fault
moved_by k line words None =
    moved_without_code k line words (has_axes k.dialect line words || goes_on k line words)
moved_by k line words (Some code) =
    moved_by_code k.dialect line (has_axes k.dialect line words || has_arc_words code words) code

-- the code of the motion that the line makes, if it makes one
unfoldable pub motion_of : Known → List Code → List Word → Result (Option Code) Fault
motion_of k line words = moved_by k line words (code_in codes.MOTIONS line)

-- ---- G53

abbrev pub is_straight : Option Code → Bool
is_straight None = false
is_straight (Some code) = is_among codes.STRAIGHT code

abbrev pub is_incremental : Distance → Bool
is_incremental Absolute = false
is_incremental Incremental = true

-- LinuxCNC has G53 with G0 and G1 alone; LinuxCNC and Fanuc have none in G91
unfoldable pub machine_place_fault : Known → List Code → InForce → Option Fault
machine_place_fault k line force =
    if not (has codes.MACHINE_PLACE line) then None else (
    if is_linuxcnc k.dialect
    && not (is_straight (or_else (code_in codes.MOTIONS line) k.front.motion))
    then Some (about_code causes.NotStraight (G 530)) else (
    if (is_linuxcnc k.dialect || is_fanuc k.dialect) && is_incremental force.distance
    then Some (about_code causes.MachinePlaceInG91 (G 530)) else None))

-- ---- words that nothing uses

-- a letter that is on the line, where no code and no motion uses it
unfoldable pub is_idle : List Code → ℕ → List Code → Option Code → List Word → Bool
is_idle users letter line moves words =
    has_letter letter words && not (has users line || is_one_of users moves)

abbrev pub counts_turns : Dialect → Bool
counts_turns dialects.LinuxCnc = true
counts_turns dialects.Grbl = true
counts_turns _ = false

abbrev pub users_of_p : Dialect → List Code
users_of_p d = if counts_turns d then codes.P_USERS else codes.P_USERS_WITHOUT_TURNS

unfoldable pub idle_letter : Dialect → List Code → Option Code → List Word → Option ℕ
idle_letter d line moves words =
    if is_idle (users_of_p d) bytes.P line moves words then Some bytes.P else (
    if is_idle codes.Q_USERS bytes.Q line moves words then Some bytes.Q else (
    if is_idle codes.R_USERS bytes.R line moves words then Some bytes.R else (
    if is_idle codes.L_USERS bytes.L line moves words then Some bytes.L else (
    if is_idle codes.H_USERS bytes.H line moves words then Some bytes.H else (
    if is_idle codes.D_USERS bytes.D line moves words then Some bytes.D else (
    if has_letter bytes.E words then Some bytes.E else (
    if is_idle codes.I_USERS bytes.I line moves words then Some bytes.I else (
    if is_idle codes.I_USERS bytes.J line moves words then Some bytes.J else (
    if is_idle codes.K_USERS bytes.K line moves words then Some bytes.K else None)))))))))

-- Mach3 and Fanuc leave such words out
abbrev pub refuses_idle : Dialect → Bool
refuses_idle dialects.LinuxCnc = true
refuses_idle dialects.Grbl = true
refuses_idle _ = false

abbrev pub idle_at : Option ℕ → Option Fault
idle_at None = None
idle_at (Some letter) = Some (about_letter causes.NoUse letter)

unfoldable pub idle_fault : Dialect → List Code → Option Code → List Word → Option Fault
idle_fault d line moves words =
    if refuses_idle d then idle_at (idle_letter d line moves words) else None
