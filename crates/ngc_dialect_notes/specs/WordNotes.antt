-- What is noted of a line's words that aren't codes. A word that nothing uses is left out by Mach3
-- and Fanuc; LinuxCNC and Grbl refuse it (their documentation). Our own.
use Rattle.std.specs.Prelude.{ℕ, ◌==◌, Bool, not, ◌&&◌, ◌||◌, List, [], ◌∷◌, Option}
use Rattle.std.specs.Prelude.{Some, None, if◌then◌else◌}
use Rattle.ngc_fixed_length.specs.Signed.{is_zero}
use Rattle.ngc_dialect_names.specs.declared.dialect.Dialect.{Dialect}
use Rattle.ngc_dialect_parameters.specs.declared.statement.Word.{Word}
use Rattle.ngc_dialect_rules.specs.declared.code.Code.{Code}
use Rattle.ngc_dialect_rules.specs.declared.front.Known.{Known}
use Rattle.ngc_dialect_rules.specs.Bytes as bytes
use Rattle.ngc_dialect_rules.specs.Moves.{counts_turns, is_one_of}
use Rattle.ngc_dialect_rules.specs.Tables.{has, is_fanuc, or_else}
use Rattle.ngc_dialect_rules.specs.Words.{is_other_axis}
use Rattle.ngc_dialect_rules.specs.declared.codes.TheConstants as codes
use Rattle.ngc_dialect_notes.specs.declared.noted.TheConstants as noted
use Rattle.ngc_dialect_notes.specs.declared.kind.Kind.{Kind}
use Rattle.ngc_dialect_notes.specs.declared.kind.Kind.TheVariants as kinds
use Rattle.ngc_dialect_notes.specs.declared.notes.Notes.{Notes}
use Rattle.ngc_dialect_notes.specs.InForce.{plane_on, third_offset}
use Rattle.ngc_dialect_notes.specs.Notes.{counted}

-- ---- words that nothing uses

-- the letters that may have no use
unfoldable pub idle_kind : ℕ → Option Kind
idle_kind letter =
    if letter == bytes.D then Some kinds.IdleD else (
    if letter == bytes.E then Some kinds.IdleE else (
    if letter == bytes.H then Some kinds.IdleH else (
    if letter == bytes.I then Some kinds.IdleI else (
    if letter == bytes.J then Some kinds.IdleJ else (
    if letter == bytes.K then Some kinds.IdleK else (
    if letter == bytes.L then Some kinds.IdleL else (
    if letter == bytes.P then Some kinds.IdleP else (
    if letter == bytes.Q then Some kinds.IdleQ else (
    if letter == bytes.R then Some kinds.IdleR else None)))))))))

-- the codes that use such a letter
unfoldable pub users_of : Dialect → ℕ → List Code
users_of d letter =
    if letter == bytes.D then codes.D_USERS else (
    if letter == bytes.E then noted.E_USERS else (
    if letter == bytes.H then codes.H_USERS else (
    if letter == bytes.K then (if is_fanuc d then noted.ARCS_AND_CYCLES else codes.ARCS) else (
    if letter == bytes.L then codes.L_USERS else (
    if letter == bytes.P then noted.P_USERS else (
    if letter == bytes.Q then noted.Q_USERS else (
    if letter == bytes.R then noted.ARCS_AND_CYCLES else codes.ARCS)))))))

-- whether the line has a code of a table, or makes a motion by one
abbrev pub is_on : List Code → List Code → Option Code → Bool
is_on table line motion = has table line || is_one_of table motion

-- P also counts the turns of an arc, in some dialects
abbrev pub is_used : Dialect → List Code → Option Code → ℕ → Bool
is_used d line motion letter =
    is_on (users_of d letter) line motion
    || ((letter == bytes.P) && counts_turns d && is_on codes.ARCS line motion)

-- H and D name offsets, also at 0
abbrev pub names_offset : ℕ → Bool
names_offset letter = (letter == bytes.D) || (letter == bytes.H)

abbrev pub idle_as : Word → Kind → Kind
idle_as w kind = if is_zero w.value && not (names_offset w.letter) then kinds.IdleZero else kind

-- I, J or K along the third axis of an arc
abbrev pub is_third : Known → List Code → Option Code → ℕ → Bool
is_third k line motion letter =
    is_one_of codes.ARCS motion && (letter == third_offset (plane_on k.modes.plane line))

abbrev pub idle_by : Known → List Code → Option Code → Word → Kind → Option Kind
idle_by k line motion w kind =
    if not (is_used k.dialect line motion w.letter) then Some (idle_as w kind) else (
    if is_third k line motion w.letter then Some (idle_as w kinds.ThirdOffset) else None)

abbrev pub idle : Known → List Code → Option Code → Word → Option Kind → Option Kind
idle k line motion w None = None
idle k line motion w (Some kind) = idle_by k line motion w kind

-- ---- numbers without a point

-- a length, or the time of U; K of a cycle counts holes, and Q is a length only there
unfoldable pub is_size : Option Code → ℕ → Bool
is_size motion letter =
    (letter == bytes.U) || (letter == bytes.X) || (letter == bytes.Y) || (letter == bytes.Z) || (letter == bytes.I)
    || (letter == bytes.J) || (letter == bytes.R)
    || ((letter == bytes.K) && is_one_of codes.ARCS motion)
    || ((letter == bytes.Q) && is_one_of codes.CYCLES motion)

abbrev pub lacks_point : Dialect → Option Code → Word → Bool
lacks_point d motion w =
    is_fanuc d && not w.point && not (is_zero w.value) && is_size motion w.letter

abbrev pub without_point : Dialect → Option Code → Word → Option Kind
without_point d motion w = if lacks_point d motion w then Some kinds.NoPoint else None

-- ---- other axes

-- U, V and W
abbrev pub is_second_axis : ℕ → Bool
is_second_axis letter = (letter == bytes.U) || (letter == bytes.V) || (letter == bytes.W)

-- U is the time of Fanuc's G4, and beside G28 and G30 U, V and W name X, Y and Z
abbrev pub is_taken : Dialect → List Code → ℕ → Bool
is_taken d line letter =
    is_fanuc d && is_second_axis letter && (has codes.DWELL line || has codes.HOMES line)

-- another axis, at 0
abbrev pub is_idle_axis : Dialect → List Code → ℕ → Bool
is_idle_axis d line letter = is_other_axis letter && not (is_taken d line letter)

-- ---- all

unfoldable pub kind_of : Known → List Code → Option Code → Word → Option Kind
kind_of k line motion w =
    if is_idle_axis k.dialect line w.letter then Some kinds.IdleAxis
    else or_else (idle k line motion w (idle_kind w.letter)) (without_point k.dialect motion w)

abbrev pub with_kind : ℕ → Option Kind → Notes → Notes
with_kind line None n = n
with_kind line (Some kind) n = counted line kind n

abbrev pub words_noted : ℕ → Known → List Code → Option Code → List Word → Notes → Notes
words_noted line k codes motion [] n = n
words_noted line k codes motion (w ∷ ws) n =
    words_noted line k codes motion ws (with_kind line (kind_of k codes motion w) n)
