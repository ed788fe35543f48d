-- The codes of a line: their modal groups, and those that a dialect lacks. The groups are those of
-- LinuxCNC's documentation ("Modal groups"). The tables of
-- codes are constants of the code.
use Rattle.std.specs.Prelude.{◌==◌, nat_le, Bool, true, false, not, ◌&&◌, ◌||◌, List, Option}
use Rattle.std.specs.Prelude.{Some, None, Result, Ok, Err, find, is_some, count_by}
use Rattle.std.specs.Prelude.{length, ◌++◌, ◌∷◌, [], if◌then◌else◌}
use Rattle.std.specs.List.{list_any}
use Rattle.ngc_dialect_names.specs.declared.dialect.Dialect.{Dialect}
use Rattle.ngc_dialect_names.specs.declared.dialect.Dialect.TheVariants as dialects
use Rattle.ngc_dialect_rules.specs.declared.code.Code.{Code}
use Rattle.ngc_dialect_rules.specs.declared.code.Code.TheVariants.{G, M}
use Rattle.ngc_dialect_rules.specs.declared.codes.TheConstants as codes
use Rattle.ngc_dialect_rules.specs.declared.fault.Cause.TheVariants as causes
use Rattle.ngc_dialect_rules.specs.declared.fault.Fault.{Fault}
use Rattle.ngc_dialect_rules.specs.declared.fault.LeftOut.{LeftOut}
use Rattle.ngc_dialect_rules.specs.declared.fault.LeftOut.TheVariants as things
use Rattle.ngc_dialect_rules.specs.Codes.{is_code}
use Rattle.ngc_dialect_rules.specs.Faults.{about_code}

unfoldable pub is_among : List Code → Code → Bool
is_among table code = list_any (λ c. is_code c code) table

-- the first code of a line that is in a table
unfoldable pub code_in : List Code → List Code → Option Code
code_in table line = find (λ c. is_among table c) line

abbrev pub has : List Code → List Code → Bool
has table line = is_some (code_in table line)

-- the codes of a code's modal group; none for a code that may be beside any other
unfoldable pub group_of : Code → List Code
group_of code =
    if is_among codes.MOTIONS code then codes.MOTIONS else (
    if is_among codes.MOTION_END code then codes.MOTION_END else (
    if is_among codes.PLANES code then codes.PLANES else (
    if is_among codes.DISTANCES code then codes.DISTANCES else (
    if is_among codes.CENTRES code then codes.CENTRES else (
    if is_among codes.FEED_MODES code then codes.FEED_MODES else (
    if is_among codes.UNITS code then codes.UNITS else (
    if is_among codes.COMPENSATIONS code then codes.COMPENSATIONS else (
    if is_among codes.LENGTHS code then codes.LENGTHS else (
    if is_among codes.RETRACTS code then codes.RETRACTS else (
    if is_among codes.SYSTEMS code then codes.SYSTEMS else (
    if is_among codes.PATHS code then codes.PATHS else (
    if is_among codes.NON_MODAL code then codes.NON_MODAL else (
    if is_among codes.STOPS code then codes.STOPS else (
    if is_among codes.TOOL_CHANGE code then codes.TOOL_CHANGE else (
    if is_among codes.SPINDLE code then codes.SPINDLE else (
    if is_among codes.COOLANT code then codes.COOLANT else (
    if is_among codes.OVERRIDES code then codes.OVERRIDES else [])))))))))))))))))

-- whether a dialect lacks a code that another one has
unfoldable pub lacks : Dialect → Code → Bool
lacks dialects.LinuxCnc code = is_among codes.NOT_LINUXCNC code
lacks dialects.Grbl code = is_among codes.NOT_GRBL code
lacks dialects.Mach3 code = is_among codes.NOT_MACH3 code
lacks dialects.Fanuc code = is_among codes.NOT_FANUC code

abbrev pub is_fanuc : Dialect → Bool
is_fanuc dialects.Fanuc = true
is_fanuc _ = false

abbrev pub is_linuxcnc : Dialect → Bool
is_linuxcnc dialects.LinuxCnc = true
is_linuxcnc _ = false

-- what our own language doesn't have: motions
unfoldable pub left_out_motion : Dialect → Code → Option LeftOut
left_out_motion d code =
    if is_among codes.TAPPING code then Some things.Tapping else (
    if is_among codes.BACK_BORING code then Some things.BackBoring else (
    if is_among codes.THREADS code then Some things.Threads else (
    if is_among codes.PROBING code then Some things.Probing else (
    if not (is_fanuc d) && is_among codes.SPLINES code then Some things.Splines else None))))

-- modes; how the others compensate isn't known well enough
unfoldable pub left_out_mode : Dialect → Code → Option LeftOut
left_out_mode d code =
    if is_among codes.ROTATION code then Some things.Rotation else (
    if is_among codes.POLAR code then Some things.Polar else (
    if is_among codes.MORE_SYSTEMS code then Some things.MoreSystems else (
    if is_among codes.FEED_PER_TURN code then Some things.FeedPerTurn else (
    if is_among codes.DIAMETERS code then Some things.Diameters else (
    if is_among codes.SECOND_OFFSET code then Some things.SecondOffset else (
    if not (is_linuxcnc d) && is_among codes.COMPENSATION code then Some things.Compensation
    else None))))))

-- and M codes
unfoldable pub left_out_switch : Code → Option LeftOut
left_out_switch code =
    if is_among codes.SPINDLE_ANGLE code then Some things.SpindleAngle else (
    if is_among codes.OUTPUTS code then Some things.Outputs else (
    if is_among codes.TOOL_IN_SPINDLE code then Some things.ToolInSpindle else (
    if is_among codes.MODE_SAVING code then Some things.ModeSaving else (
    if is_among codes.CALLS code then Some things.Calls else None))))

abbrev pub or_else : {A : Type 0} → Option A → Option A → Option A
or_else (Some x) other = Some x
or_else None other = other

abbrev pub left_out : Dialect → Code → Option LeftOut
left_out d code =
    or_else (left_out_motion d code) (or_else (left_out_mode d code) (left_out_switch code))

abbrev pub is_empty : List Code → Bool
is_empty [] = true
is_empty (c ∷ cs) = false

-- a code that has a meaning here
abbrev pub has_meaning : Code → Bool
has_meaning code =
    not (is_empty (group_of code)) || is_among codes.IDLE code || is_among codes.TOLD code

abbrev pub by_meaning : Code → Option LeftOut → Result Code Fault
by_meaning code (Some what) = Err (about_code (causes.LeftOut what) code)
by_meaning code None =
    if has_meaning code then Ok code else Err (about_code causes.UnknownCode code)

-- a code that the dialect has, or why it is refused
unfoldable pub known_code : Dialect → Code → Result Code Fault
known_code d code =
    if lacks d code then Err (about_code causes.UnknownCode code)
    else by_meaning code (left_out d code)

-- ---- the codes of a line

abbrev pub is_m : Code → Bool
is_m (G tenths) = false
is_m (M number) = true

-- A line has one code of a modal group, at most four M codes (NISTIR 6556, 3.4), and at most 24
-- codes.
unfoldable pub joined : Code → List Code → Result (List Code) Fault
joined code line =
    if has (group_of code) line then Err (about_code causes.GroupTwice code) else (
    if is_m code && nat_le 4 (count_by is_m line)
    then Err (about_code causes.TooManyMCodes code) else (
    if length line == 24 then Err (about_code causes.TooManyCodes code)
    else Ok (line ++ code ∷ [])))
