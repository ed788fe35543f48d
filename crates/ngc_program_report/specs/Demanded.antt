-- What a report adds where only a margin is in the way, or where a traverse may take any way. Our
-- own.
use Rattle.std.specs.Prelude.{ℕ, ℤ, min, nat_lt, nat_le, unsigned_abs, List, [], ◌∷◌, ◌++◌, codes, decimal}
use Rattle.std.specs.Prelude.{take, drop, slice_get, Option, Some, None, option_and_then, Bool, ◌&&◌}
use Rattle.std.specs.Prelude.{false, if◌then◌else◌}
use Rattle.std.specs.Fmt.{signed_decimal}
use Rattle.ngc_fixed_length.specs.Boxes.{only}
use Rattle.ngc_fixed_length.specs.Grid.{grid}
use Rattle.ngc_machine_files.specs.Machine.{MachineFile}
use Rattle.ngc_machine_files.specs.declared.machine.Fixture.{Fixture}
use Rattle.ngc_commands.specs.Reached.{after_all, at_start}
use Rattle.ngc_commands.specs.declared.reached.Reached.{Reached}
use Rattle.ngc_commands.specs.declared.command.Action.{Action}
use Rattle.ngc_commands.specs.declared.command.Action.TheVariants.{Move, Mount}
use Rattle.ngc_commands.specs.declared.command.Command.{Command}
use Rattle.ngc_certificate.specs.Traverses.{takes_any_way}
use Rattle.ngc_findings.specs.Extents.{reach}
use Rattle.ngc_findings.specs.Shifts.{shifts_past}
use Rattle.ngc_report.specs.declared.form.Form.{Form}
use Rattle.ngc_report.specs.declared.form.Form.TheVariants.{Words, Json}
use Rattle.ngc_findings.specs.declared.shifts.Shifts.{Shifts}
use Rattle.ngc_text.specs.Millimetres.{mm_text, size_text}
use Rattle.ngc_program_report.specs.declared.demanded.Swept.{Swept}

-- the least distance of the six directions
abbrev pub least : Shifts → ℕ
least s = min s.x.up (min s.x.down (min s.y.up (min s.y.down (min s.z.up s.z.down))))

-- What is missing of a margin, where a command must move by at least a distance to keep it. A
-- command that must move by more than the margin may meet the fixture itself.
abbrev pub missing_of : ℤ → ℕ → Option ℕ
missing_of margin distance =
    if nat_lt 0 (unsigned_abs margin) && nat_le distance (unsigned_abs margin)
    then Some distance else None

abbrev pub missing_past : MachineFile → Swept → Fixture → Option ℕ
missing_past machine s f =
    missing_of machine.margins.fixtures (least (shifts_past machine.step s.tool s.bounds f))

-- the tool of an action, and the box of its positions
abbrev pub swept_by : MachineFile → Reached → Action → Option Swept
swept_by machine r (Move m) =
    Some (record { tool = r.tool; bounds = reach machine.step m.way })
swept_by machine r (Mount tool) =
    Some (record { tool = tool; bounds = only (grid machine.step r.place) })
swept_by machine r _ = None

-- what an action that meets fixture i lacks of the margin
abbrev pub missing_by : MachineFile → Reached → ℕ → Action → Option ℕ
missing_by machine r i action =
    option_and_then (λ s. option_and_then (missing_past machine s) (slice_get machine.fixtures i))
    (swept_by machine r action)

unfoldable pub missing_words : ℤ → ℕ → List ℕ
missing_words margin missing =
    codes "Without the margin it would be clear of it: " ++ size_text missing
    ++ codes " mm of the " ++ mm_text margin ++ codes " are missing.\n"

unfoldable pub missing_fact : ℤ → ℕ → List ℕ
missing_fact margin missing =
    codes ",\n{\"fact\":\"margin_missing\",\"margin\":" ++ signed_decimal margin
    ++ codes ",\"missing\":" ++ decimal missing ++ codes "}"

abbrev pub missing_text : Form → ℤ → ℕ → List ℕ
missing_text Words margin missing = missing_words margin missing
missing_text Json margin missing = missing_fact margin missing

abbrev pub missing_if : Form → ℤ → Option ℕ → List ℕ
missing_if form margin None = []
missing_if form margin (Some missing) = missing_text form margin missing

abbrev pub is_any_way : MachineFile → Action → Bool
is_any_way machine (Move m) = takes_any_way machine m.pace
is_any_way machine _ = false

abbrev pub any_way_text : Form → List ℕ
any_way_text Words =
    codes "It may take any way within the box of its ends: first retract, then move.\n"
any_way_text Json = codes ",\n{\"fact\":\"any_way\"}"

-- what is added for an action that meets fixture i
abbrev pub demanded_by : Form → MachineFile → Reached → ℕ → Action → List ℕ
demanded_by form machine r i action =
    missing_if form machine.margins.fixtures (missing_by machine r i action)
    ++ (if is_any_way machine action then any_way_text form else [])

abbrev pub demanded_first : Form → MachineFile → Reached → ℕ → List Command → List ℕ
demanded_first form machine r i [] = []
demanded_first form machine r i (c ∷ cs) = demanded_by form machine r i c.action

-- and for command k, if it is reported and meets a fixture
abbrev pub demanded_text : Form → MachineFile → List Command → Option ℕ → Option ℕ → List ℕ
demanded_text form machine commands (Some k) (Some i) =
    demanded_first form machine (after_all (at_start machine) (take k commands)) i
    (drop k commands)
demanded_text form machine commands _ _ = []
