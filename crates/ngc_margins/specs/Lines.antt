-- The lines of a report that name margins and the way of traverses. Our own.
use Rattle.std.specs.Prelude.{ℕ, ℤ, pos, List, [], ◌++◌, codes, Bool, ◌&&◌, not}
use Rattle.std.specs.Prelude.{if◌then◌else◌}
use Rattle.std.specs.Fmt.{signed_decimal}
use Rattle.std.specs.Ordering.{int_eq}
use Rattle.ngc_motors.specs.Counts.{slack}
use Rattle.ngc_machine_files.specs.Machine.{MachineFile, motors_of}
use Rattle.ngc_machine_files.specs.declared.machine.Margins.{Margins}
use Rattle.ngc_machine_files.specs.declared.machine.Rapids.{Rapids}
use Rattle.ngc_machine_files.specs.declared.machine.Rapids.TheVariants.{Free, Straight}
use Rattle.ngc_margins.specs.declared.report_lines.Kept.{Kept}
use Rattle.ngc_text.specs.Millimetres.{mm_text}

abbrev pub kept_by : MachineFile → Kept
kept_by m = record { margins = m.margins; rapids = m.rapids; slack = slack (motors_of m) }

abbrev pub nothing_kept : Kept
nothing_kept =
    record { margins = record { fixtures = pos 0; travel = pos 0 }; rapids = Straight; slack = pos 0 }

-- a margin to fixtures that is how far a motor may stand from the path: half of its step
abbrev pub is_slack : ℤ → ℤ → Bool
is_slack half m = not (int_eq m (pos 0)) && int_eq m half

abbrev pub reason : ℤ → ℤ → List ℕ
reason half m = if is_slack half m then codes ", half a step of the motors" else []

unfoldable pub larger : ℤ → ℤ → List ℕ
larger half m =
    codes "Margin: each fixture is " ++ mm_text m ++ codes " larger on every side" ++ reason half m
    ++ codes ", also in the figures below.\n"

abbrev pub margin_words : ℤ → ℤ → List ℕ
margin_words half m = if int_eq m (pos 0) then [] else larger half m

unfoldable pub nearer : ℤ → List ℕ
nearer m =
    codes "Margin: each travel limit is " ++ mm_text m
    ++ codes " nearer, also in the figures below.\n"

abbrev pub travel_words : ℤ → List ℕ
travel_words m = if int_eq m (pos 0) then [] else nearer m

abbrev pub rapids_words : Rapids → List ℕ
rapids_words Straight = []
rapids_words Free = codes "A traverse may take any way within the box of its ends.\n"

abbrev pub kept_words : Kept → List ℕ
kept_words k =
    margin_words k.slack k.margins.fixtures ++ travel_words k.margins.travel ++ rapids_words k.rapids

-- the same as facts of a JSON document
abbrev pub are_zero : Margins → Bool
are_zero m = int_eq m.fixtures (pos 0) && int_eq m.travel (pos 0)

unfoldable pub lengths_fact : Margins → List ℕ
lengths_fact m =
    codes ",\n{\"fact\":\"margins\",\"fixtures\":" ++ signed_decimal m.fixtures
    ++ codes ",\"travel\":" ++ signed_decimal m.travel

-- half a step of the motors, where the margin to fixtures is that
unfoldable pub slack_value : ℤ → List ℕ
slack_value m = codes ",\"motors\":" ++ signed_decimal m

abbrev pub motors_value : ℤ → ℤ → List ℕ
motors_value half m = if is_slack half m then slack_value m else []

unfoldable pub values_fact : ℤ → Margins → List ℕ
values_fact half m = lengths_fact m ++ (motors_value half m.fixtures ++ codes "}")

abbrev pub margins_fact : ℤ → Margins → List ℕ
margins_fact half m = if are_zero m then [] else values_fact half m

abbrev pub rapids_fact : Rapids → List ℕ
rapids_fact Straight = []
rapids_fact Free = codes ",\n{\"fact\":\"rapids\",\"way\":\"free\"}"

abbrev pub kept_facts : Kept → List ℕ
kept_facts k = margins_fact k.slack k.margins ++ rapids_fact k.rapids
