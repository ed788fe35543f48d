-- The fixture that a command meets. Our own.
use Rattle.std.specs.Prelude.{ℕ, List, [], ◌∷◌, take, drop, Option, Some, None}
use Rattle.ngc_fixed_length.specs.Grid.{grid}
use Rattle.ngc_machine_files.specs.Machine.{MachineFile}
use Rattle.ngc_commands.specs.Reached.{after_all, at_start}
use Rattle.ngc_commands.specs.declared.reached.Reached.{Reached}
use Rattle.ngc_commands.specs.declared.command.Action.{Action}
use Rattle.ngc_commands.specs.declared.command.Action.TheVariants.{Move, Mount}
use Rattle.ngc_commands.specs.declared.command.Command.{Command}
use Rattle.ngc_certificate.specs.declared.fault.PieceFault.{PieceFault}
use Rattle.ngc_certificate.specs.declared.fault.PieceFault.TheVariants as pieces
use Rattle.ngc_certificate.specs.declared.fault.PieceRefusal.{PieceRefusal}
use Rattle.ngc_certificate.specs.Made.{pieces_of}
use Rattle.ngc_certificate.specs.PieceFault.{pieces_fault, place_fault, ◌or◌}

-- the fixture for which a piece is refused
abbrev pub fixture_in : PieceFault → Option ℕ
fixture_in pieces.Chain = None
fixture_in pieces.NotCovered = None
fixture_in pieces.OutsideTravel = None
fixture_in (pieces.MeetsFixture i) = Some i

abbrev pub fixture_of : Option PieceRefusal → Option ℕ
fixture_of None = None
fixture_of (Some refusal) = fixture_in refusal.fault

-- the fixture that a tool change meets at the axes' position, and a motion in one piece
abbrev pub met_by : MachineFile → Reached → Action → Option ℕ
met_by machine r (Mount tool) = place_fault machine tool (grid machine.step r.place)
met_by machine r (Move m) =
    fixture_of (pieces_fault machine r.tool m.way (pieces_of machine.step m.way 1))
met_by machine r _ = None

abbrev pub met_first : MachineFile → Reached → List Command → Option ℕ
met_first machine r [] = None
met_first machine r (c ∷ cs) = met_by machine r c.action

-- the fixture that is met at the start, or by command `k`
abbrev pub met_at : MachineFile → List Command → ℕ → Option ℕ
met_at machine commands k =
    place_fault machine None (grid machine.step machine.start) or met_first machine
    (after_all (at_start machine) (take k commands)) (drop k commands)
