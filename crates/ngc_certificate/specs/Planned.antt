-- The plan of the cuts of a setting's motions: how each is cut, without the pieces that can be
-- computed from its path. Our own.
use Rattle.std.specs.Prelude.{◌≡◌, ℤ, List, [], map, length, Option, Some, None}
use Rattle.ngc_commands.specs.declared.command.Command.{Command}
use Rattle.ngc_commands.specs.declared.movement.Way.{Way}
use Rattle.ngc_commands.specs.declared.movement.Way.TheVariants.{Line, Arc}
use Rattle.ngc_certificate_text.specs.declared.piece.Piece.{Piece}
use Rattle.ngc_certificate_text.specs.Certificate.{Entry, entry_at}
use Rattle.ngc_certificate.specs.declared.plan.Cutting.{Cutting}
use Rattle.ngc_certificate.specs.declared.plan.Cutting.TheVariants.{Divided, Cut}
use Rattle.ngc_certificate.specs.declared.plan.Planned.{Planned}
use Rattle.ngc_certificate.specs.declared.plan.Plan.{Plan}
use Rattle.ngc_certificate.specs.Common.{way_at}
use Rattle.ngc_certificate.specs.Made.{pieces_of}

-- the pieces of a motion: it is divided, or they are stored as those of a cut arc
abbrev pub cut_by : ℤ → Way → List Entry → Cutting → List Piece
cut_by step w arcs (Divided count) = pieces_of step w count
cut_by step w arcs (Cut k) = (entry_at arcs k).pieces

-- those of a command that may be a motion
abbrev pub cut_way : ℤ → Option Way → List Entry → Cutting → List Piece
cut_way step None arcs cutting = []
cut_way step (Some w) arcs cutting = cut_by step w arcs cutting

abbrev pub planned_entry : ℤ → List Command → List Entry → Planned → Entry
planned_entry step commands arcs p =
    record { index = p.index; pieces = cut_way step (way_at commands p.index) arcs p.cutting }

-- the motions of a plan for commands, on a machine with this step
abbrev pub planned : {A : Type 0} → ℤ → List Command → Plan A → List Entry
planned step commands plan = map (planned_entry step commands plan.arcs) plan.motions.items

-- a line has the pieces of some number of equal parts; those of an arc are not prescribed
abbrev pub IsDividedIfLine : ℤ → Way → List Piece → Type 0
IsDividedIfLine step (Line b e) pieces = pieces ≡ pieces_of step (Line b e) (length pieces)
IsDividedIfLine step (Arc a) pieces = Unit {0}
