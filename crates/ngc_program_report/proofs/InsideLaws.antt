-- If a certificate is valid, each box of each piece lies within the travel.
use Rattle.std.proofs.Common.{◌≡◌, ℕ, ◌+◌, List, [], ◌∷◌, Option, None}
use Rattle.std.specs.Prelude.{Bool, IsTrue, map}
use Rattle.std.specs.List.{All}
use Rattle.std.proofs.lemmas.List.Elements.{All-cons, All-nil}
use Rattle.ngc_fixed_length.specs.declared.points.Point3.{Point3}
use Rattle.ngc_machine_files.specs.Machine.{MachineFile}
use Rattle.ngc_machine_files.specs.declared.tools.Tool.{Tool}
use Rattle.ngc_commands.specs.Movement.{actions_of, end_of, motion_indices}
use Rattle.ngc_commands.specs.declared.command.Action.{Action}
use Rattle.ngc_commands.specs.declared.command.Action.TheVariants.{Move, Mount}
use Rattle.ngc_commands.specs.declared.movement.Way.{Way}
use Rattle.ngc_collision.specs.Body.{is_in_travel}
use Rattle.ngc_certificate_text.specs.Certificate.{Entry}
use Rattle.ngc_certificate_text.specs.declared.piece.Cut.{Cut}
use Rattle.ngc_certificate_text.specs.declared.piece.Piece.{Piece}
use Rattle.ngc_certificate.specs.Chain.{are_several, first_cut}
use Rattle.ngc_certificate.specs.PieceFault.{AreValidFrom}
use Rattle.ngc_certificate.specs.Valid.{AreClearFrom}
use Rattle.ngc_report.proofs.Fitting.{inside_law}
use Rattle.ngc_report.specs.Reports.{ArePiecesInTravel}
use Rattle.ngc_program_report.specs.JobReports.{ValidStaysInside}

pieces_inside : (machine : MachineFile) (tool : Option Tool) (w : Way) (several : Bool) (begin : Cut) (pieces : List Piece) →
    AreValidFrom machine tool w several begin pieces → All (λ (p : Piece). IsTrue (is_in_travel machine p.bounds)) pieces
pieces_inside machine tool w several begin [] valid = absurd valid
pieces_inside machine tool w several begin (p ∷ []) valid =
    All-cons (λ (p : Piece). IsTrue (is_in_travel machine p.bounds)) p [] valid.travel (All-nil (λ (p : Piece). IsTrue (is_in_travel machine p.bounds)))
pieces_inside machine tool w several begin (p ∷ q ∷ ps) valid =
    All-cons (λ (p : Piece). IsTrue (is_in_travel machine p.bounds)) p (q ∷ ps) valid.0.travel
    (pieces_inside machine tool w several p.end (q ∷ ps) valid.1)

abbrev IsEntryInside : MachineFile → Entry → Type 0
IsEntryInside machine e = All (λ (p : Piece). IsTrue (is_in_travel machine p.bounds)) e.pieces

nothing_left : (e : Entry) (es : List Entry) → map (λ (x : Entry). x.index) (e ∷ es) ≡ [] → ⊥
nothing_left e es same = cc

rest_same : (e : Entry) (es : List Entry) (k : ℕ) (ks : List ℕ) → map (λ (x : Entry). x.index) (e ∷ es) ≡ k ∷ ks → map (λ (x : Entry). x.index) es ≡ ks
rest_same e es k ks same = cc

entries_inside : (machine : MachineFile) (tool : Option Tool) (place : Point3) (k : ℕ) (actions : List Action) (entries : List Entry) →
    map (λ (e : Entry). e.index) entries ≡ motion_indices k actions → AreClearFrom machine tool place actions entries →
    ArePiecesInTravel machine entries
entries_inside machine tool place k [] [] same clear = All-nil (IsEntryInside machine)
entries_inside machine tool place k [] (e ∷ es) same clear = absurd (nothing_left e es same)
entries_inside machine tool place k (Mount new ∷ actions) entries same clear = entries_inside machine new place (k + 1) actions entries same clear.1
entries_inside machine tool place k (Move m ∷ actions) [] same clear = absurd clear
entries_inside machine tool place k (Move m ∷ actions) (e ∷ es) same clear =
    All-cons (IsEntryInside machine) e es (pieces_inside machine tool m.way (are_several e.pieces) (first_cut m.way) e.pieces clear.0)
    (entries_inside machine tool (end_of m.way) (k + 1) actions es (rest_same e es k (motion_indices (k + 1) actions) same) clear.1)
entries_inside machine tool place k (_ ∷ actions) entries same clear = entries_inside machine tool place (k + 1) actions entries same clear

pub valid_inside : ValidStaysInside
valid_inside machine commands motions is_machine valid =
    inside_law machine commands motions is_machine
    (entries_inside machine None machine.start 0 (actions_of commands) motions valid.motions valid.clear)
