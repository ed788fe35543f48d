-- The whole picture, from the start.
use Rattle.std.proofs.Common.{◌≡◌, ℕ, ℤ, List, [], ◌++◌, Option, ap, ◌∙◌}
use Rattle.ngc_machine_files.specs.Machine.{MachineFile}
use Rattle.ngc_machine_files.specs.declared.tools.Tool.{Tool}
use Rattle.ngc_commands.specs.declared.command.Command.{Command}
use Rattle.ngc_certificate_text.specs.Certificate.{Entry}
use Rattle.ngc_drawing.specs.Labels.{labels}
use Rattle.ngc_drawing.specs.Pictures.{picture_of, picture_text, shown_sweeps, text_in, text_of}
use Rattle.ngc_picture_shapes.specs.Sheets.{frame, unit_of}
use Rattle.ngc_picture_shapes.specs.Spelling.{shapes_text}
use Rattle.ngc_picture_shapes.specs.Tools.{used}
use Rattle.ngc_drawing.specs.declared.label.Placed.{Placed}
use Rattle.ngc_drawing.specs.declared.origin.WorkOrigin.{WorkOrigin}
use Rattle.ngc_drawing.specs.declared.refusal.RefusedMotion.{RefusedMotion}
use Rattle.ngc_picture_shapes.specs.declared.shape.Shape.{Shape}
use Rattle.ngc_picture_shapes.specs.declared.spot.Rectangle.{Rectangle}
use Rattle.ngc_drawing.specs.declared.sweep.Sweep.{Sweep}
use Rattle.ngc_picture_shapes.specs.declared.look.Look.{Look}

pub from_start : (area : Rectangle) (picture : List Shape) (chunk : List ℕ)
    → chunk ≡ [] → chunk ++ shapes_text (unit_of area) picture ≡ shapes_text (unit_of area) picture
from_start area picture chunk k = ap (λ (l : List ℕ). l ++ shapes_text (unit_of area) picture) k

-- the area, the tools, the boxes and the labels are those of the commands
pub of_commands : (look : Look) (m : MachineFile) (cs : List Command) (es : List Entry) (refusal : Option RefusedMotion) (w : WorkOrigin)
    (tools given shown : List (Option Tool)) (swept drawn : List Sweep) (area : Rectangle) (unit : ℤ) (placed named : List Placed)
    → tools ≡ used cs → given ≡ tools → shown ≡ tools → swept ≡ shown_sweeps look given cs es → drawn ≡ swept
    → area ≡ frame look m cs → unit ≡ unit_of area → placed ≡ labels unit look.view area m w → named ≡ placed →
    shapes_text (unit_of area) (picture_of look.view m cs refusal area shown drawn named w) ≡ picture_text look m cs es refusal w
of_commands look m cs es refusal w tools given shown swept drawn area unit placed named is is_given is_shown is_swept is_drawn is_area is_unit is_placed is_named =
    ap (λ (ps : List Placed). shapes_text (unit_of area) (picture_of look.view m cs refusal area shown drawn ps w))
    (is_named ∙ is_placed ∙ ap (λ (u : ℤ). labels u look.view area m w) is_unit)
    ∙ ap (λ (r : Rectangle). text_in look.view m cs refusal r shown drawn w) is_area
    ∙ ap (λ (ss : List Sweep). text_of look m cs refusal shown ss w) (is_drawn ∙ is_swept)
    ∙ ap (λ (ts : List (Option Tool)). text_of look m cs refusal shown (shown_sweeps look ts cs es) w) (is_given ∙ is)
    ∙ ap (λ (ts : List (Option Tool)). text_of look m cs refusal ts (shown_sweeps look (used cs) cs es) w) (is_shown ∙ is)
