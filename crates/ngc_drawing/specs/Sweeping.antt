-- The progress through the boxes of a certificate. Our own.
use Rattle.std.specs.Prelude.{ℕ, List, drop, Option}
use Rattle.ngc_machine_files.specs.declared.tools.Tool.{Tool}
use Rattle.ngc_commands.specs.declared.command.Action.{Action}
use Rattle.ngc_certificate_text.specs.Certificate.{Entry}
use Rattle.ngc_drawing.specs.Bodies.{boxes_from, joined}
use Rattle.ngc_drawing.specs.declared.sweep.Sweep.{Sweep}
use Rattle.ngc_drawing.specs.declared.sweep.Sweeping.{Sweeping}
use Rattle.ngc_picture_shapes.specs.declared.view.View.{View}

-- the boxes that are still to be drawn
abbrev pub sweeps_ahead : View → ℕ → List (Option Tool) → Sweeping → List Action →
    List Entry → List Sweep
sweeps_ahead view most used s actions entries =
    joined view most s.held (boxes_from used s.rank actions (drop s.next entries))
