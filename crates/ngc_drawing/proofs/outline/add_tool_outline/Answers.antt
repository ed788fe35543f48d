use Rattle.ngc_fixed_length.specs.Boxes.{only}
use Rattle.ngc_fixed_length.specs.Grid.{grid}
use Rattle.ngc_machine_files.specs.Machine.{file_of}
use Rattle.ngc_collision.specs.Body.{bodies, span}
use Rattle.ngc_drawing.proofs.Sweeps.{all_outlined}
use Rattle.ngc_drawing.proofs.outline.add_tool_outline.Goals as goal

pub returns : goal.returns
returns g c =
    let step = (file_of c.args.machine.now).step in
    all_outlined c.args.view (bodies c.args.tool.now (span step (only (grid step c.args.place.now)))) c.swept.result.items
    c.as_slice-solid-items.result.now c.args.shapes.now.items c.loop-solid.shapes.items c.loop-solid.solid-index
    c.loop-solid.invariant c.loop-solid-test.false c.as_slice-solid-items.ensures.value
    (rw (c.only-bounds.ensures, c.to_grid-point.ensures.value) at c.swept.ensures)
