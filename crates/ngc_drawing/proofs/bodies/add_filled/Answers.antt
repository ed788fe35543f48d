use Rattle.ngc_machine_files.specs.Machine.{file_of}
use Rattle.ngc_drawing.proofs.Sweeps.{all_filled}
use Rattle.ngc_drawing.proofs.bodies.add_filled.Goals as goal

pub returns : goal.returns
returns g c =
    all_filled c.args.view (file_of c.args.machine.now).step c.args.tools.now c.args.sweep.now c.tool_at-tool.result c.swept.result.items
    c.as_slice-solid-items.result.now c.args.shapes.now.items c.loop-solid.shapes.items c.loop-solid.solid-index
    c.loop-solid.invariant c.loop-solid-test.false c.as_slice-solid-items.ensures.value c.tool_at-tool.ensures c.swept.ensures
