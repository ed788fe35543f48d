use Rattle.ngc_machine_files.specs.Machine.{file_of}
use Rattle.ngc_place.proofs.Tests.{line_is, arc_kept, arc_bent}
use Rattle.ngc_place.proofs.fits.way_is_clear.Goals as goal

pub returns-in-Line : goal.returns-in-Line
returns-in-Line g c =
    line_is (file_of c.args.machine.now) c.args.cuts c.args.tool.now c.args.shifts.now c.args.moving.start c.args.moving.end c.args.way.now _ _ _ _ _ _ _
    c.in-Line.is c.new-lowest.ensures.start c.new-lowest.ensures.end c.new-highest.ensures.start c.new-highest.ensures.end c.line_is_clear.ensures

pub returns-then-moving : goal.returns-then-moving
returns-then-moving g c =
    arc_bent (file_of c.args.machine.now) c.args.cuts c.args.tool.now c.args.shifts.now c.args.moving.start c.args.moving.end c.args.way.now _ c.in-Arc.is
    c.if-moving.true

pub returns-else-moving : goal.returns-else-moving
returns-else-moving g c =
    arc_kept (file_of c.args.machine.now) c.args.cuts c.args.tool.now c.args.shifts.now c.args.moving.start c.args.moving.end c.args.way.now _ _ c.in-Arc.is
    c.if-moving.false c.arc_is_clear.ensures
