use Rattle.std.proofs.Common.{◌∙◌, sym}
use Rattle.ngc_machine_files.specs.Machine.{file_of}
use Rattle.ngc_certificate.proofs.TriedCuts.{skipped, refused, taken}
use Rattle.ngc_certificate.proofs.finding.find_count.Goals as goal

pub loop-count-preserved-then-count-most : goal.loop-count-preserved-then-count-most
loop-count-preserved-then-count-most g c =
    c.loop-count.invariant
    ∙ skipped (file_of c.args.machine.now) c.args.most c.args.tool.now c.args.way.now c.loop-count.count-index c.loop-count-test.true c.if-count-most.true

pub loop-count-preserved : goal.loop-count-preserved
loop-count-preserved g c =
    c.loop-count.invariant
    ∙ refused (file_of c.args.machine.now) c.args.most c.args.tool.now c.args.way.now c.loop-count.count-index c.loop-count-test.true c.if-count-most.false
    (sym c.if-branch.false ∙ c.in_ok-clears_in.ensures.clear)

pub returns-then-branch : goal.returns-then-branch
returns-then-branch g c =
    c.loop-count.invariant
    ∙ taken (file_of c.args.machine.now) c.args.most c.args.tool.now c.args.way.now c.loop-count.count-index c.clears_in.new.pieces.items c.loop-count-test.true
    c.if-count-most.false
    (sym c.if-branch.true ∙ c.in_ok-clears_in.ensures.clear) c.in_ok-clears_in.ensures.pieces
