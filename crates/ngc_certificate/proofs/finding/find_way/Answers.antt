use Rattle.std.proofs.Common.{◌∙◌, ap, arith}
use Rattle.ngc_machine_files.specs.Machine.{file_of}
use Rattle.ngc_certificate.specs.Making.{pieces_where}
use Rattle.ngc_certificate.proofs.Cleared.{cleared_good, line_found}
use Rattle.ngc_certificate.proofs.GoodResults.{map_ok}
use Rattle.ngc_certificate.proofs.finding.find_way.Goals as goal

pub returns-in-Line-clause-found : goal.returns-in-Line-clause-found
returns-in-Line-clause-found g c =
    let items = c.find_count.new.pieces.items in
    map_ok c.find_count.result _ _ c.find_count.ensures
    (λ clear h. line_found (file_of c.args.machine.now) c.args.most c.args.tool.now c.args.way.now c.in-Line.start c.in-Line.end
    (pieces_where clear items) c.in-Line.is h)

pub returns-in-Line-clause-good : goal.returns-in-Line-clause-good
returns-in-Line-clause-good g c =
    let machine = c.args.machine.now in
    let items = c.find_count.new.pieces.items in
    map_ok c.find_count.result _ _ c.find_count.ensures
    (λ clear h is. cleared_good (file_of machine) c.args.most c.args.tool.now c.args.way.now items machine.step_in_range machine.travel_in_range
    c.requires (omega (arith, c.ranges.most.fits)) (h ∙ ap (λ b. pieces_where b items) is))
