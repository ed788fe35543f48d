use Rattle.ngc_program_report.proofs.WritingLaws.{cut_off, written_out}
use Rattle.ngc_program_report.proofs.coordinates.write_coordinates.Goals as goal

pub returns-in-Ok : goal.returns-in-Ok
returns-in-Ok g c =
    written_out _ _ _ _ _ _ _ _ _ _ c.new-chunk.ensures c.in-Ok.ensures.text c.in-Ok.ensures.counts c.write_out.ensures.ok c.write_out.ensures.fault
    c.write_out.ensures.counts

pub returns-in-Err : goal.returns-in-Err
returns-in-Err g c = cut_off _ _ _ _ _ _ _ c.new-chunk.ensures c.in-Err.ensures.text c.in-Err.ensures.counts
