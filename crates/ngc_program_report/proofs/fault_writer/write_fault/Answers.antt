use Rattle.ngc_sentences.proofs.Said.{whole}
use Rattle.ngc_program_report.proofs.WritingLaws.{stops, then, written}
use Rattle.ngc_program_report.proofs.fault_writer.write_fault.Goals as goal

pub returns-in_err-write_quote : goal.returns-in_err-write_quote
returns-in_err-write_quote g c = stops _ _ c.from_residual.ensures.0 c.in_err-write_quote.ensures.fault c.in_err-write_quote.ensures.counts

pub returns : goal.returns
returns g c =
    let line = whole c.new-page.ensures c.say_fault.ensures c.finish.ensures in
    then _ _ c.in_ok-write_quote.ensures.ok c.in_ok-write_quote.ensures.counts (written line.ok line.fault line.counts)
