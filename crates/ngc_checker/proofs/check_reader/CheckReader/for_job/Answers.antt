use Rattle.std.proofs.Common.{ap, ◌∙◌, Ok}
use Rattle.ngc_certificate_text.specs.Ahead.{certificate_of, made_with}
use Rattle.ngc_certificate_text.specs.LinesView.{left_by}
use Rattle.ngc_certificate_text.specs.Parted.{firm_lines}
use Rattle.ngc_certificate_text.specs.ParsedPart.{lines_of}
use Rattle.ngc_checker.specs.Checked.{judged_by}
use Rattle.ngc_checker.specs.FirstRefusal.{job_refusal}
use Rattle.ngc_checker.proofs.LineJudging.{made_twice}
use Rattle.ngc_checker.proofs.check_reader.CheckReader.for_job.Goals as goal

pub returns-clause-text : goal.returns-clause-text
returns-clause-text g c bytes =
    let first = job_refusal c.args.job in
    ap (made_with first) (c.new.ensures.text bytes)
    ∙ made_twice first certificate_of (judged_by (Ok c.new-2.result)) (left_by lines_of c.new.result bytes) c.new-2.ensures.verdict

pub returns-clause-firm : goal.returns-clause-firm
returns-clause-firm g c bytes rest =
    let first = job_refusal c.args.job in
    ap (made_with first) (c.new.ensures.firm bytes rest)
    ∙ made_twice first certificate_of (judged_by (Ok c.new-2.result)) (left_by (firm_lines rest) c.new.result bytes) c.new-2.ensures.verdict
