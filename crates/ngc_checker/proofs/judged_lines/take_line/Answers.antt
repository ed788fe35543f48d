use Rattle.std.proofs.Common.{◌≡◌, subst}
use Rattle.ngc_certificate_text.specs.LineContent.{after_content}
use Rattle.ngc_checker.specs.Judging.{JudgeData, IsAt}
use Rattle.ngc_checker.proofs.LineJudging.{judged_at}
use Rattle.ngc_checker.proofs.judged_lines.take_line.Goals as goal

pub returns-in-Ok-clause-at : goal.returns-in-Ok-clause-at
returns-in-Ok-clause-at g c e is at v same =
    let here : c.take.new.self ≡ v = cc same in
    subst (λ (x : JudgeData). IsAt (after_content c.args.line_content.now) x) here
    (judged_at e c.args.line_content.now c.in-Ok.judge c.take.new.self is (at c.in-Ok.judge c.in-Ok.is) c.take.ensures.left)
