use Rattle.std.proofs.Common.{ℕ, ap, refl, rules, subst}
use Rattle.ngc_program_report.specs.FaultTexts.{list_text}
use Rattle.ngc_text.specs.Failures.{Rises}
use Rattle.ngc_program_report.proofs.WritingLaws.{breaks}
use Rattle.ngc_program_report.proofs.UseTimeLaws.{all_left, breaks_off, less_left}
use Rattle.ngc_program_report.proofs.fault_writer.write_list.Goals as goal

pub loop-one-init : goal.loop-one-init
loop-one-init g c = record { goes = all_left _ _ _ refl; failures = refl }

pub loop-one-preserved : goal.loop-one-preserved
loop-one-preserved g c =
    let step = ap (list_text c.args.form c.args.text.now c.args.only_on c.args.others.now c.loop-one.earlier) c.in-Some.ensures.cases.0 in record {
      goes = less_left _ _ _ _ _ _ _ step c.loop-one.invariant.goes c.in_ok-write_new.ensures.ok;
      failures = search rules;
    }

pub returns-in_err-write_new : goal.returns-in_err-write_new
returns-in_err-write_new g c =
    let step = ap (list_text c.args.form c.args.text.now c.args.only_on c.args.others.now c.loop-one.earlier) c.in-Some.ensures.cases.0 in
    breaks c.from_residual.ensures.0 (breaks_off _ _ _ _ _ _ _ step c.loop-one.invariant.goes c.in_err-write_new.ensures.fault)
    (subst (λ (n : ℕ). Rises n (g.W.Sink.failures c.write_new.new.output)) c.loop-one.invariant.failures c.in_err-write_new.ensures.counts)
