use Rattle.std.proofs.Common.{[], get_or, refl, rules, sym}
use Rattle.std.proofs.lemmas.Grind.{get_or_default_zero}
use Rattle.std.proofs.lemmas.List.{append-nil}
use Rattle.ngc_certificate_text.proofs.CollectedTexts.{one_more, stopped_at}
use Rattle.ngc_machine_files.specs.Machine.{file_of}
use Rattle.ngc_report.proofs.ReportPrefix.{appends_none}
use Rattle.ngc_program_report.specs.Coordinates.{history_of}
use Rattle.ngc_program_report.specs.Texts.{command_refusal}
use Rattle.ngc_program_report.proofs.refusal_writer.collect_refusals.Goals as goal

pub loop-index-init : goal.loop-index-init
loop-index-init g c = record {
  front = ([], appends_none _, append-nil _);
  standing = c.first-standing.ensures;
  walk = c.start-walk.ensures;
  failures = refl;
}

pub returns-in-Err-clause-text : goal.returns-in-Err-clause-text
returns-in-Err-clause-text g c =
    let told = command_refusal c.args.subject.now.form c.args.subject.now.origins.now (file_of c.args.subject.now.machine.now) c.args.execution.now.commands.now
    (history_of c.args.execution.now.history.now.start c.args.execution.now.history.now.changes.items) in
    stopped_at told c.args.indices.now c.loop-index.index-index (get_or c.args.indices.now c.loop-index.index-index 0) _ _ _ _ _ c.loop-index-test.true
    (sym (get_or_default_zero c.args.indices.now c.loop-index.index-index _ c.loop-index-test.true)) c.loop-index.invariant.front
    c.in-Err.ensures.text

pub loop-index-preserved : goal.loop-index-preserved
loop-index-preserved g c =
    let told = command_refusal c.args.subject.now.form c.args.subject.now.origins.now (file_of c.args.subject.now.machine.now) c.args.execution.now.commands.now
    (history_of c.args.execution.now.history.now.start c.args.execution.now.history.now.changes.items) in
    record {
      front = one_more told c.args.indices.now c.loop-index.index-index (get_or c.args.indices.now c.loop-index.index-index 0) _ _ _ _ _ _
          c.loop-index-test.true (sym (get_or_default_zero c.args.indices.now c.loop-index.index-index _ c.loop-index-test.true)) c.loop-index.invariant.front
          c.in-Ok.ensures.text;
      standing = c.in-Ok.ensures.standing;
      walk = c.in-Ok.ensures.walk;
      failures = search rules;
    }
