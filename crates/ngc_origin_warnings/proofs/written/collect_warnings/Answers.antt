use Rattle.std.proofs.Common.{◌+◌, ◌++◌, ◌∙◌, [], ℕ, List, Option, Err, ap, drop, refl, rules, subst, sym}
use Rattle.std.proofs.lemmas.List.{append-nil, at_drop_all}
use Rattle.ngc_machine_files.specs.Machine.{file_of}
use Rattle.ngc_report.proofs.ReportPrefix.{appends_none}
use Rattle.ngc_text.specs.Collected.{WritesPrefix}
use Rattle.ngc_text.specs.Failures.{CountsFailure}
use Rattle.ngc_origin_warnings.specs.Texts.{warning_text}
use Rattle.ngc_origin_warnings.specs.Warnings.{new_origin, none_warned, warnings_from, with_warned}
use Rattle.ngc_origin_warnings.proofs.WarningProgress.{next_command, stopped, went}
use Rattle.ngc_origin_warnings.proofs.written.collect_warnings.Goals as goal

pub loop-index-init : goal.loop-index-init
loop-index-init g c =
    let h = c.args.history.now in
    let m = file_of c.args.machine.now in record {
      front = (
        [],
        appends_none _,
        ap (λ (w : List (Option ℕ)). c.args.chunk.now ++ warnings_from c.args.form m c.args.lowest h.start h.changes.items w 0 c.args.commands.now)
            (sym c.none-warned.ensures),
      );
      walk = c.start-walk.ensures;
      failures = refl;
    }

pub returns-in-Err-clause-text : goal.returns-in-Err-clause-text
returns-in-Err-clause-text g c =
    let form = c.args.form in
    let m = file_of c.args.machine.now in
    let low = c.args.lowest in
    let start = c.args.history.now.start in
    let changes = c.args.history.now.changes.items in
    let cs = c.args.commands.now in
    let i = c.loop-index.index in
    let command = c.index-commands-index.result in
    let warned = c.loop-index.warned.lines in
    let new = new_origin m low start changes warned i command in
    stopped (g.W.Sink.written c.args.sink.now) (g.W.Sink.written c.loop-index.sink) (g.W.Sink.written c.collect_warning.new.sink)
    (c.args.chunk.now ++ warnings_from form m low start changes none_warned 0 cs) c.loop-index.chunk
    (warnings_from form m low start changes warned i (drop i cs)) (warning_text form command.line new)
    (warning_text form command.line c.new_origin-origin.result)
    (warnings_from form m low start changes (with_warned warned new) (i + 1) (drop (i + 1) cs))
    (next_command form m low start changes warned cs i command c.loop-index-test.true c.index-commands-index.is)
    (ap (warning_text form command.line) c.new_origin-origin.ensures.value) c.loop-index.invariant.front c.in-Err.ensures.text

pub returns-in-Err-clause-counts : goal.returns-in-Err-clause-counts
returns-in-Err-clause-counts g c =
    subst (λ (n : ℕ). CountsFailure {A = Unit {0}} n (g.W.Sink.failures c.collect_warning.new.sink) (Err c.in-Err.fault))
    c.loop-index.invariant.failures c.in-Err.ensures.counts

pub loop-index-preserved : goal.loop-index-preserved
loop-index-preserved g c =
    let form = c.args.form in
    let m = file_of c.args.machine.now in
    let low = c.args.lowest in
    let start = c.args.history.now.start in
    let changes = c.args.history.now.changes.items in
    let cs = c.args.commands.now in
    let i = c.loop-index.index in
    let command = c.index-commands-index.result in
    let warned = c.loop-index.warned.lines in
    let new = new_origin m low start changes warned i command in
    let whole = c.args.chunk.now ++ warnings_from form m low start changes none_warned 0 cs in
    let front =
    went (g.W.Sink.written c.args.sink.now) (g.W.Sink.written c.loop-index.sink) (g.W.Sink.written c.collect_warning.new.sink)
    whole c.loop-index.chunk c.collect_warning.new.chunk
    (warnings_from form m low start changes warned i (drop i cs)) (warning_text form command.line new)
    (warning_text form command.line c.new_origin-origin.result)
    (warnings_from form m low start changes (with_warned warned new) (i + 1) (drop (i + 1) cs))
    (next_command form m low start changes warned cs i command c.loop-index-test.true c.index-commands-index.is)
    (ap (warning_text form command.line) c.new_origin-origin.ensures.value) c.loop-index.invariant.front c.in-Ok.ensures.text in
    record {
      front =
          subst (λ (w : List (Option ℕ)). WritesPrefix (g.W.Sink.written c.args.sink.now) (g.W.Sink.written c.collect_warning.new.sink) whole
          (c.collect_warning.new.chunk ++ warnings_from form m low start changes w (i + 1) (drop (i + 1) cs)))
          (sym (c.with-warned.ensures ∙ ap (with_warned warned) c.new_origin-origin.ensures.value)) front;
      walk = c.new_origin-origin.ensures.walk;
      failures = search rules;
    }

pub returns-clause-text : goal.returns-clause-text
returns-clause-text g c =
    let form = c.args.form in
    let m = file_of c.args.machine.now in
    let low = c.args.lowest in
    let start = c.args.history.now.start in
    let changes = c.args.history.now.changes.items in
    let cs = c.args.commands.now in
    let none = at_drop_all (warnings_from form m low start changes c.loop-index.warned.lines c.loop-index.index) cs c.loop-index.index
    c.loop-index-test.false in
    subst (λ (l : List ℕ). WritesPrefix (g.W.Sink.written c.args.sink.now) (g.W.Sink.written c.loop-index.sink)
    (c.args.chunk.now ++ warnings_from form m low start changes none_warned 0 cs) l)
    (ap (λ l. c.loop-index.chunk ++ l) none ∙ append-nil c.loop-index.chunk) c.loop-index.invariant.front
