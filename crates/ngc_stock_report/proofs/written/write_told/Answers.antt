use Rattle.std.proofs.Common.{◌∙◌, ap}
use Rattle.ngc_machine_files.specs.Machine.{file_of}
use Rattle.ngc_stock_report.specs.Uncut.{uncut_text}
use Rattle.ngc_stock_report.specs.Walked.{WalkData}
use Rattle.ngc_stock_report.proofs.Prefixes.{appends_as, begins_as, begins_first, on_err, second_fault}
use Rattle.ngc_stock_report.proofs.written.write_told.Goals as goal

pub returns-in_err-write_all-clause-fault : goal.returns-in_err-write_all-clause-fault
returns-in_err-write_all-clause-fault g c =
    let m = file_of c.args.machine.now in
    let uncut = c.uncut_text-uncut.ensures ∙ ap (λ (w : WalkData). uncut_text c.args.form m m.stock w.stock.grid c.args.commands.now) c.walk.view_is in
    on_err _ _ (begins_first _ _ _ _ (begins_as _ _ _ _ uncut c.in_err-write_all.ensures.fault))

pub returns-clause-fault : goal.returns-clause-fault
returns-clause-fault g c =
    let m = file_of c.args.machine.now in
    let uncut = c.uncut_text-uncut.ensures ∙ ap (λ (w : WalkData). uncut_text c.args.form m m.stock w.stock.grid c.args.commands.now) c.walk.view_is in
    second_fault c.write_walk.result (g.W.Sink.written c.args.output.now) (g.W.Sink.written c.write_all.new.sink)
    (g.W.Sink.written c.write_walk.new.output) _ _ (appends_as _ _ _ _ uncut c.in_ok-write_all.ensures.ok) c.write_walk.ensures.fault
