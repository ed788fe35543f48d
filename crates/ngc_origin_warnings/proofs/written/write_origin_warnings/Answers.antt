use Rattle.std.proofs.Common.{◌++◌, ℕ, ℤ, List, ap, subst}
use Rattle.ngc_machine_files.specs.Machine.{file_of}
use Rattle.ngc_report.proofs.ReportPrefix.{whole_out, part_out, none_out}
use Rattle.ngc_text.specs.Collected.{WritesPrefix}
use Rattle.ngc_text.specs.Written.{AppendsPrefix}
use Rattle.ngc_origin_warnings.specs.Warnings.{none_warned, origin_warnings, warnings_from}
use Rattle.ngc_origin_warnings.proofs.written.write_origin_warnings.Goals as goal

pub returns-in-Ok-clause-ok : goal.returns-in-Ok-clause-ok
returns-in-Ok-clause-ok g c =
    let m = file_of c.args.machine.now in
    let h = c.args.history.now in
    let text = origin_warnings c.args.form m c.args.tools.now h.start h.changes.items c.args.commands.now in
    let is = ap (λ (low : ℤ). warnings_from c.args.form m low h.start h.changes.items none_warned 0 c.args.commands.now) c.lowest-low.ensures in
    whole_out c.write_out.result (g.W.Sink.written c.args.sink.now) (g.W.Sink.written c.collect_warnings.new.sink)
    (g.W.Sink.written c.write_out.new.sink) c.new-chunk.result text c.collect_warnings.new.chunk c.new-chunk.ensures
    (subst (λ (l : List ℕ). WritesPrefix (g.W.Sink.written c.args.sink.now) (g.W.Sink.written c.collect_warnings.new.sink) (c.new-chunk.result ++ l)
    c.collect_warnings.new.chunk) is c.in-Ok.ensures.text)
    c.write_out.ensures.ok

pub returns-in-Ok-clause-fault : goal.returns-in-Ok-clause-fault
returns-in-Ok-clause-fault g c =
    let m = file_of c.args.machine.now in
    let h = c.args.history.now in
    let text = origin_warnings c.args.form m c.args.tools.now h.start h.changes.items c.args.commands.now in
    let is = ap (λ (low : ℤ). warnings_from c.args.form m low h.start h.changes.items none_warned 0 c.args.commands.now) c.lowest-low.ensures in
    part_out c.write_out.result (g.W.Sink.written c.args.sink.now) (g.W.Sink.written c.collect_warnings.new.sink)
    (g.W.Sink.written c.write_out.new.sink) c.new-chunk.result text c.collect_warnings.new.chunk c.new-chunk.ensures
    (subst (λ (l : List ℕ). WritesPrefix (g.W.Sink.written c.args.sink.now) (g.W.Sink.written c.collect_warnings.new.sink) (c.new-chunk.result ++ l)
    c.collect_warnings.new.chunk) is c.in-Ok.ensures.text)
    c.write_out.ensures.fault

pub returns-in-Err-clause-fault : goal.returns-in-Err-clause-fault
returns-in-Err-clause-fault g c =
    let m = file_of c.args.machine.now in
    let h = c.args.history.now in
    let text = origin_warnings c.args.form m c.args.tools.now h.start h.changes.items c.args.commands.now in
    let is = ap (λ (low : ℤ). warnings_from c.args.form m low h.start h.changes.items none_warned 0 c.args.commands.now) c.lowest-low.ensures in
    none_out (g.W.Sink.written c.args.sink.now) (g.W.Sink.written c.collect_warnings.new.sink) c.new-chunk.result text c.new-chunk.ensures
    (subst (λ (l : List ℕ).
    AppendsPrefix (g.W.Sink.written c.args.sink.now) (g.W.Sink.written c.collect_warnings.new.sink) (c.new-chunk.result ++ l)) is
    c.in-Err.ensures.text)
