use Rattle.std.proofs.Common.{◌++◌}
use Rattle.ngc_text.specs.Written.{AppendsPrefix}
use Rattle.ngc_text.specs.Collected.{WritesPrefix}
use Rattle.ngc_certificate_text.proofs.EntryOrder.{as_spelled}
use Rattle.ngc_certificate_text.proofs.WrittenCertificate.{stopped_in_first, stopped_in_second, stopped_behind, made_whole}
use Rattle.ngc_certificate_text.proofs.write.write_whole.Goals as goal

pub returns-in-Err-clause-text : goal.returns-in-Err-clause-text
returns-in-Err-clause-text g c =
    as_spelled (λ l. AppendsPrefix (g.W.Sink.written c.args.sink.now) (g.W.Sink.written c.write_counts.new.sink) (c.args.chunk.now ++ l)) _ _ _ _ _
    c.requires.whole c.count-off_count.ensures.value c.count-on_count.ensures.value
    (stopped_in_first _ _ _ _ _ _ _ _ c.add_text.ensures c.in-Err.ensures.text)

pub returns-in-Err-write_entries-clause-text : goal.returns-in-Err-write_entries-clause-text
returns-in-Err-write_entries-clause-text g c =
    as_spelled (λ l. AppendsPrefix (g.W.Sink.written c.args.sink.now) (g.W.Sink.written c.write_entries.new.sink) (c.args.chunk.now ++ l)) _ _ _ _ _
    c.requires.whole c.count-off_count.ensures.value c.count-on_count.ensures.value
    (stopped_in_second _ _ _ _ _ _ _ _ _ _ c.add_text.ensures c.in-Ok.ensures.text c.in-Err-write_entries.ensures.text)

pub returns-in-Err-make_space-clause-text : goal.returns-in-Err-make_space-clause-text
returns-in-Err-make_space-clause-text g c =
    as_spelled (λ l. AppendsPrefix (g.W.Sink.written c.args.sink.now) (g.W.Sink.written c.make_space.new.sink) (c.args.chunk.now ++ l)) _ _ _ _ _
    c.requires.whole c.count-off_count.ensures.value c.count-on_count.ensures.value
    (stopped_behind _ _ _ _ _ _ _ _ _ _ _ _ c.add_text.ensures c.in-Ok.ensures.text c.in-Ok-write_entries.ensures.text c.in-Err-make_space.ensures.fault)

pub returns-clause-text : goal.returns-clause-text
returns-clause-text g c =
    as_spelled (λ l. WritesPrefix (g.W.Sink.written c.args.sink.now) (g.W.Sink.written c.make_space.new.sink) (c.args.chunk.now ++ l) c.add_text-2.new.self) _ _ _
    _ _ c.requires.whole c.count-off_count.ensures.value c.count-on_count.ensures.value
    (made_whole _ _ _ _ _ _ _ _ _ _ _ _ _ _ c.add_text.ensures c.in-Ok.ensures.text c.in-Ok-write_entries.ensures.text c.in-Ok-make_space.ensures.ok
    c.add_text-2.ensures)
