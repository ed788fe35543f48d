use Rattle.std.proofs.Common.{ℕ, List, Option, Some, Result, inl, subst}
use Rattle.std.specs.Prelude.{option_map}
use Rattle.ngc_canonical.specs.Interpreter.{setup_of}
use Rattle.ngc_report.proofs.Converted.{turned}
use Rattle.ngc_inputs.proofs.JobLaws.{keeps_same}
use Rattle.ngc_inputs.proofs.UnreadLaws.{unread_told}
use Rattle.ngc_inputs.specs.Unread.{SourceFails}
use Rattle.ngc_simulator.specs.Answers.{DialectPlaceResult, place_inputs_in, place_request}
use Rattle.ngc_inputs.specs.Setups.{FileBytes}
use Rattle.ngc_inputs.specs.declared.fault.AnswerFault.{AnswerFault}
use Rattle.ngc_simulator.specs.Dialects.{OnDialect, StopsDialect}
use Rattle.ngc_simulator.specs.DialectPlaces.{PlacesDialect}
use Rattle.ngc_simulator.specs.declared.done.Done.{Done}
use Rattle.ngc_simulator.specs.declared.place_request.PlaceRequest.{PlaceRequest}
use Rattle.ngc_simulator.proofs.DialectLaws.{all_were_read, dialect_comes, on_read, place_read}
use Rattle.ngc_simulator.proofs.dialect_places.place_dialect.Goals as goal

pub returns-in_err-sent-clause-comes : goal.returns-in_err-sent-clause-comes
returns-in_err-sent-clause-comes g c =
    turned _ c.in_err-sent.field-0.0
    (DialectPlaceResult c.args.control.now (g.F.Files.bytes c.args.files.now) c.args.options.now c.args.system (g.W.Sink.written c.args.output.now) (g.W.Sink.written c.args.output.now))
    c.from_residual.ensures.1 (inl (c.in_err-sent.ensures.stops, keeps_same _))

pub returns-in_err-sent-clause-unread : goal.returns-in_err-sent-clause-unread
returns-in_err-sent-clause-unread g c =
    unread_told (SourceFails g.F.R.Source.remaining g.F.R.Source.failures) (g.F.Files.bytes c.args.files.now)
    (place_inputs_in (Some c.args.control.now) c.args.options.now) _ _ _ c.in_err-sent.field-0.0 c.from_residual.ensures.1 c.in_err-sent.ensures.unread

pub returns-clause-comes : goal.returns-clause-comes
returns-clause-comes g c =
    let old : Option (List ℕ) = g.W.Sink.written c.args.output.now in
    let new : Option (List ℕ) = g.W.Sink.written c.place_sent.new.output in
    let machine : Option (List ℕ) = Some c.args.options.now.machine.now in
    let tools : Option (List ℕ) = Some c.args.options.now.tools.now in
    let bytes : FileBytes = g.F.Files.bytes c.args.files.now in
    let sent = c.in_ok-sent.sent in
    let program : Option (List ℕ) = option_map (λ n. n.now) c.args.options.now.program in
    let request = place_request c.args.options.now c.args.system in
    dialect_comes (StopsDialect c.args.control.now bytes machine tools c.args.options.now.changes)
    (λ (o : Result Done AnswerFault). OnDialect c.args.control.now bytes machine tools c.args.options.now.changes program
    (λ d setup source. PlacesDialect d setup source request old new o)) old new c.place_sent.result
    (on_read c.args.control.now machine tools c.args.options.now.changes program bytes sent
    (λ d setup source. PlacesDialect d setup source request old new c.place_sent.result) c.in_ok-sent.ensures.sent.read
    (subst (λ (r : PlaceRequest). PlacesDialect sent.dialect (setup_of sent.shop.machine sent.shop.tools) sent.text.items r old new c.place_sent.result)
    c.request_of.ensures c.place_sent.ensures.places))

pub returns-clause-unread : goal.returns-clause-unread
returns-clause-unread g c =
    let sent = c.in_ok-sent.sent in
    all_were_read (SourceFails g.F.R.Source.remaining g.F.R.Source.failures) (g.F.Files.bytes c.args.files.now)
    (place_inputs_in (Some c.args.control.now) c.args.options.now) _ _ c.place_sent.result c.in_ok-sent.ensures.unread
    (place_read sent.dialect (setup_of sent.shop.machine sent.shop.tools) sent.text.items c.request_of.result _ _ c.place_sent.result c.place_sent.ensures.places)
