use Rattle.std.proofs.Common.{ℕ, List, Option, ap, sym}
use Rattle.ngc_canonical.specs.Interpreter.{setup_of}
use Rattle.ngc_report.proofs.Converted.{turned}
use Rattle.ngc_shifted_program.specs.Executions.{dialect_execution}
use Rattle.ngc_simulator.specs.DialectPlaces.{PlacesDialect}
use Rattle.ngc_simulator.specs.Placing.{PlacesJob}
use Rattle.ngc_simulator.proofs.DialectLaws.{job_failed}
use Rattle.ngc_simulator.proofs.PlaceLaws.{placing_not_memory}
use Rattle.ngc_simulator.proofs.dialect_places.place_sent.Goals as goal

pub returns-in_err-place_job-in-Ok-clause-places : goal.returns-in_err-place_job-in-Ok-clause-places
returns-in_err-place_job-in-Ok-clause-places g c =
    let sent = c.args.sent in
    let setup = setup_of sent.shop.machine sent.shop.tools in
    let does = dialect_execution sent.dialect sent.text.items in
    let old : Option (List ℕ) = g.W.Sink.written c.args.output.now in
    let new : Option (List ℕ) = g.W.Sink.written c.place_job.new.output in
    let fault = c.in_err-place_job-in-Ok.field-0.0 in
    let places = c.in_err-place_job-in-Ok.ensures.places does (ap (dialect_execution sent.dialect) (sym c.as_slice-text.ensures.value)) in
    turned _ fault (PlacesDialect sent.dialect setup sent.text.items c.args.request old new) c.from_residual-in_err-place_job-in-Ok.ensures.1
    (job_failed sent.dialect setup sent.text.items old new (λ j. PlacesJob does j c.args.request old new) c.in-Ok.job fault
    (rw (c.in-Ok.is, c.as_slice-text.ensures.value) at c.in_ok-job.ensures.job) places
    (placing_not_memory does c.in-Ok.job c.args.request old new fault places))
