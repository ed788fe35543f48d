use Rattle.std.proofs.Common.{ap}
use Rattle.std.proofs.Math.Bridge.{le_prop}
use Rattle.ngc_program_report.specs.declared.request.ReportRequest.{ReportRequest}
use Rattle.ngc_simulator.specs.Answers.{request_of}
use Rattle.ngc_simulator.proofs.reporting_files.request_of.Goals as goal

pub returns : goal.returns
returns c =
    let r : ReportRequest = request_of c.args.figures c.args.options.now in
    rw (c.requested_form.ensures, c.cells_of.ensures) (ap (λ p. record r { some_cuts = p }) (le_prop _ _))
