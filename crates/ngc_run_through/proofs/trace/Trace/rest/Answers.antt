use Rattle.std.proofs.Common.{ap, replicate, sym, ◌∙◌}
use Rattle.ngc_run_through.specs.declared.trace.Trace.TheVariants.{Pulses, Samples}
use Rattle.ngc_run_through.specs.Tracing.{trace_after}
use Rattle.ngc_run_through.proofs.QuietTicks.{quiet, quiet_dumped, quiet_rested}
use Rattle.ngc_run_through.proofs.trace.Trace.rest.Goals as goal

pub returns-in-Pulses : goal.returns-in-Pulses
returns-in-Pulses c =
    ap Pulses c.rest_for.ensures ∙ sym (quiet_dumped c.args.count c.in-Pulses.dump)
    ∙ ap (λ t. trace_after t (replicate c.args.count quiet)) (sym c.in-Pulses.is)

pub returns-in-Samples : goal.returns-in-Samples
returns-in-Samples c =
    ap (λ k. Samples k c.in-Samples.field-1) c.rest.ensures ∙ sym (quiet_rested c.args.count c.in-Samples.samples c.in-Samples.field-1)
    ∙ ap (λ t. trace_after t (replicate c.args.count quiet)) (sym c.in-Samples.is)
