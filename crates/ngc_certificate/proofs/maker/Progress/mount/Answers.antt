use Rattle.std.proofs.Common.{sym, ◌∙◌}
use Rattle.ngc_machine_files.specs.Machine.{file_of}
use Rattle.ngc_certificate.proofs.MakingLaws.{not_mounted}
use Rattle.ngc_certificate.proofs.maker.Progress.mount.Goals as goal

pub returns-then-not-is_clear_at-clause-leads : goal.returns-then-not-is_clear_at-clause-leads
returns-then-not-is_clear_at-clause-leads g c = λ most entries actions.
    not_mounted (file_of c.args.machine.now) most c.args.index c.args.self.now.tool c.args.tool c.args.self.now.place (entries c.args.self.now.motions) actions
    (sym c.is_clear_at.ensures ∙ c.if-not-is_clear_at.true)
