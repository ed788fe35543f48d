use Rattle.std.proofs.Common.{List, subst, sym}
use Rattle.ngc_certificate_text.specs.Certificate.{Entry}
use Rattle.ngc_machine_files.specs.Machine.{file_of}
use Rattle.ngc_certificate.specs.Making.{made_by, Leads}
use Rattle.ngc_certificate.proofs.maker.Progress.take.Goals as goal

pub returns-in-Mount-clause-leads : goal.returns-in-Mount-clause-leads
returns-in-Mount-clause-leads g c =
    let entries : g.row.M.Denot → List Entry = λ m. g.M.MotionStore.entries m c.args.machine.now.step c.args.commands.now in
    subst (λ action. Leads (file_of c.args.machine.now) c.args.most c.args.index action (made_by entries c.args.self.now) c.mount.result
    (made_by entries c.mount.new.self)) (sym c.in-Mount.is) (c.mount.ensures.leads c.args.most entries)
