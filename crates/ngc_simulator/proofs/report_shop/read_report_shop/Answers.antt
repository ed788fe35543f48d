use Rattle.std.proofs.Common.{◌≡◌, ◌∙◌, List, Option, Some, Err, inl, inr, subst, sym, true, ℕ}
use Rattle.ngc_canonical.specs.Interpreter.{setup_of}
use Rattle.ngc_inputs.specs.Unread.{SourceFails, shop_inputs}
use Rattle.ngc_inputs.specs.declared.setup.Shop.{Shop}
use Rattle.ngc_inputs.proofs.SetupLaws.{on_placed}
use Rattle.ngc_report.specs.declared.form.Form.{Form}
use Rattle.ngc_simulator.specs.Cells.{ReportsNoMaterial, is_idle}
use Rattle.ngc_simulator.specs.Mistaken.{ReportsPlacedRefusal}
use Rattle.ngc_simulator.proofs.DialectLaws.{all_were_read}
use Rattle.ngc_simulator.proofs.report_shop.read_report_shop.Goals as goal

pub returns-then-is_idle-clause-said : goal.returns-then-is_idle-clause-said
returns-then-is_idle-clause-said g c =
    let o = c.args.options.now in
    let shop = c.in-Ok.shop in
    let fault = c.refuse_cells.result in
    let new = g.W.Sink.written c.refuse_cells.new.output in
    let idle : is_idle o.cells (setup_of shop.machine shop.tools).machine.stock ≡ true = sym c.is_idle.ensures ∙ c.if-is_idle.true in
    inr (
      on_placed (g.F.Files.bytes c.args.files.now) (Some o.machine.now) (Some o.tools.now) o.changes (setup_of shop.machine shop.tools)
          (λ setup. is_idle o.cells setup.machine.stock ≡ true) c.in-Ok.ensures.said.0.0 c.in-Ok.ensures.said.0.1 idle,
      subst (λ (f : Form). ReportsNoMaterial f (g.W.Sink.written c.args.output.now) new fault) c.requested_form-form.ensures
          (subst (λ (mid : Option (List ℕ)). ReportsNoMaterial c.requested_form-form.result mid new fault) c.in-Ok.ensures.said.1 c.refuse_cells.ensures.tells),
    )

pub returns-then-is_idle-clause-unread : goal.returns-then-is_idle-clause-unread
returns-then-is_idle-clause-unread g c =
    all_were_read {T = Shop} (SourceFails g.F.R.Source.remaining g.F.R.Source.failures) (g.F.Files.bytes c.args.files.now)
    (shop_inputs (Some c.args.options.now.machine.now) (Some c.args.options.now.tools.now)) _ _ (Err c.refuse_cells.result) c.in-Ok.ensures.unread
    c.refuse_cells.ensures.unread

pub returns-in-Err-clause-said : goal.returns-in-Err-clause-said
returns-in-Err-clause-said g c =
    let o = c.args.options.now in
    inl (subst (λ (f : Form). ReportsPlacedRefusal f (g.F.Files.bytes c.args.files.now) (Some o.machine.now) (Some o.tools.now) o.changes
    (g.W.Sink.written c.args.output.now) (g.W.Sink.written c.read_placed_reporting.new.output) c.in-Err.fault)
    c.requested_form-form.ensures c.in-Err.ensures.said)
