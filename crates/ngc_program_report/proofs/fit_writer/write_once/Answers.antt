use Rattle.std.proofs.Common.{◌∙◌, List, true, false, ap₂, sym}
use Rattle.ngc_certificate_text.specs.declared.piece.Setting.TheVariants.{Off}
use Rattle.ngc_commands.specs.declared.command.Command.{Command}
use Rattle.ngc_lowest_tips.specs.Tips.{lowest_tips}
use Rattle.ngc_machine_files.specs.Machine.{file_of}
use Rattle.ngc_machine_files.specs.declared.tools.Tool.{Tool}
use Rattle.ngc_machine_files.specs.Tools.{tools_of}
use Rattle.ngc_program_report.specs.Coordinates.{history_of}
use Rattle.ngc_program_report.specs.Reported.{reported}
use Rattle.ngc_program_report.specs.Texts.{findings}
use Rattle.ngc_program_report.proofs.FitLaws.{setting_as, shop_as}
use Rattle.ngc_program_report.proofs.WritingLaws.{stops, then, writes_as}
use Rattle.ngc_program_report.proofs.WrittenLaws.{appends_as, begins_as}
use Rattle.ngc_program_report.proofs.fit_writer.write_once.Goals as goal

pub write_setting-requires : goal.write_setting-requires
write_setting-requires g c =
    let h = c.args.fit.now.history.now in
    record {
      tips = c.requires.tips ∙ ap₂ (λ (ts : List Tool) (cs : List Command). lowest_tips ts h.start h.changes.items cs) (sym c.tools-tools.ensures)
          (sym c.commands.ensures);
    }

pub returns-in_err-write_setting : goal.returns-in_err-write_setting
returns-in_err-write_setting g c =
    let off = setting_as c.args.form c.args.origins.now true false Off (g.M.MotionList.entries c.args.motions.now) (findings c.args.fit.now.time c.args.fit.now.material)
    (history_of c.args.fit.now.history.now.start c.args.fit.now.history.now.changes.items) (reported c.args.text.now)
    (file_of c.machine-machine.result.now) c.args.accepted.now.machine (tools_of c.tools-tools.result.now) c.args.accepted.now.tools
    c.commands.result.now c.args.accepted.now.off c.machine-machine.ensures.value c.tools-tools.ensures c.commands.ensures in
    stops _ _ c.from_residual.ensures.0 (begins_as _ _ _ _ off c.in_err-write_setting.ensures.fault) c.in_err-write_setting.ensures.counts

pub returns : goal.returns
returns g c =
    let off = setting_as c.args.form c.args.origins.now true false Off (g.M.MotionList.entries c.args.motions.now) (findings c.args.fit.now.time c.args.fit.now.material)
    (history_of c.args.fit.now.history.now.start c.args.fit.now.history.now.changes.items) (reported c.args.text.now)
    (file_of c.machine-machine.result.now) c.args.accepted.now.machine (tools_of c.tools-tools.result.now) c.args.accepted.now.tools
    c.commands.result.now c.args.accepted.now.off c.machine-machine.ensures.value c.tools-tools.ensures c.commands.ensures in
    let shop = shop_as c.args.form (reported c.args.text.now).figures (file_of c.machine-machine.result.now) c.args.accepted.now.machine
    (tools_of c.tools-tools.result.now) c.args.accepted.now.tools c.machine-machine.ensures.value c.tools-tools.ensures in
    then _ _ (appends_as _ _ _ _ off c.in_ok-write_setting.ensures.ok) c.in_ok-write_setting.ensures.counts (writes_as c.write_fit_end.ensures shop)
