use Rattle.std.proofs.Common.{List, ap}
use Rattle.ngc_machine_files.specs.Machine.{file_of}
use Rattle.ngc_machine_files.specs.declared.tools.Tool.{Tool}
use Rattle.ngc_stock_report.specs.Texts.{material_text}
use Rattle.ngc_program_report.proofs.WritingLaws.{writes_text}
use Rattle.ngc_program_report.proofs.fit_writer.write_stock.Goals as goal

pub returns : goal.returns
returns g c =
    let s = c.args.subject.now in
    let same = ap (λ (ts : List Tool). material_text s.form (file_of s.machine.now) ts c.args.commands.now c.args.fit.now.material) c.tools-tools.ensures.tools in
    writes_text _ _ same c.write_material.ensures.ok c.write_material.ensures.fault c.write_material.ensures.counts
