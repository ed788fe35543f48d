use Rattle.std.proofs.Common.{◌∙◌, ap, List}
use Rattle.ngc_machine_files.specs.Machine.{file_of}
use Rattle.ngc_commands.specs.declared.reached.Reached.{Reached}
use Rattle.ngc_cells.specs.declared.stretch.Spot.{Spot}
use Rattle.ngc_stock.specs.declared.cut.Cut.{Cut}
use Rattle.ngc_material_report.specs.Sentences.{depths_text, cuts_text, untested_text}
use Rattle.ngc_stock_report.specs.Texts.{block_origin}
use Rattle.ngc_stock_report.specs.Walked.{WalkData}
use Rattle.ngc_stock_report.proofs.Prefixes.{appends_as, begins_as, begins_first, begins_last, third_fault, on_err}
use Rattle.ngc_stock_report.proofs.written.write_rest.Goals as goal

pub returns-in_err-write_depths-clause-fault : goal.returns-in_err-write_depths-clause-fault
returns-in_err-write_depths-clause-fault g c =
    let a = c.args in
    let m = file_of a.machine.now in
    let same = ap (λ (w : WalkData). depths_text a.form c.block_origin-origin.result w.stock c.at_start-start.result a.commands.now) c.walk.view_is
    ∙ ap (λ (o : Spot). depths_text a.form o a.walk.now.stock c.at_start-start.result a.commands.now) c.block_origin-origin.ensures
    ∙ ap (λ (r : Reached). depths_text a.form (block_origin m m.stock) a.walk.now.stock r a.commands.now) c.at_start-start.ensures in
    on_err _ _ (begins_first _ _ _ _ (begins_as _ _ _ _ same c.in_err-write_depths.ensures.fault))

pub returns-in_err-write_cuts-clause-fault : goal.returns-in_err-write_cuts-clause-fault
returns-in_err-write_cuts-clause-fault g c =
    let a = c.args in
    let m = file_of a.machine.now in
    let same = ap (λ (w : WalkData). depths_text a.form c.block_origin-origin.result w.stock c.at_start-start.result a.commands.now) c.walk.view_is
    ∙ ap (λ (o : Spot). depths_text a.form o a.walk.now.stock c.at_start-start.result a.commands.now) c.block_origin-origin.ensures
    ∙ ap (λ (r : Reached). depths_text a.form (block_origin m m.stock) a.walk.now.stock r a.commands.now) c.at_start-start.ensures in
    let cuts = ap (λ (cs : List Cut). cuts_text a.form a.tools.now cs) (c.as_slice-cuts.ensures.value ∙ ap (λ (w : WalkData). w.cuts) c.walk.view_is) in
    on_err _ _ (begins_last _ _ _ _ _ (appends_as _ _ _ _ same c.in_ok-write_depths.ensures.ok)
    (begins_first _ _ _ _ (begins_as _ _ _ _ cuts c.in_err-write_cuts.ensures.fault)))

pub returns-clause-fault : goal.returns-clause-fault
returns-clause-fault g c =
    let a = c.args in
    let m = file_of a.machine.now in
    let same = ap (λ (w : WalkData). depths_text a.form c.block_origin-origin.result w.stock c.at_start-start.result a.commands.now) c.walk.view_is
    ∙ ap (λ (o : Spot). depths_text a.form o a.walk.now.stock c.at_start-start.result a.commands.now) c.block_origin-origin.ensures
    ∙ ap (λ (r : Reached). depths_text a.form (block_origin m m.stock) a.walk.now.stock r a.commands.now) c.at_start-start.ensures in
    let deepest = c.as_slice-cuts.ensures.value ∙ ap (λ (w : WalkData). w.cuts) c.walk.view_is in
    let cuts = ap (λ (cs : List Cut). cuts_text a.form a.tools.now cs) deepest in
    let untested = ap (λ (w : WalkData). untested_text a.form w.stock.grid a.tools.now c.as_slice-cuts.result.now) c.walk.view_is
    ∙ ap (λ (cs : List Cut). untested_text a.form a.walk.now.stock.grid a.tools.now cs) deepest in
    third_fault c.write_untested.result (g.W.Sink.written a.output.now) (g.W.Sink.written c.write_depths.new.output)
    (g.W.Sink.written c.write_cuts.new.output) (g.W.Sink.written c.write_untested.new.output) _ _ _ _ untested
    (appends_as _ _ _ _ same c.in_ok-write_depths.ensures.ok) (appends_as _ _ _ _ cuts c.in_ok-write_cuts.ensures.ok) c.write_untested.ensures.fault
