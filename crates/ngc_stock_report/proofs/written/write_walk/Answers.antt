use Rattle.std.proofs.Common.{◌∙◌, refl, List, ap, ap₂}
use Rattle.ngc_cells.specs.declared.stretch.Spot.{Spot}
use Rattle.ngc_machine_files.specs.Machine.{file_of}
use Rattle.ngc_material.specs.declared.walk.Found.{Found}
use Rattle.ngc_material_report.specs.Sentences.{touches_text}
use Rattle.ngc_sure_contacts.specs.declared.contact.FoundTraverse.{FoundTraverse}
use Rattle.ngc_stock_report.specs.Texts.{MOST_LINES, block_origin, arcs_line, found_or}
use Rattle.ngc_stock_report.specs.Walked.{WalkData}
use Rattle.ngc_stock_report.proofs.Prefixes.{appends_as, begins_as, begins_first, begins_last, on_err, third_fault}
use Rattle.ngc_stock_report.proofs.written.write_walk.Goals as goal

pub returns-in_err-write_touches-clause-fault : goal.returns-in_err-write_touches-clause-fault
returns-in_err-write_touches-clause-fault g c =
    let m = file_of c.args.machine.now in
    let feeds = c.as_slice-feeds.ensures.value ∙ ap (λ (w : WalkData). w.feeds) c.walk.view_is in
    let traverses = c.as_slice-traverses.ensures.value ∙ ap (λ (w : WalkData). w.traverses) c.walk.view_is in
    let touches = ap (λ (o : Spot). touches_text c.args.form MOST_LINES o c.args.tools.now c.as_slice-traverses.result.now c.as_slice-feeds.result.now) c.block_origin-origin.ensures
    ∙ ap₂ (λ (ts : List FoundTraverse) (gs : List Found). touches_text c.args.form MOST_LINES (block_origin m m.stock) c.args.tools.now ts gs) traverses feeds in
    on_err _ _ (begins_first _ _ _ _ (begins_as _ _ _ _ touches c.in_err-write_touches.ensures.fault))

pub returns-in_err-write_all-clause-fault : goal.returns-in_err-write_all-clause-fault
returns-in_err-write_all-clause-fault g c =
    let m = file_of c.args.machine.now in
    let found = c.as_slice-found.ensures.value ∙ ap (λ (w : WalkData). w.found) c.walk.view_is in
    let feeds = c.as_slice-feeds.ensures.value ∙ ap (λ (w : WalkData). w.feeds) c.walk.view_is in
    let traverses = c.as_slice-traverses.ensures.value ∙ ap (λ (w : WalkData). w.traverses) c.walk.view_is in
    let touches = ap (λ (o : Spot). touches_text c.args.form MOST_LINES o c.args.tools.now c.as_slice-traverses.result.now c.as_slice-feeds.result.now) c.block_origin-origin.ensures
    ∙ ap₂ (λ (ts : List FoundTraverse) (gs : List Found). touches_text c.args.form MOST_LINES (block_origin m m.stock) c.args.tools.now ts gs) traverses feeds in
    let arcs = c.arcs_line.ensures ∙ ap (λ (fs : List Found). arcs_line c.args.form c.args.commands.now fs) (c.found_or-touches.ensures ∙ ap₂ found_or found feeds) in
    on_err _ _ (begins_last _ _ _ _ _ (appends_as _ _ _ _ touches c.in_ok-write_touches.ensures.ok)
    (begins_first _ _ _ _ (begins_as _ _ _ _ arcs c.in_err-write_all.ensures.fault)))

pub returns-clause-fault : goal.returns-clause-fault
returns-clause-fault g c =
    let m = file_of c.args.machine.now in
    let found = c.as_slice-found.ensures.value ∙ ap (λ (w : WalkData). w.found) c.walk.view_is in
    let feeds = c.as_slice-feeds.ensures.value ∙ ap (λ (w : WalkData). w.feeds) c.walk.view_is in
    let traverses = c.as_slice-traverses.ensures.value ∙ ap (λ (w : WalkData). w.traverses) c.walk.view_is in
    let touches = ap (λ (o : Spot). touches_text c.args.form MOST_LINES o c.args.tools.now c.as_slice-traverses.result.now c.as_slice-feeds.result.now) c.block_origin-origin.ensures
    ∙ ap₂ (λ (ts : List FoundTraverse) (gs : List Found). touches_text c.args.form MOST_LINES (block_origin m m.stock) c.args.tools.now ts gs) traverses feeds in
    let arcs = c.arcs_line.ensures ∙ ap (λ (fs : List Found). arcs_line c.args.form c.args.commands.now fs) (c.found_or-touches.ensures ∙ ap₂ found_or found feeds) in
    third_fault c.write_rest.result (g.W.Sink.written c.args.output.now) (g.W.Sink.written c.write_touches.new.output) (g.W.Sink.written c.write_all.new.sink)
    (g.W.Sink.written c.write_rest.new.output) _ _ _ _ refl (appends_as _ _ _ _ touches c.in_ok-write_touches.ensures.ok)
    (appends_as _ _ _ _ arcs c.in_ok-write_all.ensures.ok) c.write_rest.ensures.fault
