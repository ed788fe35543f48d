use Rattle.std.proofs.Common.{◌≡◌, ◌++◌, ◌∙◌, List, ap}
use Rattle.std.proofs.lemmas.List.{append_assoc}
use Rattle.ngc_setup_sheet.specs.declared.line.Fact.TheVariants as facts
use Rattle.ngc_setup_sheet.specs.declared.line.Figure.TheVariants as figures
use Rattle.ngc_setup_sheet.specs.declared.line.Line.{Line}
use Rattle.ngc_setup_sheet.specs.declared.line.Line.TheVariants as lines
use Rattle.ngc_setup_sheet.specs.Sheets.{is_free, line_where, margin_line}
use Rattle.ngc_setup_sheet.proofs.lines.add_margins.Goals as goal

pub returns-clause-items : goal.returns-clause-items
returns-clause-items g c =
    let old : List Line = c.args.lines.now.items in
    let margin : List Line = margin_line facts.Margin c.args.machine.now.margins.fixtures in
    let travel : List Line = margin_line facts.TravelMargin c.args.machine.now.margins.travel in
    let rapids : List Line = line_where (is_free c.args.machine.now.rapids) (lines.Fact facts.Rapids figures.AnyWay) in
    (rw c.is_free.ensures at c.add_where.ensures.items)
    ∙ ap (λ (ls : List Line). ls ++ rapids) (c.add_margin-2.ensures.items ∙ ap (λ (ls : List Line). ls ++ travel) c.add_margin.ensures.items)
    ∙ append_assoc (old ++ margin) travel rapids ∙ append_assoc old margin (travel ++ rapids)
