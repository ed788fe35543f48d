use Rattle.std.proofs.Common.{◌==◌, ◌∙◌, rules, tests}
use Rattle.std.proofs.lemmas.Iterator.{YieldsList-from_slice}
use Rattle.std.proofs.lemmas.Iterator.Search.{find_from_yields_List}
use Rattle.ngc_material_report.proofs.cuts.tool_at.Goals as goal

pub returns : goal.returns
returns c =
    let e = find_from_yields_List (λ t. t.number == c.args.number) _ _ c.find.result c.find.ensures.ran (YieldsList-from_slice c.args.tools.now cc)
    (λ x b q k. search (rules, tests)) in
    c.copied.ensures ∙ e
