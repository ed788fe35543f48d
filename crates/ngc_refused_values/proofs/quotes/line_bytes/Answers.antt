use Rattle.std.proofs.Common.{◌≡◌, ◌∙◌, ◌+◌, suc, ℕ, List, Option, take, ap, sym, arith}
use Rattle.std.specs.Option.{option_map}
use Rattle.ngc_line_reader.specs.Program.{Line}
use Rattle.ngc_line_reader.specs.ProgramView.{text_in}
use Rattle.ngc_report.specs.Quotes.{line_with}
use Rattle.ngc_report.proofs.Lines.{at, found, passed}
use Rattle.ngc_refused_values.proofs.quotes.line_bytes.Goals as goal

pub returns-then-number : goal.returns-then-number
returns-then-number g c =
    let lines = (text_in c.args.program.now).lines in
    let here = at lines c.loop-index.index c.number.result c.number.ensures in
    let is = found c.args.number lines c.loop-index.index here.line c.loop-index.invariant here.is (here.has ∙ c.if-number.true) in
    let bytes : Option Line → Option (List ℕ) = λ o. option_map (λ l. l.bytes) o in
    sym c.bytes.ensures.value ∙ ap bytes here.is ∙ sym (ap bytes is)

pub loop-index-preserved : goal.loop-index-preserved
loop-index-preserved g c =
    let lines = (text_in c.args.program.now).lines in
    let here = at lines c.loop-index.index c.number.result c.number.ensures in
    let one : c.loop-index.index + 1 ≡ suc c.loop-index.index = omega arith in
    ap (λ n. line_with c.args.number (take n lines)) one
    ∙ passed c.args.number lines c.loop-index.index here.line c.loop-index.invariant here.is (λ is. c.if-number.false (sym here.has ∙ is))
