use Rattle.std.proofs.Common.{◌∙◌, ap}
use Rattle.std.specs.Option.{option_or}
use Rattle.ngc_line_reader.specs.ProgramView.{text_in}
use Rattle.ngc_refused_values.proofs.LastWordSteps.{arrived, at, further}
use Rattle.ngc_refused_values.proofs.last_words.last_word.Goals as goal

pub returns-then-line-number : goal.returns-then-line-number
returns-then-line-number g c =
    let lines = (text_in c.args.program.now).lines in
    let i = c.loop-index.index in
    let here = at lines i c.number-line.result c.bytes.result.now c.number-line.ensures c.bytes.ensures.value in
    c.later-last.ensures
    ∙ ap (λ w. option_or w c.loop-index.last) c.word_read.ensures
    ∙ arrived c.args.kind c.args.deletes c.args.number lines i c.number-line.result c.bytes.result.now c.loop-index.last here c.loop-index.invariant
    c.if-line-number.true

pub loop-index-preserved : goal.loop-index-preserved
loop-index-preserved g c =
    let lines = (text_in c.args.program.now).lines in
    let i = c.loop-index.index in
    let here = at lines i c.number-line.result c.bytes.result.now c.number-line.ensures c.bytes.ensures.value in
    rw (c.later-last.ensures, c.word_read.ensures)
    (further c.args.kind c.args.deletes c.args.number lines i c.number-line.result c.bytes.result.now c.loop-index.last here c.loop-index.invariant
    c.if-line-number.false)
