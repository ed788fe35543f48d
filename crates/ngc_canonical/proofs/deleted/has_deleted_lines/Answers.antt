use Rattle.std.proofs.Common.{◌+◌, ◌<◌, Bool, length, drop, ap, sym, ◌∙◌, arith}
use Rattle.std.specs.Prelude.{◌||◌}
use Rattle.ngc_line_reader.specs.ProgramView.{text_in}
use Rattle.ngc_canonical.specs.Meaning.{has_deleted, with_readings}
use Rattle.ngc_canonical.proofs.BlockDelete.{seen_line, next_seen, deleted_from}
use Rattle.ngc_canonical.proofs.Lines.{bytes_are}
use Rattle.ngc_canonical.proofs.deleted.has_deleted_lines.Goals as goal

pub returns-then-is_deleted : goal.returns-then-is_deleted
returns-then-is_deleted g c = λ rs are.
    let lines = (text_in c.args.program.now).lines in
    let within : c.loop-index.index < length lines = omega (arith, c.loop-index-test.true, c.len-index-end.ensures.value) in
    let here = seen_line lines c.loop-index.index within in
    let says = c.is_deleted.ensures here.line.bytes (bytes_are lines c.loop-index.index here.line here.at) in
    let rest : Bool = has_deleted (with_readings (drop (c.loop-index.index + 1) lines) (drop (c.loop-index.index + 1) rs)) in
    sym (c.loop-index.invariant rs are ∙ deleted_from lines rs c.loop-index.index _ _ _ says (next_seen lines rs c.loop-index.index here are)
    ∙ ap (λ (x : Bool). x || rest) c.if-is_deleted.true)

pub loop-index-preserved : goal.loop-index-preserved
loop-index-preserved g c = λ rs are.
    let lines = (text_in c.args.program.now).lines in
    let within : c.loop-index.index < length lines = omega (arith, c.loop-index-test.true, c.len-index-end.ensures.value) in
    let here = seen_line lines c.loop-index.index within in
    let says = c.is_deleted.ensures here.line.bytes (bytes_are lines c.loop-index.index here.line here.at) in
    let rest : Bool = has_deleted (with_readings (drop (c.loop-index.index + 1) lines) (drop (c.loop-index.index + 1) rs)) in
    c.loop-index.invariant rs are ∙ deleted_from lines rs c.loop-index.index _ _ _ says (next_seen lines rs c.loop-index.index here are)
    ∙ ap (λ (x : Bool). x || rest) c.if-is_deleted.false
