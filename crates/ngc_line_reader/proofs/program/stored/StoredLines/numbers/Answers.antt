use Rattle.std.proofs.Common.{◌≡◌, ◌<◌, ◌∙◌, ap, sym, Some, length, arith}
use Rattle.ngc_line_reader.specs.Kept.{StoredLine, by_numbers, by_symbols, parts_in, parts_at, symbols_at}
use Rattle.ngc_line_reader.specs.ProgramView.{lines_in}
use Rattle.ngc_line_reader.proofs.LinesInStore.{length-lines_from}
use Rattle.ngc_line_reader.proofs.KeptLines.{numbered_line, symbols_line, line_kept_is}
use Rattle.ngc_line_reader.proofs.program.stored.StoredLines.numbers.Goals as goal

pub returns-in-Numbers : goal.returns-in-Numbers
returns-in-Numbers g c = λ bytes is.
    let inside : c.args.index < length c.args.self.now.ends.items = omega (arith, length-lines_from c.args.self.now.bytes.items 0 c.args.self.now.ends.items) in
    let all = parts_in c.args.self.now.parts in
    let same = line_kept_is all (lines_in c.args.self.now) c.args.self.now.ends.items c.args.index c.index.result.now bytes c.args.self.now.kept inside
    c.index.ensures is in
    let kept : parts_at all c.index.result.now.parts.kept ≡ by_numbers c.numbered.result.now = ap (parts_at all) c.in-Numbers.is ∙ c.numbered.ensures in
    numbered_line bytes c.index.result.now.parts.deleted c.numbered.result.now
    (sym same ∙ ap (λ (k : StoredLine). Some (c.index.result.now.parts.deleted, k)) kept)

pub returns-in-Symbols : goal.returns-in-Symbols
returns-in-Symbols g c = λ bytes is.
    let inside : c.args.index < length c.args.self.now.ends.items = omega (arith, length-lines_from c.args.self.now.bytes.items 0 c.args.self.now.ends.items) in
    let all = parts_in c.args.self.now.parts in
    let same = line_kept_is all (lines_in c.args.self.now) c.args.self.now.ends.items c.args.index c.index.result.now bytes c.args.self.now.kept inside
    c.index.ensures is in
    let kept : parts_at all c.index.result.now.parts.kept ≡ by_symbols (symbols_at all c.in-Symbols.field-0) = ap (parts_at all) c.in-Symbols.is in
    symbols_line bytes c.index.result.now.parts.deleted (symbols_at all c.in-Symbols.field-0)
    (sym same ∙ ap (λ (k : StoredLine). Some (c.index.result.now.parts.deleted, k)) kept)
