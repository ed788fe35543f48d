use Rattle.std.proofs.Common.{◌≡◌, ◌<◌, ◌∙◌, ap, sym, refl, Some, length, arith}
use Rattle.ngc_line_reader.specs.Kept.{StoredLine, by_symbols, parts_in, parts_at, symbols_at}
use Rattle.ngc_line_reader.specs.ScanLine.{parts_of}
use Rattle.ngc_line_reader.specs.ProgramView.{lines_in}
use Rattle.ngc_line_reader.proofs.LinesInStore.{length-lines_from}
use Rattle.ngc_line_reader.proofs.KeptLines.{shown_line, line_kept_is}
use Rattle.ngc_line_reader.proofs.program.stored.StoredLines.load.Goals as goal

pub returns-in-Symbols : goal.returns-in-Symbols
returns-in-Symbols g c = λ bytes is.
    let inside : c.args.index < length c.args.self.now.ends.items = omega (arith, length-lines_from c.args.self.now.bytes.items 0 c.args.self.now.ends.items) in
    let all = parts_in c.args.self.now.parts in
    let same = line_kept_is all (lines_in c.args.self.now) c.args.self.now.ends.items c.args.index c.index.result.now bytes c.args.self.now.kept inside
    c.index.ensures is in
    let kept : parts_at all c.index.result.now.parts.kept ≡ by_symbols (symbols_at all c.in-Symbols.parts) = ap (parts_at all) c.in-Symbols.is in
    shown_line bytes (symbols_at all c.in-Symbols.parts) c.index.result.now.parts.deleted c.index.result.now.parts.deleted (parts_of c.load.new.line)
    (sym same ∙ ap (λ (k : StoredLine). Some (c.index.result.now.parts.deleted, k)) kept) refl
    c.load.ensures.words c.load.ensures.settings c.load.ensures.symbols
