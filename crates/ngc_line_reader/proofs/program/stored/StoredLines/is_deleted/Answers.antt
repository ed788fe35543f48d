use Rattle.std.proofs.Common.{◌<◌, sym, length, arith}
use Rattle.ngc_line_reader.specs.Kept.{parts_in, parts_at}
use Rattle.ngc_line_reader.specs.ProgramView.{lines_in}
use Rattle.ngc_line_reader.proofs.LinesInStore.{length-lines_from}
use Rattle.ngc_line_reader.proofs.KeptLines.{deleted_line, line_kept_is}
use Rattle.ngc_line_reader.proofs.program.stored.StoredLines.is_deleted.Goals as goal

pub returns : goal.returns
returns g c = λ bytes is.
    let inside : c.args.index < length c.args.self.now.ends.items = omega (arith, length-lines_from c.args.self.now.bytes.items 0 c.args.self.now.ends.items) in
    let all = parts_in c.args.self.now.parts in
    let same = line_kept_is all (lines_in c.args.self.now) c.args.self.now.ends.items c.args.index c.index.result.now bytes c.args.self.now.kept inside
    c.index.ensures is in
    deleted_line bytes c.index.result.now.parts.deleted (parts_at all c.index.result.now.parts.kept) (sym same)
