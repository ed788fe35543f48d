use Rattle.std.proofs.Common.{◌<◌, length, arith}
use Rattle.ngc_line_reader.proofs.LinesInStore.{length-lines_from, start_behind}
use Rattle.ngc_line_reader.proofs.program.stored.StoredLines.start.Goals as goal

pub returns-in-Some : goal.returns-in-Some
returns-in-Some g c =
    let k = c.in-Some.ensures in
    let within : c.args.index < length c.args.self.now.ends.items = omega (arith, length-lines_from c.args.self.now.bytes.items 0 c.args.self.now.ends.items) in
    start_behind c.args.self.now.ends.items c.args.index c.in-Some.before c.index.result.now within k.0 k.1 c.index.ensures
