use Rattle.std.proofs.Common.{◌<◌, ap, length, arith}
use Rattle.std.specs.Option.{option_map}
use Rattle.ngc_line_reader.specs.Program.{Line}
use Rattle.ngc_line_reader.proofs.LinesInStore.{length-lines_from, stored_line}
use Rattle.ngc_line_reader.proofs.program.stored.StoredLines.number.Goals as goal

pub returns : goal.returns
returns g c =
    let within : c.args.index < length c.args.self.now.ends.items = omega (arith, length-lines_from c.args.self.now.bytes.items 0 c.args.self.now.ends.items) in
    ap (option_map (λ (l : Line). l.number))
    (stored_line c.args.self.now.bytes.items c.args.self.now.ends.items c.args.index c.index.result.now within c.index.ensures)
