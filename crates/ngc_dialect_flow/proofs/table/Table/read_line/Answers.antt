use Rattle.ngc_dialect_flow.specs.Marks.{line_in}
use Rattle.ngc_dialect_flow.specs.Places.{dialect_of}
use Rattle.ngc_dialect_flow.proofs.PassLaws.{covers_read, same_line, on_ok}
use Rattle.ngc_dialect_flow.proofs.table.Table.read_line.Goals as goal

pub returns-clause-covers : goal.returns-clause-covers
returns-clause-covers g c =
    let l = line_in (dialect_of c.args.self.now) c.args.bytes.now in
    on_ok c.add_line.result _ _ _
    (λ places rows. covers_read c.args.self.now c.add_line.new.self l _ c.args.index (same_line c.read_mark-mark.result c.read_mark-mark.new.line.text.items l c.read_mark-mark.ensures.mark c.read_mark-mark.ensures.text) places rows)
    c.add_line.ensures.places c.add_line.ensures.rows
