use Rattle.std.proofs.Common.{ℕ, ◌<◌, List, Some, ap, subst, sym, ◌∙◌, length, slice_range, arith}
use Rattle.std.specs.Prelude.{IsOk}
use Rattle.std.specs.Option.{option_map}
use Rattle.ngc_line_reader.specs.Program.{Line}
use Rattle.ngc_line_reader.specs.ReadLine.{line_read}
use Rattle.ngc_line_reader.specs.declared.program.stored.LineEnd.{LineEnd}
use Rattle.ngc_line_reader.specs.Stored.{lines_from}
use Rattle.ngc_line_reader.proofs.LinesInStore.{length-lines_from, stored_line, stored_bounds, stored_read}
use Rattle.ngc_line_reader.proofs.program.stored.StoredLines.bounds.Goals as goal

-- an index of a line is the index of its end
within : (bytes : List ℕ) (ends : List LineEnd) (i : ℕ) → i < length (lines_from bytes 0 ends) → i < length ends
within bytes ends i h = omega (arith, length-lines_from bytes 0 ends)

pub returns-clause-order : goal.returns-clause-order
returns-clause-order g c =
    let inside = within c.args.self.now.bytes.items c.args.self.now.ends.items c.args.index c.requires in
    let h = stored_bounds c.args.self.now.bytes.items c.args.self.now.ends.items c.args.index c.index.result.now c.args.self.now.stored inside
    c.index.ensures in
    omega (arith, h.0, c.start.ensures)

pub returns-clause-within : goal.returns-clause-within
returns-clause-within g c =
    let inside = within c.args.self.now.bytes.items c.args.self.now.ends.items c.args.index c.requires in
    let h = stored_bounds c.args.self.now.bytes.items c.args.self.now.ends.items c.args.index c.index.result.now c.args.self.now.stored inside
    c.index.ensures in
    omega (arith, h.1)

pub returns-clause-value : goal.returns-clause-value
returns-clause-value g c =
    let inside = within c.args.self.now.bytes.items c.args.self.now.ends.items c.args.index c.requires in
    ap (option_map (λ (l : Line). l.bytes))
    (stored_line c.args.self.now.bytes.items c.args.self.now.ends.items c.args.index c.index.result.now inside c.index.ensures)
    ∙ ap (λ (s : ℕ). Some (slice_range c.args.self.now.bytes.items s c.index.result.now.end)) (sym c.start.ensures)

pub returns-clause-read : goal.returns-clause-read
returns-clause-read g c =
    let inside = within c.args.self.now.bytes.items c.args.self.now.ends.items c.args.index c.requires in
    subst (λ (s : ℕ). IsOk (line_read (slice_range c.args.self.now.bytes.items s c.index.result.now.end))) (sym c.start.ensures)
    (stored_read c.args.self.now.bytes.items c.args.self.now.ends.items c.args.index c.index.result.now c.args.self.now.stored inside c.index.ensures)
