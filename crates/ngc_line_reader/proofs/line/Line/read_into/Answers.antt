use Rattle.std.proofs.Common.{rules}
use Rattle.ngc_line_reader.proofs.ReadLines.{gives_reading, finds_reading}
use Rattle.ngc_line_reader.proofs.RefusedLines.{large_is_written, many_are_written}
use Rattle.ngc_line_reader.proofs.line.Line.read_into.Goals as goal

pub returns-clause-found : goal.returns-clause-found
returns-clause-found c =
    gives_reading c.args.bytes.now _ _ c.text_at.new.line c.text_at.result c.fill_text-length.ensures.bytes c.fill_text-length.ensures.columns
    c.text_at.ensures.reads

pub returns-clause-only : goal.returns-clause-only
returns-clause-only c r reads limits short =
    finds_reading c.args.bytes.now _ _ c.text_at.new.line c.text_at.result c.fill_text-length.ensures.bytes c.text_at.ensures.reads r reads limits

pub returns-clause-large : goal.returns-clause-large
returns-clause-large c = large_is_written c.args.bytes.now _ _ c.text_at.new.line c.text_at.result c.fill_text-length.ensures.bytes c.text_at.ensures.reads

pub returns-clause-many : goal.returns-clause-many
returns-clause-many c = many_are_written c.args.bytes.now _ _ c.text_at.new.line c.text_at.result c.fill_text-length.ensures.bytes c.text_at.ensures.reads

pub returns-then-bytes-gt-LINE_LENGTH-clause-first : goal.returns-then-bytes-gt-LINE_LENGTH-clause-first
returns-then-bytes-gt-LINE_LENGTH-clause-first c = search rules
