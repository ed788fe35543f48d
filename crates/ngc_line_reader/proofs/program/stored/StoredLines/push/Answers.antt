use Rattle.std.proofs.Common.{arith, ap, ap₂, [], ◌∷◌, ◌++◌, length, ◌∙◌}
use Rattle.ngc_line_reader.specs.declared.program.stored.LineEnd.{LineEnd}
use Rattle.ngc_line_reader.specs.Kept.{parts_in}
use Rattle.ngc_line_reader.specs.ProgramView.{lines_in}
use Rattle.ngc_line_reader.specs.ReadLine.{line_read}
use Rattle.ngc_line_reader.specs.Stored.{line_of, lines_from}
use Rattle.ngc_line_reader.proofs.LinesInStore.{length-lines_from, stored_size, Pushes, push_stored, push_lines}
use Rattle.ngc_line_reader.proofs.KeptLines.{within_after, kept_after, reading_kept, is_ok_of}
use Rattle.ngc_line_reader.proofs.program.stored.StoredLines.push.Goals as goal

pub overflow_cast-end : goal.overflow_cast-end
overflow_cast-end g c =
    let old = c.keep.new.self in
    let size = stored_size old.bytes.items old.ends.items old.stored in
    let few = length-lines_from c.args.self.now.bytes.items 0 c.args.self.now.ends.items in
    let same = ap (λ v. length v.items) c.in_ok-parts.ensures.ends in
    omega (arith, size, few, same, c.requires.few, c.requires.short, c.len-end.ensures, c.in_ok-extend_from_slice.ensures.len)

pub invariant_of-self-in-Ok : goal.invariant_of-self-in-Ok
invariant_of-self-in-Ok g c =
    let old = c.keep.new.self in
    let e : LineEnd = record { number = c.args.number; end = c.len-end.result; parts = c.in_ok-parts.parts } in
    let pushes : Pushes c.args.number c.len-end.result c.in_ok-parts.parts old.bytes.items c.args.bytes.now c.extend_from_slice.new.self.items old.ends.items
    c.push.new.self.items = record { bytes_are = c.in_ok-extend_from_slice.ensures.items; end_is = omega arith; ends_are = c.in-Ok.ensures.items } in
    let same = ap (λ v. length v.items) c.in_ok-parts.ensures.ends in
    record {
      few = omega (arith, same, length-lines_from c.args.self.now.bytes.items 0 c.args.self.now.ends.items, c.requires.few, c.in-Ok.ensures.len);
      stored = push_stored c.args.number c.len-end.result c.in_ok-parts.parts old.bytes.items c.args.bytes.now c.extend_from_slice.new.self.items old.ends.items
          c.push.new.self.items
          pushes old.stored c.requires.short (is_ok_of (line_read c.args.bytes.now) _ c.requires.read);
      within = within_after (parts_in old.parts) old.ends.items c.push.new.self.items e c.in-Ok.ensures.items old.within c.in_ok-parts.ensures.within;
      kept = kept_after (parts_in old.parts) (lines_in old) (lines_from c.extend_from_slice.new.self.items 0 c.push.new.self.items) old.ends.items
          c.push.new.self.items (line_of c.args.number c.args.bytes.now) e
          (push_lines c.args.number c.len-end.result c.in_ok-parts.parts old.bytes.items c.args.bytes.now c.extend_from_slice.new.self.items old.ends.items
          c.push.new.self.items pushes old.stored)
          c.in-Ok.ensures.items old.kept
          (reading_kept (parts_in old.parts) c.args.number c.args.bytes.now c.args.reading.now e c.requires.read c.in_ok-parts.ensures.value
          c.in_ok-parts.ensures.deleted);
    }

pub returns-in-Ok : goal.returns-in-Ok
returns-in-Ok g c =
    let old = c.keep.new.self in
    let pushes : Pushes c.args.number c.len-end.result c.in_ok-parts.parts old.bytes.items c.args.bytes.now c.extend_from_slice.new.self.items old.ends.items
    c.push.new.self.items = record { bytes_are = c.in_ok-extend_from_slice.ensures.items; end_is = omega arith; ends_are = c.in-Ok.ensures.items } in
    record {
      pushed = push_lines c.args.number c.len-end.result c.in_ok-parts.parts old.bytes.items c.args.bytes.now c.extend_from_slice.new.self.items old.ends.items
          c.push.new.self.items pushes old.stored
          ∙ ap₂ (λ b e. lines_from b.items 0 e.items ++ (line_of c.args.number c.args.bytes.now ∷ [])) c.in_ok-parts.ensures.bytes c.in_ok-parts.ensures.ends;
    }
