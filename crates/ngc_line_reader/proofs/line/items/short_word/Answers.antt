use Rattle.std.proofs.Common.{◌≡◌, ◌≢◌, ◌<◌, length, drop, slice_index, Some, Ok, arith}
use Rattle.std.proofs.lemmas.Grind.{common_steps}
use Rattle.std.proofs.lemmas.Bool.Decides.{nat_tests}
use Rattle.ngc_line_reader.specs.Letter.{letter_of}
use Rattle.ngc_line_reader.specs.Text.{place_in}
use Rattle.ngc_line_reader.specs.Scan.{number_at}
use Rattle.ngc_line_reader.specs.ScanLine.{parts_of}
use Rattle.ngc_line_reader.proofs.LineItems.{short_word}
use Rattle.ngc_line_reader.proofs.line.items.short_word.Goals as goal

pub returns-in-Ok-clause-reads : goal.returns-in-Ok-clause-reads
returns-in-Ok-clause-reads c =
    let room : 0 < c.args.room = omega arith in
    let letter : letter_of (slice_index c.args.s.now 0) ≡ Some c.in_ok-letter.letter = grind (arith, common_steps) in
    let few : length c.args.line.now.words.items ≢ 64 = grind (arith, common_steps, nat_tests) in
    let number : number_at (drop 1 c.args.s.now) ≡ Ok (c.in-Ok.value, c.in-Ok.rest.now) = grind (arith, common_steps) in
    let read = short_word (place_in c.args.columns.now) c.args.room (parts_of c.args.line.now) c.args.s.now c.in_ok-letter.letter
    c.in-Ok.value c.in-Ok.rest.now room letter few number in
    grind (arith, common_steps)
