use Rattle.ngc_line_reader.proofs.TakenPieces.{begun_program, begun_firm}
use Rattle.ngc_line_reader.proofs.program.loader.Loader.new.Goals as goal

pub returns-clause-begins : goal.returns-clause-begins
returns-clause-begins g c bytes =
    begun_program (record { found = c.new.result; cut = c.new-2.result }) bytes c.new.ensures.lines c.new.ensures.phase c.new-2.ensures

pub returns-clause-firm : goal.returns-clause-firm
returns-clause-firm g c bytes = begun_firm (record { found = c.new.result; cut = c.new-2.result }) bytes c.new.ensures.lines c.new.ensures.phase c.new-2.ensures
