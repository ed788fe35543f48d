use Rattle.std.proofs.Common.{sym, ◌∙◌, Some, None}
use Rattle.ngc_machine_files.specs.Machine.{file_of}
use Rattle.ngc_certificate.proofs.RemainingPieces.{one_judged}
use Rattle.ngc_certificate.proofs.pieces.PieceJudge.next.Goals as goal

pub returns-in-Some-clause-first : goal.returns-in-Some-clause-first
returns-in-Some-clause-first g c rest last =
    let j = c.args.self.now in
    one_judged (file_of c.args.machine.now) j.tool j.way j.several c.args.last j.judged j.begin c.args.piece.now rest (Some c.in-Some.fault) last
    (sym c.in-Some.is ∙ c.fault_within.ensures)

pub returns-in-None-clause-first : goal.returns-in-None-clause-first
returns-in-None-clause-first g c rest last =
    let j = c.args.self.now in
    one_judged (file_of c.args.machine.now) j.tool j.way j.several c.args.last j.judged j.begin c.args.piece.now rest None last
    (sym c.in-None.is ∙ c.fault_within.ensures)
