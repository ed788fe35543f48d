use Rattle.std.proofs.Common.{◌+◌, length}
use Rattle.ngc_line_reader.proofs.TakenPieces.{long_cut, no_room}
use Rattle.ngc_line_reader.proofs.program.loader.Loader.keep.Goals as goal

pub returns-in-Err-clause-step : goal.returns-in-Err-clause-step
returns-in-Err-clause-step g c lines parts rest =
    let long = no_room (length c.args.self.now.cut.items + length c.args.piece.now) (λ fits. cc (c.in-Err.ensures.variant.1 fits)) in
    long_cut lines c.args.self.now c.args.piece.now rest c.long_line.result parts c.requires.loading c.requires.feedless long c.long_line.ensures.value
