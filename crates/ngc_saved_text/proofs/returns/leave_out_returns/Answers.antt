use Rattle.std.proofs.Common.{sym, ◌∙◌, arith, length}
use Rattle.std.proofs.lemmas.List.{take_all}
use Rattle.ngc_saved_text.proofs.ReturnLaws.{no_return_found}
use Rattle.ngc_saved_text.proofs.returns.leave_out_returns.Goals as goal

pub returns-in-None-clause-front : goal.returns-in-None-clause-front
returns-in-None-clause-front c =
    take_all (length c.args.bytes.now) c.args.bytes.now (omega arith) ∙ sym (no_return_found c.args.bytes.now c.in-None.ensures)
