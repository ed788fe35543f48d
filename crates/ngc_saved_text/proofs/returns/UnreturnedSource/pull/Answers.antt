use Rattle.std.proofs.Common.{arith, rules}
use Rattle.ngc_saved_text.proofs.HeldLaws.{byte_given}
use Rattle.ngc_saved_text.proofs.returns.UnreturnedSource.pull.Goals as goal

pub returns-in-Byte-clause-bytes : goal.returns-in-Byte-clause-bytes
returns-in-Byte-clause-bytes g c =
    (byte_given _ _ c.args.buf.now c.in-Byte.byte c.in-Byte.is (search rules), λ e l. absurd (omega (arith, e)))
