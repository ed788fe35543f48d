use Rattle.std.proofs.Common.{arith}
use Rattle.ngc_map_picture.proofs.Division.{check_of_parts}
use Rattle.ngc_map_picture.proofs.check.crc.Goals as goal

pub returns : goal.returns
returns c =
    check_of_parts c.args.first.now c.args.second.now c.args.third.now c.with_bytes-register.result c.with_bytes-register-2.result
    c.with_bytes-register-3.result (omega arith) c.with_bytes-register.ensures c.with_bytes-register-2.ensures c.with_bytes-register-3.ensures
