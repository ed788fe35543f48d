use Rattle.std.proofs.Common.{arith}
use Rattle.ngc_added_boxes.proofs.LastSplit.{split_at_last}
use Rattle.ngc_added_boxes.proofs.reading.split_name.Goals as goal

pub returns : goal.returns
returns c = split_at_last 61 c.args.text.now _ c.rsplit_once.ensures.cases (omega arith)
