-- What it means that no feed cuts the block.
use Rattle.std.proofs.Common.{◌≡◌, refl, List, ◌∷◌, ◌++◌, Option, Some, None, is_none, Bool, true, false, ◌&&◌, IsTrue}
use Rattle.ngc_commands.specs.Reached.{at_start}
use Rattle.ngc_stock.proofs.AboveFeeds.{all_above}
use Rattle.ngc_stock.specs.Below.{all_below}
use Rattle.ngc_stock_report.specs.Uncut.{UncutBlock, are_known, from_top, has_feed, is_above}

no_truth : IsTrue false → ⊥
no_truth h = cc

second : (a b : Bool) → IsTrue (a && b) → IsTrue b
second true b h = h
second false b h = absurd (no_truth h)

none_of : {T : Type 0} (o : Option T) → IsTrue (is_none o) → o ≡ None
none_of None h = refl
none_of (Some x) h = absurd (no_truth h)

pub uncut_block : UncutBlock
uncut_block m b g before later c h =
    let all = before ++ c ∷ later in
    let stock = from_top m b g in
    all_above stock (at_start m) before later c
    (none_of (all_below stock (at_start m) 0 all None)
    (second (has_feed all && are_known (at_start m) all) (is_above m b g (at_start m) all) h))
