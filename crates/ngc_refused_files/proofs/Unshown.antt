-- Lines that are too long to be shown.
use Rattle.std.proofs.Common.{◌≡◌, ℕ, List, [], Option, Bool, true, false, cond, ap}
use Rattle.ngc_text.specs.Shown.{shown_text}
use Rattle.ngc_refused_files.specs.Refusals.{is_short, with_mark, shown_below}

pub unshown : (line : List ℕ) (mark : Option ℕ) (short : Bool) → short ≡ is_short line → short ≡ false → [] ≡ shown_below line mark
unshown line mark false h e = ap (λ s. cond s (with_mark (shown_text line) mark) []) h
unshown line mark true h e = cc
