-- The lines that remain, one system further.
use Rattle.std.proofs.Common.{◌≡◌, ℕ, ◌+◌, ◌<◌, List, [], ◌++◌, ◌≤◌, length, get_or, drop, Option, ap, sym, ◌∙◌}
use Rattle.std.proofs.lemmas.List.{at_drop_all, drop_more}
use Rattle.ngc_fixed_length.specs.declared.points.Point3.{Point3}
use Rattle.ngc_origins.specs.Lines.{line_of, lines_from}
use Rattle.ngc_origins.specs.Texts.{OriginList}

pub next_line : (line : ℕ → Point3 → List ℕ) (os : OriginList) (i : ℕ) (o : Option Point3) → i < length os → o ≡ get_or os i o
    → lines_from line i (drop i os) ≡ line_of line i o ++ lines_from line (i + 1) (drop (i + 1) os)
next_line line os i o inside found =
    ap (lines_from line i) (drop_more os i o inside) ∙ ap (λ (x : Option Point3). line_of line i x ++ lines_from line (i + 1) (drop (i + 1) os)) (sym found)

pub no_line : (line : ℕ → Point3 → List ℕ) (os : OriginList) (i : ℕ) → length os ≤ i → lines_from line i (drop i os) ≡ []
no_line line os i ended = at_drop_all (lines_from line i) os i ended
