-- Worked examples of files, evaluated.
use Rattle.std.proofs.Common.{◌≡◌, ℕ, List, [], ◌∷◌, map, true, false, refl}
use Rattle.std.specs.Prelude.{codes}
use Rattle.ngc_line_reader.specs.Program.{lines_of, read_lines, lacks_end}
use Rattle.ngc_line_reader.specs.Pieces.{firm_lines}

abbrev read_bytes : List ℕ → List (List ℕ)
read_bytes bytes = map (λ line. line.bytes) (read_lines (lines_of bytes))

marked_file : read_bytes (codes "%\nG0 X1\n%\nno such (") ≡ codes "G0 X1" ∷ []
marked_file = refl

plain_file : read_bytes (codes "G0 X1\nM2\n%\nbad (") ≡ codes "G0 X1" ∷ (codes "M2" ∷ [])
plain_file = refl

last_feed : read_bytes (codes "G0\nM2\n") ≡ codes "G0" ∷ (codes "M2" ∷ [])
last_feed = refl

lone_percent : lacks_end (lines_of (codes "%")) ≡ true
lone_percent = refl

empty_marked : lacks_end (lines_of (codes "%\n%\nno such (")) ≡ false
empty_marked = refl

begun_line : firm_lines (codes "G0 X1\n\nX2") ≡ codes "G0 X1" ∷ ([] ∷ [])
begun_line = refl
