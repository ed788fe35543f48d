-- The letters that begin words (NISTIR 6556, 3.3.2 and its table of letters). All letters of that
-- table can be written; N is the line number's.
use Rattle.std.specs.Prelude.{ℕ, ◌==◌, List, [], ◌∷◌, Option, find}
use Rattle.ngc_line_reader.specs.declared.letter.Letter.{Letter}
use Rattle.ngc_line_reader.specs.declared.letter.Letter.TheVariants as letters

-- the byte of a letter, in upper case
abbrev pub letter_byte : Letter → ℕ
letter_byte letters.A = 65
letter_byte letters.B = 66
letter_byte letters.C = 67
letter_byte letters.D = 68
letter_byte letters.F = 70
letter_byte letters.G = 71
letter_byte letters.H = 72
letter_byte letters.I = 73
letter_byte letters.J = 74
letter_byte letters.K = 75
letter_byte letters.L = 76
letter_byte letters.M = 77
letter_byte letters.P = 80
letter_byte letters.Q = 81
letter_byte letters.R = 82
letter_byte letters.S = 83
letter_byte letters.T = 84
letter_byte letters.X = 88
letter_byte letters.Y = 89
letter_byte letters.Z = 90

abbrev pub all_letters : List Letter
all_letters =
    letters.A ∷ letters.B ∷ letters.C ∷ letters.D ∷ letters.F ∷ letters.G ∷ letters.H ∷ letters.I
    ∷ letters.J ∷ letters.K ∷ letters.L
    ∷ letters.M ∷ letters.P ∷ letters.Q ∷ letters.R ∷ letters.S ∷ letters.T ∷ letters.X ∷ letters.Y
    ∷ letters.Z ∷ []

-- the letter of a byte
unfoldable pub letter_of : ℕ → Option Letter
letter_of b = find (λ l. letter_byte l == b) all_letters
