-- The exit statuses of the program. Our own.
use Rattle.std.specs.Prelude.{◌≡◌, ◌⊎◌, ℕ}

-- done; input, output or memory; a file or a program that is refused; a certificate that is refused
-- or isn't made
abbrev pub IsStatus : ℕ → Type 0
IsStatus n = (n ≡ 0) ⊎ (n ≡ 1) ⊎ (n ≡ 3) ⊎ (n ≡ 4)
