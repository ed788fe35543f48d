-- The numbers of faults, in the order of the page docs/FAULTS.md. Several rows of it may have one
-- number.
use Rattle.std.specs.Prelude.{◌==◌, ℕ, Bool, List, [], ◌∷◌, ◌++◌}
use Rattle.std.specs.List.{list_any}

-- reading a line
abbrev pub line_numbers : List ℕ
line_numbers = 101 ∷ 111 ∷ 112 ∷ 113 ∷ 114 ∷ 115 ∷ 116 ∷ 117 ∷ 118 ∷ 119 ∷ []

-- reading a file
abbrev pub file_numbers : List ℕ
file_numbers = 120 ∷ 121 ∷ 122 ∷ []

-- values
abbrev pub value_numbers : List ℕ
value_numbers = 101 ∷ 102 ∷ 131 ∷ 132 ∷ 133 ∷ []

-- codes and words
abbrev pub word_numbers : List ℕ
word_numbers = 201 ∷ 202 ∷ 203 ∷ 204 ∷ 205 ∷ 206 ∷ 207 ∷ 208 ∷ 209 ∷ 210 ∷ []

-- places, tools and feeds
abbrev pub place_numbers : List ℕ
place_numbers = 101 ∷ 221 ∷ 222 ∷ 251 ∷ 252 ∷ []

-- canned cycles
abbrev pub cycle_numbers : List ℕ
cycle_numbers = 231 ∷ 231 ∷ 232 ∷ 233 ∷ 233 ∷ 234 ∷ 235 ∷ 236 ∷ 252 ∷ []

-- arcs
abbrev pub arc_numbers : List ℕ
arc_numbers = 241 ∷ 241 ∷ 242 ∷ 243 ∷ 244 ∷ 245 ∷ 246 ∷ 246 ∷ 252 ∷ []

-- programs for other controls
abbrev pub dialect_numbers : List ℕ
dialect_numbers = 123 ∷ 134 ∷ 135 ∷ 136 ∷ 137 ∷ 138 ∷ 139 ∷ 205 ∷ 211 ∷ 223 ∷ 247 ∷ 248 ∷ []

-- machine file and tool table
abbrev pub setup_numbers : List ℕ
setup_numbers = 261 ∷ 261 ∷ 262 ∷ 263 ∷ 264 ∷ 265 ∷ 266 ∷ 267 ∷ 268 ∷ 269 ∷ 269 ∷ 269 ∷ []

-- certificates
abbrev pub certificate_numbers : List ℕ
certificate_numbers = 301 ∷ 302 ∷ 303 ∷ 304 ∷ 311 ∷ 312 ∷ 313 ∷ 314 ∷ 315 ∷ 316 ∷ 317 ∷ 318
    ∷ 319 ∷ []

-- events
abbrev pub event_numbers : List ℕ
event_numbers = 711 ∷ 712 ∷ []

-- in the log
abbrev pub log_numbers : List ℕ
log_numbers = 701 ∷ 702 ∷ 703 ∷ []

-- input, output and the command line
abbrev pub shell_numbers : List ℕ
shell_numbers = 720 ∷ 721 ∷ 722 ∷ 723 ∷ 724 ∷ 726 ∷ 727 ∷ 728 ∷ 729 ∷ 730 ∷ 900
    ∷ 901 ∷ 902 ∷ []

-- all of them
abbrev pub fault_numbers : List ℕ
fault_numbers = line_numbers ++ file_numbers ++ value_numbers ++ word_numbers ++ place_numbers
    ++ cycle_numbers ++ arc_numbers ++ dialect_numbers
    ++ setup_numbers ++ certificate_numbers ++ event_numbers ++ log_numbers ++ shell_numbers

-- whether a fault has the number
abbrev pub is_fault : ℕ → Bool
is_fault number = list_any (λ known. known == number) fault_numbers
