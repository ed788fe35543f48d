-- The contents of small texts.
use Rattle.std.proofs.Common.{◌≡◌, ℕ, [], ◌∷◌, Ok, Err, refl}
use Rattle.std.specs.Prelude.{pos, negsuc, codes}
use Rattle.ngc_fixed_length.specs.declared.points.GridBox.{GridBox}
use Rattle.ngc_fixed_length.specs.declared.points.StepPos.{StepPos}
use Rattle.ngc_certificate_text.specs.declared.fault.CertificateFault.TheVariants.{WrongHeader, BadLine, OutOfRange}
use Rattle.ngc_certificate_text.specs.declared.piece.Cut.TheVariants.{Part}
use Rattle.ngc_certificate_text.specs.Number.{number_in}
use Rattle.ngc_certificate_text.specs.Lines.{numbers_in, parsed_setting, parsed_motion, parsed_piece, parsed_end}
use Rattle.ngc_certificate_text.specs.declared.expected.Indices.TheVariants.{Both, Off, On}
use Rattle.ngc_certificate_text.specs.declared.piece.Piece.{Piece}
use Rattle.ngc_certificate_text.specs.EntryLines.{parsed_version, parsed_counts, parsed_entry}
use Rattle.ngc_certificate_text.specs.Joined.{Joined}
use Rattle.ngc_certificate_text.specs.ParsedPart.{line_at, several, entry_at, setting_at, settings_at, item_at, items_at, joined_at, parsed_form, parsed_certificate}

-- a certificate with nothing to move
nothing : parsed_certificate (codes "ngc-certificate 1\nsetting off 0\nsetting on 0\nend\n") ≡ Ok (record { off = []; on = [] })
unfolding parsed_certificate parsed_form parsed_version settings_at setting_at line_at several parsed_end parsed_setting numbers_in number_in
nothing = refl

box : StepPos → StepPos → GridBox
box low high = record { low = low; high = high }

-- a line of one piece, at one setting
one_line : parsed_certificate (codes "ngc-certificate 1\nsetting off 1\nmotion 7 1\nline 65536 0 -1 2 0 0 3\nsetting on 0\nend\n")
    ≡ Ok (record {
      off = record {
        index = 7;
        pieces = record { end = Part 65536; bounds = box (record { x = pos 0; y = negsuc 0; z = pos 2 }) (record { x = pos 0; y = pos 0; z = pos 3 }) }
            ∷ [];
      } ∷ [];
      on = [];
    })
unfolding parsed_certificate parsed_form parsed_version settings_at setting_at line_at several entry_at parsed_end parsed_setting parsed_motion parsed_piece numbers_in
    number_in box
one_line = refl

version_three : parsed_certificate (codes "ngc-certificate 3\nsetting off 0\nsetting on 0\nend\n") ≡ Err WrongHeader
unfolding parsed_certificate parsed_form parsed_version
version_three = refl

-- the first line lacks its line feed
header_alone : parsed_certificate (codes "ngc-certificate 1") ≡ Err WrongHeader
unfolding parsed_certificate parsed_form parsed_version
header_alone = refl

-- a line is missing, and the last one lacks its line feed
cut_off : parsed_certificate (codes "ngc-certificate 1\nsetting off 0\n") ≡ Err (BadLine 3)
unfolding parsed_certificate parsed_form parsed_version settings_at setting_at line_at several parsed_setting numbers_in number_in
cut_off = refl

no_line_feed : parsed_certificate (codes "ngc-certificate 1\nsetting off 0\nsetting on 0\nend") ≡ Err (BadLine 4)
unfolding parsed_certificate parsed_form parsed_version settings_at setting_at line_at several parsed_end parsed_setting numbers_in number_in
no_line_feed = refl

-- a byte after the end
more : parsed_certificate (codes "ngc-certificate 1\nsetting off 0\nsetting on 0\nend\n\n") ≡ Err (BadLine 5)
unfolding parsed_certificate parsed_form parsed_version settings_at setting_at line_at several parsed_end parsed_setting numbers_in number_in
more = refl

-- a count below zero is a number out of range, and a leading zero is written wrong
below_zero : parsed_certificate (codes "ngc-certificate 1\nsetting off -3\n") ≡ Err (OutOfRange 2)
unfolding parsed_certificate parsed_form parsed_version settings_at setting_at line_at several parsed_setting numbers_in number_in
below_zero = refl

zero_in_front : parsed_certificate (codes "ngc-certificate 1\nsetting off 03\n") ≡ Err (BadLine 2)
unfolding parsed_certificate parsed_form parsed_version settings_at setting_at line_at several parsed_setting numbers_in number_in
zero_in_front = refl

-- within a line a wrong text takes precedence over a wrong range
out_and_wrong : parsed_certificate (codes "ngc-certificate 1\nsetting off 1\nmotion 1000000 -0\n") ≡ Err (BadLine 3)
unfolding parsed_certificate parsed_form parsed_version settings_at setting_at line_at several entry_at parsed_setting parsed_motion numbers_in number_in
out_and_wrong = refl

-- a box whose low corner is above its high corner
inside_out : parsed_certificate (codes "ngc-certificate 1\nsetting off 1\nmotion 0 1\narc 0 0 1 0 0 0 0 0\n") ≡ Err (OutOfRange 4)
unfolding parsed_certificate parsed_form parsed_version settings_at setting_at line_at several entry_at parsed_setting parsed_motion parsed_piece numbers_in number_in
inside_out = refl

-- ---- version 2

point : ℕ → ℕ → ℕ → StepPos
point x y z = record { x = pos x; y = pos y; z = pos z }

whole : StepPos → StepPos → Piece
whole low high = record { end = Part 65536; bounds = record { low = low; high = high } }

-- a line at both settings
both_settings : parsed_form (codes "ngc-certificate 2\nmotions 1 1\nboth 0 0 1\nline 65536 0 0 0 3 0 0\nend\n")
    ≡ Ok (Joined (record { indices = Both 0 0; pieces = whole (point 0 0 0) (point 3 0 0) ∷ [] } ∷ []))
unfolding parsed_form parsed_version joined_at line_at several items_at item_at parsed_counts parsed_entry parsed_piece parsed_end numbers_in number_in whole point
both_settings = refl

-- the same motions in version 1's words
both_expanded : parsed_certificate (codes "ngc-certificate 2\nmotions 1 1\nboth 0 0 1\nline 65536 0 0 0 3 0 0\nend\n")
    ≡ parsed_certificate (codes "ngc-certificate 1\nsetting off 1\nmotion 0 1\nline 65536 0 0 0 3 0 0\nsetting on 1\nmotion 0 1\nline 65536 0 0 0 3 0 0\nend\n")
unfolding parsed_certificate parsed_form parsed_version settings_at setting_at entry_at parsed_setting parsed_motion joined_at line_at several items_at item_at
    parsed_counts parsed_entry parsed_piece parsed_end numbers_in number_in
both_expanded = refl

-- the second line of the program begins with `/`, so its third line starts elsewhere at `on`
low_end : StepPos
low_end = record { x = pos 3; y = pos 2; z = negsuc 0 }

low_start : StepPos
low_start = record { x = pos 3; y = pos 0; z = negsuc 0 }

parted_paths : parsed_form
    (codes "ngc-certificate 2\nmotions 3 2\nboth 0 0 1\nline 65536 0 0 0 3 0 0\noff 1 1\nline 65536 3 0 0 3 2 0\noff 2 1\nline 65536 3 2 -1 3 2 0\non 1 1\nline 65536 3 0 -1 3 0 0\nend\n")
    ≡ Ok (Joined (
    record { indices = Both 0 0; pieces = whole (point 0 0 0) (point 3 0 0) ∷ [] }
    ∷ record { indices = Off 1; pieces = whole (point 3 0 0) (point 3 2 0) ∷ [] }
    ∷ record { indices = Off 2; pieces = whole low_end (point 3 2 0) ∷ [] }
    ∷ record { indices = On 1; pieces = whole low_start (point 3 0 0) ∷ [] } ∷ []
    ))
unfolding parsed_form parsed_version joined_at line_at several items_at item_at parsed_counts parsed_entry parsed_piece parsed_end numbers_in number_in whole point
    low_end low_start
parted_paths = refl

-- a motion of `on` is missing
one_short : parsed_form
    (codes "ngc-certificate 2\nmotions 3 2\nboth 0 0 1\nline 65536 0 0 0 3 0 0\noff 1 1\nline 65536 3 0 0 3 2 0\noff 2 1\nline 65536 3 2 -1 3 2 0\nend\n")
    ≡ Err (BadLine 9)
unfolding parsed_form parsed_version joined_at line_at several items_at item_at parsed_counts parsed_entry parsed_piece parsed_end numbers_in number_in
one_short = refl

-- one motion more than declared
one_more : parsed_form (codes "ngc-certificate 2\nmotions 0 1\noff 0 1\nline 65536 0 0 0 3 0 0\n") ≡ Err (BadLine 3)
unfolding parsed_form parsed_version joined_at line_at several items_at item_at parsed_counts parsed_entry parsed_piece numbers_in number_in
one_more = refl

-- an entry of `off` alone directly after one of `on` alone
off_behind_on : parsed_form (codes "ngc-certificate 2\nmotions 2 2\non 0 1\nline 65536 0 0 0 3 0 0\noff 0 1\nline 65536 0 0 0 3 0 0\n") ≡ Err (BadLine 5)
unfolding parsed_form parsed_version joined_at line_at several items_at item_at parsed_counts parsed_entry parsed_piece numbers_in number_in
off_behind_on = refl

-- the same after the last motion of `on`
last_on_first : parsed_form (codes "ngc-certificate 2\nmotions 1 1\non 0 1\nline 65536 0 0 0 3 0 0\noff 0 1\nline 65536 0 0 0 3 0 0\nend\n") ≡ Err (BadLine 5)
unfolding parsed_form parsed_version joined_at line_at several items_at item_at parsed_counts parsed_entry parsed_piece numbers_in number_in
last_on_first = refl

-- an earlier fault takes precedence
out_before : parsed_form (codes "ngc-certificate 2\nmotions 1 1\non 0 1\nline 70000 0 0 0 3 0 0\noff 0 1\n") ≡ Err (OutOfRange 4)
unfolding parsed_form parsed_version joined_at line_at several items_at item_at parsed_counts parsed_entry parsed_piece numbers_in number_in
out_before = refl

-- motions of `off` are missing
off_missing : parsed_form (codes "ngc-certificate 2\nmotions 1 1\non 0 1\nline 65536 0 0 0 3 0 0\n") ≡ Err (BadLine 5)
unfolding parsed_form parsed_version joined_at line_at several items_at item_at parsed_counts parsed_entry parsed_piece numbers_in number_in
off_missing = refl

-- ranges
index_out : parsed_form (codes "ngc-certificate 2\nmotions 1 1\nboth 0 1000000 1\n") ≡ Err (OutOfRange 3)
unfolding parsed_form parsed_version joined_at line_at several items_at item_at parsed_counts parsed_entry numbers_in number_in
index_out = refl

counts_out : parsed_form (codes "ngc-certificate 2\nmotions 0 1000001\n") ≡ Err (OutOfRange 2)
unfolding parsed_form parsed_version joined_at line_at parsed_counts numbers_in number_in
counts_out = refl

-- within a line a wrong text takes precedence over a wrong range
out_and_used_up : parsed_form (codes "ngc-certificate 2\nmotions 0 1\nboth 0 1000000 1\n") ≡ Err (BadLine 3)
unfolding parsed_form parsed_version joined_at line_at several items_at item_at parsed_counts parsed_entry numbers_in number_in
out_and_used_up = refl
