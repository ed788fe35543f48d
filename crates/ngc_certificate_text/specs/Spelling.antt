-- The text of a certificate. Our own format.
use Rattle.std.specs.Prelude.{ℕ, List, ◌++◌, length, flat_map, decimal, codes}
use Rattle.std.specs.Fmt.{signed_decimal}
use Rattle.ngc_fixed_length.specs.declared.points.StepPos.{StepPos}
use Rattle.ngc_certificate_text.specs.declared.piece.Cut.{Cut}
use Rattle.ngc_certificate_text.specs.declared.piece.Cut.TheVariants.{Part, Place}
use Rattle.ngc_certificate_text.specs.declared.piece.Piece.{Piece}
use Rattle.ngc_certificate_text.specs.declared.expected.Indices.{Indices}
use Rattle.ngc_certificate_text.specs.declared.expected.Indices.TheVariants.{Both, Off, On}
use Rattle.ngc_certificate_text.specs.Certificate.{Entry, CertificateData}
use Rattle.ngc_certificate_text.specs.Joined.{Item, expansion, Form, Parted, Joined}

-- numbers, each after one space
abbrev pub steps_text : StepPos → List ℕ
steps_text p = codes " " ++ signed_decimal p.x ++ codes " " ++ signed_decimal p.y ++ codes " "
    ++ signed_decimal p.z

abbrev pub cut_text : Cut → List ℕ
cut_text (Part t) = codes "line " ++ decimal t
cut_text (Place q) = codes "arc " ++ signed_decimal q.u ++ codes " " ++ signed_decimal q.v

abbrev pub piece_line : Piece → List ℕ
piece_line p = cut_text p.end ++ steps_text p.bounds.low ++ steps_text p.bounds.high ++ codes "\n"

abbrev pub motion_line : ℕ → ℕ → List ℕ
motion_line index pieces =
    codes "motion " ++ decimal index ++ codes " " ++ decimal pieces ++ codes "\n"

abbrev pub entry_lines : Entry → List ℕ
entry_lines e = motion_line e.index (length e.pieces) ++ flat_map piece_line e.pieces

abbrev pub setting_lines : List ℕ → List Entry → List ℕ
setting_lines name entries =
    codes "setting " ++ name ++ codes " " ++ decimal (length entries) ++ codes "\n"
    ++ flat_map entry_lines entries

abbrev pub version_1_text : CertificateData → List ℕ
version_1_text c =
    codes "ngc-certificate 1\n" ++ setting_lines (codes "off") c.off
    ++ setting_lines (codes "on") c.on ++ codes "end\n"

-- ---- version 2

abbrev pub indices_text : Indices → List ℕ
indices_text (Both i j) = codes "both " ++ decimal i ++ codes " " ++ decimal j
indices_text (Off i) = codes "off " ++ decimal i
indices_text (On j) = codes "on " ++ decimal j

abbrev pub item_line : Indices → ℕ → List ℕ
item_line indices pieces = indices_text indices ++ codes " " ++ decimal pieces ++ codes "\n"

abbrev pub item_lines : Item → List ℕ
item_lines x = item_line x.indices (length x.pieces) ++ flat_map piece_line x.pieces

abbrev pub counts_line : CertificateData → List ℕ
counts_line c =
    codes "motions " ++ decimal (length c.off) ++ codes " " ++ decimal (length c.on) ++ codes "\n"

abbrev pub version_2_text : List Item → List ℕ
version_2_text items =
    codes "ngc-certificate 2\n" ++ counts_line (expansion items) ++ flat_map item_lines items
    ++ codes "end\n"

abbrev pub spelling : Form → List ℕ
spelling (Parted c) = version_1_text c
spelling (Joined items) = version_2_text items
