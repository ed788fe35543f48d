-- The remaining certificate after the lines that were read, for each next line. Our own.
use Rattle.std.specs.Prelude.{◌≡◌, ℕ, ◌+◌, ◌-◌, ◌*◌, ◌≤◌, zero, suc, List, [], ◌++◌, map, codes}
use Rattle.std.specs.Prelude.{Option, Some, None, Result, Ok, Bool, true, false, IsTrue, not, ◌||◌}
use Rattle.std.specs.Prelude.{◌==◌, nat_lt}
use Rattle.ngc_certificate_text.specs.declared.expected.Expected.{Expected}
use Rattle.ngc_certificate_text.specs.declared.expected.Expected.TheVariants as next
use Rattle.ngc_certificate_text.specs.declared.expected.BegunMotion.{BegunMotion}
use Rattle.ngc_certificate_text.specs.declared.expected.RemainingEntries.{RemainingEntries}
use Rattle.ngc_certificate_text.specs.declared.expected.Indices.{Indices}
use Rattle.ngc_certificate_text.specs.declared.expected.Indices.TheVariants as of
use Rattle.ngc_certificate_text.specs.declared.expected.RemainingMotions.{RemainingMotions}
use Rattle.ngc_certificate_text.specs.declared.expected.RemainingMotions.TheVariants.{Parted, Joined}
use Rattle.ngc_certificate_text.specs.declared.fault.CertificateFault.{CertificateFault}
use Rattle.ngc_certificate_text.specs.declared.fault.CertificateFault.TheVariants as faults
use Rattle.ngc_certificate_text.specs.declared.piece.Piece.{Piece}
use Rattle.ngc_certificate_text.specs.declared.piece.Setting.{Setting}
use Rattle.ngc_certificate_text.specs.declared.piece.Setting.TheVariants.{Off, On}
use Rattle.ngc_certificate_text.specs.declared.line_content.Version.{Version}
use Rattle.ngc_certificate_text.specs.declared.line_content.Version.TheVariants.{One, Two}
use Rattle.ngc_certificate_text.specs.Certificate.{Entry, CertificateData, MOTION_LIMIT}
use Rattle.ngc_certificate_text.specs.EntryLines.{parsed_counts, all_left, none_left, remaining_after}
use Rattle.ngc_certificate_text.specs.Joined.{Item, expansion, Form, form_by}
use Rattle.ngc_certificate_text.specs.Lines.{parsed_piece, parsed_end}
pub use Rattle.ngc_certificate_text.specs.ParsedPart.{parsed_with, made_with}
use Rattle.ngc_certificate_text.specs.ParsedPart.{Place, ParsedPart, then_read, line_at, several, entry_at}
use Rattle.ngc_certificate_text.specs.ParsedPart.{setting_at, items_at, header_in, ended}

-- the version if its line is still ahead, the remaining pieces of a motion that has begun, and the
-- following entries
pub record Rest : Type 0 where
  pub version : Option Version
  pub pieces : List Piece
  pub items : List Item

abbrev pub nothing_left : Rest
nothing_left = record { version = None; pieces = []; items = [] }

-- a text's certificate, if nothing of it was read
abbrev pub certificate_of : Rest → CertificateData
certificate_of r = expansion r.items

abbrev pub form_of_text : Rest → Form
form_of_text r = form_by r.version r.items

abbrev pub of_version : Version → Rest → Rest
of_version v r = record { version = Some v; pieces = r.pieces; items = r.items }

-- these entries come first, and no motion has begun
abbrev pub with_items : List Item → Rest → Rest
with_items more r = record { version = r.version; pieces = []; items = more ++ r.items }

abbrev pub with_pieces : List Piece → Rest → Rest
with_pieces pieces r = record { version = r.version; pieces = pieces; items = r.items }

abbrev pub index_at : Setting → ℕ → Indices
index_at Off i = of.Off i
index_at On j = of.On j

-- a motion of one setting as an entry
abbrev pub item_of : Setting → Entry → Item
item_of s e = record { indices = index_at s e.index; pieces = e.pieces }

abbrev pub with_motions : Setting → List Entry → Rest → Rest
with_motions s more r = with_items (map (item_of s) more) r

abbrev pub name_of : Setting → List ℕ
name_of Off = codes "off"
name_of On = codes "on"

-- the last line
unfoldable pub end_ahead : Place → ParsedPart Rest
end_ahead p = then_read (line_at parsed_end p) (λ _ q. Ok (nothing_left, q))

-- what follows a setting: the other one, or the last line
unfoldable pub afterwards : Setting → Place → ParsedPart Rest
afterwards Off p =
    then_read (setting_at (codes "on") p) (λ more q. parsed_with (with_motions On more) (end_ahead q))
afterwards On p = end_ahead p

-- a setting, and what follows it
unfoldable pub setting_ahead : Setting → Place → ParsedPart Rest
setting_ahead s p =
    then_read (setting_at (name_of s) p) (λ more q. parsed_with (with_motions s more) (afterwards s q))

-- the remaining motions of a setting, or the remaining entries of both
unfoldable pub motions_ahead : RemainingMotions → Place → ParsedPart Rest
motions_ahead (Parted s left) p =
    then_read (several entry_at left p) (λ more q. parsed_with (with_motions s more) (afterwards s q))
motions_ahead (Joined left) p = then_read (items_at (left.off + left.on) left p)
    (λ more q. parsed_with (with_items more) (end_ahead q))

-- the remaining pieces of a motion, and the motions after it
unfoldable pub pieces_ahead : BegunMotion → Place → ParsedPart Rest
pieces_ahead b p =
    then_read (several (line_at parsed_piece) b.pieces_left p) (λ pieces q.
    parsed_with (with_pieces pieces) (motions_ahead b.afterwards q))

-- the counts of version 2, and its entries
unfoldable pub counts_ahead : Place → ParsedPart Rest
counts_ahead p = then_read (line_at parsed_counts p) (λ c q. motions_ahead (Joined (all_left c)) q)

unfoldable pub after_header : Version → Place → ParsedPart Rest
after_header One p = setting_ahead Off p
after_header Two p = counts_ahead p

-- the result of the text from this line on
unfoldable pub ahead : Expected → Place → ParsedPart Rest
ahead next.Header p =
    then_read (header_in p.left) (λ v q. parsed_with (of_version v) (after_header v q))
ahead (next.Setting s) p = setting_ahead s p
ahead next.Counts p = counts_ahead p
ahead (next.Motion left) p = motions_ahead left p
ahead (next.Piece b) p = pieces_ahead b p
ahead next.End p = end_ahead p
ahead next.Nothing p = Ok (nothing_left, p)

-- the content of a text from some line on, or the first line at fault
abbrev pub Left : Type 0
Left = Result Rest CertificateFault

-- the rest, from these lines
abbrev pub left_from : Expected → ℕ → List (List ℕ) → Left
left_from e number lines = ended (ahead e (record { number = number; left = lines }))

-- ---- the next line

abbrev pub next_setting : Setting → Expected
next_setting Off = next.Setting On
next_setting On = next.End

abbrev pub next_of_entries : Bool → RemainingEntries → Expected
next_of_entries true left = next.End
next_of_entries false left = next.Motion (Joined left)

abbrev pub next_of_motions : RemainingMotions → Expected
next_of_motions (Parted s zero) = next_setting s
next_of_motions (Parted s (suc n)) = next.Motion (Parted s (suc n))
next_of_motions (Joined left) = next_of_entries (none_left left) left

-- the remaining motions after a motion
abbrev pub motions_after : RemainingMotions → Indices → RemainingMotions
motions_after (Parted s left) indices = Parted s (left - 1)
motions_after (Joined left) indices = Joined (remaining_after left indices)

-- the fault of a line that is missing, or too long
abbrev pub wrong_line : Expected → ℕ → CertificateFault
wrong_line next.Header number = faults.WrongHeader
wrong_line (next.Setting s) number = faults.BadLine number
wrong_line next.Counts number = faults.BadLine number
wrong_line (next.Motion left) number = faults.BadLine number
wrong_line (next.Piece b) number = faults.BadLine number
wrong_line next.End number = faults.BadLine number
wrong_line next.Nothing number = faults.BadLine number

abbrev pub how_many : RemainingMotions → ℕ
how_many (Parted s left) = left
how_many (Joined left) = left.off + left.on

abbrev pub HaveSome : RemainingMotions → Type 0
HaveSome left = 1 ≤ how_many left

-- Some motion may be next. After an entry of `on` alone, none may be if motions of `off` remain and
-- none of `on`.
abbrev pub go_on : RemainingMotions → Bool
go_on (Parted s left) = true
go_on (Joined left) = not left.after_on || ((left.off == 0) || nat_lt 0 left.on)

-- some line may be next; if none may, the next line is wrong whatever it is
abbrev pub is_open : Expected → Bool
is_open next.Header = true
is_open (next.Setting s) = true
is_open next.Counts = true
is_open (next.Motion left) = go_on left
is_open (next.Piece b) = true
is_open next.End = true
is_open next.Nothing = true

-- some line may be next, a motion or a piece is counted, and the first line has the first number
pub record IsSound (e : Expected) (number : ℕ) : Type 0 where
  pub first : e ≡ next.Header → number ≡ 1
  pub motion : (left : RemainingMotions) → e ≡ next.Motion left → HaveSome left
  pub piece : (b : BegunMotion) → e ≡ next.Piece b → 1 ≤ b.pieces_left
  pub going : IsTrue (is_open e)

-- the greatest number of further lines: a motion takes at most 65,536
abbrev pub LINES_OF_MOTIONS : ℕ
LINES_OF_MOTIONS = 65536 * MOTION_LIMIT

-- the end, and one line after it that is refused; before them the other setting
abbrev pub lines_after : Setting → ℕ
lines_after Off = LINES_OF_MOTIONS + 3
lines_after On = 2

abbrev pub lines_of_motions : RemainingMotions → ℕ
lines_of_motions (Parted s left) = 65536 * left + lines_after s
lines_of_motions (Joined left) = 65536 * (left.off + left.on) + 2

abbrev pub lines_ahead : Expected → ℕ
lines_ahead next.Header = 2 * LINES_OF_MOTIONS + 5
lines_ahead (next.Setting s) = LINES_OF_MOTIONS + 1 + lines_after s
lines_ahead next.Counts = 2 * LINES_OF_MOTIONS + 3
lines_ahead (next.Motion left) = lines_of_motions left
lines_ahead (next.Piece b) = b.pieces_left + lines_of_motions b.afterwards
lines_ahead next.End = 2
lines_ahead next.Nothing = 1
