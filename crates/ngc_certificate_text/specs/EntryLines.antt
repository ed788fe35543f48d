-- The contents of the lines of version 2: the counts, and the entries that may be next. Our own.
use Rattle.std.specs.Prelude.{ℕ, ◌-◌, nat_lt, ◌==◌, ℤ, unsigned_abs, List, [], ◌∷◌, codes, Option}
use Rattle.std.specs.Prelude.{Some, Result, Ok, Err, Bool, true, false, not, ◌&&◌}
use Rattle.std.specs.Prelude.{if◌then◌else◌}
use Rattle.std.specs.Str.{bytes_eq}
use Rattle.ngc_certificate_text.specs.declared.expected.RemainingEntries.{RemainingEntries}
use Rattle.ngc_certificate_text.specs.declared.expected.Indices.{Indices}
use Rattle.ngc_certificate_text.specs.declared.expected.Indices.TheVariants.{Both, Off, On}
use Rattle.ngc_certificate_text.specs.declared.lines.CountsLine.{CountsLine}
use Rattle.ngc_certificate_text.specs.declared.lines.EntryLine.{EntryLine}
use Rattle.ngc_certificate_text.specs.declared.lines.LineFlaw.{LineFlaw}
use Rattle.ngc_certificate_text.specs.declared.lines.LineFlaw.TheVariants.{Spelling}
use Rattle.ngc_certificate_text.specs.declared.lines.MotionLine.{MotionLine}
use Rattle.ngc_certificate_text.specs.declared.line_content.Version.{Version}
use Rattle.ngc_certificate_text.specs.declared.line_content.Version.TheVariants.{One, Two}
use Rattle.ngc_certificate_text.specs.Certificate.{INDEX_LIMIT, PIECE_LIMIT, MOTION_LIMIT}
use Rattle.ngc_certificate_text.specs.Lines.{numbers_in, numbers_in_rest, is_count, ranged}
use Rattle.ngc_certificate_text.specs.Lines.{two_counts}
use Rattle.ngc_certificate_text.specs.Number.{fields}

-- ---- the first line

unfoldable pub parsed_version : List ℕ → Result Version LineFlaw
parsed_version line =
    if bytes_eq line (codes "ngc-certificate 1") then Ok One else
    if bytes_eq line (codes "ngc-certificate 2") then Ok Two else Err Spelling

-- ---- the counts

abbrev pub motion_counts : Option (List ℤ) → Result CountsLine LineFlaw
motion_counts (Some (m ∷ n ∷ [])) =
    ranged (is_count 0 MOTION_LIMIT m && is_count 0 MOTION_LIMIT n)
    (record { off = unsigned_abs m; on = unsigned_abs n })
motion_counts _ = Err Spelling

-- the numbers of motions of both settings
unfoldable pub parsed_counts : List ℕ → Result CountsLine LineFlaw
parsed_counts line = motion_counts (numbers_in_rest (codes "motions" ∷ []) (fields line))

-- ---- the remaining entries

-- all of them
abbrev pub all_left : CountsLine → RemainingEntries
all_left c = record { off = c.off; on = c.on; after_on = false }

abbrev pub none_left : RemainingEntries → Bool
none_left left = (left.off == 0) && (left.on == 0)

-- An entry may be next if motions of its settings remain, but one of `off` alone not directly after
-- one of `on` alone.
abbrev pub may_still_follow : RemainingEntries → Indices → Bool
may_still_follow left (Both i j) = nat_lt 0 left.off && nat_lt 0 left.on
may_still_follow left (Off i) = nat_lt 0 left.off && not left.after_on
may_still_follow left (On j) = nat_lt 0 left.on

abbrev pub remaining_after : RemainingEntries → Indices → RemainingEntries
remaining_after left (Both i j) = record { off = left.off - 1; on = left.on - 1; after_on = false }
remaining_after left (Off i) = record { off = left.off - 1; on = left.on; after_on = false }
remaining_after left (On j) = record { off = left.off; on = left.on - 1; after_on = true }

-- ---- the line of an entry

-- two indexes, and the number of pieces
abbrev pub three_counts : Option (List ℤ) → Result EntryLine LineFlaw
three_counts (Some (i ∷ j ∷ n ∷ [])) =
    ranged (is_count 0 INDEX_LIMIT i && (is_count 0 INDEX_LIMIT j && is_count 1 PIECE_LIMIT n))
    (record { indices = Both (unsigned_abs i) (unsigned_abs j); pieces = unsigned_abs n })
three_counts _ = Err Spelling

abbrev pub of_setting : (ℕ → Indices) → Result MotionLine LineFlaw → Result EntryLine LineFlaw
of_setting of (Ok m) = Ok (record { indices = of m.index; pieces = m.pieces })
of_setting of (Err flaw) = Err flaw

abbrev pub entry_in : RemainingEntries → List (List ℕ) → Result EntryLine LineFlaw
entry_in left [] = Err Spelling
entry_in left (word ∷ fs) =
    if bytes_eq word (codes "both") && may_still_follow left (Both 0 0)
    then three_counts (numbers_in fs) else
    if bytes_eq word (codes "off") && may_still_follow left (Off 0)
    then of_setting Off (two_counts (numbers_in fs)) else
    if bytes_eq word (codes "on") && may_still_follow left (On 0)
    then of_setting On (two_counts (numbers_in fs)) else Err Spelling

-- one of the entries that may be next, and the number of its pieces
unfoldable pub parsed_entry : RemainingEntries → List ℕ → Result EntryLine LineFlaw
parsed_entry left line = entry_in left (fields line)
