-- The codes that use each letter, and the words that are missing (NISTIR 6556, 3.5 and 3.7; which
-- words are refused is our own rule).
use Rattle.std.specs.Prelude.{ℕ, ◌/◌, ◌%◌, ◌==◌, nat_le, ℤ, [], ◌∷◌, unsigned_abs, Option, Some}
use Rattle.std.specs.Prelude.{None, Result, Bool, false, not, is_some, is_none, unwrap_or, ◌&&◌}
use Rattle.std.specs.Prelude.{◌||◌, if◌then◌else◌}
use Rattle.ngc_fixed_length.specs.Signed.{is_negative}
use Rattle.ngc_fixed_length.specs.Limits.{MILLION}
use Rattle.ngc_fixed_length.specs.declared.modes.Plane.{Plane}
use Rattle.ngc_fixed_length.specs.declared.modes.Plane.TheVariants.{XY, ZX, YZ}
use Rattle.ngc_fixed_length.specs.declared.modes.FeedMode.{FeedMode}
use Rattle.ngc_line_reader.specs.declared.letter.Letter.{Letter}
use Rattle.ngc_line_reader.specs.declared.letter.Letter.TheVariants.{F, H, I, J, K, L, P, Q, R, X}
use Rattle.ngc_line_reader.specs.declared.letter.Letter.TheVariants.{Y, Z}
use Rattle.ngc_modal_state.specs.declared.code.MotionMode.{MotionMode}
use Rattle.ngc_modal_state.specs.declared.code.MotionMode.TheVariants.{Cancel}
use Rattle.ngc_modal_state.specs.declared.code.NonModal.{NonModal}
use Rattle.ngc_modal_state.specs.declared.modes.Modes.{Modes}
use Rattle.ngc_modal_state.specs.declared.block.AxisWords.{AxisWords}
use Rattle.ngc_modal_state.specs.declared.block.Block.{Block}
use Rattle.ngc_modal_state.specs.declared.fault.ModalFault.{ModalFault}
use Rattle.ngc_modal_state.specs.declared.fault.ModalFault.TheVariants.{ClaimedTwice, WithoutUse}
use Rattle.ngc_modal_state.specs.declared.fault.ModalFault.TheVariants.{WordMissing, OutOfRange}
use Rattle.ngc_modal_state.specs.declared.fault.ModalFault.TheVariants.{WithoutStraightMotion}
use Rattle.ngc_modal_state.specs.Kinds.{is_straight, is_arc, is_cycle, is_cancel, feeds, dwells}
use Rattle.ngc_modal_state.specs.Kinds.{pecks, begins_cycle, is_inverse, is_dwell, sets_origin}
use Rattle.ngc_modal_state.specs.Kinds.{sets_offset, is_machine_place, takes_axes, applies_length}
use Rattle.ngc_modal_state.specs.declared.fault.MissingWord.{MissingWord}
use Rattle.ngc_modal_state.specs.declared.fault.MissingWord.TheVariants as missing
use Rattle.ngc_modal_state.specs.Faults.{◌>>◌, refuse_if, refuse_of}
use Rattle.ngc_modal_state.specs.Tables.{first_where}

-- ---- the words of a line

abbrev pub has_axes : Block → Bool
has_axes b = is_some b.axes.x || is_some b.axes.y || is_some b.axes.z

abbrev pub has_offsets : Block → Bool
has_offsets b = is_some b.i || is_some b.j || is_some b.k

abbrev pub has_arc_words : Block → Bool
has_arc_words b = has_offsets b || is_some b.r

-- the modes that the line leaves in force
abbrev pub plane_of : Modes → Block → Plane
plane_of m b = unwrap_or b.plane m.plane

abbrev pub feed_mode_of : Modes → Block → FeedMode
feed_mode_of m b = unwrap_or b.feed_mode m.feed_mode

-- the motion code in force on the line: G10, G28, G30 and G92 suspend one that is kept from an
-- earlier line
abbrev pub in_force : Modes → Block → MotionMode
in_force m b = unwrap_or b.motion (if takes_axes b.once then Cancel else m.motion)

-- the motion code that uses the line's letters: one that is kept from an earlier line does so only
-- with axis words, or as an arc
abbrev pub user : Modes → Block → MotionMode
user m b = unwrap_or b.motion (if has_axes b || is_arc (in_force m b) then in_force m b else Cancel)

-- ---- 206: two uses of one word

abbrev pub axes_twice : Block → Bool
axes_twice b = takes_axes b.once && has_axes b && not (is_cancel (unwrap_or b.motion Cancel))

abbrev pub p_twice : Modes → Block → Bool
p_twice m b = is_some b.p && is_dwell b.once && dwells (user m b)

abbrev pub centre_twice : Modes → Block → Bool
centre_twice m b = is_arc (user m b) && is_some b.r && has_offsets b

unfoldable pub claimed_twice : Modes → Block → Bool
claimed_twice m b = axes_twice b || p_twice m b || centre_twice m b

-- ---- 207: a word without a use

abbrev pub uses_axes : Modes → Block → Bool
uses_axes m b = takes_axes b.once || not (is_cancel (in_force m b))

-- I, J and K of an arc are those of the plane
abbrev pub uses_i : MotionMode → Plane → Bool
uses_i motion YZ = false
uses_i motion _ = is_arc motion

abbrev pub uses_j : MotionMode → Plane → Bool
uses_j motion ZX = false
uses_j motion _ = is_arc motion

abbrev pub uses_k : MotionMode → Plane → Bool
uses_k motion XY = false
uses_k motion _ = is_arc motion

abbrev pub uses_r : MotionMode → Bool
uses_r motion = is_arc motion || is_cycle motion

abbrev pub uses_p : Option NonModal → MotionMode → Bool
uses_p code motion = is_dwell code || sets_origin code || dwells motion

abbrev pub uses_l : Option NonModal → MotionMode → Bool
uses_l code motion = sets_origin code || is_cycle motion

-- the word is present and nothing uses it
abbrev pub idle : Option ℤ → Bool → Bool
idle word used = is_some word && not used

-- The letter of a word that is present and that nothing uses: of several the first in this order.
-- F, S and T are always allowed.
unfoldable pub unused_letter : Modes → Block → Option Letter
unused_letter m b = first_where (
    (idle b.axes.x (uses_axes m b), X) ∷
    (idle b.axes.y (uses_axes m b), Y) ∷
    (idle b.axes.z (uses_axes m b), Z) ∷
    (idle b.i (uses_i (user m b) (plane_of m b)), I) ∷
    (idle b.j (uses_j (user m b) (plane_of m b)), J) ∷
    (idle b.k (uses_k (user m b) (plane_of m b)), K) ∷
    (idle b.r (uses_r (user m b)), R) ∷
    (idle b.p (uses_p b.once (user m b)), P) ∷
    (idle b.l (uses_l b.once (user m b)), L) ∷
    (idle b.q (pecks (user m b)), Q) ∷
    (idle b.h (applies_length b.tool_length), H) ∷ [])

-- ---- 208: a word that is missing

-- the word of the axis perpendicular to the plane, and its letter
abbrev pub depth_word : Plane → AxisWords → Option ℤ
depth_word XY axes = axes.z
depth_word ZX axes = axes.y
depth_word YZ axes = axes.x

abbrev pub depth_letter : Plane → Letter
depth_letter XY = Z
depth_letter ZX = Y
depth_letter YZ = X

abbrev pub lacks : Bool → Option ℤ → Bool
lacks needed word = needed && is_none word

-- G92, G53 and a cycle code on the line need an axis word
abbrev pub lacks_axes : Block → Bool
lacks_axes b =
    (sets_offset b.once || is_machine_place b.once || is_cycle (unwrap_or b.motion Cancel))
    && not (has_axes b)

-- a motion in inverse time needs F
abbrev pub needs_feed : Modes → Block → Bool
needs_feed m b = is_inverse (feed_mode_of m b) && has_axes b && feeds (user m b)

-- A cycle code's first line needs R and the bottom, and P or Q if its hole takes them.
abbrev pub begins : Modes → Block → Bool
begins m b = begins_cycle m.motion (user m b)

-- The word that a code needs and that is missing: of several the first in this order.
unfoldable pub missing_word : Modes → Block → Option MissingWord
missing_word m b = first_where (
    (lacks (is_dwell b.once) b.p, missing.Letter P) ∷
    (lacks (sets_origin b.once) b.l, missing.Letter L) ∷
    (lacks (sets_origin b.once) b.p, missing.Letter P) ∷
    (lacks (applies_length b.tool_length) b.h, missing.Letter H) ∷
    (lacks_axes b, missing.Axis) ∷
    (lacks (needs_feed m b) b.f, missing.Letter F) ∷
    (lacks (begins m b) b.r, missing.Letter R) ∷ (
      lacks (begins m b) (depth_word (plane_of m b) b.axes),
      missing.Letter (depth_letter (plane_of m b)),
    ) ∷
    (lacks (begins m b && dwells (user m b)) b.p, missing.Letter P) ∷
    (lacks (begins m b && pecks (user m b)) b.q, missing.Letter Q) ∷ [])

-- ---- 209: a word out of range

abbrev pub is_whole : ℤ → Bool
is_whole v = unsigned_abs v % MILLION == 0

abbrev pub whole : ℤ → ℕ
whole v = unsigned_abs v / MILLION

abbrev pub negative : Option ℤ → Bool
negative None = false
negative (Some v) = is_negative v

-- present, and not a whole number from low to high
abbrev pub not_whole_from : ℕ → ℕ → Option ℤ → Bool
not_whole_from low high None = false
not_whole_from low high (Some v) =
    is_negative v || not (is_whole v) || not (nat_le low (whole v) && nat_le (whole v) high)

-- a value has at most 10^9 units
unfoldable pub out_of_range : Block → Bool
out_of_range b =
    negative b.f || negative b.s ||
    not_whole_from 0 1000000000 b.t ||
    not_whole_from 0 1000000000 b.h ||
    (is_dwell b.once && negative b.p) ||
    (sets_origin b.once && (not_whole_from 2 2 b.l || not_whole_from 1 9 b.p))

-- ---- all of them, in this order

unfoldable pub lacks_straight : Modes → Block → Bool
lacks_straight m b = is_machine_place b.once && not (is_straight (in_force m b))

abbrev pub check : Modes → Block → Result (Unit {0}) ModalFault
check m b =
    refuse_if (lacks_straight m b) WithoutStraightMotion >>
    refuse_if (claimed_twice m b) ClaimedTwice >>
    refuse_of WithoutUse (unused_letter m b) >>
    refuse_of WordMissing (missing_word m b) >>
    refuse_if (out_of_range b) OutOfRange
