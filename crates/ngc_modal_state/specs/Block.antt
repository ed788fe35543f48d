-- A line's block: the one code of each modal group, and the one value of each letter (NISTIR 6556,
-- 3.4 and 3.3.5).
use Rattle.std.specs.Prelude.{ℤ, nat_lt, List, [], ◌∷◌, Option, Some, None, Result, Ok, Err, Bool}
use Rattle.std.specs.Prelude.{true, false, count_by, is_some, if◌then◌else◌, ◌||◌}
use Rattle.ngc_line_reader.specs.declared.letter.Letter.{Letter}
use Rattle.ngc_line_reader.specs.declared.letter.Letter.TheVariants as letters
use Rattle.ngc_modal_state.specs.declared.code.Code.{Code}
use Rattle.ngc_modal_state.specs.declared.code.Code.TheVariants as codes
use Rattle.ngc_modal_state.specs.declared.code.Coolant.TheVariants.{Mist, Flood, Off}
use Rattle.ngc_modal_state.specs.declared.block.AxisWords.{AxisWords}
use Rattle.ngc_modal_state.specs.declared.block.Block.{Block}
use Rattle.ngc_modal_state.specs.declared.fault.ModalFault.{ModalFault}
use Rattle.ngc_modal_state.specs.declared.fault.ModalFault.TheVariants.{GroupTwice, TooManyMWords}
use Rattle.ngc_modal_state.specs.declared.fault.ModalFault.TheVariants.{LetterRepeated, LeftOut}
use Rattle.ngc_modal_state.specs.Faults.{◌>>=◌}
use Rattle.ngc_modal_state.specs.Codes.{g_code, m_code}

abbrev pub no_axes : AxisWords
no_axes = record { x = None; y = None; z = None }

abbrev pub no_words : Block
no_words = record {
  motion = None;
  plane = None;
  distance = None;
  feed_mode = None;
  units = None;
  radius_off = false;
  tool_length = None;
  return_mode = None;
  system = None;
  path = None;
  once = None;
  stopping = None;
  change_tool = false;
  spindle = None;
  mist = false;
  flood = false;
  coolant_off = false;
  overrides = None;
  axes = no_axes;
  f = None;
  h = None;
  i = None;
  j = None;
  k = None;
  l = None;
  p = None;
  q = None;
  r = None;
  s = None;
  t = None;
}

-- whether the block already has a code of a code's group; M7 and M8 may be together, and neither
-- with M9
abbrev pub has_group : Code → Block → Bool
has_group (codes.Motion c) b = is_some b.motion
has_group (codes.Plane c) b = is_some b.plane
has_group (codes.Distance c) b = is_some b.distance
has_group (codes.FeedMode c) b = is_some b.feed_mode
has_group (codes.Units c) b = is_some b.units
has_group codes.CutterCompensationOff b = b.radius_off
has_group (codes.ToolLength c) b = is_some b.tool_length
has_group (codes.Return c) b = is_some b.return_mode
has_group (codes.System c) b = is_some b.system
has_group (codes.Path c) b = is_some b.path
has_group (codes.NonModal c) b = is_some b.once
has_group (codes.Stopping c) b = is_some b.stopping
has_group codes.ChangeTool b = b.change_tool
has_group (codes.Spindle c) b = is_some b.spindle
has_group (codes.Coolant Mist) b = b.coolant_off || b.mist
has_group (codes.Coolant Flood) b = b.coolant_off || b.flood
has_group (codes.Coolant Off) b = b.coolant_off || b.mist || b.flood
has_group (codes.Override c) b = is_some b.overrides

-- the block with one more code
abbrev pub put_code : Code → Block → Block
put_code (codes.Motion c) b = record b { motion = Some c }
put_code (codes.Plane c) b = record b { plane = Some c }
put_code (codes.Distance c) b = record b { distance = Some c }
put_code (codes.FeedMode c) b = record b { feed_mode = Some c }
put_code (codes.Units c) b = record b { units = Some c }
put_code codes.CutterCompensationOff b = record b { radius_off = true }
put_code (codes.ToolLength c) b = record b { tool_length = Some c }
put_code (codes.Return c) b = record b { return_mode = Some c }
put_code (codes.System c) b = record b { system = Some c }
put_code (codes.Path c) b = record b { path = Some c }
put_code (codes.NonModal c) b = record b { once = Some c }
put_code (codes.Stopping c) b = record b { stopping = Some c }
put_code codes.ChangeTool b = record b { change_tool = true }
put_code (codes.Spindle c) b = record b { spindle = Some c }
put_code (codes.Coolant Mist) b = record b { mist = true }
put_code (codes.Coolant Flood) b = record b { flood = true }
put_code (codes.Coolant Off) b = record b { coolant_off = true }
put_code (codes.Override c) b = record b { overrides = Some c }

-- the same, if its group has no code yet
abbrev pub with_code : Code → Block → Result Block ModalFault
with_code code b = if has_group code b then Err GroupTwice else Ok (put_code code b)

-- the block, if the letter has no value yet
abbrev pub once_a_line : Option ℤ → Block → Result Block ModalFault
once_a_line had b = if is_some had then Err LetterRepeated else Ok b

-- a block with one more word
abbrev pub with_word : Letter → ℤ → Block → Result Block ModalFault
with_word letters.G v b = g_code v >>= λ code. with_code code b
with_word letters.M v b = m_code v >>= λ code. with_code code b
with_word letters.X v b = once_a_line b.axes.x (record b { axes = record b.axes { x = Some v } })
with_word letters.Y v b = once_a_line b.axes.y (record b { axes = record b.axes { y = Some v } })
with_word letters.Z v b = once_a_line b.axes.z (record b { axes = record b.axes { z = Some v } })
with_word letters.F v b = once_a_line b.f (record b { f = Some v })
with_word letters.H v b = once_a_line b.h (record b { h = Some v })
with_word letters.I v b = once_a_line b.i (record b { i = Some v })
with_word letters.J v b = once_a_line b.j (record b { j = Some v })
with_word letters.K v b = once_a_line b.k (record b { k = Some v })
with_word letters.L v b = once_a_line b.l (record b { l = Some v })
with_word letters.P v b = once_a_line b.p (record b { p = Some v })
with_word letters.Q v b = once_a_line b.q (record b { q = Some v })
with_word letters.R v b = once_a_line b.r (record b { r = Some v })
with_word letters.S v b = once_a_line b.s (record b { s = Some v })
with_word letters.T v b = once_a_line b.t (record b { t = Some v })
with_word letters.A v b = Err LeftOut
with_word letters.B v b = Err LeftOut
with_word letters.C v b = Err LeftOut
with_word letters.D v b = Err LeftOut

abbrev pub with_words : List (Letter × ℤ) → Block → Result Block ModalFault
with_words [] b = Ok b
with_words (word ∷ words) b = with_word word.0 word.1 b >>= λ c. with_words words c

abbrev pub is_m_word : Letter → Bool
is_m_word letters.M = true
is_m_word _ = false

-- at most four M words; else the first word that doesn't fit is refused
abbrev pub block_of : List (Letter × ℤ) → Result Block ModalFault
block_of words = if nat_lt 4 (count_by (λ word. is_m_word word.0) words) then Err TooManyMWords
    else with_words words no_words
