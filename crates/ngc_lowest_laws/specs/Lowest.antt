-- What the lowest heights of a program are, without the order in which they are found. Our own.
use Rattle.std.specs.Prelude.{◌≡◌, ◌⊎◌, ℕ, ◌+◌, ◌&&◌, not, int_lt, Bool, true, List, [], ◌∷◌, Option, None}
use Rattle.std.specs.List.{list_any, cons_option}
use Rattle.ngc_commands.specs.declared.command.Command.{Command}
use Rattle.ngc_frames.specs.InForce.{frame_at}
use Rattle.ngc_frames.specs.declared.change.FrameChange.{FrameChange}
use Rattle.ngc_frames.specs.declared.frame.Frame.{Frame}
use Rattle.ngc_machine_files.specs.declared.tools.Tool.{Tool}
use Rattle.ngc_lowest_tips.specs.Tips.{tool_after, tip_of, is_same_pair, lowest_tips}
use Rattle.ngc_lowest_tips.specs.declared.tip.LowestTip.{LowestTip}

-- the lowest height of each motion from command k on, with its coordinate system, tool and line
abbrev pub heights_from : List Tool → Frame → List FrameChange → ℕ → Option Tool → List Command →
    List LowestTip
heights_from tools start changes k tool [] = []
heights_from tools start changes k tool (c ∷ cs) =
    cons_option (tip_of tools (frame_at start changes k) tool c.line c.action)
    (heights_from tools start changes (k + 1) (tool_after tool c.action) cs)

-- x is in a list
abbrev pub IsAmong : LowestTip → List LowestTip → Type 0
IsAmong x [] = ⊥
IsAmong x (y ∷ ys) = (x ≡ y) ⊎ IsAmong x ys

-- a list has a height of the same pair that isn't above this one
abbrev pub reaches : List LowestTip → LowestTip → Bool
reaches lowest t =
    list_any (λ l. is_same_pair l t && not (int_lt t.height l.height)) lowest

-- no pair is there twice
abbrev pub is_once : List LowestTip → Bool
is_once [] = true
is_once (l ∷ lowest) = not (list_any (λ m. is_same_pair m l) lowest) && is_once lowest

-- each is a height of a motion, no motion of the same pair goes lower, and no pair is there twice
pub record AreLowest (heights lowest : List LowestTip) : Type 0 where
  pub found : (l : LowestTip) → IsAmong l lowest → IsAmong l heights
  pub least : (t : LowestTip) → IsAmong t heights → reaches lowest t ≡ true
  pub once : is_once lowest ≡ true

abbrev pub LowestOfEach : Type 0
LowestOfEach =
    (tools : List Tool) (start : Frame) (changes : List FrameChange) (commands : List Command)
    → AreLowest (heights_from tools start changes 0 None commands)
    (lowest_tips tools start changes commands)
