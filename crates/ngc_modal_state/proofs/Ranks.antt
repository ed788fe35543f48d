-- A line's effects are in order of their ranks, and are few.
use Rattle.std.proofs.Common.{◌≡◌, ℕ, ◌≤◌, List, [], ◌∷◌, ◌++◌, length, Option, Some, None, Bool, true, false, subst, arith, refl, lit≤, length-append}
use Rattle.std.specs.Prelude.{ℤ, option_map, option_to_list}
use Rattle.ngc_fixed_length.specs.declared.modes.FeedMode.{FeedMode}
use Rattle.ngc_fixed_length.specs.declared.modes.FeedMode.TheVariants.{PerMinute, InverseTime}
use Rattle.ngc_modal_state.specs.declared.code.MotionMode.{MotionMode}
use Rattle.ngc_modal_state.specs.declared.code.MotionMode.TheVariants as motions
use Rattle.ngc_modal_state.specs.declared.code.LengthCode.{LengthCode}
use Rattle.ngc_modal_state.specs.declared.code.LengthCode.TheVariants as lengths
use Rattle.ngc_modal_state.specs.declared.code.NonModal.{NonModal}
use Rattle.ngc_modal_state.specs.declared.code.NonModal.TheVariants as once
use Rattle.ngc_modal_state.specs.declared.code.Coolant.TheVariants as coolant
use Rattle.ngc_modal_state.specs.declared.modes.Modes.{Modes}
use Rattle.ngc_modal_state.specs.declared.block.Block.{Block}
use Rattle.ngc_modal_state.specs.declared.effect.Effect.{Effect}
use Rattle.ngc_modal_state.specs.declared.effect.Effect.TheVariants as acts
use Rattle.ngc_modal_state.specs.Use.{user, feed_mode_of, whole}
use Rattle.ngc_modal_state.specs.Effects.{rank, mark, feed_effect, inverse_feed, dwell_effect, length_effect, system_at, frame_effect, move_effect, standing}
use Rattle.ngc_modal_state.specs.Effects.{first_effects, mode_effects, last_effects, in_order, RanksFrom, IsOrdered, IsShort}

-- an effect of rank r, if it is present
pub record HasRank (r : ℕ) (effect : Option Effect) : Type 0 where
  pub ahead : (low : ℕ) (rest : List Effect) → low ≤ r → RanksFrom r rest → RanksFrom low (option_to_list effect ++ rest)

lowered : (low r : ℕ) (rest : List Effect) → low ≤ r → RanksFrom r rest → RanksFrom low rest
lowered low r [] le ranks = tt
lowered low r (effect ∷ effects) le ranks = (let first = ranks.0 in omega arith, ranks.1)

none : (r : ℕ) → HasRank r None
none r = record { ahead = λ low rest le ranks. lowered low r rest le ranks }

one : (effect : Effect) → HasRank (rank effect) (Some effect)
one effect = record { ahead = λ low rest le ranks. (le, ranks) }

each : {A : Type 0} (f : A → Effect) (r : ℕ) (o : Option A) → ((a : A) → rank (f a) ≡ r) → HasRank r (option_map f o)
each f r None rank_is = none r
each f r (Some a) rank_is = subst (λ (n : ℕ). HasRank n (Some (f a))) (rank_is a) (one (f a))

marked : (effect : Effect) (stands : Bool) → HasRank (rank effect) (mark effect stands)
marked effect true = one effect
marked effect false = none (rank effect)

feed : (mode : FeedMode) (m : Modes) (b : Block) → HasRank 3 (feed_effect mode m b)
feed PerMinute m b = each _ 3 b.f (λ a. refl)
feed InverseTime m b = none 3

dwell : (code : Option NonModal) (b : Block) → HasRank 10 (dwell_effect code b)
dwell None b = none 10
dwell (Some once.Dwell) b = each _ 10 b.p (λ a. refl)
dwell (Some once.SetOrigin) b = none 10
dwell (Some once.Home28) b = none 10
dwell (Some once.Home30) b = none 10
dwell (Some once.MachinePlace) b = none 10
dwell (Some once.SetOffset) b = none 10
dwell (Some once.ClearOffset) b = none 10
dwell (Some once.SuspendOffset) b = none 10
dwell (Some once.RestoreOffset) b = none 10

tool_length : (code : Option LengthCode) (b : Block) → HasRank 14 (length_effect code b)
tool_length None b = none 14
tool_length (Some lengths.Apply) b = each _ 14 b.h (λ a. refl)
tool_length (Some lengths.Cancel) b = one (acts.ToolLength None)

frame : (code : Option NonModal) (b : Block) → HasRank 19 (frame_effect code b)
frame None b = none 19
frame (Some once.Dwell) b = none 19
frame (Some once.SetOrigin) b = each _ 19 (system_at b.p) (λ a. refl)
frame (Some once.Home28) b = one _
frame (Some once.Home30) b = one _
frame (Some once.MachinePlace) b = none 19
frame (Some once.SetOffset) b = one _
frame (Some once.ClearOffset) b = one acts.ClearOffset
frame (Some once.SuspendOffset) b = one acts.SuspendOffset
frame (Some once.RestoreOffset) b = one acts.RestoreOffset

move : (code : MotionMode) (f : Option ℤ) (b : Block) → HasRank 20 (move_effect code f b)
move motions.Traverse f b = marked _ _
move motions.Straight f b = marked _ _
move (motions.Arc turn) f b = marked _ _
move motions.Cancel f b = none 20
move (motions.Cycle hole) f b = one _

-- in the table's order
module _ (m : Modes) (b : Block) where
  ahead : (r low : ℕ) (effect : Option Effect) (rest : List Effect) → HasRank r effect → low ≤ r → RanksFrom r rest →
      RanksFrom low (option_to_list effect ++ rest)
  ahead r low effect rest has le ranks = has.ahead low rest le ranks

  ordered : RanksFrom 0 (in_order m b)
  unfolding standing first_effects mode_effects last_effects
  ordered =
      ahead 2 0 _ _ (each acts.FeedMode 2 b.feed_mode (λ a. refl)) (lit≤ tt)
      (ahead 3 2 _ _ (feed (feed_mode_of m b) m b) (lit≤ tt)
      (ahead 4 3 _ _ (each acts.Speed 4 b.s (λ a. refl)) (lit≤ tt)
      (ahead 5 4 _ _ (each (λ v. acts.SelectTool (whole v)) 5 b.t (λ a. refl)) (lit≤ tt)
      (ahead 6 5 _ _ (marked acts.ChangeTool b.change_tool) (lit≤ tt)
      (ahead 7 6 _ _ (each acts.Spindle 7 b.spindle (λ a. refl)) (lit≤ tt)
      (ahead 8 7 _ _ (marked (acts.Coolant coolant.Mist) b.mist) (lit≤ tt)
      (ahead 8 8 _ _ (marked (acts.Coolant coolant.Flood) b.flood) (lit≤ tt)
      (ahead 8 8 _ _ (marked (acts.Coolant coolant.Off) b.coolant_off) (lit≤ tt)
      (ahead 9 8 _ _ (each acts.Override 9 b.overrides (λ a. refl)) (lit≤ tt)
      (ahead 10 9 _ _ (dwell b.once b) (lit≤ tt)
      (ahead 11 10 _ _ (each acts.Plane 11 b.plane (λ a. refl)) (lit≤ tt)
      (ahead 12 11 _ _ (each acts.Units 12 b.units (λ a. refl)) (lit≤ tt)
      (ahead 13 12 _ _ (marked acts.CutterCompensationOff b.radius_off) (lit≤ tt)
      (ahead 14 13 _ _ (tool_length b.tool_length b) (lit≤ tt)
      (ahead 15 14 _ _ (each acts.System 15 b.system (λ a. refl)) (lit≤ tt)
      (ahead 16 15 _ _ (each acts.Path 16 b.path (λ a. refl)) (lit≤ tt)
      (ahead 17 16 _ _ (each acts.Distance 17 b.distance (λ a. refl)) (lit≤ tt)
      (ahead 18 17 _ _ (each acts.Return 18 b.return_mode (λ a. refl)) (lit≤ tt)
      (ahead 19 18 _ _ (frame b.once b) (lit≤ tt)
      (ahead 20 19 _ _ (each acts.Motion 20 b.motion (λ a. refl)) (lit≤ tt)
      (ahead 20 20 _ _ (move (user m b) (inverse_feed (feed_mode_of m b) b.f) b) (lit≤ tt)
      (ahead 21 20 _ _ (each acts.Stopping 21 b.stopping (λ a. refl)) (lit≤ tt) tt))))))))))))))))))))))

pub is_ordered : IsOrdered
is_ordered m b = ordered m b

-- at most as many effects are present as the list has entries
length-option_to_list : (o : Option Effect) → length (option_to_list o) ≤ 1
length-option_to_list None = lit≤ tt
length-option_to_list (Some effect) = lit≤ tt

length-standing : (places : List (Option Effect)) → length (standing places) ≤ length places
unfolding standing
length-standing [] = lit≤ tt
length-standing (place ∷ places) = let few = length-option_to_list place in
    omega (arith, length-append (option_to_list place) (standing places), length-standing places)

places : (m : Modes) (b : Block) → length (first_effects m b ++ (mode_effects b ++ last_effects m b)) ≤ 24
unfolding first_effects mode_effects last_effects
places m b = lit≤ tt

pub is_short : IsShort
is_short m b = let le = length-standing (first_effects m b ++ (mode_effects b ++ last_effects m b)) in let few = places m b in omega arith
