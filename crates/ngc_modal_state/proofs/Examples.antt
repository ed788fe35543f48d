-- Lines, evaluated: if a definition changes its meaning, a test here fails.
use Rattle.std.proofs.Common.{◌≡◌, ℤ, pos, List, [], ◌∷◌, Some, None, Result, Ok, Err, false, refl}
use Rattle.ngc_fixed_length.specs.declared.units.Units.TheVariants.{Inches}
use Rattle.ngc_line_reader.specs.declared.letter.Letter.{Letter}
use Rattle.ngc_line_reader.specs.declared.letter.Letter.TheVariants.{F, G, K, P, Q, R, X, Y}
use Rattle.ngc_modal_state.specs.declared.code.MotionMode.TheVariants.{Straight}
use Rattle.ngc_modal_state.specs.declared.effect.Effect.{Effect}
use Rattle.ngc_modal_state.specs.declared.effect.Effect.TheVariants as acts
use Rattle.ngc_modal_state.specs.declared.fault.MissingWord.TheVariants as missing
use Rattle.ngc_modal_state.specs.declared.fault.ModalFault.{ModalFault}
use Rattle.ngc_modal_state.specs.declared.fault.ModalFault.TheVariants.{GroupTwice, UnknownCode, ClaimedTwice, WithoutUse, WordMissing, WithoutStraightMotion}
use Rattle.ngc_modal_state.specs.Codes.{motion_codes, mode_codes, once_codes, m_codes, g_code, m_code}
use Rattle.ngc_modal_state.specs.Block.{block_of}
use Rattle.ngc_modal_state.specs.Use.{claimed_twice, unused_letter, missing_word, out_of_range, lacks_straight}
use Rattle.ngc_modal_state.specs.Effects.{first_effects, mode_effects, last_effects, standing, effects}
use Rattle.ngc_modal_state.specs.Start.{start_modes}
use Rattle.ngc_modal_state.specs.Faults.{◌>>=◌}

-- a line's effects at a program's start
abbrev line : List (Letter × ℤ) → Result (List Effect) ModalFault
line words = block_of words >>= λ block. effects start_modes block

-- G0 X1 G1
two_motions : line ((G, pos 0) ∷ (X, pos 1000000) ∷ (G, pos 1000000) ∷ []) ≡ Err GroupTwice
unfolding g_code m_code motion_codes mode_codes once_codes m_codes claimed_twice unused_letter missing_word out_of_range lacks_straight first_effects mode_effects
    last_effects standing
two_motions = refl

-- G28 G92 X1
two_once : line ((G, pos 28000000) ∷ (G, pos 92000000) ∷ (X, pos 1000000) ∷ []) ≡ Err GroupTwice
unfolding g_code m_code motion_codes mode_codes once_codes m_codes claimed_twice unused_letter missing_word out_of_range lacks_straight first_effects mode_effects
    last_effects standing
two_once = refl

-- G0 G92 X1
claimed : line ((G, pos 0) ∷ (G, pos 92000000) ∷ (X, pos 1000000) ∷ []) ≡ Err ClaimedTwice
unfolding g_code m_code motion_codes mode_codes once_codes m_codes claimed_twice unused_letter missing_word out_of_range lacks_straight first_effects mode_effects
    last_effects standing
claimed = refl

-- G80 X1
cancelled : line ((G, pos 80000000) ∷ (X, pos 1000000) ∷ []) ≡ Err (WithoutUse X)
unfolding g_code m_code motion_codes mode_codes once_codes m_codes claimed_twice unused_letter missing_word out_of_range lacks_straight first_effects mode_effects
    last_effects standing
cancelled = refl

-- G4
no_time : line ((G, pos 4000000) ∷ []) ≡ Err (WordMissing (missing.Letter P))
unfolding g_code m_code motion_codes mode_codes once_codes m_codes claimed_twice unused_letter missing_word out_of_range lacks_straight first_effects mode_effects
    last_effects standing
no_time = refl

-- G5
unknown : line ((G, pos 5000000) ∷ []) ≡ Err (UnknownCode G (pos 5000000))
unfolding g_code m_code motion_codes mode_codes once_codes m_codes claimed_twice unused_letter missing_word out_of_range lacks_straight first_effects mode_effects
    last_effects standing
unknown = refl

-- G4 P1 Q2 K3
several_idle : line ((G, pos 4000000) ∷ (P, pos 1000000) ∷ (Q, pos 2000000) ∷ (K, pos 3000000) ∷ []) ≡ Err (WithoutUse K)
unfolding g_code m_code motion_codes mode_codes once_codes m_codes claimed_twice unused_letter missing_word out_of_range lacks_straight first_effects mode_effects
    last_effects standing
several_idle = refl

-- G92
no_axis : line ((G, pos 92000000) ∷ []) ≡ Err (WordMissing missing.Axis)
unfolding g_code m_code motion_codes mode_codes once_codes m_codes claimed_twice unused_letter missing_word out_of_range lacks_straight first_effects mode_effects
    last_effects standing
no_axis = refl

-- G18 G82 X1 R1
no_depth : line ((G, pos 18000000) ∷ (G, pos 82000000) ∷ (X, pos 1000000) ∷ (R, pos 1000000) ∷ []) ≡ Err (WordMissing (missing.Letter Y))
unfolding g_code m_code motion_codes mode_codes once_codes m_codes claimed_twice unused_letter missing_word out_of_range lacks_straight first_effects mode_effects
    last_effects standing
no_depth = refl

-- G53 X1
no_motion : line ((G, pos 53000000) ∷ (X, pos 1000000) ∷ []) ≡ Err WithoutStraightMotion
unfolding g_code m_code motion_codes mode_codes once_codes m_codes claimed_twice unused_letter missing_word out_of_range lacks_straight first_effects mode_effects
    last_effects standing
no_motion = refl

-- G20 F1 G1 X1
in_inches : line ((G, pos 20000000) ∷ (F, pos 1000000) ∷ (G, pos 1000000) ∷ (X, pos 1000000) ∷ [])
    ≡ Ok (acts.Feed (pos 1000000) Inches ∷ acts.Units Inches ∷ acts.Motion Straight
    ∷ acts.Straight false (record { x = Some (pos 1000000); y = None; z = None }) None ∷ [])
unfolding g_code m_code motion_codes mode_codes once_codes m_codes claimed_twice unused_letter missing_word out_of_range lacks_straight first_effects mode_effects
    last_effects standing
in_inches = refl
