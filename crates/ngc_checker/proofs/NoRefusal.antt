-- If the checker refuses nothing, the certificate is valid at both settings, and if it is valid,
-- the checker refuses nothing.
use Rattle.std.proofs.Common.{◌≡◌, ℕ, ◌+◌, ◌≤◌, length, ap, ap₂, sym, ◌∙◌, arith, refl, List, [], ◌∷◌, Some, None, map}
use Rattle.std.specs.Prelude.{Option, option_map, Result, Ok, Err, Bool, false, true, ◌&&◌, nat_lt, ◌==◌, min, if◌then◌else◌}
use Rattle.std.proofs.lemmas.Bool.Decides.{nat_tests}
use Rattle.ngc_fixed_length.specs.Grid.{grid}
use Rattle.ngc_fixed_length.specs.declared.points.Point3.{Point3}
use Rattle.ngc_machine_files.specs.declared.tools.Tool.{Tool}
use Rattle.ngc_machine_files.specs.Machine.{MachineFile}
use Rattle.ngc_commands.specs.declared.command.Command.{Command}
use Rattle.ngc_canonical.specs.declared.fault.ProgramFault.{ProgramFault}
use Rattle.ngc_commands.specs.declared.command.Action.{Action}
use Rattle.ngc_commands.specs.declared.command.Action.TheVariants.{Move, Mount}
use Rattle.ngc_commands.specs.declared.movement.Motion.{Motion}
use Rattle.ngc_canonical.specs.Meaning.{Program, meaning}
use Rattle.ngc_commands.specs.Movement.{actions_of, motion_indices, end_of}
use Rattle.ngc_canonical.specs.State.{Setup}
use Rattle.ngc_certificate_text.specs.declared.piece.Piece.{Piece}
use Rattle.ngc_certificate_text.specs.declared.piece.Setting.{Setting}
use Rattle.ngc_certificate_text.specs.declared.piece.Setting.TheVariants.{Off, On}
use Rattle.ngc_certificate_text.specs.Certificate.{Entry, CertificateData}
use Rattle.ngc_certificate.specs.Chain.{are_several}
use Rattle.ngc_certificate.specs.Traverses.{takes_any_way, AreWhole}
use Rattle.ngc_certificate.specs.Valid.{AreClearFrom, IsValid}
use Rattle.ngc_certificate.specs.PieceFault.{ArePiecesValid, pieces_fault, place_fault, ◌or◌}
use Rattle.ngc_certificate.proofs.NoFault.{some_none, no_map, map_none, neither, both_none, clear_at, unmet_at, pieces_valid, pieces_pass}
use Rattle.ngc_checker.specs.declared.fault.CheckFault.{CheckFault}
use Rattle.ngc_checker.specs.declared.fault.CheckFault.TheVariants as faults
use Rattle.ngc_checker.specs.FirstRefusal.{first_difference, motions_fault, start_fault, is_divided, at_command, motion_fault, commands_fault, setting_fault, settings_fault}
use Rattle.ngc_checker.specs.FirstRefusal.{first_refusal}
use Rattle.ngc_checker.specs.Validity.{IsValidFor, NoneRefusedIsValid}

-- ---- motions

equal_heads : (i j : ℕ) (rest : Option ℕ) → (if i == j then rest else Some (min i j)) ≡ None → (i ≡ j) × (rest ≡ None)
equal_heads i j rest h = grind (arith, some_none)

alike_heads : (i : ℕ) (rest : Option ℕ) → rest ≡ None → (if i == i then rest else Some (min i i)) ≡ None
alike_heads i rest h = grind arith

no_difference : (is js : List ℕ) → first_difference is js ≡ None → js ≡ is
no_difference [] [] h = refl
no_difference (i ∷ is) [] h = absurd (some_none i h)
no_difference [] (j ∷ js) h = absurd (some_none j h)
no_difference (i ∷ is) (j ∷ js) h =
    let e = equal_heads i j (first_difference is js) h in
    ap (λ k. k ∷ js) (sym e.0) ∙ ap (λ ks. i ∷ ks) (no_difference is js e.1)

no_difference_of_one : (is : List ℕ) → first_difference is is ≡ None
no_difference_of_one [] = refl
no_difference_of_one (i ∷ is) = alike_heads i (first_difference is is) (no_difference_of_one is)

alike : (is js : List ℕ) → js ≡ is → first_difference is js ≡ None
alike is js e = ap (first_difference is) e ∙ no_difference_of_one is

-- ---- the commands of a setting

-- a motion without a refusal, and one whose pieces are valid and that isn't divided
record IsUnrefused (machine : MachineFile) (tool : Option Tool) (m : Motion) (pieces : List Piece) : Type 0 where
  valid : ArePiecesValid machine tool m.way pieces
  whole : takes_any_way machine m.pace ≡ true → length pieces ≤ 1

not_several : (n : ℕ) → nat_lt 1 n ≡ false → n ≤ 1
not_several n h = grind (arith, nat_tests)

unrefused : (machine : MachineFile) (s : Setting) (k : ℕ) (tool : Option Tool) (m : Motion) (pieces : List Piece) (free several : Bool) →
    takes_any_way machine m.pace ≡ free → are_several pieces ≡ several →
    (if free && several then Some (faults.Divided s k) else option_map (at_command s k) (pieces_fault machine tool m.way pieces)) ≡ None →
    IsUnrefused machine tool m pieces
unrefused machine s k tool m pieces true true f n h = absurd (some_none (faults.Divided s k) h)
unrefused machine s k tool m pieces true false f n h = record {
  valid = pieces_valid machine tool m.way pieces (no_map (at_command s k) (pieces_fault machine tool m.way pieces) h);
  whole = λ e. not_several (length pieces) n;
}
unrefused machine s k tool m pieces false several f n h = record {
  valid = pieces_valid machine tool m.way pieces (no_map (at_command s k) (pieces_fault machine tool m.way pieces) h);
  whole = λ e. absurd (false≢true (sym f ∙ e));
}
  where
    false≢true : false ≡ true → ⊥
    false≢true e = cc

-- the test of a motion by its two parts
by_parts : (machine : MachineFile) (s : Setting) (k : ℕ) (tool : Option Tool) (m : Motion) (pieces : List Piece) (free several : Bool) →
    takes_any_way machine m.pace ≡ free → are_several pieces ≡ several →
    motion_fault machine s k tool m pieces
    ≡ (if free && several then Some (faults.Divided s k) else option_map (at_command s k) (pieces_fault machine tool m.way pieces))
by_parts machine s k tool m pieces free several f n =
    ap₂ (λ (a b : Bool). if a && b then Some (faults.Divided s k) else option_map (at_command s k) (pieces_fault machine tool m.way pieces)) f n

unrefused_motion : (machine : MachineFile) (s : Setting) (k : ℕ) (tool : Option Tool) (m : Motion) (pieces : List Piece) →
    motion_fault machine s k tool m pieces ≡ None → IsUnrefused machine tool m pieces
unrefused_motion machine s k tool m pieces h =
    unrefused machine s k tool m pieces (takes_any_way machine m.pace) (are_several pieces) refl refl h

single : (n : ℕ) → n ≤ 1 → nat_lt 1 n ≡ false
single n h = grind (arith, nat_tests)

passing : (machine : MachineFile) (s : Setting) (k : ℕ) (tool : Option Tool) (m : Motion) (pieces : List Piece) (free : Bool) →
    takes_any_way machine m.pace ≡ free → IsUnrefused machine tool m pieces → motion_fault machine s k tool m pieces ≡ None
passing machine s k tool m pieces true f h =
    by_parts machine s k tool m pieces true false f (single (length pieces) (h.whole f))
    ∙ map_none (at_command s k) (pieces_fault machine tool m.way pieces) (pieces_pass machine tool m.way pieces h.valid)
passing machine s k tool m pieces false f h =
    by_parts machine s k tool m pieces false (are_several pieces) f refl
    ∙ map_none (at_command s k) (pieces_fault machine tool m.way pieces) (pieces_pass machine tool m.way pieces h.valid)

clear_from : (machine : MachineFile) (s : Setting) (k : ℕ) (tool : Option Tool) (place : Point3) (actions : List Action) (entries : List Entry) →
    commands_fault machine s k tool place actions entries ≡ None → AreClearFrom machine tool place actions entries
clear_from machine s k tool place [] entries h = tt
clear_from machine s k tool place (Mount new ∷ actions) entries h =
    let e = neither (option_map (faults.ToolChange s k) (place_fault machine new (grid machine.step place)))
    (commands_fault machine s (k + 1) new place actions entries) h in (
      clear_at machine new (grid machine.step place) (no_map (faults.ToolChange s k) (place_fault machine new (grid machine.step place)) e.0),
      clear_from machine s (k + 1) new place actions entries e.1,
    )
clear_from machine s k tool place (Move m ∷ actions) (entry ∷ entries) h =
    let e = neither (motion_fault machine s k tool m entry.pieces)
    (commands_fault machine s (k + 1) tool (end_of m.way) actions entries) h in (
      (unrefused_motion machine s k tool m entry.pieces e.0).valid,
      clear_from machine s (k + 1) tool (end_of m.way) actions entries e.1,
    )
clear_from machine s k tool place (Move m ∷ actions) [] h = absurd (some_none (faults.MotionsDiffer s k) h)
clear_from machine s k tool place (_ ∷ actions) entries h = clear_from machine s (k + 1) tool place actions entries h

whole_from : (machine : MachineFile) (s : Setting) (k : ℕ) (tool : Option Tool) (place : Point3) (actions : List Action) (entries : List Entry) →
    commands_fault machine s k tool place actions entries ≡ None → AreWhole machine actions entries
whole_from machine s k tool place [] entries h = tt
whole_from machine s k tool place (Mount new ∷ actions) entries h =
    let e = neither (option_map (faults.ToolChange s k) (place_fault machine new (grid machine.step place)))
    (commands_fault machine s (k + 1) new place actions entries) h in
    whole_from machine s (k + 1) new place actions entries e.1
whole_from machine s k tool place (Move m ∷ actions) (entry ∷ entries) h =
    let e = neither (motion_fault machine s k tool m entry.pieces)
    (commands_fault machine s (k + 1) tool (end_of m.way) actions entries) h in (
      (unrefused_motion machine s k tool m entry.pieces e.0).whole,
      whole_from machine s (k + 1) tool (end_of m.way) actions entries e.1,
    )
whole_from machine s k tool place (Move m ∷ actions) [] h = tt
whole_from machine s k tool place (_ ∷ actions) entries h = whole_from machine s (k + 1) tool place actions entries h

passes_from : (machine : MachineFile) (s : Setting) (k : ℕ) (tool : Option Tool) (place : Point3) (actions : List Action) (entries : List Entry) →
    AreClearFrom machine tool place actions entries → AreWhole machine actions entries → commands_fault machine s k tool place actions entries ≡ None
passes_from machine s k tool place [] entries h w = refl
passes_from machine s k tool place (Mount new ∷ actions) entries h w =
    both_none (option_map (faults.ToolChange s k) (place_fault machine new (grid machine.step place)))
    (commands_fault machine s (k + 1) new place actions entries)
    (map_none (faults.ToolChange s k) (place_fault machine new (grid machine.step place)) (unmet_at machine new (grid machine.step place) h.0))
    (passes_from machine s (k + 1) new place actions entries h.1 w)
passes_from machine s k tool place (Move m ∷ actions) (entry ∷ entries) h w =
    both_none (motion_fault machine s k tool m entry.pieces)
    (commands_fault machine s (k + 1) tool (end_of m.way) actions entries)
    (passing machine s k tool m entry.pieces (takes_any_way machine m.pace) refl (record { valid = h.0; whole = w.0 }))
    (passes_from machine s (k + 1) tool (end_of m.way) actions entries h.1 w.1)
passes_from machine s k tool place (Move m ∷ actions) [] h w = absurd h
passes_from machine s k tool place (_ ∷ actions) entries h w = passes_from machine s (k + 1) tool place actions entries h w

-- ---- a setting

pub setting_valid : (machine : MachineFile) (s : Setting) (commands : List Command) (entries : List Entry) →
    setting_fault machine s commands entries ≡ None → IsValid machine commands entries
setting_valid machine s commands entries h =
    let a = neither (motions_fault s (actions_of commands) entries or start_fault machine)
    (commands_fault machine s 0 None machine.start (actions_of commands) entries) h in
    let b = neither (motions_fault s (actions_of commands) entries) (start_fault machine) a.0 in
    record {
      motions = no_difference (motion_indices 0 (actions_of commands)) (map (λ entry. entry.index) entries)
          (no_map (faults.MotionsDiffer s) (first_difference (motion_indices 0 (actions_of commands)) (map (λ entry. entry.index) entries)) b.0);
      start = clear_at machine None (grid machine.step machine.start) (no_map faults.Start (place_fault machine None (grid machine.step machine.start)) b.1);
      clear = clear_from machine s 0 None machine.start (actions_of commands) entries a.1;
      whole = whole_from machine s 0 None machine.start (actions_of commands) entries a.1;
    }

setting_passes : (machine : MachineFile) (s : Setting) (commands : List Command) (entries : List Entry) →
    IsValid machine commands entries → setting_fault machine s commands entries ≡ None
setting_passes machine s commands entries h =
    both_none (motions_fault s (actions_of commands) entries or start_fault machine)
    (commands_fault machine s 0 None machine.start (actions_of commands) entries)
    (both_none (motions_fault s (actions_of commands) entries) (start_fault machine)
    (map_none (faults.MotionsDiffer s) _ (alike (motion_indices 0 (actions_of commands)) (map (λ entry. entry.index) entries) h.motions))
    (map_none faults.Start _ (unmet_at machine None (grid machine.step machine.start) h.start)))
    (passes_from machine s 0 None machine.start (actions_of commands) entries h.clear h.whole)

-- ---- both settings

settings_valid : (program : Program) (setup : Setup) (c : CertificateData) (x y : Result (List Command) ProgramFault) →
    meaning program setup false ≡ x → meaning program setup true ≡ y → settings_fault setup.machine x y c ≡ None → IsValidFor program setup c
settings_valid program setup c (Err e) y off on h = absurd (some_none (faults.Program Off e) h)
settings_valid program setup c (Ok a) (Err e) off on h = absurd (some_none (faults.Program On e) h)
settings_valid program setup c (Ok a) (Ok b) off on h =
    let n = neither (setting_fault setup.machine Off a c.off) (setting_fault setup.machine On b c.on) h in
    record {
      off = a;
      on = b;
      off_means = off;
      on_means = on;
      off_valid = setting_valid setup.machine Off a c.off n.0;
      on_valid = setting_valid setup.machine On b c.on n.1;
    }

settings_pass : (program : Program) (setup : Setup) (c : CertificateData) → IsValidFor program setup c → first_refusal program setup c ≡ None
settings_pass program setup c h =
    ap (λ x. settings_fault setup.machine x (meaning program setup true) c) h.off_means
    ∙ ap (λ y. settings_fault setup.machine (Ok h.off) y c) h.on_means
    ∙ both_none (setting_fault setup.machine Off h.off c.off) (setting_fault setup.machine On h.on c.on)
    (setting_passes setup.machine Off h.off c.off h.off_valid)
    (setting_passes setup.machine On h.on c.on h.on_valid)

pub refused_valid : (machine : MachineFile) (off on : List Command) (c : CertificateData) (fault : CheckFault) → IsValid machine off c.off
    → IsValid machine on c.on → settings_fault machine (Ok off) (Ok on) c ≡ Some fault → ⊥
refused_valid machine off on c fault off_valid on_valid some =
    let none = both_none (setting_fault machine Off off c.off) (setting_fault machine On on c.on) (setting_passes machine Off off c.off off_valid)
    (setting_passes machine On on c.on on_valid) in
    some_none fault (sym some ∙ none)

pub law : NoneRefusedIsValid
law = λ program setup c. (settings_valid program setup c (meaning program setup false) (meaning program setup true) refl refl, settings_pass program setup c)
