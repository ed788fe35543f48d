-- The effect of a certificate's motions and pieces on the check of a setting.
use Rattle.std.proofs.Common.{◌≡◌, ℕ, zero, suc, ◌+◌, ◌-◌, ◌<◌, ◌≤◌, ap, ap₂, Option, Some, None, List, [], ◌∷◌, length, drop, take, get_or, refl, sym, ◌∙◌}
use Rattle.std.proofs.Common.{arith, add-one, drop-cons}
use Rattle.std.specs.Prelude.{map, min, nat_le, nat_lt, ◌==◌, if◌then◌else◌, Bool, true, false}
use Rattle.std.specs.Option.{option_map}
use Rattle.std.proofs.lemmas.Bool.Decides.{nat_tests}
use Rattle.std.proofs.lemmas.List.{take_all, length-drop}
use Rattle.ngc_machine_files.specs.Machine.{MachineFile}
use Rattle.ngc_fixed_length.specs.declared.points.Point3.{Point3}
use Rattle.ngc_commands.specs.declared.command.Action.{Action}
use Rattle.ngc_commands.specs.declared.command.Action.TheVariants.{Move}
use Rattle.ngc_commands.specs.declared.command.Command.{Command}
use Rattle.ngc_commands.specs.declared.movement.Motion.{Motion}
use Rattle.ngc_commands.specs.Movement.{actions_of, motion_indices, end_of}
use Rattle.ngc_certificate_text.specs.declared.piece.Piece.{Piece}
use Rattle.ngc_certificate_text.specs.declared.piece.Setting.{Setting}
use Rattle.ngc_certificate_text.specs.Certificate.{Entry, entry_at}
use Rattle.ngc_certificate_text.proofs.WrittenCertificate.{entry_there}
use Rattle.ngc_certificate.specs.declared.fault.PieceRefusal.{PieceRefusal}
use Rattle.ngc_certificate.specs.declared.pieces.PieceJudge.{PieceJudge}
use Rattle.ngc_certificate.specs.PieceFault.{pieces_fault, ◌or◌}
use Rattle.ngc_certificate.specs.Chain.{are_several}
use Rattle.ngc_certificate.specs.PieceJudging.{fault_ahead, is_empty}
use Rattle.ngc_commands.specs.declared.movement.Way.{Way}
use Rattle.ngc_machine_files.specs.declared.tools.Tool.{Tool}
use Rattle.ngc_checker.specs.declared.command_walk.CommandWalk.{CommandWalk}
use Rattle.ngc_checker.specs.declared.command_walk.NextMotion.{NextMotion}
use Rattle.ngc_checker.specs.declared.fault.CheckFault.{CheckFault}
use Rattle.ngc_checker.specs.declared.fault.CheckFault.TheVariants as faults
use Rattle.ngc_checker.specs.declared.setting_judge.SettingJudge.{SettingJudge}
use Rattle.ngc_checker.specs.FirstRefusal.{first_difference, start_fault, is_divided, at_command, motion_fault, commands_fault}
use Rattle.ngc_checker.specs.Walking.{walk_from, with_motion, pieces_left, commands_ahead, fault_left}

-- ---- lists

left_at : (i : ℕ) (cs : List Command) (c : Command) → i < length cs → c ≡ get_or cs i c → drop i cs ≡ c ∷ drop (i + 1) cs
left_at i cs c h e = let split = drop-cons cs i c h in rw (split, ← e, add-one) refl

-- the motions of a certificate from one on
pub entry_ahead : (i : ℕ) (es : List Entry) → i < length es → drop i es ≡ entry_at es i ∷ drop (i + 1) es
entry_ahead i es inside =
    let split = drop-cons es i (entry_at es i) inside in
    let found = entry_there es i inside in
    rw (split, ← found, add-one) refl

drop_none : (n : ℕ) → drop {A = Command} n [] ≡ []
drop_none zero = refl
drop_none (suc n) = refl

drop_more : (i n : ℕ) (cs : List Command) → drop n (drop i cs) ≡ drop (i + n) cs
drop_more zero n cs = ap (λ k. drop k cs) (let e : n ≡ 0 + n = omega arith in e)
drop_more (suc i) n [] = drop_none n ∙ sym (drop_none (suc i + n))
drop_more (suc i) n (c ∷ cs) = drop_more i n cs ∙ ap (λ k. drop k (c ∷ cs)) (let e : suc (i + n) ≡ suc i + n = omega arith in e)

drop_on : (i j : ℕ) (cs : List Command) → i ≤ j → drop (j - i) (drop i cs) ≡ drop j cs
drop_on i j cs h = drop_more i (j - i) cs ∙ ap (λ k. drop k cs) (let e : i + (j - i) ≡ j = omega (arith, h) in e)

pub rest_of : (i : ℕ) (cs : List Command) → take (length cs - i) (drop i cs) ≡ drop i cs
rest_of i cs = take_all (length cs - i) (drop i cs) (omega (arith, length-drop i cs))

-- ---- refusals

or_both : (a b c : Option CheckFault) → (a or (b or c)) ≡ ((a or b) or c)
or_both (Some x) b c = refl
or_both None b c = refl

map_or : (f : PieceRefusal → CheckFault) (a b : Option PieceRefusal) → option_map f (a or b) ≡ (option_map f a or option_map f b)
map_or f (Some x) b = refl
map_or f None b = refl

-- ---- the walk to a motion

abbrev after_move : MachineFile → Setting → CommandWalk → Motion → List Command → Entry → List Entry → Point3 → ℕ → Option CheckFault
after_move machine s w m cs entry entries p k =
    w.refusal or (motion_fault machine s w.index w.tool m entry.pieces or commands_fault machine s (w.index + 1) w.tool p
    (actions_of (drop k cs)) entries)

pub move_step : (machine : MachineFile) (s : Setting) (w : CommandWalk) (start : ℕ) (cs : List Command) (i : ℕ) (c : Command) (m : Motion) (place : Point3)
    (entry : Entry) (entries : List Entry)
    → i < length cs → c ≡ get_or cs i c → c.action ≡ Move m → place ≡ end_of m.way → w.index ≡ start + i
    → walk_from machine s w.index w (actions_of (drop i cs)) (entry ∷ entries)
    ≡ with_motion machine s (record { index = w.index + 1; tool = w.tool; place = place; refusal = w.refusal }) (record { index = w.index; motion = m })
    (actions_of (drop (w.index + 1 - start) cs)) entry entries
move_step machine s w start cs i c m place entry entries h e is stands at =
    let split = left_at i cs c h e in
    let same : i + 1 ≡ w.index + 1 - start = omega (arith, at) in
    ap (λ (l : List Command). walk_from machine s w.index w (actions_of l) (entry ∷ entries)) split
    ∙ ap (λ (a : Action). walk_from machine s w.index w (a ∷ actions_of (drop (i + 1) cs)) (entry ∷ entries)) is
    ∙ ap (λ (p : Point3). after_move machine s w m cs entry entries p (i + 1)) (sym stands)
    ∙ ap (after_move machine s w m cs entry entries place) same

-- the motion at command i is the first of those that are left
pub indices_step : (k start : ℕ) (cs : List Command) (i : ℕ) (c : Command) (m : Motion)
    → i < length cs → c ≡ get_or cs i c → c.action ≡ Move m → k ≡ start + i
    → motion_indices k (actions_of (drop i cs)) ≡ k ∷ motion_indices (k + 1) (actions_of (drop (k + 1 - start) cs))
indices_step k start cs i c m h e is at =
    let split = left_at i cs c h e in
    let same : i + 1 ≡ k + 1 - start = omega (arith, at) in
    ap (λ (l : List Command). motion_indices k (actions_of l)) split
    ∙ ap (λ (a : Action). motion_indices k (a ∷ actions_of (drop (i + 1) cs))) is
    ∙ ap (λ (j : ℕ). k ∷ motion_indices (k + 1) (actions_of (drop j cs))) same

-- ---- a motion that is the program's next one

alike_heads : (i j : ℕ) (is js : List ℕ) → i ≡ j → first_difference (i ∷ is) (j ∷ js) ≡ first_difference is js
alike_heads i j is js e = by_test i j (first_difference is js) e where
  by_test : (i j : ℕ) (rest : Option ℕ) → i ≡ j → (if i == j then rest else Some (min i j)) ≡ rest
  by_test i j rest e = grind (arith, nat_tests)

none_left : (machine : MachineFile) (s : Setting) (k : ℕ) (f : Option PieceJudge) (x : Option CheckFault) → f ≡ None → (pieces_left machine s k f [] or x) ≡ x
none_left machine s k f x e = ap (λ (o : Option PieceJudge). (pieces_left machine s k o [] or x)) e

-- the difference, the start, and the commands
abbrev by_parts : MachineFile → Setting → Option ℕ → Option ℕ → Option CheckFault → Option CheckFault
by_parts machine s differs d x = option_map (faults.MotionsDiffer s) (differs or d) or start_fault machine or x

-- the motions after it, and the walk with this refusal of the motion
abbrev judging : MachineFile → Setting → List Command → Option ℕ → CommandWalk → List Entry → Option CheckFault → Option CheckFault
judging machine s commands differs w entries x =
    by_parts machine s differs (first_difference (motion_indices w.index (commands_ahead commands w)) (map (λ (e : Entry). e.index) entries))
    (w.refusal or (x or commands_fault machine s w.index w.tool w.place (commands_ahead commands w) entries))

reached : (machine : MachineFile) (s : Setting) (commands ahead : List Command) (old : SettingJudge) (w : CommandWalk) (m : NextMotion)
    (index : ℕ) (pieces : List Piece) (entries : List Entry)
    → ahead ≡ drop old.walk.index commands → old.walk.index ≤ w.index → old.following ≡ None
    → motion_indices old.walk.index (actions_of ahead) ≡ m.index ∷ motion_indices w.index (actions_of (drop (w.index - old.walk.index) ahead))
    → ((entry : Entry) (es : List Entry) → walk_from machine s old.walk.index old.walk (actions_of ahead) (entry ∷ es)
    ≡ with_motion machine s w m (actions_of (drop (w.index - old.walk.index) ahead)) entry es)
    → m.index ≡ index
    → fault_left machine s commands old [] (record { index = index; pieces = pieces } ∷ entries)
    ≡ judging machine s commands old.differs w entries (motion_fault machine s m.index w.tool m.motion pieces)
reached machine s commands ahead old w m index pieces entries at on none indices walk same =
    let entry : Entry = record { index = index; pieces = pieces } in
    let rest : drop (w.index - old.walk.index) ahead ≡ drop w.index commands =
    ap (drop (w.index - old.walk.index)) at ∙ drop_on old.walk.index w.index commands on in
    ap₂ (by_parts machine s old.differs)
    (ap (λ (l : List Command). first_difference (motion_indices old.walk.index (actions_of l)) (index ∷ map (λ (e : Entry). e.index) entries)) (sym at)
    ∙ ap (λ (is : List ℕ). first_difference is (index ∷ map (λ (e : Entry). e.index) entries)) indices
    ∙ alike_heads m.index index (motion_indices w.index (actions_of (drop (w.index - old.walk.index) ahead))) (map (λ (e : Entry). e.index) entries) same
    ∙ ap (λ (l : List Command). first_difference (motion_indices w.index (actions_of l)) (map (λ (e : Entry). e.index) entries)) rest)
    (ap (λ (x : Option CheckFault). (old.walk.refusal or x))
    (none_left machine s (old.walk.index - 1) old.following
    (commands_fault machine s old.walk.index old.walk.tool old.walk.place (commands_ahead commands old.walk) (entry ∷ entries)) none)
    ∙ ap (λ (l : List Command). walk_from machine s old.walk.index old.walk (actions_of l) (entry ∷ entries)) (sym at)
    ∙ walk entry entries
    ∙ ap (λ (l : List Command). with_motion machine s w m (actions_of l) entry entries) rest)

undivided : (machine : MachineFile) (s : Setting) (k : ℕ) (tool : Option Tool) (m : Motion) (pieces : List Piece) → is_divided machine m pieces ≡ false →
    motion_fault machine s k tool m pieces ≡ option_map (at_command s k) (pieces_fault machine tool m.way pieces)
undivided machine s k tool m pieces e =
    ap (λ (b : Bool). if b then Some (faults.Divided s k) else option_map (at_command s k) (pieces_fault machine tool m.way pieces)) e

divided : (machine : MachineFile) (s : Setting) (k : ℕ) (tool : Option Tool) (m : Motion) (pieces : List Piece) → is_divided machine m pieces ≡ true →
    motion_fault machine s k tool m pieces ≡ Some (faults.Divided s k)
divided machine s k tool m pieces e =
    ap (λ (b : Bool). if b then Some (faults.Divided s k) else option_map (at_command s k) (pieces_fault machine tool m.way pieces)) e

pub compared : (machine : MachineFile) (s : Setting) (commands ahead : List Command) (old : SettingJudge) (w : CommandWalk) (m : NextMotion) (j : PieceJudge)
    (index : ℕ) (pieces : List Piece) (entries : List Entry)
    → ahead ≡ drop old.walk.index commands → old.walk.index ≤ w.index → w.index ≡ m.index + 1 → old.following ≡ None
    → motion_indices old.walk.index (actions_of ahead) ≡ m.index ∷ motion_indices w.index (actions_of (drop (w.index - old.walk.index) ahead))
    → ((entry : Entry) (es : List Entry) → walk_from machine s old.walk.index old.walk (actions_of ahead) (entry ∷ es)
    ≡ with_motion machine s w m (actions_of (drop (w.index - old.walk.index) ahead)) entry es)
    → m.index ≡ index → is_divided machine m.motion pieces ≡ false → pieces_fault machine w.tool m.motion.way pieces ≡ fault_ahead machine j pieces
    → fault_left machine s commands old [] (record { index = index; pieces = pieces } ∷ entries)
    ≡ fault_left machine s commands (record { walk = w; differs = old.differs; following = Some j }) pieces entries
compared machine s commands ahead old w m j index pieces entries at on afterwards none indices walk same whole judged =
    let last : m.index ≡ w.index - 1 = omega (arith, afterwards) in
    reached machine s commands ahead old w m index pieces entries at on none indices walk same
    ∙ ap (judging machine s commands old.differs w entries)
    (undivided machine s m.index w.tool m.motion pieces whole ∙ ap₂ (λ (k : ℕ) (f : Option PieceRefusal). option_map (at_command s k) f) last judged)

-- a traverse that is divided is refused, and its pieces aren't followed
pub not_followed : (machine : MachineFile) (s : Setting) (commands ahead : List Command) (old : SettingJudge) (w : CommandWalk) (m : NextMotion)
    (index : ℕ) (pieces : List Piece) (entries : List Entry)
    → ahead ≡ drop old.walk.index commands → old.walk.index ≤ w.index → old.following ≡ None
    → motion_indices old.walk.index (actions_of ahead) ≡ m.index ∷ motion_indices w.index (actions_of (drop (w.index - old.walk.index) ahead))
    → ((entry : Entry) (es : List Entry) → walk_from machine s old.walk.index old.walk (actions_of ahead) (entry ∷ es)
    ≡ with_motion machine s w m (actions_of (drop (w.index - old.walk.index) ahead)) entry es)
    → m.index ≡ index → is_divided machine m.motion pieces ≡ true
    → fault_left machine s commands old [] (record { index = index; pieces = pieces } ∷ entries)
    ≡ fault_left machine s commands
    (record { walk = record w { refusal = w.refusal or Some (faults.Divided s m.index) }; differs = old.differs; following = None }) pieces entries
not_followed machine s commands ahead old w m index pieces entries at on none indices walk same several =
    let rest = commands_fault machine s w.index w.tool w.place (commands_ahead commands w) entries in
    reached machine s commands ahead old w m index pieces entries at on none indices walk same
    ∙ ap (judging machine s commands old.differs w entries) (divided machine s m.index w.tool m.motion pieces several)
    ∙ ap (by_parts machine s old.differs (first_difference (motion_indices w.index (commands_ahead commands w)) (map (λ (e : Entry). e.index) entries)))
    (or_both w.refusal (Some (faults.Divided s m.index)) rest)

-- ---- a piece of a motion that is followed

pub followed : (machine : MachineFile) (s : Setting) (commands : List Command) (old : SettingJudge) (j more : PieceJudge) (found : Option PieceRefusal)
    (p : Piece) (ps : List Piece) (entries : List Entry)
    → old.following ≡ Some j → fault_ahead machine j (p ∷ ps) ≡ (found or fault_ahead machine more ps)
    → fault_left machine s commands old (p ∷ ps) entries
    ≡ fault_left machine s commands
    (record {
      walk = record old.walk { refusal = old.walk.refusal or option_map (at_command s (old.walk.index - 1)) found };
      differs = old.differs;
      following = Some more;
    }) ps entries
followed machine s commands old j more found p ps entries is first =
    let rest = commands_fault machine s old.walk.index old.walk.tool old.walk.place (commands_ahead commands old.walk) entries in
    let here = option_map (at_command s (old.walk.index - 1)) found in
    let ahead = option_map (at_command s (old.walk.index - 1)) (fault_ahead machine more ps) in
    let d = first_difference (motion_indices old.walk.index (commands_ahead commands old.walk)) (map (λ (e : Entry). e.index) entries) in
    ap (λ (x : Option CheckFault). by_parts machine s old.differs d (old.walk.refusal or (x or rest)))
    (ap (λ (f : Option PieceJudge). pieces_left machine s (old.walk.index - 1) f (p ∷ ps)) is
    ∙ ap (option_map (at_command s (old.walk.index - 1))) first
    ∙ map_or (at_command s (old.walk.index - 1)) found (fault_ahead machine more ps))
    ∙ ap (by_parts machine s old.differs d)
    (ap (λ (x : Option CheckFault). (old.walk.refusal or x)) (sym (or_both here ahead rest)) ∙ or_both old.walk.refusal here (ahead or rest))

pub not_last : (n : ℕ) (ps : List Piece) → 1 < n → length ps + 1 ≡ n → nat_le n 1 ≡ is_empty ps
not_last n [] h e = absurd (omega (arith, h, e))
not_last n (p ∷ ps) h e = grind (arith, nat_tests)

pub several_are : (n : ℕ) (ps : List Piece) → length ps ≡ n → are_several ps ≡ nat_lt 1 n
several_are n ps e = ap (λ k. nat_lt 1 k) e

-- all pieces of a motion that has at least one
pub judged_all : (machine : MachineFile) (tool : Option Tool) (w : Way) (n : ℕ) (j : PieceJudge) (ps : List Piece) → 1 ≤ n → length ps ≡ n
    → ((p : Piece) (more : List Piece) → are_several (p ∷ more) ≡ nat_lt 1 n → fault_ahead machine j (p ∷ more) ≡ pieces_fault machine tool w (p ∷ more))
    → pieces_fault machine tool w ps ≡ fault_ahead machine j ps
judged_all machine tool w n j [] some e h = absurd (omega (arith, some, e))
judged_all machine tool w n j (p ∷ ps) some e h = sym (h p ps (several_are n (p ∷ ps) e))

-- pieces that are not followed change nothing
pub idle : (machine : MachineFile) (s : Setting) (commands : List Command) (old : SettingJudge) (p : Piece) (ps : List Piece) (entries : List Entry) →
    old.following ≡ None
    → fault_left machine s commands old (p ∷ ps) entries ≡ fault_left machine s commands old ps entries
idle machine s commands old p ps entries e =
    let rest = commands_fault machine s old.walk.index old.walk.tool old.walk.place (commands_ahead commands old.walk) entries in
    let d = first_difference (motion_indices old.walk.index (commands_ahead commands old.walk)) (map (λ (x : Entry). x.index) entries) in
    ap (λ (f : Option PieceJudge). by_parts machine s old.differs d (old.walk.refusal or (pieces_left machine s (old.walk.index - 1) f (p ∷ ps) or rest))) e
    ∙ ap (λ (f : Option PieceJudge). by_parts machine s old.differs d (old.walk.refusal or (pieces_left machine s (old.walk.index - 1) f ps or rest))) (sym e)

pub same_or : (a : Option CheckFault) → (a or None) ≡ a
same_or (Some x) = refl
same_or None = refl

-- a motion by its index and its pieces
pub same_entry : (machine : MachineFile) (s : Setting) (commands : List Command) (j : SettingJudge) (entry : Entry) (index : ℕ) (entries : List Entry) →
    index ≡ entry.index →
    fault_left machine s commands j [] (entry ∷ entries) ≡ fault_left machine s commands j [] (record { index = index; pieces = entry.pieces } ∷ entries)
same_entry machine s commands j entry index entries is =
    ap (λ (n : ℕ). fault_left machine s commands j [] (record { index = n; pieces = entry.pieces } ∷ entries)) (sym is)
