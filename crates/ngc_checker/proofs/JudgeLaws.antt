-- The effect of a line on the check of a certificate.
use Rattle.std.proofs.Common.{◌≡◌, ℕ, ◌+◌, ◌-◌, ◌≤◌, ap₂, subst, Option, None, List, [], ◌∷◌, length, refl, sym, ◌∙◌, arith}
use Rattle.std.specs.Prelude.{Ok}
use Rattle.ngc_machine_files.specs.Machine.{MachineFile}
use Rattle.ngc_commands.specs.declared.command.Command.{Command}
use Rattle.ngc_certificate_text.specs.declared.piece.Piece.{Piece}
use Rattle.ngc_certificate_text.specs.declared.piece.Setting.{Setting}
use Rattle.ngc_certificate_text.specs.declared.piece.Setting.TheVariants.{Off, On}
use Rattle.ngc_certificate_text.specs.Ahead.{Rest, certificate_of, nothing_left, with_items, with_pieces}
use Rattle.ngc_certificate_text.specs.declared.expected.Indices.{Indices}
use Rattle.ngc_certificate_text.specs.declared.expected.Indices.TheVariants as of
use Rattle.ngc_certificate_text.specs.Certificate.{Entry}
use Rattle.ngc_certificate.specs.declared.pieces.PieceJudge.{PieceJudge}
use Rattle.ngc_certificate.specs.PieceFault.{◌or◌}
use Rattle.ngc_checker.specs.declared.fault.CheckFault.{CheckFault}
use Rattle.ngc_checker.specs.declared.setting_judge.SettingJudge.{SettingJudge}
use Rattle.ngc_checker.specs.FirstRefusal.{setting_fault, settings_fault}
use Rattle.ngc_checker.specs.Following.{IsFollowing}
use Rattle.ngc_checker.specs.Judging.{verdict_left, IsJudge, IsWalking}
use Rattle.ngc_checker.specs.Walking.{fault_left}
use Rattle.ngc_checker.proofs.WalkLaws.{idle}

pub idle_all : (machine : MachineFile) (s : Setting) (commands : List Command) (j : SettingJudge) (ps : List Piece) (es : List Entry) → j.following ≡ None
    → fault_left machine s commands j ps es ≡ fault_left machine s commands j [] es
idle_all machine s commands j [] es e = refl
idle_all machine s commands j (p ∷ ps) es e = idle machine s commands j p ps es e ∙ idle_all machine s commands j ps es e

is_idle : (machine : MachineFile) (f : Option PieceJudge) (left : ℕ) → f ≡ None → IsFollowing machine f left
is_idle machine f left e = subst (λ (o : Option PieceJudge). IsFollowing machine o left) (sym e) tt

abbrev Begins : MachineFile → SettingJudge → Type 0
Begins machine walk = (s : Setting) (cs : List Command) (es : List Entry) → setting_fault machine s cs es ≡ fault_left machine s cs walk [] es

-- a setting whose motion has not begun ignores pieces
walking_on : (machine : MachineFile) (cs : List Command) (walk : SettingJudge) (left n : ℕ) → IsWalking machine cs walk left → left ≡ 0 →
    IsWalking machine cs walk n
walking_on machine cs walk left n w zero = record {
  index = w.index;
  following = is_idle machine walk.following n (w.none zero);
  none = λ e. w.none zero;
}

-- ---- before the first line

pub begun_walking : (machine : MachineFile) (cs : List Command) (walk : SettingJudge) → walk.following ≡ None → walk.walk.index ≡ 0 →
    IsWalking machine cs walk 0
begun_walking machine cs walk none index = record {
  index = omega (arith, index);
  following = is_idle machine walk.following 0 none;
  none = λ e. none;
}

begun_fault : (machine : MachineFile) (s : Setting) (cs : List Command) (walk : SettingJudge) (ps : List Piece) (es : List Entry) → Begins machine walk →
    walk.following ≡ None
    → setting_fault machine s cs es ≡ fault_left machine s cs walk ps es
begun_fault machine s cs walk ps es begins none = begins s cs es ∙ sym (idle_all machine s cs walk ps es none)

pub begun_says : (machine : MachineFile) (off on : List Command) (off_walk on_walk : SettingJudge) → Begins machine off_walk → off_walk.following ≡ None →
    Begins machine on_walk → on_walk.following ≡ None → (r : Rest)
    → settings_fault machine (Ok off) (Ok on) (certificate_of r) ≡ verdict_left machine off on off_walk on_walk r
begun_says machine off on off_walk on_walk off_begins off_none on_begins on_none r =
    ap₂ (λ (x y : Option CheckFault). (x or y)) (begun_fault machine Off off off_walk r.pieces (certificate_of r).off off_begins off_none)
    (begun_fault machine On on on_walk r.pieces (certificate_of r).on on_begins on_none)

pub begins_on : (machine own : MachineFile) (walk : SettingJudge) → machine ≡ own → Begins machine walk → Begins own walk
begins_on machine own walk is begins = subst (λ (m : MachineFile). Begins m walk) is begins

-- the machine as it is passed on
pub judged_on : (machine own : MachineFile) (off on : List Command) (off_walk on_walk : SettingJudge) (left : ℕ) → machine ≡ own →
    IsJudge machine off on off_walk on_walk left → IsJudge own off on off_walk on_walk left
judged_on machine own off on off_walk on_walk left is judge = subst (λ (m : MachineFile). IsJudge m off on off_walk on_walk left) is judge

-- ---- a motion

abbrev Moves : MachineFile → Setting → List Command → SettingJudge → SettingJudge → ℕ → ℕ → Type 0
Moves machine s cs old new index n =
    (ps : List Piece) (es : List Entry) → length ps ≡ n → fault_left machine s cs old [] (record { index = index; pieces = ps } ∷ es)
    ≡ fault_left machine s cs new ps es

moved : (machine : MachineFile) (cs : List Command) (new : SettingJudge) (n : ℕ) → new.walk.index ≤ length cs → IsFollowing machine new.following n → 1 ≤ n →
    IsWalking machine cs new n
moved machine cs new n index following some = record { index = index; following = following; none = λ e. absurd (omega (arith, e, some)) }

-- an entry in front of the rest
abbrev pub begun_with : Indices → Rest → Rest
begun_with indices r = with_items (record { indices = indices; pieces = r.pieces } ∷ []) r

off_verdict : (machine : MachineFile) (off on : List Command) (old new on_walk : SettingJudge) (i n : ℕ) (r : Rest) → Moves machine Off off old new i n →
    on_walk.following ≡ None → length r.pieces ≡ n
    → verdict_left machine off on old on_walk (begun_with (of.Off i) r) ≡ verdict_left machine off on new on_walk r
off_verdict machine off on old new on_walk i n r moves none fits =
    ap₂ (λ (x y : Option CheckFault). (x or y)) (moves r.pieces (certificate_of r).off fits)
    (sym (idle_all machine On on on_walk r.pieces (certificate_of r).on none))

on_verdict : (machine : MachineFile) (off on : List Command) (off_walk old new : SettingJudge) (j n : ℕ) (r : Rest) → Moves machine On on old new j n →
    off_walk.following ≡ None → length r.pieces ≡ n
    → verdict_left machine off on off_walk old (begun_with (of.On j) r) ≡ verdict_left machine off on off_walk new r
on_verdict machine off on off_walk old new j n r moves none fits =
    ap₂ (λ (x y : Option CheckFault). (x or y)) (sym (idle_all machine Off off off_walk r.pieces (certificate_of r).off none))
    (moves r.pieces (certificate_of r).on fits)

both_verdict : (machine : MachineFile) (off on : List Command) (off_old off_new on_old on_new : SettingJudge) (i j n : ℕ) (r : Rest) →
    Moves machine Off off off_old off_new i n → Moves machine On on on_old on_new j n → length r.pieces ≡ n
    → verdict_left machine off on off_old on_old (begun_with (of.Both i j) r) ≡ verdict_left machine off on off_new on_new r
both_verdict machine off on off_old off_new on_old on_new i j n r off_moves on_moves fits =
    ap₂ (λ (x y : Option CheckFault). (x or y)) (off_moves r.pieces (certificate_of r).off fits) (on_moves r.pieces (certificate_of r).on fits)

-- a motion has begun: the changes of the settings' walks
pub record HasBegun (machine : MachineFile) (off on : List Command) (off_old off_new on_old on_new : SettingJudge) (indices : Indices) (n : ℕ) : Type 0 where
  pub off_walking : IsWalking machine off off_new n
  pub on_walking : IsWalking machine on on_new n
  pub verdict : (r : Rest) → length r.pieces ≡ n → verdict_left machine off on off_old on_old (begun_with indices r)
      ≡ verdict_left machine off on off_new on_new r

abbrev Walks : MachineFile → Setting → List Command → SettingJudge → SettingJudge → ℕ → ℕ → Type 0
Walks machine s cs old new index n = (new.walk.index ≤ length cs) × IsFollowing machine new.following n × Moves machine s cs old new index n

-- the commands as they are passed on
walks_in : (machine : MachineFile) (s : Setting) (cs own : List Command) (old new : SettingJudge) (index n : ℕ) → cs ≡ own →
    Walks machine s cs old new index n → Walks machine s own old new index n
walks_in machine s cs own old new index n is walks = subst (λ (x : List Command). Walks machine s x old new index n) is walks

pub off_begun : (machine : MachineFile) (off on cs : List Command) (old new on_walk : SettingJudge) (i n left : ℕ) → IsWalking machine on on_walk left →
    left ≡ 0 → 1 ≤ n → cs ≡ off
    → Walks machine Off cs old new i n → HasBegun machine off on old new on_walk on_walk (of.Off i) n
off_begun machine off on cs old new on_walk i n left w zero some is walks =
    let own = walks_in machine Off cs off old new i n is walks in
    record {
      off_walking = moved machine off new n own.0 own.1 some;
      on_walking = walking_on machine on on_walk left n w zero;
      verdict = λ r fits. off_verdict machine off on old new on_walk i n r own.2 (w.none zero) fits;
    }

pub on_begun : (machine : MachineFile) (off on cs : List Command) (off_walk old new : SettingJudge) (j n left : ℕ) → IsWalking machine off off_walk left →
    left ≡ 0 → 1 ≤ n → cs ≡ on
    → Walks machine On cs old new j n → HasBegun machine off on off_walk off_walk old new (of.On j) n
on_begun machine off on cs off_walk old new j n left w zero some is walks =
    let own = walks_in machine On cs on old new j n is walks in
    record {
      off_walking = walking_on machine off off_walk left n w zero;
      on_walking = moved machine on new n own.0 own.1 some;
      verdict = λ r fits. on_verdict machine off on off_walk old new j n r own.2 (w.none zero) fits;
    }

pub both_begun : (machine : MachineFile) (off on off_cs on_cs : List Command) (off_old off_new on_old on_new : SettingJudge) (i j n : ℕ) → 1 ≤ n →
    off_cs ≡ off → on_cs ≡ on
    → Walks machine Off off_cs off_old off_new i n → Walks machine On on_cs on_old on_new j n →
    HasBegun machine off on off_old off_new on_old on_new (of.Both i j) n
both_begun machine off on off_cs on_cs off_old off_new on_old on_new i j n some off_is on_is off_walks on_walks =
    let off_own = walks_in machine Off off_cs off off_old off_new i n off_is off_walks in
    let on_own = walks_in machine On on_cs on on_old on_new j n on_is on_walks in
    record {
      off_walking = moved machine off off_new n off_own.0 off_own.1 some;
      on_walking = moved machine on on_new n on_own.0 on_own.1 some;
      verdict = λ r fits. both_verdict machine off on off_old off_new on_old on_new i j n r off_own.2 on_own.2 fits;
    }

pub begun_judged : (machine : MachineFile) (off on : List Command) (off_old off_new on_old on_new : SettingJudge) (indices : Indices) (n left : ℕ) →
    IsJudge machine off on off_old on_old left → left ≡ 0
    → HasBegun machine off on off_old off_new on_old on_new indices n → IsJudge machine off on off_new on_new n
begun_judged machine off on off_old off_new on_old on_new indices n left j zero begun = record {
  good_machine = j.good_machine;
  off_commands = j.off_commands;
  on_commands = j.on_commands;
  off_walking = begun.off_walking;
  on_walking = begun.on_walking;
  certificate = λ r. j.certificate (begun_with indices r);
  says = λ r fits. j.says (begun_with indices r) (sym zero) ∙ begun.verdict r fits;
}

-- ---- a piece

abbrev Steps : MachineFile → Setting → SettingJudge → SettingJudge → Piece → ℕ → Type 0
Steps machine s old new p n =
    (cs : List Command) (ps : List Piece) (es : List Entry) → length ps + 1 ≡ n → fault_left machine s cs old (p ∷ ps) es ≡ fault_left machine s cs new ps es

pub stepped : (machine : MachineFile) (cs : List Command) (old new : SettingJudge) (n left : ℕ) → IsWalking machine cs old left →
    new.walk.index ≡ old.walk.index → IsFollowing machine new.following (n - 1)
    → (n ≡ 1 → new.following ≡ None) → 1 ≤ n → IsWalking machine cs new (n - 1)
stepped machine cs old new n left w within following last some = record {
  index = let had = w.index in omega (arith, within, had);
  following = following;
  none = λ e. last (let one : n ≡ 1 = omega (arith, e, some) in one);
}

pub pieces_verdict : (machine : MachineFile) (off on : List Command) (off_old off_new on_old on_new : SettingJudge) (p : Piece) (n : ℕ) →
    Steps machine Off off_old off_new p n → Steps machine On on_old on_new p n
    → (r : Rest) → length r.pieces + 1 ≡ n → verdict_left machine off on off_old on_old (with_pieces (p ∷ r.pieces) r)
    ≡ verdict_left machine off on off_new on_new r
pieces_verdict machine off on off_old off_new on_old on_new p n off_steps on_steps r fits =
    ap₂ (λ (x y : Option CheckFault). (x or y)) (off_steps off r.pieces (certificate_of r).off fits) (on_steps on r.pieces (certificate_of r).on fits)

pub piece_judged : (machine : MachineFile) (off on : List Command) (off_old off_new on_old on_new : SettingJudge) (p : Piece) (n left : ℕ) →
    IsJudge machine off on off_old on_old left → left ≡ n → 1 ≤ n
    → IsWalking machine off off_new (n - 1) → IsWalking machine on on_new (n - 1) → Steps machine Off off_old off_new p n → Steps machine On on_old on_new p n →
    IsJudge machine off on off_new on_new (n - 1)
piece_judged machine off on off_old off_new on_old on_new p n left j same some off_walking on_walking off_steps on_steps = record {
  good_machine = j.good_machine;
  off_commands = j.off_commands;
  on_commands = j.on_commands;
  off_walking = off_walking;
  on_walking = on_walking;
  certificate = λ r. j.certificate (with_pieces (p ∷ r.pieces) r);
  says = λ r fits. j.says (with_pieces (p ∷ r.pieces) r) (let size : length (p ∷ r.pieces) ≡ left = omega (arith, fits, same, some) in size)
      ∙ pieces_verdict machine off on off_old off_new on_old on_new p n off_steps on_steps r
      (let size : length r.pieces + 1 ≡ n = omega (arith, fits, some) in size);
}

-- ---- the end

pub judged_none : (machine : MachineFile) (off on : List Command) (off_walk on_walk : SettingJudge) (left : ℕ)
    (j : IsJudge machine off on off_walk on_walk left) → left ≡ 0
    → (fault_left machine Off off off_walk [] [] or fault_left machine On on on_walk [] []) ≡ None →
    settings_fault machine (Ok off) (Ok on) (j.certificate nothing_left) ≡ None
judged_none machine off on off_walk on_walk left j zero clear = j.says nothing_left (sym zero) ∙ clear
