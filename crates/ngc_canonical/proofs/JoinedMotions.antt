-- Each step of a program continues the motions from where the axes are, its arcs have even radii,
-- and the number of commands stays in range.
use Rattle.std.proofs.Common.{◌≡◌, ℕ, ◌≤◌, ◌<◌, List, [], ◌∷◌, ◌++◌, length, Bool, true, false, Result, Ok, Err, refl, ap, sym, subst, ◌∙◌, arith}
use Rattle.std.proofs.Common.{length-append}
use Rattle.std.specs.Prelude.{IfOk, nat_lt, if◌then◌else◌}
use Rattle.std.proofs.lemmas.Bool.Decides.{nat_tests}
use Rattle.std.proofs.lemmas.List.{map-append}
use Rattle.ngc_fixed_length.specs.declared.points.Point3.{Point3}
use Rattle.ngc_commands.specs.declared.command.Action.{Action}
use Rattle.ngc_commands.specs.declared.command.Action.TheVariants.{Move}
use Rattle.ngc_commands.specs.declared.command.Command.{Command}
use Rattle.ngc_canonical.specs.declared.fault.Fault.{Fault}
use Rattle.ngc_canonical.specs.declared.fault.Fault.TheVariants.{TooManyCommands}
use Rattle.ngc_commands.specs.declared.movement.Pace.{Pace}
use Rattle.ngc_commands.specs.declared.movement.Way.{Way}
use Rattle.ngc_commands.specs.Sequence.{IsEvenIfArc, HaveEvenRadii}
use Rattle.ngc_commands.specs.Movement.{start_of, end_of, actions_of, ways_of, AreJoined}
use Rattle.ngc_canonical.specs.Steps.{◌>>=◌}
use Rattle.ngc_canonical.specs.State.{State, with_command, emit, at_place, motion_in, go}
use Rattle.ngc_commands.specs.Sequence.{COMMAND_LIMIT}

-- the end of paths that begin at p
abbrev pub led_to : Point3 → List Way → Point3
led_to p [] = p
led_to p (w ∷ ws) = led_to (end_of w) ws

-- the motions of these commands are joined, from p to q, and the arcs among them have even radii
pub record Leads (p : Point3) (commands : List Command) (q : Point3) : Type 0 where
  pub joined : AreJoined p (ways_of (actions_of commands))
  pub ends : led_to p (ways_of (actions_of commands)) ≡ q
  pub radii : HaveEvenRadii (ways_of (actions_of commands))

-- the commands so far lead from p to where the axes are, and their number is in range
pub record IsTrail (p : Point3) (commands : List Command) (q : Point3) : Type 0 where
  pub leads : Leads p commands q
  pub few : length commands ≤ COMMAND_LIMIT

abbrev pub Holds : Point3 → State → Type 0
Holds p s = IsTrail p s.commands s.place

joined_append : (p : Point3) (vs ws : List Way) → AreJoined p vs → AreJoined (led_to p vs) ws → AreJoined p (vs ++ ws)
joined_append p [] ws first second = second
joined_append p (v ∷ vs) ws first second = (first.0, joined_append (end_of v) vs ws first.1 second)

led_append : (p : Point3) (vs ws : List Way) → led_to p (vs ++ ws) ≡ led_to (led_to p vs) ws
led_append p [] ws = refl
led_append p (v ∷ vs) ws = led_append (end_of v) vs ws

radii_append : (vs ws : List Way) → HaveEvenRadii vs → HaveEvenRadii ws → HaveEvenRadii (vs ++ ws)
radii_append [] ws first second = second
radii_append (v ∷ vs) ws first second = (first.0, radii_append vs ws first.1 second)

ways_append : (first rest : List Action) → ways_of (first ++ rest) ≡ ways_of first ++ ways_of rest
ways_append [] rest = refl
ways_append (Move m ∷ first) rest = ap (λ (ws : List Way). m.way ∷ ws) (ways_append first rest)
ways_append (_ ∷ first) rest = ways_append first rest

ways_of_both : (cs ds : List Command) → ways_of (actions_of (cs ++ ds)) ≡ ways_of (actions_of cs) ++ ways_of (actions_of ds)
ways_of_both cs ds = ap ways_of (map-append (λ (c : Command). c.action) cs ds) ∙ ways_append (actions_of cs) (actions_of ds)

leads_on : (p q r : Point3) (cs ds : List Command) → Leads p cs q → Leads q ds r → Leads p (cs ++ ds) r
leads_on p q r cs ds first second =
    let e = ways_of_both cs ds in
    let vs = ways_of (actions_of cs) in
    let ws = ways_of (actions_of ds) in
    let from : AreJoined (led_to p vs) ws = subst (λ (x : Point3). AreJoined x ws) (sym first.ends) second.joined in
    let to : led_to (led_to p vs) ws ≡ r = ap (λ (x : Point3). led_to x ws) first.ends ∙ second.ends in
    record {
      joined = subst (AreJoined p) (sym e) (joined_append p vs ws first.joined from);
      ends = ap (led_to p) e ∙ led_append p vs ws ∙ to;
      radii = subst HaveEvenRadii (sym e) (radii_append vs ws first.radii second.radii);
    }

-- one more command
added : (p q r : Point3) (cs : List Command) (c : Command) → IsTrail p cs q → Leads q (c ∷ []) r → length cs < COMMAND_LIMIT → IsTrail p (cs ++ (c ∷ [])) r
added p q r cs c trail step room = record {
  leads = leads_on p q r cs (c ∷ []) trail.leads step;
  few = omega (arith, length-append cs (c ∷ []));
}

-- ---- steps that may fail

-- the second step continues from the result of the first
pub onward : {A B : Type 0} (P : A → Type 0) (Q : B → Type 0) (r : Result A Fault) (f : A → Result B Fault) → IfOk r P → ((a : A) → P a → IfOk (f a) Q) →
    IfOk (r >>= f) Q
onward P Q (Ok a) f first rest = rest a first
onward P Q (Err e) f first rest = tt

-- whatever the result of the first step is
pub after : {A B : Type 0} (Q : B → Type 0) (r : Result A Fault) (f : A → Result B Fault) → ((a : A) → IfOk (f a) Q) → IfOk (r >>= f) Q
after Q (Ok a) f rest = rest a
after Q (Err e) f rest = tt

pub emitted : (Q : State → Type 0) (a : Action) (s : State) → (length s.commands < COMMAND_LIMIT → Q (with_command a s)) → IfOk (emit a s) Q
emitted Q a s holds = by_test (nat_lt (length s.commands) COMMAND_LIMIT) refl where
  by_test : (b : Bool) → nat_lt (length s.commands) COMMAND_LIMIT ≡ b →
      (let more : Result State Fault = Ok (with_command a s) in IfOk (if b then more else Err TooManyCommands) Q)
  by_test true e = holds (grind (arith, nat_tests))
  by_test false e = tt

-- an action that moves nothing
abbrev pub IsStill : Action → Type 0
IsStill (Move m) = ⊥
IsStill _ = Unit {0}

leads_nowhere : (p : Point3) (line : ℕ) (a : Action) → IsStill a → Leads p (record { line = line; action = a } ∷ []) p
leads_nowhere p line (Move m) still = absurd still
leads_nowhere p line _ still = record { joined = tt; ends = refl; radii = tt }

-- a command that leaves the axes where they are
pub stays : (p : Point3) (a : Action) (s : State) → Holds p s → IsStill a → IfOk (emit a s) (Holds p)
stays p a s h still =
    emitted (Holds p) a s (λ room. added p s.place s.place s.commands (record { line = s.line; action = a }) h (leads_nowhere s.place s.line a still) room)

-- a motion, after which the axes are at its end
pub moves : (p : Point3) (w : Way) (pace : Pace) (s : State) → Holds p s → start_of w ≡ s.place → IsEvenIfArc w → IfOk (go w pace s) (Holds p)
moves p w pace s h begins even =
    let a : Action = Move (motion_in s.modes.path w pace) in
    onward (λ t. IsTrail p t.commands (end_of w)) (Holds p) (emit a s) (λ t. Ok (at_place (end_of w) t))
    (emitted (λ t. IsTrail p t.commands (end_of w)) a s
    (λ room. added p s.place (end_of w) s.commands (record { line = s.line; action = a }) h
    (record { joined = (begins, tt); ends = refl; radii = (even, tt) }) room))
    (λ t trail. trail)
