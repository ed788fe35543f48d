use Rattle.std.proofs.Common.{◌≡◌, ℕ, ◌==◌, false, length, arith, refl, ◌∙◌}
use Rattle.std.proofs.lemmas.Bool.Decides.{nat_tests}
use Rattle.std.proofs.lemmas.Option.{slice_get_read}
use Rattle.ngc_machine_files.specs.Machine.{file_of}
use Rattle.ngc_planner.proofs.TrailLaws.{trail_more}
use Rattle.ngc_planner.proofs.joints.follow.Goals as goal

is_some : (n : ℕ) → (n ≡ 0 → ⊥) → (n == 0) ≡ false
is_some n some = grind (arith, nat_tests)

pub returns-in-Some : goal.returns-in-Some
returns-in-Some g c =
    let commands = c.args.commands.now in
    let m = file_of c.args.machine.now in
    let look = c.in-Some.ensures.lookup in
    let at = slice_get_read commands (length commands) c.args.index c.in-Some.command.now refl look.3.0 look.1 in
    c.pass.ensures ∙ (rw c.requires (trail_more m commands c.args.index c.in-Some.command.now at (is_some m.jump c.if-machine-eq0.false)))
