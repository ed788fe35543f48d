use Rattle.std.proofs.Common.{Bool, ap}
use Rattle.std.specs.Prelude.{Some, None, if◌then◌else◌}
use Rattle.ngc_findings.specs.Uses.{changes, use_of, with_first}
use Rattle.ngc_findings.proofs.uses.ToolUses.next_tool.Goals as goal

pub returns-then-self : goal.returns-then-self
returns-then-self c =
    let later = c.args.self.now.later.now in
    record {
      commands = later;
      next = ap (λ (b : Bool). with_first (if b then Some (use_of None later) else None) (changes later)) c.if-self.true;
    }
