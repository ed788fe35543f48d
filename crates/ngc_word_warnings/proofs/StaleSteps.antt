-- The feeds with the offset of another tool, one command further.
use Rattle.std.proofs.Common.{◌≡◌, ◌+◌, ◌<◌, ℕ, ℤ, List, length, get_or, drop, Option, Some, None, false, ap, refl, sym, ◌∙◌}
use Rattle.std.proofs.lemmas.List.{drop_more}
use Rattle.std.specs.Prelude.{is_some}
use Rattle.ngc_commands.specs.Reached.{after}
use Rattle.ngc_commands.specs.declared.command.Command.{Command}
use Rattle.ngc_commands.specs.declared.reached.Reached.{Reached}
use Rattle.ngc_machine_files.specs.declared.tools.Tool.{Tool}
use Rattle.ngc_word_warnings.specs.Slips.{feeds, or_else, stale_feed, stale_tool}
use Rattle.ngc_word_warnings.specs.declared.slip.Slip.{Slip}

no_slip : (slip later : Option Slip) → is_some slip ≡ false → or_else slip later ≡ later
no_slip None later none = refl
no_slip (Some s) later none = absurd (cc none)

pub next_feed : (tools : List Tool) (number : ℤ) (r : Reached) (cs : List Command) (i : ℕ) (c : Command) (slip : Option Slip)
    → i < length cs → c ≡ get_or cs i c → slip ≡ stale_tool tools number r.tool (feeds c.action) → is_some slip ≡ false →
    stale_feed tools number (after r c.action) (drop (i + 1) cs) ≡ stale_feed tools number r (drop i cs)
next_feed tools number r cs i c slip inside found is none =
    sym (
    ap (stale_feed tools number r) (drop_more cs i c inside)
    ∙ ap (λ (x : Command). or_else (stale_tool tools number r.tool (feeds x.action)) (stale_feed tools number (after r x.action) (drop (i + 1) cs))) (sym found)
    ∙ ap (λ s. or_else s (stale_feed tools number (after r c.action) (drop (i + 1) cs))) (sym is)
    ∙ no_slip slip (stale_feed tools number (after r c.action) (drop (i + 1) cs)) none
    )
