use Rattle.std.proofs.Common.{◌≡◌, ℕ, List, Ok, ap, subst}
use Rattle.ngc_canonical.specs.Interpreter.{setup_of}
use Rattle.ngc_dialect_execution.specs.Program.{meaning_in}
use Rattle.ngc_listing.specs.Listing.{listing}
use Rattle.ngc_simulator.proofs.dialect_lister.list_sent.Goals as goal

pub returns-in-Ok-clause-lists : goal.returns-in-Ok-clause-lists
returns-in-Ok-clause-lists g c = (
  listing c.args.sent.now.shop.machine.step c.as_slice-in-Ok.result.now,
  record {
    commands = c.in-Ok.commands.items;
    means =
        subst (λ (text : List ℕ). meaning_in c.args.sent.now.dialect (setup_of c.args.sent.now.shop.machine c.args.sent.now.shop.tools) c.args.block_delete text
        ≡ Ok c.in-Ok.commands.items) c.as_slice.ensures.value c.in-Ok.ensures.commands;
    lists = ap (listing c.args.sent.now.shop.machine.step) c.as_slice-in-Ok.ensures.value;
  },
  c.in-Err.ensures.fault,
)
