use Rattle.std.proofs.Common.{[], Some, inl}
use Rattle.std.specs.Prelude.{option_map}
use Rattle.ngc_inputs.specs.Unread.{OfSource, SourceFails, shop_inputs}
use Rattle.ngc_inputs.specs.declared.fault.AnswerFault.TheVariants as answers
use Rattle.ngc_inputs.proofs.UnreadLaws.{placed_read, told_behind, unread_told}
use Rattle.ngc_simulator.specs.Answers.{dialect_inputs}
use Rattle.ngc_simulator.proofs.dialects.read_sent.Goals as goal

pub returns-in_err-text-clause-unread : goal.returns-in_err-text-clause-unread
returns-in_err-text-clause-unread g c =
    unread_told (SourceFails g.F.R.Source.remaining g.F.R.Source.failures) (g.F.Files.bytes c.args.files.now)
    (dialect_inputs (option_map (λ n. n.now) c.args.names.now.machine) (option_map (λ n. n.now) c.args.names.now.tools)
    (option_map (λ n. n.now) c.args.names.now.program)) _ _ _ (answers.Input c.in_err-text.field-0.0) c.from_residual-in_err-text.ensures.1
    (told_behind (SourceFails g.F.R.Source.remaining g.F.R.Source.failures) (g.F.Files.bytes c.args.files.now) (g.F.Files.bytes c.read_placed.new.files)
    (shop_inputs (option_map (λ n. n.now) c.args.names.now.machine) (option_map (λ n. n.now) c.args.names.now.tools)) OfSource
    (option_map (λ n. n.now) c.args.names.now.program) [] _ _ _ (Some c.in_err-text.field-0.0)
    (placed_read (g.F.Files.bytes c.args.files.now) (option_map (λ n. n.now) c.args.names.now.machine)
    (option_map (λ n. n.now) c.args.names.now.tools) c.args.names.now.changes c.in_ok-shop.shop c.in_ok-shop.ensures.said)
    (c.read_placed.ensures.keeps (option_map (λ n. n.now) c.args.names.now.program)) c.in_ok-shop.ensures.unread (inl c.in_err-text.ensures.unread))
