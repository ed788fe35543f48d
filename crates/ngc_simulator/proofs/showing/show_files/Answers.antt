use Rattle.std.proofs.Common.{ℕ, List, Option, Some, Result, Ok, Err, subst, inl, inr}
use Rattle.std.specs.Prelude.{option_map}
use Rattle.std.specs.Io.KnownBytes.{Appends}
use Rattle.ngc_canonical.specs.Interpreter.{setup_of}
use Rattle.ngc_command_line.specs.declared.options.ShowOptions.{ShowOptions}
use Rattle.ngc_text.specs.Written.{AppendsPrefix}
use Rattle.ngc_machine_files.specs.Machine.{file_of}
use Rattle.ngc_machine_files.specs.declared.tools.Tool.{Tool}
use Rattle.ngc_simulator.specs.Answers.{ShowsOn, ShowResult}
use Rattle.ngc_file_figures.specs.Files.{FigureValues, stored, values_of}
use Rattle.ngc_machine_files.specs.Tools.{tools_of}
use Rattle.ngc_inputs.specs.Setups.{AreFiguresIn, FileBytes}
use Rattle.ngc_inputs.specs.Shops.{ShopResultIs}
use Rattle.ngc_simulator.specs.Showing.{Shows, shown_text}
use Rattle.ngc_inputs.specs.declared.fault.AnswerFault.{AnswerFault}
use Rattle.ngc_inputs.specs.declared.fault.AnswerFault.TheVariants as answers
use Rattle.ngc_inputs.specs.declared.setup.Shop.{Shop}
use Rattle.ngc_report.proofs.Converted.{turned}
use Rattle.ngc_inputs.proofs.SetupLaws.{on_setup}
use Rattle.ngc_simulator.proofs.showing.show_files.Goals as goal

shown : (bytes : FileBytes) (options : ShowOptions) (shop : Shop) (old new : Option (List ℕ)) (outcome : Result (Unit {0}) AnswerFault)
    → AreFiguresIn bytes (Some options.machine.now) (option_map (λ n. n.now) options.tools) (stored shop.figures)
    → ShopResultIs bytes (Some options.machine.now) (option_map (λ n. n.now) options.tools) (Ok shop)
    → Shows options.warnings (stored shop.figures) (setup_of shop.machine shop.tools) old new outcome → ShowsOn bytes options old new outcome
shown bytes options shop old new outcome are said shows = (
  stored shop.figures,
  are,
  on_setup bytes (Some options.machine.now) (option_map (λ n. n.now) options.tools) (setup_of shop.machine shop.tools)
      (λ setup. Shows options.warnings (stored shop.figures) setup old new outcome) said.0 said.1 shows,
)

pub returns-in_err-shop-clause-comes : goal.returns-in_err-shop-clause-comes
returns-in_err-shop-clause-comes g c =
    turned _ c.in_err-shop.field-0.0
    (ShowResult (g.F.Files.bytes c.args.files.now) c.args.options.now (g.W.Sink.written c.args.output.now) (g.W.Sink.written c.read_shop_reporting.new.output))
    c.from_residual.ensures.1 (inl c.in_err-shop.ensures.said)

pub returns-clause-comes : goal.returns-clause-comes
returns-clause-comes g c =
    let old = g.W.Sink.written c.read_shop_reporting.new.output in
    let new = g.W.Sink.written c.write_shown.new.output in
    subst (λ (o : Option (List ℕ)). ShowsOn (g.F.Files.bytes c.args.files.now) c.args.options.now o new (Ok tt)) c.in_ok-shop.ensures.said.1
    (shown (g.F.Files.bytes c.args.files.now) c.args.options.now c.in_ok-shop.shop old new (Ok tt) c.in_ok-shop.ensures.figures c.in_ok-shop.ensures.said.0
    (subst (λ (v : FigureValues). Appends old new (shown_text c.args.options.now.warnings (file_of c.in_ok-shop.shop.machine) v (tools_of c.in_ok-shop.shop.tools))) c.borrowed-figures.ensures
    (subst (λ (ts : List Tool). Appends old new (shown_text c.args.options.now.warnings (file_of c.in_ok-shop.shop.machine) (values_of c.borrowed-figures.result) ts)) c.tools-tools.ensures.tools c.in_ok-write_shown.ensures.ok)))

pub returns-in_err-write_shown-clause-comes : goal.returns-in_err-write_shown-clause-comes
returns-in_err-write_shown-clause-comes g c =
    let old = g.W.Sink.written c.read_shop_reporting.new.output in
    let new = g.W.Sink.written c.write_shown.new.output in
    let fault = answers.Write c.in_err-write_shown.field-0.0 in
    turned _ fault (ShowResult (g.F.Files.bytes c.args.files.now) c.args.options.now (g.W.Sink.written c.args.output.now)
    (g.W.Sink.written c.write_shown.new.output)) c.from_residual-in_err-write_shown.ensures.1
    (inr (
      tt,
      subst (λ (o : Option (List ℕ)). ShowsOn (g.F.Files.bytes c.args.files.now) c.args.options.now o new (Err fault)) c.in_ok-shop.ensures.said.1
          (shown (g.F.Files.bytes c.args.files.now) c.args.options.now c.in_ok-shop.shop old new (Err fault) c.in_ok-shop.ensures.figures c.in_ok-shop.ensures.said.0
          (subst (λ (v : FigureValues). AppendsPrefix old new (shown_text c.args.options.now.warnings (file_of c.in_ok-shop.shop.machine) v (tools_of c.in_ok-shop.shop.tools))) c.borrowed-figures.ensures
          (subst (λ (ts : List Tool). AppendsPrefix old new (shown_text c.args.options.now.warnings (file_of c.in_ok-shop.shop.machine) (values_of c.borrowed-figures.result) ts)) c.tools-tools.ensures.tools
          c.in_err-write_shown.ensures.fault))),
    ))
