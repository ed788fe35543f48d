use Rattle.std.proofs.Common.{rules, ◌≡◌, ◌∙◌, ap, inl, subst}
use Rattle.std.specs.Str.Lines.{lines}
use Rattle.clap.specs.Walk.{texts}
use Rattle.clap.specs.Words.{subcommand_of}
use Rattle.ngc_command_line.specs.CommandLine.{ngc_app}
use Rattle.ngc_command_line.specs.Meant.{AreOptions, IsTaken}
use Rattle.ngc_page.proofs.commanding.command_into.Goals as goal

pub returns-in-Ok-read_options : goal.returns-in-Ok-read_options
returns-in-Ok-read_options c =
    let whole : c.in-Ok.text.now ≡ c.args.text.now = search rules in
    let same : texts c.as_slice.result.now ≡ lines c.args.text.now = ap texts c.as_slice.ensures.value ∙ (c.in-Ok-words_in.ensures ∙ ap lines whole) in
    let found = c.in-Ok-read_options.options in
    let meant : AreOptions (subcommand_of ngc_app (texts c.as_slice.result.now)) found = search rules in
    inl (record {
      utf8 = search rules;
      taken = subst IsTaken same c.in-Ok-read_options.ensures.taken;
      options = found;
      meant = subst (λ words. AreOptions (subcommand_of ngc_app words) found) same meant;
      told = c.answer_into.ensures;
    })
