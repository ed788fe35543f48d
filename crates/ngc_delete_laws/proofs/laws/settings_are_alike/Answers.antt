use Rattle.ngc_delete_laws.proofs.Settings.{alike_without_slash, follows_setting}
use Rattle.ngc_delete_laws.proofs.laws.settings_are_alike.Goals as goal

pub returns-clause-without_slash : goal.returns-clause-without_slash
returns-clause-without_slash c = alike_without_slash

pub returns-clause-setting : goal.returns-clause-setting
returns-clause-setting c = follows_setting
