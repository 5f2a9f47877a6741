use Rattle.trace_args.specs.Setting.{Help}
use Rattle.trace_args.proofs.SettingsLaws.{last_first}
use Rattle.trace_args.proofs.settings.Settings.help.Goals as goal

pub returns : goal.returns
returns c =
    last_first c.args.self.now.tool _ c.len-self.result _ Help c.args.self.now.words.now _ c.len-self.ensures
