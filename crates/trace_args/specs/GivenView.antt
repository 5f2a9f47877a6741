-- The settings that were given, as plain data.
use Rattle.std.specs.Prelude.{List, map}
use Rattle.trace_args.specs.Setting.{Setting}
use Rattle.trace_args.specs.Views.{setting_view}
use Rattle.trace_args.specs.declared.given.Given.{Given}

abbrev pub given_view : Given → List Setting
given_view given = map setting_view given.settings.items
