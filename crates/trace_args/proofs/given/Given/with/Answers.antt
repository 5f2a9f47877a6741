use Rattle.std.proofs.Common.{map}
use Rattle.trace_args.specs.Views.{setting_view}
use Rattle.trace_args.proofs.Kept.{kept_more}
use Rattle.trace_args.proofs.given.Given.with.Goals as goal

pub invariant_of-result : goal.invariant_of-result
invariant_of-result c =
    let kept = c.args.self.kept.items in
    let settings = c.args.self.settings.items in
    record {
      asked = kept_more (map setting_view kept) (map setting_view settings) (map setting_view c.in_ok-kept.kept.items) (map setting_view c.in_ok-settings.settings.items) (setting_view c.args.setting)
          c.is_kept-is_kept.result c.args.self.asked c.is_kept-is_kept.ensures c.in_ok-kept.ensures c.in_ok-settings.ensures;
    }
