use Rattle.format_parse.proofs.CommonFields.{all_put}
use Rattle.format_parse.proofs.common.put_common.Goals as goal

pub returns : goal.returns
returns c =
    all_put c.args.fields.now.items c.push.new.self.items c.push-2.new.self.items c.push-3.new.self.items c.push-4.new.self.items c.in_ok-number.field-0 c.in_ok-number-2.field-0 c.in_ok-number-3.field-0 c.in_ok-number-4.field-0
    c.in_ok-number.ensures c.in_ok-number-2.ensures c.in_ok-number-3.ensures c.in_ok-number-4.ensures c.in_ok-push.ensures.items c.in_ok-push-2.ensures.items c.in_ok-push-3.ensures.items c.in_ok-push-4.ensures.items
