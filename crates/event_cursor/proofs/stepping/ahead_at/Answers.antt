use Rattle.std.proofs.Common.{ap, ◌∙◌}
use Rattle.event_cursor.specs.Keys.{key_behind}
use Rattle.event_cursor.proofs.stepping.ahead_at.Goals as goal

pub returns : goal.returns
returns c = record {
  items = c.in-Some.ensures.0;
  key = c.key_behind.ensures ∙ ap (key_behind c.args.high) c.item_between-item.ensures;
  behind = c.in-Some.ensures.1.0;
  inside = c.in-Some.ensures.1.1;
}
