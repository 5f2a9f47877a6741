use Rattle.std.proofs.Common.{rules, arith, ◌-◌}
use Rattle.field_names.proofs.Firsts.{keeps_none, keeps_one}
use Rattle.field_names.proofs.names.first_places.Goals as goal

pub loop-place-init : goal.loop-place-init
loop-place-init c = (omega arith, keeps_none c.args.fields.now c.new-places.result c.new-places.ensures.empty)

pub loop-place-preserved : goal.loop-place-preserved
loop-place-preserved c = (
  omega (arith, c.loop-place.invariant.0),
  keeps_one c.args.fields.now c.loop-place.place (c.loop-place.place - 1) c.index-fields-place.result c.in_ok-name.name.items c.loop-place.places c.insert.new.self (omega (arith, c.loop-place-test.true)) c.loop-place.invariant.0
      (search rules) c.loop-place.invariant.1 c.in_ok-insert.ensures.updates,
)
