use Rattle.std.proofs.Common.{rules, refl, arith, ◌≡◌, ◌<◌, ◌≤◌, length, ap, ◌∙◌}
use Rattle.std.proofs.lemmas.List.{get_or-set_other, length-set}
use Rattle.trace_base.specs.declared.part.Part.{Part}
use Rattle.split_tool.proofs.Tables.{all_filled, filled_more, filled_none}
use Rattle.split_tool.proofs.table.place_parts.Goals as goal

pub loop-cpu-init : goal.loop-cpu-init
loop-cpu-init c = record {
  long = refl;
  rest = λ j p le. refl;
  filled = λ layout xs whole at sized. filled_none layout whole c.args.at xs c.args.table.now at;
}

pub returns : goal.returns
returns c = λ layout xs whole at sized.
    let same : length c.loop-cpu.table ≡ length c.args.table.now = c.loop-cpu.invariant.long in
    let over : length c.args.table.now ≤ c.loop-cpu.cpu = search rules in
    let within : c.loop-cpu.cpu ≤ length c.args.table.now = search rules in
    all_filled layout whole c.loop-cpu.cpu xs c.loop-cpu.place c.loop-cpu.table c.args.table.now same over within (c.loop-cpu.invariant.filled layout xs whole at sized)

pub loop-cpu-preserved : goal.loop-cpu-preserved
loop-cpu-preserved c =
    let v = c.loop-cpu.invariant in
    let lt : c.loop-cpu.cpu < length c.loop-cpu.table = search rules in
    record {
      long = length-set c.loop-cpu.table c.loop-cpu.cpu _ ∙ v.long;
      rest = λ j p le. get_or-set_other c.loop-cpu.table c.loop-cpu.cpu j _ p (λ is. omega (arith, le, is)) ∙ v.rest j p (omega (arith, le));
      filled = λ layout xs whole at sized.
          filled_more layout whole c.loop-cpu.cpu xs c.loop-cpu.place _ _ c.loop-cpu.table lt refl
          (ap (λ (q : Part). q.size) (v.rest c.loop-cpu.cpu _ (omega arith)) ∙ sized c.loop-cpu.cpu (omega (arith, lt, v.long)) _)
          refl (v.filled layout xs whole at sized);
    }
