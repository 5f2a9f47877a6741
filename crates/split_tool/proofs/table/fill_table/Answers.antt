use Rattle.std.proofs.Common.{rules, arith, ◌≡◌, ◌<◌, ◌≤◌, ℕ, List, length, get_or, inl, inr, ap, subst, ◌∙◌}
use Rattle.std.proofs.lemmas.Bool.{cases_eq}
use Rattle.page_pool.specs.declared.lane.Lane.{Lane}
use Rattle.page_write.specs.Placed.{parts_from}
use Rattle.split_tool.specs.Counted.{IsSized, lists_of}
use Rattle.split_tool.proofs.Tables.{all_sized, counted_at, lanes_at, none_sized, same_lanes}
use Rattle.split_tool.proofs.table.fill_table.Goals as goal

pub loop-i-init : goal.loop-i-init
loop-i-init c = record {
  long = c.clear_sizes.ensures.long;
  zeros = λ xs cpu counted lt none. none_sized c.args.layout.now xs c.clear_sizes.new.table cpu none (λ p. c.clear_sizes.ensures.none cpu p lt);
  puts = λ xs k e j d counted lt. absurd (omega (arith, lt));
}

pub put_sizes-requires-clause-inside : goal.put_sizes-requires-clause-inside
put_sizes-requires-clause-inside c =
    let lt : c.loop-i.i < length c.args.lists.now = search rules in
    let here = lanes_at (λ (lane : Lane). lane.cpu < length c.args.table.now) c.args.lists.now c.loop-i.i c.index-lists-i.result c.lanes.result.now c.requires lt c.index-lists-i.is c.lanes.ensures.value in
    λ k d inside. let below = here k d inside in omega (arith, below, c.loop-i.invariant.long)

pub loop-i-preserved : goal.loop-i-preserved
loop-i-preserved c =
    let v = c.loop-i.invariant in
    let i = c.loop-i.i in
    let l = c.args.layout.now in
    let lists = c.args.lists.now in
    let x = c.index-lists-i.result in
    let y = c.index-lists-i-in-loop-i.result in
    let lt : i < length lists = search rules in
    record {
      long = c.put_sizes.ensures.long ∙ v.long;
      zeros = λ xs cpu counted inside none.
          c.put_sizes.ensures.keeps xs cpu (counted_at l lists xs i x y c.lanes.result.now c.tallies.result.now counted lt c.index-lists-i.is c.index-lists-i-in-loop-i.is c.lanes.ensures.value c.tallies.ensures.value) (v.zeros xs cpu counted inside none);
      puts = λ xs k e j d counted inside lt2.
          let here = counted_at l lists xs i x y c.lanes.result.now c.tallies.result.now counted lt c.index-lists-i.is c.index-lists-i-in-loop-i.is c.lanes.ensures.value c.tallies.ensures.value in
          elim (cases_eq k i) [
            | inl same ↦
                let all : c.lanes.result.now ≡ (get_or lists k e).all = same_lanes lists i k x e c.lanes.result.now same lt c.index-lists-i.is c.lanes.ensures.value in
                let long = ap length all in
                subst (λ (lanes : List Lane). IsSized l xs c.put_sizes.new.table (get_or lanes j d).cpu) all (c.put_sizes.ensures.puts xs j d here (omega (arith, lt2, long)))
            | inr other ↦ c.put_sizes.ensures.keeps xs (get_or (get_or lists k e).all j d).cpu here (v.puts xs k e j d counted (omega (arith, inside, other)) lt2)
          ];
    }

pub returns : goal.returns
returns c = λ xs place at counted.
    let v = c.loop-i.invariant in
    let l = c.args.layout.now in
    let over : length c.args.lists.now ≤ c.loop-i.i = search rules in
    c.place_parts.ensures l xs place at
    (all_sized l c.args.lists.now xs c.loop-i.table c.loop-i.i over counted (λ k e j d lt lt2 lt3. v.puts xs k e j d counted lt lt3) (λ cpu lt none. v.zeros xs cpu counted (omega (arith, lt, v.long)) none))
    ∙ ap (λ (n : ℕ). parts_from l place (lists_of n xs)) v.long
