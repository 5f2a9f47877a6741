use Rattle.std.proofs.Common.{◌≡◌, ℕ, Option, List, ◌++◌, drop, take, sym, ap, ◌∙◌, append_assoc, rules, arith}
use Rattle.std.proofs.lemmas.Grind.{flat_map-append}
use Rattle.std.proofs.lemmas.List.{take-append-drop}
use Rattle.trace_base.specs.declared.part.Part.{Part}
use Rattle.std.specs.Io.KnownBytes.{append_known}
use Rattle.trace_base.specs.declared.order.Order.{Order}
use Rattle.trace_outside.specs.Writing.{Gained}
use Rattle.trace_outside.proofs.Gains.{gained_both, prefix_behind, on_err}
use Rattle.dat_options.specs.Table.{part_text, table_text}
use Rattle.dat_options.proofs.table.write_table.Goals as goal

-- the parts that are left are a block and those after it
parted : (done block behind rest all : List Part) (count : ℕ) → all ≡ done ++ rest → block ≡ take count rest → behind ≡ drop count rest → all ≡ done ++ (block ++ behind)
parted done block behind rest all count is front back = is ∙ ap (λ left. done ++ left) (sym (take-append-drop count rest) ∙ ap (λ head. head ++ drop count rest) (sym front) ∙ ap (λ tail. block ++ tail) (sym back))

gained_parts : (order : Order) (done block : List Part) (before mid now : Option (List ℕ)) → Gained before mid (table_text order done) → Gained mid now (table_text order block) → Gained before now (table_text order (done ++ block))
gained_parts order done block before mid now one two = gained_both before mid now (table_text order done) (table_text order block) one two ∙ ap (append_known before) (sym (flat_map-append (part_text order) done block))

pub loop-rest-preserved : goal.loop-rest-preserved
loop-rest-preserved g c =
    let order = c.args.order in
    let done = c.loop-rest.invariant.done in
    let block = c.split_at.result.0.now in
    let behind = c.split_at.result.1.now in
    record {
      done = done ++ block;
      parted = parted done block behind c.loop-rest.rest.now c.args.parts.now _ c.loop-rest.invariant.parted c.split_at.ensures.front c.split_at.ensures.back ∙ sym (append_assoc done block behind);
      gained = gained_parts order done block _ _ _ c.loop-rest.invariant.gained c.in_ok-write_block.ensures.gained;
      name = search rules;
      faults = c.in_ok-write_block.ensures.cause.kept ∙ c.loop-rest.invariant.faults;
    }

pub returns-in_err-write_block-clause-prefix : goal.returns-in_err-write_block-clause-prefix
returns-in_err-write_block-clause-prefix g c =
    let order = c.args.order in
    let done = c.loop-rest.invariant.done in
    let block = c.split_at.result.0.now in
    let behind = c.split_at.result.1.now in
    let whole : table_text order c.args.parts.now ≡ table_text order done ++ (table_text order block ++ table_text order behind) =
    ap (table_text order) (parted done block behind c.loop-rest.rest.now c.args.parts.now _ c.loop-rest.invariant.parted c.split_at.ensures.front c.split_at.ensures.back)
    ∙ flat_map-append (part_text order) done (block ++ behind) ∙ ap (λ tail. table_text order done ++ tail) (flat_map-append (part_text order) block behind) in
    on_err c.from_residual.result (prefix_behind _ _ _ (table_text order done) (table_text order block) (table_text order behind) (table_text order c.args.parts.now) whole c.loop-rest.invariant.gained c.in_err-write_block.ensures.prefix)
