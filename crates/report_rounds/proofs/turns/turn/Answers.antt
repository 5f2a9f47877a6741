use Rattle.std.proofs.Common.{◌≡◌, ◌-◌, ◌≤◌, ℕ, Bool, List, length, ap, subst, sym, ◌∙◌}
use Rattle.std.specs.List.{All}
use Rattle.std.proofs.lemmas.List.{length-map, with_items_is}
use Rattle.std.proofs.lemmas.List.Elements.{All-weaker}
use Rattle.trace_base.specs.declared.layout.Layout.{Layout}
use Rattle.trace_outside.specs.Causes.{raised}
use Rattle.tournament_tree.specs.declared.slot_key.SlotKey.{SlotKey}
use Rattle.time_merge.specs.Horizons.{high_of}
use Rattle.time_merge.specs.LaneRows.{HasLayout}
use Rattle.time_merge.specs.Nexts.{IsLeastAt}
use Rattle.time_merge.specs.Reads.{all_unread}
use Rattle.round_print.specs.Prints.{head_kept}
use Rattle.round_print.specs.Rounds.{KeepsMarks}
use Rattle.report_rounds.specs.Between.{IsBetween}
use Rattle.report_rounds.proofs.LeastPlace.{follows}
use Rattle.report_rounds.proofs.Reading.{unread_turned}
use Rattle.report_rounds.proofs.Settling.{need_no_look}
use Rattle.report_rounds.proofs.Turning.{IsFormed, formed_rising, now_all, now_less, now_parts, turned_told, failed_told}
use Rattle.report_rounds.proofs.turns.turn.Goals as goal

pub format_lanes-requires-clause-page : goal.format_lanes-requires-clause-page
format_lanes-requires-clause-page g c = λ lifetimes live.
    let layout = c.args.layout.now in
    let before : All (HasLayout layout) c.args.lanes.now =
    All-weaker (IsBetween (g.L.LineFormat.text c.args.form.now) layout) (HasLayout layout) (λ a s. s.layout_is) c.args.lanes.now c.requires.between.each in
    All-weaker (HasLayout layout) (λ a. a.layout.page ≡ layout.page) (λ a is. ap (λ (l : Layout). l.page) is) c.make_moved_ready.new.lanes
    (c.in-Ok.ensures.makes_ready.loads.layouts layout before)

pub print_round-requires-clause-rising : goal.print_round-requires-clause-rising
print_round-requires-clause-rising g c =
    let f : IsFormed (g.L.LineFormat.text c.args.form.now) (g.F.File.bytes c.args.file.now) c.args.lanes.now c.make_moved_ready.new.lanes c.format_lanes.new.lanes = record {
      long_loaded = c.make_moved_ready.auto.lanes;
      long_formed = c.format_lanes.ensures.count;
      load = c.in-Ok.ensures.makes_ready.each;
      ready = c.in-Ok.ensures.makes_ready.ready;
      format = c.format_lanes.ensures.each;
    } in
    formed_rising (g.L.LineFormat.text c.args.form.now) c.args.layout.now (g.F.File.bytes c.args.file.now) c.args.lanes.now c.make_moved_ready.new.lanes c.format_lanes.new.lanes f c.requires.between.rise c.requires.between.each

pub returns-in-Ok-print_round-clause-between : goal.returns-in-Ok-print_round-clause-between
returns-in-Ok-print_round-clause-between g c = λ goes.
    let f : IsFormed (g.L.LineFormat.text c.args.form.now) (g.F.File.bytes c.args.file.now) c.args.lanes.now c.make_moved_ready.new.lanes c.format_lanes.new.lanes = record {
      long_loaded = c.make_moved_ready.auto.lanes;
      long_formed = c.format_lanes.ensures.count;
      load = c.in-Ok.ensures.makes_ready.each;
      ready = c.in-Ok.ensures.makes_ready.ready;
      format = c.format_lanes.ensures.each;
    } in
    let now = c.print_round.new.lanes in
    let moved = c.print_round.new.moved in
    let done = c.in-Ok-print_round.ensures in
    let long = c.print_round.auto.lanes in
    let marks : length moved ≡ c.settle.new.work.moved.len = done.slots.marks ∙ c.as_mut_slice.ensures.len in
    let is = with_items_is c.settle.new.work.moved moved marks in
    record {
      each = now_all (g.L.LineFormat.text c.args.form.now) c.args.layout.now (g.F.File.bytes c.args.file.now) c.args.lanes.now c.make_moved_ready.new.lanes c.format_lanes.new.lanes f c.horizon-known.result now long done.round.printed.lanes c.requires.between.each;
      rise = done.round.printed.rising.cpus;
      slots = record {
        heads = ap length done.round.heads ∙ length-map now head_kept;
        highs = ap length c.settle.ensures.highs ∙ length-map c.format_lanes.new.lanes high_of ∙ sym long;
        marks = ap length is ∙ done.slots.marks ∙ ap length c.as_mut_slice.ensures.value ∙ c.settle.ensures.marks ∙ sym long;
      };
      unmoved = need_no_look (g.L.LineFormat.text c.args.form.now) c.args.layout.now c.settle.new.work.moved.items moved c.format_lanes.new.lanes now long done.round.unmoved
          (subst (λ (marks : List Bool). KeepsMarks marks moved) c.as_mut_slice.ensures.value done.round.marked)
          _ is done.round.heads c.settle.ensures.highs (λ i d lt. (c.settle.ensures.marked i d lt).0) c.format_lanes.ensures.settled;
      empty = done.empty;
    }

pub returns-in-Ok-print_round-clause-goes_on : goal.returns-in-Ok-print_round-clause-goes_on
returns-in-Ok-print_round-clause-goes_on g c = λ goes.
    let f : IsFormed (g.L.LineFormat.text c.args.form.now) (g.F.File.bytes c.args.file.now) c.args.lanes.now c.make_moved_ready.new.lanes c.format_lanes.new.lanes = record {
      long_loaded = c.make_moved_ready.auto.lanes;
      long_formed = c.format_lanes.ensures.count;
      load = c.in-Ok.ensures.makes_ready.each;
      ready = c.in-Ok.ensures.makes_ready.ready;
      format = c.format_lanes.ensures.each;
    } in
    let follow = follows c.format_lanes.new.lanes c.print_round.new.lanes c.horizon-known.result c.horizon-known.ensures c.least-least.result
    (subst (λ (keys : List SlotKey). IsLeastAt keys c.least-least.result) c.settle.ensures.highs c.least-least.ensures.least) c.outcome_at.result c.outcome_at.ensures in
    let all : ℕ = all_unread (g.F.File.size c.args.file.now) c.args.lanes.now in
    let still = unread_turned c.args.layout.now (g.F.File.size c.args.file.now) (g.L.LineFormat.text c.args.form.now) c.horizon-known.result c.make_moved_ready.new.lanes c.format_lanes.new.lanes c.print_round.new.lanes
    c.format_lanes.ensures.count c.print_round.auto.lanes c.format_lanes.ensures.each c.in-Ok-print_round.ensures.round.printed.lanes in
    record {
      parts = now_parts (g.L.LineFormat.text c.args.form.now) c.args.layout.now (g.F.File.bytes c.args.file.now) c.args.lanes.now c.make_moved_ready.new.lanes c.format_lanes.new.lanes f c.horizon-known.result c.print_round.new.lanes c.print_round.auto.lanes c.in-Ok-print_round.ensures.round.printed.lanes;
      less = now_less (g.L.LineFormat.text c.args.form.now) c.args.layout.now (g.F.File.bytes c.args.file.now) c.args.lanes.now c.make_moved_ready.new.lanes c.format_lanes.new.lanes f c.horizon-known.result c.print_round.new.lanes c.print_round.auto.lanes c.in-Ok-print_round.ensures.round.printed.lanes c.outcome_at.result c.horizon-known.ensures follow c.requires.between.rise c.requires.between.each (cc goes);
      reads = subst (λ (n : ℕ). g.F.File.reads c.make_moved_ready.new.file ≤ raised (g.F.File.reads c.args.file.now) (all - n)) (sym still) c.in-Ok.ensures.makes_ready.reads_done;
      unread = subst (λ (n : ℕ). n ≤ all) (sym still) c.in-Ok.ensures.makes_ready.loads.unread;
    }

pub returns-in-Ok-print_round-clause-turned : goal.returns-in-Ok-print_round-clause-turned
returns-in-Ok-print_round-clause-turned g c =
    let f : IsFormed (g.L.LineFormat.text c.args.form.now) (g.F.File.bytes c.args.file.now) c.args.lanes.now c.make_moved_ready.new.lanes c.format_lanes.new.lanes = record {
      long_loaded = c.make_moved_ready.auto.lanes;
      long_formed = c.format_lanes.ensures.count;
      load = c.in-Ok.ensures.makes_ready.each;
      ready = c.in-Ok.ensures.makes_ready.ready;
      format = c.format_lanes.ensures.each;
    } in
    let follow = follows c.format_lanes.new.lanes c.print_round.new.lanes c.horizon-known.result c.horizon-known.ensures c.least-least.result
    (subst (λ (keys : List SlotKey). IsLeastAt keys c.least-least.result) c.settle.ensures.highs c.least-least.ensures.least) c.outcome_at.result c.outcome_at.ensures in
    turned_told (g.L.LineFormat.text c.args.form.now) c.args.layout.now (g.F.File.bytes c.args.file.now) c.args.lanes.now c.make_moved_ready.new.lanes c.format_lanes.new.lanes f c.horizon-known.result c.print_round.new.lanes c.print_round.auto.lanes c.in-Ok-print_round.ensures.round.printed.lanes c.outcome_at.result c.horizon-known.ensures follow c.requires.between.rise c.requires.between.each c.args.last.now c.print_round.new.last _ _ c.in-Ok-print_round.ensures.written c.in-Ok-print_round.ensures.round.printed.last

pub returns-in-Err-clause-turned : goal.returns-in-Err-clause-turned
returns-in-Err-clause-turned g c =
    let f : IsFormed (g.L.LineFormat.text c.args.form.now) (g.F.File.bytes c.args.file.now) c.args.lanes.now c.make_moved_ready.new.lanes c.format_lanes.new.lanes = record {
      long_loaded = c.make_moved_ready.auto.lanes;
      long_formed = c.format_lanes.ensures.count;
      load = c.in-Ok.ensures.makes_ready.each;
      ready = c.in-Ok.ensures.makes_ready.ready;
      format = c.format_lanes.ensures.each;
    } in
    failed_told (g.L.LineFormat.text c.args.form.now) c.args.layout.now (g.F.File.bytes c.args.file.now) c.args.lanes.now c.make_moved_ready.new.lanes c.format_lanes.new.lanes f c.horizon-known.result c.horizon-known.ensures c.requires.between.rise c.requires.between.each c.args.last.now _ _ c.in-Err.ensures.written
