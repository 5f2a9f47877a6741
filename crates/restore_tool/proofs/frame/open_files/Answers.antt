use Rattle.std.proofs.Common.{rules, ◌≡◌, ◌+◌, ◌<◌, ◌≤◌, ℕ, [], ◌∷◌, length, map, take, sym, subst, ap, ◌∙◌, arith}
use Rattle.std.proofs.lemmas.List.{length-append, length-map}
use Rattle.trace_outside.specs.Seen.{file_seen}
use Rattle.new_files.specs.Requested.{AskedAll}
use Rattle.restore_tool.proofs.Asking.{asked_next, asked_over, take_mapped}
use Rattle.restore_tool.proofs.Failures.{missed_at, on_err, unmissed_more}
use Rattle.trace_outside.proofs.OpenFiles.{name_told, opens_more, seen_more, unused_more}
use Rattle.restore_tool.proofs.frame.open_files.Goals as goal

pub loop-name-preserved : goal.loop-name-preserved
loop-name-preserved g c =
    let f = file_seen g.F.In.File in
    let one = c.in_ok-open_next.ensures.held in
    let old = c.loop-name.files.items in
    let now = c.open_next.new.files.items in
    let long : length now ≡ length old + 1 = omega (arith, ap length one.1.0, length-append old (one.0 ∷ [])) in
    let before = c.loop-name.invariant in
    let lt : c.loop-name.name-index < length c.args.names.now = search rules in
    record {
      count = omega (arith, long, before.count);
      room = c.in_ok-open_next.ensures.room ∙ before.room;
      told = seen_more f (g.F.Folder.files c.args.folder.now) _ old now one.0 one.1.0 before.told (λ d. name_told (λ name. name.now) c.args.names.now (g.F.Folder.files c.args.folder.now) (g.F.Folder.files c.loop-name.folder) c.loop-name.name-index (length old) _ d (g.F.In.File.bytes one.0) before.files before.count lt one.1.1.0);
      unused = unused_more f old now one.0 one.1.0 (record { faults = one.1.1.1.0; reads = one.1.1.1.1 }) before.unused;
      counts = opens_more (g.F.Folder.counts c.args.folder.now) (g.F.Folder.counts c.loop-name.folder) (g.F.Folder.counts c.open_next.new.folder) _ _ _ before.counts c.in_ok-open_next.ensures.counts (omega (arith, long));
      unmissed = unmissed_more (g.F.Folder.files c.args.folder.now) (g.F.Folder.files c.loop-name.folder) _ (g.F.In.File.bytes one.0) _ _ _ before.files one.1.1.0 c.in_ok-open_next.ensures.misses before.unmissed;
      files = c.in_ok-open_next.ensures.files ∙ before.files;
      requested = asked_next (map (λ name. name.now) c.args.names.now) _ _ _ c.loop-name.name-index _ (take_mapped (λ name. name.now) c.args.names.now c.loop-name.name-index _ lt) before.requested c.open_next.ensures.requested;
    }

pub returns-in_err-open_next-clause-missed : goal.returns-in_err-open_next-clause-missed
returns-in_err-open_next-clause-missed g c =
    let before = c.loop-name.invariant in
    let lt : c.loop-name.name-index < length c.args.names.now = search rules in
    let count : length c.open_next.new.files.items ≡ c.loop-name.name-index = ap (λ files. length files.items) c.in_err-open_next.ensures.kept ∙ before.count in
    on_err _ _ (missed_at (λ name. name.now) (g.F.Folder.files c.args.folder.now) (g.F.Folder.files c.loop-name.folder) c.args.names.now c.loop-name.name-index _ _ _ _ _ lt before.files count c.open_next.ensures.misses before.unmissed)

pub returns-clause-requested : goal.returns-clause-requested
returns-clause-requested g c =
    let before = c.loop-name.invariant in
    let over : length c.args.names.now ≤ c.loop-name.name-index = search rules in
    let long = length-map c.args.names.now (λ name. name.now) in
    asked_over (map (λ name. name.now) c.args.names.now) _ _ c.loop-name.name-index _ (omega (arith, over, long)) (omega (arith, over, long, before.count)) before.requested

pub returns-in_err-open_next-clause-requested : goal.returns-in_err-open_next-clause-requested
returns-in_err-open_next-clause-requested g c =
    let before = c.loop-name.invariant in
    let names = map (λ name. name.now) c.args.names.now in
    let lt : c.loop-name.name-index < length c.args.names.now = search rules in
    let count : length c.open_next.new.files.items ≡ c.loop-name.name-index = ap (λ files. length files.items) c.in_err-open_next.ensures.kept ∙ before.count in
    subst (λ (n : ℕ). AskedAll (take (n + 1) names) (g.F.Folder.requested c.args.folder.now) (g.F.Folder.requested c.open_next.new.folder)) (sym count)
    (asked_next names _ _ _ c.loop-name.name-index _ (take_mapped (λ name. name.now) c.args.names.now c.loop-name.name-index _ lt) before.requested c.open_next.ensures.requested)
