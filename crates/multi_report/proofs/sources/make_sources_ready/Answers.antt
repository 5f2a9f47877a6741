use Rattle.std.proofs.Common.{rules, refl, arith, ◌≡◌, ◌<◌, ◌+◌, List, length, map, set, ap, sym, subst, ◌∙◌}
use Rattle.std.proofs.lemmas.List.{length-map, length-set}
use Rattle.tournament_tree.specs.declared.slot_key.SlotKey.{SlotKey}
use Rattle.multi_report.specs.Sources.{seen}
use Rattle.multi_report.proofs.Loops.{AreBegun, all_keys, all_own, all_readied, begun_set, rose_set, still_set, tied_self, tied_set}
use Rattle.multi_report.proofs.sources.make_sources_ready.Goals as goal

pub loop-j-init : goal.loop-j-init
loop-j-init g c = record {
  tied = tied_self (map (seen g.F.File g.L.LineFormat.text) c.args.sources.now);
  still = λ i d le. refl;
  begun = λ i d lt. absurd (omega (arith, lt));
  slots = refl;
}

pub loop-j-preserved : goal.loop-j-preserved
loop-j-preserved g c =
    let f = seen g.F.File g.L.LineFormat.text in
    let lt : c.loop-j.j < length c.loop-j.sources = search rules in
    let long : length c.loop-j.sources ≡ length c.args.sources.now = search rules in
    let new = c.make_source_ready.new.source in
    let more = c.loop-j.invariant in
    let room : c.loop-j.j < length c.loop-j.nexts = omega (arith, lt, long, more.slots, c.requires) in
    record {
      tied = tied_set f c.args.sources.now c.loop-j.sources c.loop-j.j c.index-sources-j.result new long lt more.still c.make_source_ready.ensures.keeps more.tied;
      still = still_set f c.args.sources.now c.loop-j.sources c.loop-j.j c.index-sources-j.result new long lt more.still;
      begun = subst (λ (ks : List SlotKey). AreBegun (map f c.args.sources.now) (map f (set c.loop-j.sources c.loop-j.j new)) ks (c.loop-j.j + 1)) (sym c.set.ensures)
          (begun_set f c.args.sources.now c.loop-j.sources c.loop-j.j c.index-sources-j.result new long lt c.loop-j.nexts c.in-Ok.key room more.still c.in-Ok.ensures.readied c.in-Ok.ensures.key c.in-Ok.ensures.layouts more.begun);
      slots = ap length c.set.ensures ∙ length-set c.loop-j.nexts c.loop-j.j c.in-Ok.key ∙ more.slots;
    }

pub returns-in-Err-clause-keeps : goal.returns-in-Err-clause-keeps
returns-in-Err-clause-keeps g c =
    let lt : c.loop-j.j < length c.loop-j.sources = search rules in
    let long : length c.loop-j.sources ≡ length c.args.sources.now = search rules in
    tied_set (seen g.F.File g.L.LineFormat.text) c.args.sources.now c.loop-j.sources c.loop-j.j c.index-sources-j.result c.make_source_ready.new.source long lt c.loop-j.invariant.still c.make_source_ready.ensures.keeps c.loop-j.invariant.tied

pub returns-in-Err-clause-read : goal.returns-in-Err-clause-read
returns-in-Err-clause-read g c =
    let lt : c.loop-j.j < length c.loop-j.sources = search rules in
    let long : length c.loop-j.sources ≡ length c.args.sources.now = search rules in
    rose_set (seen g.F.File g.L.LineFormat.text) c.args.sources.now c.loop-j.sources c.loop-j.j c.index-sources-j.result c.make_source_ready.new.source long lt c.loop-j.invariant.still c.in-Err.ensures.cause.failed

pub returns-clause-readied : goal.returns-clause-readied
returns-clause-readied g c =
    let f = seen g.F.File g.L.LineFormat.text in
    let long : length c.loop-j.sources ≡ length c.args.sources.now = search rules in
    let same : length (map f c.loop-j.sources) ≡ length (map f c.args.sources.now) = length-map c.loop-j.sources f ∙ long ∙ sym (length-map c.args.sources.now f) in
    all_readied (map f c.args.sources.now) (map f c.loop-j.sources) c.loop-j.nexts c.loop-j.j same (omega (arith, length-map c.args.sources.now f, long, c.loop-j-test.false)) c.loop-j.invariant.begun

pub returns-clause-keys : goal.returns-clause-keys
returns-clause-keys g c =
    let f = seen g.F.File g.L.LineFormat.text in
    let long : length c.loop-j.sources ≡ length c.args.sources.now = search rules in
    let same : length (map f c.loop-j.sources) ≡ length (map f c.args.sources.now) = length-map c.loop-j.sources f ∙ long ∙ sym (length-map c.args.sources.now f) in
    all_keys (map f c.args.sources.now) (map f c.loop-j.sources) c.loop-j.nexts c.loop-j.j same (omega (arith, length-map c.args.sources.now f, long, c.loop-j-test.false)) c.loop-j.invariant.begun
    (c.loop-j.invariant.slots ∙ c.requires ∙ sym (length-map c.args.sources.now f))

pub returns-clause-layouts : goal.returns-clause-layouts
returns-clause-layouts g c =
    let f = seen g.F.File g.L.LineFormat.text in
    let long : length c.loop-j.sources ≡ length c.args.sources.now = search rules in
    let same : length (map f c.loop-j.sources) ≡ length (map f c.args.sources.now) = length-map c.loop-j.sources f ∙ long ∙ sym (length-map c.args.sources.now f) in
    all_own (map f c.args.sources.now) (map f c.loop-j.sources) c.loop-j.nexts c.loop-j.j same (omega (arith, length-map c.args.sources.now f, long, c.loop-j-test.false)) c.loop-j.invariant.begun
