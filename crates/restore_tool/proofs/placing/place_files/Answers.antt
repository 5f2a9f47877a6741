use Rattle.std.proofs.Common.{rules, arith, ◌≡◌, ◌<◌, ◌≤◌, ◌∙◌, ◌+◌, ◌%◌, ◌^◌, ℕ, refl, ap, sym, subst, IfSome, length, get_or, map}
use Rattle.std.proofs.lemmas.List.{get_or-map, length-map, take_more_set}
use Rattle.trace_outside.specs.Seen.{file_seen}
use Rattle.restore_tool.proofs.FilesBehind.{placed_all, placed_more, placed_none}
use Rattle.restore_tool.proofs.placing.place_files.Goals as goal

pub loop-i-init : goal.loop-i-init
loop-i-init g c = placed_none c.args.page c.args.place (map (file_seen g.F.File) c.args.files.now) c.args.parts.now

pub loop-i-preserved : goal.loop-i-preserved
loop-i-preserved g c =
    let f = file_seen g.F.File in
    let lt : c.loop-i.i < length c.args.files.now = search rules in
    let room : c.loop-i.i < length c.loop-i.parts = search rules in
    let file = c.index-files-i.result in
    let from : c.from-missing.result ≡ c.gap.result = c.from-missing.ensures in
    let is_file : f file ≡ get_or (map f c.args.files.now) c.loop-i.i (f file) = ap f c.index-files-i.is ∙ sym (get_or-map f c.args.files.now c.loop-i.i file (f file) lt) in
    placed_more c.args.page c.args.place (map f c.args.files.now) c.loop-i.i c.loop-i.place c.gap.result c.len-size.result _ (f file) _ c.loop-i.parts _
    (omega (arith, lt, length-map c.args.files.now f)) c.gap.ensures.gap is_file (subst (λ (n : ℕ). IfSome (g.F.File.bytes file) (λ bytes. length bytes ≡ n)) (sym c.len-size.ensures) (g.met.F.File.size_is file))
    (ap (λ (n : ℕ). (c.loop-i.place + n) % 2 ^ 64) from) refl
    (ap (λ (n : ℕ). ((c.loop-i.place + n) % 2 ^ 64 + c.len-size.result) % 2 ^ 64) from)
    (take_more_set c.loop-i.parts c.loop-i.i _ room)
    c.loop-i.invariant

pub returns : goal.returns
returns g c =
    let f = file_seen g.F.File in
    let over : length c.args.files.now ≤ c.loop-i.i = search rules in
    let each : length c.loop-i.parts ≡ length c.args.files.now = search rules in
    placed_all c.args.page c.args.place (map f c.args.files.now) c.loop-i.i c.loop-i.place c.loop-i.parts (omega (arith, over, length-map c.args.files.now f)) (omega (arith, each, length-map c.args.files.now f)) c.loop-i.invariant
