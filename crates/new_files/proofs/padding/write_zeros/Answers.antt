use Rattle.std.proofs.Common.{◌≡◌, ◌+◌, ◌-◌, ◌*◌, ◌/◌, ◌%◌, ◌<◌, ◌++◌, ℕ, List, [], sym, ap, subst, ◌∙◌, arith}
use Rattle.std.specs.Io.KnownBytes.{append_known}
use Rattle.std.proofs.lemmas.List.{take-replicate, replicate-append-replicate}
use Rattle.trace_outside.specs.Writing.{Gained, GainedPrefix}
use Rattle.trace_outside.proofs.Gains.{gained_both, gained_nothing, on_err, prefix_behind}
use Rattle.new_files.specs.Padding.{zeros}
use Rattle.new_files.proofs.padding.write_zeros.Goals as goal

pub loop-init : goal.loop-init
loop-init g c =
    let rest = c.args.count % 4096 in
    let text = take-replicate {X = ℕ} rest 4096 0 (omega arith) ∙ ap zeros (omega arith) in
    record {
      gained = subst (Gained (g.O.Sink.written c.args.out.now) (g.O.Sink.written c.write_all.new.out)) text c.in_ok-write_all.ensures.gained;
      name = c.write_all.ensures.name;
      faults = c.in_ok-write_all.ensures.cause.kept;
    }

pub loop-preserved : goal.loop-preserved
loop-preserved g c =
    let done = c.args.count % 4096 + c.loop.counter * 4096 in
    let more : zeros (done + 4096) ≡ zeros (c.args.count % 4096 + (c.loop.counter + 1) * 4096) = ap zeros (omega arith) in
    record {
      gained = gained_both (g.O.Sink.written c.args.out.now) (g.O.Sink.written c.loop.out) (g.O.Sink.written c.write_all-in-loop.new.out) (zeros done) (zeros 4096) c.loop.invariant.gained c.in_ok-write_all-2.ensures.gained
          ∙ ap (append_known (g.O.Sink.written c.args.out.now)) (replicate-append-replicate done 4096 0 ∙ more);
      name = c.write_all-in-loop.ensures.name ∙ c.loop.invariant.name;
      faults = c.in_ok-write_all-2.ensures.cause.kept ∙ c.loop.invariant.faults;
    }

pub returns-in_err-write_all-clause-prefix : goal.returns-in_err-write_all-clause-prefix
returns-in_err-write_all-clause-prefix g c =
    let count = c.args.count in
    let rest = count % 4096 in
    let old = g.O.Sink.written c.args.out.now in
    let new = g.O.Sink.written c.write_all.new.out in
    let text = take-replicate {X = ℕ} rest 4096 0 (omega arith) ∙ ap zeros (omega arith) in
    let part = subst (GainedPrefix old new) text c.in_err-write_all.ensures.prefix in
    let whole : zeros count ≡ zeros rest ++ zeros (count - rest) = sym (replicate-append-replicate rest (count - rest) 0 ∙ ap zeros (omega arith)) in
    on_err _ (prefix_behind old old new [] (zeros rest) (zeros (count - rest)) (zeros count) whole (gained_nothing old) part)

pub returns-in_err-write_all-2-clause-prefix : goal.returns-in_err-write_all-2-clause-prefix
returns-in_err-write_all-2-clause-prefix g c =
    let count = c.args.count in
    let done = count % 4096 + c.loop.counter * 4096 in
    let left = count - (done + 4096) in
    let old = g.O.Sink.written c.args.out.now in
    let mid = g.O.Sink.written c.loop.out in
    let new = g.O.Sink.written c.write_all-in-loop.new.out in
    let before : c.loop.counter < count / 4096 = omega arith in
    let sizes : done + (4096 + left) ≡ count = omega (arith, before) in
    let whole : zeros count ≡ zeros done ++ (zeros 4096 ++ zeros left) =
    sym (ap (λ (t : List ℕ). zeros done ++ t) (replicate-append-replicate 4096 left 0) ∙ replicate-append-replicate done (4096 + left) 0 ∙ ap zeros sizes) in
    on_err _ (prefix_behind old mid new (zeros done) (zeros 4096) (zeros left) (zeros count) whole c.loop.invariant.gained c.in_err-write_all-2.ensures.prefix)
