use Rattle.std.proofs.Common.{◌≡◌, ◌∙◌, ◌+◌, ◌≤◌, length, take, drop, ap, arith}
use Rattle.trace_base.specs.Number.{num}
use Rattle.subpage.proofs.Payloads.{claimed}
use Rattle.subpage.proofs.reading.claimed_event.Goals as goal

pub returns : goal.returns
returns c =
    let order = c.args.order in
    let bytes = c.args.bytes.now in
    let from = c.args.from in
    let kind = c.type_len_of-kind.result in
    let word : c.read_u32-word.result ≡ num order (take 4 (drop from bytes)) = c.read_u32-word.ensures ∙ ap (λ b. num order (take 4 b)) c.split_at.ensures.back in
    let long : from + 4 ≤ length bytes = grind arith in
    let some : 1 ≤ kind = grind arith in
    let few : kind ≤ 28 = grind arith in
    claimed order c.args.time bytes from c.read_u32-word.result kind c.time_delta_of.result c.in-Some.after word
    c.type_len_of-kind.ensures.value c.time_delta_of.ensures.value long some few c.in-Some.ensures
