use Rattle.std.proofs.Common.{◌≡◌, ◌+◌, ◌^◌, ◌<◌, sym, ap, ◌∙◌, ◌-◌, ◌*◌, ◌≤◌, length, arith}
use Rattle.subpage.proofs.Payloads.{short_told}
use Rattle.subpage.proofs.Runs.{plain_front, plain_at, no_time}
use Rattle.subpage.specs.Element.{type_len, time_delta}
use Rattle.subpage.proofs.reading.short_event.Goals as goal
use Rattle.subpage.proofs.reading.short_event.Goals.{then-kind-eq0-via-then-kind-eq0, then-kind-eq0-via-else-kind-eq0+then-kind-gt28}

pub returns-clause-told : goal.returns-clause-told
returns-clause-told c =
    let kind = c.type_len_of-kind.result in
    let long : 4 ≤ length c.args.bytes.now = grind arith in
    let some : 1 ≤ kind = grind arith in
    let few : kind ≤ 28 = grind arith in
    let room : 4 * kind ≤ length c.args.bytes.now - 4 = grind arith in
    short_told c.args.order c.args.time c.args.bytes.now c.read_u32-word.result kind c.time_delta_of.result c.in-Some.after c.read_u32-word.ensures
    c.type_len_of-kind.ensures.value c.time_delta_of.ensures.value long some few room c.in-Some.ensures

pub returns-clause-plain : goal.returns-clause-plain
returns-clause-plain c =
    let kind = c.type_len_of-kind.result in
    let long : 4 ≤ length c.args.bytes.now = grind arith in
    let some : 1 ≤ kind = grind arith in
    let few : kind ≤ 28 = grind arith in
    let room : 4 * kind ≤ length c.args.bytes.now - 4 = grind arith in
    plain_front c.args.order c.args.time c.args.bytes.now c.read_u32-word.result kind c.time_delta_of.result c.in-Some.after c.read_u32-word.ensures
    c.type_len_of-kind.ensures.value c.time_delta_of.ensures.value long some few room c.in-Some.ensures

pub returns-then-bytes-lt4-clause-plain : goal.returns-then-bytes-lt4-clause-plain
returns-then-bytes-lt4-clause-plain c = λ delta payload front back whole is.
    let p = plain_at c.args.order delta payload front back c.args.bytes.now whole is in
    absurd (omega (arith, p.long, p.fits))

pub returns-then-kind-eq0-clause-plain : goal.returns-then-kind-eq0-clause-plain
returns-then-kind-eq0-clause-plain c = λ delta payload front back whole is.
    let p = plain_at c.args.order delta payload front back c.args.bytes.now whole is in
    let same : p.kind ≡ c.type_len_of-kind.result = sym p.kind_is ∙ ap (type_len c.args.order) (sym c.read_u32-word.ensures) ∙ sym c.type_len_of-kind.ensures.value in
    elim c.then-kind-eq0.branch [
      | then-kind-eq0-via-then-kind-eq0 w ↦ absurd (omega (arith, same, p.least, w.if-kind-eq0.true))
      | then-kind-eq0-via-else-kind-eq0+then-kind-gt28 w ↦ absurd (omega (arith, same, p.most, w.if-kind-gt28.true))
    ]

pub returns-then-bytes-len-clause-plain : goal.returns-then-bytes-len-clause-plain
returns-then-bytes-len-clause-plain c = λ delta payload front back whole is.
    let p = plain_at c.args.order delta payload front back c.args.bytes.now whole is in
    let same : p.kind ≡ c.type_len_of-kind.result = sym p.kind_is ∙ ap (type_len c.args.order) (sym c.read_u32-word.ensures) ∙ sym c.type_len_of-kind.ensures.value in
    let far : length c.args.bytes.now < 4 + 4 * c.type_len_of-kind.result = c.if-bytes-len.true in
    absurd (omega (arith, same, p.long, p.fits, far))

pub returns-in_default-clause-plain : goal.returns-in_default-clause-plain
returns-in_default-clause-plain c = λ delta payload front back whole is.
    let p = plain_at c.args.order delta payload front back c.args.bytes.now whole is in
    let same : delta ≡ c.time_delta_of.result = sym p.delta_is ∙ ap (time_delta c.args.order) (sym c.read_u32-word.ensures) ∙ sym c.time_delta_of.ensures.value in
    let late : 2 ^ 64 ≤ c.args.time + c.time_delta_of.result = no_time (c.args.time + c.time_delta_of.result) c.in_default.ensures in
    omega (arith, same, late)
