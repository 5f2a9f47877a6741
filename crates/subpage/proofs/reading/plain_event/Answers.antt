use Rattle.std.proofs.Common.{◌≡◌, ℕ, ◌∙◌, ◌+◌, ◌-◌, ◌*◌, ◌^◌, ◌<◌, ◌≤◌, Bool, Some, None, cond, length, take, drop, subst, sym, ap, arith}
use Rattle.std.proofs.lemmas.Bool.{lt-ltb}
use Rattle.std.proofs.lemmas.List.{length-drop}
use Rattle.trace_base.specs.Number.{num}
use Rattle.subpage.proofs.Runs.{plain_at, plain_front}
use Rattle.subpage.specs.Element.{type_len}
use Rattle.subpage.specs.PlainRecord.{IsPlainFront}
use Rattle.subpage.specs.RunningTime.{in_64_bits}
use Rattle.subpage.proofs.reading.plain_event.Goals as goal
use Rattle.subpage.proofs.reading.plain_event.Goals.{then-kind-eq0-via-then-kind-eq0, then-kind-eq0-via-else-kind-eq0+then-kind-gt28}

pub returns : goal.returns
returns c =
    let order = c.args.order in
    let bytes = c.args.bytes.now in
    let from = c.args.from in
    let rest = drop from bytes in
    let kind = c.type_len_of-kind.result in
    let delta = c.time_delta_of.result in
    let size : length rest ≡ length bytes - from = length-drop from bytes in
    let some : 1 ≤ kind = grind arith in
    let few : kind ≤ 28 = grind arith in
    let behind : from + 4 + 4 * kind ≤ length bytes = grind arith in
    let word : c.read_u32-word.result ≡ num order (take 4 rest) = c.read_u32-word.ensures ∙ ap (λ b. num order (take 4 b)) c.split_at.ensures.back in
    let small : 0 + delta < 2 ^ 64 = omega (arith, c.time_delta_of.ensures.bits) in
    let same : delta ≡ 0 + delta = omega arith in
    let timed : Some delta ≡ in_64_bits (0 + delta) = ap (λ (n : ℕ). Some n) same ∙ sym (ap (λ (b : Bool). cond b (Some (0 + delta)) None) (lt-ltb (0 + delta) (2 ^ 64) small)) in
    let plain = plain_front order 0 rest c.read_u32-word.result kind delta delta word c.type_len_of-kind.ensures.value c.time_delta_of.ensures.value
    (omega (arith, size, behind)) some few (omega (arith, size, behind)) timed in
    let len : 4 * kind ≡ from + 4 + 4 * kind - (from + 4) = omega arith in
    (omega arith, (behind, subst (λ n. IsPlainFront order 0 rest (Some (delta, n))) len plain))

pub returns-then-bytes-from : goal.returns-then-bytes-from
returns-then-bytes-from c = λ delta payload front back whole is.
    let rest = drop c.args.from c.args.bytes.now in
    let p = plain_at c.args.order delta payload front back rest whole is in
    absurd (omega (arith, p.long, p.fits, length-drop c.args.from c.args.bytes.now, c.if-bytes-from.true))

pub returns-then-kind-eq0 : goal.returns-then-kind-eq0
returns-then-kind-eq0 c = λ delta payload front back whole is.
    let order = c.args.order in
    let rest = drop c.args.from c.args.bytes.now in
    let p = plain_at order delta payload front back rest whole is in
    let word : c.read_u32-word.result ≡ num order (take 4 rest) = c.read_u32-word.ensures ∙ ap (λ b. num order (take 4 b)) c.split_at.ensures.back in
    let same : p.kind ≡ c.type_len_of-kind.result = sym p.kind_is ∙ ap (type_len order) (sym word) ∙ sym c.type_len_of-kind.ensures.value in
    elim c.then-kind-eq0.branch [
      | then-kind-eq0-via-then-kind-eq0 w ↦ absurd (omega (arith, same, p.least, w.if-kind-eq0.true))
      | then-kind-eq0-via-else-kind-eq0+then-kind-gt28 w ↦ absurd (omega (arith, same, p.most, w.if-kind-gt28.true))
    ]

pub returns-then-bytes-behind : goal.returns-then-bytes-behind
returns-then-bytes-behind c = λ delta payload front back whole is.
    let order = c.args.order in
    let rest = drop c.args.from c.args.bytes.now in
    let p = plain_at order delta payload front back rest whole is in
    let word : c.read_u32-word.result ≡ num order (take 4 rest) = c.read_u32-word.ensures ∙ ap (λ b. num order (take 4 b)) c.split_at.ensures.back in
    let same : p.kind ≡ c.type_len_of-kind.result = sym p.kind_is ∙ ap (type_len order) (sym word) ∙ sym c.type_len_of-kind.ensures.value in
    absurd (omega (arith, same, p.long, p.fits, length-drop c.args.from c.args.bytes.now, c.if-bytes-behind.true))
