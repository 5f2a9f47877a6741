use Rattle.std.proofs.Common.{◌≡◌, ◌+◌, ◌-◌, ◌%◌, arith}
use Rattle.std.proofs.lemmas.List.{drop-set}
use Rattle.fmt_forms.proofs.HexLemmas.{pair_at, hex_one, hex_two, length_one, length_two}
use Rattle.fmt_forms.proofs.hexadecimal.write_first.Goals as goal

pub overflow_sub-room : goal.overflow_sub-room
overflow_sub-room c = omega (arith, length_one c.args.n c.if-n-lt16.true)

pub bounds-room-end : goal.bounds-room-end
bounds-room-end c = omega (arith, length_one c.args.n c.if-n-lt16.true)

pub overflow_sub-result : goal.overflow_sub-result
overflow_sub-result c = omega (arith, length_one c.args.n c.if-n-lt16.true)

pub returns-then-n-lt16-clause-start : goal.returns-then-n-lt16-clause-start
returns-then-n-lt16-clause-start c = omega (arith, length_one c.args.n c.if-n-lt16.true)

pub returns-then-n-lt16-clause-written : goal.returns-then-n-lt16-clause-written
returns-then-n-lt16-clause-written c =
    let long = length_one c.args.n c.if-n-lt16.true in
    let e : c.args.end - 1 + 1 ≡ c.args.end = omega arith in
    let same : c.args.n % 16 ≡ c.args.n = omega (arith, c.if-n-lt16.true) in
    rw ((pair_at c.args.n c.requires.few).1, same, drop-set c.args.room.now (c.args.end - 1) _ (omega arith), e, hex_one c.args.n c.if-n-lt16.true)

pub overflow_sub-end : goal.overflow_sub-end
overflow_sub-end c = omega (arith, length_two c.args.n c.if-n-lt16.false c.requires.few)

pub write_pair-requires : goal.write_pair-requires
write_pair-requires c = record { pair = c.requires.few; room = omega (arith, length_two c.args.n c.if-n-lt16.false c.requires.few) }

pub overflow_sub-result-2 : goal.overflow_sub-result-2
overflow_sub-result-2 c = omega (arith, length_two c.args.n c.if-n-lt16.false c.requires.few)

pub returns-clause-start : goal.returns-clause-start
returns-clause-start c = omega (arith, length_two c.args.n c.if-n-lt16.false c.requires.few)

pub returns-clause-written : goal.returns-clause-written
returns-clause-written c =
    let long = length_two c.args.n c.if-n-lt16.false c.requires.few in
    let e : c.args.end - 2 + 2 ≡ c.args.end = omega arith in
    rw (c.write_pair.ensures, e, hex_two c.args.n c.if-n-lt16.false c.requires.few)
