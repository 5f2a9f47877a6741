use Rattle.std.proofs.Common.{rules, ◌≡◌, length, refl}
use Rattle.fmt_literal.specs.Escape.{meant}
use Rattle.fmt_literal.proofs.Pushing.{grown_front, grown_whole}
use Rattle.fmt_literal.proofs.escape.push_items.Goals as goal

pub returns-in_err-push-clause-front : goal.returns-in_err-push-clause-front
returns-in_err-push-clause-front c =
    let l = c.loop-first in
    let same : c.push.new.self.items ≡ l.into.items = search rules in
    grown_front c.args.into.now.items l.into.items (meant 0 l.rest.now) (meant 0 c.args.bytes.now) c.push.new.self.items same l.invariant

pub returns-clause-whole : goal.returns-clause-whole
returns-clause-whole c =
    let l = c.loop-first in
    let over : length l.rest.now ≡ 0 = search rules in
    grown_whole c.args.into.now.items l.into.items l.rest.now (meant 0 c.args.bytes.now) over l.invariant

pub returns-clause-front : goal.returns-clause-front
returns-clause-front c =
    let l = c.loop-first in grown_front c.args.into.now.items l.into.items (meant 0 l.rest.now) (meant 0 c.args.bytes.now) l.into.items refl l.invariant
