use Rattle.std.proofs.Common.{◌≡◌, inr, subst, rules}
use Rattle.fmt_directives.specs.Directives.{IsUnlisted}
use Rattle.fmt_print.proofs.reading.compile.Goals as goal

pub returns-in_default-clause-none : goal.returns-in_default-clause-none
returns-in_default-clause-none c =
    let same : c.as_bytes-2.result.now ≡ c.args.fmt.text = search rules in
    inr (subst IsUnlisted same (rw c.in_default.is at c.in_ok-directives.ensures.none))
