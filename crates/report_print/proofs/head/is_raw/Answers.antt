use Rattle.std.proofs.Common.{◌||◌, ◌∙◌, ℕ, Bool, List, sym, ap, Bor}
use Rattle.std.specs.List.{list_any}
use Rattle.std.specs.Str.{bytes_eq}
use Rattle.report_print.proofs.RawNames.{found}
use Rattle.report_print.proofs.head.is_raw.Goals as goal

pub returns-else-show : goal.returns-else-show
returns-else-show c =
    let names : List (List ℕ) = c.args.show.now.raw_events in
    found (λ (k : Bor (List ℕ)). k.now) c.args.name.now c.args.names.now.keys names c.contains.result c.requires c.contains.ensures
    ∙ ap (λ (b : Bool). b || list_any (bytes_eq c.args.name.now) names) (sym c.if-show.false)
