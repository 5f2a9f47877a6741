-- A code for what was gathered, by which a proof tells it apart.
use Rattle.std.specs.Prelude.{ℕ, List, refl}
use Rattle.std.specs.Coded.{Coded, code_by, coded_ℕ, coded_ℤ, coded_list, coded×}
use Rattle.std.specs.Ordering.{int_cmp}
use Rattle.std.specs.FinMap as map
use Rattle.wakeup_pairs.specs.contracts.wakeup_item.Pair as pair
use Rattle.wakeup_pairs.specs.declared.wakeup_item.Pair.{Pair}
use Rattle.wakeup_pairs.specs.Gathered.{Gathered}

abbrev pub coded_gathered : Coded Gathered
coded_gathered =
    code_by (map.FinMap int_cmp ℕ × List Pair) (coded× (map.code coded_ℤ coded_ℕ) (coded_list pair.the_row.coded))
    (λ g. (g.waiting, g.pairs)) (λ p. record { waiting = p.0; pairs = p.1 }) (λ _. refl)
