-- A code for filters that show or hide, by which a proof tells them apart.
use Rattle.std.specs.Prelude.{Bool}
use Rattle.std.specs.Coded.{Coded, code_by, coded_bool, coded×}
use mathlib.Core.Path.{refl}
use Rattle.filter_lang.specs.Filter.{FilterData}
use Rattle.filter_lang.proofs.FilterCode.{coded_filter}
use Rattle.filter_truth.specs.Selection.{UseData}

abbrev pub coded_use : Coded UseData
coded_use = code_by (Bool × FilterData) (coded× coded_bool coded_filter) (λ u. (u.hide, u.filter)) (λ p. record { hide = p.0; filter = p.1 }) (λ _. refl)
