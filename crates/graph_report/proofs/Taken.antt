-- The calls of the items that were taken in.
use Rattle.std.proofs.Common.{◌≡◌, true, List, [], ◌∷◌, ◌++◌, reverse, refl, ap, ◌∙◌, append-nil}
use Rattle.std.specs.List.{filter}
use Rattle.std.proofs.lemmas.List.{reverse-reverse}
use Rattle.std.proofs.lemmas.List.Concat.{flat_map-append}
use Rattle.subpage.specs.Arrangement.{Keyed}
use Rattle.time_merge.specs.Skipping.{by_item}
use Rattle.item_pass.specs.Gathering.{and_item}
use Rattle.report_print.specs.ContextData.{ContextData}
use Rattle.call_pairs.specs.declared.graph_item.GraphItem.{GraphItem}
use Rattle.call_pairs.specs.declared.call.Call.{Call}
use Rattle.call_pairs.specs.declared.tracing.Tracing.{Tracing}
use Rattle.call_pairs.specs.Calls.{calls_of}
use Rattle.call_pairs.specs.Tracings.{IsTracing}
use Rattle.graph_report.specs.Gathered.{seen_at, seen_in, HasSeen}

pub one_more : (given : ContextData) (xs : List Keyed) (x : Keyed) → seen_in given (and_item (λ _ _. true) xs x) ≡ seen_in given xs ++ seen_at given x
one_more given xs x = flat_map-append (seen_at given) xs (x ∷ []) ∙ ap (λ (ys : List GraphItem). seen_in given xs ++ ys) (append-nil (seen_at given x))

all_matter : (xs : List Keyed) → filter (by_item (λ _ _. true)) xs ≡ xs
all_matter [] = refl
all_matter (x ∷ xs) = ap (λ (ys : List Keyed). x ∷ ys) (all_matter xs)

-- the calls of all items
pub calls_are : (given : ContextData) (xs : List Keyed) (t : Tracing) (calls : List Call) → ((past : List GraphItem) → IsTracing past t → calls ≡ calls_of (reverse past)) → HasSeen (seen_in given (filter (by_item (λ _ _. true)) xs)) t
    → calls ≡ calls_of (seen_in given xs)
calls_are given xs t calls told has =
    told (reverse (seen_in given (filter (by_item (λ _ _. true)) xs))) has
    ∙ ap calls_of (reverse-reverse (seen_in given (filter (by_item (λ _ _. true)) xs)) ∙ ap (seen_in given) (all_matter xs))
