-- What is gathered is gathered of the items that matter.
use Rattle.std.proofs.Common.{◌≡◌, false, List, [], ◌∷◌, ◌++◌, fold, refl, sym, ap, subst, ◌∙◌, append-nil, inl, inr}
use Rattle.std.specs.List.{filter}
use Rattle.std.proofs.lemmas.Bool.{cases_Bool}
use Rattle.subpage.specs.Arrangement.{Keyed}
use Rattle.subpage.proofs.Filters.{filter-not, filter-yes}
use Rattle.time_merge.specs.Skipping.{by_item}
use Rattle.item_pass.specs.Gathering.{and_item}
use Rattle.report_print.specs.ContextData.{ContextData}
use Rattle.wakeup_pairs.specs.declared.wakeup_item.WakeupItem.{WakeupItem}
use Rattle.wakeup_pairs.specs.declared.wakeup_item.WakeupItem.TheVariants.{Wakes, Switches, Lost, Other}
use Rattle.wakeup_pairs.specs.Pairs.{ArePairs}
use Rattle.wakeup_pairs.specs.Gathered.{Gathered, none_gathered, and_seen, gathered}
use Rattle.wakeup_pairs.proofs.Passing.{pass_pairs}
use Rattle.wakeup_lat.specs.Roles.{all_seen, seen_of}
use Rattle.wakeup_lat.specs.Matter.{is_seen, matters}

other_is : (s : WakeupItem) → is_seen s ≡ false → s ≡ Other
other_is (Wakes wake) e = absurd cc
other_is (Switches switch) e = absurd cc
other_is Lost e = absurd cc
other_is Other e = refl

module _ (given : ContextData) where
  of_matters : (g : Gathered) (xs : List Keyed) → fold and_seen g (all_seen given xs) ≡ fold and_seen g (all_seen given (filter (by_item (matters given)) xs))
  of_matters g [] = refl
  of_matters g (x ∷ xs) = elim (cases_Bool (by_item (matters given) x)) [
    | inl seen ↦ of_matters (and_seen g (seen_of given x)) xs ∙ ap (λ (ys : List Keyed). fold and_seen g (all_seen given ys)) (sym (filter-yes (by_item (matters given)) x xs seen))
    | inr other ↦ ap (λ (s : WakeupItem). fold and_seen (and_seen g s) (all_seen given xs)) (other_is (seen_of given x) other) ∙ of_matters g xs
        ∙ ap (λ (ys : List Keyed). fold and_seen g (all_seen given ys)) (sym (filter-not (by_item (matters given)) x xs other))
  ]

  one_more : (g : Gathered) (xs : List Keyed) (x : Keyed) → fold and_seen g (all_seen given (xs ++ x ∷ [])) ≡ and_seen (fold and_seen g (all_seen given xs)) (seen_of given x)
  one_more g [] x = refl
  one_more g (y ∷ ys) x = one_more (and_seen g (seen_of given y)) ys x

  -- one item more is gathered, whether it matters or not
  and_one : (xs : List Keyed) (x : Keyed) → gathered (all_seen given (and_item (matters given) xs x)) ≡ and_seen (gathered (all_seen given xs)) (seen_of given x)
  and_one xs x = elim (cases_Bool (by_item (matters given) x)) [
    | inl seen ↦ ap (λ (ys : List Keyed). gathered (all_seen given (xs ++ ys))) (filter-yes (by_item (matters given)) x [] seen) ∙ one_more none_gathered xs x
    | inr other ↦ ap (λ (ys : List Keyed). gathered (all_seen given (xs ++ ys))) (filter-not (by_item (matters given)) x [] other)
        ∙ ap (λ (ys : List Keyed). gathered (all_seen given ys)) (append-nil xs) ∙ sym (ap (and_seen (gathered (all_seen given xs))) (other_is (seen_of given x) other))
  ]

pub and_gathered : (given : ContextData) (xs : List Keyed) (x : Keyed) (s : WakeupItem) (g h : Gathered) → s ≡ seen_of given x → h ≡ and_seen g s → g ≡ gathered (all_seen given xs) → h ≡ gathered (all_seen given (and_item (matters given) xs x))
and_gathered given xs x s g h is more was = more ∙ ap (and_seen g) is ∙ ap (λ (z : Gathered). and_seen z (seen_of given x)) was ∙ sym (and_one given xs x)

-- the pairs of all items
pub pairs_are : (given : ContextData) (xs : List Keyed) (g : Gathered) → g ≡ gathered (all_seen given (filter (by_item (matters given)) xs)) → ArePairs (all_seen given xs) g.pairs
pairs_are given xs g is =
    subst (λ (z : Gathered). ArePairs (all_seen given xs) z.pairs) (of_matters given none_gathered xs ∙ sym is) (pass_pairs (all_seen given xs))
