-- Selection over lists of filters.
use Rattle.std.proofs.Common.{◌≡◌, ℕ, Bool, true, false, not, ◌&&◌, ◌||◌, List, [], ◌∷◌, map, slice_get, Option, Some, None, refl, ap, ap₂, sym, ◌∙◌}
use Rattle.std.specs.List.{list_any, Any}
use Rattle.std.proofs.lemmas.List.Folds.{Any-from_list_any, list_any-from_Any}
use Rattle.format_parse.specs.declared.format.EventFormat.{EventFormat}
use Rattle.filter_lang.specs.FilterView.{filter_of}
use Rattle.filter_truth.specs.Naming.{EventData, holds_at}
use Rattle.filter_truth.specs.BoundFilter.{BoundCondition, unnamed, always, where_true, option_true, bind_filter}
use Rattle.filter_truth.specs.BoundView.{conditions_of}
use Rattle.filter_truth.specs.Selection.{UseData, AreShowing, are_showing, filters_show}
use Rattle.filter_truth.specs.SelectionView.{use_of, format_at_place, option_holds, bound_show, option_open, is_open_at, some_open}
use Rattle.filter_truth.specs.declared.select.FilterUse.{FilterUse}
use Rattle.filter_truth.specs.declared.select.BoundUse.{BoundUse}
use Rattle.filter_truth.proofs.Bindings.{same_truth}

any_map : {A B : Type 0} (p : B → Bool) (f : A → B) (xs : List A) → list_any p (map f xs) ≡ list_any (λ x. p (f x)) xs
any_map p f [] = refl
any_map p f (x ∷ xs) = ap (λ b. p (f x) || b) (any_map p f xs)

any_same : {A : Type 0} (p q : A → Bool) → ((x : A) → p x ≡ q x) → (xs : List A) → list_any p xs ≡ list_any q xs
any_same p q same [] = refl
any_same p q same (x ∷ xs) = ap₂ (λ a b. a || b) (same x) (any_same p q same xs)

abbrev shows_by : Bool → Bool → Bool → Bool
shows_by s n h = (s || not n) && not h

joined : (s s' n n' h h' : Bool) → s ≡ s' → n ≡ n' → h ≡ h' → shows_by s n h ≡ shows_by s' n' h'
joined s s' n n' h h' es en eh = ap₂ (λ a b. a && not b) (ap₂ (λ a b. a || not b) es en) eh

pub shows_map : {A B : Type 0} (hide : B → Bool) (holds : B → Bool) (f : A → B) (xs : List A) → are_showing hide holds (map f xs) ≡ are_showing (λ x. hide (f x)) (λ x. holds (f x)) xs
shows_map hide holds f xs =
    joined _ _ _ _ _ _ (any_map (λ u. not (hide u) && holds u) f xs) (any_map (λ u. not (hide u)) f xs) (any_map (λ u. hide u && holds u) f xs)

pub shows_same : {A : Type 0} (hide holds holds' : A → Bool) → ((x : A) → holds x ≡ holds' x) → (xs : List A) → are_showing hide holds xs ≡ are_showing hide holds' xs
shows_same hide holds holds' same xs =
    joined _ _ _ _ _ _ (any_same (λ u. not (hide u) && holds u) (λ u. not (hide u) && holds' u) (λ u. ap (λ b. not (hide u) && b) (same u)) xs) refl
    (any_same (λ u. hide u && holds u) (λ u. hide u && holds' u) (λ u. ap (λ b. hide u && b) (same u)) xs)

-- what is bound says what the filter says
abbrev pub Plain : Type 0
Plain = Bool × List BoundCondition

abbrev pub plain_of : BoundUse → Plain
plain_of b = (b.hide, conditions_of b.bound)

abbrev pub bound_plain : List EventFormat → FilterUse → Plain
bound_plain formats u = (u.hide, bind_filter (filter_of u.filter) formats)

holds_same : (formats : List EventFormat) (i : Option ℕ) (e : EventData) (u : FilterUse) → option_holds (bind_filter (filter_of u.filter) formats) i e ≡ holds_at (filter_of u.filter) (format_at_place formats i) e
holds_same formats None e u = refl
holds_same formats (Some i) e u = same_truth (filter_of u.filter) formats i e

pub bound_shows : (formats : List EventFormat) (us : List FilterUse) (bs : List BoundUse) → map plain_of bs ≡ map (bound_plain formats) us → (i : Option ℕ) (e : EventData) → bound_show bs i e ≡ filters_show (map use_of us) (format_at_place formats i) e
bound_shows formats us bs same i e =
    let hide : Plain → Bool = λ x. x.0 in
    let holds : Plain → Bool = λ x. option_holds x.1 i e in
    sym (shows_map hide holds plain_of bs) ∙ ap (are_showing hide holds) same ∙ shows_map hide holds (bound_plain formats) us
    ∙ shows_same (λ (u : FilterUse). u.hide) (λ u. option_holds (bind_filter (filter_of u.filter) formats) i e) (λ u. holds_at (filter_of u.filter) (format_at_place formats i) e) (holds_same formats i e) us
    ∙ sym (shows_map (λ (u : UseData). u.hide) (λ u. holds_at u.filter (format_at_place formats i) e) use_of us)

-- what is computed is what is said
some : {A : Type 0} (P Q : A → Type 0) → ((x : A) → P x → Q x) → (xs : List A) → Any P xs → Any Q xs
some P Q f xs a = (a.0, a.1, a.2, a.3, f a.1 a.4)

not_true : (b : Bool) → b ≡ false → not b ≡ true
not_true true e = absurd cc
not_true false e = refl

not_false : (b : Bool) → not b ≡ true → b ≡ false
not_false true e = absurd cc
not_false false e = refl

both_true : (a b : Bool) → a ≡ true → b ≡ true → (a && b) ≡ true
both_true true b e d = d
both_true false b e d = absurd cc

each_true : (a b : Bool) → (a && b) ≡ true → (a ≡ true) × (b ≡ true)
each_true true b e = (refl, e)
each_true false b e = absurd cc

first_true : (s n : Bool) → (s || not n) ≡ true → n ≡ true → s ≡ true
first_true true n e d = refl
first_true false true e d = e
first_true false false e d = absurd cc

then_true : (s n h : Bool) → (n ≡ true → s ≡ true) → (h ≡ true → ⊥) → shows_by s n h ≡ true
then_true s n true f g = absurd (g refl)
then_true s true false f g = rw (f refl) refl
then_true true false false f g = refl
then_true false false false f g = refl

module _ (uses : List UseData) (format : Option EventFormat) (e : EventData) where
  abbrev says : UseData → Bool
  says u = holds_at u.filter format e

  abbrev Shows : UseData → Type 0
  Shows u = (u.hide ≡ false) × (says u ≡ true)

  abbrev Hides : UseData → Type 0
  Hides u = (u.hide ≡ true) × (says u ≡ true)

  is_showing : Any (λ (u : UseData). u.hide ≡ false) uses → list_any (λ (u : UseData). not u.hide) uses ≡ true
  is_showing a = list_any-from_Any (λ (u : UseData). not u.hide) uses (some (λ (u : UseData). u.hide ≡ false) (λ u. not u.hide ≡ true) (λ u h. not_true u.hide h) uses a)

  some_showing : list_any (λ (u : UseData). not u.hide) uses ≡ true → Any (λ (u : UseData). u.hide ≡ false) uses
  some_showing t = some (λ (u : UseData). not u.hide ≡ true) (λ u. u.hide ≡ false) (λ u h. not_false u.hide h) uses (Any-from_list_any (λ (u : UseData). not u.hide) uses t)

  is_shown : Any Shows uses → list_any (λ u. not u.hide && says u) uses ≡ true
  is_shown a = list_any-from_Any (λ u. not u.hide && says u) uses (some Shows (λ u. (not u.hide && says u) ≡ true) (λ u h. both_true (not u.hide) (says u) (not_true u.hide h.0) h.1) uses a)

  some_shown : list_any (λ u. not u.hide && says u) uses ≡ true → Any Shows uses
  some_shown t =
      some (λ u. (not u.hide && says u) ≡ true) Shows (λ u h. let b = each_true (not u.hide) (says u) h in (not_false u.hide b.0, b.1)) uses (Any-from_list_any (λ u. not u.hide && says u) uses t)

  is_hidden : Any Hides uses → list_any (λ u. u.hide && says u) uses ≡ true
  is_hidden a = list_any-from_Any (λ u. u.hide && says u) uses (some Hides (λ u. (u.hide && says u) ≡ true) (λ u h. both_true u.hide (says u) h.0 h.1) uses a)

  some_hidden : list_any (λ u. u.hide && says u) uses ≡ true → Any Hides uses
  some_hidden t = some (λ u. (u.hide && says u) ≡ true) Hides (λ u h. each_true u.hide (says u) h) uses (Any-from_list_any (λ u. u.hide && says u) uses t)

  pub said : filters_show uses format e ≡ true → AreShowing uses format e
  said t =
      let b = each_true (list_any (λ u. not u.hide && says u) uses || not (list_any (λ u. not u.hide) uses)) (not (list_any (λ u. u.hide && says u) uses)) t in record {
        shown = λ a. some_shown (first_true (list_any (λ u. not u.hide && says u) uses) (list_any (λ (u : UseData). not u.hide) uses) b.0 (is_showing a));
        hidden = λ a. let never = not_false (list_any (λ u. u.hide && says u) uses) b.1 in let there = is_hidden a in absurd cc;
      }

  pub as_said : AreShowing uses format e → filters_show uses format e ≡ true
  as_said s =
      then_true (list_any (λ u. not u.hide && says u) uses) (list_any (λ (u : UseData). not u.hide) uses) (list_any (λ u. u.hide && says u) uses)
      (λ n. is_shown (s.shown (some_showing n))) (λ h. s.hidden (some_hidden h))

-- where no condition decides, all events of a format are shown alike
either_false : (a b : Bool) → (a || b) ≡ false → (a ≡ false) × (b ≡ false)
either_false true b e = absurd cc
either_false false b e = (refl, e)

closed_alike : (o : Option BoundCondition) (d e : EventData) → option_open o ≡ false → option_true o d ≡ option_true o e
closed_alike None d e closed = refl
closed_alike (Some unnamed) d e closed = refl
closed_alike (Some always) d e closed = refl
closed_alike (Some (where_true t)) d e closed = absurd cc

use_alike : (conditions : List BoundCondition) (i : Option ℕ) (d e : EventData) → is_open_at conditions i ≡ false → option_holds conditions i d ≡ option_holds conditions i e
use_alike conditions None d e closed = refl
use_alike conditions (Some i) d e closed = closed_alike (slice_get conditions i) d e closed

any_alike : {A : Type 0} (open' : A → Bool) (p q : A → Bool) → ((x : A) → open' x ≡ false → p x ≡ q x) → (xs : List A) → list_any open' xs ≡ false → list_any p xs ≡ list_any q xs
any_alike open' p q same [] closed = refl
any_alike open' p q same (x ∷ xs) closed =
    let both = either_false (open' x) (list_any open' xs) closed in ap₂ (λ a b. a || b) (same x both.0) (any_alike open' p q same xs both.1)

pub shows_alike : (uses : List BoundUse) (i : Option ℕ) (d e : EventData) → some_open uses i ≡ false → bound_show uses i d ≡ bound_show uses i e
shows_alike uses i d e closed =
    let is_open : BoundUse → Bool = λ u. is_open_at (conditions_of u.bound) i in
    let holds : EventData → BoundUse → Bool = λ x u. option_holds (conditions_of u.bound) i x in
    let same : (u : BoundUse) → is_open u ≡ false → holds d u ≡ holds e u = λ u. use_alike (conditions_of u.bound) i d e in
    joined _ _ _ _ _ _
    (any_alike is_open (λ u. not u.hide && holds d u) (λ u. not u.hide && holds e u) (λ u c. ap (λ b. not u.hide && b) (same u c)) uses closed) refl
    (any_alike is_open (λ u. u.hide && holds d u) (λ u. u.hide && holds e u) (λ u c. ap (λ b. u.hide && b) (same u c)) uses closed)

-- so one event tells what is shown of all
pub settled_is : (uses : List BoundUse) (i : Option ℕ) (d : EventData) (shown : Bool) → some_open uses i ≡ false → shown ≡ bound_show uses i d → (e : EventData) → shown ≡ bound_show uses i e
settled_is uses i d shown closed is = λ e. is ∙ shows_alike uses i d e closed
