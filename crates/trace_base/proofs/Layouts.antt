-- What each layout carries, layouts with the same numbers, and the layout of given numbers.
use Rattle.std.proofs.Common.{◌≡◌, ℕ, ◌+◌, ◌%◌, ◌≤◌, ◌⊎◌, inl, inr, Bool, true, false, ◌||◌, eqb, leb, Some, None, refl, sym, ap, subst, ◌∙◌, arith}
use Rattle.std.proofs.Props.{props}
use Rattle.std.proofs.lemmas.Bool.{and_from, leb-true, eqb-true, le-leb, eq-eqb}
use Rattle.std.specs.Prelude.{IsTrue}
use mathlib.Core.Bool.{Bool-set}
use mathlib.Core.HLevel.{is_prop→PathP}
use Rattle.trace_base.specs.Allowed.{IsAllowed, is_allowed, is_long, allowed_is}
use Rattle.trace_base.specs.declared.order.Order.{Order}
use Rattle.trace_base.specs.declared.layout.Layout.{Layout}
use Rattle.trace_base.specs.Layout.{IsLayout, IsPlainLayout, layout_from, layout_with, plain_layout, where_true}

pub carried : (l : Layout) → IsLayout l
carried l = l.allowed

either : (one two : Bool) → (one || two) ≡ true → (one ≡ true) ⊎ (two ≡ true)
either true two e = inl refl
either false two e = inr e

pub commit_is_long : (l : Layout) → (l.commit_size ≡ 4) ⊎ (l.commit_size ≡ 8)
commit_is_long l = elim (either (eqb l.commit_size 4) (eqb l.commit_size 8) l.allowed.commit_is_long) [
  | inl four ↦ inl (eqb-true l.commit_size 4 four)
  | inr eight ↦ inr (eqb-true l.commit_size 8 eight)
]

pub fields_apart : (l : Layout) → (l.time_at + 8 ≤ l.commit_at) ⊎ (l.commit_at + l.commit_size ≤ l.time_at)
fields_apart l = elim (either (leb (l.time_at + 8) l.commit_at) (leb (l.commit_at + l.commit_size) l.time_at) l.allowed.apart) [
  | inl before ↦ inl (leb-true (l.time_at + 8) l.commit_at before)
  | inr behind ↦ inr (leb-true (l.commit_at + l.commit_size) l.time_at behind)
]

-- LAYOUTS WITH THE SAME NUMBERS

pub same_layout : (a b : Layout) → a.order ≡ b.order → a.time_at ≡ b.time_at → a.commit_at ≡ b.commit_at → a.commit_size ≡ b.commit_size → a.data_at ≡ b.data_at → a.page ≡ b.page → a ≡ b
same_layout a b order time_at commit_at commit_size data_at page = λ i. record {
  order = order i;
  time_at = time_at i;
  commit_at = commit_at i;
  commit_size = commit_size i;
  data_at = data_at i;
  page = page i;
  allowed = is_prop→PathP (λ j. IsAllowed (time_at j) (commit_at j) (commit_size j) (data_at j) (page j)) (λ j. hlevel props) a.allowed b.allowed i;
}

pub plain_same : (order : Order) (long page : ℕ) (allowed : IsAllowed 0 8 long (8 + long) page) (l : Layout) → IsPlainLayout order long page l → l ≡ plain_layout order long page allowed
plain_same order long page allowed l is = same_layout l (plain_layout order long page allowed) is.order is.time_at is.commit_at is.commit_size is.data_at is.page

-- THE LAYOUT OF GIVEN NUMBERS

long_tested : (long : ℕ) → (long ≡ 4) ⊎ (long ≡ 8) → IsTrue (is_long long)
long_tested long (inl four) = subst (λ (n : ℕ). IsTrue (is_long n)) (sym four) refl
long_tested long (inr eight) = subst (λ (n : ℕ). IsTrue (is_long n)) (sym eight) refl

long_fits : (long : ℕ) → (long ≡ 4) ⊎ (long ≡ 8) → (long ≤ 8) × ((8 + long) % 4 ≡ 0)
long_fits long (inl four) = (omega arith, ap (λ (n : ℕ). (8 + n) % 4) four)
long_fits long (inr eight) = (omega arith, ap (λ (n : ℕ). (8 + n) % 4) eight)

pub plain_allowed : (long page : ℕ) → (long ≡ 4) ⊎ (long ≡ 8) → 4096 ≤ page → page ≤ 262144 → IsAllowed 0 8 long (8 + long) page
plain_allowed long page sized least most =
    let fits = long_fits long sized in
    record {
      commit_is_long = long_tested long sized;
      time_before_data = omega arith;
      commit_before_data = omega arith;
      apart = refl;
      data_in_front = omega (arith, fits.0);
      data_aligned = fits.1;
      page_least = least;
      page_most = most;
    }

pub test_is : (time_at commit_at commit_size data_at page : ℕ) → IsAllowed time_at commit_at commit_size data_at page
    → IsTrue (is_allowed time_at commit_at commit_size data_at page)
test_is time_at commit_at commit_size data_at page allowed =
    let one = and_from _ _ allowed.commit_is_long (le-leb (time_at + 8) data_at allowed.time_before_data) in
    let two = and_from _ _ one (le-leb (commit_at + commit_size) data_at allowed.commit_before_data) in
    let three = and_from _ _ two allowed.apart in
    let four = and_from _ _ three (le-leb data_at 256 allowed.data_in_front) in
    let five = and_from _ _ four (eq-eqb (data_at % 4) 0 allowed.data_aligned) in
    let six = and_from _ _ five (le-leb 4096 page allowed.page_least) in
    and_from _ _ six (le-leb page 262144 allowed.page_most)

where_yes : {X : Type 0} (test : Bool) (value : IsTrue test → X) (holds : IsTrue test) → Some (value holds) ≡ where_true test value
where_yes true value holds = ap (λ (e : IsTrue true). Some (value e)) (Bool-set true true holds refl)
where_yes false value holds = absurd cc

where_no : {X : Type 0} (test : Bool) (value : IsTrue test → X) → test ≡ false → None ≡ where_true test value
where_no true value fails = absurd cc
where_no false value fails = refl

module _ (order : Order) (time_at commit_at commit_size data_at page : ℕ) where
  pub layout_is : (allowed : IsAllowed time_at commit_at commit_size data_at page) → IsTrue (is_allowed time_at commit_at commit_size data_at page)
      → Some (layout_from order time_at commit_at commit_size data_at page allowed) ≡ layout_with order time_at commit_at commit_size data_at page
  unfolding layout_with
  layout_is allowed test =
      let made : IsTrue (is_allowed time_at commit_at commit_size data_at page) → Layout =
      λ holds. layout_from order time_at commit_at commit_size data_at page (allowed_is time_at commit_at commit_size data_at page holds) in
      let same : layout_from order time_at commit_at commit_size data_at page allowed ≡ made test = same_layout (layout_from order time_at commit_at commit_size data_at page allowed) (made test) refl refl refl refl refl refl in
      ap (λ (l : Layout). Some l) same ∙ where_yes (is_allowed time_at commit_at commit_size data_at page) made test

  pub none_is : is_allowed time_at commit_at commit_size data_at page ≡ false → None ≡ layout_with order time_at commit_at commit_size data_at page
  unfolding layout_with
  none_is fails =
      let made : IsTrue (is_allowed time_at commit_at commit_size data_at page) → Layout =
      λ holds. layout_from order time_at commit_at commit_size data_at page (allowed_is time_at commit_at commit_size data_at page holds) in
      where_no (is_allowed time_at commit_at commit_size data_at page) made fails

pub own_numbers : (l : Layout) → Some l ≡ layout_with l.order l.time_at l.commit_at l.commit_size l.data_at l.page
own_numbers l =
    let test : IsTrue (is_allowed l.time_at l.commit_at l.commit_size l.data_at l.page) = test_is l.time_at l.commit_at l.commit_size l.data_at l.page l.allowed in
    layout_is l.order l.time_at l.commit_at l.commit_size l.data_at l.page l.allowed test

pub plain_is : (order : Order) (long page : ℕ) (l : Layout) → IsPlainLayout order long page l → Some l ≡ layout_with order 0 8 long (8 + long) page
plain_is order long page l is =
    let same : layout_with l.order l.time_at l.commit_at l.commit_size l.data_at l.page ≡ layout_with order 0 8 long (8 + long) page =
    λ i. layout_with (is.order i) (is.time_at i) (is.commit_at i) (is.commit_size i) (is.data_at i) (is.page i) in
    own_numbers l ∙ same
