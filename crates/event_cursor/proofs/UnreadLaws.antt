-- What is left to read while sub-buffers are loaded.
use Rattle.std.proofs.Common.{◌≡◌, ◌≢◌, ℕ, suc, ◌+◌, ◌-◌, ◌<◌, ◌≤◌, true, sum_by, refl, sym, ap, subst, ◌∙◌, arith}
use Rattle.std.specs.List.{range_with_len}
use Rattle.std.proofs.lemmas.Bool.{cond-true}
use Rattle.std.proofs.lemmas.List.Sums.{sum_by-cons}
use Rattle.trace_base.specs.declared.layout.Layout.{Layout}
use Rattle.trace_base.specs.declared.part.Part.{Part}
use Rattle.trace_outside.specs.Causes.{raised}
use Rattle.subpage.specs.Processor.{page_count}
use Rattle.page_pool.specs.declared.lane.Lane.{Lane}
use Rattle.page_pool.specs.declared.cursor.LaneState.{LaneState}
use Rattle.page_pool.specs.declared.cursor.LaneState.TheVariants.{Fresh, Held, Ended, Malformed}
use Rattle.event_cursor.specs.Unread.{is_there_in, size_there, size_from, first_unread, unread, reading, reading_in, IsAsked}

first_of_range : (f : ℕ → ℕ) (k count : ℕ) → k < count
    → sum_by f (range_with_len k (count - k)) ≡ f k + sum_by f (range_with_len (k + 1) (count - (k + 1)))
first_of_range f k count lt =
    let n : count - k ≡ suc (count - (k + 1)) = omega arith in
    ap (λ (m : ℕ). sum_by f (range_with_len k m)) n ∙ sum_by-cons f k (range_with_len (k + 1) (count - (k + 1)))

-- sub-buffer k, and those from k + 1 on
pub size_step : (l : Layout) (len : ℕ) (part : Part) (k : ℕ) → k < page_count l part
    → size_from l len part k ≡ size_there l len part k + size_from l len part (k + 1)
unfolding size_from
size_step l len part k lt = first_of_range (size_there l len part) k (page_count l part) lt

-- all but a malformed lane read their sub-buffers up to the next one
pub open_unread : (s : LaneState) (next : ℕ) → s ≢ Malformed → first_unread s next ≡ next
open_unread Fresh next sound = refl
open_unread Held next sound = refl
open_unread Ended next sound = refl
open_unread Malformed next sound = absurd (sound refl)

-- before and after sub-buffer k
module _ (l : Layout) (len : ℕ) (part : Part) (s : LaneState) (k : ℕ) (fresh : s ≡ Fresh) (lt : k < page_count l part) where
  pub one_less : size_from l len part (first_unread s k) ≡ size_from l len part (k + 1) + size_there l len part k
  one_less =
      let step = size_step l len part k lt in
      subst (λ (t : LaneState). size_from l len part (first_unread t k) ≡ size_from l len part (k + 1) + size_there l len part k) (sym fresh) (omega (arith, step))

  pub one_less_fresh : size_from l len part (first_unread s k) ≡ size_from l len part (first_unread s (k + 1)) + size_there l len part k
  one_less_fresh = one_less ∙ ap (λ (t : LaneState). size_from l len part (first_unread t (k + 1)) + size_there l len part k) (sym fresh)

  -- that of a lane that may be reading it
  pub one_open : size_from l len part (first_unread s k) + reading_in s (size_there l len part k) ≡ size_from l len part (first_unread s k) + size_there l len part k
  one_open = ap (λ (t : LaneState). size_from l len part (first_unread s k) + reading_in t (size_there l len part k)) fresh

pub open_le : (f : ℕ → ℕ) (s : LaneState) (next : ℕ) → s ≢ Malformed → f next ≤ f (first_unread s next)
open_le f s next sound = subst (λ (n : ℕ). f next ≤ f n) (sym (open_unread s next sound)) (omega arith)

-- a sub-buffer that is there is read
pub read_there : (l : Layout) (len size : ℕ) (part : Part) (k before after long : ℕ) → len ≡ size → true ≡ is_there_in l len part k → long ≡ l.page → after ≤ raised before long
    → after ≤ raised before (size_there l size part k)
read_there l len size part k before after long e there is le =
    let all : size_there l size part k ≡ l.page = cond-true _ _ _ (ap (λ (n : ℕ). is_there_in l n part k) (sym e) ∙ sym there) in
    subst (λ (n : ℕ). after ≤ raised before n) (is ∙ sym all) le

-- one sub-buffer more, by a file whose length is the same
module _ (len now_len : ℕ) (first mid new : Lane) (same : now_len ≡ len) (start before after : ℕ)
    (read : before ≤ raised start (unread len first - unread len mid)) (less : unread len mid ≤ unread len first)
    (more : after ≤ raised before (size_there mid.layout now_len mid.part mid.cursor.next)) where
  here : after ≤ raised before (size_there mid.layout len mid.part mid.cursor.next)
  here = subst (λ (n : ℕ). after ≤ raised before (size_there mid.layout n mid.part mid.cursor.next)) same more

  pub asked_reads : IsAsked now_len mid new → after ≤ raised start (unread len first - unread len new + reading len new)
  asked_reads a = let b = subst (λ (n : ℕ). IsAsked n mid new) same a in omega (arith, read, less, here, b.less, b.asked)

  pub asked_less : IsAsked now_len mid new → unread len new ≤ unread len first
  asked_less a = let b = subst (λ (n : ℕ). IsAsked n mid new) same a in omega (arith, less, b.less)

  pub passed_reads : unread now_len mid ≡ unread now_len new + size_there mid.layout now_len mid.part mid.cursor.next → after ≤ raised start (unread len first - unread len new)
  passed_reads a =
      let b = subst (λ (n : ℕ). unread n mid ≡ unread n new + size_there mid.layout n mid.part mid.cursor.next) same a in
      omega (arith, read, less, here, b)

  pub passed_less : unread now_len mid ≡ unread now_len new + size_there mid.layout now_len mid.part mid.cursor.next → unread len new ≤ unread len first
  passed_less a =
      let b = subst (λ (n : ℕ). unread n mid ≡ unread n new + size_there mid.layout n mid.part mid.cursor.next) same a in
      omega (arith, less, b)
