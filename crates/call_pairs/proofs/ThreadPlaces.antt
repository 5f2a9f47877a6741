-- Where the stacks of threads stand.
use Rattle.std.proofs.Common.{◌≡◌, ℕ, zero, suc, ◌+◌, Bool, true, false, List, [], ◌∷◌, ◌++◌, get_or, length, map, reverse, set, slice_get, Option, Some, None, refl, sym, ap, ◌∙◌, arith, inl, inr, ◌⊎◌}
use Rattle.std.specs.Prelude.{if◌then◌else◌}
use Rattle.std.specs.Option.{option_map}
use Rattle.std.specs.Ordering.{is_eq}
use Rattle.std.specs.BTreeMap.{get}
use Rattle.std.proofs.lemmas.Bool.{cond-true, cond-false, false≢true}
use Rattle.std.proofs.lemmas.List.{map-append}
use Rattle.std.proofs.lemmas.Option.{slice_get_read, slice_get_within, slice_get-map}
use Rattle.call_pairs.specs.declared.graph_item.GraphEvent.{GraphEvent}
use Rattle.call_pairs.specs.declared.thread.Thread.{Thread}
use Rattle.call_pairs.specs.declared.threads.Threads.{Threads}
use Rattle.call_pairs.specs.declared.threads.Left.{Left}
use Rattle.call_pairs.specs.declared.stacks.Open.{Open}
use Rattle.call_pairs.specs.declared.stacks.Stack.{Stack}
use Rattle.call_pairs.specs.Threads.{thread_of, is_same}
use Rattle.call_pairs.specs.Stacks.{shallower, closing, opens_in, last_in}
use Rattle.call_pairs.specs.StackMap.{ArePlaces, IsEntered, IsLeft, IsPut, KeepsTold, order, stack_at, stack_of, thread_at, threads_in}
use Rattle.call_pairs.proofs.Same.{is_same_from, order_is, same_order}

abbrev or_else : {X : Type 0} → X → Option X → X
or_else d None = d
or_else d (Some x) = x

some_same : {X : Type 0} (x y : X) → Some x ≡ Some y → x ≡ y
some_same x y e = ap (or_else x) e

-- elements of lists at places
front_got : {X : Type 0} (xs ys : List X) (i : ℕ) (x : X) → slice_get xs i ≡ Some x → slice_get (xs ++ ys) i ≡ Some x
front_got [] ys i x e = absurd (grind (arith, e))
front_got (z ∷ xs) ys zero x e = e
front_got (z ∷ xs) ys (suc i) x e = front_got xs ys i x e

last_got : {X : Type 0} (xs : List X) (y : X) → slice_get (xs ++ y ∷ []) (length xs) ≡ Some y
last_got [] y = refl
last_got (z ∷ xs) y = last_got xs y

pushed_got : {X : Type 0} (xs : List X) (y : X) (i : ℕ) (x : X) → slice_get (xs ++ y ∷ []) i ≡ Some x → (slice_get xs i ≡ Some x) ⊎ ((i ≡ length xs) × (y ≡ x))
pushed_got [] y zero x e = inr (refl, some_same y x e)
pushed_got [] y (suc i) x e = absurd (grind (arith, e))
pushed_got (z ∷ xs) y zero x e = inl e
pushed_got (z ∷ xs) y (suc i) x e = further (pushed_got xs y i x e)
  where
    further : (slice_get xs i ≡ Some x) ⊎ ((i ≡ length xs) × (y ≡ x)) → (slice_get (z ∷ xs) (suc i) ≡ Some x) ⊎ ((suc i ≡ length (z ∷ xs)) × (y ≡ x))
    further (inl got) = inl got
    further (inr last) = inr (ap suc last.0, last.1)

set_got : {X : Type 0} (xs : List X) (i : ℕ) (x y : X) → slice_get xs i ≡ Some x → slice_get (set xs i y) i ≡ Some y
set_got [] i x y e = absurd (grind (arith, e))
set_got (z ∷ xs) zero x y e = refl
set_got (z ∷ xs) (suc i) x y e = set_got xs i x y e

set_apart : {X : Type 0} (xs : List X) (i j : ℕ) (y : X) → (j ≡ i → ⊥) → slice_get (set xs i y) j ≡ slice_get xs j
set_apart [] i j y apart = refl
set_apart (z ∷ xs) zero zero y apart = absurd (apart refl)
set_apart (z ∷ xs) zero (suc j) y apart = refl
set_apart (z ∷ xs) (suc i) zero y apart = refl
set_apart (z ∷ xs) (suc i) (suc j) y apart = set_apart xs i j y (λ e. apart (ap suc e))

-- a stack in the place of one of the same thread
same_threads : (xs : List Stack) (i : ℕ) (s : Stack) → thread_at xs i ≡ Some s.thread → threads_in (set xs i s) ≡ threads_in xs
same_threads [] i s e = refl
same_threads (x ∷ xs) zero s e = ap (λ (t : Thread). t ∷ threads_in xs) (sym (some_same x.thread s.thread e))
same_threads (x ∷ xs) (suc i) s e = ap (λ (ts : List Thread). x.thread ∷ ts) (same_threads xs i s e)

-- where a thread's stack stands there is one
got_stack : (xs : List Stack) (i : ℕ) (t : Thread) → thread_at xs i ≡ Some t → (s : Stack) × (slice_get xs i ≡ Some s)
got_stack [] i t e = absurd (grind (arith, e))
got_stack (x ∷ xs) zero t e = (x, refl)
got_stack (x ∷ xs) (suc i) t e = got_stack xs i t e

-- a stack is added for a thread that has none
pub record IsAdded (t : Thread) (s : Stack) (before now : Threads) : Type 0 where
  pub none : get order before.map t ≡ None
  pub own : s.thread ≡ t
  pub stacks : now.stacks.items ≡ before.stacks.items ++ s ∷ []
  pub map_now : (q : Thread) → get order now.map q ≡ (if is_eq (order t q) then Some (length before.stacks.items) else get order before.map q)

pub is_added : (t : Thread) (s : Stack) (n : ℕ) (before now : Threads) → get order before.map t ≡ None → s.thread ≡ t → now.stacks.items ≡ before.stacks.items ++ s ∷ [] → n ≡ length before.stacks.items
    → ((q : Thread) → get order now.map q ≡ (if is_eq (order t q) then Some n else get order before.map q)) → IsAdded t s before now
is_added t s n before now none own stacks long mapped = record {
  none = none;
  own = own;
  stacks = stacks;
  map_now = λ q. mapped q ∙ ap (λ (m : ℕ). if is_eq (order t q) then Some m else get order before.map q) long;
}

threads_now : (t : Thread) (s : Stack) (before now : Threads) → IsAdded t s before now → threads_in now.stacks.items ≡ threads_in before.stacks.items ++ t ∷ []
threads_now t s before now is = ap threads_in is.stacks ∙ map-append (λ (x : Stack). x.thread) before.stacks.items (s ∷ []) ∙ ap (λ (u : Thread). threads_in before.stacks.items ++ u ∷ []) is.own

threads_long : (xs : List Stack) → length (threads_in xs) ≡ length xs
threads_long [] = refl
threads_long (x ∷ xs) = ap suc (threads_long xs)

pub added_there : (t : Thread) (s : Stack) (before now : Threads) → IsAdded t s before now → thread_at now.stacks.items (length before.stacks.items) ≡ Some t
added_there t s before now is = ap (λ (ts : List Thread). slice_get ts (length before.stacks.items)) (threads_now t s before now is)
    ∙ ap (λ (n : ℕ). slice_get (threads_in before.stacks.items ++ t ∷ []) n) (sym (threads_long before.stacks.items)) ∙ last_got (threads_in before.stacks.items) t

pub added_places : (t : Thread) (s : Stack) (before now : Threads) → ArePlaces before → IsAdded t s before now → ArePlaces now
added_places t s before now are is = record {
  of_map = λ q i e. mapped q i (is_eq (order t q)) refl e;
  of_stacks = λ q i e. stacked q i (pushed_got (threads_in before.stacks.items) t i q (ap (λ (ts : List Thread). slice_get ts i) (sym (threads_now t s before now is)) ∙ e));
}
  where
    mapped : (q : Thread) (i : ℕ) (same : Bool) → is_eq (order t q) ≡ same → get order now.map q ≡ Some i → thread_at now.stacks.items i ≡ Some q
    mapped q i true same e =
        let at : length before.stacks.items ≡ i = some_same _ _ (sym (is.map_now q ∙ cond-true (is_eq (order t q)) (Some (length before.stacks.items)) (get order before.map q) same) ∙ e) in
        ap (thread_at now.stacks.items) (sym at) ∙ added_there t s before now is ∙ ap Some (order_is t q same)
    mapped q i false same e =
        ap (λ (ts : List Thread). slice_get ts i) (threads_now t s before now is) ∙ front_got (threads_in before.stacks.items) (t ∷ []) i q
        (are.of_map q i (sym (is.map_now q ∙ cond-false (is_eq (order t q)) (Some (length before.stacks.items)) (get order before.map q) same) ∙ e))

    other : (q : Thread) (i : ℕ) (same : Bool) → is_eq (order t q) ≡ same → get order before.map q ≡ Some i → get order now.map q ≡ Some i
    other q i true same e = absurd (grind (arith, sym e ∙ ap (get order before.map) (sym (order_is t q same)) ∙ is.none))
    other q i false same e = is.map_now q ∙ cond-false (is_eq (order t q)) (Some (length before.stacks.items)) (get order before.map q) same ∙ e

    stacked : (q : Thread) (i : ℕ) → (thread_at before.stacks.items i ≡ Some q) ⊎ ((i ≡ length (threads_in before.stacks.items)) × (t ≡ q)) → get order now.map q ≡ Some i
    stacked q i (inl old) = other q i (is_eq (order t q)) refl (are.of_stacks q i old)
    stacked q i (inr last) = is.map_now q ∙ cond-true (is_eq (order t q)) (Some (length before.stacks.items)) (get order before.map q) (same_order t q last.1)
        ∙ ap Some (sym (last.0 ∙ threads_long before.stacks.items))

-- a stack that tells nothing changes nothing of what stacks tell
added_look : {A : Type 0} (look : Option Stack → A) (t : Thread) (s : Stack) (before now : Threads) → ArePlaces before → IsAdded t s before now → look (Some s) ≡ look None
    → (q : Thread) → look (stack_of now q) ≡ look (stack_of before q)
added_look look t s before now are is nothing q = by (is_eq (order t q)) refl
  where
    old : (o : Option ℕ) → get order before.map q ≡ o → stack_at now.stacks.items o ≡ stack_at before.stacks.items o
    old None e = refl
    old (Some i) e = let got = got_stack before.stacks.items i q (are.of_map q i e) in
        ap (λ (xs : List Stack). slice_get xs i) is.stacks ∙ front_got before.stacks.items (s ∷ []) i got.0 got.1 ∙ sym got.1

    by : (same : Bool) → is_eq (order t q) ≡ same → look (stack_of now q) ≡ look (stack_of before q)
    by true same =
        ap (λ (o : Option ℕ). look (stack_at now.stacks.items o)) (is.map_now q ∙ cond-true (is_eq (order t q)) (Some (length before.stacks.items)) (get order before.map q) same)
        ∙ ap (λ (xs : List Stack). look (slice_get xs (length before.stacks.items))) is.stacks ∙ ap look (last_got before.stacks.items s) ∙ nothing
        ∙ ap (λ (o : Option ℕ). look (stack_at before.stacks.items o)) (sym is.none ∙ ap (get order before.map) (order_is t q same))
    by false same =
        ap (λ (o : Option ℕ). look (stack_at now.stacks.items o)) (is.map_now q ∙ cond-false (is_eq (order t q)) (Some (length before.stacks.items)) (get order before.map q) same)
        ∙ ap look (old (get order before.map q) refl)

pub added_told : (t : Thread) (s : Stack) (before now : Threads) → ArePlaces before → IsAdded t s before now → s.last ≡ None → KeepsTold before now
added_told t s before now are is last = record {
  lasts = λ since q. added_look (last_in since) t s before now are is (nothing_last since s last) q;
  opens = λ since q. added_look (opens_in since) t s before now are is (nothing_open since s last) q;
}
  where
    nothing_last : (since : ℕ) (s : Stack) → s.last ≡ None → last_in since (Some s) ≡ last_in since None
    nothing_last since s none = rw none refl

    nothing_open : (since : ℕ) (s : Stack) → s.last ≡ None → opens_in since (Some s) ≡ opens_in since None
    nothing_open since s none = rw none refl

-- a thread's stack is changed where it stands
pub record IsChanged (t : Thread) (i : ℕ) (was s : Stack) (before now : Threads) : Type 0 where
  pub at : thread_at before.stacks.items i ≡ Some t
  pub was_there : slice_get before.stacks.items i ≡ Some was
  pub own : s.thread ≡ was.thread
  pub map_now : now.map ≡ before.map
  pub stacks : now.stacks.items ≡ set before.stacks.items i s

pub is_changed : (t u : Thread) (i : ℕ) (was s : Stack) (before now : Threads) → u ≡ t → thread_at before.stacks.items i ≡ Some u → was ≡ get_or before.stacks.items i was → s.thread ≡ was.thread
    → now.map ≡ before.map → now.stacks.items ≡ set before.stacks.items i s → IsChanged t i was s before now
is_changed t u i was s before now same at read own mapped stacks = record {
  at = at ∙ ap Some same;
  was_there = slice_get_read before.stacks.items (length before.stacks.items) i was refl (omega (arith, slice_get_within (threads_in before.stacks.items) i u at, threads_long before.stacks.items)) read;
  own = own;
  map_now = mapped;
  stacks = stacks;
}

was_own : (t : Thread) (i : ℕ) (was s : Stack) (before now : Threads) → IsChanged t i was s before now → was.thread ≡ t
was_own t i was s before now is = some_same was.thread t (sym (ap (option_map (λ (x : Stack). x.thread)) is.was_there) ∙ sym (slice_get-map (λ (x : Stack). x.thread) before.stacks.items i) ∙ is.at)

threads_kept : (t : Thread) (i : ℕ) (was s : Stack) (before now : Threads) → IsChanged t i was s before now → threads_in now.stacks.items ≡ threads_in before.stacks.items
threads_kept t i was s before now is = ap threads_in is.stacks
    ∙ same_threads before.stacks.items i s (is.at ∙ ap Some (sym (is.own ∙ was_own t i was s before now is)))

pub changed_places : (t : Thread) (i : ℕ) (was s : Stack) (before now : Threads) → ArePlaces before → IsChanged t i was s before now → ArePlaces now
changed_places t i was s before now are is = record {
  of_map = λ q j e. ap (λ (ts : List Thread). slice_get ts j) (threads_kept t i was s before now is) ∙ are.of_map q j (ap (λ m. get order m q) (sym is.map_now) ∙ e);
  of_stacks = λ q j e. ap (λ m. get order m q) is.map_now ∙ are.of_stacks q j (ap (λ (ts : List Thread). slice_get ts j) (sym (threads_kept t i was s before now is)) ∙ e);
}

-- its stack was the one that stood there
pub own_before : (t : Thread) (i : ℕ) (was s : Stack) (before now : Threads) → ArePlaces before → IsChanged t i was s before now → stack_of before t ≡ Some was
own_before t i was s before now are is = ap (stack_at before.stacks.items) (are.of_stacks t i is.at) ∙ is.was_there

own_now : (t : Thread) (i : ℕ) (was s : Stack) (before now : Threads) → ArePlaces before → IsChanged t i was s before now → stack_of now t ≡ Some s
own_now t i was s before now are is = ap (λ m. stack_at now.stacks.items (get order m t)) is.map_now ∙ ap (stack_at now.stacks.items) (are.of_stacks t i is.at)
    ∙ ap (λ (xs : List Stack). slice_get xs i) is.stacks ∙ set_got before.stacks.items i was s is.was_there

others_now : (t : Thread) (i : ℕ) (was s : Stack) (before now : Threads) → ArePlaces before → IsChanged t i was s before now
    → (q : Thread) → is_same t q ≡ false → stack_of now q ≡ stack_of before q
others_now t i was s before now are is q apart = ap (λ m. stack_at now.stacks.items (get order m q)) is.map_now ∙ by (get order before.map q) refl
  where
    by : (o : Option ℕ) → get order before.map q ≡ o → stack_at now.stacks.items o ≡ stack_at before.stacks.items o
    by None e = refl
    by (Some j) e = ap (λ (xs : List Stack). slice_get xs j) is.stacks
        ∙ set_apart before.stacks.items i j s (λ same. false≢true (sym apart ∙ is_same_from t q (some_same t q (sym is.at ∙ ap (thread_at before.stacks.items) (sym same) ∙ are.of_map q j e))))

-- stacks that tell the same, and then one that is changed
pub put_changed : (since : ℕ) (t : Thread) (i : ℕ) (was s : Stack) (before mid now : Threads) → KeepsTold before mid → ArePlaces mid → IsChanged t i was s mid now → IsPut since t s before now
put_changed since t i was s before mid now kept are is = record {
  own = own_now t i was s mid now are is;
  lasts = λ q apart. ap (last_in since) (others_now t i was s mid now are is q apart) ∙ kept.lasts since q;
  opens = λ q apart. ap (opens_in since) (others_now t i was s mid now are is q apart) ∙ kept.opens since q;
}

-- what its stack told before
pub was_open : (since : ℕ) (t : Thread) (i : ℕ) (was s : Stack) (before mid now : Threads) → KeepsTold before mid → ArePlaces mid → IsChanged t i was s mid now
    → opens_in since (Some was) ≡ opens_in since (stack_of before t)
was_open since t i was s before mid now kept are is = ap (opens_in since) (sym (own_before t i was s mid now are is)) ∙ kept.opens since t

pub was_last : (since : ℕ) (t : Thread) (i : ℕ) (was s : Stack) (before mid now : Threads) → KeepsTold before mid → ArePlaces mid → IsChanged t i was s mid now
    → last_in since (Some was) ≡ last_in since (stack_of before t)
was_last since t i was s before mid now kept are is = ap (last_in since) (sym (own_before t i was s mid now are is)) ∙ kept.lasts since t

pub entered : (since place : ℕ) (e : GraphEvent) (i : ℕ) (was s : Stack) (before mid now : Threads) → KeepsTold before mid → ArePlaces mid → IsChanged (thread_of e) i was s mid now
    → s.last ≡ Some place → reverse s.opens.items ≡ record { place = place; entry = e } ∷ shallower e.depth (opens_in since (Some was)) → IsEntered since place e before now
entered since place e i was s before mid now kept are is last opens = record {
  stack = s;
  put = put_changed since (thread_of e) i was s before mid now kept are is;
  last = last;
  opens = opens ∙ ap (λ (l : List Open). record { place = place; entry = e } ∷ shallower e.depth l) (was_open since (thread_of e) i was s before mid now kept are is);
}

pub left : (since place : ℕ) (x : GraphEvent) (i : ℕ) (was s : Stack) (left : Left) (before mid now : Threads) → KeepsTold before mid → ArePlaces mid → IsChanged (thread_of x) i was s mid now
    → s.last ≡ Some place → reverse s.opens.items ≡ shallower x.depth (opens_in since (Some was))
    → left.top ≡ closing x (shallower (x.depth + 1) (opens_in since (Some was))) → left.last ≡ last_in since (Some was) → IsLeft since place x left before now
left since place x i was s gone before mid now kept are is last opens top latest =
    let same = was_open since (thread_of x) i was s before mid now kept are is in
    record {
      stack = s;
      put = put_changed since (thread_of x) i was s before mid now kept are is;
      last = last;
      opens = opens ∙ ap (λ (l : List Open). shallower x.depth l) same;
      top = top ∙ ap (λ (l : List Open). closing x (shallower (x.depth + 1) l)) same;
      latest = latest ∙ was_last since (thread_of x) i was s before mid now kept are is;
    }
