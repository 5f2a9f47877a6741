-- One item more, in the pass for the size and in the pass for the bytes.
use Rattle.std.proofs.Common.{◌≡◌, ℕ, ◌+◌, true, false, List, [], ◌∷◌, ◌++◌, length, Option, None, Some, refl, sym, ap, subst, ◌∙◌, append-nil, arith}
use Rattle.std.specs.List.{flat_map}
use Rattle.std.specs.Io.KnownBytes.{append_known}
use Rattle.std.proofs.lemmas.List.{length-append}
use Rattle.std.proofs.lemmas.Grind.{flat_map-append}
use Rattle.trace_base.specs.declared.layout.Layout.{Layout}
use Rattle.trace_outside.specs.Writing.{Gained, GainedPrefix}
use Rattle.trace_outside.proofs.Gains.{gained_both, prefix_behind, gained_nothing}
use Rattle.subpage.specs.ItemData.{ItemData, last_time}
use Rattle.page_write.specs.declared.fill.Fill.{Fill}
use Rattle.page_write.specs.declared.added.Added.{Added}
use Rattle.page_write.specs.declared.added.Added.TheVariants as code
use Rattle.page_write.specs.Adding.{Adds, IsRunAfter}
use Rattle.page_write.specs.PageBytes.{one_page, page_of}
use Rattle.page_write.specs.Fill.{IsFill}
use Rattle.page_write.specs.Pack.{packed, pack}
use Rattle.page_write.specs.SoFar.{open_page, IsSoFar, packed_on}
use Rattle.page_write.proofs.Joined.{nothing_so_far, added_so_far, full_so_far, full_goes_on, ends_so_far, not_empty_after, all_added_so_far}
use Rattle.page_write.specs.declared.count.PageCount.{PageCount}
use Rattle.page_write.specs.Passes.{IsPageCount, HasPages}

pub has_added : (l : Layout) (before now : Option (List ℕ)) (xs held : List ItemData) (x : ItemData) → one_page l (held ++ x ∷ []) ≡ true → HasPages l before now xs held → HasPages l before now (xs ++ x ∷ []) (held ++ x ∷ [])
has_added l before now xs held x one h = record { closed = h.closed; so_far = added_so_far l xs h.closed held x h.so_far one; gained = h.gained }

pub has_full : (l : Layout) (before old now : Option (List ℕ)) (xs held : List ItemData) (x : ItemData) → one_page l (x ∷ []) ≡ true → one_page l (held ++ x ∷ []) ≡ false → Gained old now (page_of l held) → HasPages l before old xs held → HasPages l before now (xs ++ x ∷ []) (x ∷ [])
has_full l before old now xs held x alone full gained h =
    let more : flat_map (page_of l) (h.closed ++ held ∷ []) ≡ flat_map (page_of l) h.closed ++ page_of l held =
    flat_map-append (page_of l) h.closed (held ∷ []) ∙ ap (λ (t : List ℕ). flat_map (page_of l) h.closed ++ t) (append-nil (page_of l held)) in
    record {
      closed = h.closed ++ held ∷ [];
      so_far = full_so_far l xs h.closed held x h.so_far alone full;
      gained = gained_both before old now (flat_map (page_of l) h.closed) (page_of l held) h.gained gained ∙ ap (append_known before) (sym more);
    }

-- a prefix of a sub-buffer of the packing
page_prefix : (l : Layout) (before old now : Option (List ℕ)) (closed : List (List ItemData)) (held : List ItemData) (rest : List (List ItemData)) (xs : List ItemData) → packed l xs ≡ closed ++ held ∷ rest
    → Gained before old (flat_map (page_of l) closed) → GainedPrefix old now (page_of l held) → GainedPrefix before now (pack l xs)
unfolding pack
page_prefix l before old now closed held rest xs is gained some =
    prefix_behind before old now (flat_map (page_of l) closed) (page_of l held) (flat_map (page_of l) rest) (flat_map (page_of l) (packed l xs))
    (ap (flat_map (page_of l)) is ∙ flat_map-append (page_of l) closed (held ∷ rest)) gained some

pub failed_full : (l : Layout) (before old now : Option (List ℕ)) (xs ys held : List ItemData) (x : ItemData) → one_page l (x ∷ []) ≡ true → one_page l (held ++ x ∷ []) ≡ false → GainedPrefix old now (page_of l held) → HasPages l before old xs held → GainedPrefix before now (pack l (xs ++ x ∷ ys))
failed_full l before old now xs ys held x alone full some h =
    page_prefix l before old now h.closed held (packed_on l (x ∷ []) ys) (xs ++ x ∷ ys) (full_goes_on l xs h.closed held x ys h.so_far alone full) h.gained some

-- the first item of a sub-buffer goes in
pub goes_in : (l : Layout) (held new : List ItemData) (x : ItemData) (r : Added) → held ≡ [] → one_page l (x ∷ []) ≡ true → Adds l held x (λ now. new ≡ now) r → new ≡ x ∷ []
goes_in l held new x code.Added none alone a = a.1 ∙ ap (λ (h : List ItemData). h ++ x ∷ []) none
goes_in l held new x code.Full none alone a = let never : true ≡ false = sym alone ∙ subst (λ (h : List ItemData). one_page l (h ++ x ∷ []) ≡ false) none a.0 in absurd cc

pub fill_goes_in : (l : Layout) (new : Option Fill) (x : ItemData) (r : Added) → one_page l (x ∷ []) ≡ true → Adds l [] x (IsFill l new) r → IsFill l new (x ∷ [])
fill_goes_in l new x code.Added alone a = a.1
fill_goes_in l new x code.Full alone a = let never : true ≡ false = sym alone ∙ a.0 in absurd cc

pub none_fill : (l : Layout) → IsFill l None []
none_fill l = record { one = refl; fill_is = refl }

pub no_size : (l : Layout) (room : Option Fill) → room ≡ None → IsPageCount l (record { room = room; pages = 0 }) []
unfolding packed
no_size l room none = record { closed = []; held = []; so_far = nothing_so_far l; fill = record { one = refl; fill_is = none }; pages = refl; none = λ _. refl }

count_of : (l : Layout) (xs : List ItemData) (closed : List (List ItemData)) (held : List ItemData) → IsSoFar l xs closed held → length (packed l xs) ≡ length closed + length (open_page held)
count_of l xs closed held far = ap length (ends_so_far l xs closed held far) ∙ length-append closed (open_page held)

counted_more : (l : Layout) (old new : ℕ) (xs : List ItemData) (closed : List (List ItemData)) (held : List ItemData) (x : ItemData) → old ≡ length (packed l xs) → (held ≡ [] → old ≡ 0) → IsSoFar l xs closed held → IsSoFar l (xs ++ x ∷ []) closed (held ++ x ∷ [])
    → (old ≡ 0 → new ≡ 1) → ((old ≡ 0 → ⊥) → new ≡ old) → new ≡ length (packed l (xs ++ x ∷ []))
counted_more l old new xs closed [] x is none before after first further =
    let zero_pages : old ≡ 0 = none refl in
    let here = count_of l xs closed [] before in
    let there = count_of l (xs ++ x ∷ []) closed (x ∷ []) after in
    omega (arith, zero_pages, first zero_pages, is, here, there)
counted_more l old new xs closed (h ∷ hs) x is none before after first further =
    let here = count_of l xs closed (h ∷ hs) before in
    let there = count_of l (xs ++ x ∷ []) closed (h ∷ hs ++ x ∷ []) after in
    let same : new ≡ old = further (λ e. omega (arith, e, is, here)) in
    omega (arith, same, is, here, there)

not_none : (held : List ItemData) (x : ItemData) (n : ℕ) → held ++ x ∷ [] ≡ [] → n ≡ 0
not_none held x n e = absurd (not_empty_after held x e)

-- an item that goes in: the first opens a sub-buffer, and a further one does not
pub size_added : (l : Layout) (old new : PageCount) (xs : List ItemData) (x : ItemData) → ((held : List ItemData) → IsFill l old.room held → (one_page l (held ++ x ∷ []) ≡ true) × IsFill l new.room (held ++ x ∷ []))
    → (old.pages ≡ 0 → new.pages ≡ 1) → ((old.pages ≡ 0 → ⊥) → new.pages ≡ old.pages) → IsPageCount l old xs → IsPageCount l new (xs ++ x ∷ [])
size_added l old new xs x add first further s =
    let a = add s.held s.fill in
    let far = added_so_far l xs s.closed s.held x s.so_far a.0 in
    record { closed = s.closed; held = s.held ++ x ∷ []; so_far = far; fill = a.1; pages = counted_more l old.pages new.pages xs s.closed s.held x s.pages s.none s.so_far far first further; none = not_none s.held x new.pages }

-- an item that opens a further sub-buffer
pub size_full : (l : Layout) (old new : PageCount) (xs : List ItemData) (x : ItemData) → one_page l (x ∷ []) ≡ true → ((held : List ItemData) → IsFill l old.room held → one_page l (held ++ x ∷ []) ≡ false) → IsFill l new.room (x ∷ []) → new.pages ≡ old.pages + 1
    → IsPageCount l old xs → IsPageCount l new (xs ++ x ∷ [])
size_full l old new xs x alone add fill more s =
    let full = add s.held s.fill in
    let far = full_so_far l xs s.closed s.held x s.so_far alone full in
    let there = count_of l (xs ++ x ∷ []) (s.closed ++ s.held ∷ []) (x ∷ []) far in
    record { closed = s.closed ++ s.held ∷ []; held = x ∷ []; so_far = far; fill = fill; pages = counted s.held full (count_of l xs s.closed s.held s.so_far) there; none = λ e. absurd cc }
  where
    counted : (held : List ItemData) → one_page l (held ++ x ∷ []) ≡ false → length (packed l xs) ≡ length s.closed + length (open_page held) → length (packed l (xs ++ x ∷ [])) ≡ length (s.closed ++ s.held ∷ []) + 1 → new.pages ≡ length (packed l (xs ++ x ∷ []))
    counted [] never here there = let no_way : true ≡ false = sym alone ∙ never in absurd cc
    counted (h ∷ hs) never here there = omega (arith, more, s.pages, here, there, length-append s.closed (s.held ∷ []))

-- a run after the last item goes into the open sub-buffer
pub size_run : (l : Layout) (old new : PageCount) (xs ys : List ItemData) (run : List ℕ) (end : ℕ) → (count : IsPageCount l old xs) → IsRunAfter l count.held run end ys → IsFill l new.room (count.held ++ ys) → new.pages ≡ old.pages
    → IsPageCount l new (xs ++ ys)
size_run l old new xs ys run end count after fill same =
    let far = all_added_so_far l xs count.closed count.held ys count.so_far fill.one in
    record {
      closed = count.closed;
      held = count.held ++ ys;
      so_far = far;
      fill = fill;
      pages = same ∙ count.pages ∙ count_of l xs count.closed count.held count.so_far ∙ more count.held (no_last count.held after.start after.last) (count_of l (xs ++ ys) count.closed (count.held ++ ys) far);
      none = λ e. absurd (none_of count.held (no_last count.held after.start after.last) e);
    }
  where
    no_last : (held : List ItemData) (start : ℕ) → last_time held ≡ Some start → held ≡ [] → ⊥
    no_last held start is none = let e : None ≡ Some start = ap last_time (sym none) ∙ is in absurd cc

    none_of : (held : List ItemData) → (held ≡ [] → ⊥) → held ++ ys ≡ [] → ⊥
    none_of [] some e = some refl
    none_of (h ∷ hs) some e = absurd cc

    more : (held : List ItemData) → (held ≡ [] → ⊥) → length (packed l (xs ++ ys)) ≡ length count.closed + length (open_page (held ++ ys)) → length count.closed + length (open_page held) ≡ length (packed l (xs ++ ys))
    more [] some there = absurd (some refl)
    more (h ∷ hs) some there = omega (arith, there)

-- the end, where no sub-buffer is open and where one is
pub none_left : (l : Layout) (before now : Option (List ℕ)) (xs : List ItemData) → HasPages l before now xs [] → Gained before now (pack l xs)
unfolding pack
none_left l before now xs h =
    let whole : flat_map (page_of l) (packed l xs) ≡ flat_map (page_of l) h.closed = ap (flat_map (page_of l)) (ends_so_far l xs h.closed [] h.so_far ∙ append-nil h.closed) in
    h.gained ∙ ap (append_known before) (sym whole)

last_is : (l : Layout) (xs : List ItemData) (closed : List (List ItemData)) (held : List ItemData) → (held ≡ [] → ⊥) → IsSoFar l xs closed held → packed l xs ≡ closed ++ held ∷ []
last_is l xs closed [] some far = absurd (some refl)
last_is l xs closed (h ∷ hs) some far = ends_so_far l xs closed (h ∷ hs) far

pub last_page : (l : Layout) (before old now : Option (List ℕ)) (xs held : List ItemData) → (held ≡ [] → ⊥) → Gained old now (page_of l held) → HasPages l before old xs held → Gained before now (pack l xs)
unfolding pack
last_page l before old now xs held some gained h =
    let whole : flat_map (page_of l) (packed l xs) ≡ flat_map (page_of l) h.closed ++ page_of l held =
    ap (flat_map (page_of l)) (last_is l xs h.closed held some h.so_far) ∙ flat_map-append (page_of l) h.closed (held ∷ []) ∙ ap (λ (t : List ℕ). flat_map (page_of l) h.closed ++ t) (append-nil (page_of l held)) in
    gained_both before old now (flat_map (page_of l) h.closed) (page_of l held) h.gained gained ∙ ap (append_known before) (sym whole)

pub failed_last : (l : Layout) (before old now : Option (List ℕ)) (xs held : List ItemData) → (held ≡ [] → ⊥) → GainedPrefix old now (page_of l held) → HasPages l before old xs held → GainedPrefix before now (pack l xs)
failed_last l before old now xs held some prefix h =
    page_prefix l before old now h.closed held [] xs (last_is l xs h.closed held some h.so_far) h.gained prefix

pub nothing_yet : (l : Layout) (told : Option (List ℕ)) → HasPages l told told [] []
nothing_yet l told = record { closed = []; so_far = nothing_so_far l; gained = gained_nothing told }

pub no_pages : (l : Layout) (told : Option (List ℕ)) (held : List ItemData) → held ≡ [] → HasPages l told told [] held
no_pages l told held none = subst (λ (h : List ItemData). HasPages l told told [] h) (sym none) (nothing_yet l told)
