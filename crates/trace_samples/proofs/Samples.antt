-- Items that go into a sample sub-buffer one by one, and what a sub-buffer tells that none go into.
use Rattle.std.proofs.Common.{◌≡◌, ℕ, suc, ◌+◌, ◌^◌, ◌<◌, true, ltb, List, [], ◌∷◌, ◌++◌, length, map, drop, get_or, Option, Some, None, IfSome, refl, sym, ap, subst, ◌∙◌, append_assoc, arith}
use Rattle.std.proofs.Math.Seq.{drop-cons}
use Rattle.std.proofs.lemmas.Bool.{lt-ltb}
use Rattle.std.proofs.lemmas.List.{length-drop}
use Rattle.trace_base.specs.declared.layout.Layout.{Layout}
use Rattle.trace_base.specs.declared.order.Order.TheVariants.{Little}
use Rattle.trace_base.specs.Layout.{IsLayout}
use Rattle.trace_base.proofs.Layouts.{carried}
use Rattle.trace_base.specs.Number.{bytes_of}
use Rattle.subpage.specs.ItemData.{ItemData, EventAt, LossAt}
use Rattle.subpage.specs.Page.{commit_word, committed_size, data_area, items}
use Rattle.page_write.specs.declared.added.Added.{Added}
use Rattle.page_write.specs.declared.added.Added.TheVariants as code
use Rattle.page_write.specs.Record.{records_text}
use Rattle.page_write.specs.PageBytes.{one_page, IsPackable}
use Rattle.page_write.specs.Adding.{Adds}
use Rattle.page_write.proofs.Numbers.{length-bytes_of}
use Rattle.page_write.proofs.Packable.{few_packable}
use Rattle.page_write.proofs.Packing.{front_one}
use Rattle.trace_samples.specs.SampleLayout.{sample_layout}
use Rattle.trace_samples.specs.Told.{sample_event}

pub is_layout : IsLayout sample_layout
is_layout = carried sample_layout

pub event_packable : (layout : Layout) (time : ℕ) (payload : List ℕ) → layout ≡ sample_layout → time < 2 ^ 64 → payload ≡ bytes_of Little 8 time → IsPackable layout (EventAt time payload)
event_packable layout time payload same early is =
    subst (λ (l : Layout). IsPackable l (EventAt time payload)) (sym same)
    (few_packable sample_layout time payload is_layout early (omega (arith, ap length is, length-bytes_of Little 8 time)))

pub loss_packable : (time : ℕ) (count : Option ℕ) → time < 2 ^ 64 → IfSome count (λ n. n < 2 ^ 64) → IsPackable sample_layout (LossAt time count)
unfolding records_text
loss_packable time None early few = record { time = early; number = tt; alone = refl }
loss_packable time (Some n) early few = record { time = early; number = few; alone = refl }

one_more : (held now : List ItemData) (x : ItemData) (answer : Added) → one_page sample_layout (held ++ x ∷ []) ≡ true → Adds sample_layout held x (λ h. now ≡ h) answer → now ≡ held ++ x ∷ []
one_more held now x code.Added one adds = adds.1
one_more held now x code.Full one adds = absurd cc

-- an event more is held of those that one sub-buffer can tell
pub goes_on : (layout : Layout) (first held now : List ItemData) (times payload : List ℕ) (i : ℕ) (answer : Added)
    → layout ≡ sample_layout → i < length times → payload ≡ bytes_of Little 8 (get_or times i 0)
    → held ++ map sample_event (drop i times) ≡ first ++ map sample_event times
    → Adds layout held (EventAt (get_or times i 0) payload) (λ h. now ≡ h) answer
    → one_page sample_layout (first ++ map sample_event times) ≡ true
    → now ++ map sample_event (drop (i + 1) times) ≡ first ++ map sample_event times
goes_on layout first held now times payload i answer same inside is so_far adds one =
    let x = sample_event (get_or times i 0) in
    let rest = map sample_event (drop (i + 1) times) in
    let next : suc i ≡ i + 1 = omega arith in
    let cut : drop i times ≡ get_or times i 0 ∷ drop (i + 1) times = subst (λ (n : ℕ). drop i times ≡ get_or times i 0 ∷ drop n times) next (drop-cons times i 0 inside) in
    let parts : held ++ (x ∷ rest) ≡ first ++ map sample_event times = ap (λ (ts : List ℕ). held ++ map sample_event ts) (sym cut) ∙ so_far in
    let joined : (held ++ x ∷ []) ++ rest ≡ held ++ (x ∷ rest) = append_assoc held (x ∷ []) rest in
    let fits : one_page sample_layout (held ++ x ∷ []) ≡ true = front_one sample_layout (held ++ x ∷ []) rest (subst (λ (xs : List ItemData). one_page sample_layout xs ≡ true) (sym (joined ∙ parts)) one) in
    let here : Adds sample_layout held (EventAt (get_or times i 0) payload) (λ h. now ≡ h) answer = subst (λ (l : Layout). Adds l held (EventAt (get_or times i 0) payload) (λ h. now ≡ h) answer) same adds in
    let added : Adds sample_layout held x (λ h. now ≡ h) answer = subst (λ (bytes : List ℕ). Adds sample_layout held (EventAt (get_or times i 0) bytes) (λ h. now ≡ h) answer) is here in
    ap (λ (h : List ItemData). h ++ rest) (one_more held now x answer fits added) ∙ joined ∙ parts

-- the first item is held
pub begins : (layout : Layout) (held now : List ItemData) (x y : ItemData) (answer : Added) → layout ≡ sample_layout → held ≡ [] → y ≡ x → one_page sample_layout (x ∷ []) ≡ true → Adds layout held y (λ h. now ≡ h) answer → now ≡ x ∷ []
begins layout held now x y answer same empty is one adds =
    let here : Adds sample_layout held y (λ h. now ≡ h) answer = subst (λ (l : Layout). Adds l held y (λ h. now ≡ h) answer) same adds in
    let first : Adds sample_layout [] y (λ h. now ≡ h) answer = subst (λ (hs : List ItemData). Adds sample_layout hs y (λ h. now ≡ h) answer) empty here in
    one_more [] now x answer one (subst (λ (z : ItemData). Adds sample_layout [] z (λ h. now ≡ h) answer) is first)

-- more is committed than there is room for
pub over_full : (page : List ℕ) → length page ≡ 4096 → commit_word sample_layout page ≡ 5000 → items sample_layout page ≡ None
unfolding items
over_full page whole word =
    let size : committed_size (commit_word sample_layout page) ≡ 5000 = ap committed_size word in
    let over : ltb (length (data_area sample_layout page)) (committed_size (commit_word sample_layout page)) ≡ true = lt-ltb _ _ (omega (arith, size, length-drop 16 page, whole)) in
    rw over refl
