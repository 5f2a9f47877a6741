-- The whole sub-buffer around its records.
use Rattle.std.proofs.Common.{◌≡◌, ℕ, ◌+◌, ◌-◌, List, [], ◌∷◌, ◌++◌, length, take, drop, Some, None, refl, sym, ap, subst, ◌∙◌, append_assoc, append-nil, arith}
use Rattle.std.proofs.lemmas.List.{length-append, length-drop, take_at, drop_at, drop_all, take-append-drop, length-replicate}
use Rattle.std.proofs.lemmas.List.Elements.{All-head}
use Rattle.trace_base.specs.declared.layout.Layout.{Layout}
use Rattle.trace_base.specs.Layout.{IsLayout}
use Rattle.trace_base.specs.Number.{bytes_of}
use Rattle.subpage.specs.ItemData.{ItemData, EventAt, LossAt}
use Rattle.subpage.specs.Page.{items}
use Rattle.page_write.specs.declared.open_page.OpenPage.{OpenPage}
use Rattle.page_write.specs.declared.open_page.Lost.{Lost}
use Rattle.page_write.specs.declared.open_page.Lost.TheVariants as code
use Rattle.page_write.specs.Record.{zeros}
use Rattle.page_write.specs.PageBytes.{put_at, number_text, loss_bits, records, data_text, area_len, front_text, page_of, IsPackable}
use Rattle.page_write.specs.Held.{lost_of, lost_bits, lost_text, LostFits, HoldsAll, Holds}
use Rattle.page_write.proofs.Places.{put_next}
use Rattle.page_write.proofs.Pages.{front_long, page_reads_back}
use Rattle.page_write.proofs.Holding.{number_is, held_room}

no_number : (l : Layout) (lost : Lost) → ((n : ℕ) → lost ≡ code.Counted n → ⊥) → lost_text l lost ≡ []
no_number l code.Nothing never = refl
no_number l code.Uncounted never = refl
no_number l (code.Counted n) never = absurd (never n refl)

-- nothing is put
put_nothing : (at : ℕ) (bytes : List ℕ) → put_at at [] bytes ≡ bytes
unfolding put_at
put_nothing at bytes =
    let none : at + 0 ≡ at = omega arith in
    ap (λ (n : ℕ). take at bytes ++ drop n bytes) none ∙ take-append-drop at bytes

pub no_lost : (l : Layout) (lost : Lost) (at : ℕ) (bytes : List ℕ) → ((n : ℕ) → lost ≡ code.Counted n → ⊥) → (bytes ≡ put_at at (lost_text l lost) bytes) × (at ≡ at + length (lost_text l lost))
no_lost l lost at bytes never =
    let none = no_number l lost never in
    let long : length (lost_text l lost) ≡ 0 = ap length none in
    (sym (ap (λ (t : List ℕ). put_at at t bytes) none ∙ put_nothing at bytes), omega (arith, long))

-- a piece that reaches to the end
put_to_end : (at : ℕ) (piece bytes : List ℕ) → at + length piece ≡ length bytes → put_at at piece bytes ≡ take at bytes ++ piece
unfolding put_at
put_to_end at piece bytes all =
    let none : drop (at + length piece) bytes ≡ [] = drop_all (at + length piece) bytes (omega (arith, all)) in
    ap (λ (t : List ℕ). take at bytes ++ (piece ++ t)) none ∙ ap (λ (t : List ℕ). take at bytes ++ t) (append-nil piece)

pub filled_behind : (at place count : ℕ) (piece bytes : List ℕ) → place ≡ at + length piece → place + count ≡ length bytes → put_at place (zeros count) (put_at at piece bytes) ≡ take at bytes ++ (piece ++ zeros count)
filled_behind at place count piece bytes is all =
    put_next at place piece (zeros count) bytes is (omega (arith, all))
    ∙ put_to_end at (piece ++ zeros count) bytes (omega (arith, length-append piece (zeros count), length-replicate {A = ℕ} count 0, is, all))

bits_are : (x : ItemData) (xs : List ItemData) → loss_bits (x ∷ xs) ≡ lost_bits (lost_of x)
bits_are (EventAt time payload) xs = refl
bits_are (LossAt time None) xs = refl
bits_are (LossAt time (Some count)) xs = refl

pub finished : (l : Layout) (page : OpenPage) (bytes : List ℕ) (x : ItemData) (xs : List ItemData) (front area : List ℕ) → IsLayout l → length bytes ≡ l.page → HoldsAll l page bytes x xs
    → front ≡ put_at l.commit_at (bytes_of l.order l.commit_size (page.used + lost_bits page.lost)) (put_at l.time_at (bytes_of l.order 8 page.start) (zeros l.data_at))
    → area ≡ take page.used (drop l.data_at bytes) ++ (lost_text l page.lost ++ zeros (length (drop l.data_at bytes) - (page.used + length (lost_text l page.lost))))
    → front ++ area ≡ page_of l (x ∷ xs)
unfolding page_of front_text
finished l page bytes x xs front area allowed whole h front_is area_is =
    let number : lost_text l page.lost ≡ number_text l (x ∷ xs) = ap (lost_text l) h.lost ∙ sym (number_is l x xs) in
    let bits : page.used + lost_bits page.lost ≡ length (records l (x ∷ xs)) + loss_bits (x ∷ xs) = ap (λ (n : ℕ). n + lost_bits page.lost) h.used ∙ ap (λ (lost : Lost). length (records l (x ∷ xs)) + lost_bits lost) h.lost ∙ ap (λ (n : ℕ). length (records l (x ∷ xs)) + n) (sym (bits_are x xs)) in
    let r = held_room l page bytes x xs h in
    let left : length (drop l.data_at bytes) - (page.used + length (lost_text l page.lost)) ≡ area_len l - length (data_text l (x ∷ xs)) = omega (arith, r.0, length-drop l.data_at bytes, whole) in
    let front_same : front ≡ front_text l (x ∷ xs) = front_is
    ∙ ap (λ (n : ℕ). put_at l.commit_at (bytes_of l.order l.commit_size n) (put_at l.time_at (bytes_of l.order 8 page.start) (zeros l.data_at))) bits
    ∙ ap (λ (n : ℕ). put_at l.commit_at (bytes_of l.order l.commit_size (length (records l (x ∷ xs)) + loss_bits (x ∷ xs))) (put_at l.time_at (bytes_of l.order 8 n) (zeros l.data_at))) h.start in
    let area_same : area ≡ data_text l (x ∷ xs) ++ zeros (area_len l - length (data_text l (x ∷ xs))) = area_is
    ∙ ap (λ (t : List ℕ). t ++ (lost_text l page.lost ++ zeros (length (drop l.data_at bytes) - (page.used + length (lost_text l page.lost))))) h.records_are
    ∙ ap (λ (t : List ℕ). records l (x ∷ xs) ++ (t ++ zeros (length (drop l.data_at bytes) - (page.used + length (lost_text l page.lost))))) number
    ∙ ap (λ (n : ℕ). records l (x ∷ xs) ++ (number_text l (x ∷ xs) ++ zeros n)) left
    ∙ sym (append_assoc (records l (x ∷ xs)) (number_text l (x ∷ xs)) (zeros (area_len l - length (data_text l (x ∷ xs))))) in
    ap (λ (t : List ℕ). t ++ area) front_same ∙ ap (λ (t : List ℕ). front_text l (x ∷ xs) ++ t) area_same

-- a finished sub-buffer still holds its items
pub holds_finished : (l : Layout) (page : OpenPage) (bytes : List ℕ) (x : ItemData) (xs : List ItemData) → IsLayout l → HoldsAll l page bytes x xs → HoldsAll l page (page_of l (x ∷ xs)) x xs
unfolding page_of
holds_finished l page bytes x xs allowed h =
    let text = records l (x ∷ xs) in
    let number = number_text l (x ∷ xs) in
    let padding = zeros (area_len l - length (data_text l (x ∷ xs))) in
    let behind = (text ++ number) ++ padding in
    record {
      start = h.start;
      time = h.time;
      lost = h.lost;
      used = h.used;
      records_are = ap (take page.used) (drop_at (front_text l (x ∷ xs)) behind l.data_at (front_long l (x ∷ xs) allowed))
          ∙ ap (take page.used) (append_assoc text number padding)
          ∙ take_at text (number ++ padding) page.used (sym h.used);
      one = h.one;
      packable = h.packable;
    }

lost_ok : (l : Layout) (x : ItemData) → IsPackable l x → LostFits l (lost_of x)
lost_ok l (EventAt time payload) ok = tt
lost_ok l (LossAt time None) ok = tt
lost_ok l (LossAt time (Some n)) ok = ok.number

pub lost_fits : (l : Layout) (page : OpenPage) (bytes : List ℕ) (x : ItemData) (xs : List ItemData) → HoldsAll l page bytes x xs → LostFits l page.lost
lost_fits l page bytes x xs h = subst (λ (lost : Lost). LostFits l lost) (sym h.lost) (lost_ok l x (All-head (IsPackable l) x xs h.packable))

pub some_fits : (l : Layout) (page : OpenPage) (bytes : List ℕ) (xs : List ItemData) → Holds l (Some page) bytes xs → LostFits l page.lost
some_fits l page bytes [] h = absurd h
some_fits l page bytes (x ∷ xs) h = lost_fits l page bytes x xs h

pub sealed_reads : (l : Layout) (page : OpenPage) (bytes new : List ℕ) (xs : List ItemData) → IsLayout l → Holds l (Some page) bytes xs
    → ((x : ItemData) (ys : List ItemData) → HoldsAll l page bytes x ys → new ≡ page_of l (x ∷ ys)) → items l new ≡ Some xs
sealed_reads l page bytes new [] allowed h is = absurd h
sealed_reads l page bytes new (x ∷ xs) allowed h is = ap (items l) (is x xs h) ∙ page_reads_back l (x ∷ xs) allowed h.packable h.one

pub sealed : (l : Layout) (page : OpenPage) (bytes new : List ℕ) (xs : List ItemData) → IsLayout l → Holds l (Some page) bytes xs
    → ((x : ItemData) (ys : List ItemData) → HoldsAll l page bytes x ys → new ≡ page_of l (x ∷ ys)) → Holds l (Some page) new xs
sealed l page bytes new [] allowed h is = absurd h
sealed l page bytes new (x ∷ xs) allowed h is = subst (λ (t : List ℕ). HoldsAll l page t x xs) (sym (is x xs h)) (holds_finished l page bytes x xs allowed h)
