-- A file has room for few items: each takes eight bytes of its sub-buffer, whose front takes some more.
use Rattle.std.proofs.Common.{◌≡◌, ℕ, zero, suc, ◌+◌, ◌*◌, ◌^◌, ◌≤◌, ◌⊎◌, Bool, true, false, ◌&&◌, leb, cond, max, List, [], ◌∷◌, length, drop, Option, Some, None, refl, ap, ◌∙◌, inl, inr, arith, length-append}
use Rattle.std.proofs.lemmas.Bool.{leb-true}
use Rattle.std.proofs.lemmas.List.{length-take}
use Rattle.trace_base.specs.declared.layout.Layout.{Layout}
use Rattle.trace_base.specs.declared.part.Part.{Part}
use Rattle.trace_base.specs.Layout.{IsLayout}
use Rattle.trace_base.proofs.Layouts.{commit_is_long, fields_apart}
use Rattle.subpage.specs.ItemData.{ItemData, item_time}
use Rattle.subpage.specs.Page.{items}
use Rattle.subpage.specs.Processor.{items_at, is_there, page_end, page_bytes, page_count, pages_from, joined, list_of}
use Rattle.subpage.specs.Arrangement.{keyed_from, all_keyed, by_key, key_of, arranged}
use Rattle.subpage.specs.Cut.{lists_of, cut_of, is_up_to, reached_of}
use Rattle.subpage.proofs.FewItems.{few_on_page}
use Rattle.subpage.proofs.Joining.{joined-some, joined-none}
use Rattle.split_passes.proofs.PieceLaws.{filter_few}
use Rattle.split_passes.proofs.RoundLaws.{by_key_long}

-- This many items stand in this many bytes: a sub-buffer of at most 2^18 bytes has less than 2^15 items, and takes four bytes more
-- than eight an item.
abbrev pub Few : ℕ → ℕ → Type 0
Few count bytes = count * 65537 ≤ bytes * 8192

-- the data begin after the timestamp and the commit word
front_long : (l : Layout) → IsLayout l → 12 ≤ l.data_at
front_long l allowed = elim (fields_apart l) [
  | inl time_first ↦ elim (commit_is_long l) [
    | inl four ↦ omega (arith, time_first, four, allowed.commit_before_data)
    | inr eight ↦ omega (arith, time_first, eight, allowed.commit_before_data)
  ]
  | inr commit_first ↦ elim (commit_is_long l) [
    | inl four ↦ omega (arith, commit_first, four, allowed.time_before_data)
    | inr eight ↦ omega (arith, commit_first, eight, allowed.time_before_data)
  ]
]

-- A PROCESSOR'S SUB-BUFFERS STAND IN THE FILE

record Held (l : Layout) (file : List ℕ) (k : ℕ) (xs : List ItemData) : Type 0 where
  there : (k + 1) * l.page ≤ length file
  few : Few (length xs) l.page

held_at : (l : Layout) (file : List ℕ) (part : Part) (k : ℕ) (xs : List ItemData) → IsLayout l → items_at l file part k ≡ Some xs → Held l file k xs
unfolding items_at
held_at l file part k xs allowed e = by_there (is_there l file part k) refl e
  where
    by_there : (b : Bool) → is_there l file part k ≡ b → cond b (items l (page_bytes l file part k)) None ≡ Some xs → Held l file k xs
    by_there false is e = absurd cc
    by_there true is e =
        let bytes = page_bytes l file part k in
        record {
          there = inside (leb ((k + 1) * l.page) part.size) (leb (page_end l part k) (2 ^ 64)) is;
          few = omega (
            arith,
            few_on_page l bytes xs e,
            length-take l.page (drop (part.offset + k * l.page) file),
            front_long l allowed,
            allowed.data_in_front,
            allowed.page_least,
            allowed.page_most,
          );
        }
      where
        inside : (a c : Bool) → (a && leb (page_end l part k) (length file) && c) ≡ true → (k + 1) * l.page ≤ length file
        inside false c is = absurd cc
        inside true c is = by_leb (leb (page_end l part k) (length file)) refl c is
          where
            by_leb : (b : Bool) → leb (page_end l part k) (length file) ≡ b → (c : Bool) → (b && c) ≡ true → (k + 1) * l.page ≤ length file
            by_leb false e c is = absurd cc
            by_leb true e c is = let h = leb-true _ _ e in omega (arith, h)

few_from : (l : Layout) (file : List ℕ) (part : Part) (k n : ℕ) → IsLayout l → (length (joined (pages_from l file part k n)) * 65537 + k * l.page * 8192 ≤ length file * 8192) ⊎ (length (joined (pages_from l file part k n)) ≡ 0)
few_from l file part k zero allowed = inr refl
few_from l file part k (suc n) allowed = by_page (items_at l file part k) refl (few_from l file part (k + 1) n allowed)
  where
    by_page : (o : Option (List ItemData)) → items_at l file part k ≡ o
        → (length (joined (pages_from l file part (k + 1) n)) * 65537 + (k + 1) * l.page * 8192 ≤ length file * 8192) ⊎ (length (joined (pages_from l file part (k + 1) n)) ≡ 0)
        → (length (joined (o ∷ pages_from l file part (k + 1) n)) * 65537 + k * l.page * 8192 ≤ length file * 8192) ⊎ (length (joined (o ∷ pages_from l file part (k + 1) n)) ≡ 0)
    by_page None e few = inr (ap length (joined-none (pages_from l file part (k + 1) n)))
    by_page (Some xs) e few =
        let h = held_at l file part k xs allowed e in
        let more = pages_from l file part (k + 1) n in
        let long : length (joined (Some xs ∷ more)) ≡ length xs + length (joined more) = ap length (joined-some xs more) ∙ length-append xs (joined more) in
        elim few [
          | inl some ↦ inl (omega (arith, long, h.there, h.few, some))
          | inr none ↦ inl (omega (arith, long, h.there, h.few, none, allowed.page_least))
        ]

pub few_in_list : (l : Layout) (file : List ℕ) (part : Part) → IsLayout l → Few (length (list_of l file part)) (length file)
unfolding list_of
few_in_list l file part allowed = elim (few_from l file part 0 (page_count l part) allowed) [
  | inl few ↦ omega (arith, few)
  | inr none ↦ omega (arith, none)
]

-- SEVERAL PROCESSORS

keyed_long : (cpu high : ℕ) (xs : List ItemData) → length (keyed_from cpu high xs) ≡ length xs
keyed_long cpu high [] = refl
keyed_long cpu high (x ∷ xs) = ap suc (keyed_long cpu (max high (item_time x)) xs)

pub few_keyed : (l : Layout) (file : List ℕ) (parts : List (ℕ × Part)) → IsLayout l → Few (length (all_keyed (lists_of l file parts))) (length parts * length file)
few_keyed l file [] allowed = omega arith
few_keyed l file (p ∷ parts) allowed =
    let mine = keyed_from p.0 0 (list_of l file p.1) in
    omega (arith, length-append mine (all_keyed (lists_of l file parts)), keyed_long p.0 0 (list_of l file p.1), few_in_list l file p.1 allowed, few_keyed l file parts allowed)

pub few_reached : (l : Layout) (file : List ℕ) (parts : List (ℕ × Part)) → IsLayout l → Few (length (reached_of l file parts)) (length parts * length file)
unfolding reached_of arranged
few_reached l file parts allowed =
    let all = all_keyed (lists_of l file parts) in
    omega (arith, filter_few (is_up_to (cut_of l file parts)) (by_key key_of all), by_key_long all, few_keyed l file parts allowed)
