-- A lane stands where it stood, or some items on.
use Rattle.std.proofs.Common.{◌≡◌, ℕ, ◌<◌, max, List, [], ◌∷◌, ◌++◌, map, length, Option, Some, refl, sym, ap, ◌∙◌, append_assoc, arith}
use Rattle.std.specs.Option.{unwrap_or}
use Rattle.std.specs.List.{fold}
use Rattle.std.proofs.lemmas.List.{length-append}
use Rattle.trace_base.specs.declared.layout.Layout.{Layout}
use Rattle.trace_base.specs.declared.part.Part.{Part}
use Rattle.subpage.specs.ItemData.{ItemData, item_time}
use Rattle.subpage.specs.Cut.{last_key}
use Rattle.subpage.specs.Processor.{is_there, page_bytes, list_of, bad_of}
use Rattle.page_pool.specs.declared.lane.Lane.{Lane}
use Rattle.page_pool.proofs.Keeping.{by_both}
use Rattle.event_cursor.specs.Stepping.{IsStepped, IsSteppedOver}
use Rattle.event_cursor.specs.Standing.{held_left, left_of, bad_left, OwnIfHeld, Stands}
use Rattle.event_cursor.proofs.KeyLaws.{last_key-append}
use Rattle.event_cursor.proofs.Leaving.{left_is, bad_is}

pub left_over : (file : List ℕ) (xs : List ItemData) (a b : Lane) → IsSteppedOver xs a b → left_of file a ≡ xs ++ left_of file b
left_over file xs a b s =
    left_is file a (xs ++ held_left b) a.layout a.part a.cursor.next s.left refl refl refl
    ∙ append_assoc xs (held_left b) _
    ∙ ap (λ (ys : List ItemData). xs ++ ys) (sym (left_is file b (held_left b) a.layout a.part a.cursor.next refl s.page.layout s.page.part s.page.next))

pub bad_over : (file : List ℕ) (xs : List ItemData) (a b : Lane) → IsSteppedOver xs a b → bad_left file b ≡ bad_left file a
bad_over file xs a b s = bad_is file b a.layout a.part a.cursor.next s.page.layout s.page.part s.page.next ∙ sym (bad_is file a a.layout a.part a.cursor.next refl refl refl)

own_over : (file : List ℕ) (xs : List ItemData) (a b : Lane) → IsSteppedOver xs a b → OwnIfHeld file a → OwnIfHeld file b
own_over file xs a b s own = λ e.
    let old = own (sym s.page.state ∙ e) in
    record {
      there = ap (is_there b.layout file b.part) s.page.held ∙ by_both (λ (l : Layout) (q : Part). is_there l file q a.cursor.held) s.page.layout s.page.part ∙ old.there;
      page = s.page.page ∙ old.page ∙ by_both (λ (l : Layout) (q : Part). page_bytes l file q a.cursor.held) (sym s.page.layout) (sym s.page.part) ∙ ap (page_bytes b.layout file b.part) (sym s.page.held);
    }

key_over : (used xs : List ItemData) (high : Option ℕ) → 0 < length xs → high ≡ last_key used → Some (fold max (unwrap_or high 0) (map item_time xs)) ≡ last_key (used ++ xs)
key_over used [] high some is = absurd (omega arith)
key_over used (x ∷ xs) high some is = ap (λ (o : Option ℕ). Some (fold max (unwrap_or o 0) (map item_time (x ∷ xs)))) is ∙ sym (last_key-append used x xs)

none_over : (xs ys : List ItemData) → 0 < length xs → xs ++ ys ≡ [] → ⊥
none_over xs ys some e = omega (arith, some, ap length e, length-append xs ys)

pub stands_over : (file : List ℕ) (xs : List ItemData) (a b : Lane) → 0 < length xs → IsSteppedOver xs a b → Stands file a → Stands file b
stands_over file xs a b some s stands =
    let left = left_over file xs a b s in
    record {
      used = stands.used ++ xs;
      parted = by_both (λ (l : Layout). list_of l file) s.page.layout s.page.part ∙ stands.parted ∙ ap (λ (ys : List ItemData). stands.used ++ ys) left ∙ sym (append_assoc stands.used xs (left_of file b));
      high = s.high ∙ key_over stands.used xs a.cursor.high some stands.high;
      bad = by_both (λ (l : Layout). bad_of l file) s.page.layout s.page.part ∙ stands.bad ∙ sym (bad_over file xs a b s);
      own = own_over file xs a b s stands.own;
      ended = λ e. absurd (none_over xs (left_of file b) some (sym left ∙ (stands.ended (sym s.page.state ∙ e)).0));
      malformed = λ e. absurd (none_over xs (left_of file b) some (sym left ∙ (stands.malformed (sym s.page.state ∙ e)).0));
    }

-- one item on
stepped_over : (a b : Lane) (s : IsStepped a b) → IsSteppedOver (s.first ∷ []) a b
stepped_over a b s = record { left = s.left; high = s.high; at = s.at; page = s.page }

pub left_stepped : (file : List ℕ) (a b : Lane) (s : IsStepped a b) → left_of file a ≡ s.first ∷ left_of file b
left_stepped file a b s = left_over file (s.first ∷ []) a b (stepped_over a b s)

pub bad_stepped : (file : List ℕ) (a b : Lane) → IsStepped a b → bad_left file b ≡ bad_left file a
bad_stepped file a b s = bad_over file (s.first ∷ []) a b (stepped_over a b s)

pub stands_stepped : (file : List ℕ) (a b : Lane) → IsStepped a b → Stands file a → Stands file b
stands_stepped file a b s = stands_over file (s.first ∷ []) a b (omega arith) (stepped_over a b s)
