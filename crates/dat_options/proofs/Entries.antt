-- The entries of a table, put one after another and read from their bytes.
use Rattle.std.proofs.Common.{◌≡◌, ℕ, ◌+◌, ◌*◌, ◌<◌, ◌≤◌, List, [], ◌∷◌, ◌++◌, length, take, drop, get_or, sym, ap, subst, ◌∙◌, inl, inr, arith}
use Rattle.std.proofs.lemmas.Bool.{cases_lt}
use Rattle.std.proofs.lemmas.List.{append-nil, take_at, drop_at, take_all, take-append-le, take_more, length-take, length-drop, take-append-drop, get_or-take, get_or-drop, get_or_past}
use Rattle.std.proofs.lemmas.List.Concat.{flat_map-cons}
use Rattle.std.proofs.lemmas.Grind.{flat_map-append}
use Rattle.std.proofs.Math.Seq.{take-add}
use borrow.Rule.Slice.PartMut.{put_mid, post_of}
use Rattle.trace_base.specs.declared.order.Order.{Order}
use Rattle.trace_base.specs.declared.part.Part.{Part}
use Rattle.trace_base.specs.Number.{num, bytes_of}
use Rattle.dat_options.specs.Table.{part_text, table_text}
use Rattle.dat_options.proofs.Numbers.{IsBytes, number_spells}
use Rattle.dat_options.proofs.TableLaws.{length-part_text}

take-put_mid_front : (done room count : ℕ) (buffer fresh : List ℕ) → done ≤ length buffer → count ≤ length fresh
    → take (done + count) (put_mid done room buffer fresh) ≡ take done buffer ++ take count fresh
take-put_mid_front done room count buffer fresh within few =
    take-add done count (put_mid done room buffer fresh)
    ∙ ap (λ front. front ++ take count (drop done (put_mid done room buffer fresh))) (take_at (take done buffer) (fresh ++ post_of done room buffer) done long)
    ∙ ap (λ back. take done buffer ++ take count back) (drop_at (take done buffer) (fresh ++ post_of done room buffer) done long)
    ∙ ap (λ back. take done buffer ++ back) (take-append-le count fresh (post_of done room buffer) few)
  where
    long : length (take done buffer) ≡ done
    long = omega (arith, length-take done buffer)

pub table_more : (order : Order) (parts : List Part) (i : ℕ) (d : Part) → i < length parts → table_text order (take (i + 1) parts) ≡ table_text order (take i parts) ++ part_text order (get_or parts i d)
table_more order parts i d inside =
    ap (table_text order) (take_more parts i d inside)
    ∙ flat_map-append (part_text order) (take i parts) (get_or parts i d ∷ [])
    ∙ ap (λ last. table_text order (take i parts) ++ last) (flat_map-cons (part_text order) (get_or parts i d) [] ∙ append-nil (part_text order (get_or parts i d)))

-- one more entry after those that are there
pub entry_put : (order : Order) (parts : List Part) (i room : ℕ) (into entry : List ℕ) (d : Part) → i < length parts → 16 * i ≤ length into
    → take (16 * i) into ≡ table_text order (take i parts) → entry ≡ part_text order (get_or parts i d)
    → take (16 * (i + 1)) (put_mid (16 * i) room into entry) ≡ table_text order (take (i + 1) parts)
entry_put order parts i room into entry d inside within done is =
    ap (λ count. take count (put_mid (16 * i) room into entry)) place
    ∙ take-put_mid_front (16 * i) room 16 into entry within (omega (arith, long))
    ∙ ap (λ back. take (16 * i) into ++ back) (take_all 16 entry (omega (arith, long)) ∙ is)
    ∙ ap (λ front. front ++ part_text order (get_or parts i d)) done
    ∙ sym (table_more order parts i d inside)
  where
    place : 16 * (i + 1) ≡ 16 * i + 16
    place = omega arith

    long : length entry ≡ 16
    long = ap length is ∙ length-part_text order (get_or parts i d)

IsBytes-take : (count : ℕ) (bytes : List ℕ) → IsBytes bytes → IsBytes (take count bytes)
IsBytes-take count bytes fit i = elim (cases_lt i count) [
  | inl inside ↦ subst (λ (b : ℕ). b < 256) (sym (get_or-take count bytes i 0 inside)) (fit i)
  | inr past ↦ subst (λ (b : ℕ). b < 256) (sym (get_or_past (take count bytes) i 0 (omega (arith, past, length-take count bytes)))) (omega arith)
]

IsBytes-drop : (count : ℕ) (bytes : List ℕ) → IsBytes bytes → IsBytes (drop count bytes)
IsBytes-drop count bytes fit i = subst (λ (b : ℕ). b < 256) (sym (get_or-drop count bytes i 0)) (fit (count + i))

-- the two numbers that were read of an entry spell it
pub part_spells : (order : Order) (bytes : List ℕ) (offset size : ℕ) → length bytes ≡ 16 → IsBytes bytes
    → offset ≡ num order (take 8 bytes) → size ≡ num order (take 8 (drop 8 bytes))
    → bytes_of order 8 offset ++ bytes_of order 8 size ≡ bytes
part_spells order bytes offset size long fit one two =
    ap (λ front. front ++ bytes_of order 8 size) (number_spells order 8 offset (take 8 bytes) (omega (arith, length-take 8 bytes)) (IsBytes-take 8 bytes fit) (one ∙ ap (num order) (sym (take_all 8 (take 8 bytes) (omega (arith, length-take 8 bytes))))))
    ∙ ap (λ back. take 8 bytes ++ back) (number_spells order 8 size (drop 8 bytes) (omega (arith, length-drop 8 bytes)) (IsBytes-drop 8 bytes fit) two)
    ∙ take-append-drop 8 bytes
