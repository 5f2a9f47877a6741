-- Numbers, texts, names and rows of them are read as they are spelled.
use Rattle.std.proofs.Common.{◌≡◌, ℕ, zero, suc, ◌+◌, ◌<◌, ◌≤◌, false, ltb, List, [], ◌∷◌, ◌++◌, length, take, drop, Ok, Err, refl, sym, ap, subst, ◌∙◌, append_assoc, inl, inr, arith}
use Rattle.std.proofs.lemmas.Bool.{cases_lt, le-ltb}
use Rattle.std.proofs.lemmas.List.{length-append, length-drop, length-take, take_at, take-append-drop, drop-drop}
use Rattle.std.proofs.lemmas.List.Concat.{flat_map-cons}
use Rattle.std.proofs.lemmas.List.Elements.{All-take, All-drop, All-head, All-tail, All-cons}
use Rattle.std.specs.List.{All, flat_map}
use Rattle.trace_base.specs.Number.{num, bytes_of}
use Rattle.trace_base.specs.declared.order.Order.{Order}
use Rattle.dat_options.specs.declared.fault.OpenFault.{OpenFault}
use Rattle.dat_options.specs.declared.fault.OpenFault.TheVariants.{Truncated}
use Rattle.dat_options.proofs.Numbers.{IsBytes, limit, length-bytes_of, num_again, bytes_back, are_bytes, num_fits}
use Rattle.dat_header.specs.Items.{sized}
use Rattle.dat_header.specs.ItemsAt.{bytes_at, number_at, text_at, row_at}
use Rattle.dat_header.specs.Found.{Found, ◌>>=◌}
use Rattle.dat_options.specs.Place.{AreBytes}
use Rattle.dat_header.proofs.ReadPieces.{bytes_found, bytes_short}
use Rattle.dat_header.proofs.Grammar.{Reads, Stands, found_value, err_or_ok, at_ok, at_err, not_both, same_value, same_fault, behind, room, reads_then, reads_as}

-- the fault of a reader that can only meet the file's end
abbrev pub EndsEarly : {V : Type 0} → (List ℕ → ℕ → Found V) → Type 0
EndsEarly read = (file : List ℕ) (at : ℕ) (fault : OpenFault) → AreBytes file → at ≤ length file → read file at ≡ Err fault → fault ≡ Truncated (length file)

bytes_again : (size : ℕ) (file : List ℕ) (at : ℕ) (text rest : List ℕ) → length text ≡ size → drop at file ≡ text ++ rest → bytes_at size file at ≡ Ok (text, at + length text)
unfolding bytes_at
bytes_again size file at text rest long here =
    let whole : length (drop at file) ≡ length (text ++ rest) = ap length here in
    let enough : ltb (length (drop at file)) size ≡ false = le-ltb _ _ (omega (arith, whole, length-append text rest)) in
    let front : take size (drop at file) ≡ text = ap (take size) here ∙ take_at text rest size long in
    rw (enough, front) (ap (λ (n : ℕ). found_value text (at + n)) (sym long))

bytes_sound : (size : ℕ) (file : List ℕ) (at : ℕ) (text : List ℕ) (end : ℕ) → at ≤ length file → bytes_at size file at ≡ Ok (text, end) → Stands (λ t. t) (λ t. length t ≡ size) file at text end
bytes_sound size file at text end within e = elim (cases_lt (length file) (at + size)) [
  | inl short ↦ absurd (not_both (bytes_at size file at) (text, end) (Truncated (length file)) e (bytes_short size at file within short))
  | inr enough ↦
      let same = same_value (bytes_at size file at) (take size (drop at file)) text (at + size) end (bytes_found size at file enough) e in
      let long : length text ≡ size = ap length (sym same.0) ∙ (let l : length (take size (drop at file)) ≡ size = omega (arith, length-take size (drop at file), length-drop at file) in l) in
      record {
        is = long;
        here = sym (take-append-drop size (drop at file)) ∙ ap (λ back. take size (drop at file) ++ back) (drop-drop size at file ∙ ap (λ (n : ℕ). drop n file) same.1) ∙ ap (λ front. front ++ drop end file) same.0;
        place = omega (arith, same.1, long);
        inside = omega (arith, same.1, enough);
      }
]

pub reads_bytes : (size : ℕ) → Reads (λ text. text) (λ text. length text ≡ size) (bytes_at size)
reads_bytes size = record {
  again = λ file at text rest within long here. bytes_again size file at text rest long here;
  sound = λ file at text end bytes within e. bytes_sound size file at text end within e;
}

pub bytes_end : (size : ℕ) → EndsEarly (bytes_at size)
bytes_end size file at fault bytes within e = elim (cases_lt (length file) (at + size)) [
  | inl short ↦ same_fault (bytes_at size file at) fault (Truncated (length file)) e (bytes_short size at file within short)
  | inr enough ↦ absurd (not_both (bytes_at size file at) (take size (drop at file), at + size) fault (bytes_found size at file enough) e)
]

number_again : (width : ℕ) (order : Order) (file : List ℕ) (at number : ℕ) (rest : List ℕ) → number < limit width → drop at file ≡ bytes_of order width number ++ rest
    → number_at width order file at ≡ Ok (number, at + length (bytes_of order width number))
unfolding number_at
number_again width order file at number rest few here =
    at_ok (bytes_at width file at) (λ found. Ok (num order found.0, found.1)) (bytes_of order width number) _ (bytes_again width file at (bytes_of order width number) rest (length-bytes_of order width number) here)
    ∙ ap (λ (n : ℕ). found_value n (at + length (bytes_of order width number))) (num_again order width number few)

piece_bytes : (file text rest : List ℕ) (at : ℕ) → AreBytes file → drop at file ≡ text ++ rest → AreBytes text
piece_bytes file text rest at bytes here =
    subst AreBytes (ap (take (length text)) here ∙ take_at text rest (length text) refl) (All-take (λ byte. byte < 256) (length text) (drop at file) (All-drop (λ byte. byte < 256) at file bytes))

number_sound : (width : ℕ) (order : Order) (file : List ℕ) (at number end : ℕ) → AreBytes file → at ≤ length file → number_at width order file at ≡ Ok (number, end)
    → Stands (bytes_of order width) (λ n. n < limit width) file at number end
unfolding number_at
number_sound width order file at number end bytes within e = elim (err_or_ok (bytes_at width file at)) [
  | inl wrong ↦ absurd (not_both _ (number, end) wrong.0 e (at_err (bytes_at width file at) (λ found. Ok (num order found.0, found.1)) wrong.0 wrong.1))
  | inr found ↦
      let text = found.0 in
      let stands = bytes_sound width file at text found.1 within found.2 in
      let same = same_value _ (num order text) number found.1 end (at_ok (bytes_at width file at) (λ f. Ok (num order f.0, f.1)) text found.1 found.2) e in
      let fit : IsBytes text = are_bytes text (piece_bytes file text (drop found.1 file) at bytes stands.here) in
      let spelled : bytes_of order width number ≡ text = ap (bytes_of order width) (sym same.0) ∙ ap (λ (n : ℕ). bytes_of order n (num order text)) (sym stands.is) ∙ bytes_back order text fit in
      record {
        is = subst (λ (n : ℕ). number < limit n) stands.is (subst (λ (n : ℕ). n < limit (length text)) same.0 (num_fits order text fit));
        here = stands.here ∙ ap (λ (n : ℕ). text ++ drop n file) same.1 ∙ ap (λ front. front ++ drop end file) (sym spelled);
        place = omega (arith, same.1, stands.place, stands.is, length-bytes_of order width number);
        inside = omega (arith, same.1, stands.inside);
      }
]

pub reads_number : (width : ℕ) (order : Order) → Reads (bytes_of order width) (λ n. n < limit width) (number_at width order)
reads_number width order = record { again = λ file at number rest within few here. number_again width order file at number rest few here; sound = number_sound width order }

pub number_end : (width : ℕ) (order : Order) → EndsEarly (number_at width order)
unfolding number_at
number_end width order file at fault bytes within e = elim (err_or_ok (bytes_at width file at)) [
  | inl wrong ↦ sym (same_fault _ wrong.0 fault (at_err (bytes_at width file at) (λ found. Ok (num order found.0, found.1)) wrong.0 wrong.1) e) ∙ bytes_end width file at wrong.0 bytes within wrong.1
  | inr found ↦ absurd (not_both _ (num order found.0, found.1) fault (at_ok (bytes_at width file at) (λ f. Ok (num order f.0, f.1)) found.0 found.1 found.2) e)
]

-- a reader that can only meet the file's end, after another such
pub then_end : {V W : Type 0} (spell : V → List ℕ) (allowed : V → Type 0) (read : List ℕ → ℕ → Found V) (next : V → List ℕ → ℕ → Found W) → Reads spell allowed read → EndsEarly read
    → ((value : V) → allowed value → EndsEarly (next value)) → EndsEarly (λ file at. read file at >>= λ found. next found.0 file found.1)
then_end spell allowed read next reads one two file at fault bytes within e = elim (err_or_ok (read file at)) [
  | inl wrong ↦ sym (same_fault _ wrong.0 fault (at_err (read file at) (λ found. next found.0 file found.1) wrong.0 wrong.1) e) ∙ one file at wrong.0 bytes within wrong.1
  | inr found ↦
      let stands = reads.sound file at found.0 found.1 bytes within found.2 in
      two found.0 stands.is file found.1 fault bytes stands.inside (sym (at_ok (read file at) (λ f. next f.0 file f.1) found.0 found.1 found.2) ∙ e)
]

pub none_end : {V : Type 0} (value : V) → EndsEarly (λ file at. Ok (value, at))
none_end value file at fault bytes within e = absurd (not_both (found_value value at) (value, at) fault refl e)

-- a text, preceded by its size
abbrev pub SizedBy : ℕ → List ℕ → Type 0
SizedBy width text = (length text < limit width) × (length text ≡ length text)

pub reads_text : (width : ℕ) (order : Order) → Reads (sized width order) (λ text. length text < limit width) (text_at width order)
unfolding text_at
reads_text width order = reads_as _ (sized width order) (SizedBy width) (λ text. length text < limit width) _ (text_at width order) (λ text is. is.0) (λ text is. (is, refl)) (λ text is. refl) (λ file at. refl)
    (reads_then (bytes_of order width) (λ n. n < limit width) (number_at width order) (λ size text. text) (λ size text. length text ≡ size) bytes_at length (reads_number width order) (λ size few. reads_bytes size) (λ size text is. is))

pub text_end : (width : ℕ) (order : Order) → EndsEarly (text_at width order)
unfolding text_at
text_end width order = then_end (bytes_of order width) (λ n. n < limit width) (number_at width order) bytes_at (reads_number width order) (number_end width order) (λ size few. bytes_end size)

-- a row of items
row_again : {V : Type 0} (spell : V → List ℕ) (allowed : V → Type 0) (item_at : List ℕ → ℕ → Found V) → Reads spell allowed item_at → (count : ℕ) (file : List ℕ) (at : ℕ) (items : List V) (rest : List ℕ) → at ≤ length file
    → (length items ≡ count) × All allowed items → drop at file ≡ flat_map spell items ++ rest → row_at item_at count file at ≡ Ok (items, at + length (flat_map spell items))
unfolding row_at
row_again spell allowed item_at reads zero file at [] rest within is here = ap (λ (n : ℕ). found_value [] n) (omega arith)
row_again spell allowed item_at reads zero file at (item ∷ items) rest within is here = absurd (omega (arith, is.0))
row_again spell allowed item_at reads (suc count) file at [] rest within is here = absurd (omega (arith, is.0))
row_again spell allowed item_at reads (suc count) file at (item ∷ items) rest within is here =
    let joined : flat_map spell (item ∷ items) ≡ spell item ++ flat_map spell items = flat_map-cons spell item items in
    let both : drop at file ≡ spell item ++ (flat_map spell items ++ rest) = here ∙ ap (λ (t : List ℕ). t ++ rest) joined ∙ append_assoc (spell item) (flat_map spell items) rest in
    let first = reads.again file at item (flat_map spell items ++ rest) within (All-head allowed item items is.1) both in
    let others = row_again spell allowed item_at reads count file (at + length (spell item)) items rest (room file (spell item) (flat_map spell items ++ rest) at within both) (omega (arith, is.0), All-tail allowed item items is.1) (behind file (spell item) (flat_map spell items ++ rest) at both) in
    at_ok (item_at file at) _ item (at + length (spell item)) first
    ∙ at_ok (row_at item_at count file (at + length (spell item))) _ items (at + length (spell item) + length (flat_map spell items)) others
    ∙ ap (λ (n : ℕ). found_value (item ∷ items) n) (omega (arith, ap length joined, length-append (spell item) (flat_map spell items)))

row_sound : {V : Type 0} (spell : V → List ℕ) (allowed : V → Type 0) (item_at : List ℕ → ℕ → Found V) → Reads spell allowed item_at → (count : ℕ) (file : List ℕ) (at : ℕ) (items : List V) (end : ℕ)
    → AreBytes file → at ≤ length file → row_at item_at count file at ≡ Ok (items, end) → Stands (flat_map spell) (λ xs. (length xs ≡ count) × All allowed xs) file at items end
unfolding row_at
row_sound {V} spell allowed item_at reads zero file at items end bytes within e =
    let same = same_value (found_value [] at) [] items at end refl e in
    let P : List V → Type 0 = λ xs. Stands (flat_map spell) (λ ys. (length ys ≡ 0) × All allowed ys) file at xs end in
    subst P same.0 (record {
      is = (refl, λ k d h. absurd (omega arith));
      here = ap (λ (n : ℕ). drop n file) same.1;
      place = omega (arith, same.1);
      inside = omega (arith, same.1, within);
    })
row_sound {V} spell allowed item_at reads (suc count) file at items end bytes within e = elim (err_or_ok (item_at file at)) [
  | inl wrong ↦ absurd (not_both _ (items, end) wrong.0 e (at_err (item_at file at) _ wrong.0 wrong.1))
  | inr found ↦
      let item = found.0 in
      let first = reads.sound file at item found.1 bytes within found.2 in
      let after = sym (at_ok (item_at file at) _ item found.1 found.2) ∙ e in
      elim (err_or_ok (row_at item_at count file found.1)) [
        | inl wrong ↦ absurd (not_both _ (items, end) wrong.0 after (at_err (row_at item_at count file found.1) _ wrong.0 wrong.1))
        | inr more ↦
            let others = more.0 in
            let second = row_sound spell allowed item_at reads count file found.1 others more.1 bytes first.inside more.2 in
            let same = same_value _ (item ∷ others) items more.1 end (at_ok (row_at item_at count file found.1) (λ f. Ok (item ∷ f.0, f.1)) others more.1 more.2) after in
            let joined : flat_map spell (item ∷ others) ≡ spell item ++ flat_map spell others = flat_map-cons spell item others in
            let P : List V → Type 0 = λ xs. Stands (flat_map spell) (λ ys. (length ys ≡ suc count) × All allowed ys) file at xs end in
            subst P same.0 (record {
              is = (omega (arith, second.is.0), All-cons allowed item others first.is second.is.1);
              here = first.here ∙ ap (λ back. spell item ++ back) second.here ∙ sym (append_assoc (spell item) (flat_map spell others) (drop more.1 file)) ∙ ap (λ (t : List ℕ). t ++ drop more.1 file) (sym joined)
                  ∙ ap (λ (n : ℕ). flat_map spell (item ∷ others) ++ drop n file) same.1;
              place = omega (arith, same.1, first.place, second.place, ap length joined, length-append (spell item) (flat_map spell others));
              inside = omega (arith, same.1, second.inside);
            })
      ]
]

pub reads_row : {V : Type 0} (spell : V → List ℕ) (allowed : V → Type 0) (item_at : List ℕ → ℕ → Found V) → Reads spell allowed item_at → (count : ℕ)
    → Reads (flat_map spell) (λ xs. (length xs ≡ count) × All allowed xs) (row_at item_at count)
reads_row spell allowed item_at reads count = record { again = row_again spell allowed item_at reads count; sound = row_sound spell allowed item_at reads count }

pub row_end : {V : Type 0} (spell : V → List ℕ) (allowed : V → Type 0) (item_at : List ℕ → ℕ → Found V) → Reads spell allowed item_at → EndsEarly item_at → (count : ℕ) → EndsEarly (row_at item_at count)
unfolding row_at
row_end spell allowed item_at reads ends zero = none_end []
row_end spell allowed item_at reads ends (suc count) =
    then_end spell allowed item_at (λ item file after. row_at item_at count file after >>= λ more. Ok (item ∷ more.0, more.1)) reads ends
    (λ item is. then_end (flat_map spell) (λ xs. (length xs ≡ count) × All allowed xs) (row_at item_at count) (λ items file end. Ok (item ∷ items, end)) (reads_row spell allowed item_at reads count) (row_end spell allowed item_at reads ends count)
    (λ items are. none_end (item ∷ items)))
