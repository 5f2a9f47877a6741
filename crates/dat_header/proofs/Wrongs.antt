-- What is wrong where a reader fails: the first item that is not spelled while those before it are.
use Rattle.std.proofs.Common.{◌≡◌, ℕ, zero, suc, ◌+◌, ◌<◌, ◌≤◌, List, [], ◌∷◌, ◌++◌, length, take, drop, Some, Ok, Err, refl, sym, ap, subst, ◌∙◌, append_assoc, add-zero, inl, inr, arith}
use Rattle.std.proofs.lemmas.List.{length-append, take-append-le, append-nil}
use Rattle.std.proofs.lemmas.Grind.{flat_map-append}
use Rattle.std.proofs.lemmas.Option.{slice_get_within}
use Rattle.std.proofs.Math.Seq.{take-append-add}
use Rattle.std.specs.List.{slice_get}
use Rattle.dat_options.specs.declared.fault.OpenFault.{OpenFault}
use Rattle.dat_options.proofs.Steps.{some_is}
use Rattle.dat_header.specs.Items.{Item, Kind, text}
use Rattle.dat_header.specs.Refusal.{fault_at}
use Rattle.dat_header.specs.Found.{Found, ◌>>=◌}
use Rattle.dat_options.specs.Place.{AreBytes}
use Rattle.dat_header.proofs.Grammar.{Reads, Stands, found_value, err_or_ok, at_ok, at_err, not_both, same_value, same_fault, behind, reads_then, reads_none, reads_as}

pub record Wrong {V : Type 0} (items : V → List Item) (allowed : V → Type 0) (file : List ℕ) (at : ℕ) (fault : OpenFault) : Type 0 where
  pub count : ℕ
  pub value : V
  pub is : allowed value
  pub rest : List ℕ
  pub begins : drop at file ≡ text (take count (items value)) ++ rest
  pub no_more : (other : V) (more : List ℕ) → allowed other → drop at file ≡ text (take (count + 1) (items other)) ++ more → ⊥
  pub item : Item
  pub next : slice_get (items value) count ≡ Some item
  pub fault_is : fault ≡ fault_at item.kind file (at + length (text (take count (items value))))
  pub only : (other : V) (more : List ℕ) (its : Item) → allowed other → drop at file ≡ text (take count (items other)) ++ more → slice_get (items other) count ≡ Some its
      → fault ≡ fault_at its.kind file (at + length (text (take count (items other))))

-- a reader that finds just what is spelled, and fails by the first item that is wrong
pub record Right {V : Type 0} (items : V → List Item) (allowed : V → Type 0) (read : List ℕ → ℕ → Found V) : Type 0 where
  pub reads : Reads (λ value. text (items value)) allowed read
  pub some : V
  pub some_is : allowed some
  pub fails : (file : List ℕ) (at : ℕ) (fault : OpenFault) → AreBytes file → at ≤ length file → read file at ≡ Err fault → Wrong items allowed file at fault

one_is : (x y : Item) → Some x ≡ Some y → x ≡ y
one_is x y e = some_is x y e

pub get_front : (xs ys : List Item) (k : ℕ) → k < length xs → slice_get (xs ++ ys) k ≡ slice_get xs k
get_front [] ys k inside = absurd (omega arith)
get_front (x ∷ xs) ys zero inside = refl
get_front (x ∷ xs) ys (suc k) inside = get_front xs ys k (omega arith)

get_back : (xs ys : List Item) (count k : ℕ) → count ≡ length xs → slice_get (xs ++ ys) (count + k) ≡ slice_get ys k
get_back [] ys count k is = ap (slice_get ys) (let e : count + k ≡ k = omega (arith, is) in e)
get_back (x ∷ xs) ys zero k is = absurd (omega (arith, is))
get_back (x ∷ xs) ys (suc count) k is = ap (slice_get (x ∷ xs ++ ys)) (let e : suc count + k ≡ suc (count + k) = omega arith in e) ∙ get_back xs ys count k (omega (arith, is))

take_back : (xs ys : List Item) (count k : ℕ) → count ≡ length xs → take (count + k) (xs ++ ys) ≡ xs ++ take k ys
take_back xs ys count k is = ap (λ (n : ℕ). take (n + k) (xs ++ ys)) is ∙ take-append-add xs ys k

pub text_both : (xs ys : List Item) → text (xs ++ ys) ≡ text xs ++ text ys
text_both xs ys = flat_map-append (λ item. item.bytes) xs ys

module _ {V W : Type 0} (items : V → List Item) (allowed : V → Type 0) (read : List ℕ → ℕ → Found V)
    (more : V → W → List Item) (may : V → W → Type 0) (next : V → List ℕ → ℕ → Found W) (part : W → V) (count : ℕ) where
  abbrev pub both_items : W → List Item
  both_items whole = items (part whole) ++ more (part whole) whole

  abbrev pub both_may : W → Type 0
  both_may whole = allowed (part whole) × may (part whole) whole

  abbrev pub read_each : List ℕ → ℕ → Found W
  read_each file at = read file at >>= λ found. next found.0 file found.1

  both_read : Right items allowed read → ((value : V) → allowed value → Right (more value) (may value) (next value)) → ((value : V) (whole : W) → may value whole → part whole ≡ value)
      → Reads (λ whole. text (both_items whole)) both_may read_each
  both_read one two is_part = reads_as (λ whole. text (items (part whole)) ++ text (more (part whole) whole)) (λ whole. text (both_items whole)) both_may both_may read_each read_each
      (λ whole is. is) (λ whole is. is) (λ whole is. sym (text_both (items (part whole)) (more (part whole) whole))) (λ file at. refl)
      (reads_then (λ value. text (items value)) allowed read (λ value whole. text (more value whole)) may next part one.reads (λ value is. (two value is).reads) is_part)

  first_wrong : ((value : V) → length (items value) ≡ count) → ((value : V) → allowed value → Right (more value) (may value) (next value)) → ((value : V) (whole : W) → may value whole → part whole ≡ value)
      → (file : List ℕ) (at : ℕ) (fault : OpenFault) → Wrong items allowed file at fault → Wrong both_items both_may file at fault
  first_wrong counted two is_part file at fault wrong =
      let value = wrong.value in
      let rest_right = two value wrong.is in
      let whole = rest_right.some in
      let inside : wrong.count < length (items value) = slice_get_within (items value) wrong.count wrong.item wrong.next in
      let front : take wrong.count (items value ++ more value whole) ≡ take wrong.count (items value) = take-append-le wrong.count (items value) (more value whole) (omega arith) in
      let P : V → Type 0 = λ v. (allowed v × may v whole) × (drop at file ≡ text (take wrong.count (items v ++ more v whole)) ++ wrong.rest)
      × (slice_get (items v ++ more v whole) wrong.count ≡ Some wrong.item) × (fault ≡ fault_at wrong.item.kind file (at + length (text (take wrong.count (items v ++ more v whole))))) in
      let here : P value = (
        (wrong.is, rest_right.some_is),
        wrong.begins ∙ ap (λ (xs : List Item). text xs ++ wrong.rest) (sym front),
        get_front (items value) (more value whole) wrong.count inside ∙ wrong.next,
        wrong.fault_is ∙ ap (λ (xs : List Item). fault_at wrong.item.kind file (at + length (text xs))) (sym front),
      ) in
      let parted = subst P (sym (is_part value whole rest_right.some_is)) here in
      record {
        count = wrong.count;
        value = whole;
        is = parted.0;
        rest = wrong.rest;
        begins = parted.1;
        no_more = λ other others is here.
            let few : wrong.count + 1 ≤ length (items (part other)) = omega (arith, inside, counted value, counted (part other)) in
            wrong.no_more (part other) others is.0 (here ∙ ap (λ (xs : List Item). text xs ++ others) (take-append-le (wrong.count + 1) (items (part other)) (more (part other) other) few));
        item = wrong.item;
        next = parted.2;
        fault_is = parted.3;
        only = λ other others its is here get.
            let few : wrong.count < length (items (part other)) = omega (arith, inside, counted value, counted (part other)) in
            let same = take-append-le wrong.count (items (part other)) (more (part other) other) (omega arith) in
            wrong.only (part other) others its is.0 (here ∙ ap (λ (xs : List Item). text xs ++ others) same) (sym (get_front (items (part other)) (more (part other) other) wrong.count few) ∙ get)
            ∙ ap (λ (xs : List Item). fault_at its.kind file (at + length (text xs))) (sym same);
      }

  then_wrong : Right items allowed read → ((value : V) → length (items value) ≡ count) → ((value : V) (whole : W) → may value whole → part whole ≡ value)
      → (file : List ℕ) (at mid : ℕ) (value : V) (fault : OpenFault) → at ≤ length file → read file at ≡ Ok (value, mid) → Stands (λ v. text (items v)) allowed file at value mid
      → Wrong (more value) (may value) file mid fault → Wrong both_items both_may file at fault
  then_wrong one counted is_part file at mid value fault within found stands wrong =
      let whole = wrong.value in
      let all = count + wrong.count in
      let front : take all (items value ++ more value whole) ≡ items value ++ take wrong.count (more value whole) = take_back (items value) (more value whole) count wrong.count (sym (counted value)) in
      let spelled : text (take all (items value ++ more value whole)) ≡ text (items value) ++ text (take wrong.count (more value whole)) = ap text front ∙ text_both (items value) (take wrong.count (more value whole)) in
      let P : V → Type 0 = λ v. (allowed v × may v whole) × (drop at file ≡ text (take all (items v ++ more v whole)) ++ wrong.rest)
      × (slice_get (items v ++ more v whole) all ≡ Some wrong.item) × (fault ≡ fault_at wrong.item.kind file (at + length (text (take all (items v ++ more v whole))))) in
      let place : mid + length (text (take wrong.count (more value whole))) ≡ at + length (text (take all (items value ++ more value whole))) =
      omega (arith, stands.place, ap length spelled, length-append (text (items value)) (text (take wrong.count (more value whole)))) in
      let here : P value = (
        (stands.is, wrong.is),
        stands.here ∙ ap (λ back. text (items value) ++ back) wrong.begins ∙ sym (append_assoc (text (items value)) (text (take wrong.count (more value whole))) wrong.rest)
            ∙ ap (λ (t : List ℕ). t ++ wrong.rest) (sym spelled),
        get_back (items value) (more value whole) count wrong.count (sym (counted value)) ∙ wrong.next,
        wrong.fault_is ∙ ap (λ (n : ℕ). fault_at wrong.item.kind file n) place,
      ) in
      let parted = subst P (sym (is_part value whole wrong.is)) here in
      record {
        count = all;
        value = whole;
        is = parted.0;
        rest = wrong.rest;
        begins = parted.1;
        no_more = λ other others is begins.
            let mine = part other in
            let longer : take (all + 1) (items mine ++ more mine other) ≡ items mine ++ take (wrong.count + 1) (more mine other) =
            ap (λ (n : ℕ). take n (items mine ++ more mine other)) (let e : all + 1 ≡ count + (wrong.count + 1) = omega arith in e) ∙ take_back (items mine) (more mine other) count (wrong.count + 1) (sym (counted mine)) in
            let both : drop at file ≡ text (items mine) ++ (text (take (wrong.count + 1) (more mine other)) ++ others) =
            begins ∙ ap (λ (xs : List Item). text xs ++ others) longer ∙ ap (λ (t : List ℕ). t ++ others) (text_both (items mine) (take (wrong.count + 1) (more mine other)))
            ∙ append_assoc (text (items mine)) (text (take (wrong.count + 1) (more mine other))) others in
            let again = one.reads.again file at mine (text (take (wrong.count + 1) (more mine other)) ++ others) within is.0 both in
            let same = same_value (read file at) value mine mid (at + length (text (items mine))) found again in
            let after : drop mid file ≡ text (take (wrong.count + 1) (more mine other)) ++ others = ap (λ (n : ℕ). drop n file) same.1 ∙ behind file (text (items mine)) (text (take (wrong.count + 1) (more mine other)) ++ others) at both in
            let Q : V → Type 0 = λ v. may v other → drop mid file ≡ text (take (wrong.count + 1) (more v other)) ++ others → ⊥ in
            let never : Q value = λ m d. wrong.no_more other others m d in
            subst Q same.0 never is.1 after;
        item = wrong.item;
        next = parted.2;
        fault_is = parted.3;
        only = λ other others its is begins get.
            let mine = part other in
            let longer : take all (items mine ++ more mine other) ≡ items mine ++ take wrong.count (more mine other) = take_back (items mine) (more mine other) count wrong.count (sym (counted mine)) in
            let spelled_mine : text (take all (items mine ++ more mine other)) ≡ text (items mine) ++ text (take wrong.count (more mine other)) = ap text longer ∙ text_both (items mine) (take wrong.count (more mine other)) in
            let both : drop at file ≡ text (items mine) ++ (text (take wrong.count (more mine other)) ++ others) =
            begins ∙ ap (λ (t : List ℕ). t ++ others) spelled_mine ∙ append_assoc (text (items mine)) (text (take wrong.count (more mine other))) others in
            let again = one.reads.again file at mine (text (take wrong.count (more mine other)) ++ others) within is.0 both in
            let same = same_value (read file at) value mine mid (at + length (text (items mine))) found again in
            let after : drop mid file ≡ text (take wrong.count (more mine other)) ++ others = ap (λ (n : ℕ). drop n file) same.1 ∙ behind file (text (items mine)) (text (take wrong.count (more mine other)) ++ others) at both in
            let Q : V → Type 0 = λ v. may v other → drop mid file ≡ text (take wrong.count (more v other)) ++ others → slice_get (more v other) wrong.count ≡ Some its
            → fault ≡ fault_at its.kind file (mid + length (text (take wrong.count (more v other)))) in
            let mine_only : Q value = λ m d s. wrong.only other others its m d s in
            subst Q same.0 mine_only is.1 after (sym (get_back (items mine) (more mine other) count wrong.count (sym (counted mine))) ∙ get)
            ∙ ap (λ (n : ℕ). fault_at its.kind file n) (
            let place : mid + length (text (take wrong.count (more mine other))) ≡ at + length (text (take all (items mine ++ more mine other))) =
            omega (arith, same.1, ap length spelled_mine, length-append (text (items mine)) (text (take wrong.count (more mine other)))) in
            place
            );
      }

  -- one reader of so many items and then another, which may depend on what the first one found
  pub rights_then : Right items allowed read → ((value : V) → length (items value) ≡ count) → ((value : V) → allowed value → Right (more value) (may value) (next value))
      → ((value : V) (whole : W) → may value whole → part whole ≡ value) → Right both_items both_may read_each
  rights_then one counted two is_part =
      let others = two one.some one.some_is in
      let P : V → Type 0 = λ v. allowed v × may v others.some in
      let both : P one.some = (one.some_is, others.some_is) in
      record {
        reads = both_read one two is_part;
        some = others.some;
        some_is = subst P (sym (is_part one.some others.some others.some_is)) both;
        fails = λ file at fault bytes within e. elim (err_or_ok (read file at)) [
          | inl wrong ↦
              let same = same_fault (read_each file at) wrong.0 fault (at_err (read file at) (λ f. next f.0 file f.1) wrong.0 wrong.1) e in
              first_wrong counted two is_part file at fault (one.fails file at fault bytes within (wrong.1 ∙ ap (λ (f : OpenFault). Err f) same))
          | inr found ↦
              let stands = one.reads.sound file at found.0 found.1 bytes within found.2 in
              let after : next found.0 file found.1 ≡ Err fault = sym (at_ok (read file at) (λ f. next f.0 file f.1) found.0 found.1 found.2) ∙ e in
              then_wrong one counted is_part file at found.1 found.0 fault within found.2 stands ((two found.0 stands.is).fails file found.1 fault bytes stands.inside after)
        ];
      }

pub rights_none : {V : Type 0} (value : V) → Right (λ v. []) (λ v. v ≡ value) (λ file at. Ok (value, at))
rights_none value = record {
  reads = reads_none value;
  some = value;
  some_is = refl;
  fails = λ file at fault bytes within e. absurd (not_both (found_value value at) (value, at) fault refl e);
}

-- the same reader, of items that are the same where they are allowed
pub rights_as : {V : Type 0} (items others : V → List Item) (allowed may : V → Type 0) (read by : List ℕ → ℕ → Found V)
    → ((value : V) → allowed value → may value) → ((value : V) → may value → allowed value) → ((value : V) → may value → items value ≡ others value)
    → ((file : List ℕ) (at : ℕ) → read file at ≡ by file at) → Right items allowed read → Right others may by
rights_as {V} items others allowed may read by into back same alike right = record {
  reads = reads_as (λ value. text (items value)) (λ value. text (others value)) allowed may read by into back (λ value is. ap text (same value is)) alike right.reads;
  some = right.some;
  some_is = into right.some right.some_is;
  fails = λ file at fault bytes within e.
      let wrong = right.fails file at fault bytes within (alike file at ∙ e) in
      let value = wrong.value in
      let alike_items = same value (into value wrong.is) in
      record {
        count = wrong.count;
        value = value;
        is = into value wrong.is;
        rest = wrong.rest;
        begins = wrong.begins ∙ ap (λ (xs : List Item). text (take wrong.count xs) ++ wrong.rest) alike_items;
        no_more = λ other rest is here. wrong.no_more other rest (back other is) (here ∙ ap (λ (xs : List Item). text (take (wrong.count + 1) xs) ++ rest) (sym (same other is)));
        item = wrong.item;
        next = ap (λ (xs : List Item). slice_get xs wrong.count) (sym alike_items) ∙ wrong.next;
        fault_is = wrong.fault_is ∙ ap (λ (xs : List Item). fault_at wrong.item.kind file (at + length (text (take wrong.count xs)))) alike_items;
        only = λ other rest its is here get.
            wrong.only other rest its (back other is) (here ∙ ap (λ (xs : List Item). text (take wrong.count xs) ++ rest) (sym (same other is))) (ap (λ (xs : List Item). slice_get xs wrong.count) (same other is) ∙ get)
            ∙ ap (λ (xs : List Item). fault_at its.kind file (at + length (text (take wrong.count xs)))) (same other is);
      };
}

abbrev pub one_item : {V : Type 0} → Kind → (V → List ℕ) → V → List Item
one_item kind spell value = record { kind = kind; bytes = spell value } ∷ []

-- a reader of one item
pub right_item : {V : Type 0} (kind : Kind) (spell : V → List ℕ) (allowed : V → Type 0) (read : List ℕ → ℕ → Found V) (some : V) → allowed some → Reads spell allowed read
    → ((file : List ℕ) (at : ℕ) (fault : OpenFault) → AreBytes file → at ≤ length file → read file at ≡ Err fault → fault ≡ fault_at kind file at)
    → Right (one_item kind spell) allowed read
right_item kind spell allowed read some some_is reads fails = record {
  reads = reads_as spell (λ value. text (one_item kind spell value)) allowed allowed read read (λ value is. is) (λ value is. is) (λ value is. sym (append-nil (spell value))) (λ file at. refl) reads;
  some = some;
  some_is = some_is;
  fails = λ file at fault bytes within e. record {
    count = 0;
    value = some;
    is = some_is;
    rest = drop at file;
    begins = refl;
    no_more = λ other more is here.
        not_both (read file at) (other, at + length (spell other)) fault (reads.again file at other more within is (here ∙ ap (λ (t : List ℕ). t ++ more) (append-nil (spell other)))) e;
    item = record { kind = kind; bytes = spell some };
    next = refl;
    fault_is = fails file at fault bytes within e ∙ ap (λ (n : ℕ). fault_at kind file n) (sym (add-zero at));
    only = λ other rest its is here get.
        let first : Item = record { kind = kind; bytes = spell other } in
        fails file at fault bytes within e ∙ ap (λ (n : ℕ). fault_at kind file n) (sym (add-zero at)) ∙ ap (λ (i : Item). fault_at i.kind file (at + 0)) (one_is first its get);
  };
}

-- a reader of a value that stands for another
module _ {V W : Type 0} (its_items : V → List Item) (allowed : V → Type 0) (read : List ℕ → ℕ → Found V) (make : V → W) (part : W → V) where
  abbrev pub read_made : List ℕ → ℕ → Found W
  read_made file at = read file at >>= λ found. Ok (make found.0, found.1)

  abbrev pub made_allowed : W → Type 0
  made_allowed whole = allowed (part whole) × (make (part whole) ≡ whole)

  made_ok : (file : List ℕ) (at : ℕ) (value : V) (end : ℕ) → read file at ≡ Ok (value, end) → read_made file at ≡ Ok (make value, end)
  made_ok file at value end e = at_ok (read file at) (λ found. Ok (make found.0, found.1)) value end e

  pub right_made : ((value : V) → part (make value) ≡ value) → Right its_items allowed read → Right (λ whole. its_items (part whole)) made_allowed read_made
  right_made again right = record {
    reads = record {
      again = λ file at whole rest within is here.
          made_ok file at (part whole) (at + length (text (its_items (part whole)))) (right.reads.again file at (part whole) rest within is.0 here)
          ∙ ap (λ (w : W). found_value w (at + length (text (its_items (part whole))))) is.1;
      sound = λ file at whole end bytes within e. elim (err_or_ok (read file at)) [
        | inl bad ↦ absurd (not_both _ (whole, end) bad.0 e (at_err (read file at) _ bad.0 bad.1))
        | inr found ↦
            let stands = right.reads.sound file at found.0 found.1 bytes within found.2 in
            let same = same_value _ (make found.0) whole found.1 end (made_ok file at found.0 found.1 found.2) e in
            let back : found.0 ≡ part whole = sym (again found.0) ∙ ap part same.0 in
            let P : V → ℕ → Type 0 = λ v n. allowed v × (drop at file ≡ text (its_items v) ++ drop n file) × (n ≡ at + length (text (its_items v))) × (n ≤ length file) in
            let here : P found.0 found.1 = (stands.is, stands.here, stands.place, stands.inside) in
            let moved = subst (λ (v : V). P v end) back (subst (λ (n : ℕ). P found.0 n) same.1 here) in
            record { is = (moved.0, ap make (sym back) ∙ same.0); here = moved.1; place = moved.2; inside = moved.3 }
      ];
    };
    some = make right.some;
    some_is = (subst allowed (sym (again right.some)) right.some_is, ap make (again right.some));
    fails = λ file at fault bytes within e. elim (err_or_ok (read file at)) [
      | inr found ↦ absurd (not_both _ (make found.0, found.1) fault (made_ok file at found.0 found.1 found.2) e)
      | inl bad ↦
          let same = same_fault _ bad.0 fault (at_err (read file at) _ bad.0 bad.1) e in
          let wrong = right.fails file at fault bytes within (bad.1 ∙ ap (λ (f : OpenFault). Err f) same) in
          let whole = make wrong.value in
          let back = sym (again wrong.value) in
          record {
            count = wrong.count;
            value = whole;
            is = (subst allowed back wrong.is, ap make (sym back));
            rest = wrong.rest;
            begins = wrong.begins ∙ ap (λ (v : V). text (take wrong.count (its_items v)) ++ wrong.rest) back;
            no_more = λ other rest is here. wrong.no_more (part other) rest is.0 here;
            item = wrong.item;
            next = ap (λ (v : V). slice_get (its_items v) wrong.count) (sym back) ∙ wrong.next;
            fault_is = wrong.fault_is ∙ ap (λ (v : V). fault_at wrong.item.kind file (at + length (text (take wrong.count (its_items v))))) back;
            only = λ other rest its is here get. wrong.only (part other) rest its is.0 here get;
          }
    ];
  }
