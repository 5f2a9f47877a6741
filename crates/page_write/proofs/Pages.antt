-- The sub-buffer of items tells just these items.
use Rattle.std.proofs.Common.{◌≡◌, ℕ, ◌+◌, ◌-◌, ◌/◌, ◌%◌, ◌^◌, ◌<◌, ◌≤◌, true, false, leb, eqb, List, [], ◌∷◌, ◌++◌, length, take, drop, Some, None, refl, sym, ap, subst, ◌∙◌, ◌⊎◌, ⊎_elim, append_assoc, arith}
use Rattle.std.specs.List.{All}
use Rattle.std.proofs.lemmas.List.Elements.{All-head, All-tail}
use Rattle.std.proofs.lemmas.Bool.{and_parts, leb-true, le-leb}
use Rattle.std.proofs.lemmas.List.{length-append, length-replicate, take_at, drop_at}
use Rattle.trace_base.specs.declared.layout.Layout.{Layout}
use Rattle.trace_base.specs.Layout.{IsLayout}
use Rattle.trace_base.proofs.Layouts.{commit_is_long, fields_apart}
use Rattle.trace_base.specs.Number.{num, bytes_of}
use Rattle.subpage.specs.ItemData.{ItemData, EventAt, LossAt, item_time, events}
use Rattle.subpage.specs.Page.{timestamp, commit_word, data_area, committed_size, committed, behind_committed, page_losses, losses, AreItems, items}
use Rattle.subpage.proofs.PageItems.{are_items}
use Rattle.page_write.specs.Record.{zeros, records_text}
use Rattle.page_write.specs.PageBytes.{put_at, start_of, number_text, loss_bits, records, data_text, area_len, front_text, page_of, follow, one_page, IsPackable}
use Rattle.page_write.proofs.Numbers.{length-bytes_of, num_again}
use Rattle.page_write.proofs.Records.{elements_of, spelled_records, events_again, in_time_again, InTime}
use Rattle.page_write.proofs.Places.{length-put_at, found_at, other_at, in_front}

-- the commit word of items
abbrev pub word_of : Layout → List ItemData → ℕ
word_of layout xs = length (records layout xs) + loss_bits xs

record FrontOk (l : Layout) (xs : List ItemData) : Type 0 where
  long : length (front_text l xs) ≡ l.data_at
  time : take 8 (drop l.time_at (front_text l xs)) ≡ bytes_of l.order 8 (start_of xs)
  word : take l.commit_size (drop l.commit_at (front_text l xs)) ≡ bytes_of l.order l.commit_size (word_of l xs)

front_ok : (l : Layout) (xs : List ItemData) → IsLayout l → FrontOk l xs
unfolding front_text
front_ok l xs allowed =
    let blank = zeros l.data_at in
    let blank_long : length blank ≡ l.data_at = length-replicate l.data_at 0 in
    let stamp = bytes_of l.order 8 (start_of xs) in
    let stamp_long : length stamp ≡ 8 = length-bytes_of l.order 8 (start_of xs) in
    let word = bytes_of l.order l.commit_size (word_of l xs) in
    let word_long : length word ≡ l.commit_size = length-bytes_of l.order l.commit_size (word_of l xs) in
    let first = allowed.time_before_data in
    let second = allowed.commit_before_data in
    let stamped = put_at l.time_at stamp blank in
    let stamped_long : length stamped ≡ l.data_at = length-put_at l.time_at stamp blank (omega arith) ∙ blank_long in
    let apart : (l.time_at + 8 ≤ l.commit_at) ⊎ (l.commit_at + length word ≤ l.time_at) = subst (λ (n : ℕ). (l.time_at + 8 ≤ l.commit_at) ⊎ (l.commit_at + n ≤ l.time_at)) (sym word_long) (fields_apart l) in
    record {
      long = length-put_at l.commit_at word stamped (omega arith) ∙ stamped_long;
      time = other_at l.commit_at word stamped l.time_at 8 (omega arith) apart ∙ found_at l.time_at stamp blank 8 stamp_long (omega arith);
      word = found_at l.commit_at word stamped l.commit_size word_long (omega arith);
    }

pub front_long : (l : Layout) (xs : List ItemData) → IsLayout l → length (front_text l xs) ≡ l.data_at
front_long l xs allowed = (front_ok l xs allowed).long

-- what the data area begins with is there, and after it zero bytes
record DataOk (l : Layout) (xs : List ItemData) (page : List ℕ) : Type 0 where
  time : timestamp l page ≡ start_of xs
  word : commit_word l page ≡ word_of l xs
  padding : List ℕ
  area : data_area l page ≡ data_text l xs ++ padding

data_ok : (l : Layout) (xs : List ItemData) → IsLayout l → start_of xs < 2 ^ 64 → word_of l xs < 256 ^ l.commit_size → DataOk l xs (page_of l xs)
unfolding page_of
data_ok l xs allowed early small =
    let f = front_ok l xs allowed in
    let front = front_text l xs in
    let padding = zeros (area_len l - length (data_text l xs)) in
    let back = data_text l xs ++ padding in
    let first = allowed.time_before_data in
    let second = allowed.commit_before_data in
    let long = f.long in
    record {
      time = ap (num l.order) (in_front front back l.time_at 8 (omega arith) ∙ f.time) ∙ num_again l.order 8 (start_of xs) early;
      word = ap (num l.order) (in_front front back l.commit_at l.commit_size (omega arith) ∙ f.word) ∙ num_again l.order l.commit_size (word_of l xs) small;
      padding = padding;
      area = drop_at front back l.data_at long;
    }

-- the loss that items begin with, and what is after it
abbrev pub front_loss : List ItemData → List ItemData
front_loss [] = []
front_loss (EventAt time payload ∷ xs) = []
front_loss (LossAt time count ∷ xs) = LossAt time count ∷ []

abbrev pub behind_loss : List ItemData → List ItemData
behind_loss [] = []
behind_loss (EventAt time payload ∷ xs) = EventAt time payload ∷ xs
behind_loss (LossAt time count ∷ xs) = xs

pub parted : (xs : List ItemData) → front_loss xs ++ behind_loss xs ≡ xs
parted [] = refl
parted (EventAt time payload ∷ xs) = refl
parted (LossAt time count ∷ xs) = refl

pub same_records : (l : Layout) (xs : List ItemData) → records l xs ≡ records_text l.order (start_of xs) (behind_loss xs)
unfolding records_text
same_records l [] = refl
same_records l (EventAt time payload ∷ xs) = refl
same_records l (LossAt time count ∷ xs) = refl

pub follow_behind : (l : Layout) (xs : List ItemData) → one_page l xs ≡ true → follow (start_of xs) (behind_loss xs) ≡ true
follow_behind l [] one = refl
follow_behind l (EventAt time payload ∷ xs) one =
    let p = and_parts (follow time xs) (leb (length (data_text l (EventAt time payload ∷ xs))) (area_len l)) one in
    let least : leb time time ≡ true = le-leb _ _ (omega arith) in
    let none : time - time ≡ 0 = omega arith in
    rw (least, none) p.0
follow_behind l (LossAt time count ∷ xs) one = (and_parts (follow time xs) (leb (length (data_text l (LossAt time count ∷ xs))) (area_len l)) one).0

pub room : (l : Layout) (xs : List ItemData) → one_page l xs ≡ true → length (data_text l xs) ≤ area_len l
unfolding records_text
room l [] one = omega arith
room l (x ∷ xs) one = leb-true _ _ (and_parts (follow (item_time x) xs) (leb (length (data_text l (x ∷ xs))) (area_len l)) one).1

bits_small : (xs : List ItemData) → loss_bits xs ≤ 2 ^ 31 + 2 ^ 30
bits_small [] = omega arith
bits_small (EventAt time payload ∷ xs) = omega arith
bits_small (LossAt time None ∷ xs) = omega arith
bits_small (LossAt time (Some n) ∷ xs) = omega arith

bits_size : (n : ℕ) (xs : List ItemData) → n < 2 ^ 27 → committed_size (n + loss_bits xs) ≡ n
bits_size n [] few = omega arith
bits_size n (EventAt time payload ∷ xs) few = omega arith
bits_size n (LossAt time None ∷ xs) few = omega arith
bits_size n (LossAt time (Some count) ∷ xs) few = omega arith

pub word_small : (l : Layout) (n : ℕ) → IsLayout l → n < 2 ^ 32 → n < 256 ^ l.commit_size
word_small l n allowed few = ⊎_elim
    (λ four. subst (λ (k : ℕ). n < 256 ^ k) (sym four) few)
    (λ eight. subst (λ (k : ℕ). n < 256 ^ k) (sym eight) (omega arith))
    (commit_is_long l)

losses_again : (l : Layout) (xs : List ItemData) (n : ℕ) (padding : List ℕ) → n < 2 ^ 27 → All (IsPackable l) xs → losses l (n + loss_bits xs) (start_of xs) (number_text l xs ++ padding) ≡ front_loss xs
losses_again l [] n padding few ok =
    let bit : eqb ((n + 0) / 2 ^ 31 % 2) 1 ≡ false = grind arith in
    rw bit refl
losses_again l (EventAt time payload ∷ xs) n padding few ok =
    let bit : eqb ((n + 0) / 2 ^ 31 % 2) 1 ≡ false = grind arith in
    rw bit refl
losses_again l (LossAt time None ∷ xs) n padding few ok =
    let bit : (n + 2 ^ 31) / 2 ^ 31 % 2 ≡ 1 = omega arith in
    let other : (n + 2 ^ 31) / 2 ^ 30 % 2 ≡ 0 = omega arith in
    rw (bit, other) refl
losses_again l (LossAt time (Some count) ∷ xs) n padding few ok =
    let bit : (n + (2 ^ 31 + 2 ^ 30)) / 2 ^ 31 % 2 ≡ 1 = omega arith in
    let other : (n + (2 ^ 31 + 2 ^ 30)) / 2 ^ 30 % 2 ≡ 1 = omega arith in
    let number = bytes_of l.order l.commit_size count in
    let long : length number ≡ l.commit_size = length-bytes_of l.order l.commit_size count in
    let enough : leb l.commit_size (length (number ++ padding)) ≡ true = le-leb _ _ (omega (arith, length-append number padding)) in
    let fits = (All-head (IsPackable l) (LossAt time (Some count)) xs ok).number in
    let back : num l.order number ≡ count = num_again l.order l.commit_size count fits in
    rw (bit, other, enough, take_at number padding l.commit_size long, back) refl

pub times_small : (l : Layout) (xs : List ItemData) → All (IsPackable l) xs → All InTime xs
times_small l xs ok = λ k d inside. (ok k d inside).time

pub behind_small : (xs : List ItemData) → All InTime xs → All InTime (behind_loss xs)
behind_small [] few = few
behind_small (EventAt time payload ∷ xs) few = few
behind_small (LossAt time count ∷ xs) few = All-tail InTime (LossAt time count) xs few

pub start_small : (xs : List ItemData) → All InTime xs → start_of xs < 2 ^ 64
start_small [] few = omega arith
start_small (x ∷ xs) few = All-head InTime x xs few

-- the relation of items to the sub-buffer
page_tells : (l : Layout) (xs : List ItemData) → IsLayout l → All (IsPackable l) xs → one_page l xs ≡ true → AreItems l (page_of l xs) xs
page_tells l xs allowed ok one =
    let few = times_small l xs ok in
    let text = records l xs in
    let start = start_of xs in
    let behind = behind_loss xs in
    let fits = room l xs one in
    let both = length-append text (number_text l xs) in
    let most = allowed.page_most in
    let bits = bits_small xs in
    let size : length text < 2 ^ 27 = omega arith in
    let d = data_ok l xs allowed (start_small xs few) (word_small l (word_of l xs) allowed (omega arith)) in
    let page = page_of l xs in
    let count : committed_size (commit_word l page) ≡ length text = ap committed_size d.word ∙ bits_size (length text) xs size in
    let area : data_area l page ≡ text ++ (number_text l xs ++ d.padding) = d.area ∙ append_assoc text (number_text l xs) d.padding in
    let taken : committed l page ≡ text = rw (count, area) (take_at text (number_text l xs ++ d.padding) (length text) refl) in
    let left : behind_committed l page ≡ number_text l xs ++ d.padding = rw (count, area) (drop_at text (number_text l xs ++ d.padding) (length text) refl) in
    let same = same_records l xs in
    let followed = follow_behind l xs one in
    let told : page_losses l page ≡ front_loss xs =
    ap (λ (w : ℕ). losses l w (timestamp l page) (behind_committed l page)) d.word
    ∙ ap (λ (t : ℕ). losses l (word_of l xs) t (behind_committed l page)) d.time
    ∙ ap (λ (b : List ℕ). losses l (word_of l xs) start b) left
    ∙ losses_again l xs (length text) d.padding size ok in
    record {
      inside = rw (count, area) (omega (arith, length-append text (number_text l xs ++ d.padding)));
      elements = elements_of start behind;
      spelled = rw (taken, same) (spelled_records l.order start behind followed (subst (λ (t : List ℕ). length t < 2 ^ 31) same (omega arith)));
      in_64_bits = rw d.time (in_time_again start behind followed (behind_small xs few));
      items_are = sym (
          ap (λ (ys : List ItemData). ys ++ events (timestamp l page) (elements_of start behind)) told
          ∙ ap (λ (t : ℕ). front_loss xs ++ events t (elements_of start behind)) d.time
          ∙ ap (λ (ys : List ItemData). front_loss xs ++ ys) (events_again start behind followed)
          ∙ parted xs);
    }

pub page_reads_back : (l : Layout) (xs : List ItemData) → IsLayout l → All (IsPackable l) xs → one_page l xs ≡ true → items l (page_of l xs) ≡ Some xs
page_reads_back l xs allowed ok one = are_items l (page_of l xs) xs (page_tells l xs allowed ok one)
