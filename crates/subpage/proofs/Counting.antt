-- Items that are counted one after another.
use Rattle.std.proofs.Common.{◌≡◌, ℕ, ◌+◌, ◌-◌, ◌<◌, ◌≤◌, List, [], ◌∷◌, ◌++◌, length, take, drop, map, Option, Some, None, refl, sym, ap, ◌∙◌, append_assoc, arith}
use Rattle.std.specs.List.{last_or}
use Rattle.std.specs.Option.{option_map, option_or}
use Rattle.std.proofs.lemmas.List.{append-nil, drop-drop, length-drop, length_push}
use Rattle.subpage.specs.declared.summary.Summary.{Summary}
use Rattle.trace_base.specs.declared.order.Order.{Order}
use Rattle.subpage.specs.declared.loss.Loss.{Loss}
use Rattle.subpage.specs.ItemData.{ItemData, EventAt, item_time, first_time, last_time}
use Rattle.subpage.specs.Left.{loss_items}
use Rattle.subpage.specs.NextEvent.{IsClaimed}
use Rattle.subpage.specs.Reading.{walk}
use Rattle.subpage.specs.Summary.{summary_of}

-- items that were counted, before those that are left
pub record SoFar (summary : Summary) (before : List ItemData) (rest : Option (List ItemData)) (room : ℕ) (all : Option (List ItemData)) (len : ℕ) : Type 0 where
  pub told : List ItemData
  pub counted : summary ≡ summary_of told
  pub together : option_map (λ xs. told ++ xs) rest ≡ option_map (λ xs. before ++ xs) all
  pub few : length told + room ≤ len + 1

last_push : (o : Option ℕ) (xs : List ItemData) (y : ItemData) → last_or o (map item_time (xs ++ y ∷ [])) ≡ Some (item_time y)
last_push o [] y = refl
last_push o (x ∷ xs) y = last_push (Some (item_time x)) xs y

first_push : (xs : List ItemData) (y : ItemData) → first_time (xs ++ y ∷ []) ≡ option_or (first_time xs) (Some (item_time y))
first_push [] y = refl
first_push (x ∷ xs) y = refl

regroup : (told : List ItemData) (y : ItemData) (rest : Option (List ItemData)) → option_map (λ xs. (told ++ y ∷ []) ++ xs) rest ≡ option_map (λ xs. told ++ xs) (option_map (λ xs. y ∷ xs) rest)
regroup told y None = refl
regroup told y (Some xs) = ap (λ (t : List ItemData). Some t) (append_assoc told (y ∷ []) xs)

abbrev made : ℕ → Option ℕ → Option ℕ → Summary
made a b c = record { count = a; first = b; last = c }

same_summary : (t : Summary) (a : ℕ) (b c : Option ℕ) → t.count ≡ a → t.first ≡ b → t.last ≡ c → t ≡ made a b c
same_summary t a b c p q r = ap (λ (x : ℕ). made x t.first t.last) p ∙ ap (λ (x : Option ℕ). made a x t.last) q ∙ ap (λ (x : Option ℕ). made a b x) r

-- one more
pub one_more : (s t : Summary) (before : List ItemData) (rest after : Option (List ItemData)) (room less : ℕ) (all : Option (List ItemData)) (len : ℕ) (y : ItemData) → SoFar s before rest room all len
    → rest ≡ option_map (λ xs. y ∷ xs) after → less < room → t.count ≡ s.count + 1 → t.first ≡ option_or s.first (Some (item_time y)) → t.last ≡ Some (item_time y) → SoFar t before after less all len
one_more s t before rest after room less all len y so e lt count first last =
    let counted = so.counted in
    let told = so.told ++ y ∷ [] in
    let n : t.count ≡ length told = count ∙ ap (λ (x : Summary). x.count + 1) counted ∙ sym (length_push so.told y) in
    let f : t.first ≡ first_time told = first ∙ ap (λ (x : Summary). option_or x.first (Some (item_time y))) counted ∙ sym (first_push so.told y) in
    let l : t.last ≡ last_time told = last ∙ sym (last_push None so.told y) in
    record {
      told = told;
      counted = same_summary t _ _ _ n f l;
      together = regroup so.told y after ∙ ap (option_map (λ xs. so.told ++ xs)) (sym e) ∙ so.together;
      few = omega (arith, so.few, length_push so.told y);
    }

twice : (before : List ItemData) (all : Option (List ItemData)) → option_map summary_of (option_map (λ xs. before ++ xs) all) ≡ option_map (λ xs. summary_of (before ++ xs)) all
twice before None = refl
twice before (Some xs) = refl

-- none left
pub all_told : (s : Summary) (before : List ItemData) (rest : Option (List ItemData)) (room : ℕ) (all : Option (List ItemData)) (len : ℕ) → SoFar s before rest room all len → rest ≡ Some [] → Some s ≡ option_map (λ xs. summary_of (before ++ xs)) all
all_told s before rest room all len so e =
    let told : Some so.told ≡ option_map (λ xs. before ++ xs) all = ap (λ (t : List ItemData). Some t) (sym (append-nil so.told)) ∙ ap (option_map (λ xs. so.told ++ xs)) (sym e) ∙ so.together in
    ap (λ (t : Summary). Some t) so.counted ∙ ap (option_map summary_of) told ∙ twice before all

-- bytes that tell no items
pub fault_told : (s : Summary) (before : List ItemData) (rest : Option (List ItemData)) (room : ℕ) (all : Option (List ItemData)) (len : ℕ) → SoFar s before rest room all len → rest ≡ None → None ≡ option_map (λ xs. summary_of (before ++ xs)) all
fault_told s before rest room all len so e =
    let none : None ≡ option_map (λ xs. before ++ xs) all = ap (option_map (λ xs. so.told ++ xs)) (sym e) ∙ so.together in
    ap (option_map summary_of) none ∙ twice before all

-- Items that were counted up to a place of the bytes. A place past them is that of bytes that tell no items.
pub record UpTo (summary : Summary) (before : List ItemData) (order : Order) (start time : ℕ) (bytes : List ℕ) (from : ℕ) : Type 0 where
  pub inside : from ≤ length bytes → SoFar summary before (walk order time (drop from bytes)) (length bytes - from) (walk order start bytes) (length bytes)
  pub past : length bytes < from → walk order start bytes ≡ None

one_loss : (loss : Option Loss) → length (loss_items loss) ≤ 1
one_loss None = omega arith
one_loss (Some loss) = omega arith

-- before the first
pub from_start : (s : Summary) (loss : Option Loss) (order : Order) (start : ℕ) (bytes : List ℕ) → s ≡ summary_of (loss_items loss) → UpTo s (loss_items loss) order start start bytes 0
from_start s loss order start bytes e = record {
  inside = λ some. record { told = loss_items loss; counted = e; together = refl; few = omega (arith, one_loss loss) };
  past = λ far. absurd (omega (arith, far));
}

no_rest : (told before : List ItemData) (rest all : Option (List ItemData)) → option_map (λ xs. told ++ xs) rest ≡ option_map (λ xs. before ++ xs) all → rest ≡ None → all ≡ None
no_rest told before None None e is = refl
no_rest told before None (Some xs) e is = absurd cc
no_rest told before (Some ys) all e is = absurd cc

-- an event on that its first word claims
pub one_claimed : (s t : Summary) (before : List ItemData) (order : Order) (start time : ℕ) (bytes : List ℕ) (from after behind : ℕ) → UpTo s before order start time bytes from
    → IsClaimed order time bytes from after behind → t.count ≡ s.count + 1 → t.first ≡ option_or s.first (Some after) → t.last ≡ Some after → UpTo t before order start after bytes behind
one_claimed s t before order start time bytes from after behind so is count first last =
    let here = so.inside (omega (arith, is.inside)) in
    let event = EventAt after (take (behind - (from + 4)) (drop (from + 4) bytes)) in
    record {
      inside = λ fits. one_more s t before (walk order time (drop from bytes)) (walk order after (drop behind bytes)) (length bytes - from) (length bytes - behind) (walk order start bytes) (length bytes)
          event here (is.told fits) (omega (arith, is.inside, is.further)) count first last;
      past = λ far. no_rest here.told before (walk order time (drop from bytes)) (walk order start bytes) here.together (is.cut far);
    }

-- an event on, whatever stands before it
pub one_next : (s t : Summary) (before : List ItemData) (order : Order) (start time : ℕ) (bytes : List ℕ) (from after : ℕ) (payload own rest : List ℕ) → UpTo s before order start time bytes from
    → from ≤ length bytes → own ≡ drop from bytes → walk order time own ≡ option_map (λ xs. EventAt after payload ∷ xs) (walk order after rest) → length rest < length own
    → rest ≡ drop (length own - length rest) own → t.count ≡ s.count + 1 → t.first ≡ option_or s.first (Some after) → t.last ≡ Some after
    → UpTo t before order start after bytes (length bytes - length rest)
one_next s t before order start time bytes from after payload own rest so within e is less suffix count first last =
    let event = EventAt after payload in
    let size : length own ≡ length bytes - from = ap length e ∙ length-drop from bytes in
    let place : from + (length own - length rest) ≡ length bytes - length rest = omega (arith, size, less) in
    let behind : rest ≡ drop (length bytes - length rest) bytes =
    suffix ∙ ap (drop (length own - length rest)) e ∙ drop-drop (length own - length rest) from bytes ∙ ap (λ (n : ℕ). drop n bytes) place in
    let walked : walk order time (drop from bytes) ≡ option_map (λ xs. event ∷ xs) (walk order after (drop (length bytes - length rest) bytes)) =
    ap (walk order time) (sym e) ∙ is ∙ ap (λ (r : List ℕ). option_map (λ xs. event ∷ xs) (walk order after r)) behind in
    record {
      inside = λ fits. one_more s t before (walk order time (drop from bytes)) (walk order after (drop (length bytes - length rest) bytes)) (length bytes - from)
          (length bytes - (length bytes - length rest)) (walk order start bytes) (length bytes) event (so.inside within) walked (omega (arith, size, less)) count first last;
      past = λ far. absurd (omega (arith, far));
    }
