-- Rows of bytes, texts and systems that are read one by one: what is left tells the same as all.
use Rattle.std.proofs.Common.{◌≡◌, ℕ, suc, ◌+◌, ◌*◌, ◌≤◌, Bool, true, false, if◌then◌else◌, eqb, ltb, List, [], ◌∷◌, ◌++◌, length, drop, Option, None, Some, Result, Ok, Err, refl, sym, ap, subst, ◌∙◌, append_assoc, add-zero, inl, inr, arith}
use Rattle.std.proofs.lemmas.Bool.{le-ltb, cases_Bool}
use Rattle.std.proofs.lemmas.List.{append-nil, drop-drop}
use Rattle.std.proofs.lemmas.List.Elements.{All-push}
use Rattle.std.specs.List.{All}
use Rattle.std.specs.Option.{option_map}
use Rattle.trace_base.specs.declared.order.Order.TheVariants.{Little}
use Rattle.dat_options.specs.declared.fault.OpenFault.{OpenFault}
use Rattle.dat_options.specs.declared.fault.OpenFault.TheVariants.{Truncated, Memory}
use Rattle.dat_options.specs.Answer.{AnswersTold}
use Rattle.dat_header.specs.Found.{Found, ◌>>=◌, or_wrong}
use Rattle.dat_header.specs.ItemsAt.{bytes_at, number_at, before_nul, name_at, row_at}
use Rattle.dat_header.specs.Steps.{Steps}
use Rattle.trace_outside.specs.Seen.{FileSeen}
use Rattle.dat_header.proofs.Steps.{steps_same, steps_then, steps_here, steps_failed}

-- whatever the rest from here answers, the whole answers
abbrev pub GoesOn : {V : Type 0} → (List ℕ → Found V) → ℕ → FileSeen → (List ℕ → Found V) → ℕ → FileSeen → Type 0
GoesOn {V} whole at before rest place now =
    (later : FileSeen) (result : Found V) → Steps (λ found. found.1) rest place now later result → Steps (λ found. found.1) whole at before later result

goes_on_itself : {V : Type 0} (whole rest : List ℕ → Found V) (at : ℕ) (now : FileSeen) → ((bytes : List ℕ) → rest bytes ≡ whole bytes) → GoesOn whole at now rest at now
goes_on_itself whole rest at now same later result steps = steps_same (λ found. found.1) rest whole at now later result same steps

-- one step of a row, and the rest after it
goes_on_step : {V W : Type 0} (whole rest : List ℕ → Found V) (first : List ℕ → Found W) (next : W → ℕ → List ℕ → Found V) (at place after : ℕ) (value : W) (before mid now : FileSeen)
    → ((bytes : List ℕ) → (first bytes >>= λ found. next found.0 found.1 bytes) ≡ rest bytes)
    → GoesOn whole at before rest place mid → Steps (λ found. found.1) first place mid now (Ok (value, after)) → GoesOn whole at before (next value after) after now
goes_on_step whole rest first next at place after value before mid now same on step later result steps =
    on later result (steps_same (λ found. found.1) _ rest place mid later result same (steps_then (λ found. found.1) (λ found. found.1) first (λ found. next found.0 found.1) place mid now later (value, after) result step steps))

goes_on_failed : {V W : Type 0} (whole rest : List ℕ → Found V) (first : List ℕ → Found W) (next : W → ℕ → List ℕ → Found V) (at place : ℕ) (fault : OpenFault) (before mid now : FileSeen)
    → ((bytes : List ℕ) → (first bytes >>= λ found. next found.0 found.1 bytes) ≡ rest bytes)
    → GoesOn whole at before rest place mid → Steps (λ found. found.1) first place mid now (Err fault) → Steps (λ found. found.1) whole at before now (Err fault)
goes_on_failed whole rest first next at place fault before mid now same on step =
    on now (Err fault) (steps_same (λ found. found.1) _ rest place mid now (Err fault) same (steps_failed (λ found. found.1) (λ found. found.1) first (λ found. next found.0 found.1) place mid now fault step))

told_memory : {V : Type 0} (expected : List ℕ → Result V OpenFault) (told : Option (List ℕ)) → AnswersTold expected told (Err Memory)
told_memory expected None = tt
told_memory expected (Some bytes) = tt

-- want of memory, which is free
pub goes_on_memory : {V : Type 0} (whole rest : List ℕ → Found V) (at place : ℕ) (before now : FileSeen) → GoesOn whole at before rest place now → Steps (λ found. found.1) whole at before now (Err Memory)
goes_on_memory whole rest at place before now on = on now (Err Memory) (record {
  answer = told_memory rest now.bytes;
  bytes = refl;
  size = refl;
  later = omega arith;
  cause = λ e. cc;
  kept = refl;
  reads = tt;
  most = omega arith;
  forward = tt;
  inside = tt;
})

abbrev found_row : {V : Type 0} → List V → ℕ → Found (List V)
found_row items end = Ok (items, end)

abbrev found_number : ℕ → ℕ → Found ℕ
found_number number end = Ok (number, end)

abbrev with_front : {X : Type 0} → List X → Found (List X) → Found (List X)
with_front front rest = rest >>= λ found. Ok (front ++ found.0, found.1)

-- a name of which these bytes were read
abbrev pub name_from : List ℕ → ℕ → List ℕ → Found (List ℕ)
name_from front place bytes = with_front front (name_at bytes place)

abbrev pub name_next : List ℕ → ℕ → ℕ → List ℕ → Found (List ℕ)
name_next front byte after bytes = if eqb byte 0 then found_row front after else name_from (front ++ byte ∷ []) after bytes

-- so many items after these
abbrev pub row_from : {V : Type 0} → (List ℕ → ℕ → Found V) → List V → ℕ → ℕ → List ℕ → Found (List V)
row_from item_at front count place bytes = with_front front (row_at item_at count bytes place)

from_nothing : {V : Type 0} (found : Found (List V)) → with_front [] found ≡ found
from_nothing (Ok found) = refl
from_nothing (Err fault) = refl

front_more : {V : Type 0} (front : List V) (item : V) (found : Found (List V)) → with_front (front ++ item ∷ []) found ≡ with_front front (found >>= λ more. found_row (item ∷ more.0) more.1)
front_more front item (Ok found) = ap (λ items. found_row items found.1) (append_assoc front (item ∷ []) found.0)
front_more front item (Err fault) = refl

row_step : {V : Type 0} (item_at : List ℕ → ℕ → Found V) (front : List V) (count place : ℕ) (bytes : List ℕ)
    → (item_at bytes place >>= λ found. row_from item_at (front ++ found.0 ∷ []) count found.1 bytes) ≡ row_from item_at front (suc count) place bytes
unfolding row_at
row_step item_at front count place bytes =
    elim (item_at bytes place) as (λ r. (r >>= λ found. row_from item_at (front ++ found.0 ∷ []) count found.1 bytes) ≡ with_front front (r >>= λ found. row_at item_at count bytes found.1 >>= λ more. found_row (found.0 ∷ more.0) more.1)) [
      | Ok found ↦ front_more front found.0 (row_at item_at count bytes found.1)
      | Err fault ↦ refl
    ]

-- a row of which nothing was read
pub row_begins : {V : Type 0} (item_at : List ℕ → ℕ → Found V) (front : List V) (count left at : ℕ) (now : FileSeen) → front ≡ [] → left ≡ count
    → GoesOn (λ bytes. row_at item_at count bytes at) at now (λ bytes. row_from item_at front left at bytes) at now
row_begins item_at front count left at now empty all = goes_on_itself _ _ at now (λ bytes.
    ap (λ (f : List _). row_from item_at f left at bytes) empty ∙ ap (λ (n : ℕ). row_from item_at [] n at bytes) all ∙ from_nothing (row_at item_at count bytes at))

-- one item more
pub row_more : {V : Type 0} (whole : List ℕ → Found (List V)) (item_at : List ℕ → ℕ → Found V) (front longer : List V) (left more at place after : ℕ) (item : V) (before mid now : FileSeen)
    → left ≡ suc more → longer ≡ front ++ item ∷ [] → GoesOn whole at before (λ bytes. row_from item_at front left place bytes) place mid
    → Steps (λ found. found.1) (λ bytes. item_at bytes place) place mid now (Ok (item, after))
    → GoesOn whole at before (λ bytes. row_from item_at longer more after bytes) after now
row_more whole item_at front longer left more at place after item before mid now one push on step =
    subst (λ (f : List _). GoesOn whole at before (λ bytes. row_from item_at f more after bytes) after now) (sym push)
    (goes_on_step whole (λ bytes. row_from item_at front left place bytes) (λ bytes. item_at bytes place) (λ found end bytes. row_from item_at (front ++ found ∷ []) more end bytes) at place after item before mid now
    (λ bytes. row_step item_at front more place bytes ∙ ap (λ (n : ℕ). row_from item_at front n place bytes) (sym one)) on step)

-- an item that is wrong
pub row_failed : {V : Type 0} (whole : List ℕ → Found (List V)) (item_at : List ℕ → ℕ → Found V) (front : List V) (left more at place : ℕ) (fault : OpenFault) (before mid now : FileSeen)
    → left ≡ suc more → GoesOn whole at before (λ bytes. row_from item_at front left place bytes) place mid
    → Steps (λ found. found.1) (λ bytes. item_at bytes place) place mid now (Err fault)
    → Steps (λ found. found.1) whole at before now (Err fault)
row_failed whole item_at front left more at place fault before mid now one on step =
    goes_on_failed whole (λ bytes. row_from item_at front left place bytes) (λ bytes. item_at bytes place) (λ found end bytes. row_from item_at (front ++ found ∷ []) more end bytes) at place fault before mid now
    (λ bytes. row_step item_at front more place bytes ∙ ap (λ (n : ℕ). row_from item_at front n place bytes) (sym one)) on step

-- no item is left
pub row_ends : {V : Type 0} (whole : List ℕ → Found (List V)) (item_at : List ℕ → ℕ → Found V) (front items : List V) (left at place : ℕ) (before now : FileSeen)
    → left ≡ 0 → items ≡ front → place ≤ now.size → GoesOn whole at before (λ bytes. row_from item_at front left place bytes) place now
    → Steps (λ found. found.1) whole at before now (Ok (items, place))
unfolding row_at
row_ends whole item_at front items left at place before now none same within on =
    subst (λ (f : List _). Steps (λ found. found.1) whole at before now (Ok (f, place))) (sym same) (on now (Ok (front, place)) (steps_same (λ found. found.1) (λ bytes. found_row front place) (λ bytes. row_from item_at front left place bytes) place now now (Ok (front, place))
    (λ bytes. ap (λ items. found_row items place) (sym (append-nil front)) ∙ ap (λ (n : ℕ). row_from item_at front n place bytes) (sym none))
    (steps_here (λ found. found.1) (found_row front place) place now (front, place) refl refl within)))

pub byte_missing : (place : ℕ) (bytes : List ℕ) → drop place bytes ≡ [] → number_at 1 Little bytes place ≡ Err (Truncated (length bytes))
unfolding number_at bytes_at
byte_missing place bytes e = rw e refl

pub byte_there : (place byte : ℕ) (bytes rest : List ℕ) → drop place bytes ≡ byte ∷ rest → number_at 1 Little bytes place ≡ Ok (byte, place + 1)
unfolding number_at bytes_at
byte_there place byte bytes rest e =
    let enough : ltb (length (byte ∷ rest)) 1 ≡ false = le-ltb _ _ (omega arith) in
    rw (e, enough) (ap (λ (n : ℕ). found_number n (place + 1)) (let same : byte + 256 * 0 ≡ byte = omega arith in same))

name_missing : (place : ℕ) (bytes : List ℕ) → drop place bytes ≡ [] → name_at bytes place ≡ Err (Truncated (length bytes))
unfolding name_at
name_missing place bytes e = rw e refl

name_nul : (place byte : ℕ) (bytes rest : List ℕ) → drop place bytes ≡ byte ∷ rest → eqb byte 0 ≡ true → name_at bytes place ≡ Ok ([], place + 1)
unfolding name_at
name_nul place byte bytes rest e nul = rw (e, nul) (ap (λ (n : ℕ). found_row [] (n + 1)) (add-zero place))

name_by : (byte place : ℕ) (bytes : List ℕ) (name : Option (List ℕ)) → (or_wrong (Truncated (length bytes)) (option_map (λ rest. byte ∷ rest) name) >>= λ n. found_row n (place + length n + 1))
    ≡ ((or_wrong (Truncated (length bytes)) name >>= (λ n. found_row n (place + 1 + length n + 1))) >>= (λ found. found_row (byte ∷ found.0) found.1))
name_by byte place bytes None = refl
name_by byte place bytes (Some name) = ap (λ (n : ℕ). found_row (byte ∷ name) n) (let same : place + suc (length name) + 1 ≡ place + 1 + length name + 1 = omega arith in same)

name_other : (place byte : ℕ) (bytes rest : List ℕ) → drop place bytes ≡ byte ∷ rest → eqb byte 0 ≡ false
    → name_at bytes place ≡ (name_at bytes (place + 1) >>= λ found. found_row (byte ∷ found.0) found.1)
unfolding name_at
name_other place byte bytes rest e other =
    let behind : drop (place + 1) bytes ≡ rest = sym (drop-drop 1 place bytes) ∙ ap (drop 1) e in
    rw (e, other, behind) (name_by byte place bytes (before_nul rest))

name_step_at : (front : List ℕ) (place : ℕ) (bytes there : List ℕ) → drop place bytes ≡ there
    → (number_at 1 Little bytes place >>= λ found. name_next front found.0 found.1 bytes) ≡ name_from front place bytes
name_step_at front place bytes [] e = rw (byte_missing place bytes e, name_missing place bytes e) refl
name_step_at front place bytes (byte ∷ rest) e = elim (cases_Bool (eqb byte 0)) [
  | inl nul ↦ rw (byte_there place byte bytes rest e, name_nul place byte bytes rest e nul, nul) (ap (λ (f : List ℕ). found_row f (place + 1)) (sym (append-nil front)))
  | inr other ↦ rw (byte_there place byte bytes rest e, name_other place byte bytes rest e other, other) (front_more front byte (name_at bytes (place + 1)))
]

name_step : (front : List ℕ) (place : ℕ) (bytes : List ℕ) → (number_at 1 Little bytes place >>= λ found. name_next front found.0 found.1 bytes) ≡ name_from front place bytes
name_step front place bytes = name_step_at front place bytes (drop place bytes) refl

pub name_begins : (front : List ℕ) (at : ℕ) (now : FileSeen) → front ≡ [] → GoesOn (λ bytes. name_at bytes at) at now (λ bytes. name_from front at bytes) at now
name_begins front at now empty = goes_on_itself _ _ at now (λ bytes. ap (λ (f : List ℕ). name_from f at bytes) empty ∙ from_nothing (name_at bytes at))

-- one byte more, which is not NUL
pub name_more : (whole : List ℕ → Found (List ℕ)) (front longer : List ℕ) (at place after byte : ℕ) (before mid now : FileSeen) → eqb byte 0 ≡ false → longer ≡ front ++ byte ∷ []
    → GoesOn whole at before (λ bytes. name_from front place bytes) place mid
    → Steps (λ found. found.1) (λ bytes. number_at 1 Little bytes place) place mid now (Ok (byte, after))
    → GoesOn whole at before (λ bytes. name_from longer after bytes) after now
name_more whole front longer at place after byte before mid now other push on step =
    subst (λ (f : List ℕ). GoesOn whole at before (λ bytes. name_from f after bytes) after now) (sym push)
    (subst (λ (b : Bool). GoesOn whole at before (λ bytes. if b then found_row front after else name_from (front ++ byte ∷ []) after bytes) after now) other
    (goes_on_step whole (λ bytes. name_from front place bytes) (λ bytes. number_at 1 Little bytes place) (λ found end bytes. name_next front found end bytes) at place after byte before mid now (name_step front place) on step))

pub name_failed : (whole : List ℕ → Found (List ℕ)) (front : List ℕ) (at place : ℕ) (fault : OpenFault) (before mid now : FileSeen)
    → GoesOn whole at before (λ bytes. name_from front place bytes) place mid
    → Steps (λ found. found.1) (λ bytes. number_at 1 Little bytes place) place mid now (Err fault)
    → Steps (λ found. found.1) whole at before now (Err fault)
name_failed whole front at place fault before mid now on step =
    goes_on_failed whole (λ bytes. name_from front place bytes) (λ bytes. number_at 1 Little bytes place) (λ found end bytes. name_next front found end bytes) at place fault before mid now (name_step front place) on step

-- NUL
pub name_ends : (whole : List ℕ → Found (List ℕ)) (front name : List ℕ) (at place after byte : ℕ) (before mid now : FileSeen) → eqb byte 0 ≡ true → name ≡ front
    → GoesOn whole at before (λ bytes. name_from front place bytes) place mid
    → Steps (λ found. found.1) (λ bytes. number_at 1 Little bytes place) place mid now (Ok (byte, after))
    → Steps (λ found. found.1) whole at before now (Ok (name, after))
name_ends whole front name at place after byte before mid now nul same on step =
    let on_next = subst (λ (b : Bool). GoesOn whole at before (λ bytes. if b then found_row front after else name_from (front ++ byte ∷ []) after bytes) after now) nul
    (goes_on_step whole (λ bytes. name_from front place bytes) (λ bytes. number_at 1 Little bytes place) (λ found end bytes. name_next front found end bytes) at place after byte before mid now (name_step front place) on step) in
    subst (λ (f : List ℕ). Steps (λ found. found.1) whole at before now (Ok (f, after))) (sym same) (on_next now (Ok (front, after)) (steps_here (λ found. found.1) (found_row front after) after now (front, after) refl refl (omega (arith, step.inside, step.size))))

-- what holds of each item holds with one more
pub all_more : {V : Type 0} (P : V → Type 0) (items longer : List V) (item : V) → longer ≡ items ++ item ∷ [] → All P items → P item → All P longer
all_more P items longer item push all one = subst (All P) (sym push) (All-push P items item all one)
