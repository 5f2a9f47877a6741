-- What a sink gains by one write after another.
use Rattle.std.proofs.Common.{suc, ◌∷◌, ◌<◌, inl, inr, get_or, drop-cons, ◌≡◌, ℕ, ◌+◌, ◌≤◌, length, arith, List, [], ◌++◌, take, drop, Option, None, Some, refl, sym, ap, ◌∙◌, append_assoc, Result, Ok, Err, OnErr}
use Rattle.std.proofs.lemmas.List.{append-nil, take_at, drop_at, take-append-le, take_all, take-append-drop}
use Rattle.std.proofs.lemmas.List.Concat.{flat_map-cons}
use Rattle.std.proofs.lemmas.Grind.{flat_map-append}
use Rattle.std.proofs.lemmas.Bool.{cases_lt}
use Rattle.std.proofs.Math.Seq.{take-add}
use Rattle.std.specs.List.{flat_map}
use Rattle.std.specs.Io.KnownBytes.{append_known}
use Rattle.trace_outside.specs.Writing.{Gained, GainedPrefix}

pub gained_nothing : (told : Option (List ℕ)) → Gained told told []
gained_nothing None = refl
gained_nothing (Some bytes) = ap Some (sym (append-nil bytes))

gained_twice : (told : Option (List ℕ)) (first then : List ℕ) → append_known (append_known told first) then ≡ append_known told (first ++ then)
gained_twice None first then = refl
gained_twice (Some bytes) first then = ap Some (append_assoc bytes first then)

pub gained_both : (before mid now : Option (List ℕ)) (first then : List ℕ) → Gained before mid first → Gained mid now then → Gained before now (first ++ then)
gained_both before mid now first then one two = two ∙ ap (λ told. append_known told then) one ∙ gained_twice before first then

-- the next few bytes of a text after those that are there
pub gained_more : (before mid now : Option (List ℕ)) (text : List ℕ) (done count : ℕ) → Gained before mid (take done text)
    → Gained mid now (take count (drop done text)) → Gained before now (take (done + count) text)
gained_more before mid now text done count one two =
    gained_both before mid now (take done text) (take count (drop done text)) one two ∙ ap (append_known before) (sym (take-add done count text))

pub prefix_whole : (before now : Option (List ℕ)) (text : List ℕ) → Gained before now text → GainedPrefix before now text
prefix_whole before now text gained = (length text, gained ∙ ap (append_known before) (sym (take_all (length text) text (omega arith))))

front_of_both : (front part rest : List ℕ) (count : ℕ) → count ≤ length part → take (length front + count) (front ++ (part ++ rest)) ≡ front ++ take count part
front_of_both front part rest count few =
    take-add (length front) count (front ++ (part ++ rest))
    ∙ ap (λ head. head ++ take count (drop (length front) (front ++ (part ++ rest)))) (take_at front (part ++ rest) (length front) refl)
    ∙ ap (λ tail. front ++ take count tail) (drop_at front (part ++ rest) (length front) refl)
    ∙ ap (λ tail. front ++ tail) (take-append-le count part rest few)

-- a prefix of a part, after a front that is there whole, is a prefix of any text that goes on so
pub prefix_behind : (before mid now : Option (List ℕ)) (front part rest whole : List ℕ) → whole ≡ front ++ (part ++ rest)
    → Gained before mid front → GainedPrefix mid now part → GainedPrefix before now whole
prefix_behind before mid now front part rest whole is one two = elim (cases_lt (length part) two.0) [
  | inl long ↦ (length front + length part, both ∙ ap (append_known before) (ap (λ tail. front ++ tail) (take_all two.0 part (omega arith) ∙ sym (take_all (length part) part (omega arith))) ∙ sym (front_of_both front part rest (length part) (omega arith)) ∙ ap (take (length front + length part)) (sym is)))
  | inr few ↦ (length front + two.0, both ∙ ap (append_known before) (sym (front_of_both front part rest two.0 few) ∙ ap (take (length front + two.0)) (sym is)))
]
  where
    both : Gained before now (front ++ take two.0 part)
    both = gained_both before mid now front (take two.0 part) one two.1

-- a row of parts: those before one, that one, and those after it
pub flat_map-parted : {X : Type 0} (f : X → List ℕ) (xs : List X) (i : ℕ) (d : X) → i < length xs
    → flat_map f xs ≡ flat_map f (take i xs) ++ (f (get_or xs i d) ++ flat_map f (drop (suc i) xs))
flat_map-parted f xs i d inside =
    ap (flat_map f) (sym (take-append-drop i xs) ∙ ap (λ tail. take i xs ++ tail) (drop-cons xs i d inside))
    ∙ flat_map-append f (take i xs) (get_or xs i d ∷ drop (suc i) xs)
    ∙ ap (λ tail. flat_map f (take i xs) ++ tail) (flat_map-cons f (get_or xs i d) (drop (suc i) xs))

-- a prefix of a part, after the parts before it, is a prefix of the row
pub prefix_of_parts : {X : Type 0} (f : X → List ℕ) (xs : List X) (i : ℕ) (d : X) (before mid now : Option (List ℕ)) → i < length xs
    → Gained before mid (flat_map f (take i xs)) → GainedPrefix mid now (f (get_or xs i d)) → GainedPrefix before now (flat_map f xs)
prefix_of_parts f xs i d before mid now inside one two =
    prefix_behind before mid now (flat_map f (take i xs)) (f (get_or xs i d)) (flat_map f (drop (suc i) xs)) (flat_map f xs) (flat_map-parted f xs i d inside) one two

-- what holds, holds at an error too
pub on_err : {T E P : Type 0} (result : Result T E) → P → OnErr result P
on_err (Ok value) holds = tt
on_err (Err error) holds = holds
