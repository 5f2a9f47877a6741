-- Pieces of lists.
use Rattle.std.proofs.Common.{◌≡◌, ◌↔◌, ℕ, suc, zero, ◌+◌, ◌<◌, ◌≤◌, Bool, true, false, not, ltb, List, [], ◌∷◌, ◌++◌, length, drop, refl, sym, ap, subst, ◌∙◌, append-nil, arith, inl, inr, if◌then◌else◌}
use Rattle.std.specs.List.{filter, flat_map, prefix_len, take_while}
use Rattle.std.proofs.lemmas.Bool.{cases_Bool, cond-true, cond-false, ltb-false, lt-ltb, le-ltb}
use Rattle.std.proofs.lemmas.List.{drop_all, length-append}
use Rattle.std.proofs.lemmas.List.Sums.{take_while-cons}
use Rattle.subpage.specs.Arrangement.{Keyed, IsRising, key_of}
use Rattle.subpage.proofs.Arranging.{rising_tail}
use Rattle.word_values.specs.declared.moment.Moment.{Moment}
use Rattle.word_values.specs.declared.piece.PieceUnit.{PieceUnit}
use Rattle.word_values.specs.declared.piece.PieceUnit.TheVariants.{All, Nanos, Events}
use Rattle.split_pieces.specs.declared.gauge.Gauge.TheVariants as gauges
use Rattle.split_pieces.specs.Gauging.{TakesItem}
use Rattle.split_pieces.specs.Moments.{time_as, is_before}
use Rattle.split_pieces.specs.Pieces.{is_event, up_to_event, piece, rest, IsUnit, Pieces, nothing, takes, pieces_within, all_pieces, joined_lists, files_within, files_left}

-- the first item passes, or it ends the front
pub front_yes : (p : Keyed → Bool) (x : Keyed) (xs : List Keyed) → p x ≡ true → take_while p (x ∷ xs) ≡ x ∷ take_while p xs
front_yes p x xs passes = take_while-cons p x xs ∙ cond-true _ _ _ passes

pub front_no : (p : Keyed → Bool) (x : Keyed) (xs : List Keyed) → p x ≡ false → take_while p (x ∷ xs) ≡ []
front_no p x xs fails = take_while-cons p x xs ∙ cond-false _ _ _ fails

behind_yes : (p : Keyed → Bool) (x : Keyed) (xs : List Keyed) → p x ≡ true → drop (prefix_len p (x ∷ xs)) (x ∷ xs) ≡ drop (prefix_len p xs) xs
behind_yes p x xs passes =
    let more : 1 + prefix_len p xs ≡ suc (prefix_len p xs) = omega arith in
    ap (λ (n : ℕ). drop n (x ∷ xs)) (cond-true _ _ _ passes ∙ more)

behind_no : (p : Keyed → Bool) (x : Keyed) (xs : List Keyed) → p x ≡ false → drop (prefix_len p (x ∷ xs)) (x ∷ xs) ≡ x ∷ xs
behind_no p x xs fails = ap (λ (n : ℕ). drop n (x ∷ xs)) (cond-false _ _ _ fails)

pub front_whole : (p : Keyed → Bool) (xs : List Keyed) → take_while p xs ++ drop (length (take_while p xs)) xs ≡ xs
front_whole p [] = refl
front_whole p (x ∷ xs) = elim (cases_Bool (p x)) [
  | inl b ↦ rw (front_yes p x xs b) (ap (λ (ys : List Keyed). x ∷ ys) (front_whole p xs))
  | inr b ↦ rw (front_no p x xs b) refl
]

events_whole : (n : ℕ) (xs : List Keyed) → up_to_event n xs ++ drop (length (up_to_event n xs)) xs ≡ xs
events_whole zero xs = refl
events_whole (suc n) [] = refl
events_whole (suc n) (x ∷ xs) = ap (λ (ys : List Keyed). x ∷ ys) (events_whole (if is_event x then n else suc n) xs)

pub whole : (unit : PieceUnit) (xs : List Keyed) → piece unit xs ++ rest unit xs ≡ xs
whole All xs = ap (λ (ys : List Keyed). xs ++ ys) (drop_all (length xs) xs (omega arith)) ∙ append-nil xs
whole (Nanos n) [] = refl
whole (Nanos n) (x ∷ xs) = front_whole (λ y. ltb y.key (x.key + n)) (x ∷ xs)
whole (Events n) xs = events_whole n xs

pub first_some : (unit : PieceUnit) (x : Keyed) (xs : List Keyed) → IsUnit unit → 0 < length (piece unit (x ∷ xs))
first_some All x xs u = omega arith
first_some (Nanos n) x xs u = rw (front_yes (λ (y : Keyed). ltb y.key (x.key + n)) x xs (lt-ltb _ _ (omega (arith, u)))) (omega arith)
first_some (Events zero) x xs u = absurd (omega (arith, u))
first_some (Events (suc n)) x xs u = omega arith

pub shorter : (unit : PieceUnit) (x : Keyed) (xs : List Keyed) → IsUnit unit → length (rest unit (x ∷ xs)) ≤ length xs
shorter unit x xs u =
    let parts : length (piece unit (x ∷ xs) ++ rest unit (x ∷ xs)) ≡ suc (length xs) = ap length (whole unit (x ∷ xs)) in
    omega (arith, parts, length-append (piece unit (x ∷ xs)) (rest unit (x ∷ xs)), first_some unit x xs u)

-- the first item of a time unit is taken, and those below its limit
pub first_below : (n key limit : ℕ) (x : Keyed) → 0 < n → x.key ≡ key → limit ≡ key + n → TakesItem (gauges.Nanos n) (gauges.Below limit) x
first_below n key limit x some at is =
    let same : limit ≡ x.key + n = is ∙ ap (λ (k : ℕ). k + n) (sym at) in
    let first = λ (xs : List Keyed). front_yes (λ (y : Keyed). ltb y.key (x.key + n)) x xs (lt-ltb _ _ (omega (arith, some))) in
    subst (λ (l : ℕ). TakesItem (gauges.Nanos n) (gauges.Below l) x) (sym same) (record {
      took = first;
      goes_on = λ xs. rw (first xs) refl;
    })

-- THE PIECES OF ONE LIST

pub within : (unit : PieceUnit) (n : ℕ) (xs : List Keyed) → IsUnit unit → length xs ≤ n → Pieces unit xs (pieces_within unit n xs)
within unit zero [] u le = nothing
within unit zero (x ∷ xs) u le = absurd (omega (arith, le))
within unit (suc n) [] u le = nothing
within unit (suc n) (x ∷ xs) u le = takes x xs _ (within unit n (rest unit (x ∷ xs)) u (omega (arith, shorter unit x xs u, le)))

pub computed : (unit : PieceUnit) (n : ℕ) (xs : List Keyed) (ps : List (List Keyed)) → IsUnit unit → length xs ≤ n → Pieces unit xs ps → pieces_within unit n xs ≡ ps
computed unit zero xs ps u le nothing = refl
computed unit (suc n) xs ps u le nothing = refl
computed unit zero xs ps u le (takes y ys qs p) = absurd (omega (arith, le))
computed unit (suc n) xs ps u le (takes y ys qs p) = ap (λ (t : List (List Keyed)). piece unit (y ∷ ys) ∷ t) (computed unit n (rest unit (y ∷ ys)) qs u (omega (arith, shorter unit y ys u, le)) p)

pub one : (unit : PieceUnit) (xs : List Keyed) (ps qs : List (List Keyed)) → IsUnit unit → Pieces unit xs ps → Pieces unit xs qs → ps ≡ qs
one unit xs ps qs u p q = sym (computed unit (length xs) xs ps u (omega arith) p) ∙ computed unit (length xs) xs qs u (omega arith) q

pub joined : (unit : PieceUnit) (xs : List Keyed) (ps : List (List Keyed)) → Pieces unit xs ps → flat_map (λ (p : List Keyed). p) ps ≡ xs
joined unit xs ps nothing = refl
joined unit xs ps (takes y ys qs p) = ap (λ (t : List Keyed). piece unit (y ∷ ys) ++ t) (joined unit (rest unit (y ∷ ys)) qs p) ∙ whole unit (y ∷ ys)

pub pieces_iff : (unit : PieceUnit) (xs : List Keyed) (ps : List (List Keyed)) → IsUnit unit → Pieces unit xs ps ↔ (all_pieces unit xs ≡ ps)
pieces_iff unit xs ps u =
    let here = within unit (length xs) xs u (omega arith) in
    (λ p. one unit xs _ ps u here p, λ e. subst (Pieces unit xs) e here)

-- SEVERAL LISTS, AND ONE OF THEM

files_one : (unit : PieceUnit) (n : ℕ) (xs : List Keyed) → files_within unit n (xs ∷ []) ≡ pieces_within unit n xs
files_one unit zero xs = refl
files_one unit (suc n) [] = refl
files_one unit (suc n) (x ∷ xs) =
    ap (λ (p : List Keyed). p ∷ files_within unit n (rest unit (x ∷ xs) ∷ [])) (append-nil (piece unit (x ∷ xs)))
    ∙ ap (λ (t : List (List Keyed)). piece unit (x ∷ xs) ∷ t) (files_one unit n (rest unit (x ∷ xs)))

left_one : (unit : PieceUnit) (xs : List Keyed) → IsUnit unit → Pieces unit xs (files_left unit (xs ∷ []))
left_one unit xs u =
    subst (Pieces unit xs) (sym (files_one unit (length (xs ++ [])) xs)) (within unit (length (xs ++ [])) xs u (omega (arith, length-append xs [])))

pub files_pieces : (unit : PieceUnit) (x : Keyed) (xs zs : List Keyed) → IsUnit unit → zs ≡ x ∷ xs → (piece unit zs ++ []) ∷ files_left unit (rest unit zs ∷ []) ≡ all_pieces unit zs
files_pieces unit x xs zs u is =
    subst (λ (ys : List Keyed). (piece unit ys ++ []) ∷ files_left unit (rest unit ys ∷ []) ≡ all_pieces unit ys) (sym is) (
    ap (λ (p : List Keyed). p ∷ files_left unit (rest unit (x ∷ xs) ∷ [])) (append-nil (piece unit (x ∷ xs)))
    ∙ one unit (x ∷ xs) _ _ u (takes x xs _ (left_one unit (rest unit (x ∷ xs)) u)) (within unit (length (x ∷ xs)) (x ∷ xs) u (omega arith)))

pub files_whole : (unit : PieceUnit) (zs : List Keyed) → IsUnit unit → joined_lists ((piece unit zs ++ []) ∷ files_left unit (rest unit zs ∷ [])) ≡ zs
files_whole unit zs u =
    ap (λ (p : List Keyed). p ++ joined_lists (files_left unit (rest unit zs ∷ []))) (append-nil (piece unit zs))
    ∙ ap (λ (t : List Keyed). piece unit zs ++ t) (joined unit (rest unit zs) _ (left_one unit (rest unit zs) u)) ∙ whole unit zs

-- WHERE KEYS DO NOT FALL

none_below : (k : ℕ) (x : Keyed) (xs : List Keyed) → IsRising key_of (x ∷ xs) → k ≤ x.key → filter (λ (y : Keyed). ltb y.key k) (x ∷ xs) ≡ []
none_below k x [] r le = let b : ltb x.key k ≡ false = le-ltb _ _ le in rw b refl
none_below k x (y ∷ ys) r le = let b : ltb x.key k ≡ false = le-ltb _ _ le in rw b (none_below k y ys r.1 (omega (arith, r.0)))

pub below : (k : ℕ) (xs : List Keyed) → IsRising key_of xs → take_while (λ y. ltb y.key k) xs ≡ filter (λ (y : Keyed). ltb y.key k) xs
below k [] r = refl
below k (x ∷ xs) r = elim (cases_Bool (ltb x.key k)) [
  | inl b ↦
      let rest = below k xs (rising_tail key_of x xs r) in
      rw (front_yes (λ (y : Keyed). ltb y.key k) x xs b) (rw b (ap (λ (ys : List Keyed). x ∷ ys) rest))
  | inr b ↦
      let none = none_below k x xs r (let h = ltb-false x.key k b in omega arith) in
      rw (front_no (λ (y : Keyed). ltb y.key k) x xs b) (sym none)
]

later_too : (m : Moment) (a b : ℕ) → a ≤ b → is_before m a ≡ false → is_before m b ≡ false
later_too m a b le e =
    let no_sooner : time_as m.micro a ≤ time_as m.micro b = elim (cases_Bool m.micro) [
      | inl micro ↦ rw micro (omega arith)
      | inr nano ↦ rw nano le
    ] in
    le-ltb _ _ (let h = ltb-false (time_as m.micro a) m.value e in omega (arith, no_sooner))

keeps_all : (m : Moment) (x : Keyed) (xs : List Keyed) → IsRising key_of (x ∷ xs) → is_before m x.key ≡ false → filter (λ (y : Keyed). not (is_before m y.key)) (x ∷ xs) ≡ x ∷ xs
keeps_all m x [] r e = rw e refl
keeps_all m x (y ∷ ys) r e = rw e (ap (λ (t : List Keyed). x ∷ t) (keeps_all m y ys r.1 (later_too m x.key y.key r.0 e)))

pub starts : (m : Moment) (xs : List Keyed) → IsRising key_of xs → filter (λ (x : Keyed). not (is_before m x.key)) xs ≡ drop (prefix_len (λ (x : Keyed). is_before m x.key) xs) xs
starts m [] r = refl
starts m (x ∷ xs) r = elim (cases_Bool (is_before m x.key)) [
  | inl b ↦ rw (behind_yes (λ (y : Keyed). is_before m y.key) x xs b) (rw b (starts m xs (rising_tail key_of x xs r)))
  | inr b ↦ rw (behind_no (λ (y : Keyed). is_before m y.key) x xs b) (keeps_all m x xs r b)
]
