-- The element that is read at the front is the one that the bytes read spell.
use Rattle.std.proofs.Common.{◌≡◌, ℕ, ◌+◌, ◌-◌, ◌*◌, ◌^◌, ◌<◌, ◌≤◌, cond, ltb, eqb, List, [], ◌++◌, length, take, drop, Option, Some, None, refl, sym, ap, subst, ◌∙◌, append_assoc, inl, inr, arith}
use Rattle.std.proofs.lemmas.Bool.{ltb-false, ltb-true, eqb-true, eqb-false}
use Rattle.std.proofs.lemmas.List.{take-append-drop, length-append, length-take, append-nil}
use Rattle.trace_base.specs.declared.order.Order.{Order}
use Rattle.trace_base.specs.declared.order.Order.TheVariants.{Little, Big}
use Rattle.trace_base.specs.Number.{num}
use Rattle.subpage.specs.Element.{ElementData, Event, End, Discarded, Extend, Stamp, type_len, time_delta, round4, IsWord, IsFirstWord, Row, short_event, long_event, end, discarded, extend, stamp}
use Rattle.subpage.specs.Reading.{word_at, counted_at, short_event_at, long_event_at, discarded_at, extend_at, stamp_at, rest_at, element_at}
use Rattle.subpage.proofs.Steps.{bind_some, guard_some, guarded, chosen, some_is}

-- an end leaves nothing
abbrev pub EndsAt : ElementData → List ℕ → Type 0
EndsAt e rest = e ≡ End → rest ≡ []

pub record Takes (order : Order) (bytes : List ℕ) (e : ElementData) (rest : List ℕ) : Type 0 where
  pub front : List ℕ
  pub whole : bytes ≡ front ++ rest
  pub row : Row order e front
  pub long : 4 ≤ length front
  pub last : EndsAt e rest

-- the same after any first word of a pair
record RestTakes (order : Order) (kind delta : ℕ) (bytes : List ℕ) (e : ElementData) (rest : List ℕ) : Type 0 where
  middle : List ℕ
  whole : bytes ≡ middle ++ rest
  row : (first : List ℕ) → IsFirstWord order first kind delta → Row order e (first ++ middle)
  last : EndsAt e rest

record WordTakes (order : Order) (bytes : List ℕ) (n : ℕ) (rest : List ℕ) : Type 0 where
  word : List ℕ
  is_word : IsWord order word n
  whole : bytes ≡ word ++ rest

word_takes : (order : Order) (bytes : List ℕ) (n : ℕ) (rest : List ℕ) → word_at order bytes ≡ Some (n, rest) → WordTakes order bytes n rest
unfolding word_at
word_takes order bytes n rest e =
    let g = guard_some (ltb (length bytes) 4) (Some (num order (take 4 bytes), drop 4 bytes)) (n, rest) e in
    let long : 4 ≤ length bytes = ltb-false _ _ g.0 in
    let same = some_is (num order (take 4 bytes), drop 4 bytes) (n, rest) g.1 in
    let rest-is : drop 4 bytes ≡ rest = ap (λ (p : ℕ × List ℕ). p.1) same in
    record {
      word = take 4 bytes;
      is_word = record { four = omega (arith, length-take 4 bytes); number_is = ap (λ (p : ℕ × List ℕ). p.0) same };
      whole = rw (← rest-is) (sym (take-append-drop 4 bytes));
    }

record CountedTakes (order : Order) (bytes : List ℕ) (n : ℕ) (counted rest : List ℕ) : Type 0 where
  word : List ℕ
  is_word : IsWord order word n
  least : 4 ≤ n
  filled : length counted ≡ round4 n - 4
  whole : bytes ≡ (word ++ counted) ++ rest

counted_takes : (order : Order) (bytes : List ℕ) (n : ℕ) (counted rest : List ℕ) → counted_at order bytes ≡ Some (n, counted, rest) → CountedTakes order bytes n counted rest
unfolding counted_at
counted_takes order bytes n counted rest h =
    let b = bind_some (word_at order bytes) (λ n. cond (ltb n.0 4) None (cond (ltb (length n.1) (round4 n.0 - 4)) None (Some (n.0, take (round4 n.0 - 4) n.1, drop (round4 n.0 - 4) n.1)))) (n, counted, rest) h in
    let w = word_takes order bytes b.0.0 b.0.1 b.1 in
    let size = round4 b.0.0 - 4 in
    let g = guard_some (ltb b.0.0 4) (cond (ltb (length b.0.1) size) None (Some (b.0.0, take size b.0.1, drop size b.0.1))) (n, counted, rest) b.2 in
    let k = guard_some (ltb (length b.0.1) size) (Some (b.0.0, take size b.0.1, drop size b.0.1)) (n, counted, rest) g.1 in
    let least : 4 ≤ b.0.0 = ltb-false _ _ g.0 in
    let long : size ≤ length b.0.1 = ltb-false _ _ k.0 in
    let same = some_is (b.0.0, take size b.0.1, drop size b.0.1) (n, counted, rest) k.1 in
    subst (λ (r : ℕ × List ℕ × List ℕ). CountedTakes order bytes r.0 r.1 r.2) same (record {
      word = w.word;
      is_word = w.is_word;
      least = least;
      filled = omega (arith, length-take size b.0.1);
      whole = w.whole ∙ ap (λ (t : List ℕ). w.word ++ t) (sym (take-append-drop size b.0.1)) ∙ sym (append_assoc w.word (take size b.0.1) (drop size b.0.1));
    })

abbrev Read : Type 0
Read = ElementData × List ℕ

abbrev read : ElementData → List ℕ → Option Read
read e rest = Some (e, rest)

short_takes : (order : Order) (kind delta : ℕ) (bytes : List ℕ) (e : ElementData) (rest : List ℕ) → 1 ≤ kind → kind ≤ 28 → short_event_at kind delta bytes ≡ Some (e, rest) → RestTakes order kind delta bytes e rest
unfolding short_event_at
short_takes order kind delta bytes e rest some few h =
    let payload = take (4 * kind) bytes in
    let g = guard_some (ltb (length bytes) (4 * kind)) (Some (Event delta payload, drop (4 * kind) bytes)) (e, rest) h in
    let long : 4 * kind ≤ length bytes = ltb-false _ _ g.0 in
    let same = some_is (Event delta payload, drop (4 * kind) bytes) (e, rest) g.1 in
    subst (λ (r : Read). RestTakes order kind delta bytes r.0 r.1) same (record {
      middle = payload;
      whole = sym (take-append-drop (4 * kind) bytes);
      row = λ first f. short_event first payload kind delta f some few (omega (arith, length-take (4 * kind) bytes));
      last = λ never. absurd cc;
    })

long_takes : (order : Order) (delta : ℕ) (bytes : List ℕ) (e : ElementData) (rest : List ℕ) → long_event_at order delta bytes ≡ Some (e, rest) → RestTakes order 0 delta bytes e rest
unfolding long_event_at
long_takes order delta bytes e rest h =
    let b = bind_some (counted_at order bytes) (λ c. Some (Event delta (take (c.0 - 4) c.1), c.2)) (e, rest) h in
    let n = b.0.0 in
    let payload = take (n - 4) b.0.1 in
    let padding = drop (n - 4) b.0.1 in
    let t = counted_takes order bytes n b.0.1 b.0.2 b.1 in
    let room : n - 4 ≤ length b.0.1 = omega (arith, t.filled, t.least) in
    let parts : payload ++ padding ≡ b.0.1 = take-append-drop (n - 4) b.0.1 in
    subst (λ (r : Read). RestTakes order 0 delta bytes r.0 r.1) (some_is (Event delta payload, b.0.2) (e, rest) b.2) (record {
      middle = t.word ++ (payload ++ padding);
      whole = t.whole ∙ ap (λ (p : List ℕ). (t.word ++ p) ++ b.0.2) (sym parts);
      row = λ first f. long_event first t.word payload padding delta n f t.is_word t.least (omega (arith, length-take (n - 4) b.0.1)) (ap length parts ∙ t.filled);
      last = λ never. absurd cc;
    })

discarded_takes : (order : Order) (delta : ℕ) (bytes : List ℕ) (e : ElementData) (rest : List ℕ) → 0 < delta → discarded_at order delta bytes ≡ Some (e, rest) → RestTakes order 29 delta bytes e rest
unfolding discarded_at
discarded_takes order delta bytes e rest some h =
    let b = bind_some (counted_at order bytes) (λ c. Some (Discarded delta, c.2)) (e, rest) h in
    let t = counted_takes order bytes b.0.0 b.0.1 b.0.2 b.1 in
    subst (λ (r : Read). RestTakes order 29 delta bytes r.0 r.1) (some_is (Discarded delta, b.0.2) (e, rest) b.2) (record {
      middle = t.word ++ b.0.1;
      whole = t.whole;
      row = λ first f. discarded first t.word b.0.1 delta b.0.0 f some t.is_word t.least t.filled;
      last = λ never. absurd cc;
    })

extend_takes : (order : Order) (low : ℕ) (bytes : List ℕ) (e : ElementData) (rest : List ℕ) → extend_at order low bytes ≡ Some (e, rest) → RestTakes order 30 low bytes e rest
unfolding extend_at
extend_takes order low bytes e rest h =
    let b = bind_some (word_at order bytes) (λ high. Some (Extend (low + high.0 * 2 ^ 27), high.1)) (e, rest) h in
    let w = word_takes order bytes b.0.0 b.0.1 b.1 in
    subst (λ (r : Read). RestTakes order 30 low bytes r.0 r.1) (some_is (Extend (low + b.0.0 * 2 ^ 27), b.0.1) (e, rest) b.2) (record {
      middle = w.word;
      whole = w.whole;
      row = λ first f. extend first w.word low b.0.0 f w.is_word;
      last = λ never. absurd cc;
    })

stamp_takes : (order : Order) (low : ℕ) (bytes : List ℕ) (e : ElementData) (rest : List ℕ) → stamp_at order low bytes ≡ Some (e, rest) → RestTakes order 31 low bytes e rest
unfolding stamp_at
stamp_takes order low bytes e rest h =
    let b = bind_some (word_at order bytes) (λ high. cond (ltb (low + high.0 * 2 ^ 27) (2 ^ 59)) (Some (Stamp (low + high.0 * 2 ^ 27), high.1)) None) (e, rest) h in
    let w = word_takes order bytes b.0.0 b.0.1 b.1 in
    let g = guarded (ltb (low + b.0.0 * 2 ^ 27) (2 ^ 59)) (Some (Stamp (low + b.0.0 * 2 ^ 27), b.0.1)) (e, rest) b.2 in
    subst (λ (r : Read). RestTakes order 31 low bytes r.0 r.1) (some_is (Stamp (low + b.0.0 * 2 ^ 27), b.0.1) (e, rest) g.1) (record {
      middle = w.word;
      whole = w.whole;
      row = λ first f. stamp first w.word low b.0.0 f w.is_word (ltb-true _ _ g.0);
      last = λ never. absurd cc;
    })

end_takes : (order : Order) (bytes : List ℕ) (e : ElementData) (rest : List ℕ) → read End [] ≡ read e rest → RestTakes order 29 0 bytes e rest
end_takes order bytes e rest h =
    subst (λ (r : Read). RestTakes order 29 0 bytes r.0 r.1) (some_is (End, []) (e, rest) h) (record {
      middle = bytes;
      whole = sym (append-nil bytes);
      row = λ first f. end first bytes f;
      last = λ _. refl;
    })

rest_takes : (order : Order) (kind delta : ℕ) (bytes : List ℕ) (e : ElementData) (rest : List ℕ) → kind < 32 → rest_at order kind delta bytes ≡ Some (e, rest) → RestTakes order kind delta bytes e rest
unfolding rest_at
rest_takes order kind delta bytes e rest small h =
    elim (chosen (eqb kind 0) _ _ _ h) [
      | inl p ↦ subst (λ (k : ℕ). RestTakes order k delta bytes e rest) (sym (eqb-true _ _ p.0)) (long_takes order delta bytes e rest p.1)
      | inr p ↦ elim (chosen (ltb kind 29) _ _ _ p.1) [
        | inl q ↦
            let not0 : kind ≡ 0 → ⊥ = eqb-false _ _ p.0 in
            let below : kind < 29 = ltb-true _ _ q.0 in
            short_takes order kind delta bytes e rest (omega arith) (omega arith) q.1
        | inr q ↦ elim (chosen (eqb kind 29) _ _ _ q.1) [
          | inl r ↦ subst (λ (k : ℕ). RestTakes order k delta bytes e rest) (sym (eqb-true _ _ r.0)) (elim (chosen (eqb delta 0) _ _ _ r.1) [
            | inl s ↦ subst (λ (d : ℕ). RestTakes order 29 d bytes e rest) (sym (eqb-true _ _ s.0)) (end_takes order bytes e rest s.1)
            | inr s ↦
                let some : delta ≡ 0 → ⊥ = eqb-false _ _ s.0 in
                discarded_takes order delta bytes e rest (omega arith) s.1
          ])
          | inr r ↦ elim (chosen (eqb kind 30) _ _ _ r.1) [
            | inl s ↦ subst (λ (k : ℕ). RestTakes order k delta bytes e rest) (sym (eqb-true _ _ s.0)) (extend_takes order delta bytes e rest s.1)
            | inr s ↦
                let at_least : 29 ≤ kind = ltb-false _ _ q.0 in
                let not29 : kind ≡ 29 → ⊥ = eqb-false _ _ r.0 in
                let not30 : kind ≡ 30 → ⊥ = eqb-false _ _ s.0 in
                let last : 31 ≡ kind = omega arith in
                subst (λ (k : ℕ). RestTakes order k delta bytes e rest) last (stamp_takes order delta bytes e rest s.1)
          ]
        ]
      ]
    ]

type_len-small : (order : Order) (n : ℕ) → type_len order n < 32
type_len-small Little n = omega arith
type_len-small Big n = omega arith

pub element_takes : (order : Order) (bytes : List ℕ) (e : ElementData) (rest : List ℕ) → element_at order bytes ≡ Some (e, rest) → Takes order bytes e rest
unfolding element_at
element_takes order bytes e rest h =
    let b = bind_some (word_at order bytes) (λ first. rest_at order (type_len order first.0) (time_delta order first.0) first.1) (e, rest) h in
    let w = word_takes order bytes b.0.0 b.0.1 b.1 in
    let t = rest_takes order (type_len order b.0.0) (time_delta order b.0.0) b.0.1 e rest (type_len-small order b.0.0) b.2 in
    let four : length w.word ≡ 4 = w.is_word.four in
    record {
      front = w.word ++ t.middle;
      whole = w.whole ∙ ap (λ (x : List ℕ). w.word ++ x) t.whole ∙ sym (append_assoc w.word t.middle rest);
      row = t.row w.word (record { four = four; kind_is = ap (type_len order) w.is_word.number_is; delta_is = ap (time_delta order) w.is_word.number_is });
      long = omega (arith, length-append w.word t.middle);
      last = t.last;
    }
