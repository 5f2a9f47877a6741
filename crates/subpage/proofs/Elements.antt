-- The elements that are read are the one list that spells the bytes.
use Rattle.std.proofs.Common.{◌≡◌, ℕ, zero, suc, ◌+◌, ◌≤◌, List, [], ◌∷◌, ◌++◌, length, Some, None, refl, sym, ap, subst, ◌∙◌, inl, inr, arith}
use Rattle.std.proofs.lemmas.List.{length-append}
use Rattle.std.specs.Option.{option_map}
use Rattle.trace_base.specs.declared.order.Order.{Order}
use Rattle.subpage.specs.Element.{ElementData, End, Spelled, nothing, begins_with}
use Rattle.subpage.specs.Reading.{element_at, elements_in, elements}
use Rattle.subpage.proofs.Steps.{option_cases, some_is, option_map_some}
use Rattle.subpage.proofs.ElementSound.{EndsAt, element_takes}
use Rattle.subpage.proofs.ElementComplete.{element_again}

-- an element takes four bytes or more
pub shrinks : (order : Order) (bytes : List ℕ) (e : ElementData) (rest : List ℕ) → element_at order bytes ≡ Some (e, rest) → length rest + 4 ≤ length bytes
shrinks order bytes e rest h =
    let t = element_takes order bytes e rest h in
    let whole : length bytes ≡ length (t.front ++ rest) = ap length t.whole in
    omega (arith, length-append t.front rest, t.long)

one_more : (order : Order) (n : ℕ) (b : ℕ) (bytes : List ℕ) (x : ElementData × List ℕ) → element_at order (b ∷ bytes) ≡ Some x → elements_in (suc n) order (b ∷ bytes) ≡ option_map (λ es. x.0 ∷ es) (elements_in n order x.1)
unfolding elements_in
one_more order n b bytes x h = rw h refl

none_more : (order : Order) (n : ℕ) (b : ℕ) (bytes : List ℕ) → element_at order (b ∷ bytes) ≡ None → elements_in (suc n) order (b ∷ bytes) ≡ None
unfolding elements_in
none_more order n b bytes h = rw h refl

-- any number of turns that is enough gives the same
enough : (order : Order) (n m : ℕ) (bytes : List ℕ) → length bytes ≤ n → length bytes ≤ m → elements_in n order bytes ≡ elements_in m order bytes
unfolding elements_in
enough order n m [] p q = refl
enough order zero m (b ∷ bytes) p q = absurd (omega arith)
enough order (suc n) zero (b ∷ bytes) p q = absurd (omega arith)
enough order (suc n) (suc m) (b ∷ bytes) p q =
    elim (option_cases (element_at order (b ∷ bytes))) [
      | inl h ↦ none_more order n b bytes h ∙ sym (none_more order m b bytes h)
      | inr x ↦
          let less = shrinks order (b ∷ bytes) x.0.0 x.0.1 x.1 in
          one_more order n b bytes x.0 x.1 ∙ ap (option_map (λ es. x.0.0 ∷ es)) (enough order n m x.0.1 (omega arith) (omega arith)) ∙ sym (one_more order m b bytes x.0 x.1)
    ]

pub elements_nil : (order : Order) → elements order [] ≡ Some []
unfolding elements elements_in
elements_nil order = refl

pub elements_step : (order : Order) (bytes : List ℕ) (e : ElementData) (rest : List ℕ) → element_at order bytes ≡ Some (e, rest) → elements order bytes ≡ option_map (λ es. e ∷ es) (elements order rest)
unfolding elements
elements_step order [] e rest h = absurd (omega (arith, shrinks order [] e rest h))
elements_step order (b ∷ bytes) e rest h =
    let less = shrinks order (b ∷ bytes) e rest h in
    one_more order (length bytes) b bytes (e, rest) h ∙ ap (option_map (λ es. e ∷ es)) (enough order (length bytes) (length rest) rest (omega arith) (omega arith))

pub elements_none : (order : Order) (b : ℕ) (bytes : List ℕ) → element_at order (b ∷ bytes) ≡ None → elements order (b ∷ bytes) ≡ None
unfolding elements
elements_none order b bytes h = none_more order (length bytes) b bytes h

-- no elements spell no bytes
no_bytes : (order : Order) (es : List ElementData) (bytes : List ℕ) → Spelled order es bytes → es ≡ [] → bytes ≡ []
no_bytes order es bytes nothing e = refl
no_bytes order es bytes (begins_with x others front back row last behind) e = absurd cc

-- what is spelled so is read
pub elements_again : (order : Order) (es : List ElementData) (bytes : List ℕ) → Spelled order es bytes → elements order bytes ≡ Some es
elements_again order es bytes nothing = elements_nil order
elements_again order es bytes (begins_with e others front back row last behind) =
    let ends : EndsAt e back = λ h. no_bytes order others back behind (last h) in
    elements_step order (front ++ back) e back (element_again order e front back row ends) ∙ ap (option_map (λ xs. e ∷ xs)) (elements_again order others back behind)

-- no elements are read after an end
none_behind : (order : Order) (e : ElementData) (es : List ElementData) (rest : List ℕ) → EndsAt e rest → elements order rest ≡ Some es → e ≡ End → es ≡ []
none_behind order e es rest ends h is = sym (some_is [] es (sym (elements_nil order) ∙ ap (elements order) (sym (ends is)) ∙ h))

-- what is read is spelled so
takes_in : (order : Order) (n : ℕ) (bytes : List ℕ) (es : List ElementData) → length bytes ≤ n → elements order bytes ≡ Some es → Spelled order es bytes
takes_in order n [] es le h = subst (λ (x : List ElementData). Spelled order x []) (some_is [] es (sym (elements_nil order) ∙ h)) nothing
takes_in order zero (b ∷ bytes) es le h = absurd (omega arith)
takes_in order (suc n) (b ∷ bytes) es le h =
    elim (option_cases (element_at order (b ∷ bytes))) [
      | inl none ↦ let e : None ≡ Some es = sym (elements_none order b bytes none) ∙ h in absurd cc
      | inr x ↦
          let less = shrinks order (b ∷ bytes) x.0.0 x.0.1 x.1 in
          let t = element_takes order (b ∷ bytes) x.0.0 x.0.1 x.1 in
          let o = option_map_some (λ xs. x.0.0 ∷ xs) (elements order x.0.1) es (sym (elements_step order (b ∷ bytes) x.0.0 x.0.1 x.1) ∙ h) in
          let others = takes_in order n x.0.1 o.0 (omega arith) o.1 in
          let spelled : Spelled order (x.0.0 ∷ o.0) (t.front ++ x.0.1) = begins_with x.0.0 o.0 t.front x.0.1 t.row (none_behind order x.0.0 o.0 x.0.1 t.last o.1) others in
          subst (λ (y : List ElementData). Spelled order y (b ∷ bytes)) o.2 (subst (λ (y : List ℕ). Spelled order (x.0.0 ∷ o.0) y) (sym t.whole) spelled)
    ]

pub elements_take : (order : Order) (bytes : List ℕ) (es : List ElementData) → elements order bytes ≡ Some es → Spelled order es bytes
elements_take order bytes es h = takes_in order (length bytes) bytes es (omega arith) h

-- at most one list spells bytes
pub one_list : (order : Order) (es fs : List ElementData) (bytes : List ℕ) → Spelled order es bytes → Spelled order fs bytes → es ≡ fs
one_list order es fs bytes s t = some_is es fs (sym (elements_again order es bytes s) ∙ elements_again order fs bytes t)
