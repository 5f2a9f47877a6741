-- Several readings, one after another.
use Rattle.std.proofs.Common.{◌≡◌, List, [], ◌∷◌, ◌++◌, Result, Ok, Err, refl, ap, ◌∙◌}
use Rattle.run_words.specs.Readings.{before_others, readings}

module _ {A E : Type 0} where
  -- what some give, and others after them
  abbrev behind : Result (List A) E → Result (List A) E → Result (List A) E
  behind (Ok some) (Ok others) = Ok (some ++ others)
  behind (Ok some) (Err fault) = Err fault
  behind (Err fault) others = Err fault

  none_before : (others : Result (List A) E) → others ≡ behind (Ok []) others
  none_before (Ok others) = refl
  none_before (Err fault) = refl

  one_before : (one : Result A E) (some others : Result (List A) E) → before_others one (behind some others) ≡ behind (before_others one some) others
  one_before (Err fault) some others = refl
  one_before (Ok one) (Err fault) others = refl
  one_before (Ok one) (Ok some) (Err fault) = refl
  one_before (Ok one) (Ok some) (Ok others) = refl

module _ {X A E : Type 0} (read : X → Result A E) where
  readings_behind : (xs rest : List X) → readings read (xs ++ rest) ≡ behind (readings read xs) (readings read rest)
  readings_behind [] rest = none_before (readings read rest)
  readings_behind (x ∷ xs) rest = ap (before_others (read x)) (readings_behind xs rest) ∙ one_before (read x) (readings read xs) (readings read rest)

  module _ (xs : List X) (x : X) (some : List A) where
    -- one more
    pub readings_more : (one : A) → readings read xs ≡ Ok some → read x ≡ Ok one → readings read (xs ++ x ∷ []) ≡ Ok (some ++ one ∷ [])
    readings_more one are is =
        readings_behind xs (x ∷ []) ∙ ap (λ (before : Result (List A) E). behind before (readings read (x ∷ []))) are
        ∙ ap (λ (last : Result A E). behind (Ok some) (before_others last (Ok []))) is

    -- the first fault
    pub readings_fault : (rest : List X) (fault : E) → readings read xs ≡ Ok some → read x ≡ Err fault → readings read (xs ++ x ∷ rest) ≡ Err fault
    readings_fault rest fault are is =
        readings_behind xs (x ∷ rest) ∙ ap (λ (before : Result (List A) E). behind before (readings read (x ∷ rest))) are
        ∙ ap (λ (next : Result A E). behind (Ok some) (before_others next (readings read rest))) is
