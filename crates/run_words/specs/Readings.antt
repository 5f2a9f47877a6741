-- Several readings, one after another: all that they give, or the first fault.
use Rattle.std.specs.Prelude.{List, [], ◌∷◌, Result, Ok, Err}

-- one reading and the others after it
abbrev pub before_others : {A E : Type 0} → Result A E → Result (List A) E → Result (List A) E
before_others (Ok one) (Ok others) = Ok (one ∷ others)
before_others (Ok one) (Err fault) = Err fault
before_others (Err fault) others = Err fault

abbrev pub readings : {X A E : Type 0} → (X → Result A E) → List X → Result (List A) E
readings read [] = Ok []
readings read (x ∷ xs) = before_others (read x) (readings read xs)
