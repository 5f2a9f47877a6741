-- The names that were asked for, one after another.
use Rattle.std.proofs.Common.{◌≡◌, ℕ, zero, suc, List, [], ◌∷◌, ◌++◌, length, take, Option, None, Some, IfSome, append_assoc, append-nil, refl, sym, ap, ◌∙◌, arith}
use Rattle.std.proofs.lemmas.List.{take_all, take_at}
use Rattle.new_files.specs.Requested.{AskedAll, AskedFirst}
use Rattle.run_endings.specs.Meaning.{Meaning}
use Rattle.run_endings.specs.Requested.{AsksFor}

-- none was asked for
pub asked_none : (names before : List (List ℕ)) → AskedFirst names before before
asked_none names before = (0, sym (append-nil before))

-- all of them are the first few
pub asked_few : (names before now : List (List ℕ)) → AskedAll names before now → AskedFirst names before now
asked_few names before now asked =
    (length names, asked ∙ ap (λ (xs : List (List ℕ)). before ++ xs) (sym (take_all (length names) names (omega arith))))

-- or the front of more
pub asked_front : (names rest before now : List (List ℕ)) → AskedAll names before now → AskedFirst (names ++ rest) before now
asked_front names rest before now asked =
    (length names, asked ∙ ap (λ (xs : List (List ℕ)). before ++ xs) (sym (take_at names rest (length names) refl)))

-- some after those that were asked for before
asked_then : (before mid now first rest : List (List ℕ)) → AskedAll first before mid → AskedAll rest mid now → AskedAll (first ++ rest) before now
asked_then before mid now first rest one two = two ∙ ap (λ (xs : List (List ℕ)). xs ++ rest) one ∙ append_assoc before first rest

-- one more
pub asked_more : (names before mid now : List (List ℕ)) (name : List ℕ) → AskedAll names before mid → now ≡ mid ++ name ∷ [] → AskedAll (names ++ name ∷ []) before now
asked_more names before mid now name so_far one = asked_then before mid now names (name ∷ []) so_far one

-- one in front of the first few of others
pub asked_first : (names before mid now : List (List ℕ)) (name : List ℕ) → mid ≡ before ++ name ∷ [] → AskedFirst names mid now → AskedFirst (name ∷ names) before now
asked_first names before mid now name one few = (suc few.0, asked_then before mid now (name ∷ []) (take few.0 names) one few.1)

-- none after that
pub asked_still : (names before mid now : List (List ℕ)) → now ≡ mid → AskedFirst names before mid → AskedFirst names before now
asked_still names before mid now same few = (few.0, same ∙ few.1)

-- WHAT IS MEANT

-- how many new files are meant, where that is known
abbrev pub news_of : Option Meaning → ℕ
news_of None = zero
news_of (Some m) = length m.files

pub are_meant : (means : Option Meaning) → IfSome means (λ m. news_of means ≡ length m.files)
are_meant None = tt
are_meant (Some m) = refl

-- names that do not depend on what is meant, or of which none was asked for yet
pub asks_for : (names_of : ℕ → List (List ℕ)) (means : Option Meaning) (before now : List (List ℕ)) → ((news : ℕ) → AskedFirst (names_of news) before now)
    → AsksFor names_of means before now
asks_for names_of means before now asked = record { news = news_of means; meant = are_meant means; asked = asked (news_of means) }
