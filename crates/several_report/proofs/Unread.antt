-- The input that could not be opened or read.
use Rattle.std.proofs.Common.{◌≡◌, ◌<◌, ◌+◌, ℕ, zero, suc, List, [], ◌∷◌, ◌++◌, length, length-append, get_or, Option, Some, None, Result, Ok, Err, IfSome, refl, sym, ap, ◌∙◌, subst, arith}
use Rattle.std.specs.Prelude.{IsSome, slice_get}
use Rattle.std.specs.FinMap.{get}
use Rattle.std.proofs.Math.Seq.{get_or-append_seam}
use Rattle.std.proofs.lemmas.List.{get_or_append_left}
use Rattle.std.proofs.lemmas.Option.{slice_get-get_or}
use Rattle.trace_outside.specs.Folders.{misses_after}
use Rattle.trace_outside.specs.Names.{NamedFiles}
use Rattle.trace_outside.specs.Seen.{FileSeen}
use Rattle.trace_outside.proofs.OpenFiles.{there_is}
use Rattle.trace_outside.specs.Open.{AreThereBefore, IsUnread}
use Rattle.trace_args.specs.Command.{ReportData}
use Rattle.run_words.specs.Readings.{before_others, readings}
use Rattle.run_endings.specs.declared.status.Status.{Status}
use Rattle.run_endings.specs.declared.status.Status.TheVariants.{Done, Usage, Refused, Malformed, ReadFault, WriteFault, NoMemory}
use Rattle.run_endings.specs.Outside.{FolderSeen}
use Rattle.several_report.specs.Inputs.{NamedInput, WrongInput, input_found, input_named, inputs_in, names_in}
use Rattle.several_report.specs.Naming.{IsHeldNamed, IsUnreadNamed}

pub found_there : (name : List ℕ) (found : Option (List ℕ)) (input : NamedInput) → input_found name found ≡ Ok input → IsSome found
found_there name None input is = absurd (let bad : ⊥ = cc in bad)
found_there name (Some bytes) input is = refl

-- the name of a place
pub name_at : (names : List (List ℕ)) (i : ℕ) (name : List ℕ) → i < length names → IfSome (slice_get names i) (λ there. there ≡ name) → (d : List ℕ) → get_or names i d ≡ name
name_at names i name lt stands d = subst (λ (found : Option (List ℕ)). IfSome found (λ there. there ≡ name)) (slice_get-get_or names i d lt) stands

-- INPUTS THAT WERE READ ARE THERE

both : (one : Result NamedInput WrongInput) (others : Result (List NamedInput) WrongInput) (all : List NamedInput) → before_others one others ≡ Ok all
    → ((input : NamedInput) × (one ≡ Ok input)) × ((rest : List NamedInput) × (others ≡ Ok rest))
both (Ok input) (Ok rest) all is = ((input, refl), (rest, refl))
both (Ok input) (Err wrong) all is = absurd (let bad : ⊥ = cc in bad)
both (Err wrong) others all is = absurd (let bad : ⊥ = cc in bad)

inputs_there : (files : NamedFiles) (names : List (List ℕ)) (inputs : List NamedInput) → inputs_in files names ≡ Ok inputs → (i : ℕ) (d : List ℕ) → i < length names
    → IsSome (get files (get_or names i d))
inputs_there files [] inputs is i d lt = absurd (omega (arith, lt))
inputs_there files (x ∷ xs) inputs is zero d lt =
    let first = (both (input_named files x) (readings (input_named files) xs) inputs is).0 in
    found_there x (get files x) first.0 first.1
inputs_there files (x ∷ xs) inputs is (suc i) d lt =
    let rest = (both (input_named files x) (readings (input_named files) xs) inputs is).1 in
    inputs_there files xs rest.0 rest.1 i d (omega (arith, lt))

-- the inputs of these names were read
abbrev pub WereRead : NamedFiles → List (List ℕ) → Type 0
WereRead files names = (inputs : List NamedInput) × (inputs_in files names ≡ Ok inputs)

-- one of those that were read
pub unread_there : (told : Option NamedFiles) (names : List (List ℕ)) (place misses now : ℕ) → place < length names → IfSome told (λ files. WereRead files names)
    → IfSome told (λ files. now ≡ misses) → IsUnread told names misses now place
unread_there told names place misses now lt read same = record { inside = lt; before = before_told told read; missing = missing_told told read same }
  where
    before_told : (known : Option NamedFiles) → IfSome known (λ files. WereRead files names) → IfSome known (λ files. AreThereBefore files names place)
    before_told None read = tt
    before_told (Some files) read = λ i d below. inputs_there files names read.0 read.1 i d (omega (arith, below, lt))

    missing_told : (known : Option NamedFiles) → IfSome known (λ files. WereRead files names) → IfSome known (λ files. now ≡ misses)
        → IfSome known (λ files. (d : List ℕ) → now ≡ misses_after files (get_or names place d) misses)
    missing_told None read same = tt
    missing_told (Some files) read same = λ d. same ∙ sym (there_is (get files (get_or names place d)) misses (inputs_there files names read.0 read.1 place d lt))

-- the one after those that were read
module _ (all names : List (List ℕ)) (name : List ℕ) (rest : List (List ℕ)) (are : all ≡ names ++ name ∷ rest) where
  pub next_inside : length names < length all
  next_inside = omega (arith, ap length are, length-append names (name ∷ rest))

  pub next_named : (d : List ℕ) → get_or all (length names) d ≡ name
  next_named d = ap (λ (ns : List (List ℕ)). get_or ns (length names) d) are ∙ get_or-append_seam names name rest d

  earlier : (i : ℕ) (d : List ℕ) → i < length names → get_or all i d ≡ get_or names i d
  earlier i d lt = ap (λ (ns : List (List ℕ)). get_or ns i d) are ∙ get_or_append_left names (name ∷ rest) d i lt

  pub unread_next : (told : Option NamedFiles) (misses mid now : ℕ) → IfSome told (λ files. WereRead files names) → IfSome told (λ files. mid ≡ misses)
      → IfSome told (λ files. now ≡ misses_after files name mid) → IsUnread told all misses now (length names)
  unread_next told misses mid now read so_far asked = record { inside = next_inside; before = before_told told read; missing = missing_told told so_far asked }
    where
      before_told : (known : Option NamedFiles) → IfSome known (λ files. WereRead files names) → IfSome known (λ files. AreThereBefore files all (length names))
      before_told None read = tt
      before_told (Some files) read = λ i d below. subst (λ (n : List ℕ). IsSome (get files n)) (sym (earlier i d below)) (inputs_there files names read.0 read.1 i d below)

      missing_told : (known : Option NamedFiles) → IfSome known (λ files. mid ≡ misses) → IfSome known (λ files. now ≡ misses_after files name mid)
          → IfSome known (λ files. (d : List ℕ) → now ≡ misses_after files (get_or all (length names) d) misses)
      missing_told None so_far asked = tt
      missing_told (Some files) so_far asked = λ d.
          subst (λ (n : List ℕ). now ≡ misses_after files n misses) (sym (next_named d))
          (subst (λ (m : ℕ). now ≡ misses_after files name m) so_far asked)

-- WHEN ALL ARE CLOSED

pub unread_later : (words : ReportData) (held : List FileSeen) (status : Status) (name : List ℕ) (before mid now : FolderSeen) → now.counts.misses ≡ mid.counts.misses
    → IsHeldNamed words held status before mid name → IsUnreadNamed words status before now name
unread_later words held Done name before mid now same named = tt
unread_later words held Usage name before mid now same named = tt
unread_later words held (Refused fault) name before mid now same named = tt
unread_later words held (Malformed cut) name before mid now same named = tt
unread_later words held WriteFault name before mid now same named = tt
unread_later words held NoMemory name before mid now same named = tt
unread_later words held ReadFault name before mid now same named = record {
  place = named.input.place;
  there = named.input.there;
  unread = subst (λ (n : ℕ). IsUnread before.files (names_in words) before.counts.misses n named.input.place) (sym same) named.input.unread;
}
