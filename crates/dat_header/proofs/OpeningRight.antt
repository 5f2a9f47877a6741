-- The items that a header begins with are read as they are spelled, or the first wrong one is found.
use Rattle.std.proofs.Common.{◌≡◌, ℕ, List, [], ◌∷◌, drop, Ok, refl, ap}
use Rattle.trace_base.specs.Number.{bytes_of}
use Rattle.dat_options.specs.declared.fault.OpenFault.TheVariants.{NotTrace, BadEndian, BadLong, BadPageSize, BadSection}
use Rattle.dat_header.specs.declared.pieces.Machine.{Machine}
use Rattle.dat_header.specs.declared.pieces.PageText.{PageText}
use Rattle.dat_header.specs.declared.pieces.Opening.{Opening}
use Rattle.dat_header.specs.Pieces.{IsPageText, IsMachine, IsOpening}
use Rattle.dat_header.specs.Items.{Item, word, version, value, page_text, magic_word, version_word, page_word, event_word, order_byte, sized}
use Rattle.dat_header.specs.Refusal.{version_fault}
use Rattle.dat_header.specs.ItemsAt.{word_at}
use Rattle.dat_header.specs.Opening.{opening_at, version_at, machine_at, page_text_at}
use Rattle.dat_header.specs.Found.{Found, ◌>>=◌}
use Rattle.dat_header.proofs.Binds.{bind_same, bind_word}
use Rattle.dat_header.proofs.Wrongs.{Right, rights_none, rights_then, rights_as}
use Rattle.dat_header.proofs.ItemRights.{right_word, read_fixed}
use Rattle.dat_header.proofs.HeaderRight.{right_machine, machine_items, right_page_text}

-- items 1 to 8
abbrev pub opening_items : Opening → List Item
opening_items opening =
    record { kind = word (magic_word ∷ []) NotTrace; bytes = magic_word }
    ∷ record { kind = version; bytes = version_word }
    ∷ record { kind = value 1 BadEndian; bytes = order_byte opening.machine.order ∷ [] }
    ∷ record { kind = value 1 BadLong; bytes = opening.machine.long ∷ [] }
    ∷ record { kind = value 4 BadPageSize; bytes = bytes_of opening.machine.order 4 opening.machine.page }
    ∷ record { kind = word (page_word ∷ []) BadSection; bytes = page_word }
    ∷ record { kind = page_text opening.machine.order; bytes = sized 8 opening.machine.order opening.page.text }
    ∷ record { kind = word (event_word ∷ []) BadSection; bytes = event_word }
    ∷ []

abbrev magic_read : List ℕ → ℕ → Found (Unit {0})
magic_read file at = read_fixed (word (magic_word ∷ []) NotTrace) magic_word (λ file at. NotTrace at) file at

abbrev version_read : List ℕ → ℕ → Found (Unit {0})
version_read file at = read_fixed version version_word (λ file at. version_fault at (drop at file)) file at

abbrev section_read : List ℕ → List ℕ → ℕ → Found (Unit {0})
section_read fixed file at = read_fixed (word (fixed ∷ []) BadSection) fixed (λ file at. BadSection at) file at

abbrev opening_of : Machine → PageText → Opening
opening_of machine page = record { machine = machine; page = page }

-- what is read after each piece
abbrev read_5 : Machine → PageText → List ℕ → ℕ → Found Opening
read_5 m p file at = section_read event_word file at >>= λ u. Ok (opening_of m p, u.1)

abbrev read_4 : Machine → List ℕ → ℕ → Found Opening
read_4 m file at = page_text_at m file at >>= λ p. read_5 m p.0 file p.1

abbrev read_3 : Machine → List ℕ → ℕ → Found Opening
read_3 m file at = section_read page_word file at >>= λ u. read_4 m file u.1

abbrev read_2 : List ℕ → ℕ → Found Opening
read_2 file at = machine_at file at >>= λ m. read_3 m.0 file m.1

abbrev read_1 : List ℕ → ℕ → Found Opening
read_1 file at = version_read file at >>= λ u. read_2 file u.1

abbrev read_0 : List ℕ → ℕ → Found Opening
read_0 file at = magic_read file at >>= λ u. read_1 file u.1

abbrev done : Opening → Unit {0}
done opening = tt

opening_is : (file : List ℕ) (at : ℕ) → read_0 file at ≡ opening_at file at
unfolding opening_at version_at
opening_is file at =
    bind_word (word_at magic_word (NotTrace at) file at) _ _
    (λ n1. bind_word (word_at version_word (version_fault n1 (drop n1 file)) file n1) _ _
    (λ n2. bind_same (machine_at file n2) _ _
    (λ m. bind_word (word_at page_word (BadSection m.1) file m.1) _ _
    (λ n3. bind_same (page_text_at m.0 file n3) _ _
    (λ p. bind_word (word_at event_word (BadSection p.1) file p.1) _ _ (λ n4. refl))))))

pub right_opening : Right opening_items IsOpening opening_at
right_opening = rights_as _ opening_items _ IsOpening _ opening_at
    (λ opening all. record { machine = all.1.1.0; page = all.1.1.1.1.0 })
    (λ opening is. (tt, (tt, (is.machine, (tt, (is.page, (tt, refl)))))))
    (λ opening is. refl) opening_is
    (rights_then _ _ magic_read _ _ (λ u. read_1) done 1 (right_word (word (magic_word ∷ []) NotTrace) magic_word (λ file at. NotTrace at) (λ file at. refl)) (λ u. refl)
    (λ u any. rights_then _ _ version_read _ _ (λ u. read_2) done 1 (right_word version version_word (λ file at. version_fault at (drop at file)) (λ file at. refl)) (λ u. refl)
    (λ u any. rights_then machine_items IsMachine machine_at _ _ read_3 (λ (o : Opening). o.machine) 3 right_machine (λ m. refl)
    (λ m is. rights_then _ _ (section_read page_word) _ _ (λ u. read_4 m) done 1 (right_word (word (page_word ∷ []) BadSection) page_word (λ file at. BadSection at) (λ file at. refl)) (λ u. refl)
    (λ u any. rights_then _ (IsPageText m) (page_text_at m) _ _ (read_5 m) (λ (o : Opening). o.page) 1 (right_page_text m is) (λ p. refl)
    (λ p is. rights_then _ _ (section_read event_word) _ _ (λ u file at. Ok (opening_of m p, at)) done 1 (right_word (word (event_word ∷ []) BadSection) event_word (λ file at. BadSection at) (λ file at. refl)) (λ u. refl)
    (λ u any. rights_none (opening_of m p)) (λ u o e. refl))
    (λ p o e. ap (λ (x : Opening). x.page) e.1))
    (λ u o e. refl))
    (λ m o e. ap (λ (x : Opening). x.machine) e.1.1.1))
    (λ u o e. refl))
    (λ u o e. refl))
