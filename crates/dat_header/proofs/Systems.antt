-- Names, formats and systems are read as they are spelled.
use Rattle.std.proofs.Common.{◌≡◌, ◌≢◌, ℕ, ◌+◌, ◌<◌, ◌≤◌, Bool, false, cond, eqb, List, [], ◌∷◌, ◌++◌, length, drop, Option, None, Some, Ok, refl, sym, ap, subst, ◌∙◌, ◌⊎◌, append_assoc, inl, inr, arith}
use Rattle.std.proofs.lemmas.Bool.{cases_Bool, ne_eqb, eqb-true, eqb-false}
use Rattle.std.proofs.lemmas.List.{length-append, length-drop, append-nil}
use Rattle.std.proofs.lemmas.List.Elements.{All-head, All-tail, All-cons}
use Rattle.std.specs.List.{All, flat_map}
use Rattle.std.specs.Option.{option_map}
use Rattle.trace_base.specs.Number.{bytes_of}
use Rattle.trace_base.specs.declared.order.Order.{Order}
use Rattle.dat_options.specs.declared.fault.OpenFault.TheVariants.{Truncated}
use Rattle.dat_options.proofs.Numbers.{limit}
use Rattle.dat_options.proofs.Steps.{some_is}
use Rattle.dat_header.specs.declared.header.System.{System}
use Rattle.dat_header.specs.Allowed.{IsSystemName, AreFormats, IsSystem, AreSystems}
use Rattle.dat_header.specs.Items.{sized, sized_texts, formats_text, system_text, systems_text}
use Rattle.dat_header.specs.ItemsAt.{number_at, text_at, texts_at, formats_at, before_nul, name_at, system_at, each_system_at, systems_at}
use Rattle.dat_header.specs.Found.{Found, ◌>>=◌}
use Rattle.dat_options.specs.Place.{AreBytes}
use Rattle.dat_header.proofs.Values.{checked_is, checked_not}
use Rattle.dat_header.proofs.Grammar.{Reads, Stands, found_value, not_both, same_value, same_fault, behind, reads_then, reads_none, reads_as}
use Rattle.dat_header.proofs.Texts.{EndsEarly, reads_number, number_end, reads_text, text_end, reads_row, row_end, then_end, none_end}

-- a name and NUL
abbrev pub name_text : List ℕ → List ℕ
name_text name = name ++ 0 ∷ []

nul_again : (name rest : List ℕ) → IsSystemName name → before_nul (name ++ (0 ∷ rest)) ≡ Some name
nul_again [] rest is = refl
nul_again (byte ∷ name) rest is =
    let other : eqb byte 0 ≡ false = ne_eqb byte 0 (All-head (λ b. b ≢ 0) byte name is) in
    rw other (ap (option_map (λ n. byte ∷ n)) (nul_again name rest (All-tail (λ b. b ≢ 0) byte name is)))

abbrev NulStands : List ℕ → List ℕ → Type 0
NulStands bytes name = IsSystemName name × ((rest : List ℕ) × (bytes ≡ name_text name ++ rest))

nul_sound : (bytes name : List ℕ) → before_nul bytes ≡ Some name → NulStands bytes name
nul_sound [] name e = cc
nul_sound (byte ∷ bytes) name e = elim (cases_Bool (eqb byte 0)) [
  | inl nul ↦
      let empty : [] ≡ name = some_is _ _ (ap (λ (b : Bool). cond b (Some []) (option_map (λ n. byte ∷ n) (before_nul bytes))) (sym nul) ∙ e) in
      let P : List ℕ → Type 0 = NulStands (byte ∷ bytes) in
      subst P empty (λ k d h. absurd (omega arith), (bytes, ap (λ (b : ℕ). b ∷ bytes) (eqb-true byte 0 nul)))
  | inr other ↦
      let later : option_map (λ n. byte ∷ n) (before_nul bytes) ≡ Some name = ap (λ (b : Bool). cond b (Some []) (option_map (λ n. byte ∷ n) (before_nul bytes))) (sym other) ∙ e in
      nul_later byte bytes name (before_nul bytes) refl (eqb-false byte 0 other) later (λ n is. nul_sound bytes n is)
]
  where
    nul_later : (byte : ℕ) (bytes name : List ℕ) (found : Option (List ℕ)) → before_nul bytes ≡ found → byte ≢ 0 → option_map (λ n. byte ∷ n) found ≡ Some name
        → ((n : List ℕ) → before_nul bytes ≡ Some n → NulStands bytes n) → NulStands (byte ∷ bytes) name
    nul_later byte bytes name None is other e rec = cc
    nul_later byte bytes name (Some n) is other e rec =
        let stands = rec n is in
        let P : List ℕ → Type 0 = NulStands (byte ∷ bytes) in
        subst P (some_is (byte ∷ n) name e) (All-cons (λ b. b ≢ 0) byte n other stands.0, (stands.1.0, ap (λ (t : List ℕ). byte ∷ t) stands.1.1))

name_cases : (found : Option (List ℕ)) → (found ≡ None) ⊎ ((name : List ℕ) × (found ≡ Some name))
name_cases None = inl refl
name_cases (Some name) = inr (name, refl)

abbrev after_name : ℕ → List ℕ → Found (List ℕ)
after_name at name = Ok (name, at + length name + 1)

name_again : (file : List ℕ) (at : ℕ) (name rest : List ℕ) → IsSystemName name → drop at file ≡ name_text name ++ rest → name_at file at ≡ Ok (name, at + length (name_text name))
unfolding name_at
name_again file at name rest is here =
    checked_is (Truncated (length file)) (before_nul (drop at file)) (after_name at) name (ap before_nul (here ∙ append_assoc name (0 ∷ []) rest) ∙ nul_again name rest is)
    ∙ ap (λ (n : ℕ). found_value name n) (omega (arith, length-append name (0 ∷ [])))

name_sound : (file : List ℕ) (at : ℕ) (name : List ℕ) (end : ℕ) → AreBytes file → at ≤ length file → name_at file at ≡ Ok (name, end) → Stands name_text IsSystemName file at name end
unfolding name_at
name_sound file at name end bytes within e = elim (name_cases (before_nul (drop at file))) [
  | inl none ↦ absurd (not_both _ (name, end) (Truncated (length file)) e (checked_not (Truncated (length file)) (before_nul (drop at file)) (after_name at) none))
  | inr found ↦
      let stands = nul_sound (drop at file) found.0 found.1 in
      let same = same_value _ found.0 name (at + length found.0 + 1) end (checked_is (Truncated (length file)) (before_nul (drop at file)) (after_name at) found.0 found.1) e in
      let long : length (name_text found.0) ≡ length found.0 + 1 = length-append found.0 (0 ∷ []) in
      let whole : length (drop at file) ≡ length (name_text found.0 ++ stands.1.0) = ap length stands.1.1 in
      let rest : stands.1.0 ≡ drop end file =
      sym (behind file (name_text found.0) stands.1.0 at stands.1.1) ∙ ap (λ (n : ℕ). drop n file) (let p : at + length (name_text found.0) ≡ end = omega (arith, long, same.1) in p) in
      let P : List ℕ → Type 0 = λ n. Stands name_text IsSystemName file at n end in
      subst P same.0 (record {
        is = stands.0;
        here = stands.1.1 ∙ ap (λ back. name_text found.0 ++ back) rest;
        place = omega (arith, long, same.1);
        inside = omega (arith, long, same.1, whole, within, length-append (name_text found.0) stands.1.0, length-drop at file);
      })
]

pub reads_name : Reads name_text IsSystemName name_at
reads_name = record { again = λ file at name rest within is here. name_again file at name rest is here; sound = name_sound }

pub name_end : EndsEarly name_at
unfolding name_at
name_end file at fault bytes within e = elim (name_cases (before_nul (drop at file))) [
  | inl none ↦ same_fault _ fault (Truncated (length file)) e (checked_not (Truncated (length file)) (before_nul (drop at file)) (after_name at) none)
  | inr found ↦ absurd (not_both _ (found.0, at + length found.0 + 1) fault (checked_is (Truncated (length file)) (before_nul (drop at file)) (after_name at) found.0 found.1) e)
]

-- formats, preceded by their number
pub reads_formats : (order : Order) → Reads (formats_text order) AreFormats (formats_at order)
unfolding formats_at
reads_formats order = reads_as _ (formats_text order) _ AreFormats _ (formats_at order)
    (λ formats is. record { counted = is.0; sized = is.1.1 }) (λ formats is. (is.counted, (refl, is.sized))) (λ formats is. refl) (λ file at. refl)
    (reads_then (bytes_of order 4) (λ n. n < limit 4) (number_at 4 order) (λ count formats. sized_texts order formats) (λ count formats. (length formats ≡ count) × All (λ text. length text < limit 8) formats)
    (λ count file at. texts_at count order file at) length (reads_number 4 order) (λ count few. reads_row (sized 8 order) (λ text. length text < limit 8) (text_at 8 order) (reads_text 8 order) count) (λ count formats is. is.0))

pub formats_end : (order : Order) → EndsEarly (formats_at order)
unfolding formats_at
formats_end order = then_end (bytes_of order 4) (λ n. n < limit 4) (number_at 4 order) (λ count file at. texts_at count order file at) (reads_number 4 order) (number_end 4 order)
    (λ count few. row_end (sized 8 order) (λ text. length text < limit 8) (text_at 8 order) (reads_text 8 order) (text_end 8 order) count)

reads_system : (order : Order) → Reads (system_text order) IsSystem (system_at order)
unfolding system_at
reads_system order = reads_as _ (system_text order) _ IsSystem _ (system_at order)
    (λ system is. record { name = is.0; formats = is.1.0 }) (λ system is. (is.name, (is.formats, refl)))
    (λ system is. ap (λ (t : List ℕ). name_text system.name ++ t) (append-nil (formats_text order system.formats)) ∙ append_assoc system.name (0 ∷ []) (formats_text order system.formats)) (λ file at. refl)
    (reads_then name_text IsSystemName name_at _ _ (λ name file named. formats_at order file named >>= λ found. Ok (record { name = name; formats = found.0 }, found.1)) (λ system. system.name) reads_name
    (λ name is. reads_then (formats_text order) AreFormats (formats_at order) _ _ (λ formats file end. Ok (record { name = name; formats = formats }, end)) (λ system. system.formats) (reads_formats order)
    (λ formats are. reads_none (record { name = name; formats = formats })) (λ formats system e. ap (λ (s : System). s.formats) e))
    (λ name system is. ap (λ (s : System). s.name) is.1))

system_end : (order : Order) → EndsEarly (system_at order)
unfolding system_at
system_end order = then_end name_text IsSystemName name_at (λ name file named. formats_at order file named >>= λ found. Ok (record { name = name; formats = found.0 }, found.1)) reads_name name_end
    (λ name is. then_end (formats_text order) AreFormats (formats_at order) (λ formats file end. Ok (record { name = name; formats = formats }, end)) (reads_formats order) (formats_end order)
    (λ formats are. none_end (record { name = name; formats = formats })))

-- systems, preceded by their number
pub reads_systems : (order : Order) → Reads (systems_text order) AreSystems (systems_at order)
unfolding systems_at
reads_systems order = reads_as _ (systems_text order) _ AreSystems _ (systems_at order)
    (λ systems is. record { counted = is.0; each = is.1.1 }) (λ systems is. (is.counted, (refl, is.each))) (λ systems is. refl) (λ file at. refl)
    (reads_then (bytes_of order 4) (λ n. n < limit 4) (number_at 4 order) (λ count systems. flat_map (system_text order) systems) (λ count systems. (length systems ≡ count) × All IsSystem systems)
    (λ count file at. each_system_at count order file at) length (reads_number 4 order) (λ count few. reads_row (system_text order) IsSystem (system_at order) (reads_system order) count) (λ count systems is. is.0))

pub systems_end : (order : Order) → EndsEarly (systems_at order)
unfolding systems_at
systems_end order = then_end (bytes_of order 4) (λ n. n < limit 4) (number_at 4 order) (λ count file at. each_system_at count order file at) (reads_number 4 order) (number_end 4 order)
    (λ count few. row_end (system_text order) IsSystem (system_at order) (reads_system order) (system_end order) count)
