-- Data files one after another, each from a multiple of the page on.
use Rattle.std.proofs.Common.{◌≡◌, ℕ, zero, suc, ◌+◌, ◌-◌, ◌%◌, ◌^◌, ◌<◌, ◌≤◌, List, [], ◌∷◌, ◌++◌, length, take, drop, get_or, map, Option, Some, None, Ok, Err, Result, refl, sym, ap, subst, ◌∙◌, arith, append_assoc}
use Rattle.std.specs.Option.{IfSome, IsSome, unwrap_or}
use Rattle.std.specs.Prelude.{OnOk}
use Rattle.std.proofs.lemmas.List.{take_all, take_more, map-append, append-nil}
use Rattle.std.proofs.lemmas.List.Elements.{All-get_or}
use Rattle.std.proofs.Math.Nat.{mod-add-mod, mod-eq_of_lt}
use Rattle.trace_base.specs.declared.part.Part.{Part}
use Rattle.trace_base.specs.Parts.{part_of}
use Rattle.trace_base.proofs.PartNumbers.{same_part}
use Rattle.trace_outside.specs.Writing.{Gained}
use Rattle.trace_outside.proofs.Gains.{gained_both, gained_nothing}
use Rattle.trace_outside.specs.Copies.{Copies}
use Rattle.trace_outside.specs.Seen.{FileSeen}
use Rattle.new_files.specs.Padding.{up_to_page, zeros}
use Rattle.restore_tool.specs.Restored.{data_behind, end_behind, parts_behind}
use Rattle.restore_tool.specs.Copying.{AllTold, IsOneCopied, text_of}

-- ONE FILE MORE

pub data_more : (page place : ℕ) (front : List (List ℕ)) (x : List ℕ) → data_behind page place (front ++ x ∷ [])
    ≡ data_behind page place front ++ (zeros (up_to_page page (end_behind page place (map length front)) - end_behind page place (map length front)) ++ x)
data_more page place [] x = ap (λ t. zeros (up_to_page page place - place) ++ t) (append-nil x)
data_more page place (f ∷ front) x =
    let gap = zeros (up_to_page page place - place) in
    let next = up_to_page page place + length f in
    let last = zeros (up_to_page page (end_behind page next (map length front)) - end_behind page next (map length front)) ++ x in
    ap (λ t. gap ++ (f ++ t)) (data_more page next front x)
    ∙ ap (λ t. gap ++ t) (sym (append_assoc f (data_behind page next front) last))
    ∙ sym (append_assoc gap (f ++ data_behind page next front) last)

pub end_more : (page place : ℕ) (front : List (List ℕ)) (x : List ℕ) → end_behind page place (map length (front ++ x ∷ [])) ≡ up_to_page page (end_behind page place (map length front)) + length x
end_more page place [] x = refl
end_more page place (f ∷ front) x = end_more page (up_to_page page place + length f) front x

abbrev part_from : ℕ → ℕ → ℕ → Part
part_from page end size = part_of (up_to_page page end) size

pub parts_more : (page place : ℕ) (front : List (List ℕ)) (x : List ℕ)
    → parts_behind page place (map length (front ++ x ∷ [])) ≡ parts_behind page place (map length front) ++ part_from page (end_behind page place (map length front)) (length x) ∷ []
parts_more page place [] x = refl
parts_more page place (f ∷ front) x = ap (λ (ps : List Part). part_from page place (length f) ∷ ps) (parts_more page (up_to_page page place + length f) front x)

-- PLACES THAT WRAP

pub next_place : (place end missing size : ℕ) → place ≡ end % 2 ^ 64 → ((place + missing) % 2 ^ 64 + size) % 2 ^ 64 ≡ (end + missing + size) % 2 ^ 64
next_place place end missing size is =
    mod-add-mod (place + missing) (2 ^ 64) size
    ∙ ap (λ (n : ℕ). (n + missing + size) % 2 ^ 64) is
    ∙ ap (λ (n : ℕ). n % 2 ^ 64) (let e : end % 2 ^ 64 + missing + size ≡ end % 2 ^ 64 + (missing + size) = omega arith in e)
    ∙ mod-add-mod end (2 ^ 64) (missing + size)
    ∙ ap (λ (n : ℕ). n % 2 ^ 64) (let e : end + (missing + size) ≡ end + missing + size = omega arith in e)

pub next_offset : (place end missing : ℕ) → place ≡ end % 2 ^ 64 → (place + missing) % 2 ^ 64 ≡ (end + missing) % 2 ^ 64
next_offset place end missing is = ap (λ (n : ℕ). (n + missing) % 2 ^ 64) is ∙ mod-add-mod end (2 ^ 64) missing

-- A FILE COPIED WHOLE

pub one_copied : {T E : Type 0} (gap : List ℕ) (file : FileSeen) (old mid new : Option (List ℕ)) (result : Result T E)
    → IfSome file.bytes (λ bytes. length bytes ≡ file.size) → Gained old mid gap → Copies file.bytes 0 (file.size - 0) mid new result → IsOneCopied gap file old new result
one_copied gap file old mid new result sized first then = by_told file.bytes file.size result sized first then
  where
    by_told : {T E : Type 0} (told : Option (List ℕ)) (size : ℕ) (result : Result T E) → IfSome told (λ bytes. length bytes ≡ size) → Gained old mid gap → Copies told 0 (size - 0) mid new result
        → OnOk result (IfSome told (λ bytes. Gained old new (gap ++ bytes)))
    by_told None size (Ok v) sized first then = tt
    by_told None size (Err e) sized first then = tt
    by_told (Some bytes) size (Ok v) sized first then =
        subst (λ (xs : List ℕ). Gained old new (gap ++ xs)) (take_all (size - 0) bytes (omega (arith, sized))) (gained_both old mid new gap (take (size - 0) (drop 0 bytes)) first then)
    by_told (Some bytes) size (Err e) sized first then = tt

-- FILES THAT TELL THEIR BYTES

some_bytes : (o : Option (List ℕ)) → IsSome o → (bytes : List ℕ) × (o ≡ Some bytes)
some_bytes None h = absurd cc
some_bytes (Some bytes) h = (bytes, refl)

-- the next of them
pub record Next (files : List FileSeen) (i : ℕ) : Type 0 where
  pub bytes : List ℕ
  pub told : (d : FileSeen) → (get_or files i d).bytes ≡ Some bytes
  pub texts : map text_of (take (i + 1) files) ≡ map text_of (take i files) ++ bytes ∷ []

same_default : (files : List FileSeen) (i : ℕ) (d e : FileSeen) → i < length files → get_or files i d ≡ get_or files i e
same_default [] i d e lt = absurd (omega (arith, lt))
same_default (f ∷ files) zero d e lt = refl
same_default (f ∷ files) (suc i) d e lt = same_default files i d e (omega (arith, lt))

pub next_told : (files : List FileSeen) (i : ℕ) (d : FileSeen) → i < length files → AllTold files → Next files i
next_told files i d lt told =
    let file = get_or files i d in
    let given = some_bytes file.bytes (All-get_or (λ (f : FileSeen). IsSome f.bytes) files i d lt told) in
    let x : text_of file ≡ given.0 = ap (λ (o : Option (List ℕ)). unwrap_or o []) given.1 in
    record {
      bytes = given.0;
      told = λ e. ap (λ (f : FileSeen). f.bytes) (same_default files i e d lt) ∙ given.1;
      texts = ap (map text_of) (take_more files i d lt) ∙ map-append text_of (take i files) (file ∷ []) ∙ ap (λ (b : List ℕ). map text_of (take i files) ++ b ∷ []) x;
    }

-- COPIED SO FAR

-- the first data files were copied, and the next one begins at this place or after it
pub record Whole (page whole : ℕ) (texts : List (List ℕ)) (place : ℕ) (old new : Option (List ℕ)) : Type 0 where
  pub gained : Gained old new (data_behind page whole texts)
  pub place_is : place ≡ end_behind page whole (map length texts) % 2 ^ 64

abbrev pub CopiedTo : ℕ → ℕ → List FileSeen → ℕ → ℕ → Option (List ℕ) → Option (List ℕ) → Type 0
CopiedTo page first files count place old new = (whole : ℕ) → first ≡ whole % 2 ^ 64 → AllTold files → Whole page whole (map text_of (take count files)) place old new

pub copied_none : (page first : ℕ) (files : List FileSeen) (written : Option (List ℕ)) → CopiedTo page first files 0 first written written
copied_none page first files written whole is told = record { gained = gained_nothing written; place_is = is }

one_gained : (front : List ℕ) (told : Option (List ℕ)) (bytes : List ℕ) (mid new : Option (List ℕ)) → told ≡ Some bytes → IfSome told (λ bs. Gained mid new (front ++ bs)) → Gained mid new (front ++ bytes)
one_gained front told bytes mid new is one = subst (λ (o : Option (List ℕ)). IfSome o (λ bs. Gained mid new (front ++ bs))) is one

-- what a missing piece is told of every place that wraps so
abbrev pub IsGap : ℕ → ℕ → ℕ → Type 0
IsGap page place missing = (whole : ℕ) → place ≡ whole % 2 ^ 64 → up_to_page page whole ≡ whole + missing

-- one file more was copied
pub copied_more : (page first : ℕ) (files : List FileSeen) (i place missing size next : ℕ) (file : FileSeen) (old mid new : Option (List ℕ))
    → i < length files → IsGap page place missing → file ≡ get_or files i file → IfSome file.bytes (λ bytes. length bytes ≡ size)
    → next ≡ ((place + missing) % 2 ^ 64 + size) % 2 ^ 64 → IfSome file.bytes (λ bs. Gained mid new (zeros missing ++ bs))
    → CopiedTo page first files i place old mid → CopiedTo page first files (i + 1) next old new
copied_more page first files i place missing size next file old mid new lt gap is_file sized next_is one copied whole is told =
    let before = copied whole is told in
    let next_one = next_told files i file lt told in
    let bytes = next_one.bytes in
    let file_told : file.bytes ≡ Some bytes = ap (λ (f : FileSeen). f.bytes) is_file ∙ next_one.told file in
    let front = map text_of (take i files) in
    let end = end_behind page whole (map length front) in
    let up : up_to_page page end ≡ end + missing = gap end before.place_is in
    let long : length bytes ≡ size = subst (λ (o : Option (List ℕ)). IfSome o (λ bs. length bs ≡ size)) file_told sized in
    let last : end_behind page whole (map length (front ++ bytes ∷ [])) ≡ up_to_page page end + length bytes = end_more page whole front bytes in
    let behind : zeros (up_to_page page end - end) ≡ zeros missing = ap zeros (omega (arith, up)) in
    subst (λ (ts : List (List ℕ)). Whole page whole ts next old new) (sym next_one.texts) (record {
      gained = subst (Gained old new) (sym (data_more page whole front bytes ∙ ap (λ t. data_behind page whole front ++ (t ++ bytes)) behind))
          (gained_both old mid new (data_behind page whole front) (zeros missing ++ bytes) before.gained (one_gained (zeros missing) file.bytes bytes mid new file_told one));
      place_is = next_is ∙ next_place place end missing size before.place_is ∙ ap (λ (n : ℕ). n % 2 ^ 64) (omega (arith, last, up, long));
    })

pub copied_all : (page first : ℕ) (files : List FileSeen) (count place : ℕ) (old new : Option (List ℕ)) → length files ≤ count → CopiedTo page first files count place old new
    → (whole : ℕ) → first ≡ whole % 2 ^ 64 → AllTold files → Gained old new (data_behind page whole (map text_of files))
copied_all page first files count place old new le copied whole is told =
    subst (λ (fs : List FileSeen). Gained old new (data_behind page whole (map text_of fs))) (take_all count files le) (copied whole is told).gained

-- PLACED SO FAR

pub record Rows (page whole : ℕ) (texts : List (List ℕ)) (place : ℕ) (parts : List Part) : Type 0 where
  pub parts_are : parts ≡ parts_behind page whole (map length texts)
  pub place_is : place ≡ end_behind page whole (map length texts) % 2 ^ 64

abbrev pub PlacedTo : ℕ → ℕ → List FileSeen → ℕ → ℕ → List Part → Type 0
PlacedTo page first files count place parts = (whole : ℕ) → first ≡ whole % 2 ^ 64 → AllTold files → Rows page whole (map text_of (take count files)) place (take count parts)

pub placed_none : (page first : ℕ) (files : List FileSeen) (parts : List Part) → PlacedTo page first files 0 first parts
placed_none page first files parts whole is told = record { parts_are = refl; place_is = is }

is_part : (part : Part) (offset size : ℕ) → part.offset ≡ offset % 2 ^ 64 → part.size ≡ size → part ≡ part_of offset size
unfolding part_of
is_part part offset size offset_is size_is =
    same_part part (part_of offset size) offset_is (sym (mod-eq_of_lt part.words.size_fits) ∙ ap (λ (n : ℕ). n % 2 ^ 64) size_is)

-- one part more was filled in
pub placed_more : (page first : ℕ) (files : List FileSeen) (i place missing size next : ℕ) (file : FileSeen) (part : Part) (parts now : List Part)
    → i < length files → IsGap page place missing → file ≡ get_or files i file → IfSome file.bytes (λ bytes. length bytes ≡ size)
    → part.offset ≡ (place + missing) % 2 ^ 64 → part.size ≡ size → next ≡ ((place + missing) % 2 ^ 64 + size) % 2 ^ 64 → take (i + 1) now ≡ take i parts ++ part ∷ []
    → PlacedTo page first files i place parts → PlacedTo page first files (i + 1) next now
placed_more page first files i place missing size next file part parts now lt gap is_file sized offset_is size_is next_is pushed placed whole is told =
    let before = placed whole is told in
    let next_one = next_told files i file lt told in
    let bytes = next_one.bytes in
    let file_told : file.bytes ≡ Some bytes = ap (λ (f : FileSeen). f.bytes) is_file ∙ next_one.told file in
    let front = map text_of (take i files) in
    let end = end_behind page whole (map length front) in
    let up : up_to_page page end ≡ end + missing = gap end before.place_is in
    let long : length bytes ≡ size = subst (λ (o : Option (List ℕ)). IfSome o (λ bs. length bs ≡ size)) file_told sized in
    let last : end_behind page whole (map length (front ++ bytes ∷ [])) ≡ up_to_page page end + length bytes = end_more page whole front bytes in
    let offset : (place + missing) % 2 ^ 64 ≡ up_to_page page end % 2 ^ 64 = next_offset place end missing before.place_is ∙ ap (λ (n : ℕ). n % 2 ^ 64) (sym up) in
    let own : part ≡ part_from page end (length bytes) = is_part part (up_to_page page end) (length bytes) (offset_is ∙ offset) (size_is ∙ sym long) in
    subst (λ (ts : List (List ℕ)). Rows page whole ts next (take (i + 1) now)) (sym next_one.texts) (record {
      parts_are = pushed ∙ ap (λ (ps : List Part). ps ++ part ∷ []) before.parts_are ∙ ap (λ (p : Part). parts_behind page whole (map length front) ++ p ∷ []) own
          ∙ sym (parts_more page whole front bytes);
      place_is = next_is ∙ next_place place end missing size before.place_is ∙ ap (λ (n : ℕ). n % 2 ^ 64) (omega (arith, last, up, long));
    })

pub placed_all : (page first : ℕ) (files : List FileSeen) (count place : ℕ) (parts : List Part) → length files ≤ count → length parts ≡ length files → PlacedTo page first files count place parts
    → (whole : ℕ) → first ≡ whole % 2 ^ 64 → AllTold files → parts ≡ parts_behind page whole (map length (map text_of files))
placed_all page first files count place parts le each placed whole is told =
    sym (take_all count parts (omega (arith, le, each))) ∙ (placed whole is told).parts_are
    ∙ ap (λ (fs : List FileSeen). parts_behind page whole (map length (map text_of fs))) (take_all count files le)
