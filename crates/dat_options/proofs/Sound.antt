-- What is computed at the front of bytes is spelled there.
use Rattle.std.proofs.Common.{◌≡◌, ◌≢◌, ℕ, zero, suc, ◌%◌, ◌^◌, ◌<◌, Bool, cond, eqb, ltb, List, [], ◌∷◌, ◌++◌, length, take, drop, Option, None, Some, refl, sym, ap, subst, ◌∙◌, append_assoc, inl, inr, arith}
use Rattle.std.proofs.lemmas.Bool.{cases_Bool, ltb-false, eqb-true, eqb-false}
use Rattle.std.proofs.lemmas.List.{length-take, take-append-drop}
use Rattle.std.proofs.lemmas.List.Concat.{flat_map-cons}
use Rattle.std.proofs.lemmas.List.Elements.{All-take, All-drop, All-cons}
use Rattle.std.specs.List.{All, flat_map}
use Rattle.std.specs.Option.{option_map}
use Rattle.std.specs.Prelude.{option_and_then}
use Rattle.trace_base.specs.Number.{num, bytes_of}
use Rattle.trace_base.specs.declared.order.Order.{Order}
use Rattle.trace_base.specs.declared.part.Part.{Part}
use Rattle.dat_options.specs.declared.option.Opt.{Opt}
use Rattle.dat_options.specs.Front.{leading_piece, leading_number}
use Rattle.dat_options.specs.Options.{IsOption, option_text, options_text, option_behind, option_at, with_first, options_below, options_at}
use Rattle.trace_base.specs.Parts.{part_of}
use Rattle.std.proofs.Math.Nat.{mod-eq_of_lt}
use Rattle.dat_options.specs.Table.{part_text, table_text, part_at, table_at}
use Rattle.dat_options.proofs.Numbers.{IsBytes, limit, bytes_back, are_bytes, num_fits}
use Rattle.dat_options.proofs.Steps.{some_is}
use Rattle.dat_options.specs.Place.{AreBytes}

-- a value at the front of some bytes, with those after it
pub record Front {X : Type 0} (spell : X → List ℕ) (allowed : X → Type 0) (bytes : List ℕ) (value : X) (rest : List ℕ) : Type 0 where
  pub is : allowed value
  pub whole : bytes ≡ spell value ++ rest
  pub fit : AreBytes rest

and_then_is : {X Y : Type 0} (found : Option X) (next : X → Option Y) (y : Y) → option_and_then next found ≡ Some y → (x : X) × (found ≡ Some x) × (next x ≡ Some y)
and_then_is None next y e = cc
and_then_is (Some x) next y e = (x, refl, e)

map_is : {X Y : Type 0} (found : Option X) (f : X → Y) (y : Y) → option_map f found ≡ Some y → (x : X) × (found ≡ Some x) × (f x ≡ y)
map_is None f y e = cc
map_is (Some x) f y e = (x, refl, some_is (f x) y e)

piece_sound : (size : ℕ) (bytes : List ℕ) (found : List ℕ × List ℕ) → AreBytes bytes → leading_piece size bytes ≡ Some found
    → (length found.0 ≡ size) × (bytes ≡ found.0 ++ found.1) × AreBytes found.0 × AreBytes found.1
unfolding leading_piece
piece_sound size bytes found fit e = elim (cases_Bool (ltb (length bytes) size)) [
  | inl short ↦ let never : None ≡ Some found = ap (λ (b : Bool). cond b None (Some (take size bytes, drop size bytes))) (sym short) ∙ e in absurd (cc)
  | inr enough ↦
      let parts : List ℕ × List ℕ = (take size bytes, drop size bytes) in
      let same : parts ≡ found = some_is parts found (ap (λ (b : Bool). cond b None (Some parts)) (sym enough) ∙ e) in
      let P : List ℕ × List ℕ → Type 0 = λ f. (length f.0 ≡ size) × (bytes ≡ f.0 ++ f.1) × AreBytes f.0 × AreBytes f.1 in
      let long = ltb-false (length bytes) size enough in
      let all : P parts = (
        omega (arith, long, length-take size bytes),
        sym (take-append-drop size bytes),
        All-take (λ byte. byte < 256) size bytes fit,
        All-drop (λ byte. byte < 256) size bytes fit,
      ) in
      subst P same all
]

number_sound : (order : Order) (width : ℕ) (bytes : List ℕ) (found : ℕ × List ℕ) → AreBytes bytes → leading_number order width bytes ≡ Some found
    → Front (bytes_of order width) (λ n. n < limit width) bytes found.0 found.1
unfolding leading_number
number_sound order width bytes found fit e =
    let piece = and_then_is (leading_piece width bytes) _ found e in
    let text = piece.0.0 in
    let stands = piece_sound width bytes piece.0 fit piece.1 in
    let parts : ℕ × List ℕ = (num order text, piece.0.1) in
    let same : parts ≡ found = some_is parts found piece.2 in
    let bytes_fit : IsBytes text = are_bytes text stands.2 in
    let spelled : bytes_of order width (num order text) ≡ text = ap (λ (n : ℕ). bytes_of order n (num order text)) (sym stands.0) ∙ bytes_back order text bytes_fit in
    let P : ℕ × List ℕ → Type 0 = λ f. Front (bytes_of order width) (λ n. n < limit width) bytes f.0 f.1 in
    subst P same (record {
      is = subst (λ (n : ℕ). num order text < limit n) stands.0 (num_fits order text bytes_fit);
      whole = stands.1 ∙ ap (λ (t : List ℕ). t ++ piece.0.1) (sym spelled);
      fit = stands.3;
    })

-- an option at the front, or the end of the list
abbrev OptionFront : Order → List ℕ → Option Opt → List ℕ → Type 0
OptionFront order bytes None rest = (bytes ≡ bytes_of order 2 0 ++ rest) × AreBytes rest
OptionFront order bytes (Some option) rest = Front (option_text order) IsOption bytes option rest

behind_sound : (order : Order) (id : ℕ) (before bytes : List ℕ) (found : Option Opt × List ℕ) → AreBytes bytes → before ≡ bytes_of order 2 id ++ bytes → id ≢ 0 → id < 2 ^ 16
    → option_behind order id bytes ≡ Some found → OptionFront order before found.0 found.1
unfolding option_behind
behind_sound order id before bytes found fit whole some few e =
    let size = and_then_is (leading_number order 4 bytes) _ found e in
    let number = number_sound order 4 bytes size.0 fit size.1 in
    let content = and_then_is (leading_piece size.0.0 size.0.1) _ found size.2 in
    let piece = piece_sound size.0.0 size.0.1 content.0 number.fit content.1 in
    let option : Opt = record { id = id; bytes = content.0.0 } in
    let parts : Option Opt × List ℕ = (Some option, content.0.1) in
    let same : parts ≡ found = some_is parts found content.2 in
    let P : Option Opt × List ℕ → Type 0 = λ f. OptionFront order before f.0 f.1 in
    let sized : bytes ≡ (bytes_of order 4 (length content.0.0) ++ content.0.0) ++ content.0.1 =
    number.whole ∙ ap (λ (t : List ℕ). bytes_of order 4 size.0.0 ++ t) piece.1 ∙ ap (λ (n : ℕ). bytes_of order 4 n ++ (content.0.0 ++ content.0.1)) (sym piece.0)
    ∙ sym (append_assoc (bytes_of order 4 (length content.0.0)) content.0.0 content.0.1) in
    subst P same (record {
      is = record { may_be_written = record { id_is_some = some; size_fits = omega (arith, piece.0, number.is) }; id_fits = few };
      whole = whole ∙ ap (λ (t : List ℕ). bytes_of order 2 id ++ t) sized ∙ sym (append_assoc (bytes_of order 2 id) (bytes_of order 4 (length content.0.0) ++ content.0.0) content.0.1);
      fit = piece.3;
    })

option_sound : (order : Order) (bytes : List ℕ) (found : Option Opt × List ℕ) → AreBytes bytes → option_at order bytes ≡ Some found → OptionFront order bytes found.0 found.1
unfolding option_at
option_sound order bytes found fit e =
    let id = and_then_is (leading_number order 2 bytes) _ found e in
    let number = number_sound order 2 bytes id.0 fit id.1 in
    let ended : Option Opt × List ℕ = (None, id.0.1) in
    elim (cases_Bool (eqb id.0.0 0)) [
      | inl nul ↦
          let same : ended ≡ found = some_is ended found (ap (λ (b : Bool). cond b (Some ended) (option_behind order id.0.0 id.0.1)) (sym nul) ∙ id.2) in
          let P : Option Opt × List ℕ → Type 0 = λ f. OptionFront order bytes f.0 f.1 in
          let here : P ended = (number.whole ∙ ap (λ (n : ℕ). bytes_of order 2 n ++ id.0.1) (eqb-true id.0.0 0 nul), number.fit) in
          subst P same here
      | inr other ↦ behind_sound order id.0.0 bytes id.0.1 found number.fit number.whole (eqb-false id.0.0 0 other) number.is (ap (λ (b : Bool). cond b (Some ended) (option_behind order id.0.0 id.0.1)) (sym other) ∙ id.2)
    ]

with_first_sound : (order : Order) (bytes : List ℕ) (first : Option Opt) (rest : List ℕ) (more : Option (List Opt × List ℕ)) (found : List Opt × List ℕ) → OptionFront order bytes first rest
    → ((others : List Opt × List ℕ) → AreBytes rest → more ≡ Some others → Front (options_text order) (All IsOption) rest others.0 others.1)
    → with_first first rest more ≡ Some found → Front (options_text order) (All IsOption) bytes found.0 found.1
with_first_sound order bytes None rest more found front rec e =
    let ended : List Opt × List ℕ = ([], rest) in
    let same : ended ≡ found = some_is ended found e in
    let P : List Opt × List ℕ → Type 0 = λ f. Front (options_text order) (All IsOption) bytes f.0 f.1 in
    subst P same (record { is = λ k d h. absurd (omega arith); whole = front.0; fit = front.1 })
with_first_sound order bytes (Some option) rest more found front rec e =
    let others = map_is more _ found e in
    let back = rec others.0 front.fit others.1 in
    let P : List Opt × List ℕ → Type 0 = λ f. Front (options_text order) (All IsOption) bytes f.0 f.1 in
    let all = others.0.0 in
    let joined : options_text order (option ∷ all) ≡ option_text order option ++ options_text order all =
    ap (λ (t : List ℕ). t ++ bytes_of order 2 0) (flat_map-cons (option_text order) option all) ∙ append_assoc (option_text order option) (flat_map (option_text order) all) (bytes_of order 2 0) in
    subst P others.2 (record {
      is = All-cons IsOption option all front.is back.is;
      whole = front.whole ∙ ap (λ (t : List ℕ). option_text order option ++ t) back.whole ∙ sym (append_assoc (option_text order option) (options_text order all) others.0.1)
          ∙ ap (λ (t : List ℕ). t ++ others.0.1) (sym joined);
      fit = back.fit;
    })

below_sound : (n : ℕ) (order : Order) (bytes : List ℕ) (found : List Opt × List ℕ) → AreBytes bytes → options_below n order bytes ≡ Some found → Front (options_text order) (All IsOption) bytes found.0 found.1
unfolding options_below
below_sound zero order bytes found fit e = cc
below_sound (suc n) order bytes found fit e =
    let first = and_then_is (option_at order bytes) _ found e in
    with_first_sound order bytes first.0.0 first.0.1 (options_below n order first.0.1) found (option_sound order bytes first.0 fit first.1) (λ others fits is. below_sound n order first.0.1 others fits is) first.2

pub options_sound : (order : Order) (bytes : List ℕ) (found : List Opt × List ℕ) → AreBytes bytes → options_at order bytes ≡ Some found → Front (options_text order) (All IsOption) bytes found.0 found.1
unfolding options_at
options_sound order bytes found fit e = below_sound (length bytes) order bytes found fit e

numbers_kept : (order : Order) (offset size : ℕ) → offset < 2 ^ 64 → size < 2 ^ 64 → part_text order (part_of offset size) ≡ bytes_of order 8 offset ++ bytes_of order 8 size
unfolding part_of
numbers_kept order offset size one two =
    ap (λ (n : ℕ). bytes_of order 8 n ++ bytes_of order 8 (size % 2 ^ 64)) (mod-eq_of_lt one) ∙ ap (λ (n : ℕ). bytes_of order 8 offset ++ bytes_of order 8 n) (mod-eq_of_lt two)

part_sound : (order : Order) (bytes : List ℕ) (found : Part × List ℕ) → AreBytes bytes → part_at order bytes ≡ Some found → Front (part_text order) (λ part. Unit {0}) bytes found.0 found.1
unfolding part_at part_of
part_sound order bytes found fit e =
    let offset = and_then_is (leading_number order 8 bytes) _ found e in
    let one = number_sound order 8 bytes offset.0 fit offset.1 in
    let size = and_then_is (leading_number order 8 offset.0.1) _ found offset.2 in
    let two = number_sound order 8 offset.0.1 size.0 one.fit size.1 in
    let parts : Part × List ℕ = (part_of offset.0.0 size.0.0, size.0.1) in
    let same : part_text order parts.0 ≡ bytes_of order 8 offset.0.0 ++ bytes_of order 8 size.0.0 = numbers_kept order offset.0.0 size.0.0 one.is two.is in
    let P : Part × List ℕ → Type 0 = λ f. Front (part_text order) (λ part. Unit {0}) bytes f.0 f.1 in
    subst P (some_is parts found size.2) (record {
      is = tt;
      whole = one.whole ∙ ap (λ (t : List ℕ). bytes_of order 8 offset.0.0 ++ t) two.whole ∙ sym (append_assoc (bytes_of order 8 offset.0.0) (bytes_of order 8 size.0.0) size.0.1)
          ∙ ap (λ (t : List ℕ). t ++ size.0.1) (sym same);
      fit = two.fit;
    })

abbrev pub AreParts : ℕ → List Part → Type 0
AreParts cpus parts = length parts ≡ cpus

pub table_sound : (order : Order) (cpus : ℕ) (bytes : List ℕ) (found : List Part × List ℕ) → AreBytes bytes → table_at order cpus bytes ≡ Some found → Front (table_text order) (AreParts cpus) bytes found.0 found.1
unfolding table_at
table_sound order zero bytes found fit e =
    let ended : List Part × List ℕ = ([], bytes) in
    let P : List Part × List ℕ → Type 0 = λ f. Front (table_text order) (AreParts 0) bytes f.0 f.1 in
    subst P (some_is ended found e) (record { is = refl; whole = refl; fit = fit })
table_sound order (suc cpus) bytes found fit e =
    let first = and_then_is (part_at order bytes) _ found e in
    let front = part_sound order bytes first.0 fit first.1 in
    let others = map_is (table_at order cpus first.0.1) _ found first.2 in
    let back = table_sound order cpus first.0.1 others.0 front.fit others.1 in
    let part = first.0.0 in
    let all = others.0.0 in
    let P : List Part × List ℕ → Type 0 = λ f. Front (table_text order) (AreParts (suc cpus)) bytes f.0 f.1 in
    subst P others.2 (record {
      is = omega (arith, back.is);
      whole = front.whole ∙ ap (λ (t : List ℕ). part_text order part ++ t) back.whole ∙ sym (append_assoc (part_text order part) (table_text order all) others.0.1)
          ∙ ap (λ (t : List ℕ). t ++ others.0.1) (sym (flat_map-cons (part_text order) part all));
      fit = back.fit;
    })
