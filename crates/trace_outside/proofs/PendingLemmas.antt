-- Text on its way to a sink, piece by piece.
use Rattle.std.proofs.Common.{◌≡◌, ℕ, ◌<◌, suc, get_or, append_assoc, length, arith, List, [], ◌++◌, take, drop, Option, refl, sym, ap, ◌∙◌, subst, length-append, Result, Ok, Err, OnOk, OnErr, IsErr}
use Rattle.std.proofs.lemmas.List.{append-nil, take-append-le, drop-append-le, take_all, drop_all, take-append-drop}
use Rattle.std.specs.List.{flat_map}
use Rattle.std.specs.Io.KnownBytes.{append_known}
use Rattle.trace_outside.specs.Writing.{Gained, GainedPrefix}
use Rattle.trace_outside.specs.Pending.{Holds, Puts}
use Rattle.trace_outside.proofs.Gains.{gained_nothing, gained_both, prefix_behind, flat_map-parted}

-- nothing was put yet
pub holds_nothing : (told : Option (List ℕ)) → Holds told told [] []
holds_nothing told = record { count = 0; within = omega arith; gained = gained_nothing told; waits = refl }

pub flushed : (before old now : Option (List ℕ)) (waiting text : List ℕ) → Holds before old waiting text → Gained old now waiting → Gained before now text
flushed before old now waiting text held gained =
    gained_both before old now (take held.count text) waiting held.gained gained
    ∙ ap (append_known before) (ap (λ rest. take held.count text ++ rest) held.waits ∙ take-append-drop held.count text)

pub flush_stopped : (before old now : Option (List ℕ)) (waiting text : List ℕ) → Holds before old waiting text → GainedPrefix old now waiting → GainedPrefix before now text
flush_stopped before old now waiting text held stopped =
    prefix_behind before old now (take held.count text) waiting [] text
    (sym (take-append-drop held.count text) ∙ ap (λ rest. take held.count text ++ rest) (sym held.waits ∙ sym (append-nil waiting)))
    held.gained stopped

-- the piece waits after the rest
held_more : (before old : Option (List ℕ)) (waiting piece text : List ℕ) → Holds before old waiting text → Holds before old (waiting ++ piece) (text ++ piece)
held_more before old waiting piece text held = record {
  count = held.count;
  within = omega (arith, length-append text piece, held.within);
  gained = held.gained ∙ ap (append_known before) (sym (take-append-le held.count text piece held.within));
  waits = ap (λ rest. rest ++ piece) held.waits ∙ sym (drop-append-le held.count text piece held.within);
}

-- all of the text was gained, and the piece too
held_none : (before mid now : Option (List ℕ)) (piece text : List ℕ) → Gained before mid text → Gained mid now piece → Holds before now [] (text ++ piece)
held_none before mid now piece text one two = record {
  count = length (text ++ piece);
  within = omega arith;
  gained = gained_both before mid now text piece one two ∙ ap (append_known before) (sym (take_all (length (text ++ piece)) (text ++ piece) (omega arith)));
  waits = sym (drop_all (length (text ++ piece)) (text ++ piece) (omega arith));
}

-- the text was gained, and a prefix of the piece
stopped_behind : (before mid now : Option (List ℕ)) (piece text : List ℕ) → Gained before mid text → GainedPrefix mid now piece → GainedPrefix before now (text ++ piece)
stopped_behind before mid now piece text one two =
    prefix_behind before mid now text piece [] (text ++ piece) (ap (λ tail. text ++ tail) (sym (append-nil piece))) one two

-- nothing waits of a text that was gained
held_all : (before now : Option (List ℕ)) (text : List ℕ) → Gained before now text → Holds before now [] text
held_all before now text gained = record {
  count = length text;
  within = omega arith;
  gained = gained ∙ ap (append_known before) (sym (take_all (length text) text (omega arith)));
  waits = sym (drop_all (length text) text (omega arith));
}

-- a prefix of a text is one of a longer text
pub prefix_longer : (before now : Option (List ℕ)) (text piece : List ℕ) → GainedPrefix before now text → GainedPrefix before now (text ++ piece)
prefix_longer before now text piece stopped =
    prefix_behind before before now [] text piece (text ++ piece) refl (gained_nothing before) stopped

-- a piece that waits after a text that was flushed
pub puts_flushed : (piece : List ℕ) (old mid : Option (List ℕ)) (waiting same waiting_mid waiting_now : List ℕ) (before : Option (List ℕ)) (text : List ℕ)
    → same ≡ waiting → Gained old mid same → waiting_mid ≡ [] → waiting_now ≡ waiting_mid ++ piece → Holds before old waiting text → Holds before mid waiting_now (text ++ piece)
puts_flushed piece old mid waiting same waiting_mid waiting_now before text kept gained none is held =
    subst (λ (rest : List ℕ). Holds before mid rest (text ++ piece)) (sym (is ∙ ap (λ rest. rest ++ piece) none))
    (held_more before mid [] piece text (held_all before mid text (flushed before old mid waiting text held (gained ∙ ap (append_known old) kept))))

pub puts_stopped : {T E : Type 0} (piece : List ℕ) (old now : Option (List ℕ)) (waiting same waiting_now : List ℕ) (result : Result T E)
    → same ≡ waiting → IsErr result → GainedPrefix old now same → Puts piece old waiting now waiting_now result
puts_stopped piece old now waiting same waiting_now (Ok value) kept failed stopped = absurd (let bad : ⊥ = cc in bad)
puts_stopped piece old now waiting same waiting_now (Err error) kept failed stopped = λ before text held.
    prefix_longer before now text piece (flush_stopped before old now waiting text held (subst (λ (rest : List ℕ). GainedPrefix old now rest) kept stopped))

pub puts_past : {T E : Type 0} (piece : List ℕ) (old mid now : Option (List ℕ)) (waiting same waiting_mid waiting_now : List ℕ) (result : Result T E)
    → same ≡ waiting → Gained old mid same → waiting_mid ≡ [] → waiting_now ≡ waiting_mid → OnOk result (Gained mid now piece) → OnErr result (GainedPrefix mid now piece)
    → Puts piece old waiting now waiting_now result
puts_past piece old mid now waiting same waiting_mid waiting_now (Ok value) kept flush none is gained stopped = λ before text held.
    subst (λ (rest : List ℕ). Holds before now rest (text ++ piece)) (sym (is ∙ none))
    (held_none before mid now piece text (flushed before old mid waiting text held (flush ∙ ap (append_known old) kept)) gained)
puts_past piece old mid now waiting same waiting_mid waiting_now (Err error) kept flush none is gained stopped = λ before text held.
    stopped_behind before mid now piece text (flushed before old mid waiting text held (flush ∙ ap (append_known old) kept)) stopped

-- a piece of a row was stopped
pub parts_stopped : {T E X : Type 0} (f : X → List ℕ) (xs : List X) (i : ℕ) (d : X) (old mid now : Option (List ℕ)) (waiting waiting_mid waiting_now : List ℕ) (result : Result T E)
    → i < length xs → IsErr result
    → ((before : Option (List ℕ)) (text : List ℕ) → Holds before old waiting text → Holds before mid waiting_mid (text ++ flat_map f (take i xs)))
    → ((before : Option (List ℕ)) (text : List ℕ) → Holds before mid waiting_mid text → GainedPrefix before now (text ++ f (get_or xs i d)))
    → Puts (flat_map f xs) old waiting now waiting_now result
parts_stopped f xs i d old mid now waiting waiting_mid waiting_now (Ok value) inside failed one two = absurd (let bad : ⊥ = cc in bad)
parts_stopped f xs i d old mid now waiting waiting_mid waiting_now (Err error) inside failed one two = λ before text held.
    subst (λ (whole : List ℕ). GainedPrefix before now whole) (whole_is text)
    (prefix_longer before now ((text ++ flat_map f (take i xs)) ++ f (get_or xs i d)) (flat_map f (drop (suc i) xs)) (two before (text ++ flat_map f (take i xs)) (one before text held)))
  where
    whole_is : (text : List ℕ) → ((text ++ flat_map f (take i xs)) ++ f (get_or xs i d)) ++ flat_map f (drop (suc i) xs) ≡ text ++ flat_map f xs
    whole_is text =
        append_assoc (text ++ flat_map f (take i xs)) (f (get_or xs i d)) (flat_map f (drop (suc i) xs))
        ∙ append_assoc text (flat_map f (take i xs)) (f (get_or xs i d) ++ flat_map f (drop (suc i) xs))
        ∙ ap (λ tail. text ++ tail) (sym (flat_map-parted f xs i d inside))
