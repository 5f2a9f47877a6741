-- The steps of directives.
use Rattle.std.proofs.Common.{◌≡◌, ℕ, ◌+◌, ◌-◌, ◌<◌, ◌≤◌, List, [], ◌∷◌, ◌++◌, length, take, drop, replicate, get_or, Option, Some, None, refl, sym, ap, subst, ◌∙◌, append_assoc, arith}
use Rattle.std.specs.Prelude.{IfSome, slice_range, map, min}
use Rattle.std.specs.List.{All, flat_map}
use Rattle.std.specs.Option.{option_to_list}
use Rattle.std.proofs.lemmas.List.{append-nil, drop_more, drop_all, drop_min, flat_map_more, length-take, length-drop, map_push, take-take, take_min, take_rest, take-append-le}
use Rattle.std.proofs.lemmas.List.Elements.{All-nil, All-cons, All-head, All-tail, All-same}
use Rattle.trace_base.specs.declared.tail.Tail.{Tail}
use Rattle.fmt_forms.specs.Gathered.{Gathered, gathered, joined}
use Rattle.fmt_forms.proofs.Gathering.{joined_twice, nothing_joined}
use Rattle.fmt_directives.specs.Directives.{IsWithin}
use Rattle.fmt_directives.specs.declared.directive.Directive.{Directive}
use Rattle.fmt_expr.specs.Tree.{Tree}
use Rattle.fmt_print.specs.declared.step.Literal.{Literal}
use Rattle.fmt_print.specs.declared.step.Shown.{Shown}
use Rattle.fmt_print.specs.declared.step.Step.{Step}
use Rattle.fmt_print.specs.declared.step.Content.{Content}
use Rattle.fmt_print.specs.declared.step.Content.TheVariants as content
use Rattle.fmt_directives.specs.declared.directive.Spec.{Spec}
use Rattle.fmt_print.specs.declared.argument.Argument.{Argument}
use Rattle.fmt_print.specs.ArgumentView.{trees}
use Rattle.fmt_print.specs.Arguments.{Taken, taken, by}
use Rattle.fmt_print.specs.Contents.{content_text, directive_of}
use Rattle.fmt_print.specs.Printed.{Source, printed, printed_one}
use Rattle.fmt_forms.specs.Shows.{Shows}
use Rattle.fmt_print.specs.Takes.{Takes}
use Rattle.fmt_print.specs.Steps.{literal_directive, literal_start, literal_text, shown_directive, directives_of, sixteen_at, front_of, front_in, IsPlaced, printed_some, printed_step}

-- steps that were made of the first of some directives
abbrev made : Option Literal → List ℕ → Shown → Step
made l front s = record { front = front; literal = l; shown = s }

pub steps_more : (steps : List Step) (left behind rest ds : List Directive) (l : Option Literal) (front : List ℕ) (s : Shown) → option_to_list (literal_directive l) ++ behind ≡ left → option_to_list (shown_directive s) ++ rest ≡ behind → flat_map directives_of steps ++ left ≡ ds
    → flat_map directives_of (steps ++ made l front s ∷ []) ++ rest ≡ ds
steps_more steps left behind rest ds l front s is_left is_behind before =
    ap (λ (es : List Directive). es ++ rest) (sym (flat_map_more directives_of [] steps (made l front s)))
    ∙ append_assoc (flat_map directives_of steps) (directives_of (made l front s)) rest
    ∙ ap (λ (es : List Directive). flat_map directives_of steps ++ es)
    (append_assoc (option_to_list (literal_directive l)) (option_to_list (shown_directive s)) rest ∙ ap (λ (es : List Directive). option_to_list (literal_directive l) ++ es) is_behind ∙ is_left)
    ∙ before

pub fronts_more : (steps : List Step) (text front : List ℕ) (l : Option Literal) (s : Shown) → map front_of steps ≡ map (front_in text) steps → front ≡ sixteen_at (literal_start l) text
    → map front_of (steps ++ made l front s ∷ []) ≡ map (front_in text) (steps ++ made l front s ∷ [])
fronts_more steps text front l s before is =
    map_push front_of steps (made l front s)
    ∙ ap (λ (fs : List (List ℕ)). fs ++ front ∷ []) before
    ∙ ap (λ (f : List ℕ). map (front_in text) steps ++ f ∷ []) is
    ∙ sym (map_push (front_in text) steps (made l front s))

pub steps_all : (steps : List Step) (left ds : List Directive) → length left ≡ 0 → flat_map directives_of steps ++ left ≡ ds → flat_map directives_of steps ≡ ds
steps_all steps [] ds none before = sym (append-nil (flat_map directives_of steps)) ∙ before
steps_all steps (d ∷ left) ds none before = absurd (omega arith)

-- what a conversion shows
directive_shown : (s : Source) (what : Content) (spec : Spec) (args : List Tree) → by (content_text s what spec.length) (taken s.given spec args) ≡ printed_one s (directive_of what spec) args
directive_shown s (content.Number base) spec args = refl
directive_shown s content.Letter spec args = refl
directive_shown s content.Text spec args = refl
directive_shown s (content.Pointer pointer) spec args = refl

pub takes_some : (s : Source) (what : Content) (spec : Spec) (args : List Tree) (before now : Tail) (left : List Argument) (a : Taken) → Some a ≡ taken s.given spec args → Shows before now (content_text s what spec.length a.0 a.1) → trees left ≡ a.2
    → Takes before now left (printed_one s (directive_of what spec) args)
takes_some s what spec args before now left a is shown rest =
    subst (Takes before now left) (ap (by (content_text s what spec.length)) is ∙ directive_shown s what spec args) (shown, rest)

pub takes_none : (s : Source) (what : Content) (spec : Spec) (args : List Tree) (tail : Tail) (left : List Argument) → None ≡ taken s.given spec args → trees left ≡ [] → Takes tail tail left (printed_one s (directive_of what spec) args)
takes_none s what spec args tail left is rest =
    subst (Takes tail tail left) (ap (by (content_text s what spec.length)) is ∙ directive_shown s what spec args) (nothing_joined tail, rest)

-- the texts of steps, one after another
module _ (s : Source) where
  literal_first : (l : Option Literal) (ds : List Directive) (args : List Tree) → printed s (option_to_list (literal_directive l) ++ ds) args ≡ literal_text s.text l ++ printed s ds args
  literal_first None ds args = refl
  literal_first (Some l) ds args = refl

  shown_first : (o : Option Directive) (ds : List Directive) (args : List Tree) → printed s (option_to_list o ++ ds) args ≡ (printed_some s o args).0 ++ printed s ds (printed_some s o args).1
  shown_first None ds args = refl
  shown_first (Some d) ds args = refl

  step_first : (step : Step) (ds : List Directive) (args : List Tree) → printed s (directives_of step ++ ds) args ≡ (printed_step s step args).0 ++ printed s ds (printed_step s step args).1
  step_first step ds args =
      let behind = printed_some s (shown_directive step.shown) args in
      ap (λ (es : List Directive). printed s es args) (append_assoc (option_to_list (literal_directive step.literal)) (option_to_list (shown_directive step.shown)) ds)
      ∙ literal_first step.literal (option_to_list (shown_directive step.shown) ++ ds) args
      ∙ ap (λ (l : List ℕ). literal_text s.text step.literal ++ l) (shown_first (shown_directive step.shown) ds args)
      ∙ sym (append_assoc (literal_text s.text step.literal) behind.0 (printed s ds behind.1))

  pub printed_more : (r : Gathered) (before now : Tail) (steps : List Step) (i : ℕ) (d : Step) (args : List Tree) (left : List Argument) → i < length steps → Takes before now left (printed_step s (get_or steps i d) args)
      → joined (gathered before) (printed s (flat_map directives_of (drop i steps)) args) ≡ r → joined (gathered now) (printed s (flat_map directives_of (drop (i + 1) steps)) (trees left)) ≡ r
  printed_more r before now steps i d args left lt takes was =
      let so_far = gathered before in
      let one : List ℕ × List Tree = printed_step s (get_or steps i d) args in
      let behind = flat_map directives_of (drop (i + 1) steps) in
      ap (λ (g : Gathered). joined g (printed s behind (trees left))) takes.0
      ∙ ap (λ (l : List Tree). joined (joined so_far one.0) (printed s behind l)) takes.1
      ∙ joined_twice so_far one.0 (printed s behind one.1)
      ∙ ap (joined so_far) (sym (step_first (get_or steps i d) behind args))
      ∙ ap (λ (es : List Step). joined so_far (printed s (flat_map directives_of es) args)) (sym (drop_more steps i d lt))
      ∙ was

  pub printed_all : (r : Gathered) (t : Tail) (steps : List Step) (i : ℕ) (args : List Tree) → length steps ≤ i → joined (gathered t) (printed s (flat_map directives_of (drop i steps)) args) ≡ r → gathered t ≡ r
  printed_all r t steps i args le before =
      nothing_joined t ∙ ap (λ (es : List Step). joined (gathered t) (printed s (flat_map directives_of es) args)) (sym (drop_all i steps le)) ∙ before

-- what holds of each directive holds of those of each step
both_of : (P : Directive → Type 0) (a b : Option Directive) (ds : List Directive) → All P ((option_to_list a ++ option_to_list b) ++ ds) → (IfSome a P × IfSome b P) × All P ds
both_of P None None ds each = ((tt, tt), each)
both_of P None (Some b) ds each = ((tt, All-head P b ds each), All-tail P b ds each)
both_of P (Some a) None ds each = ((All-head P a ds each, tt), All-tail P a ds each)
both_of P (Some a) (Some b) ds each =
    let rest = All-tail P a (b ∷ ds) each in ((All-head P a (b ∷ ds) each, All-head P b ds rest), All-tail P b ds rest)

steps_each : (text : List ℕ) (steps : List Step) → map front_of steps ≡ map (front_in text) steps → All (IsWithin (length text)) (flat_map directives_of steps) → All (IsPlaced text) steps
steps_each text [] fronts each = All-nil (IsPlaced text)
steps_each text (s ∷ steps) fronts each =
    let both = both_of (IsWithin (length text)) (literal_directive s.literal) (shown_directive s.shown) (flat_map directives_of steps) each in
    let first : front_of s ≡ front_in text s = ap (λ (fs : List (List ℕ)). get_or fs 0 []) fronts in
    let rest : map front_of steps ≡ map (front_in text) steps = ap (λ (fs : List (List ℕ)). drop 1 fs) fronts in
    All-cons (IsPlaced text) s steps (both.0, first) (steps_each text steps rest both.1)

pub steps_within : (text : List ℕ) (steps : List Step) (ds : List Directive) → flat_map directives_of steps ≡ ds → map front_of steps ≡ map (front_in text) steps → All (IsWithin (length text)) ds → All (IsPlaced text) steps
steps_within text steps ds is fronts each = steps_each text steps fronts (All-same (IsWithin (length text)) (flat_map directives_of steps) ds is each)

-- the front of a literal
pub front_text : (text front : List ℕ) (start end : ℕ) → front ≡ sixteen_at start text → start ≤ end → end ≤ length text → end - start ≤ 16 → take (end - start) front ≡ slice_range text start end
front_text text front start end is le within few =
    let bytes : List ℕ = take 16 (drop start text) in
    ap (take (end - start)) is
    ∙ take-append-le (end - start) bytes (drop (length bytes) (replicate 16 0)) (omega (arith, le, within, few, length-take 16 (drop start text), length-drop start text))
    ∙ take-take (end - start) 16 (drop start text) few

pub front_shown : (text front : List ℕ) (literal : Option Literal) (l : Literal) → literal ≡ Some l → l.end - l.start ≤ 16
    → IfSome (literal_directive literal) (IsWithin (length text)) → front ≡ sixteen_at (literal_start literal) text → take (l.end - l.start) front ≡ literal_text text literal
front_shown text front literal l is few =
    subst (λ (o : Option Literal). IfSome (literal_directive o) (IsWithin (length text)) → front ≡ sixteen_at (literal_start o) text → take (l.end - l.start) front ≡ literal_text text o) (sym is)
    (λ placed copied. front_text text front l.start l.end copied placed.0 placed.1 few)

-- the sixteen bytes at a place, as they are copied
take_least : (bytes : List ℕ) → take (min (length bytes) 16) bytes ≡ take 16 bytes
take_least bytes = let same : min (length bytes) 16 ≡ min 16 (length bytes) = omega arith in ap (λ (k : ℕ). take k bytes) same ∙ take_min 16 bytes

pub sixteen_made : (text behind first : List ℕ) (place : ℕ) → behind ≡ take (length text - min place (length text)) (drop (min place (length text)) text) → first ≡ take (min (length behind) 16) behind → first ≡ take 16 (drop place text)
sixteen_made text behind first place is_behind is_first =
    let whole : behind ≡ drop place text = is_behind ∙ take_rest text (min place (length text)) ∙ drop_min place text in
    is_first ∙ take_least behind ∙ ap (take 16) whole
