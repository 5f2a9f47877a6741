-- Command lines that may be missing at the file's end.
use Rattle.std.proofs.Common.{◌≡◌, ℕ, eq-eqb, List, [], length, Option, None, Some, IfSome, Ok, refl, sym, subst, ◌∙◌, arith}
use Rattle.std.proofs.lemmas.Bool.{ne_eqb}
use Rattle.trace_base.specs.declared.order.Order.{Order}
use Rattle.dat_options.specs.Answer.{AnswersTold, AnswersUnlessFaulty}
use Rattle.dat_header.specs.Found.{Found}
use Rattle.dat_header.specs.ItemsAt.{text_at}
use Rattle.dat_header.specs.Partial.{cmdlines_at}
use Rattle.dat_header.specs.Steps.{Steps}
use Rattle.trace_outside.specs.Seen.{FileSeen}
use Rattle.dat_header.proofs.Steps.{steps_found}

abbrev found_text : List ℕ → ℕ → Found (List ℕ)
found_text text at = Ok (text, at)

-- the file ends in front of them
pub cmdlines_none : (order : Order) (file : List ℕ) (at : ℕ) → at ≡ length file → cmdlines_at order file at ≡ Ok ([], at)
unfolding cmdlines_at
cmdlines_none order file at ends = rw (eq-eqb at (length file) ends) refl

-- it goes on
pub cmdlines_some : (order : Order) (file : List ℕ) (at : ℕ) → (at ≡ length file → ⊥) → cmdlines_at order file at ≡ text_at 8 order file at
unfolding cmdlines_at
cmdlines_some order file at more = rw (ne_eqb at (length file) more) refl

told_none : (order : Order) (at size : ℕ) (told : Option (List ℕ)) → IfSome told (λ file. length file ≡ size) → at ≡ size → AnswersTold (λ file. cmdlines_at order file at) told (found_text [] at)
told_none order at size None is ends = tt
told_none order at size (Some file) is ends = cmdlines_none order file at (ends ∙ sym is)

pub steps_none : (order : Order) (at : ℕ) (text : List ℕ) (now : FileSeen) → IfSome now.bytes (λ file. length file ≡ now.size) → at ≡ now.size → text ≡ []
    → Steps (λ found. found.1) (λ file. cmdlines_at order file at) at now now (found_text text at)
steps_none order at text now is ends empty =
    steps_found (λ file. cmdlines_at order file at) at at text now now
    (subst (λ (t : List ℕ). AnswersTold (λ file. cmdlines_at order file at) now.bytes (found_text t at)) (sym empty) (told_none order at now.size now.bytes is ends))
    refl refl refl (omega arith) (omega arith) (omega (arith, ends))

told_some : (order : Order) (at size : ℕ) (told : Option (List ℕ)) (result : Found (List ℕ)) → IfSome told (λ file. length file ≡ size) → (at ≡ size → ⊥)
    → AnswersTold (λ file. text_at 8 order file at) told result → AnswersTold (λ file. cmdlines_at order file at) told result
told_some order at size None result is more answers = tt
told_some order at size (Some file) result is more answers =
    subst (λ (r : Found (List ℕ)). AnswersUnlessFaulty result r) (sym (cmdlines_some order file at (λ ends. more (ends ∙ is)))) answers

pub steps_some : (order : Order) (at : ℕ) (before now : FileSeen) (result : Found (List ℕ)) → IfSome before.bytes (λ file. length file ≡ before.size) → (at ≡ before.size → ⊥)
    → Steps (λ found. found.1) (λ file. text_at 8 order file at) at before now result → Steps (λ found. found.1) (λ file. cmdlines_at order file at) at before now result
steps_some order at before now result is more steps = record {
  answer = told_some order at before.size before.bytes result is more steps.answer;
  bytes = steps.bytes;
  size = steps.size;
  later = steps.later;
  cause = steps.cause;
  kept = steps.kept;
  reads = steps.reads;
  most = steps.most;
  forward = steps.forward;
  inside = steps.inside;
}
