-- One step of reading after another.
use Rattle.std.proofs.Common.{◌≡◌, ℕ, ◌≤◌, ◌-◌, List, Option, None, Some, Result, Ok, Err, refl, sym, ap, subst, ◌∙◌, arith}
use Rattle.trace_outside.specs.Causes.{Rose, raised}
use Rattle.trace_outside.specs.Seen.{FileSeen}
use Rattle.dat_options.specs.declared.fault.OpenFault.{OpenFault}
use Rattle.dat_options.specs.declared.fault.OpenFault.TheVariants.{Read, Memory}
use Rattle.dat_options.specs.Answer.{AnswersUnlessFaulty, AnswersTold, KeptAt, KeptUnlessRead}
use Rattle.dat_header.specs.Found.{Found, ◌>>=◌}
use Rattle.dat_header.specs.Header.{IsRefusal}
use Rattle.dat_header.specs.Steps.{Steps}

abbrev pub erring : (V : Type 0) → OpenFault → Result V OpenFault
erring V fault = Err fault

pub erring_is : (V : Type 0) (fault other : OpenFault) → erring V fault ≡ erring V other → fault ≡ other
erring_is V fault other e = cc

answers_behind : {V W : Type 0} (first : Result V OpenFault) (next : V → Result W OpenFault) (value : V) (result : Result W OpenFault)
    → first ≡ Ok value → AnswersUnlessFaulty result (next value) → AnswersUnlessFaulty result (first >>= next)
answers_behind {V} first next value result is answers = subst (λ (r : Result V OpenFault). AnswersUnlessFaulty result (r >>= next)) (sym is) answers

told_then : {V W : Type 0} (told : Option (List ℕ)) (first : List ℕ → Result V OpenFault) (next : V → List ℕ → Result W OpenFault) (value : V) (result : Result W OpenFault)
    → AnswersTold first told (Ok value) → AnswersTold (next value) told result → AnswersTold (λ bytes. first bytes >>= λ v. next v bytes) told result
told_then None first next value result one two = tt
told_then (Some bytes) first next value result one two = answers_behind (first bytes) (λ v. next v bytes) value result one two

answers_failed : {V W : Type 0} (fault : OpenFault) (first : Result V OpenFault) (next : V → Result W OpenFault)
    → AnswersUnlessFaulty (Err fault) first → AnswersUnlessFaulty {T = W} (Err fault) (first >>= next)
answers_failed Read first next is = tt
answers_failed Memory first next is = tt
answers_failed fault first next is = ap (λ r. r >>= next) is

told_failed : {V W : Type 0} (told : Option (List ℕ)) (first : List ℕ → Result V OpenFault) (next : V → List ℕ → Result W OpenFault) (fault : OpenFault)
    → AnswersTold first told (Err fault) → AnswersTold {T = W} (λ bytes. first bytes >>= λ v. next v bytes) told (Err fault)
told_failed None first next fault is = tt
told_failed (Some bytes) first next fault is = answers_failed fault (first bytes) (λ v. next v bytes) is

-- a count that did not move is kept, whatever was answered
pub kept_at : (before now : ℕ) (fault : OpenFault) → now ≡ before → KeptAt before now fault
kept_at before now Read same = tt
kept_at before now fault same = same

pub kept_still : {V : Type 0} (before now : ℕ) (result : Result V OpenFault) → now ≡ before → KeptUnlessRead before now result
kept_still before now (Ok value) same = same
kept_still before now (Err fault) same = kept_at before now fault same

-- a step, and then another from the place that it answered
pub steps_then : {V W : Type 0} (place : V → ℕ) (end : W → ℕ) (first : List ℕ → Result V OpenFault) (next : V → List ℕ → Result W OpenFault)
    (at : ℕ) (before mid now : FileSeen) (value : V) (result : Result W OpenFault)
    → Steps place first at before mid (Ok value) → Steps end (next value) (place value) mid now result
    → Steps end (λ bytes. first bytes >>= λ v. next v bytes) at before now result
steps_then place end first next at before mid now value (Ok w) one two = record {
  answer = told_then before.bytes first next value (Ok w) one.answer (subst (λ (told : Option (List ℕ)). AnswersTold (next value) told (Ok w)) one.bytes two.answer);
  bytes = two.bytes ∙ one.bytes;
  size = two.size ∙ one.size;
  later = omega (arith, one.later, two.later);
  cause = λ is. cc;
  kept = two.kept ∙ one.kept;
  reads = omega (arith, one.reads, two.reads, one.forward, two.forward);
  most = omega (arith, one.reads, two.most, one.inside, one.forward, one.size);
  forward = omega (arith, one.forward, two.forward);
  inside = omega (arith, one.size, two.inside);
}
steps_then place end first next at before mid now value (Err fault) one two = record {
  answer = told_then before.bytes first next value (Err fault) one.answer (subst (λ (told : Option (List ℕ)). AnswersTold (next value) told (Err fault)) one.bytes two.answer);
  bytes = two.bytes ∙ one.bytes;
  size = two.size ∙ one.size;
  later = omega (arith, one.later, two.later);
  cause = λ is. let rose : Rose mid.faults now.faults = two.cause is in omega (arith, one.later, rose);
  kept = subst (λ (count : ℕ). KeptAt count now.faults fault) one.kept two.kept;
  reads = tt;
  most = omega (arith, one.reads, two.most, one.inside, one.forward, one.size);
  forward = tt;
  inside = tt;
}

-- a step that found something wrong, and no other after it
pub steps_failed : {V W : Type 0} (place : V → ℕ) (end : W → ℕ) (first : List ℕ → Result V OpenFault) (next : V → List ℕ → Result W OpenFault)
    (at : ℕ) (before now : FileSeen) (fault : OpenFault)
    → Steps place first at before now (Err fault) → Steps {V = W} end (λ bytes. first bytes >>= λ v. next v bytes) at before now (Err fault)
steps_failed {V} {W} place end first next at before now fault one = record {
  answer = told_failed before.bytes first next fault one.answer;
  bytes = one.bytes;
  size = one.size;
  later = one.later;
  cause = λ is. one.cause (cc);
  kept = one.kept;
  reads = tt;
  most = one.most;
  forward = tt;
  inside = tt;
}

pub answers_itself : {V : Type 0} (result : Result V OpenFault) → AnswersUnlessFaulty result result
answers_itself (Ok value) = refl
answers_itself (Err Read) = tt
answers_itself (Err Memory) = tt
answers_itself (Err fault) = refl

told_itself : {V : Type 0} (told : Option (List ℕ)) (expected result : Result V OpenFault) → expected ≡ result → AnswersTold (λ bytes. expected) told result
told_itself None expected result is = tt
told_itself {V} (Some bytes) expected result is = subst (λ (r : Result V OpenFault). AnswersUnlessFaulty result r) (sym is) (answers_itself result)

-- a value that the bytes have no say in, with nothing read for it
pub steps_here : {V : Type 0} (end : V → ℕ) (expected : Result V OpenFault) (at : ℕ) (now : FileSeen) (value : V)
    → expected ≡ Ok value → end value ≡ at → at ≤ now.size → Steps end (λ bytes. expected) at now now (Ok value)
steps_here end expected at now value is ends within = record {
  answer = told_itself now.bytes expected (Ok value) is;
  bytes = refl;
  size = refl;
  later = omega arith;
  cause = λ e. cc;
  kept = refl;
  reads = omega arith;
  most = omega arith;
  forward = omega (arith, ends);
  inside = omega (arith, ends, within);
}

-- something that is wrong with what was read
pub steps_wrong : {V : Type 0} (end : V → ℕ) (expected : Result V OpenFault) (at : ℕ) (now : FileSeen) (wrong : OpenFault)
    → expected ≡ Err wrong → IsRefusal wrong → Steps end (λ bytes. expected) at now now (Err wrong)
steps_wrong end expected at now wrong is refusal = record {
  answer = told_itself now.bytes expected (Err wrong) is;
  bytes = refl;
  size = refl;
  later = omega arith;
  cause = λ e. absurd (subst IsRefusal (erring_is _ _ _ e) refusal);
  kept = kept_at now.faults now.faults wrong refl;
  reads = tt;
  most = omega arith;
  forward = tt;
  inside = tt;
}

told_same : {V : Type 0} (told : Option (List ℕ)) (first other : List ℕ → Result V OpenFault) (result : Result V OpenFault) → ((bytes : List ℕ) → first bytes ≡ other bytes)
    → AnswersTold first told result → AnswersTold other told result
told_same None first other result same answers = tt
told_same {V} (Some bytes) first other result same answers = subst (λ (r : Result V OpenFault). AnswersUnlessFaulty result r) (same bytes) answers

-- steps of which the same is expected
pub steps_same : {V : Type 0} (next : V → ℕ) (first other : List ℕ → Result V OpenFault) (at : ℕ) (before now : FileSeen) (result : Result V OpenFault)
    → ((bytes : List ℕ) → first bytes ≡ other bytes) → Steps next first at before now result → Steps next other at before now result
steps_same next first other at before now result same steps = record {
  answer = told_same before.bytes first other result same steps.answer;
  bytes = steps.bytes;
  size = steps.size;
  later = steps.later;
  cause = steps.cause;
  kept = steps.kept;
  reads = steps.reads;
  most = steps.most;
  forward = steps.forward;
  inside = steps.inside;
}

-- a step that is told by its clauses
pub steps_found : {V : Type 0} (expected : List ℕ → Found V) (at end : ℕ) (value : V) (before now : FileSeen) → AnswersTold expected before.bytes (Ok (value, end))
    → now.bytes ≡ before.bytes → now.size ≡ before.size → now.faults ≡ before.faults → now.reads ≤ raised before.reads (end - at) → at ≤ end → end ≤ before.size
    → Steps (λ found. found.1) expected at before now (Ok (value, end))
steps_found expected at end value before now answer bytes size kept reads forward inside = record {
  answer = answer;
  bytes = bytes;
  size = size;
  later = omega (arith, kept);
  cause = λ e. cc;
  kept = kept;
  reads = reads;
  most = omega (arith, reads, inside);
  forward = forward;
  inside = inside;
}

pub steps_fault : {V : Type 0} (X : Type 0) (expected : List ℕ → Found V) (at : ℕ) (fault : OpenFault) (before now : FileSeen) → AnswersTold expected before.bytes (Err fault)
    → now.bytes ≡ before.bytes → now.size ≡ before.size → before.faults ≤ now.faults → (erring X fault ≡ erring X Read → Rose before.faults now.faults)
    → KeptAt before.faults now.faults fault → now.reads ≤ raised before.reads (before.size - at)
    → Steps (λ found. found.1) expected at before now (Err fault)
steps_fault X expected at fault before now answer bytes size later cause kept most = record {
  answer = answer;
  bytes = bytes;
  size = size;
  later = later;
  cause = λ e. cause (ap (erring X) (erring_is _ _ _ e));
  kept = kept;
  reads = tt;
  most = most;
  forward = tt;
  inside = tt;
}
