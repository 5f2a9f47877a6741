-- Text on its way to a sink: what the sink has of it and what still waits.
use Rattle.std.specs.Prelude.{Option, Result, ◌≡◌, ◌==◌, ◌&&◌, ℕ, Bool, nat_le, ◌≤◌, List, [], ◌++◌, length, take, drop, MatchResult}
use Rattle.trace_outside.specs.Causes.{HasCause}
use Rattle.trace_outside.specs.Writing.{Gained, GainedPrefix}

-- since `before` the sink gained the front of the text, and the rest waits
pub record Holds (before now : Option (List ℕ)) (waiting text : List ℕ) : Type 0 where
  pub count : ℕ
  pub within : count ≤ length text
  pub gained : Gained before now (take count text)
  pub waits : waiting ≡ drop count text

-- a piece was put after the text; after a fault the sink has a prefix of both
abbrev pub Puts : {T E : Type 0} → List ℕ → Option (List ℕ) → List ℕ → Option (List ℕ) → List ℕ → Result T E → Type 0
Puts piece old waiting now waiting_now result = MatchResult result
    (λ _. (before : Option (List ℕ)) (text : List ℕ) → Holds before old waiting text → Holds before now waiting_now (text ++ piece))
    (λ _. (before : Option (List ℕ)) (text : List ℕ) → Holds before old waiting text → GainedPrefix before now (text ++ piece))

-- the sink got all of the text; after a fault it has a prefix
abbrev pub Flushes : {T E : Type 0} → Option (List ℕ) → List ℕ → Option (List ℕ) → List ℕ → Result T E → Type 0
Flushes old waiting now waiting_now result = MatchResult result
    (λ _. Gained old now waiting × (waiting_now ≡ []))
    (λ _. GainedPrefix old now waiting)

-- a sink and the text that waits for it, at one moment
pub record OnWay : Type 0 where
  pub written : Option (List ℕ)
  pub name : List ℕ
  pub faults : ℕ
  pub waiting : List ℕ

abbrev pub on_way : {O : Type 0} → (O → Option (List ℕ)) → (O → List ℕ) → (O → ℕ) → O → List ℕ → OnWay
on_way written name faults out waiting = record { written = written out; name = name out; faults = faults out; waiting = waiting }

-- a piece was put, or a write failed and the sink counted that; the sink kept its name
pub record PutsText {T E : Type 0} (piece : List ℕ) (before now : OnWay) (result : Result T E) : Type 0 where
  pub puts : Puts piece before.written before.waiting now.written now.waiting result
  pub name : now.name ≡ before.name
  pub cause : HasCause before.faults now.faults result

-- a piece of so many bytes is worth a write of its own, and so many bytes that wait are none that could go with it
abbrev pub is_written_at_once : ℕ → ℕ → Bool
is_written_at_once waiting len = (waiting == 0) && nat_le 8192 len
