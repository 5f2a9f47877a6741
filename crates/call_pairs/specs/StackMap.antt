-- The stacks by their threads.
use Rattle.std.specs.Prelude.{◌≡◌, ℕ, ◌+◌, false, List, ◌∷◌, map, reverse, slice_get, Option, None, Some}
use Rattle.std.specs.declared.cmp.Ordering.{Ordering}
use Rattle.std.specs.BTreeMap.{get}
use Rattle.call_pairs.specs.declared.graph_item.GraphEvent.{GraphEvent}
use Rattle.call_pairs.specs.declared.thread.Thread.{Thread}
use Rattle.call_pairs.specs.declared.stacks.Stack.{Stack}
use Rattle.call_pairs.specs.declared.threads.Threads.{Threads}
use Rattle.call_pairs.specs.declared.threads.Left.{Left}
use Rattle.call_pairs.specs.contracts.thread.ThreadOrd.TheImpl as thread_ord
use Rattle.call_pairs.specs.Threads.{thread_of, is_same}
use Rattle.call_pairs.specs.Stacks.{shallower, closing, last_in, opens_in}

-- the order in which the map keeps threads
abbrev pub order : Thread → Thread → Ordering
order = (thread_ord.ghosts).cmp

abbrev pub stack_at : List Stack → Option ℕ → Option Stack
stack_at stacks None = None
stack_at stacks (Some i) = slice_get stacks i

abbrev pub stack_of : Threads → Thread → Option Stack
stack_of threads thread = stack_at threads.stacks.items (get order threads.map thread)

-- whose stack stands at a place
abbrev pub threads_in : List Stack → List Thread
threads_in stacks = map (λ stack. stack.thread) stacks

abbrev pub thread_at : List Stack → ℕ → Option Thread
thread_at stacks i = slice_get (threads_in stacks) i

-- The map tells just where each thread's stack stands.
pub record ArePlaces (threads : Threads) : Type 0 where
  pub of_map : (q : Thread) (i : ℕ) → get order threads.map q ≡ Some i → thread_at threads.stacks.items i ≡ Some q
  pub of_stacks : (q : Thread) (i : ℕ) → thread_at threads.stacks.items i ≡ Some q → get order threads.map q ≡ Some i

-- what stacks tell is as it was, whatever the latest loss
pub record KeepsTold (before now : Threads) : Type 0 where
  pub lasts : (since : ℕ) (q : Thread) → last_in since (stack_of now q) ≡ last_in since (stack_of before q)
  pub opens : (since : ℕ) (q : Thread) → opens_in since (stack_of now q) ≡ opens_in since (stack_of before q)

-- a thread's stack is this now, and what those of others tell is as it was
pub record IsPut (since : ℕ) (t : Thread) (stack : Stack) (before now : Threads) : Type 0 where
  pub own : stack_of now t ≡ Some stack
  pub lasts : (q : Thread) → is_same t q ≡ false → last_in since (stack_of now q) ≡ last_in since (stack_of before q)
  pub opens : (q : Thread) → is_same t q ≡ false → opens_in since (stack_of now q) ≡ opens_in since (stack_of before q)

-- what an entry at a place does to the stacks, after a loss
pub record IsEntered (since place : ℕ) (entry : GraphEvent) (before now : Threads) : Type 0 where
  pub stack : Stack
  pub put : IsPut since (thread_of entry) stack before now
  pub last : stack.last ≡ Some place
  pub opens : reverse stack.opens.items ≡ record { place = place; entry = entry } ∷ shallower entry.depth (opens_in since (stack_of before (thread_of entry)))

-- what an exit at a place does to them, and what it left
pub record IsLeft (since place : ℕ) (exit : GraphEvent) (left : Left) (before now : Threads) : Type 0 where
  pub stack : Stack
  pub put : IsPut since (thread_of exit) stack before now
  pub last : stack.last ≡ Some place
  pub opens : reverse stack.opens.items ≡ shallower exit.depth (opens_in since (stack_of before (thread_of exit)))
  pub top : left.top ≡ closing exit (shallower (exit.depth + 1) (opens_in since (stack_of before (thread_of exit))))
  pub latest : left.last ≡ last_in since (stack_of before (thread_of exit))
