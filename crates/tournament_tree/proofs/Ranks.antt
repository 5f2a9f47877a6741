-- Ranks, and the keys of what comes at a time.
use Rattle.std.proofs.Common.{◌≡◌, ℕ, ◌≤◌, Option, Some, None, refl, arith}
use Rattle.tournament_tree.specs.declared.slot_key.SlotKey.{SlotKey}
use Rattle.tournament_tree.specs.declared.slot_key.SlotKey.TheVariants.{Empty, Start, At}
use Rattle.tournament_tree.specs.Least.{NotBefore, from_time, rank}

pub never_empty : (time : Option ℕ) → from_time time ≡ Empty → ⊥
never_empty None e = cc
never_empty (Some time) e = cc

pub same_time : (a b : Option ℕ) → from_time a ≡ from_time b → a ≡ b
same_time None None e = refl
same_time None (Some b) e = absurd cc
same_time (Some a) None e = absurd cc
same_time (Some a) (Some b) e = cc

pub rank_from : (n : ℕ) (time : Option ℕ) → NotBefore n (from_time time) → n ≤ rank time
rank_from n None from = from
rank_from n (Some time) from = from

pub from_rank : (n : ℕ) (time : Option ℕ) → n ≤ rank time → NotBefore n (from_time time)
from_rank n None from = from
from_rank n (Some time) from = from

pub from_lower : (m n : ℕ) (key : SlotKey) → m ≤ n → NotBefore n key → NotBefore m key
from_lower m n Empty le from = tt
from_lower m n Start le from = omega (arith, le, from)
from_lower m n (At time) le from = omega (arith, le, from)
