-- Equal threads.
use Rattle.std.proofs.Common.{◌≡◌, Bool, true, false, refl, sym, ap, subst, ◌∙◌}
use Rattle.std.specs.Cmp.{signed_Decides, Equal-is, int_cmp_is, nat_cmp_is}
use Rattle.std.specs.declared.cmp.Ordering.TheVariants.{Equal}
use Rattle.std.specs.Ordering.{is_eq, int_cmp, nat_cmp}
use Rattle.std.specs.FinMap.{int_cmp-IsAntisymmetric, nat_cmp-IsAntisymmetric}
use Rattle.std.proofs.lemmas.Bool.{eqb-true, eq-eqb, false≢true}
use Rattle.call_pairs.specs.declared.thread.Thread.{Thread}
use Rattle.call_pairs.specs.declared.thread.Thread.TheVariants.{Task, Idle}
use Rattle.call_pairs.specs.Threads.{is_same}
use Rattle.call_pairs.specs.StackMap.{order}

pub same_is : (a b : Thread) → is_same a b ≡ true → a ≡ b
same_is (Task a) (Task b) e = ap Task ((signed_Decides a b).0 e)
same_is (Task a) (Idle b) e = absurd (false≢true e)
same_is (Idle a) (Task b) e = absurd (false≢true e)
same_is (Idle a) (Idle b) e = ap Idle (eqb-true a b e)

pub same_self : (a : Thread) → is_same a a ≡ true
same_self (Task a) = (signed_Decides a a).1 refl
same_self (Idle a) = eq-eqb a a refl

pub is_same_from : (a b : Thread) → a ≡ b → is_same a b ≡ true
is_same_from a b e = subst (λ (t : Thread). is_same a t ≡ true) e (same_self a)

pub same_sym : (a b : Thread) → is_same a b ≡ is_same b a
same_sym a b = by_truth (is_same a b) (is_same b a) (λ e. is_same_from b a (sym (same_is a b e))) (λ e. is_same_from a b (sym (same_is b a e)))
  where
    by_truth : (x y : Bool) → (x ≡ true → y ≡ true) → (y ≡ true → x ≡ true) → x ≡ y
    by_truth true y f g = sym (f refl)
    by_truth false true f g = g refl
    by_truth false false f g = refl

pub order_is : (a b : Thread) → is_eq (order a b) ≡ true → a ≡ b
order_is (Task a) (Task b) e = ap Task (int_cmp-IsAntisymmetric a b ((Equal-is (int_cmp a b)).0 e))
order_is (Task a) (Idle b) e = absurd (false≢true e)
order_is (Idle a) (Task b) e = absurd (false≢true e)
order_is (Idle a) (Idle b) e = ap Idle (nat_cmp-IsAntisymmetric a b ((Equal-is (nat_cmp a b)).0 e))

-- threads that differ stand at different places of the order
pub order_apart : (a b : Thread) → is_same a b ≡ false → is_eq (order a b) ≡ false
order_apart a b apart = by_order (is_eq (order a b)) refl
  where
    by_order : (x : Bool) → is_eq (order a b) ≡ x → is_eq (order a b) ≡ false
    by_order true e = absurd (false≢true (sym apart ∙ is_same_from a b (order_is a b e)))
    by_order false e = e

pub same_order : (a b : Thread) → a ≡ b → is_eq (order a b) ≡ true
same_order a b e = subst (λ (t : Thread). is_eq (order a t) ≡ true) e (self a)
  where
    self : (t : Thread) → is_eq (order t t) ≡ true
    self (Task n) = ap is_eq (sym (int_cmp_is n n Equal refl))
    self (Idle n) = ap is_eq (sym (nat_cmp_is n n Equal refl))
