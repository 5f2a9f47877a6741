-- The map of the code as a finite map.
use Rattle.std.proofs.Common.{◌≡◌, ℕ, ℤ, true, false, cond, List, [], ◌∷◌, ◌++◌, Option, Some, None, is_some, refl, sym, ap, ◌∙◌, true≢false}
use Rattle.std.specs.Ordering.{int_cmp, eq_by_cmp, is_eq}
use Rattle.std.specs.Cmp.{int_cmp_total, eq_by_cmp_equiv}
use Rattle.std.specs.Map.{lookup}
use Rattle.std.specs.BTreeMap as tree
use Rattle.std.specs.BTreeMap.{BTreeMap, is_at}
use Rattle.std.specs.FinMap.{find, from_entries, get, insert, remove, get-from_entries, get-insert, get-remove, same_map, int_cmp-IsAntisymmetric}
use Rattle.wakeup_pairs.specs.declared.wakeup_item.Pair.{Pair}
use Rattle.wakeup_pairs.specs.declared.wakeup_item.Switch.{Switch}
use Rattle.wakeup_pairs.specs.declared.wakeup_item.Wake.{Wake}
use Rattle.wakeup_pairs.specs.Pairs.{pair_of}
use Rattle.wakeup_pairs.specs.Gathered.{Gathered, and_woken, and_switched}

find_is_lookup : (q : ℤ) (es : List (ℤ × ℕ)) → find int_cmp q es ≡ lookup (is_at (int_cmp q)) es
find_is_lookup q [] = refl
find_is_lookup q (e ∷ es) = ap (cond (is_eq (int_cmp q e.0)) (Some e.1)) (find_is_lookup q es)

pub got : (m : BTreeMap ℤ ℕ) (q : ℤ) → get (from_entries {R = int_cmp} m.entries) q ≡ tree.get int_cmp m q
got m q = get-from_entries int_cmp_total m.entries q ∙ find_is_lookup q m.entries

pub inserted : (m n : BTreeMap ℤ ℕ) (k : ℤ) (v : ℕ) → ((q : ℤ) → tree.get int_cmp n q ≡ cond (is_eq (int_cmp k q)) (Some v) (tree.get int_cmp m q))
    → from_entries {R = int_cmp} n.entries ≡ insert (from_entries m.entries) k v
inserted m n k v h = same_map int_cmp_total int_cmp-IsAntisymmetric _ _ (λ q.
    got n q ∙ h q
    ∙ ap (λ b. cond b (Some v) (tree.get int_cmp m q)) ((eq_by_cmp_equiv int_cmp_total).symm k q)
    ∙ ap (cond (eq_by_cmp int_cmp q k) (Some v)) (sym (got m q))
    ∙ sym (get-insert int_cmp_total (from_entries m.entries) k v q))

pub removed : (m n : BTreeMap ℤ ℕ) (k : ℤ) → ((q : ℤ) → tree.get int_cmp n q ≡ cond (is_eq (int_cmp k q)) None (tree.get int_cmp m q))
    → from_entries {R = int_cmp} n.entries ≡ remove (from_entries m.entries) k
removed m n k h = same_map int_cmp_total int_cmp-IsAntisymmetric _ _ (λ q.
    got n q ∙ h q
    ∙ ap (λ b. cond b None (tree.get int_cmp m q)) ((eq_by_cmp_equiv int_cmp_total).symm k q)
    ∙ ap (cond (eq_by_cmp int_cmp q k) None) (sym (got m q))
    ∙ sym (get-remove int_cmp_total (from_entries m.entries) k q))

some_is : (o : Option ℕ) → is_some o ≡ true → (n : ℕ) × (o ≡ Some n)
some_is None e = absurd (true≢false (sym e))
some_is (Some n) e = (n, refl)

none_is : (o : Option ℕ) → is_some o ≡ false → o ≡ None
none_is None e = refl
none_is (Some n) e = absurd (true≢false e)

abbrev view : BTreeMap ℤ ℕ → List Pair → Gathered
view m ps = record { waiting = from_entries m.entries; pairs = ps }

waits_as : (m : BTreeMap ℤ ℕ) (ps : List Pair) (g : Gathered) → view m ps ≡ g → (task : ℤ) → get g.waiting task ≡ tree.get int_cmp m task
waits_as m ps g is task = ap (λ (z : Gathered). get z.waiting task) (sym is) ∙ got m task

abbrev Sets : BTreeMap ℤ ℕ → BTreeMap ℤ ℕ → ℤ → Option ℕ → Type 0
Sets m n k w = (q : ℤ) → tree.get int_cmp n q ≡ cond (is_eq (int_cmp k q)) w (tree.get int_cmp m q)

pub woken_again : (m : BTreeMap ℤ ℕ) (ps : List Pair) (g : Gathered) → view m ps ≡ g → (wake : Wake) → is_some (tree.get int_cmp m wake.task) ≡ true
    → g ≡ and_woken (get g.waiting wake.task) g wake
woken_again m ps g is wake t =
    let s = some_is (tree.get int_cmp m wake.task) t in
    sym (ap (λ o. and_woken o g wake) (waits_as m ps g is wake.task ∙ s.1))

pub woken_first : (m n : BTreeMap ℤ ℕ) (ps : List Pair) (g : Gathered) → view m ps ≡ g → (wake : Wake) → is_some (tree.get int_cmp m wake.task) ≡ false
    → Sets m n wake.task (Some wake.time) → view n ps ≡ and_woken (get g.waiting wake.task) g wake
woken_first m n ps g is wake t u =
    (λ i. record { waiting = inserted m n wake.task wake.time u i; pairs = ps })
    ∙ ap (λ (z : Gathered). and_woken None z wake) is
    ∙ sym (ap (λ o. and_woken o g wake) (waits_as m ps g is wake.task ∙ none_is (tree.get int_cmp m wake.task) t))

pub switched_none : (m : BTreeMap ℤ ℕ) (ps : List Pair) (g : Gathered) → view m ps ≡ g → (switch : Switch) → tree.get int_cmp m switch.task ≡ None
    → g ≡ and_switched (get g.waiting switch.task) g switch
switched_none m ps g is switch e = sym (ap (λ o. and_switched o g switch) (waits_as m ps g is switch.task ∙ e))

pub switched_some : (m n : BTreeMap ℤ ℕ) (ps qs : List Pair) (g : Gathered) → view m ps ≡ g → (switch : Switch) (woken : ℕ) → tree.get int_cmp m switch.task ≡ Some woken
    → Sets m n switch.task None → qs ≡ ps ++ pair_of woken switch ∷ [] → view n qs ≡ and_switched (get g.waiting switch.task) g switch
switched_some m n ps qs g is switch woken e u p =
    (λ i. record { waiting = removed m n switch.task u i; pairs = p i })
    ∙ ap (λ (z : Gathered). and_switched (Some woken) z switch) is
    ∙ sym (ap (λ o. and_switched o g switch) (waits_as m ps g is switch.task ∙ e))
