-- A packing goes on.
use Rattle.std.proofs.Common.{◌≡◌, ◌≢◌, true, false, List, [], ◌∷◌, ◌++◌, refl, sym, ap, subst, ◌∙◌, append_assoc, append-nil}
use Rattle.trace_base.specs.declared.layout.Layout.{Layout}
use Rattle.subpage.specs.ItemData.{ItemData}
use Rattle.page_write.specs.PageBytes.{one_page}
use Rattle.page_write.specs.Pack.{packed, packed_behind}
use Rattle.page_write.specs.SoFar.{open_page, packed_on, IsSoFar}
use Rattle.page_write.proofs.Packing.{front_one}

pub nothing_so_far : (layout : Layout) → IsSoFar layout [] [] []
unfolding packed_on
nothing_so_far layout = record { goes_on = λ ys. refl }

on_added : (layout : Layout) (held : List ItemData) (x : ItemData) (ys : List ItemData) → one_page layout (held ++ x ∷ []) ≡ true → packed_on layout held (x ∷ ys) ≡ packed_on layout (held ++ x ∷ []) ys
unfolding packed_on packed packed_behind
on_added layout [] x ys one = refl
on_added layout (h ∷ hs) x ys one = rw one refl

on_full : (layout : Layout) (held : List ItemData) (x : ItemData) (ys : List ItemData) → one_page layout (x ∷ []) ≡ true → one_page layout (held ++ x ∷ []) ≡ false → packed_on layout held (x ∷ ys) ≡ held ∷ packed_on layout (x ∷ []) ys
unfolding packed_on packed packed_behind
on_full layout [] x ys alone full = let never : true ≡ false = sym alone ∙ full in absurd cc
on_full layout (h ∷ hs) x ys alone full = rw full refl

on_end : (layout : Layout) (held : List ItemData) → packed_on layout held [] ≡ open_page held
unfolding packed_on packed packed_behind
on_end layout [] = refl
on_end layout (h ∷ hs) = refl

pub added_so_far : (layout : Layout) (xs : List ItemData) (closed : List (List ItemData)) (held : List ItemData) (x : ItemData) → IsSoFar layout xs closed held → one_page layout (held ++ x ∷ []) ≡ true → IsSoFar layout (xs ++ x ∷ []) closed (held ++ x ∷ [])
added_so_far layout xs closed held x far one = record {
  goes_on = λ ys. ap (packed layout) (append_assoc xs (x ∷ []) ys) ∙ far.goes_on (x ∷ ys) ∙ ap (λ (ps : List (List ItemData)). closed ++ ps) (on_added layout held x ys one);
}

pub full_so_far : (layout : Layout) (xs : List ItemData) (closed : List (List ItemData)) (held : List ItemData) (x : ItemData) → IsSoFar layout xs closed held → one_page layout (x ∷ []) ≡ true → one_page layout (held ++ x ∷ []) ≡ false → IsSoFar layout (xs ++ x ∷ []) (closed ++ held ∷ []) (x ∷ [])
full_so_far layout xs closed held x far alone full = record {
  goes_on = λ ys. ap (packed layout) (append_assoc xs (x ∷ []) ys) ∙ far.goes_on (x ∷ ys) ∙ ap (λ (ps : List (List ItemData)). closed ++ ps) (on_full layout held x ys alone full)
      ∙ sym (append_assoc closed (held ∷ []) (packed_on layout (x ∷ []) ys));
}

-- where a further item opens a sub-buffer, the held ones are one of the packing's
pub full_goes_on : (layout : Layout) (xs : List ItemData) (closed : List (List ItemData)) (held : List ItemData) (x : ItemData) (ys : List ItemData) → IsSoFar layout xs closed held → one_page layout (x ∷ []) ≡ true → one_page layout (held ++ x ∷ []) ≡ false
    → packed layout (xs ++ x ∷ ys) ≡ closed ++ held ∷ packed_on layout (x ∷ []) ys
full_goes_on layout xs closed held x ys far alone full = far.goes_on (x ∷ ys) ∙ ap (λ (ps : List (List ItemData)). closed ++ ps) (on_full layout held x ys alone full)

pub ends_so_far : (layout : Layout) (xs : List ItemData) (closed : List (List ItemData)) (held : List ItemData) → IsSoFar layout xs closed held → packed layout xs ≡ closed ++ open_page held
ends_so_far layout xs closed held far =
    ap (packed layout) (sym (append-nil xs)) ∙ far.goes_on [] ∙ ap (λ (ps : List (List ItemData)). closed ++ ps) (on_end layout held)

pub not_empty_after : (held : List ItemData) (x : ItemData) → held ++ x ∷ [] ≢ []
not_empty_after [] x e = absurd cc
not_empty_after (h ∷ hs) x e = absurd cc

-- items that one sub-buffer can tell besides go into the open one
pub all_added_so_far : (layout : Layout) (xs : List ItemData) (closed : List (List ItemData)) (held ys : List ItemData) → IsSoFar layout xs closed held → one_page layout (held ++ ys) ≡ true → IsSoFar layout (xs ++ ys) closed (held ++ ys)
all_added_so_far layout xs closed held [] far one =
    subst (λ (h : List ItemData). IsSoFar layout (xs ++ []) closed h) (sym (append-nil held)) (subst (λ (zs : List ItemData). IsSoFar layout zs closed held) (sym (append-nil xs)) far)
all_added_so_far layout xs closed held (y ∷ ys) far one =
    let swap : (held ++ y ∷ []) ++ ys ≡ held ++ y ∷ ys = append_assoc held (y ∷ []) ys in
    let whole : one_page layout ((held ++ y ∷ []) ++ ys) ≡ true = subst (λ (h : List ItemData). one_page layout h ≡ true) (sym swap) one in
    let step = added_so_far layout xs closed held y far (front_one layout (held ++ y ∷ []) ys whole) in
    let all = all_added_so_far layout (xs ++ y ∷ []) closed (held ++ y ∷ []) ys step whole in
    subst (λ (h : List ItemData). IsSoFar layout (xs ++ y ∷ ys) closed h) swap
    (subst (λ (zs : List ItemData). IsSoFar layout zs closed ((held ++ y ∷ []) ++ ys)) (append_assoc xs (y ∷ []) ys) all)
