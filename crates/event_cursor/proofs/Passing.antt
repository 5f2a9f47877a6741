-- Passing over items.
use Rattle.std.proofs.Common.{◌≡◌, ℕ, ◌+◌, ◌<◌, List, [], ◌∷◌, length, drop, refl, sym, ap, ◌∙◌, arith}
use Rattle.std.proofs.lemmas.List.{drop-drop, drop_at, length-drop, length-append}
use Rattle.trace_base.specs.declared.layout.Layout.{Layout}
use Rattle.subpage.specs.declared.mark.Mark.{Mark}
use Rattle.subpage.specs.ItemData.{ItemData}
use Rattle.subpage.specs.Marks.{IsMark, items_from}
use Rattle.subpage.specs.Run.{IsRunTo}
use Rattle.event_cursor.specs.Passing.{IsPassedBy}

pub none_passed : (l : Layout) (page : List ℕ) (mark : Mark) → IsMark l page mark → IsPassedBy l page mark mark 0
none_passed l page mark here = record { there = here; left = refl; enough = omega arith }

pub one_passed : (l : Layout) (page : List ℕ) (mark behind : Mark) (x : ItemData) → IsMark l page behind → items_from l page mark ≡ x ∷ items_from l page behind → IsPassedBy l page mark behind 1
one_passed l page mark behind x there first = record { there = there; left = sym (ap (drop 1) first); enough = omega (arith, ap length first) }

pub run_passed : (l : Layout) (page : List ℕ) (mark behind : Mark) (count : ℕ) → IsRunTo l page mark behind count → IsPassedBy l page mark behind count
run_passed l page mark behind count r = record {
  there = r.there;
  left = sym (ap (drop count) r.left ∙ drop_at r.items (items_from l page behind) count r.long);
  enough = omega (arith, ap length r.left, length-append r.items (items_from l page behind), r.long);
}

-- and more after them
pub passed_on : (l : Layout) (page : List ℕ) (mark middle behind : Mark) (count more : ℕ) → IsPassedBy l page mark middle count → IsPassedBy l page middle behind more → IsPassedBy l page mark behind (count + more)
passed_on l page mark middle behind count more a b = record {
  there = b.there;
  left = b.left ∙ ap (drop more) a.left ∙ drop-drop more count (items_from l page mark);
  enough = omega (arith, b.enough, a.enough, ap length a.left, length-drop count (items_from l page mark));
}

-- no more than these
pub all_passed : (l : Layout) (page : List ℕ) (mark behind : Mark) (count wanted : ℕ) → IsPassedBy l page mark behind count → items_from l page behind ≡ [] → count < wanted → length (items_from l page mark) < wanted
all_passed l page mark behind count wanted a none more =
    omega (arith, ap length (sym a.left ∙ none), length-drop count (items_from l page mark), more)
