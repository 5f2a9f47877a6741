-- Lists that go through items, one list after another.
use Rattle.std.proofs.Common.{◌≡◌, ℕ, ◌+◌, ◌-◌, ◌<◌, ◌≤◌, List, length, get_or, set, sum_by, inl, inr, refl, sym, ap, subst, ◌∙◌, arith}
use Rattle.std.specs.List.{All}
use Rattle.std.proofs.lemmas.Bool.{cases_eq}
use Rattle.std.proofs.lemmas.Grind.{get_or-set_at}
use Rattle.std.proofs.lemmas.List.{get_or-set_other, get_or_default, length-set}
use Rattle.std.proofs.lemmas.List.Sums.{get_or-le-sum_by, sum_by-set}
use Rattle.trace_outside.specs.declared.outside.File as file
use Rattle.trace_outside.specs.Causes.{raised}
use Rattle.trace_outside.specs.Keeping.{KeepsFile}
use Rattle.trace_outside.proofs.Keeping.{file_kept, file_still}
use Rattle.page_pool.specs.declared.lane.Lane.{Lane}
use Rattle.event_cursor.specs.Standing.{Stands}
use Rattle.event_cursor.specs.Unread.{reading, unread}
use Rattle.time_merge.specs.Reads.{all_reading, all_unread}
use Rattle.time_merge.proofs.Advancing.{advances_not}
use Rattle.split_passes.specs.ListSeen.{ListSeen}
use Rattle.split_passes.specs.Through.{GoThrough}
use Rattle.split_tool.specs.Going.{ListGoes, ListsGo}
use Rattle.split_tool.specs.Lists.{EachList, lanes_of}
use Rattle.split_tool.proofs.Flat.{flat_all, sum_flat}

-- the first n lists went through items
pub record GoneTo {F : Type 0} (f : file.Ghosts F) (n : ℕ) (a b : F) (first now : List ListSeen) : Type 0 where
  pub long : length now ≡ length first
  pub each : EachList ListGoes first now
  pub others : (j : ℕ) (d : ListSeen) → n ≤ j → get_or now j d ≡ get_or first j d
  pub reads : f.reads b ≤ raised (f.reads a) (all_unread (f.size a) (lanes_of first) - all_unread (f.size a) (lanes_of now))
  pub unread : all_unread (f.size a) (lanes_of now) ≤ all_unread (f.size a) (lanes_of first)
  pub keeps : KeepsFile f a b

pub goes_not : (x : ListSeen) → ListGoes x x
goes_not x = record { layout = refl; parts = refl; advance = λ i d lt. advances_not (get_or x.all i d) }

pub gone_none : {F : Type 0} {f : file.Ghosts F} (a : F) (lists : List ListSeen) → GoneTo f 0 a a lists lists
gone_none a lists = record {
  long = refl;
  each = λ j d lt. goes_not (get_or lists j d);
  others = λ j d le. refl;
  reads = omega arith;
  unread = omega arith;
  keeps = file_still _ _;
}

pub gone_all : {F : Type 0} {f : file.Ghosts F} (n : ℕ) (a b : F) (first now : List ListSeen) → GoneTo f n a b first now → ListsGo f a b first now
gone_all n a b first now g = record { long = g.long; each = g.each; reads = omega (arith, g.reads); unread = g.unread; keeps = g.keeps }

-- one list more
module _ {F : Type 0} {f : file.Ghosts F} (n : ℕ) (a b c : F) (first now : List ListSeen) (d new : ListSeen) (lt : n < length now) (same : new.layout ≡ (get_or now n d).layout)
    (through : GoThrough f b c (get_or now n d).all new.all) (g : GoneTo f n a b first now) where
  goes : ListGoes (get_or now n d) new
  goes = record { layout = same; parts = through.parts; advance = through.advance }

  each_on : EachList ListGoes first (set now n new)
  each_on j e inside = elim (cases_eq j n) [
    | inl here ↦
        let old : get_or now n d ≡ get_or first j e = get_or_default now n d e lt ∙ g.others n e (omega arith) ∙ ap (λ (k : ℕ). get_or first k e) (sym here) in
        subst (ListGoes (get_or first j e)) (sym (get_or-set_at now n j new e here lt)) (subst (λ (x : ListSeen). ListGoes x new) old goes)
    | inr other ↦ subst (ListGoes (get_or first j e)) (sym (get_or-set_other now n j new e other)) (g.each j e inside)
  ]

  others_on : (j : ℕ) (e : ListSeen) → n + 1 ≤ j → get_or (set now n new) j e ≡ get_or first j e
  others_on j e le = get_or-set_other now n j new e (λ is. omega (arith, le, is)) ∙ g.others j e (omega (arith, le))

  module _ (h : Lane → ℕ) where
    sum_on : sum_by h (lanes_of (set now n new)) + sum_by h (get_or now n d).all ≡ sum_by h (lanes_of now) + sum_by h new.all
    sum_on = omega (arith, sum_flat h (set now n new), sum_flat h now, sum_by-set (λ (x : ListSeen). sum_by h x.all) now n new d lt)

    sum_less : sum_by h (get_or now n d).all ≤ sum_by h (lanes_of now)
    sum_less = omega (arith, sum_flat h now, get_or-le-sum_by (λ (x : ListSeen). sum_by h x.all) now n d lt)

  less : all_unread (f.size a) new.all ≤ all_unread (f.size a) (get_or now n d).all
  less = subst (λ (m : ℕ). all_unread m new.all ≤ all_unread m (get_or now n d).all) g.keeps.size through.unread

  unread_on : all_unread (f.size a) (lanes_of (set now n new)) ≤ all_unread (f.size a) (lanes_of first)
  unread_on = omega (arith, less, g.unread, sum_on (unread (f.size a)))

  pub gone_more : f.reads c ≤ raised (f.reads b) (all_unread (f.size b) (get_or now n d).all - all_unread (f.size b) new.all) → GoneTo f (n + 1) a c first (set now n new)
  gone_more done =
      let here = subst (λ (m : ℕ). f.reads c ≤ raised (f.reads b) (all_unread m (get_or now n d).all - all_unread m new.all)) g.keeps.size done in
      record {
        long = length-set now n new ∙ g.long;
        each = each_on;
        others = others_on;
        reads = omega (arith, here, less, g.reads, g.unread, sum_on (unread (f.size a)), sum_less (unread (f.size a)));
        unread = unread_on;
        keeps = file_kept g.keeps through.keeps;
      }

  pub gone_stops : ListsGo f a c first (set now n new)
  gone_stops =
      let here = subst (λ (m : ℕ). f.reads c ≤ raised (f.reads b) (all_unread m (get_or now n d).all - all_unread m new.all + all_reading m new.all)) g.keeps.size through.reads in
      record {
        long = length-set now n new ∙ g.long;
        each = each_on;
        reads = omega (
          arith,
          here,
          less,
          g.reads,
          g.unread,
          sum_on (unread (f.size a)),
          sum_less (unread (f.size a)),
          sum_on (reading (f.size a)),
          sum_less (reading (f.size a)),
        );
        unread = unread_on;
        keeps = file_kept g.keeps through.keeps;
      }

-- what was said of the first lists, and of the one at hand, is said of one more
pub first_more : (P : ListSeen → ListSeen → Type 0) (n : ℕ) (first now : List ListSeen) (d new : ListSeen) → n < length now → ((j : ℕ) (e : ListSeen) → n ≤ j → get_or now j e ≡ get_or first j e)
    → P (get_or now n d) new → ((j : ℕ) (e : ListSeen) → j < n → P (get_or first j e) (get_or now j e)) → (j : ℕ) (e : ListSeen) → j < n + 1 → P (get_or first j e) (get_or (set now n new) j e)
first_more P n first now d new lt others one each j e inside = elim (cases_eq j n) [
  | inl here ↦
      let old : get_or now n d ≡ get_or first j e = get_or_default now n d e lt ∙ others n e (omega arith) ∙ ap (λ (k : ℕ). get_or first k e) (sym here) in
      subst (P (get_or first j e)) (sym (get_or-set_at now n j new e here lt)) (subst (λ (x : ListSeen). P x new) old one)
  | inr other ↦ subst (P (get_or first j e)) (sym (get_or-set_other now n j new e other)) (each j e (omega (arith, inside, other)))
]

-- the list at hand stands as at first
pub stands_there : (bytes : List ℕ) (n : ℕ) (first now : List ListSeen) (d : ListSeen) → n < length now → length now ≡ length first → ((j : ℕ) (e : ListSeen) → n ≤ j → get_or now j e ≡ get_or first j e)
    → All (Stands bytes) (lanes_of first) → All (Stands bytes) (get_or now n d).all
stands_there bytes n first now d lt long others stands =
    let inside : n < length first = omega (arith, lt, long) in
    subst (λ (x : ListSeen). All (Stands bytes) x.all) (sym (others n d (omega arith))) (flat_all (Stands bytes) first stands n d inside)

pub go_not : {F : Type 0} {f : file.Ghosts F} (a : F) (lists : List ListSeen) → ListsGo f a a lists lists
go_not a lists = gone_all 0 a a lists lists (gone_none a lists)
