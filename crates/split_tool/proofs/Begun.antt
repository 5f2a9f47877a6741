-- Lists that are made ready, one after another.
use Rattle.std.proofs.Common.{◌≡◌, ℕ, ◌<◌, ◌≤◌, List, [], ◌∷◌, ◌++◌, length, get_or, refl, sym, ap, subst, ◌∙◌, arith, Option, None, Some}
use Rattle.std.specs.Option.{IfSome}
use Rattle.std.specs.List.{All}
use Rattle.std.proofs.lemmas.List.{map-append}
use Rattle.trace_outside.specs.declared.outside.File as file
use Rattle.subpage.specs.Arrangement.{Keyed}
use Rattle.page_pool.specs.declared.lane.Lane.{Lane}
use Rattle.event_cursor.specs.Standing.{Stands}
use Rattle.time_merge.specs.Loading.{LoadsLanes}
use Rattle.time_merge.specs.LaneRows.{row_of, rows_of}
use Rattle.time_merge.specs.Rows.{Row}
use Rattle.split_passes.specs.Begun.{IsBegun}
use Rattle.split_passes.specs.ListSeen.{ListSeen}
use Rattle.split_passes.specs.Through.{GoThrough}
use Rattle.split_tool.specs.Going.{ListBegun, StaysToCome}
use Rattle.split_tool.specs.Lists.{EachList, lanes_of}
use Rattle.split_tool.proofs.Flat.{all_flat, each_tail, flat_all}

abbrev pub StaysOn : List ℕ → ListSeen → ListSeen → Type 0
StaysOn file x y = StaysToCome file x.all y.all

-- lanes that were loaded went through items, though through none
pub loaded_through : {F : Type 0} {f : file.Ghosts F} (a b : F) (before now : List Lane) → LoadsLanes f a b before now → GoThrough f a b before now
loaded_through a b before now loads = record {
  parts = loads.parts;
  advance = loads.advance;
  reads = loads.reads;
  unread = loads.unread;
  keeps = loads.keeps;
}

pub list_begun : (x : ListSeen) → IsBegun x → length x.fronts ≡ length x.all → length x.tallies ≡ length x.all → ListBegun x
list_begun x begun fronts tallies = record { begun = begun; fronts_long = fronts; tallies_long = tallies }

pub stays_here : (told now_told : Option (List ℕ)) (x y : List Lane) → now_told ≡ told → IfSome now_told (λ file. rows_of file y ≡ rows_of file x)
    → IfSome now_told (λ file. All (Stands file) x → All (Stands file) y) → IfSome told (λ file. StaysToCome file x y)
stays_here None now_told x y same rows stands = tt
stays_here (Some file) now_told x y same rows stands =
    let rows_here = subst (λ (o : Option (List ℕ)). IfSome o (λ file. rows_of file y ≡ rows_of file x)) same rows in
    let stands_here = subst (λ (o : Option (List ℕ)). IfSome o (λ file. All (Stands file) x → All (Stands file) y)) same stands in
    record { rows = rows_here; stands = stands_here }

rows_flat : (file : List ℕ) (first now : List ListSeen) → length now ≡ length first → EachList (StaysOn file) first now → rows_of file (lanes_of now) ≡ rows_of file (lanes_of first)
rows_flat file [] [] long each = refl
rows_flat file [] (b ∷ now) long each = absurd (omega (arith, long))
rows_flat file (a ∷ first) [] long each = absurd (omega (arith, long))
rows_flat file (a ∷ first) (b ∷ now) long each =
    map-append (row_of file) b.all (lanes_of now)
    ∙ ap (λ (rs : List (Row Keyed)). rs ++ rows_of file (lanes_of now)) (each 0 a (omega arith)).rows
    ∙ ap (λ (rs : List (Row Keyed)). rows_of file a.all ++ rs) (rows_flat file first now (omega (arith, long)) (each_tail (StaysOn file) a b first now each))
    ∙ sym (map-append (row_of file) a.all (lanes_of first))

pub all_stay : (file : List ℕ) (n : ℕ) (first now : List ListSeen) → length now ≡ length first → length first ≤ n → ((j : ℕ) (d : ListSeen) → j < n → StaysOn file (get_or first j d) (get_or now j d))
    → StaysToCome file (lanes_of first) (lanes_of now)
all_stay file n first now long enough s =
    let each : EachList (StaysOn file) first now = λ j d lt. s j d (omega (arith, lt, enough)) in
    record {
      rows = rows_flat file first now long each;
      stands = λ stands. all_flat (Stands file) now (λ j d lt. let inside : j < length first = omega (arith, lt, long) in (each j d inside).stands (flat_all (Stands file) first stands j d inside));
    }
