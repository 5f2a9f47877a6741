-- Lists on their way to the start.
use Rattle.std.proofs.Common.{◌≡◌, ℕ, ◌+◌, ◌<◌, ◌≤◌, List, [], ◌∷◌, length, get_or, set, map, Option, refl, sym, ap, ◌∙◌, arith}
use Rattle.std.specs.List.{All}
use Rattle.subpage.specs.Arrangement.{Keyed}
use Rattle.event_cursor.specs.Standing.{Stands}
use Rattle.word_values.specs.declared.moment.Moment.{Moment}
use Rattle.split_passes.specs.ListSeen.{ListSeen}
use Rattle.split_passes.specs.Starting.{ListStarted}
use Rattle.split_pieces.specs.Cuts.{is_apart}
use Rattle.split_pieces.specs.Pieces.{from_start}
use Rattle.split_pieces.specs.declared.rules.Rules.{Rules}
use Rattle.split_tool.specs.Going.{ListGoes}
use Rattle.split_tool.specs.Lists.{AreGroups, EachList, come_of, lanes_of}
use Rattle.split_tool.specs.Started.{Started}
use Rattle.split_tool.proofs.Gone.{first_more, stands_there}
use Rattle.split_tool.proofs.Flat.{all_flat, each_tail, groups_are, groups_stay, rows_in}

abbrev pub StartsOn : List ℕ → Option Moment → ListSeen → ListSeen → Type 0
StartsOn file start x y = ListStarted file start x.all y.all

each_come : (file : List ℕ) (start : Option Moment) (first now : List ListSeen) → length now ≡ length first → EachList (StartsOn file start) first now
    → map come_of (map (rows_in file) now) ≡ map (λ rows. from_start start (come_of rows)) (map (rows_in file) first)
each_come file start [] [] long each = refl
each_come file start [] (b ∷ now) long each = absurd (omega (arith, long))
each_come file start (a ∷ first) [] long each = absurd (omega (arith, long))
each_come file start (a ∷ first) (b ∷ now) long each =
    ap (λ (xs : List Keyed). xs ∷ map come_of (map (rows_in file) now)) (each 0 a (omega arith)).come
    ∙ ap (λ (xss : List (List Keyed)). from_start start (come_of (rows_in file a)) ∷ xss) (each_come file start first now (omega (arith, long)) (each_tail (StartsOn file start) a b first now each))

pub all_started : (file : List ℕ) (rules : Rules) (n : ℕ) (first now : List ListSeen) → AreGroups (is_apart rules) first → length now ≡ length first → EachList ListGoes first now → length first ≤ n
    → ((j : ℕ) (d : ListSeen) → j < n → StartsOn file rules.start (get_or first j d) (get_or now j d)) → Started file rules (lanes_of first) (lanes_of now)
all_started file rules n first now g long goes enough s =
    let each : EachList (StartsOn file rules.start) first now = λ j d lt. s j d (omega (arith, lt, enough)) in
    record {
      stands = all_flat (Stands file) now (λ j d lt. (each j d (omega (arith, lt, long))).stands);
      come = ap (map come_of) (groups_are file (is_apart rules) now (groups_stay (is_apart rules) first now long goes g))
          ∙ each_come file rules.start first now long each
          ∙ ap (map (λ rows. from_start rules.start (come_of rows))) (sym (groups_are file (is_apart rules) first g));
    }

pub started_more : (file : List ℕ) (start : Option Moment) (n : ℕ) (first now : List ListSeen) (d new : ListSeen) → n < length now → length now ≡ length first → ((j : ℕ) (e : ListSeen) → n ≤ j → get_or now j e ≡ get_or first j e)
    → All (Stands file) (lanes_of first)
    → (All (Stands file) (get_or now n d).all → ListStarted file start (get_or now n d).all new.all)
    → ((j : ℕ) (e : ListSeen) → j < n → StartsOn file start (get_or first j e) (get_or now j e)) → (j : ℕ) (e : ListSeen) → j < n + 1 → StartsOn file start (get_or first j e) (get_or (set now n new) j e)
started_more file start n first now d new lt long others stands one each =
    first_more (StartsOn file start) n first now d new lt others
    (one (stands_there file n first now d lt long others stands)) each
