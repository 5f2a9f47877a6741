use Rattle.std.proofs.Common.{rules, refl, arith, ◌≡◌, true, ap, ◌∙◌, ℕ, List, Option, subst}
use Rattle.std.specs.Option.{option_map, IfSome}
use Rattle.trace_outside.proofs.Gains.{on_err}
use Rattle.subpage.specs.declared.mark.Mark.{Mark}
use Rattle.subpage.specs.Marks.{items_from}
use Rattle.subpage.specs.Processor.{is_there, page_bytes}
use Rattle.page_pool.specs.InOrder.{TellsAhead}
use Rattle.event_cursor.proofs.Told.{told_all, told_map}
use Rattle.event_cursor.proofs.Leaving.{stays, one_loaded, at_malformed, some_ahead}
use Rattle.event_cursor.proofs.UnreadLaws.{one_less, one_less_fresh, one_open}
use Rattle.event_cursor.proofs.loading.load_next.Goals as goal

pub returns-in_err-found-clause-left : goal.returns-in_err-found-clause-left
returns-in_err-found-clause-left g c =
    told_all _ (g.F.File.bytes c.args.file.now) (λ file. stays file c.args.lane.now _ (search rules) (search rules) refl refl refl)

pub returns-in_err-found-clause-asked : goal.returns-in_err-found-clause-asked
returns-in_err-found-clause-asked g c = on_err c.from_residual.result record {
  less = omega arith;
  asked = one_open c.args.lane.now.layout (g.F.File.size c.args.file.now) c.args.lane.now.part c.args.lane.now.cursor.state c.args.lane.now.cursor.next c.requires.fresh (search rules);
}

pub returns-in_default-clause-comes : goal.returns-in_default-clause-comes
returns-in_default-clause-comes g c =
    let less = one_less c.args.lane.now.layout (g.F.File.size c.args.file.now) c.args.lane.now.part c.args.lane.now.cursor.state c.args.lane.now.cursor.next c.requires.fresh (search rules) in
    ((refl, refl), record { less = omega (arith, less); asked = omega (arith, less) })

pub returns-in_default-clause-left : goal.returns-in_default-clause-left
returns-in_default-clause-left g c =
    told_all _ (g.F.File.bytes c.args.file.now) (λ file. stays file c.args.lane.now _ (search rules) refl refl refl refl)

pub returns-in_default-clause-answer : goal.returns-in_default-clause-answer
returns-in_default-clause-answer g c =
    let l = c.args.lane.now.layout in
    told_map _ _ (g.F.File.bytes c.args.file.now) (λ file told. at_malformed file _ l c.args.lane.now.part c.args.lane.now.cursor.next refl refl refl refl (search rules)
    (told ∙ ap (λ (o : Option Mark). option_map (λ mark. items_from l c.fetch.new.page mark) o) c.in_default.is)) c.in_ok-found.ensures.told

pub returns-then-is_none-clause-comes : goal.returns-then-is_none-clause-comes
returns-then-is_none-clause-comes g c = record {
  fresh = c.requires.fresh;
  next = refl;
  read = one_less_fresh c.args.lane.now.layout (g.F.File.size c.args.file.now) c.args.lane.now.part c.args.lane.now.cursor.state c.args.lane.now.cursor.next c.requires.fresh (search rules);
}

pub returns-then-is_none-clause-left : goal.returns-then-is_none-clause-left
returns-then-is_none-clause-left g c =
    let l = c.args.lane.now.layout in
    told_map _ _ (g.F.File.bytes c.args.file.now) (λ file told. one_loaded file c.args.lane.now _ c.args.lane.now.cursor.next (items_from l c.fetch.new.page c.in-Some.mark) (search rules) refl (search rules)
    (told ∙ ap (λ (o : Option Mark). option_map (λ mark. items_from l c.fetch.new.page mark) o) c.in-Some.is) (search rules) refl refl refl) c.in_ok-found.ensures.told

pub returns-clause-comes : goal.returns-clause-comes
returns-clause-comes g c =
    let l = c.args.lane.now.layout in
    let less = one_less l (g.F.File.size c.args.file.now) c.args.lane.now.part c.args.lane.now.cursor.state c.args.lane.now.cursor.next c.requires.fresh (search rules) in (
      (
        refl,
        some_ahead l c.fetch.new.page c.in-Some.mark c.args.lane.now.cursor.high c.ahead_at-ahead.result
            (subst (λ (p : List ℕ). TellsAhead l p c.in-Some.mark c.args.lane.now.cursor.high c.ahead_at-ahead.result) c.bytes.ensures c.ahead_at-ahead.ensures) (search rules),
      ),
      record { less = omega (arith, less); asked = omega (arith, less) },
    )

pub returns-clause-left : goal.returns-clause-left
returns-clause-left g c =
    let l = c.args.lane.now.layout in
    told_map _ _ (g.F.File.bytes c.args.file.now) (λ file told. one_loaded file c.args.lane.now _ c.args.lane.now.cursor.next (items_from l c.fetch.new.page c.in-Some.mark) (search rules) refl (search rules)
    (told ∙ ap (λ (o : Option Mark). option_map (λ mark. items_from l c.fetch.new.page mark) o) c.in-Some.is) refl refl refl refl) c.in_ok-found.ensures.told

pub returns-clause-own : goal.returns-clause-own
returns-clause-own g c =
    let l = c.args.lane.now.layout in
    told_map _ _ (g.F.File.bytes c.args.file.now) (λ file own e.
    let own = subst (λ (o : Option Mark). IfSome o (λ mark. (is_there c.args.lane.now.layout file c.args.lane.now.part c.args.lane.now.cursor.next ≡ true) × (c.fetch.new.page ≡ page_bytes c.args.lane.now.layout file c.args.lane.now.part c.args.lane.now.cursor.next))) c.in-Some.is own in
    record { there = own.0; page = own.1 }) c.in_ok-found.ensures.own
