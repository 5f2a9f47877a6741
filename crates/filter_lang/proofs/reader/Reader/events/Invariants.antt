use Rattle.std.proofs.Common.{◌≡◌, ◌≤◌, ◌-◌, length, map}
use Rattle.filter_lang.specs.ReaderView.{from}
use Rattle.filter_lang.specs.FilterReading.{naming, names}
use Rattle.filter_lang.specs.FilterView.{name_of, closing_with}
use Rattle.filter_lang.proofs.reader.Reader.events.Given as goal

abbrev pub invariant-loop-next : goal.invariant-loop-next
invariant-loop-next l =
    (names (from l.self 0) naming ≡ closing_with (map name_of l.events.items) (from l.self l.next))
    × (l.next ≤ length l.self.tokens.now)

abbrev pub decreases-loop-next : goal.decreases-loop-next
decreases-loop-next l = length l.self.tokens.now - l.next
