use Rattle.std.specs.Prelude.{List, [], ◌∷◌, map, drop, option_map, Result, Ok, Err}
use Rattle.filter_lang.specs.PlainToken.{PlainToken, comma}
use Rattle.filter_lang.specs.TokenView.{plain_tokens}
use Rattle.filter_lang.specs.TreeView.{tree_of}
use Rattle.filter_lang.specs.Filter.{EventNameData, FilterData, named, filter}
use Rattle.filter_lang.specs.ReaderView.{from}
use Rattle.filter_lang.specs.ConditionReading.{Parsed, found, ◌>>=◌}
use Rattle.filter_lang.specs.FilterReading.{naming, names, with_events}
use Rattle.filter_lang.specs.Grammar.{IsFilter, RefusedBefore}
use Rattle.filter_lang.specs.declared.filter.EventName.{EventName}
use Rattle.filter_lang.specs.declared.filter.Filter.{Filter}
use Rattle.filter_lang.specs.declared.taken.TakenEvent.{TakenEvent}
use Rattle.filter_lang.specs.declared.taken.TakenEvents.{TakenEvents}
use Rattle.filter_lang.specs.declared.reader.Reader.{Reader}
use Rattle.filter_lang.specs.declared.parse_fault.ParseFault.{ParseFault}
use Rattle.filter_lang.specs.declared.parse_fault.ParseFault.TheVariants.{Memory, Before}
use Rattle.filter_lang.specs.declared.token.Token.{Token}

abbrev pub name_of : EventName → EventNameData
name_of e = named e.first e.second

abbrev pub filter_of : Filter → FilterData
filter_of f = filter (map name_of f.events) (option_map tree_of f.cond)

-- events that were read, and what follows them: further ones after a comma
abbrev pub closing_with : List EventNameData → List PlainToken → Parsed (List EventNameData)
closing_with es (comma ∷ ts) = names ts naming >>= with_events es
closing_with es ts = found es ts

abbrev pub event_view : Reader → TakenEvent → Parsed (List EventNameData)
event_view r t = closing_with (name_of t.event ∷ []) (from r t.next)

abbrev pub events_view : Reader → TakenEvents → Parsed (List EventNameData)
events_view r t = found (map name_of t.events.items) (from r t.next)

abbrev pub filter_view : Reader → Filter → Parsed FilterData
filter_view r f = found (filter_of f) []

-- What was answered: a filter that the tokens are, or the place where they are refused.
abbrev pub Stands : List Token → ParseFault → Type 0
Stands ts Memory = Unit {0}
Stands ts (Before at) = RefusedBefore (plain_tokens ts) (drop at (plain_tokens ts))

abbrev pub Answers : List Token → Result Filter ParseFault → Type 0
Answers ts (Ok f) = IsFilter (plain_tokens ts) (filter_of f)
Answers ts (Err e) = Stands ts e
