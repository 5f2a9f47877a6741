-- The lists of a header's formats and names that a report prints in place of the events.
-- Source: trace-cmd-report(1), `-E`, `--events`, `-f`, `-P`.
use Rattle.std.specs.Prelude.{ℕ, List}
use Rattle.report_lists.specs.Lists.{names_list, formats_list, symbols_list, printk_list}
use Rattle.format_parse.specs.declared.format.EventFormat.{EventFormat}
use Rattle.symbols.specs.Maps.{Maps}
use Rattle.word_values.specs.declared.listing.Listing.{Listing}
use Rattle.word_values.specs.declared.listing.Listing.TheVariants.{Names, Formats, Symbols, Printk}

abbrev pub list_text : List EventFormat → Maps → Listing → List ℕ
list_text formats symbols Names = names_list formats
list_text formats symbols Formats = formats_list formats
list_text formats symbols Symbols = symbols_list symbols.symbols
list_text formats symbols Printk = printk_list symbols.printk
