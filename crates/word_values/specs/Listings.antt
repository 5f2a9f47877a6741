-- The lists that a report prints in place of its events.
-- Source: trace-cmd-report(1), `OPTIONS`.
use Rattle.std.specs.Prelude.{List, [], ◌∷◌}
use Rattle.word_values.specs.declared.listing.Listing.{Listing}
use Rattle.word_values.specs.declared.listing.Listing.TheVariants.{Names, Formats, Symbols, Printk}

-- all of them
abbrev pub listings : List Listing
listings = Names ∷ Formats ∷ Symbols ∷ Printk ∷ []
