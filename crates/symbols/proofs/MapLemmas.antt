-- The maps of three texts are the computed ones.
use Rattle.std.proofs.Common.{◌≡◌, List, ℕ, reverse, ap, ◌∙◌, subst}
use Rattle.text_lines.specs.Lines.{lines_of}
use Rattle.symbols.specs.declared.lines.Form.{Form}
use Rattle.symbols.specs.NameMap.{Pair, IsMapOf, map_of}
use Rattle.symbols.specs.Forms.{pairs_in}
use Rattle.symbols.specs.Maps.{Maps, AreMapsOf, maps_of, symbols_in, formats_in, tasks_in}
use Rattle.symbols.proofs.PairLemmas.{one_map}

pub map_here : (form : Form) (text : List ℕ) (found rows : List Pair) → found ≡ pairs_in form (lines_of text) → IsMapOf found rows → IsMapOf (pairs_in form (lines_of text)) rows
map_here form text found rows are is = subst (λ (l : List Pair). IsMapOf l rows) are is

pub map_behind : (found turned pairs rows : List Pair) → turned ≡ reverse found → found ≡ pairs → IsMapOf turned rows → IsMapOf (reverse pairs) rows
map_behind found turned pairs rows round are is = subst (λ (l : List Pair). IsMapOf l rows) (round ∙ ap reverse are) is

abbrev maps : List Pair → List Pair → List Pair → Maps
maps symbols printk tasks = record { symbols = symbols; printk = printk; tasks = tasks }

pub maps_are : (kallsyms printk cmdlines : List ℕ) (found : Maps) → AreMapsOf kallsyms printk cmdlines found → found ≡ maps_of kallsyms printk cmdlines
unfolding maps_of
maps_are kallsyms printk cmdlines found are =
    ap (λ (l : List Pair). maps l found.printk found.tasks) (one_map (symbols_in kallsyms) found.symbols are.symbols_are)
    ∙ ap (λ (l : List Pair). maps (map_of (symbols_in kallsyms)) l found.tasks) (one_map (formats_in printk) found.printk are.printk_are)
    ∙ ap (maps (map_of (symbols_in kallsyms)) (map_of (formats_in printk))) (one_map (reverse (tasks_in cmdlines)) found.tasks are.tasks_are)
