-- Options and tables are read as they are spelled.
use Rattle.std.proofs.Common.{◌≡◌, ℕ, ◌+◌, ◌≤◌, List, ◌++◌, length, take, drop, sym, ap, ◌∙◌, arith}
use Rattle.std.proofs.lemmas.List.{length-take, take-append-drop}
use Rattle.std.specs.List.{All}
use Rattle.trace_base.specs.declared.order.Order.{Order}
use Rattle.trace_base.specs.declared.part.Part.{Part}
use Rattle.dat_options.specs.Place.{StandsAt}
use Rattle.dat_options.specs.Options.{IsOption, options_text, options_from}
use Rattle.dat_options.specs.Table.{table_text, table_from}
use Rattle.dat_options.proofs.Places.{stands_inside, stands_behind}
use Rattle.dat_options.proofs.OptionsLaws.{options_has}
use Rattle.dat_options.proofs.TableLaws.{table_has, length-table_text}
use Rattle.dat_options.proofs.Computed.{computes_options, options_fault, computes_table, table_fault}
use Rattle.dat_header.proofs.Grammar.{Reads, Stands, found_value, behind}
use Rattle.dat_header.proofs.Texts.{EndsEarly}

-- a text at a place, by the bytes from there on
stands_here : (file text rest : List ℕ) (at : ℕ) → at ≤ length file → drop at file ≡ text ++ rest → StandsAt text at file
stands_here file text rest at within here = record {
  front = take at file;
  back = rest;
  whole = sym (take-append-drop at file) ∙ ap (λ back. take at file ++ back) here;
  place = omega (arith, within, length-take at file);
}

stands_there : {V : Type 0} (spell : V → List ℕ) (allowed : V → Type 0) (file : List ℕ) (at end : ℕ) (value : V) → allowed value → StandsAt (spell value) at file → end ≡ at + length (spell value)
    → Stands spell allowed file at value end
stands_there spell allowed file at end value is stands place =
    let here = stands_behind (spell value) at file stands in
    record {
      is = is;
      here = here ∙ ap (λ back. spell value ++ back) (sym (behind file (spell value) stands.back at here) ∙ ap (λ (n : ℕ). drop n file) (sym place));
      place = place;
      inside = omega (arith, place, stands_inside (spell value) at file stands);
    }

pub reads_options : (order : Order) → Reads (options_text order) (All IsOption) (λ file at. options_from order at file)
reads_options order = record {
  again = λ file at options rest within are here. options_has order options at file (record { allowed = are; stands = stands_here file (options_text order options) rest at within here });
  sound = λ file at options end bytes within e.
      let has = (computes_options order options at end file bytes).0 e in
      stands_there (options_text order) (All IsOption) file at end options has.0.allowed has.0.stands has.1;
}

pub options_end : (order : Order) → EndsEarly (λ file at. options_from order at file)
options_end order file at fault bytes within e = options_fault order at fault file e

abbrev AreParts : ℕ → List Part → Type 0
AreParts cpus parts = length parts ≡ cpus

pub reads_table : (order : Order) (cpus : ℕ) → Reads (table_text order) (λ parts. length parts ≡ cpus) (λ file at. table_from order cpus at file)
reads_table order cpus = record {
  again = λ file at parts rest within are here.
      table_has order cpus parts at file (record { count = are; stands = stands_here file (table_text order parts) rest at within here })
      ∙ ap (λ (n : ℕ). found_value parts n) (omega (arith, are, length-table_text order parts));
  sound = λ file at parts end bytes within e.
      let has = (computes_table order cpus parts at end file bytes).0 e in
      stands_there (table_text order) (AreParts cpus) file at end parts has.0.count has.0.stands (omega (arith, has.1, has.0.count, length-table_text order parts));
}

pub table_end : (order : Order) (cpus : ℕ) → EndsEarly (λ file at. table_from order cpus at file)
table_end order cpus file at fault bytes within e = table_fault order cpus at fault file e
