-- The items that a header begins with, whether the file has all of it or stops after its texts.
-- Source: trace-cmd.dat.v6(5).
use Rattle.std.specs.Prelude.{ℕ, List, drop, Result, Ok}
use Rattle.trace_base.specs.declared.order.Order.{Order}
use Rattle.trace_base.specs.declared.order.Order.TheVariants.{Little}
use Rattle.dat_options.specs.declared.fault.OpenFault.{OpenFault}
use Rattle.dat_options.specs.declared.fault.OpenFault.TheVariants.{NotTrace, BadEndian, BadLong, BadPageSize, BadHeaderPage, BadSection}
use Rattle.dat_header.specs.declared.pieces.Machine.{Machine}
use Rattle.dat_header.specs.declared.pieces.PageText.{PageText}
use Rattle.dat_header.specs.declared.pieces.Opening.{Opening}
use Rattle.dat_header.specs.declared.pieces.Described.{Described}
use Rattle.dat_header.specs.PageText.{layout_of}
use Rattle.dat_header.specs.Items.{magic_word, version_word, page_word, event_word}
use Rattle.dat_header.specs.Refusal.{version_fault}
use Rattle.dat_header.specs.Found.{Found, ◌>>=◌, or_wrong}
use Rattle.dat_header.specs.ItemsAt.{word_at, bytes_at, number_at, value_at, text_at, formats_at, systems_at, order_of, long_of, page_of}

-- the word of version 6
unfoldable pub version_at : List ℕ → ℕ → Result ℕ OpenFault
version_at file at = word_at version_word (version_fault at (drop at file)) file at

-- the byte order, the user's long and the page size
unfoldable pub machine_at : List ℕ → ℕ → Found Machine
machine_at file at = do
  (order, at_long) ← value_at 1 Little order_of (BadEndian at) file at
  (long, at_page) ← value_at 1 Little long_of (BadLong at_long) file at_long
  (page, after) ← value_at 4 order page_of (BadPageSize at_page) file at_page
  Ok (record { order = order; long = long; page = page }, after)

-- the header_page text and the layout that it gives
unfoldable pub page_text_at : Machine → List ℕ → ℕ → Found PageText
page_text_at machine file at = do
  (size, at_text) ← number_at 8 machine.order file at
  (text, after) ← bytes_at size file at_text
  layout ← or_wrong (BadHeaderPage at_text) (layout_of machine.order machine.long machine.page text)
  Ok (record { text = text; layout = layout }, after)

-- up to the word in front of the texts that are carried unread
unfoldable pub opening_at : List ℕ → ℕ → Found Opening
opening_at file at = do
  at_version ← word_at magic_word (NotTrace at) file at
  at_order ← version_at file at_version
  (machine, after) ← machine_at file at_order
  at_page ← word_at page_word (BadSection after) file after
  (page, after) ← page_text_at machine file at_page
  at_event ← word_at event_word (BadSection after) file after
  Ok (record { machine = machine; page = page }, at_event)

-- the texts that are carried unread, up to the command lines
unfoldable pub described_at : Order → List ℕ → ℕ → Found Described
described_at order file at = do
  (event_text, after) ← text_at 8 order file at
  (ftrace, after) ← formats_at order file after
  (systems, after) ← systems_at order file after
  (kallsyms, after) ← text_at 4 order file after
  (printk, after) ← text_at 4 order file after
  Ok (record { event_text = event_text; ftrace = ftrace; systems = systems; kallsyms = kallsyms; printk = printk }, after)
