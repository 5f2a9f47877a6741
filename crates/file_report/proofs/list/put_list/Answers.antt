use Rattle.file_report.proofs.list.put_list.Goals as goal

pub returns-in-Names : goal.returns-in-Names
returns-in-Names g c = rw c.in-Names.is record { puts = c.put_event_names.ensures.puts; name = c.put_event_names.ensures.name; cause = c.put_event_names.ensures.cause }

pub returns-in-Formats : goal.returns-in-Formats
returns-in-Formats g c = rw c.in-Formats.is record { puts = c.put_event_formats.ensures.puts; name = c.put_event_formats.ensures.name; cause = c.put_event_formats.ensures.cause }

pub returns-in-Symbols : goal.returns-in-Symbols
returns-in-Symbols g c = rw c.in-Symbols.is record { puts = c.put_symbols.ensures.puts; name = c.put_symbols.ensures.name; cause = c.put_symbols.ensures.cause }

pub returns-in-Printk : goal.returns-in-Printk
returns-in-Printk g c = rw c.in-Printk.is record { puts = c.put_printk_formats.ensures.puts; name = c.put_printk_formats.ensures.name; cause = c.put_printk_formats.ensures.cause }
