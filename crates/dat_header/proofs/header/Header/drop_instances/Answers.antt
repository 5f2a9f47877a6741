use Rattle.dat_header.proofs.Written.{still_options}
use Rattle.dat_header.proofs.header.Header.drop_instances.Goals as goal

pub returns-in-Some-clause-allowed : goal.returns-in-Some-clause-allowed
returns-in-Some-clause-allowed c = λ h. record {
  long = h.long;
  page = h.page;
  page_text = h.page_text;
  layout = h.layout;
  event_text = h.event_text;
  ftrace = h.ftrace;
  systems = h.systems;
  kallsyms = h.kallsyms;
  printk = h.printk;
  cmdlines = h.cmdlines;
  cpus = h.cpus;
  options = still_options c.args.self.now.options c.in-Some.options c.into_vec-kept.result.items c.keep_others.new.options.items c.from_vec.result c.in-Some.ensures.value c.into_vec-kept.ensures c.keep_others.ensures c.from_vec.ensures h.options;
  body = h.body;
}
