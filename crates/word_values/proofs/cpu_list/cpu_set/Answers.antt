use Rattle.word_values.proofs.CpuLaws.{cpu_set_from}
use Rattle.word_values.proofs.cpu_list.cpu_set.Goals as goal

pub loop-rest-init : goal.loop-rest-init
loop-rest-init c = cpu_set_from c.args.text.now c.new-set.result c.new-set.ensures
