use Rattle.std.proofs.Common.{rules, ◌∙◌, ap, take}
use Rattle.dat_options.specs.declared.fault.OpenFault.{OpenFault}
use Rattle.dat_header.specs.ItemsAt.{word_in}
use Rattle.dat_header.specs.Items.{version_word}
use Rattle.dat_header.proofs.Words.{version_steps}
use Rattle.dat_header.proofs.opening.read_version.Goals as goal

pub returns : goal.returns
returns g c =
    version_steps c.args.at c.in_ok-count.count c.len.result c.read_there.new.into _ _ c.word_in.result (g.met.F.File.size_is c.args.file.now) (search rules) c.requires.inside c.in_ok-count.ensures
    (c.len.ensures ∙ c.in_ok-count.ensures.size)
    (c.word_in.ensures ∙ ap (λ (w : OpenFault). word_in version_word w (take c.in_ok-count.count c.read_there.new.into) c.args.at c.len.result) c.version_fault.ensures)
