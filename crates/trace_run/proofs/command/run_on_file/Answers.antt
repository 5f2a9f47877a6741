use Rattle.std.proofs.Common.{◌≡◌, ◌∙◌, length, rules, arith, List, ℕ, IfSome, Option, Ok, Err, ap, subst, sym}
use Rattle.dat_header.specs.Header.{ReadsHeader}
use Rattle.run_words.specs.Job.{command_view}
use Rattle.run_endings.proofs.Endings.{no_memory_map}
use Rattle.trace_run.proofs.Endings.{behind_header, header_refused, header_unheld, header_unread}
use Rattle.trace_run.proofs.Reading.{read_behind_header, gathers_behind_header, gathers_nothing}
use Rattle.trace_run.proofs.command.run_on_file.Goals as goal
use Rattle.several_report.specs.Inputs.{input_found}
use Rattle.trace_run.specs.Meaning.{input_of}

pub run_on_header-requires-clause-read : goal.run_on_header-requires-clause-read
run_on_header-requires-clause-read g c κs live =
    subst (λ (told : Option (List ℕ)). ReadsHeader told (Ok c.in-Ok.header)) (sym c.read_header.ensures.keeps.bytes) c.in-Ok.ensures.answer

pub returns-in-Ok-clause-worked : goal.returns-in-Ok-clause-worked
returns-in-Ok-clause-worked g c =
    behind_header (command_view c.args.command.now) c.in-Ok.header _ _ _ _ c.run_on_header.result _ _ c.read_header.ensures.keeps.bytes c.in-Ok.ensures.answer
    (λ rose. omega (arith, c.read_header.ensures.keeps.later, rose)) c.run_on_header.ensures.worked

pub returns-in-Ok-clause-reads : goal.returns-in-Ok-clause-reads
returns-in-Ok-clause-reads g c =
    let long = subst (λ (n : ℕ). IfSome (g.F.In.File.bytes c.args.file.now) (λ bytes. length bytes ≡ n)) (sym c.read_header.ensures.keeps.size) (g.met.F.In.File.size_is c.args.file.now) in
    read_behind_header (command_view c.args.command.now) c.in-Ok.header _ _ _ _ c.run_on_header.result _ _ _ _ c.read_header.ensures.keeps.bytes long c.in-Ok.ensures.answer
    c.in-Ok.ensures.file.reads c.run_on_header.ensures.reads c.run_on_header.ensures.due

pub returns-in-Err-Read-clause-worked : goal.returns-in-Err-Read-clause-worked
returns-in-Err-Read-clause-worked g c = header_unread (command_view c.args.command.now) _ _ _ (c.in-Err-Read.ensures.file.cause (ap Err c.in-Err-Read.field-0-is))

pub returns-in-Err-Memory-clause-worked : goal.returns-in-Err-Memory-clause-worked
returns-in-Err-Memory-clause-worked g c = header_unheld (command_view c.args.command.now) _ _ _

pub returns : goal.returns
returns g c = record {
  worked = header_refused (command_view c.args.command.now) c.in-Err.fault _ _ _ (search rules) c.in-Err.ensures.answer;
  kept = tt;
  gathers = gathers_nothing (command_view c.args.command.now) (input_found (input_of (command_view c.args.command.now)) (g.F.In.File.bytes c.args.file.now)) _ _;
  reads = tt;
}

pub returns-in-Ok-clause-kept : goal.returns-in-Ok-clause-kept
returns-in-Ok-clause-kept g c =
    let joined = λ (same : g.F.In.File.faults c.run_on_header.new.file ≡ g.F.In.File.faults c.read_header.new.file). same ∙ c.in-Ok.ensures.file.kept in
    no_memory_map c.run_on_header.result joined c.run_on_header.ensures.kept

pub returns-in-Ok-clause-gathers : goal.returns-in-Ok-clause-gathers
returns-in-Ok-clause-gathers g c =
    gathers_behind_header (command_view c.args.command.now) c.in-Ok.header _ c.run_on_header.result _ _ c.in-Ok.ensures.answer c.run_on_header.ensures.gathers

pub returns-in-Err-Read-clause-gathers : goal.returns-in-Err-Read-clause-gathers
returns-in-Err-Read-clause-gathers g c = gathers_nothing (command_view c.args.command.now) (input_found (input_of (command_view c.args.command.now)) (g.F.In.File.bytes c.args.file.now)) _ _
