use Rattle.std.specs.Prelude.{◌≡◌, Result, Ok, Err}
use Rattle.filter_lang.specs.Tree.{Tree}
use Rattle.filter_lang.specs.TreeView.{tree_of}
use Rattle.filter_lang.specs.ReaderView.{from}
use Rattle.filter_lang.specs.ConditionReading.{Parsed, found, refused}
use Rattle.filter_lang.specs.declared.reader.Reader.{Reader}
use Rattle.filter_lang.specs.declared.parse_fault.ParseFault.{ParseFault}
use Rattle.filter_lang.specs.declared.parse_fault.ParseFault.TheVariants.{Memory, Before}
use Rattle.filter_lang.specs.declared.taken.Taken.{Taken}

abbrev pub taken : Reader → Taken → Parsed Tree
taken r t = found (tree_of t.expr.value) (from r t.next)

-- What a call returned is what reading gives, unless memory ran out.
abbrev pub Stops : {A : Type 0} → Reader → ParseFault → Parsed A → Type 0
Stops r Memory read = Unit {0}
Stops r (Before at) read = read ≡ refused (from r at)

abbrev pub Gives : {X A : Type 0} → Reader → (Reader → X → Parsed A) → Result X ParseFault → Parsed A → Type 0
Gives r view (Ok x) read = read ≡ view r x
Gives r view (Err e) read = Stops r e read
