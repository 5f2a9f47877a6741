-- What holds where a call did what it was asked, and where it did not.
use Rattle.std.proofs.Common.{Result, Ok, Err}
use Rattle.std.specs.Result.{OnErr, OnOk}

pub when_ok : {T E : Type 0} (result : Result T E) (P Q : Type 0) → (P → Q) → OnOk result P → OnOk result Q
when_ok (Ok value) P Q f holds = f holds
when_ok (Err error) P Q f holds = holds

pub when_err : {T E : Type 0} (result : Result T E) (P Q : Type 0) → (P → Q) → OnErr result P → OnErr result Q
when_err (Ok value) P Q f holds = holds
when_err (Err error) P Q f holds = f holds
