-- Steps that may fail.
use Rattle.std.proofs.Common.{◌≡◌, Some, Result, Ok}

pub some_is : {A : Type 0} (x y : A) → Some x ≡ Some y → x ≡ y
some_is x y e = cc

pub ok_is : {T E : Type 0} (result : Result T E) (x y : T) → result ≡ Ok x → result ≡ Ok y → x ≡ y
ok_is result x y one two = cc
