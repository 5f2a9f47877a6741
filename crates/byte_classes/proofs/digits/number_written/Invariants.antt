use Rattle.std.proofs.Common.{take, true, ◌≡◌, ◌^◌, ◌<◌}
use Rattle.std.specs.Str.Parse.{digits_value}
use Rattle.byte_classes.specs.Digits.{are_digits}
use Rattle.byte_classes.proofs.digits.number_written.Given as goal

abbrev pub invariant-loop-byte : goal.invariant-loop-byte
invariant-loop-byte l = record {
  digits : are_digits l.radix (take l.byte-index l.text) ≡ true;
  number_is : l.number ≡ digits_value l.radix (take l.byte-index l.text);
  fits : l.number < 2 ^ 64;
}
