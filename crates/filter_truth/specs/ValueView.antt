-- A value as plain data.
use Rattle.filter_truth.specs.Values.{ValueData, a_number, a_text, absent}
use Rattle.filter_truth.specs.declared.value.Value.{Value}
use Rattle.filter_truth.specs.declared.value.Value.TheVariants.{Number, Text, Absent}

abbrev pub data_of : Value → ValueData
data_of (Number n) = a_number n
data_of (Text bytes) = a_text bytes.now
data_of Absent = absent
