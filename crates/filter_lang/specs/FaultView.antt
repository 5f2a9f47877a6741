-- What a fault says of a text.
use Rattle.std.specs.Prelude.{◌≤◌, List, ℕ, length, drop}
use Rattle.filter_lang.specs.Texts.{RefusedText}
use Rattle.filter_lang.specs.declared.fault.FilterFault.{FilterFault}
use Rattle.filter_lang.specs.declared.fault.FilterFault.TheVariants.{At, Memory}

-- the text is refused at the place
abbrev pub IsRefusedAt : List ℕ → FilterFault → Type 0
IsRefusedAt text (At place) = RefusedText text (drop place text)
IsRefusedAt text Memory = Unit {0}

abbrev pub IsPlaceIn : List ℕ → FilterFault → Type 0
IsPlaceIn text (At place) = place ≤ length text
IsPlaceIn text Memory = Unit {0}
