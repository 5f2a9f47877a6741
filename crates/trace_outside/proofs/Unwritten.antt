-- A value of `Requests` has no field that code writes: it is made from nothing, with whatever names a clause gives it.
-- Assumes `Logic`.
use Rattle.std.proofs.Common.{[], ◌∷◌, refl}
use seplogic.Ra.Ura.{Ura}
use mir.Val.{Val, vstruct, vnil}
use base.Logic.{ent, emp}
use base.Fml.{Fml}
use types.Logic.{Logic, sem}
use denote.Shadow.{makes_shadow}
use denote.Struct.Struct.{Struct}
use denote.Struct.Owning.{shape}
use Rattle.trace_outside.specs.contracts.requests.Requests as requests

abbrev pub token : Val
token = vstruct vnil

module _ {M : Type 1} {𝓤 : Ura M} (𝓛 : Logic 𝓤) where
  abbrev pub Fields : Fml
  Fields = (Struct (shape requests.the_type)).own_val tt (token ∷ [])

  pub fields_made : ent 𝓤 (emp 𝓤) (sem 𝓛 Fields)
  fields_made = makes_shadow 𝓛 Fields (λ vss. (tt, tt)) (tt, (refl, tt))
