-- A value of a struct with no fields is made from nothing: the step that each proof over ghost data takes. Assumes `Logic`.
use Rattle.std.proofs.Common.{List, [], ◌∷◌, refl}
use seplogic.Ra.Ura.{Ura}
use mir.Val.{Val, vstruct, vnil}
use types.Logic.{Logic}
use types.Kit.{Goal, Step, step, Item, ‵, ◌$◌, fjoin, fpack, feq_i}
use denote.RattleType.{RattleType, Valss}
use denote.Steps.{nothing}
use denote.Struct.Struct.{Struct, within}

-- how the machine stores it
abbrev pub bare : Val
bare = vstruct vnil

abbrev pub no_fields : RattleType
no_fields = Struct (record { name = []; args = []; types = []; fields = [] })

pub bare_made : {M : Type 1} {𝓤 : Ura M} {𝓛 : Logic 𝓤} {K : Type 0} {Γ : List (Item 𝓤)} {G : Goal 𝓤 𝓛.H} → K → Step K 𝓛 (‵ (no_fields.own_val tt (bare ∷ [])) ∷ Γ) G Γ G
bare_made k = step (λ rest.
    nothing k $ feq_i k (List Val) (bare ∷ []) (bare ∷ []) refl $ fjoin k $
    fpack k (Valss []) (within (record { name = []; args = []; types = []; fields = [] }) tt (bare ∷ [])) tt $ rest)
