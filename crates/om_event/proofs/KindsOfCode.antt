-- Events made for a code, and the kinds of its legs.
use Rattle.std.proofs.Common.{◌≡◌, ℕ, ◌+◌, ◌<◌, List, [], ◌∷◌, ◌++◌, length, map, take, get_or, ap, ap₂, sym, ◌∙◌}
use Rattle.std.specs.Prelude.{slice_set}
use Rattle.std.proofs.lemmas.List.{length-map, map-append, take_more, take_more_set}
use Rattle.om_model.specs.declared.model.Particle.{Particle}
use Rattle.om_code.specs.declared.code.Code.{Code}
use Rattle.om_code.specs.Waves.{Incoming}
use Rattle.om_machine.specs.Events.{IsMadeFor, kind_of_field}
use Rattle.om_event.specs.declared.kind.WaveKind.{WaveKind}
use Rattle.om_event.specs.Kinds.{AreKindsOf, HasKinds, MadeByKinds, kind_named}

-- a reader keeps a kind for each leg
as_many : (c : Code) (kinds : List WaveKind) → AreKindsOf c kinds → length kinds ≡ length c.legs
as_many c kinds h = sym (length-map kinds kind_named) ∙ ap length h ∙ length-map c.legs (kind_of_field c.model.particles)

-- an event made for a code has the kinds of its legs
pub has_kinds : {E : Type 0} (c : Code) (kinds : List WaveKind) (e : Incoming E) → AreKindsOf c kinds → IsMadeFor c e → HasKinds kinds e
has_kinds c kinds e h made = record { momenta = made.momenta ∙ sym (as_many c kinds h); waves = made.waves ∙ sym h }

pub made_by_kinds : {E : Type 0} → MadeByKinds E
made_by_kinds c kinds h e = (has_kinds c kinds e h, λ made. record { momenta = made.momenta ∙ as_many c kinds h; waves = made.waves ∙ h })

-- the kind of one leg more
pub one_kind : (particles : List Particle) (kinds : List WaveKind) (fields : List ℕ) (i d : ℕ) (kind : WaveKind) → i < length kinds
    → i < length fields
    → map kind_named (take i kinds) ≡ map (kind_of_field particles) (take i fields) → kind_named kind ≡ kind_of_field particles (get_or fields i d)
    → map kind_named (take (i + 1) (slice_set kinds i kind)) ≡ map (kind_of_field particles) (take (i + 1) fields)
one_kind particles kinds fields i d kind l m before this =
    ap (map kind_named) (take_more_set kinds i kind l) ∙ map-append kind_named (take i kinds) (kind ∷ [])
    ∙ ap₂ (λ ks k. ks ++ k ∷ []) before this
    ∙ sym (ap (map (kind_of_field particles)) (take_more fields i d m)
    ∙ map-append (kind_of_field particles) (take i fields) (get_or fields i d ∷ []))
