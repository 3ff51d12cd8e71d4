-- The legs of the first names, and of one token more.
use Rattle.std.proofs.Common.{◌≡◌, ℕ, refl, List, [], ◌∷◌, ◌++◌, ◌∙◌, ap, Ok, Err, Some, None, Bool, true, false, ◌||◌}
use Rattle.std.specs.Str.{bytes_eq}
use Rattle.om_model.specs.Name.{is_name}
use Rattle.om_model.specs.Tokens.{Token}
use Rattle.om_model.specs.FieldNames.{field_named}
use Rattle.om_model.specs.declared.model.Particle.{Particle}
use Rattle.om_model.specs.declared.process.Leg.{Leg}
use Rattle.om_model.specs.ProcessText.{Named, arrow, leg_of, legs_from, names_from, with_first}
use Rattle.om_model.proofs.FirstFault.{behind, behind-push, behind-all}

names-other : (out : Bool) (ts : List Token) (t : Token) (us : List Token) → ts ≡ t ∷ us → is_name t.bytes ≡ false → names_from out ts ≡ names_from (out || bytes_eq t.bytes arrow) us
unfolding names_from
names-other out ts t us e f = rw e (rw f refl)

names-more : (out : Bool) (ts : List Token) (t : Token) (us : List Token) → ts ≡ t ∷ us → is_name t.bytes ≡ true → names_from out ts ≡ record { token = t; outgoing = out } ∷ names_from out us
unfolding names_from
names-more out ts t us e f = rw e (rw f refl)

pub from-unknown : (ps : List Particle) (n : Named) (ns : List Named) → None ≡ field_named ps n.token.bytes → legs_from ps (n ∷ ns) ≡ Err n.token.place
unfolding legs_from
from-unknown ps n ns e = rw (← e, legs_from) refl

pub from-known : (ps : List Particle) (n : Named) (ns : List Named) (f : ℕ) → Some f ≡ field_named ps n.token.bytes → legs_from ps (n ∷ ns) ≡ with_first (leg_of ps n.outgoing f) (legs_from ps ns)
unfolding legs_from
from-known ps n ns f e = rw (← e, legs_from) refl

module _ (ps : List Particle) (legs : List Leg) (out : Bool) (ts : List Token) (t : Token) (us : List Token) (e : ts ≡ t ∷ us) where
  -- a token that is no name
  pub legs-other : is_name t.bytes ≡ false → behind legs (legs_from ps (names_from out ts)) ≡ behind legs (legs_from ps (names_from (out || bytes_eq t.bytes arrow) us))
  legs-other f = ap (λ ns. behind legs (legs_from ps ns)) (names-other out ts t us e f)

  -- a name that isn't in the model
  pub legs-unknown : is_name t.bytes ≡ true → None ≡ field_named ps t.bytes → behind legs (legs_from ps (names_from out ts)) ≡ Err t.place
  legs-unknown f g = ap (λ ns. behind legs (legs_from ps ns)) (names-more out ts t us e f) ∙ ap (behind legs) (from-unknown ps _ _ g)

  -- a name that is in the model gives one leg more
  pub legs-known : (f : ℕ) → is_name t.bytes ≡ true → Some f ≡ field_named ps t.bytes
      → behind legs (legs_from ps (names_from out ts)) ≡ behind (legs ++ leg_of ps out f ∷ []) (legs_from ps (names_from out us))
  legs-known f g h =
      ap (λ ns. behind legs (legs_from ps ns)) (names-more out ts t us e g)
      ∙ ap (behind legs) (from-known ps _ _ f h)
      ∙ behind-push legs (leg_of ps out f) (legs_from ps (names_from out us))

-- no token is left
pub legs-end : (ps : List Particle) (legs : List Leg) (out : Bool) (ts : List Token) → ts ≡ [] → behind legs (legs_from ps (names_from out ts)) ≡ Ok legs
unfolding legs_from names_from
legs-end ps legs out ts e = rw e (behind-all legs)
