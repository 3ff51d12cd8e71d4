-- The lines of a model and a process are read again.
use Rattle.std.proofs.Common.{◌≡◌, ℕ, ◌+◌, ◌*◌, true, List, [], ◌∷◌, Option, Some, Result, Ok, ap, ◌∙◌, inl, inr}
use Rattle.std.specs.List.{AllByRecursion}
use Rattle.std.specs.Str.{bytes_eq}
use Rattle.om_ring.specs.declared.numeral.Numeral.{Numeral}
use Rattle.om_lorentz.specs.declared.structures.Spin.{Spin}
use Rattle.om_colour.specs.declared.Colour.{Colour}
use Rattle.om_legs.specs.Legs.{IsLegSet}
use Rattle.om_model.specs.Name.{is_name}
use Rattle.om_model.specs.Words.{spin_of_word}
use Rattle.om_model.specs.FieldNames.{field_from}
use Rattle.om_model.specs.declared.model.Particle.{Particle}
use Rattle.om_code.specs.declared.code.Den.{Den}
use Rattle.om_code.specs.Plain.{IsNamed, IsPlainDen}
use Rattle.om_model.specs.FieldNames.{field_name}
use Rattle.om_asm.specs.declared.fault.AsmKind.{AsmKind}
use Rattle.om_asm.specs.InRange.{ParticleInRange}
use Rattle.om_io.specs.Lines.{Words}
use Rattle.om_program_text.specs.Words.{product_word}
use Rattle.om_model.specs.LegSetText.{leg_set_word, leg_set_of_word}
use Rattle.om_model.specs.Words.{spin_word, colour_word}
use Rattle.om_asm.specs.Lines.{word_by, no_more, next_word}
use Rattle.om_asm.specs.Rows.{formed}
use Rattle.om_ring.specs.ResultSteps.{◌>>=◌}
use Rattle.om_asm.specs.Reading.{name_of, product_of, named, leg_row, den_row, particle_row}
use Rattle.om_model.specs.Words.{colour_of_word}
use Rattle.om_asm.proofs.SpeltLemmas.{same_bytes}
use Rattle.om_asm.proofs.ModelWords.{pick}
use Rattle.om_asm.proofs.ModelWordsAgain.{name_again, spin_again, colour_again, product_again, named_again}
use Rattle.om_asm.proofs.ModelWordsAgain.{set_again}
use Rattle.om_asm.proofs.WordsAgain.{word_again}
use Rattle.om_model.specs.Rules.{HasLengths}

-- what means a field is a name
pub means_field : (row : ℕ) (ps : List Particle) (w : List ℕ) (f : ℕ) → AllByRecursion ParticleInRange ps → field_from row ps w ≡ Some f → is_name w ≡ true
unfolding field_from
means_field row [] w f h e = absurd cc
means_field row (p ∷ ps) w f h e = elim (pick (bytes_eq w p.name) (2 * row) _ f e) [
  | inl q ↦ ap is_name (same_bytes w p.name q.0) ∙ h.0.name
  | inr q ↦ elim (pick (bytes_eq w p.anti) (2 * row + 1) _ f q.1) [
    | inl r ↦ ap is_name (same_bytes w p.anti r.0) ∙ h.0.anti
    | inr r ↦ means_field (row + 1) ps w f h.1 r.1
  ]
]

pub field_again : (ps : List Particle) (f : ℕ) → AllByRecursion ParticleInRange ps → IsNamed ps f → named ps (field_name ps f) ≡ Ok f
field_again ps f h n = named_again ps f (means_field 0 ps (field_name ps f) f h n) n

pub leg_again : (ps : List Particle) (f : ℕ) → AllByRecursion ParticleInRange ps → IsNamed ps f → leg_row ps (field_name ps f ∷ []) ≡ Ok f
unfolding leg_row
leg_again ps f h n = field_again ps f h n

-- the first word is read
pub say : {A B : Type 0} (read : List ℕ → Option A) (w : List ℕ) (x : A) (rest : Words) (f : A × Words → Result B AsmKind) → read w ≡ Some x → (formed (word_by read (w ∷ rest)) >>= f) ≡ f (x, rest)
say read w x rest f e = ap (λ o. formed o >>= f) (word_again read w x rest e)

abbrev a_den : ℕ → ℕ → Result Den AsmKind
a_den set field = Ok (record { legs = set; field = field })

pub den_again : (ps : List Particle) (d : Den) → AllByRecursion ParticleInRange ps → IsLegSet d.legs → IsPlainDen ps d → den_row ps (leg_set_word d.legs ∷ field_name ps d.field ∷ []) ≡ Ok d
unfolding den_row
den_again ps d h s p =
    say leg_set_of_word (leg_set_word d.legs) d.legs (field_name ps d.field ∷ []) (λ set. formed (next_word set.1) >>= λ name. formed (no_more name.1) >>= λ _. named ps name.0 >>= λ field. a_den set.0 field) (set_again d.legs s p.legs)
    ∙ ap (λ r. r >>= λ field. a_den d.legs field) (field_again ps d.field h p.field)

abbrev a_particle : List ℕ → List ℕ → Spin → List Numeral → List Numeral → List Numeral → Colour → Result Particle AsmKind
a_particle n a s m w r c = Ok (record { name = n; anti = a; spin = s; mass = m; width = w; norm = r; colour = c })

abbrev from_colour : List ℕ → List ℕ → Spin → List Numeral → List Numeral → List Numeral → Words → Result Particle AsmKind
from_colour n a s m w r words = formed (word_by colour_of_word words) >>= λ c. formed (no_more c.1) >>= λ _. a_particle n a s m w r c.0

abbrev from_norm : List ℕ → List ℕ → Spin → List Numeral → List Numeral → Words → Result Particle AsmKind
from_norm n a s m w words = formed (word_by product_of words) >>= λ r. from_colour n a s m w r.0 r.1

abbrev from_width : List ℕ → List ℕ → Spin → List Numeral → Words → Result Particle AsmKind
from_width n a s m words = formed (word_by product_of words) >>= λ w. from_norm n a s m w.0 w.1

abbrev from_mass : List ℕ → List ℕ → Spin → Words → Result Particle AsmKind
from_mass n a s words = formed (word_by product_of words) >>= λ m. from_width n a s m.0 m.1

abbrev from_spin : List ℕ → List ℕ → Words → Result Particle AsmKind
from_spin n a words = formed (word_by spin_of_word words) >>= λ s. from_mass n a s.0 s.1

abbrev from_anti : List ℕ → Words → Result Particle AsmKind
from_anti n words = formed (word_by name_of words) >>= λ a. from_spin n a.0 a.1

pub particle_again : (p : Particle) → ParticleInRange p → HasLengths p → particle_row (p.name ∷ p.anti ∷ spin_word p.spin ∷ product_word p.mass ∷ product_word p.width ∷ product_word p.norm ∷ colour_word p.colour ∷ []) ≡ Ok p
unfolding particle_row
particle_again p h q =
    say name_of p.name p.name _ (λ n. from_anti n.0 n.1) (name_again p.name h.name)
    ∙ say name_of p.anti p.anti _ (λ a. from_spin p.name a.0 a.1) (name_again p.anti h.anti)
    ∙ say spin_of_word (spin_word p.spin) p.spin _ (λ s. from_mass p.name p.anti s.0 s.1) (spin_again p.spin)
    ∙ say product_of (product_word p.mass) p.mass _ (λ m. from_width p.name p.anti p.spin m.0 m.1) (product_again p.mass q.0 h.mass)
    ∙ say product_of (product_word p.width) p.width _ (λ w. from_norm p.name p.anti p.spin p.mass w.0 w.1) (product_again p.width q.1 h.width)
    ∙ say product_of (product_word p.norm) p.norm _ (λ r. from_colour p.name p.anti p.spin p.mass p.width r.0 r.1) (product_again p.norm q.2 h.norm)
    ∙ say colour_of_word (colour_word p.colour) p.colour [] (λ c. formed (no_more c.1) >>= λ _. a_particle p.name p.anti p.spin p.mass p.width p.norm c.0) (colour_again p.colour)
