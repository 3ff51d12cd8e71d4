-- Rows of one kind stop at the rows of the next.
use Rattle.std.proofs.Common.{◌≡◌, ℕ, eqb, Bool, true, false, cond, List, [], ◌∷◌, ◌++◌, map, codes, decimal}
use Rattle.om_colour.specs.declared.Flow.{Flow}
use Rattle.om_model.specs.declared.model.Particle.{Particle}
use Rattle.om_model.specs.declared.model.Vertex.{Vertex}
use Rattle.om_code.specs.declared.code.Den.{Den}
use Rattle.om_code.specs.declared.code.Instr.{Instr}
use Rattle.om_code.specs.declared.code.Instr.TheVariants.{Load, Fuse, Prop, Key}
use Rattle.om_io.specs.Lines.{Words}
use Rattle.om_program_text.specs.ProgramText.{vertex_words, leg_words, flow_words, den_words, slots_lines, instr_words, end_words}
use Rattle.om_asm.proofs.RowLaws.{Stops}

module _ (starts : ℕ → List ℕ → Bool) where
  stops_first : (l : Words) (ls ms : List Words) → Stops starts (l ∷ ls) → Stops starts (l ∷ ms)
  stops_first [] ls ms h = tt
  stops_first (w ∷ ws) ls ms h = h

  stops_map : {A : Type 0} (words : A → Words) (xs : List A) (rest : List Words) → ((x : A) → Stops starts (words x ∷ [])) → Stops starts rest → Stops starts (map words xs ++ rest)
  stops_map words [] rest h s = s
  stops_map words (x ∷ xs) rest h s = stops_first (words x) [] (map words xs ++ rest) (h x)

  -- no line that begins so is of this kind
  abbrev Avoids : List ℕ → Type 0
  Avoids key = (count : ℕ) → starts count key ≡ false

  pub record AvoidsLast : Type 0 where
    pub loads : Avoids (codes "load")
    pub fuses : Avoids (codes "fuse")
    pub props : Avoids (codes "prop")
    pub keys : Avoids (codes "key")
    pub ends : Avoids (codes "end")
    pub slots : Avoids (codes "slots")

  instr_stops : (avoid : AvoidsLast) (version : ℕ) (i : Instr) → Stops starts (instr_words version i ∷ [])
  instr_stops avoid version (Load slot leg) = avoid.loads
  instr_stops avoid version (Fuse slot minus vertex choice branches) = avoid.fuses
  instr_stops avoid version (Prop slot den) = avoid.props
  instr_stops avoid version (Key flow minus vertex choice branches) = avoid.keys

  pub at_slots : (avoid : AvoidsLast) (version slots : ℕ) (is : List Instr) → Stops starts (slots_lines version slots ++ (map (instr_words version) is ++ end_words ∷ []))
  at_slots avoid version slots is = by (eqb version 1)
    where
      by : (b : Bool) → Stops starts (cond b [] ((codes "slots" ∷ decimal slots ∷ []) ∷ []) ++ (map (instr_words version) is ++ end_words ∷ []))
      by true = stops_map (instr_words version) is (end_words ∷ []) (instr_stops avoid version) avoid.ends
      by false = avoid.slots

  pub at_dens : Avoids (codes "den") → (ps : List Particle) (ds : List Den) (rest : List Words) → Stops starts rest → Stops starts (map (den_words ps) ds ++ rest)
  at_dens a ps ds rest s = stops_map (den_words ps) ds rest (λ _. a) s

  pub at_flows : Avoids (codes "flow") → (fs : List Flow) (rest : List Words) → Stops starts rest → Stops starts (map flow_words fs ++ rest)
  at_flows a fs rest s = stops_map flow_words fs rest (λ _. a) s

  pub at_legs : Avoids (codes "leg") → (ps : List Particle) (ls : List ℕ) (rest : List Words) → Stops starts rest → Stops starts (map (leg_words ps) ls ++ rest)
  at_legs a ps ls rest s = stops_map (leg_words ps) ls rest (λ _. a) s

  pub at_vertices : Avoids (codes "vertex") → (ps : List Particle) (vs : List Vertex) (rest : List Words) → Stops starts rest → Stops starts (map (vertex_words ps) vs ++ rest)
  at_vertices a ps vs rest s = stops_map (vertex_words ps) vs rest (λ _. a) s
