-- The parts of a text make the text.
use Rattle.std.proofs.Common.{◌≡◌, ℕ, List, [], ◌∷◌, ◌++◌, map, flat_map, decimal, codes, refl, sym, ap, ap₂, ◌∙◌, append_assoc, append-nil}
use Rattle.std.specs.List.{join_with_byte}
use Rattle.std.proofs.lemmas.List.Folds.{flat_map-map}
use Rattle.std.proofs.lemmas.Grind.{flat_map-append}
use Rattle.om_ring.specs.declared.numeral.Numeral.{Numeral}
use Rattle.om_ring.specs.Numerals.{numeral_text}
use Rattle.om_model.specs.declared.model.Particle.{Particle}
use Rattle.om_model.specs.declared.model.Vertex.{Vertex}
use Rattle.om_code.specs.declared.code.Code.{Code}
use Rattle.om_model.specs.FieldNames.{field_name}
use Rattle.om_program_text.specs.Words.{product_word}
use Rattle.om_model.specs.Words.{spin_word, structure_word, colour_word}
use Rattle.om_io.specs.Writing.{all_of}
use Rattle.om_io.specs.Lines.{Words, line_text, lines_text}
use Rattle.om_model.specs.TermText.{spaced}
use Rattle.om_program_text.specs.ProgramText.{particle_words, vertex_words, leg_words, flow_words, den_words, slots_lines, instr_words, end_words, version_words, model_words, program_text}
use Rattle.om_program_text.specs.Parts.{particle_parts, vertex_parts, model_parts, process_parts, front_parts, instr_parts}
use Rattle.om_model.proofs.TermWords.{join_spaced}

-- the first numeral, and the others behind stars
pub product_first : (x : Numeral) (xs : List Numeral) → product_word (x ∷ xs) ≡ numeral_text x ++ flat_map (λ y. 42 ∷ numeral_text y) xs
product_first x [] = sym (append-nil (numeral_text x))
product_first x (y ∷ ys) = ap (λ t. numeral_text x ++ 42 ∷ t) (product_first y ys)

regroup_particle : (p n x a s m w r c e : List ℕ) → all_of ((p ++ n ++ x ++ a ++ x ++ s) ∷ (x ++ m) ∷ (x ++ w) ∷ (x ++ r) ∷ (x ++ c ++ e) ∷ []) ≡ (p ++ (n ++ (x ++ (a ++ (x ++ (s ++ (x ++ (m ++ (x ++ (w ++ (x ++ (r ++ (x ++ c))))))))))))) ++ e
regroup_particle p n x a s m w r c e = simp (append_assoc, append-nil)

particle_plain : (n a s m w r c : List ℕ) → all_of ((codes "particle " ++ n ++ codes " " ++ a ++ codes " " ++ s) ∷ (32 ∷ m) ∷ (32 ∷ w) ∷ (32 ∷ r) ∷ (codes " " ++ c ++ codes "\n") ∷ []) ≡ line_text (codes "particle" ∷ n ∷ a ∷ s ∷ m ∷ w ∷ r ∷ c ∷ [])
particle_plain n a s m w r c = regroup_particle (codes "particle ") n (32 ∷ []) a s m w r c (10 ∷ [])

pub particle_text : (p : Particle) → all_of (particle_parts p) ≡ line_text (particle_words p)
particle_text p = particle_plain p.name p.anti (spin_word p.spin) (product_word p.mass) (product_word p.width) (product_word p.norm) (colour_word p.colour)

spaced-map : {A : Type 0} (word : A → List ℕ) (xs : List A) → spaced (map word xs) ≡ flat_map (λ x. 32 ∷ word x) xs
spaced-map word xs = flat_map-map (λ w. 32 ∷ w) word xs

regroup_vertex : (p s x o f k q e : List ℕ) → all_of ((p ++ s ++ x ++ o) ∷ f ∷ k ∷ q ∷ e ∷ []) ≡ (p ++ (s ++ (x ++ (o ++ (f ++ (k ++ q)))))) ++ e
regroup_vertex p s x o f k q e = simp (append_assoc, append-nil)

vertex_plain : (s o : List ℕ) (names products : List (List ℕ)) → all_of ((codes "vertex " ++ s ++ codes " " ++ o) ∷ spaced names ∷ codes " :" ∷ spaced products ∷ codes "\n" ∷ []) ≡ line_text (codes "vertex" ∷ s ∷ o ∷ (names ++ codes ":" ∷ products))
vertex_plain s o names products =
    let words : join_with_byte 32 (o ∷ (names ++ codes ":" ∷ products)) ≡ o ++ (spaced names ++ (codes " :" ++ spaced products)) =
    join_spaced o (names ++ codes ":" ∷ products) ∙ ap (λ t. o ++ t) (flat_map-append (λ w. 32 ∷ w) names (codes ":" ∷ products)) in
    regroup_vertex (codes "vertex ") s (32 ∷ []) o (spaced names) (codes " :") (spaced products) (10 ∷ [])
    ∙ ap (λ t. (codes "vertex " ++ (s ++ (32 ∷ [] ++ t))) ++ 10 ∷ []) (sym words)

pub vertex_text : (particles : List Particle) (v : Vertex) → all_of (vertex_parts particles v) ≡ line_text (vertex_words particles v)
vertex_text particles v =
    ap₂ (λ f p. all_of ((codes "vertex " ++ structure_word v.structure ++ codes " " ++ decimal v.order) ∷ f ∷ codes " :" ∷ p ∷ codes "\n" ∷ [])) (sym (spaced-map (field_name particles) v.fields)) (sym (spaced-map product_word v.factors))
    ∙ vertex_plain (structure_word v.structure) (decimal v.order) (map (field_name particles) v.fields) (map product_word v.factors)

lines_of : {A : Type 0} (words : A → Words) (xs : List A) → lines_text (map words xs) ≡ flat_map (λ x. line_text (words x)) xs
lines_of words xs = flat_map-map line_text words xs

lines_both : (a b : List Words) (s t : List ℕ) → lines_text a ≡ s → lines_text b ≡ t → lines_text (a ++ b) ≡ s ++ t
lines_both a b s t e f = flat_map-append line_text a b ∙ ap (λ u. u ++ lines_text b) e ∙ ap (λ u. s ++ u) f

regroup_head : (o v e m n : List ℕ) → o ++ v ++ (e ++ m) ++ n ++ e ≡ ((o ++ v) ++ e) ++ ((m ++ n) ++ e)
regroup_head o v e m n = simp append_assoc

head_plain : (v n : List ℕ) → codes "omega " ++ v ++ codes "\nmodel " ++ n ++ codes "\n" ≡ line_text (codes "omega" ∷ v ∷ []) ++ line_text (codes "model" ∷ n ∷ [])
head_plain v n = regroup_head (codes "omega ") v (10 ∷ []) (codes "model ") n

regroup : (h1 h2 p v l f d s i e : List ℕ) → (h1 ++ (h2 ++ p)) ++ v ++ l ++ f ++ d ++ s ++ i ++ e ≡ all_of ((h1 ++ h2) ∷ all_of (p ∷ v ∷ []) ∷ all_of (l ∷ f ∷ d ∷ []) ∷ s ∷ []) ++ all_of (i ∷ e ∷ [])
regroup h1 h2 p v l f d s i e = simp (append_assoc, append-nil)

pub program_of_parts : (c : Code) → all_of (front_parts c) ++ all_of (instr_parts c.version c.instrs) ≡ program_text c
program_of_parts c =
    let ps = c.model.particles in
    let omega_line = line_text (version_words c.version) in
    let model_line = line_text (model_words c.model.name) in
    let a = version_words c.version ∷ model_words c.model.name ∷ map particle_words ps in
    let vs = map (vertex_words ps) c.model.vertices in
    let ls = map (leg_words ps) c.legs in
    let fs = map flow_words c.flows in
    let ds = map (den_words ps) c.dens in
    let ss = slots_lines c.version c.slots in
    let is = map (instr_words c.version) c.instrs in
    let h = ap (λ t. omega_line ++ (model_line ++ t)) (lines_of particle_words ps) in
    let v = lines_both a vs _ _ h (lines_of (vertex_words ps) c.model.vertices) in
    let l = lines_both (a ++ vs) ls _ _ v (lines_of (leg_words ps) c.legs) in
    let f = lines_both (a ++ vs ++ ls) fs _ _ l (lines_of flow_words c.flows) in
    let d = lines_both (a ++ vs ++ ls ++ fs) ds _ _ f (lines_of (den_words ps) c.dens) in
    let s = lines_both (a ++ vs ++ ls ++ fs ++ ds) ss _ (lines_text ss) d refl in
    let i = lines_both (a ++ vs ++ ls ++ fs ++ ds ++ ss) is _ _ s (lines_of (instr_words c.version) c.instrs) in
    let e = lines_both (a ++ vs ++ ls ++ fs ++ ds ++ ss ++ is) (end_words ∷ []) _ (codes "end\n") i refl in
    sym (e ∙ regroup omega_line model_line _ _ _ _ _ _ _ _ ∙ ap (λ t. all_of (t ∷ all_of (model_parts c) ∷ all_of (process_parts c) ∷ lines_text ss ∷ []) ++ all_of (instr_parts c.version c.instrs)) (sym (head_plain (decimal c.version) c.model.name)))
