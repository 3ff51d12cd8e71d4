-- The kind of a bad line is Name exactly where the line has the form of one that names fields.
use Rattle.std.proofs.Common.{◌≡◌, ℕ, ◌≤◌, ◌⊎◌, Bool, true, false, cond, List, [], ◌∷◌, ◌++◌, length, map, codes, decimal, Option, Some, None, Result, Ok, Err, refl, sym, ap, subst, ◌∙◌, arith, inl, inr}
use Rattle.std.specs.Prelude.{◌↔◌}
use Rattle.std.specs.Str.{bytes_eq}
use Rattle.std.specs.List.{AllByRecursion}
use Rattle.om_ring.specs.declared.numeral.Numeral.{Numeral}
use Rattle.om_lorentz.specs.declared.structures.Structure.{Structure}
use Rattle.om_legs.specs.Legs.{IsLegSet}
use Rattle.om_model.specs.Name.{is_name}
use Rattle.om_model.specs.Words.{spin_of_word, structure_of_word}
use Rattle.om_model.specs.FieldNames.{field_named}
use Rattle.om_model.specs.declared.model.Particle.{Particle}
use Rattle.om_asm.specs.declared.fault.AsmKind.{AsmKind}
use Rattle.om_asm.specs.declared.fault.AsmKind.TheVariants.{Grammar, Name}
use Rattle.om_io.specs.Lines.{Words}
use Rattle.om_program_text.specs.Words.{product_word}
use Rattle.om_model.specs.LegSetText.{leg_set_word, leg_set_of_word}
use Rattle.om_model.specs.Words.{structure_word}
use Rattle.om_asm.specs.Lines.{word_by, no_more, next_word}
use Rattle.om_ring.specs.Spelt.{decimal_below}
use Rattle.om_asm.specs.Rows.{formed}
use Rattle.om_ring.specs.ResultSteps.{◌>>=◌}
use Rattle.om_asm.specs.Reading.{name_of, product_of, known, named, leg_row, den_row, particle_row}
use Rattle.om_model.specs.Words.{colour_of_word}
use Rattle.om_asm.specs.VertexSlots.{slot_of, fourth_slot, factors_of}
use Rattle.om_asm.specs.Vertices.{vertex_row}
use Rattle.om_asm.specs.FirstBad.{IsName, IsLegForm, IsDenForm, IsVertexForm, NamesFields}
use Rattle.om_asm.proofs.WordLaws.{number_law}
use Rattle.om_asm.proofs.ModelWords.{structure_spells, set_spells}
use Rattle.om_asm.proofs.ModelWordsAgain.{set_again}
use Rattle.om_asm.proofs.LinesAgain.{say}
use Rattle.om_asm.proofs.ModelLaws.{by_word, slot_found, a_particle, from_colour, from_norm, from_width, from_mass, from_spin, from_anti, a_den}
use Rattle.om_asm.proofs.SlotLaws.{FourthWords, fourth_found, factors_found, AreFactors}
use Rattle.om_asm.proofs.VertexLaws.{from_fields, from_fourth, from_third, from_second, from_first}
use Rattle.om_asm.proofs.VertexAgain.{vertex_said, said_kind}

-- ---- rows that name no field

-- what is bad is of the kind Grammar
abbrev pub NeverName : {A : Type 0} → Result A AsmKind → Type 0
NeverName r = (k : AsmKind) → r ≡ Err k → k ≡ Grammar

pub formed_never : {A : Type 0} (o : Option A) → NeverName (formed o)
formed_never (Some x) k e = absurd cc
formed_never None k e = cc

module _ {A B : Type 0} where
  then_never : (o : Option A) (f : A → Result B AsmKind) → ((x : A) → NeverName (f x)) → NeverName (formed o >>= f)
  then_never (Some x) f h k e = h x k e
  then_never None f h k e = cc

  -- what has an unknown name went well before
  went_well : (o : Option A) (f : A → Result B AsmKind) → (formed o >>= f) ≡ Err Name → (x : A) × (o ≡ Some x) × (f x ≡ Err Name)
  went_well (Some x) f e = (x, refl, e)
  went_well None f e = absurd cc

pub particle_never : (words : Words) → NeverName (particle_row words)
unfolding particle_row
particle_never words =
    then_never (word_by name_of words) (λ n. from_anti n.0 n.1) (λ n.
    then_never (word_by name_of n.1) (λ a. from_spin n.0 a.0 a.1) (λ a.
    then_never (word_by spin_of_word a.1) (λ s. from_mass n.0 a.0 s.0 s.1) (λ s.
    then_never (word_by product_of s.1) (λ m. from_width n.0 a.0 s.0 m.0 m.1) (λ m.
    then_never (word_by product_of m.1) (λ w. from_norm n.0 a.0 s.0 m.0 w.0 w.1) (λ w.
    then_never (word_by product_of w.1) (λ r. from_colour n.0 a.0 s.0 m.0 w.0 r.0 r.1) (λ r.
    then_never (word_by colour_of_word r.1) (λ c. formed (no_more c.1) >>= λ _. Ok (a_particle n.0 a.0 s.0 m.0 w.0 r.0 c.0)) (λ c.
    then_never (no_more c.1) (λ _. Ok (a_particle n.0 a.0 s.0 m.0 w.0 r.0 c.0)) (λ _ k e. absurd cc))))))))

-- ---- what the forms say of the first word

-- the kind is Name exactly where the words have the form
abbrev pub KindIs : AsmKind → Words → Type 0
KindIs kind words = (kind ≡ Name) ↔ NamesFields words

pub no_form : (kind : AsmKind) (words : Words) → kind ≡ Grammar → (NamesFields words → ⊥) → KindIs kind words
no_form kind words e n = (λ f. absurd (let g : Grammar ≡ Name = sym e ∙ f in cc), λ f. absurd (n f))

abbrev first_word : Words → List ℕ
first_word [] = []
first_word (w ∷ ws) = w

-- the first word of a line that names fields
abbrev pub NamesKey : List ℕ → Type 0
NamesKey w = (w ≡ codes "vertex") ⊎ ((w ≡ codes "leg") ⊎ (w ≡ codes "den"))

pub form_key : (words : Words) → NamesFields words → NamesKey (first_word words)
form_key words (inl f) = inl (ap first_word f.texts)
form_key words (inr (inl f)) = inr (inl (ap first_word f.texts))
form_key words (inr (inr f)) = inr (inr (ap first_word f.texts))

pub no_words : NamesFields [] → ⊥
no_words (inl f) = let e = f.texts in cc
no_words (inr (inl f)) = let e = f.texts in cc
no_words (inr (inr f)) = let e = f.texts in cc

is_other : (w key : List ℕ) (ws : Words) (line : Words) → bytes_eq w key ≡ true → bytes_eq (first_word line) key ≡ false → w ∷ ws ≡ line → ⊥
is_other w key ws line t f e = let g : true ≡ false = sym t ∙ ap (λ (l : Words). bytes_eq (first_word l) key) e ∙ f in cc

leg_only : (ws : Words) → NamesFields (codes "leg" ∷ ws) → IsLegForm (codes "leg" ∷ ws)
leg_only ws (inl f) = absurd (is_other (codes "leg") (codes "leg") ws _ refl refl f.texts)
leg_only ws (inr (inl f)) = f
leg_only ws (inr (inr f)) = absurd (is_other (codes "leg") (codes "leg") ws _ refl refl f.texts)

den_only : (ws : Words) → NamesFields (codes "den" ∷ ws) → IsDenForm (codes "den" ∷ ws)
den_only ws (inl f) = absurd (is_other (codes "den") (codes "den") ws _ refl refl f.texts)
den_only ws (inr (inl f)) = absurd (is_other (codes "den") (codes "den") ws _ refl refl f.texts)
den_only ws (inr (inr f)) = f

vertex_only : (ws : Words) → NamesFields (codes "vertex" ∷ ws) → IsVertexForm (codes "vertex" ∷ ws)
vertex_only ws (inl f) = f
vertex_only ws (inr (inl f)) = absurd (is_other (codes "vertex") (codes "vertex") ws _ refl refl f.texts)
vertex_only ws (inr (inr f)) = absurd (is_other (codes "vertex") (codes "vertex") ws _ refl refl f.texts)

abbrev tail : Words → Words
tail [] = []
tail (w ∷ ws) = ws

-- the kind of a bad row, from both directions
both_ways : {A : Type 0} (row : Result A AsmKind) (kind : AsmKind) (words : Words) → row ≡ Err kind → (row ≡ Err Name → NamesFields words) → (NamesFields words → (k : AsmKind) → row ≡ Err k → k ≡ Name) → KindIs kind words
both_ways row kind words e f g = (λ n. f (e ∙ ap (λ (k : AsmKind). Err k) n), λ h. g h kind e)

-- ---- fields by their names

name_only : (b : Bool) (o : Option ℕ) → cond b (known o) (Err Grammar) ≡ Err Name → b ≡ true
name_only true o e = refl
name_only false o e = absurd cc

named_kind : (ps : List Particle) (w : List ℕ) (k : AsmKind) → IsName w → named ps w ≡ Err k → k ≡ Name
named_kind ps w k n e = by (field_named ps w) (ap (λ b. cond b (known (field_named ps w)) (Err Grammar)) (sym n) ∙ e)
  where
    by : (o : Option ℕ) → known o ≡ Err k → k ≡ Name
    by (Some f) g = absurd cc
    by None g = cc

next_is : (words : Words) (p : List ℕ × Words) → next_word words ≡ Some p → words ≡ p.0 ∷ p.1
next_is [] p e = absurd cc
next_is (w ∷ ws) p e = ap (λ (q : List ℕ × Words). q.0 ∷ q.1) (let q : List ℕ × Words = (w, ws) in let s : q ≡ p = cc in s)

none_more : (words : Words) (x : Unit {0}) → no_more words ≡ Some x → words ≡ []
none_more [] x e = refl
none_more (w ∷ ws) x e = absurd cc

-- ---- legs

pub leg_kind : (ps : List Particle) (ws : Words) (kind : AsmKind) → leg_row ps ws ≡ Err kind → KindIs kind (codes "leg" ∷ ws)
unfolding leg_row
leg_kind ps ws kind e = both_ways (leg_row ps ws) kind (codes "leg" ∷ ws) e forth back
  where
    forth : leg_row ps ws ≡ Err Name → NamesFields (codes "leg" ∷ ws)
    forth f =
        let n = went_well (next_word ws) (λ name. formed (no_more name.1) >>= λ _. named ps name.0) f in
        let m = went_well (no_more n.0.1) (λ _. named ps n.0.0) n.2 in
        let line = next_is ws n.0 n.1 ∙ ap (λ (v : Words). n.0.0 ∷ v) (none_more n.0.1 m.0 m.1) in
        inr (inl (record { name = n.0.0; named = name_only (is_name n.0.0) (field_named ps n.0.0) m.2; texts = ap (λ (v : Words). codes "leg" ∷ v) line }))

    one : (name : List ℕ) (k : AsmKind) → IsName name → leg_row ps (name ∷ []) ≡ Err k → k ≡ Name
    one name k n f = named_kind ps name k n f

    back : NamesFields (codes "leg" ∷ ws) → (k : AsmKind) → leg_row ps ws ≡ Err k → k ≡ Name
    back form k f = let l = leg_only ws form in one l.name k l.named (ap (leg_row ps) (sym (ap tail l.texts)) ∙ f)

-- ---- denominators

pub den_kind : (ps : List Particle) (ws : Words) (kind : AsmKind) → den_row ps ws ≡ Err kind → KindIs kind (codes "den" ∷ ws)
unfolding den_row
den_kind ps ws kind e = both_ways (den_row ps ws) kind (codes "den" ∷ ws) e forth back
  where
    unknown : (set : ℕ) (r : Result ℕ AsmKind) (k : AsmKind) → (r >>= λ field. Ok (a_den set field)) ≡ Err k → r ≡ Err k
    unknown set (Ok f) k h = absurd cc
    unknown set (Err d) k h = cc

    forth : den_row ps ws ≡ Err Name → NamesFields (codes "den" ∷ ws)
    forth f =
        let s = went_well (word_by leg_set_of_word ws) (λ set. formed (next_word set.1) >>= λ name. formed (no_more name.1) >>= λ _. named ps name.0 >>= λ field. Ok (a_den set.0 field)) f in
        let n = went_well (next_word s.0.1) (λ name. formed (no_more name.1) >>= λ _. named ps name.0 >>= λ field. Ok (a_den s.0.0 field)) s.2 in
        let m = went_well (no_more n.0.1) (λ _. named ps n.0.0 >>= λ field. Ok (a_den s.0.0 field)) n.2 in
        let w = by_word leg_set_of_word ws s.0 s.1 in
        let l = set_spells w.0 s.0.0 w.2 in
        let rest = next_is s.0.1 n.0 n.1 ∙ ap (λ (v : Words). n.0.0 ∷ v) (none_more n.0.1 m.0 m.1) in
        let line = w.1 ∙ ap (λ (v : List ℕ). v ∷ s.0.1) (sym l.0) ∙ ap (λ (v : Words). leg_set_word s.0.0 ∷ v) rest in
        inr (inr (record { set = s.0.0; name = n.0.0; some = l.1.0; legs = l.1.1; named = name_only (is_name n.0.0) (field_named ps n.0.0) (unknown s.0.0 (named ps n.0.0) Name m.2); texts = ap (λ (v : Words). codes "den" ∷ v) line }))

    one : (set : ℕ) (name : List ℕ) (k : AsmKind) → 1 ≤ set → IsLegSet set → IsName name → den_row ps (leg_set_word set ∷ name ∷ []) ≡ Err k → k ≡ Name
    one set name k some legs n f =
        let read = say leg_set_of_word (leg_set_word set) set (name ∷ []) (λ set. formed (next_word set.1) >>= λ name. formed (no_more name.1) >>= λ _. named ps name.0 >>= λ field. Ok (a_den set.0 field)) (set_again set legs some) in
        named_kind ps name k n (unknown set (named ps name) k (sym read ∙ f))

    back : NamesFields (codes "den" ∷ ws) → (k : AsmKind) → den_row ps ws ≡ Err k → k ≡ Name
    back form k f = let l = den_only ws form in one l.set l.name k l.some l.legs l.named (ap (den_row ps) (sym (ap tail l.texts)) ∙ f)

-- ---- vertices

-- a colon and factors, or a fourth name before them
record FourthNamed (words : Words) (fourth : Words) (rest : Words) : Type 0 where
  few : length fourth ≤ 1
  named : AllByRecursion IsName fourth
  texts : words ≡ fourth ++ codes ":" ∷ rest

fourth_named : (ps : List Particle) (words : Words) (d : Option (Option ℕ)) (rest : Words) → FourthWords ps words d rest → (fourth : Words) × FourthNamed words fourth rest
fourth_named ps words None rest f = ([], record { few = omega arith; named = tt; texts = f })
fourth_named ps words (Some slot) rest f = (f.0 ∷ [], record { few = omega arith; named = (f.2.named, tt); texts = f.1 })

slot_word : (ps : List Particle) (words : Words) (p : Option ℕ × Words) → word_by (slot_of ps) words ≡ Some p → (w : List ℕ) × (words ≡ w ∷ p.1) × IsName w
slot_word ps words p e =
    let w = by_word (slot_of ps) words p e in
    (w.0, w.1, (slot_found ps w.0 p.0 w.2).named)

-- the words behind the order of a vertex
record SlotForm (words : Words) (names : Words) (factors : List (List Numeral)) : Type 0 where
  three : 3 ≤ length names
  four : length names ≤ 4
  named : AllByRecursion IsName names
  read : AreFactors (map product_word factors) factors
  texts : words ≡ names ++ codes ":" ∷ map product_word factors

fourth_form : (ps : List Particle) (s : Structure) (o : ℕ) (wa wb wc : List ℕ) (a b c : Option ℕ) (words : Words) → IsName wa → IsName wb → IsName wc → from_fourth ps s o a b c words ≡ Err Name
    → (names : Words) × (factors : List (List Numeral)) × SlotForm (wa ∷ wb ∷ wc ∷ words) names factors
fourth_form ps s o wa wb wc a b c words na nb nc e =
    let d = went_well (fourth_slot ps words) (λ d. formed (factors_of d.1) >>= λ factors. from_fields s o a b c d.0 factors) e in
    let f = went_well (factors_of d.0.1) (λ factors. from_fields s o a b c d.0.0 factors) d.2 in
    let w = fourth_named ps words d.0.0 d.0.1 (fourth_found ps words d.0 d.1) in
    let r = factors_found d.0.1 f.0 f.1 in (
      wa ∷ wb ∷ wc ∷ w.0,
      f.0,
      record {
        three = omega arith;
        four = let n = w.1.few in omega arith;
        named = (na, (nb, (nc, w.1.named)));
        read = subst (λ (ws : Words). AreFactors ws f.0) (sym r.texts) r;
        texts = ap (λ (ws : Words). wa ∷ wb ∷ wc ∷ ws) (w.1.texts ∙ ap (λ (ws : Words). w.0 ++ codes ":" ∷ ws) (sym r.texts));
      },
    )

slots_form : (ps : List Particle) (s : Structure) (o : ℕ) (words : Words) → from_first ps s o words ≡ Err Name → (names : Words) × (factors : List (List Numeral)) × SlotForm words names factors
slots_form ps s o words e =
    let a = went_well (word_by (slot_of ps) words) (λ a. from_second ps s o a.0 a.1) e in
    let b = went_well (word_by (slot_of ps) a.0.1) (λ b. from_third ps s o a.0.0 b.0 b.1) a.2 in
    let c = went_well (word_by (slot_of ps) b.0.1) (λ c. from_fourth ps s o a.0.0 b.0.0 c.0 c.1) b.2 in
    let wa = slot_word ps words a.0 a.1 in
    let wb = slot_word ps a.0.1 b.0 b.1 in
    let wc = slot_word ps b.0.1 c.0 c.1 in
    let f = fourth_form ps s o wa.0 wb.0 wc.0 a.0.0 b.0.0 c.0.0 c.0.1 wa.2 wb.2 wc.2 c.2 in
    let whole : words ≡ wa.0 ∷ wb.0 ∷ wc.0 ∷ c.0.1 = wa.1 ∙ ap (λ (ws : Words). wa.0 ∷ ws) (wb.1 ∙ ap (λ (ws : Words). wb.0 ∷ ws) wc.1) in
    (f.0, f.1, subst (λ (ws : Words). SlotForm ws f.0 f.1) (sym whole) f.2)

vertex_form : (ps : List Particle) (ws : Words) → vertex_row ps ws ≡ Err Name → IsVertexForm (codes "vertex" ∷ ws)
unfolding vertex_row
vertex_form ps ws e =
    let s = went_well (word_by structure_of_word ws) (λ s. formed (word_by (decimal_below 256) s.1) >>= λ o. from_first ps s.0 o.0 o.1) e in
    let o = went_well (word_by (decimal_below 256) s.0.1) (λ o. from_first ps s.0.0 o.0 o.1) s.2 in
    let ws0 = by_word structure_of_word ws s.0 s.1 in
    let ls = structure_spells ws0.0 s.0.0 ws0.2 in
    let wo = by_word (decimal_below 256) s.0.1 o.0 o.1 in
    let lo = (number_law 256 (omega arith)).found wo.0 o.0.0 wo.2 in
    let f = slots_form ps s.0.0 o.0.0 o.0.1 o.2 in
    let order = wo.1 ∙ ap (λ (v : List ℕ). v ∷ o.0.1) (sym lo.0) ∙ ap (λ (v : Words). decimal o.0.0 ∷ v) f.2.texts in
    let line = ws0.1 ∙ ap (λ (v : List ℕ). v ∷ s.0.1) (sym ls.0) ∙ ap (λ (v : Words). structure_word s.0.0 ∷ v) order in
    record {
      structure = s.0.0;
      order = o.0.0;
      names = f.0;
      factors = f.1;
      small = lo.1;
      three = f.2.three;
      four = f.2.four;
      named = f.2.named;
      factor = f.2.read.some;
      few = f.2.read.few;
      products = f.2.read.products;
      texts = ap (λ (v : Words). codes "vertex" ∷ v) line;
    }

pub vertex_kind : (ps : List Particle) (ws : Words) (kind : AsmKind) → vertex_row ps ws ≡ Err kind → KindIs kind (codes "vertex" ∷ ws)
vertex_kind ps ws kind e = both_ways (vertex_row ps ws) kind (codes "vertex" ∷ ws) e (λ f. inl (vertex_form ps ws f)) back
  where
    back : NamesFields (codes "vertex" ∷ ws) → (k : AsmKind) → vertex_row ps ws ≡ Err k → k ≡ Name
    back form k f =
        let l = vertex_only ws form in
        said_kind ps l.structure l.order l.factors l.names k
        (sym (vertex_said ps l.structure l.order l.names l.factors l.small l.named l.three l.four l.products l.factor l.few) ∙ ap (vertex_row ps) (sym (ap tail l.texts)) ∙ f)
        l.three l.four
