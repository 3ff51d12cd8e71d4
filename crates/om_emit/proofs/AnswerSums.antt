-- The sums of the code of a canonical graph are those over its keystone terms, flow by flow.
use Rattle.std.proofs.Common.{◌≡◌, ◌≢◌, ℕ, zero, suc, ◌+◌, ◌<◌, List, [], ◌∷◌, length, map, Bool, true, false, cond, inl, inr, refl, ap, ap₂, sym, subst, ◌∙◌, arith, get_or-set_same, get_or-set_other}
use Rattle.std.specs.Prelude.{◌==◌, replicate, slice_index_or}
use Rattle.std.specs.List.{AllByRecursion, filter}
use Rattle.std.proofs.lemmas.Bool.Decides.{nat_tests}
use Rattle.std.proofs.lemmas.List.{length-replicate, length-set}
use Rattle.om_ring.specs.Members.{In}
use Rattle.om_ring.specs.Ops.{Ops, Laws}
use Rattle.om_ring.specs.Sums.{sum_over}
use Rattle.om_ring.proofs.RingLemmas.{zero_plus}
use Rattle.om_colour.specs.declared.Flow.{Flow}
use Rattle.om_model.specs.declared.process.Process.{Process}
use Rattle.om_model.specs.Event.{Balances, Event}
use Rattle.om_model.specs.FeynmanRules.{FeynmanRules, Table}
use Rattle.om_model.specs.ProcessOf.{IsProcessOf}
use Rattle.om_model.specs.Theory.{Scattering}
use Rattle.om_model.specs.WellFormed.{IsWellFormed}
use Rattle.om_graph.specs.declared.Graph.{Graph}
use Rattle.om_graph.specs.declared.KeyTerm.{KeyTerm}
use Rattle.om_graph.specs.Possible.{unsigned_key}
use Rattle.om_legs.specs.BranchNodes.{nodes_of}
use Rattle.om_graph.specs.Reactions.{reaction_of}
use Rattle.om_ring.proofs.Members.{in_map}
use Rattle.om_keystone.specs.Built.{keys_at_flow}
use Rattle.om_keystone.specs.CanonicalGraph.{IsCanonicalOf}
use Rattle.om_keystone.specs.NodeWaves.{AreNodeWaves, flow_values, key_value}
use Rattle.om_keystone.proofs.BuiltGraph.{canonical_is_built}
use Rattle.om_keystone.proofs.Numbers.{at_of}
use Rattle.om_code.specs.declared.code.Code.{Code}
use Rattle.om_code.specs.Contents.{Content, code_meaning, entering, made_number, summed_content}
use Rattle.om_code.specs.Meaning.{sums_of}
use Rattle.om_code.specs.Waves.{Incoming}
use Rattle.om_machine.specs.Events.{IsMadeFor}
use Rattle.om_emit.specs.EmittedAnswer.{with_sums}
use Rattle.om_emit.specs.GraphCode.{IsCodeOf}
use Rattle.om_emit.specs.NodeContents.{closed_sums}
use Rattle.om_emit.proofs.AnswerNodes.{contents-are}
use Rattle.om_emit.proofs.AnswerTerms.{closed-is, content, event as event_in, rules as rules_in, s as scattering_in}
use Rattle.om_emit.proofs.EmittedSums.{emitted_code_gives_sums}

-- sums to which keystone terms add
module _ {E : Type 0} (o : Ops E) (l : Laws o) (c : Code) (t : Table E) (e : Incoming E) (held : ℕ → Content E) (value : KeyTerm → E) where
  abbrev entry : List E → ℕ → E
  entry sums k = slice_index_or sums k o.zero

  abbrev Adds : KeyTerm → Type 0
  Adds y = made_number o c t e y.minus y.vertex y.choice (map entering (map held (nodes_of y.branches))) ≡ value y

  abbrev after : List E → KeyTerm → List E
  after sums y = summed_content o c t e y.flow y.minus y.vertex y.choice (map held (nodes_of y.branches)) sums

  after-length : (sums : List E) (y : KeyTerm) → length (after sums y) ≡ length sums
  unfolding summed_content
  after-length sums y = length-set sums y.flow _

  after-is : (sums : List E) (y : KeyTerm) (k : ℕ) → Adds y → y.flow < length sums → entry (after sums y) k ≡ cond (y.flow == k) (o.plus (entry sums k) (value y)) (entry sums k)
  unfolding summed_content
  after-is sums y k adds below = by (y.flow == k) refl
    where
      by : (b : Bool) → (y.flow == k) ≡ b → entry (after sums y) k ≡ cond b (o.plus (entry sums k) (value y)) (entry sums k)
      by true q =
          let same : y.flow ≡ k = grind (arith, nat_tests) in
          ap (entry (after sums y)) (sym same) ∙ get_or-set_same sums y.flow _ o.zero below ∙ ap₂ o.plus (ap (entry sums) same) adds
      by false q = let other : k ≢ y.flow = λ z. (let same : (y.flow == k) ≡ true = grind (arith, nat_tests) in absurd (let never : ⊥ = cc in never)) in get_or-set_other sums y.flow k _ o.zero other

  pub sums-length : (sums : List E) (ys : List KeyTerm) → length (closed_sums (code_meaning o c t e) held sums ys) ≡ length sums
  unfolding closed_sums
  sums-length sums [] = refl
  sums-length sums (y ∷ ys) = sums-length (after sums y) ys ∙ after-length sums y

  pub sums-are : (sums : List E) (ys : List KeyTerm) → ((y : KeyTerm) → In y ys → Adds y) → AllByRecursion (λ (y : KeyTerm). y.flow < length sums) ys → (k : ℕ)
      → entry (closed_sums (code_meaning o c t e) held sums ys) k ≡ o.plus (entry sums k) (sum_over o (filter (λ (y : KeyTerm). y.flow == k) ys) value)
  unfolding closed_sums
  sums-are sums [] adds below k = sym (l.plus_zero (entry sums k))
  sums-are sums (y ∷ ys) adds below k =
      sums-are (after sums y) ys (λ z i. adds z (inr i)) (subst (λ n. AllByRecursion (λ (z : KeyTerm). z.flow < n) ys) (sym (after-length sums y)) below.1) k
      ∙ ap (λ x. o.plus x (sum_over o (filter (λ (z : KeyTerm). z.flow == k) ys) value)) (after-is sums y k (adds y (inl refl)) below.0)
      ∙ by (y.flow == k)
    where
      by : (b : Bool) → o.plus (cond b (o.plus (entry sums k) (value y)) (entry sums k)) (sum_over o (filter (λ (z : KeyTerm). z.flow == k) ys) value)
          ≡ o.plus (entry sums k) (sum_over o (cond b (y ∷ filter (λ (z : KeyTerm). z.flow == k) ys) (filter (λ (z : KeyTerm). z.flow == k) ys)) value)
      by true = l.plus_assoc (entry sums k) (value y) _
      by false = refl

zeros : {E : Type 0} (x : E) (n k : ℕ) → slice_index_or (replicate n x) k x ≡ x
zeros x zero k = refl
zeros x (suc n) zero = refl
zeros x (suc n) (suc k) = zeros x n k

module _ {E : Type 0} (o : Ops E) (l : Laws o) (c : Code) (p : Process) (formed : IsWellFormed c.model) (of : IsProcessOf c.model p) (g : Graph) (canonical : IsCanonicalOf (reaction_of c.model p) g)
    (code : IsCodeOf c.model p g c) (t : Table E) (e : Incoming E) (wave : ℕ → ℕ → E) where
  abbrev scattering : Scattering
  scattering = scattering_in o l c p formed of g canonical code t e wave

  abbrev rules : FeynmanRules E
  rules = rules_in o l c p formed of g canonical code t e wave

  abbrev event : Event E
  event = event_in o l c p formed of g canonical code t e wave

  abbrev held : ℕ → Content E
  held = content o l c p formed of g canonical code t e wave

  abbrev value : KeyTerm → E
  value = key_value o scattering rules event g wave

  key-adds : (y : KeyTerm) → In y g.keys → made_number o c t e y.minus y.vertex y.choice (map entering (map held (nodes_of y.branches))) ≡ value y
  key-adds y i =
      let met = (canonical.graph.keys (unsigned_key y)).0 (in_map unsigned_key y g.keys i) in
      closed-is o l c p formed of g canonical code t e wave y.vertex y.choice (nodes_of y.branches) met.branches met.flow (at_of g.nodes (nodes_of y.branches) met.branches met.are_branches) met.met.close y.minus

  flows-from : (xs : List E) (m : ℕ) (us : List Flow) → length xs ≡ length us → ((j : ℕ) → j < length us → slice_index_or xs j o.zero ≡ sum_over o (keys_at_flow g.keys (m + j)) value)
      → with_sums us xs ≡ flow_values o scattering rules event g wave m us
  unfolding flow_values
  flows-from xs m [] q h = refl
  flows-from [] m (u ∷ us) q h = absurd (omega (arith, q))
  flows-from (x ∷ xs) m (u ∷ us) q h =
      let here : m + 0 ≡ m = omega arith in
      ap₂ (λ y rest. (u.ends, y) ∷ rest) (h 0 (omega arith) ∙ ap (λ k. sum_over o (keys_at_flow g.keys k) value) here)
      (flows-from xs (suc m) us (omega arith) (λ j b. h (suc j) (omega arith) ∙ (let next : m + suc j ≡ suc m + j = omega arith in ap (λ k. sum_over o (keys_at_flow g.keys k) value) next)))

  -- the sums of the code are those of the graph
  pub flows-are : IsMadeFor c e → AreNodeWaves o scattering rules event g wave → Balances o event scattering.size → with_sums c.flows (sums_of o c t e) ≡ flow_values o scattering rules event g wave 0 g.flows
  unfolding keys_at_flow
  flows-are made are balanced =
      let built = canonical_is_built c.model p formed of g canonical in
      let first = replicate (length c.flows) o.zero in
      let count : length first ≡ length g.flows = length-replicate (length c.flows) o.zero ∙ ap length code.flows in
      let sums = closed_sums (code_meaning o c t e) held first g.keys in
      ap₂ with_sums code.flows (emitted_code_gives_sums o c.model p g c t e held code built (contents-are o l c p formed of g canonical code t e wave made are balanced))
      ∙ flows-from sums 0 g.flows (sums-length o l c t e held value first g.keys ∙ count) (λ j b.
      sums-are o l c t e held value first g.keys key-adds (subst (λ n. AllByRecursion (λ (y : KeyTerm). y.flow < n) g.keys) (sym count) built.flows) j
      ∙ ap (λ x. o.plus x (sum_over o (keys_at_flow g.keys j) value)) (zeros o.zero (length c.flows) j)
      ∙ zero_plus o l (sum_over o (keys_at_flow g.keys j) value)
      ∙ (let none : j ≡ 0 + j = omega arith in ap (λ k. sum_over o (keys_at_flow g.keys k) value) none))
