-- What a machine answers for an event that was read.
use Rattle.std.proofs.Common.{◌≡◌, ◌≢◌, ℕ, ◌+◌, ◌*◌, ◌≤◌, List, [], ◌∷◌, length, map, refl, ap, ap₂, sym, subst, ◌∙◌, true, arith}
use Rattle.std.proofs.Math.Nat.{mul-le-mul_right}
use Rattle.std.proofs.lemmas.List.{length-map}
use Rattle.om_ring.specs.Ops.{Ops}
use Rattle.om_model.specs.ModelTable.{model_table}
use Rattle.om_model.specs.declared.model.Particle.{Particle}
use Rattle.om_code.specs.declared.code.Code.{Code}
use Rattle.om_code.specs.Meaning.{IsMeaning}
use Rattle.om_code.specs.Waves.{Incoming}
use Rattle.om_emit.specs.EmittedAnswer.{answer_with}
use Rattle.om_machine.specs.Events.{IsMadeFor, kind_of_field}
use Rattle.om_machine.specs.Laws.{SameTableSameMeaning}
use Rattle.om_machine.specs.Loaded.{answer_of}
use Rattle.om_machine.specs.Machines.{LoadedCode, SameTable, table_of}
use Rattle.om_machine.specs.declared.answer.Outcome.{Outcome}
use Rattle.om_event.specs.Events.{Legs}
use Rattle.om_event.specs.Kinds.{AreKindsOf, HasKinds, kind_named}
use Rattle.om_event.specs.Next.{Enters, Reading, incoming_of}
use Rattle.om_event.specs.declared.kind.WaveKind.{WaveKind}
use Rattle.om_event.specs.declared.kind.WaveKind.TheVariants.{Scalar, Row, Column, Vector}
use Rattle.om_top.specs.AnswerText.{answer_text}
use Rattle.om_top.specs.RunRan.{OwesMeaning}
use Rattle.om_top.specs.Streamed.{kinds_of, wave_kind}

-- the kinds of a reader
named_again : (kind : WaveKind) → wave_kind (kind_named kind) ≡ kind
named_again Scalar = refl
named_again Row = refl
named_again Column = refl
named_again Vector = refl

pub kinds_are : (particles : List Particle) (fields : List ℕ) (kinds : List WaveKind) → map kind_named kinds ≡ map (kind_of_field particles) fields → kinds ≡ kinds_of particles fields
kinds_are particles [] [] h = refl
kinds_are particles [] (kind ∷ kinds) h = cc
kinds_are particles (f ∷ fs) [] h = cc
kinds_are particles (f ∷ fs) (kind ∷ kinds) h =
    let first : kind_named kind ≡ kind_of_field particles f = cc in
    let later : map kind_named kinds ≡ map (kind_of_field particles) fs = cc in
    ap₂ ◌∷◌ (sym (named_again kind) ∙ ap wave_kind first) (kinds_are particles fs kinds later)

-- a code with legs has kinds
pub some_kinds : (particles : List Particle) (fields : List ℕ) → 3 ≤ length fields → kinds_of particles fields ≢ []
some_kinds particles [] h = λ e. omega (arith, h)
some_kinds particles (f ∷ fs) h = λ e. cc

module _ {E : Type 0} (o : Ops E) (show : E → List ℕ) where
  -- the text of what was evaluated is owed
  pub owed : SameTableSameMeaning o → (m : LoadedCode E) (c : Code) → m.code ≡ c → SameTable o (table_of o m) (model_table o c.model) → (e : Incoming E) (legs : Legs E) → Enters legs e
      → IsMadeFor c e → (outcome : Outcome) → IsMeaning o m.code (table_of o m) e (answer_of outcome m.sums) → (number : ℕ)
      → OwesMeaning o show c number legs (answer_text show m.code.model number (answer_with m.code.flows (answer_of outcome m.sums)))
  owed law m c same table e legs enters made outcome meaning number =
      let entered : e ≡ incoming_of legs = ap₂ (λ momenta waves. let r : Incoming E = record { momenta = momenta; waves = waves } in r) enters.momenta enters.waves in
      let made' : IsMadeFor m.code (incoming_of legs) = subst (IsMadeFor m.code) entered (subst (λ (x : Code). IsMadeFor x e) (sym same) made) in
      let table' : SameTable o (table_of o m) (model_table o m.code.model) = subst (λ (x : Code). SameTable o (table_of o m) (model_table o x.model)) (sym same) table in
      let meaning' = law m.code (table_of o m) (model_table o m.code.model) (incoming_of legs) (answer_of outcome m.sums) table' (subst (λ x. IsMeaning o m.code (table_of o m) x (answer_of outcome m.sums)) entered meaning) in
      let text : List ℕ = answer_text show m.code.model number (answer_with m.code.flows (answer_of outcome m.sums)) in
      subst (λ (x : Code). OwesMeaning o show x number legs text) same
      (made', answer_with m.code.flows (answer_of outcome m.sums), (answer_of outcome m.sums, meaning', refl), refl)

pub more_calls : (a b each cost : ℕ) → b ≤ a → b * each * cost ≤ a * each * cost
more_calls a b each cost h = mul-le-mul_right cost (mul-le-mul_right each h)

-- as many kinds as legs
pub count_kinds : (particles : List Particle) (fields : List ℕ) → length (kinds_of particles fields) ≡ length fields
count_kinds particles fields = length-map fields (λ f. wave_kind (kind_of_field particles f))

-- the calls of an event
module _ (begun k part legs cost initial before now : ℕ) (so_far : before ≤ initial + k * (part + 32 * legs) * cost) where
  -- read and answered
  pub calls_answered : (read : ℕ) → read ≤ before + legs * (32 * cost) → now ≤ read + part * cost → now ≤ initial + (k + 1) * (part + 32 * legs) * cost
  calls_answered read h g = omega (arith, h, g)

  -- of which no more was read than was begun
  pub calls_begun : now ≤ before + legs * (32 * cost) → k + 1 ≤ begun → now ≤ initial + begun * (part + 32 * legs) * cost
  calls_begun h b = omega (arith, h, mul-le-mul_right cost (mul-le-mul_right (part + 32 * legs) b))

  pub calls_none : now ≡ before → k ≤ begun → now ≤ initial + begun * (part + 32 * legs) * cost
  calls_none h b = omega (arith, h, mul-le-mul_right cost (mul-le-mul_right (part + 32 * legs) b))

-- a machine as it was at first and as it is now, and its reader and event, after k events
pub record IsReading {E : Type 0} (first now : LoadedCode E) (r : Reading) (k : ℕ) (e : Incoming E) : Type 0 where
  pub code : now.code ≡ first.code
  pub factors : now.factors ≡ first.factors
  pub masses : now.masses ≡ first.masses
  pub are : AreKindsOf first.code r.kinds
  pub live : r.live ≡ true
  pub given : r.given ≡ k
  pub made : HasKinds r.kinds e
