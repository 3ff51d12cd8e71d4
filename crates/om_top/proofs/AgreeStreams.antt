-- For each input `run` owes on the code of a graph what `eval` owes.
use Rattle.std.proofs.Common.{◌≡◌, ◌↔◌, ℕ, ◌+◌, List, [], ◌∷◌, ◌++◌, map, refl, ap, ap₂, sym, subst}
use Rattle.std.specs.List.{AllByRecursion}
use Rattle.om_ring.specs.Ops.{Ops, Laws}
use Rattle.om_model.specs.Diagrams.{AreDiagrams}
use Rattle.om_model.specs.Model.{scattering_of}
use Rattle.om_model.specs.ModelTable.{model_table}
use Rattle.om_model.specs.ProcessOf.{IsProcessOf}
use Rattle.om_model.specs.Tree.{Tree}
use Rattle.om_model.specs.WellFormed.{IsWellFormed}
use Rattle.om_model.specs.declared.model.Model.{Model}
use Rattle.om_model.specs.declared.model.Particle.{Particle}
use Rattle.om_model.specs.declared.process.Process.{Process}
use Rattle.om_model.proofs.AllDiagrams.{diagrams, diagrams_are, only_one}
use Rattle.om_colour.specs.declared.Flow.{Flow}
use Rattle.om_graph.specs.declared.Graph.{Graph}
use Rattle.om_graph.specs.Reactions.{reaction_of}
use Rattle.om_keystone.specs.CanonicalGraph.{IsCanonicalOf}
use Rattle.om_code.specs.declared.code.Code.{Code}
use Rattle.om_emit.specs.GraphCode.{IsCodeOf}
use Rattle.om_emit.proofs.AnswerFlows.{no_diagram_no_flow}
use Rattle.om_emit.proofs.EmittedAnswer.{emitted_code_gives_answer}
use Rattle.om_event.specs.Events.{Legs, events_of}
use Rattle.om_event.specs.Kinds.{HasKinds, kind_named}
use Rattle.om_event.specs.Next.{incoming_of}
use Rattle.om_event.specs.declared.kind.WaveKind.{WaveKind}
use Rattle.om_event.proofs.KindsOfCode.{made_by_kinds}
use Rattle.om_kernel.specs.Waves.{Kind, a_column, a_row, a_scalar, a_vector}
use Rattle.om_machine.specs.Events.{IsMadeFor, kind_of_field}
use Rattle.om_top.specs.Agree.{RunOwesWhatEvalOwes}
use Rattle.om_top.specs.EvalRan.{Evaluates, OwesAnswer, process_kinds}
use Rattle.om_top.specs.Outside.{Side}
use Rattle.om_top.specs.RunRan.{OwesMeaning, RunsCode}
use Rattle.om_top.specs.Streamed.{Lines, Streamed, StreamedGiven, UnlessNone, kinds_of, wave_kind}
use Rattle.om_top.specs.declared.ending.Ending.{Ending}
use Rattle.om_top.specs.declared.ending.Ending.TheVariants as ending
use Rattle.om_event.proofs.EventKinds.{events_have_kinds}
use Rattle.om_top.proofs.Files.{formed}

named_kind : (kind : Kind) → kind_named (wave_kind kind) ≡ kind
named_kind a_scalar = refl
named_kind a_row = refl
named_kind a_column = refl
named_kind a_vector = refl

-- the kinds of a code are those of its legs
kinds_of_code : (particles : List Particle) (fields : List ℕ) → map kind_named (kinds_of particles fields) ≡ map (kind_of_field particles) fields
kinds_of_code particles [] = refl
kinds_of_code particles (f ∷ fs) = ap₂ ◌∷◌ (named_kind (kind_of_field particles f)) (kinds_of_code particles fs)

-- the first of two lists has what the whole has
all_left : {A : Type 0} (P : A → Type 0) (xs ys : List A) → AllByRecursion P (xs ++ ys) → AllByRecursion P xs
all_left P [] ys h = tt
all_left P (x ∷ xs) ys h = (h.0, all_left P xs ys h.1)

module _ {E : Type 0} (o : Ops E) (One Other : ℕ → Legs E → List ℕ → Type 0) (kinds : List WaveKind)
    (same : (e : ℕ) (legs : Legs E) (text : List ℕ) → HasKinds kinds (incoming_of legs) → One e legs text → Other e legs text) where
  -- what is owed for events of these kinds in one way is owed in the other way
  lines_too : (e : ℕ) (events : List (Legs E)) (text : List ℕ) → AllByRecursion (λ legs. HasKinds kinds (incoming_of legs)) events → Lines One e events text → Lines Other e events text
  lines_too e [] text kind h = h
  lines_too e (event ∷ events) text kind h = (h.0, h.1, same e event h.0 kind.0 h.2, lines_too (e + 1) events h.1 kind.1 h.3, h.4)

  given_too : (input out : Side) (given : List ℕ) (ended : Ending) → StreamedGiven One o kinds input out given ended → StreamedGiven Other o kinds input out given ended
  given_too input out given ending.Done h = (h.0, h.1, (h.2.0, lines_too 1 (events_of o kinds given).events h.2.0 (events_have_kinds o kinds given) h.2.1, h.2.2))
  given_too input out given (ending.EventFault fault) h = (h.0, h.1, (h.2.0, lines_too 1 (events_of o kinds given).events h.2.0 (events_have_kinds o kinds given) h.2.1, h.2.2))
  given_too input out given ending.InputFault h = (h.0, h.1, (h.2.0, lines_too 1 (events_of o kinds given).events h.2.0 (events_have_kinds o kinds given) h.2.1, h.2.2))
  given_too input out given ending.OutFault h =
      let first = h.1 in
      let all = subst (λ events. AllByRecursion (λ legs. HasKinds kinds (incoming_of legs)) events) first.3 (events_have_kinds o kinds given) in
      (h.0, (first.0, first.1, first.2, first.3, lines_too 1 first.0 first.2 (all_left (λ legs. HasKinds kinds (incoming_of legs)) first.0 first.1 all) first.4, first.5))
  given_too input out given ended h = absurd h

  streamed_too : (input out : Side) (ended : Ending) → Streamed One o kinds input out ended → Streamed Other o kinds input out ended
  streamed_too input out ended h = (h.0, h.1, given_too input out h.0 ended h.2)

module _ {E : Type 0} (o : Ops E) (l : Laws o) (show : E → List ℕ) (c : Code) (p : Process) (formed : IsWellFormed c.model) (is : IsProcessOf c.model p) (g : Graph)
    (canonical : IsCanonicalOf (reaction_of c.model p) g) (code : IsCodeOf c.model p g c) where
  abbrev kinds : List WaveKind
  kinds = kinds_of c.model.particles c.legs

  made : (legs : Legs E) → HasKinds kinds (incoming_of legs) → IsMadeFor c (incoming_of legs)
  made legs h = (made_by_kinds c kinds (kinds_of_code c.model.particles c.legs) (incoming_of legs)).1 h

  answered : (e : ℕ) (legs : Legs E) (text : List ℕ) → HasKinds kinds (incoming_of legs) → OwesMeaning o show c e legs text → OwesAnswer o show c.model p e legs text
  answered e legs text h owed =
      (owed.1, (emitted_code_gives_answer o l c.model p formed is g canonical c code (model_table o c.model) (incoming_of legs) owed.0 owed.1).0 owed.2, owed.3)

  meant : (e : ℕ) (legs : Legs E) (text : List ℕ) → HasKinds kinds (incoming_of legs) → OwesAnswer o show c.model p e legs text → OwesMeaning o show c e legs text
  meant e legs text h owed =
      (made legs h, owed.0, (emitted_code_gives_answer o l c.model p formed is g canonical c code (model_table o c.model) (incoming_of legs) (made legs h) owed.0).1 owed.1, owed.2)

  same_kinds : kinds ≡ process_kinds o show c.model p
  same_kinds = ap (kinds_of c.model.particles) code.legs

  none : (AreDiagrams (scattering_of c.model p) [] → c.flows ≡ []) × (c.flows ≡ [] → AreDiagrams (scattering_of c.model p) [])
  none = let n = (no_diagram_no_flow c.model p formed is g canonical c code).0 in (n.0, n.1)

  evaluates : (input out : Side) (ended : Ending) → RunsCode o show c input out ended → Evaluates o show c.model p input out ended
  evaluates input out ended = by c.flows refl (diagrams (scattering_of c.model p)) refl
    where
      by : (ws : List Flow) → c.flows ≡ ws → (ts : List Tree) → diagrams (scattering_of c.model p) ≡ ts → UnlessNone ws input out (Streamed (OwesMeaning o show c) o kinds input out) ended → Evaluates o show c.model p input out ended
      by [] e ts d h = ([], none.1 e, h)
      by (w ∷ ws) e [] d h = absurd (let q = none.0 (subst (AreDiagrams (scattering_of c.model p)) d (diagrams_are (scattering_of c.model p))) in cc)
      by (w ∷ ws) e (t ∷ ts) d h = (
        t ∷ ts,
        subst (AreDiagrams (scattering_of c.model p)) d (diagrams_are (scattering_of c.model p)),
        subst (λ ks. Streamed (OwesAnswer o show c.model p) o ks input out ended) same_kinds (streamed_too o (OwesMeaning o show c) (OwesAnswer o show c.model p) kinds answered input out ended h),
      )

  runs : (input out : Side) (ended : Ending) → Evaluates o show c.model p input out ended → RunsCode o show c input out ended
  runs input out ended h = by c.flows refl h.0 h.1 h.2
    where
      by : (ws : List Flow) → c.flows ≡ ws → (ts : List Tree) → AreDiagrams (scattering_of c.model p) ts → UnlessNone ts input out (Streamed (OwesAnswer o show c.model p) o (process_kinds o show c.model p) input out) ended → UnlessNone ws input out (Streamed (OwesMeaning o show c) o kinds input out) ended
      by [] e [] a h = h
      by [] e (t ∷ ts) a h = absurd (let q = only_one (scattering_of c.model p) [] (t ∷ ts) (none.1 e) a in cc)
      by (w ∷ ws) e [] a h = absurd (let q = none.0 a in cc)
      by (w ∷ ws) e (t ∷ ts) a h =
          streamed_too o (OwesAnswer o show c.model p) (OwesMeaning o show c) kinds meant input out ended (subst (λ ks. Streamed (OwesAnswer o show c.model p) o ks input out ended) (sym same_kinds) h)

  code_agrees : (input out : Side) (ended : Ending) → RunsCode o show c input out ended ↔ Evaluates o show c.model p input out ended
  code_agrees input out ended = (evaluates input out ended, runs input out ended)

-- said over the model of the code, and then over the model that it is
pub compiled_agree : {E : Type 0} (o : Ops E) → Laws o → (show : E → List ℕ) → RunOwesWhatEvalOwes o show
compiled_agree o l show m p accepted is g its c code range input out ended =
    let Said : Model → Type 0 = λ x. IsWellFormed x → IsProcessOf x p → IsCanonicalOf (reaction_of x p) g → IsCodeOf x p g c
    → RunsCode o show c input out ended ↔ Evaluates o show x p input out ended in
    subst Said code.same_model (λ f q n k. code_agrees o l show c p f q g n k input out ended) (formed o m accepted) is its.canonical code
