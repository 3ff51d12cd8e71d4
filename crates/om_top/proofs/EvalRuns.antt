-- What `eval` leaves, by the code of the graph.
use Rattle.std.proofs.Common.{◌≡◌, ℕ, ◌+◌, ◌↔◌, List, [], ◌∷◌, refl, ap, sym, subst, ◌∙◌}
use Rattle.om_ring.specs.Ops.{Ops}
use Rattle.om_colour.specs.declared.Flow.{Flow}
use Rattle.om_model.specs.Diagrams.{AreDiagrams}
use Rattle.om_model.specs.Model.{scattering_of}
use Rattle.om_model.specs.ModelTable.{model_table}
use Rattle.om_model.specs.ProcessOf.{IsProcessOf}
use Rattle.om_model.specs.Tree.{Tree}
use Rattle.om_model.specs.WellFormed.{IsWellFormed}
use Rattle.om_model.specs.declared.model.Model.{Model}
use Rattle.om_model.specs.declared.process.Process.{Process}
use Rattle.om_model.proofs.AllDiagrams.{diagrams, diagrams_are}
use Rattle.om_graph.specs.Reactions.{reaction_of}
use Rattle.om_graph.specs.declared.Graph.{Graph}
use Rattle.om_keystone.specs.CanonicalGraph.{IsCanonicalOf}
use Rattle.om_code.specs.declared.code.Code.{Code}
use Rattle.om_emit.specs.EmittedAnswer.{EmittedCodeGivesAnswer, MeansAnswer, NoDiagramNoFlow}
use Rattle.om_emit.specs.GraphCode.{IsCodeOf}
use Rattle.om_event.specs.Events.{Legs, events_of}
use Rattle.om_event.specs.Next.{incoming_of}
use Rattle.om_event.specs.declared.kind.WaveKind.{WaveKind}
use Rattle.om_top.specs.AnswerText.{answer_text}
use Rattle.om_top.specs.EvalRan.{Evaluates, OwesAnswer, process_kinds}
use Rattle.om_top.specs.Outside.{Side, IsUntouched}
use Rattle.om_top.specs.RunRan.{OwesMeaning, RunsCode, RunsOrNot}
use Rattle.om_top.specs.Streamed.{Lines, Streamed, UnlessNone, kinds_of}
use Rattle.om_top.specs.declared.ending.Ending.{Ending}
use Rattle.om_top.specs.declared.ending.Ending.TheVariants.{Done, EventFault, InputFault, OutFault, NoMemory}
use Rattle.om_top.proofs.ProgramRuns.{never}
use Rattle.om_top.proofs.Refused.{Went}

-- lines of which each is owed for another reason too
module _ {E : Type 0} (P Q : ℕ → Legs E → List ℕ → Type 0) (owed : (e : ℕ) (legs : Legs E) (text : List ℕ) → P e legs text → Q e legs text) where
  lines_too : (e : ℕ) (events : List (Legs E)) (text : List ℕ) → Lines P e events text → Lines Q e events text
  lines_too e [] text h = h
  lines_too e (legs ∷ events) text h = (h.0, h.1, owed e legs h.0 h.2, lines_too (e + 1) events h.1 h.3, h.4)

  module _ (o : Ops E) (kinds : List WaveKind) (input out : Side) where
    pub streamed_too : (e : Ending) → Streamed P o kinds input out e → Streamed Q o kinds input out e
    streamed_too Done (given, gave, (done, ended, (text, lines, gained))) = (given, gave, (done, ended, (text, lines_too 1 (events_of o kinds given).events text lines, gained)))
    streamed_too (EventFault fault) (given, gave, (whole, ended, (text, lines, gained))) = (given, gave, (whole, ended, (text, lines_too 1 (events_of o kinds given).events text lines, gained)))
    streamed_too InputFault (given, gave, (failed, ended, (text, lines, gained))) = (given, gave, (failed, ended, (text, lines_too 1 (events_of o kinds given).events text lines, gained)))
    streamed_too OutFault (given, gave, (failed, (answered, later, text, parts, lines, gained))) = (given, gave, (failed, (answered, later, text, parts, lines_too 1 answered text lines, gained)))
    streamed_too e h = absurd h.2

module _ {E : Type 0} (o : Ops E) (show : E → List ℕ) (answers : EmittedCodeGivesAnswer o) (none : NoDiagramNoFlow) (m : Model) (p : Process) (formed : IsWellFormed m) (fits : IsProcessOf m p)
    (g : Graph) (canonical : IsCanonicalOf (reaction_of m p) g) (c : Code) (is : IsCodeOf m p g c) where
  -- what the code means is the answer
  owes_answer : (e : ℕ) (legs : Legs E) (text : List ℕ) → OwesMeaning o show c e legs text → OwesAnswer o show m p e legs text
  owes_answer e legs text (made, a, means, written) =
      let meaning : MeansAnswer o c (model_table o m) (incoming_of legs) a = subst (λ (x : Model). MeansAnswer o c (model_table o x) (incoming_of legs) a) is.same_model means in
      (a, (answers m p formed fits g canonical c is (model_table o m) (incoming_of legs) made a).0 meaning, written ∙ ap (λ (x : Model). answer_text show x e a) is.same_model)

  same_kinds : kinds_of c.model.particles c.legs ≡ process_kinds o show m p
  same_kinds = ap (λ (x : Model). kinds_of x.particles c.legs) is.same_model ∙ ap (kinds_of m.particles) is.legs

  module _ (input out : Side) where
    abbrev by_code : Ending → Type 0
    by_code = Streamed (OwesMeaning o show c) o (kinds_of c.model.particles c.legs) input out

    abbrev by_model : Ending → Type 0
    by_model = Streamed (OwesAnswer o show m p) o (process_kinds o show m p) input out

    streamed_by_model : (e : Ending) → by_code e → by_model e
    streamed_by_model e h =
        subst (λ ks. Streamed (OwesAnswer o show m p) o ks input out e) same_kinds
        (streamed_too (OwesMeaning o show c) (OwesAnswer o show m p) owes_answer o (kinds_of c.model.particles c.legs) input out e h)

    no_flow : AreDiagrams (scattering_of m p) [] ↔ (c.flows ≡ [])
    no_flow = (none m p formed fits g canonical c is).0

    some_diagrams : (ts : List Tree) → AreDiagrams (scattering_of m p) ts → (w : Flow) (ws : List Flow) → c.flows ≡ w ∷ ws → (e : Ending) → by_model e → UnlessNone ts input out by_model e
    some_diagrams [] are w ws some e h = let q : [] ≡ w ∷ ws = sym (no_flow.0 are) ∙ some in absurd cc
    some_diagrams (t ∷ ts) are w ws some e h = h

    evaluates : (flows : List Flow) → c.flows ≡ flows → (e : Ending) → UnlessNone flows input out by_code e → Evaluates o show m p input out e
    evaluates [] same e h = ([], no_flow.1 same, h)
    evaluates (w ∷ ws) same e h =
        let ts = diagrams (scattering_of m p) in
        let are = diagrams_are (scattering_of m p) in
        (ts, are, some_diagrams ts are w ws same e (streamed_by_model e h))

    pub evaluated : (e : Ending) → RunsCode o show c input out e → Evaluates o show m p input out e
    evaluated e h = evaluates c.flows refl e h

    -- with want of memory
    pub went : (e : Ending) → RunsOrNot o show c input out e → Went (IsUntouched input × IsUntouched out) (Evaluates o show m p input out) e
    went Done h = evaluated Done h
    went (EventFault fault) h = evaluated (EventFault fault) h
    went InputFault h = evaluated InputFault h
    went OutFault h = evaluated OutFault h
    went NoMemory h = h
    went e h = never c.flows input out by_code e (λ x. x) (λ x. x.2) h
