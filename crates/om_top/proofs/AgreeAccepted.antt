-- The text of the code of a graph is accepted.
use Rattle.std.proofs.Common.{ℕ, ◌+◌, List, [], ◌∷◌, inl, inr, refl, sym, subst, arith}
use Rattle.std.specs.List.{AllByRecursion}
use Rattle.std.proofs.lemmas.List.{length-take-le}
use Rattle.om_ring.specs.Ops.{Ops}
use Rattle.om_model.specs.ProcessOf.{IsProcessOf}
use Rattle.om_model.specs.Rules.{IsAccepted}
use Rattle.om_model.specs.declared.model.Model.{Model}
use Rattle.om_model.specs.declared.process.Process.{Process}
use Rattle.om_model.specs.declared.rules.ModelRule.TheVariants.{NoInverse}
use Rattle.om_model.specs.declared.rules.Table.TheVariants.{Particle, Vertex}
use Rattle.om_graph.specs.declared.Graph.{Graph}
use Rattle.om_code.specs.declared.code.Code.{Code}
use Rattle.om_code.specs.declared.code.Instr.{Instr}
use Rattle.om_code.specs.declared.code.Instr.TheVariants.{Load, Fuse, Prop, Key}
use Rattle.om_code.specs.Verified.{IsVerified}
use Rattle.om_machine.specs.Machines.{LacksInverse}
use Rattle.om_emit.specs.Counts.{CountsNodes}
use Rattle.om_emit.specs.GraphCode.{IsCodeOf}
use Rattle.om_emit.proofs.CodesVerified.{code_is_verified}
use Rattle.om_asm.specs.InRange.{CodeInRange, InstrInRange}
use Rattle.om_asm.proofs.VisibleLines.{code_again}
use Rattle.om_program_text.specs.ProgramText.{program_text}
use Rattle.om_top.specs.Loads.{IsGraphOf, SaysProgram}
use Rattle.om_top.proofs.Files.{formed}
use Rattle.om_top.proofs.GraphSizes.{few_flows, few_nodes, few_terms}

-- an array of four numbers has as many branches as are counted
counts_nodes : (i : Instr) → InstrInRange i → CountsNodes i
counts_nodes (Load to leg) h = tt
counts_nodes (Fuse to minus vertex choice b) h = let four = h.1 in let few = b.valid.within in sym (length-take-le b.count b.nodes (omega (arith, four, few)))
counts_nodes (Prop of den) h = tt
counts_nodes (Key flow minus vertex choice b) h = let four = h.1 in let few = b.valid.within in sym (length-take-le b.count b.nodes (omega (arith, four, few)))

all_count : (is : List Instr) → AllByRecursion InstrInRange is → AllByRecursion CountsNodes is
all_count [] h = tt
all_count (i ∷ is) h = (counts_nodes i h.0, all_count is h.1)

module _ {E : Type 0} (o : Ops E) (m : Model) (p : Process) (accepted : IsAccepted o m) (is : IsProcessOf m p) (g : Graph) (its : IsGraphOf m p g) (c : Code) (code : IsCodeOf m p g c) (range : CodeInRange c) where
  pub keeps_rules : IsVerified c
  keeps_rules =
      let well = formed o m accepted in
      let flows = few_flows m p well is g its.canonical in
      let nodes = few_nodes m p well is g its.canonical c code in
      let terms = few_terms m p well is g its.canonical its.possible its.is_possible in
      let few = its.few in
      let legs = is.most in
      code_is_verified m p well is g its.canonical c code (omega (arith, nodes, terms, few, legs)) (omega (arith, flows, terms, few)) (all_count c.instrs range.instrs)

  no_row_lacks : IsAccepted o c.model → (k : ℕ) → LacksInverse o c k → ⊥
  no_row_lacks kept k lacks = elim lacks [
    | inl (p, is, without) ↦ kept (record { rule = NoInverse; table = Particle; row = k + 1 }) (k, p, refl, is, without)
    | inr (row, v, at, is, without) ↦ kept (record { rule = NoInverse; table = Vertex; row = row + 1 }) (row, v, refl, is, without)
  ]

  pub text_is_accepted : SaysProgram o (program_text c) c
  text_is_accepted = record {
    reads = code_again c keeps_rules.plain range;
    verified = keeps_rules;
    inverses = no_row_lacks (subst (IsAccepted o) (sym code.same_model) accepted);
  }
