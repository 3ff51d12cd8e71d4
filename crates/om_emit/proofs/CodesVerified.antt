-- The code of a canonical graph is verified.
use Rattle.std.proofs.Common.{ℕ, ◌^◌, ◌<◌, length, inr, sym, ap, subst, arith}
use Rattle.std.specs.List.{AllByRecursion}
use Rattle.om_model.specs.ProcessOf.{IsProcessOf}
use Rattle.om_model.specs.Rules.{HasLengths}
use Rattle.om_model.specs.WellFormed.{IsWellFormed}
use Rattle.om_model.specs.declared.model.Model.{Model}
use Rattle.om_model.specs.declared.process.Process.{Process}
use Rattle.om_graph.specs.declared.Graph.{Graph}
use Rattle.om_graph.specs.Reactions.{reaction_of}
use Rattle.om_keystone.specs.CanonicalGraph.{IsCanonicalOf}
use Rattle.om_code.specs.declared.code.Code.{Code}
use Rattle.om_code.specs.Plain.{AreSlots, InParts, IsPlain, IsPlainInstr, IsPlainVertex}
use Rattle.om_code.specs.SlotPlans.{first_fit}
use Rattle.om_code.specs.Verified.{IsVerified}
use Rattle.om_emit.specs.Counts.{CountsNodes}
use Rattle.om_emit.specs.GraphCode.{IsCodeOf, den_place, register_lines, register_ops}
use Rattle.om_emit.proofs.FlowRules.{flows_keep, plain_flows}
use Rattle.om_emit.proofs.GraphHelds.{as_many_legs}
use Rattle.om_emit.proofs.GraphRules.{slots_few, slots_small}
use Rattle.om_emit.proofs.PlainInstrs.{plain_instrs, rules_kept}
use Rattle.om_emit.proofs.ProgramParts.{graph_parts}
use Rattle.om_emit.proofs.RowsPlain.{dens_keep, plain_dens, plain_legs, plain_particles, plain_vertices}

module _ (m : Model) (p : Process) (formed : IsWellFormed m) (is : IsProcessOf m p) (g : Graph) (canonical : IsCanonicalOf (reaction_of m p) g) (c : Code) (code : IsCodeOf m p g c)
    (few_nodes : length g.nodes < 2 ^ 31) (few_flows : length g.flows < 2 ^ 31) (counts : AllByRecursion CountsNodes c.instrs) where
  parts : InParts 0 c.instrs
  unfolding register_ops
  parts = graph_parts (den_place m (length p.legs) g) g.terms g.nodes g.keys (first_fit (register_lines m (length p.legs) g)) c.instrs canonical.graph.nodes_rise code.instrs

  small_slots : AreSlots c.version c.slots c.instrs
  small_slots =
      let few : c.slots < 2 ^ 32 = let a = slots_small m p formed is g canonical c code in omega (arith, a, few_nodes) in
      let P : ℕ → Type 0 = λ v. AreSlots v c.slots c.instrs in
      subst P (sym code.version) few

  plain : IsPlain c
  plain =
      let most = formed.particles in
      let rows = ap (λ (x : Model). length x.particles) code.same_model in
      let particles : Model → Type 0 = λ x. AllByRecursion HasLengths x.particles in
      let vertices : Model → Type 0 = λ x. AllByRecursion (IsPlainVertex x.particles) x.vertices in
      let instrs : ℕ → Type 0 = λ v. AllByRecursion (IsPlainInstr v) c.instrs in
      record {
        version = inr code.version;
        few_particles = omega (arith, most, rows);
        particles = subst particles (sym code.same_model) (plain_particles m formed);
        vertices = subst vertices (sym code.same_model) (plain_vertices m formed);
        legs = plain_legs m p formed is g canonical c code;
        flows = plain_flows m p formed is g canonical c code;
        dens = plain_dens m p formed is g canonical c code;
        slots = small_slots;
        instrs = subst instrs (sym code.version) (plain_instrs m p formed is g canonical c code few_nodes few_flows counts);
        parts = parts;
      }

  pub code_is_verified : IsVerified c
  code_is_verified =
      let legs = as_many_legs m p formed is g canonical c code in
      let least = is.least in
      let most = is.most in
      let kept = rules_kept m p formed is g canonical c code few_nodes few_flows in
      record {
        plain = plain;
        model = subst IsWellFormed (sym code.same_model) formed;
        some_legs = omega (arith, legs, least);
        few_legs = omega (arith, legs, most);
        flows = flows_keep m p formed is g canonical c code;
        dens = dens_keep m p formed is g canonical c code;
        few_slots = λ _. slots_few m p formed is g canonical c code;
        instrs = kept.0;
        settled = kept.1;
      }
