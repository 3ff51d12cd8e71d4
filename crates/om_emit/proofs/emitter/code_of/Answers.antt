use Rattle.std.proofs.Common.{◌<◌, ◌++◌, arith, refl, ap, sym, ◌∙◌, length, vec_len, map, subst}
use Rattle.om_model.specs.Model.{anti_field}
use Rattle.om_emit.specs.Planning.{slot_in_plan}
use Rattle.om_code.specs.Ops.{op_of, lines_of_code}
use Rattle.om_code.specs.Spans.{is_named, width}
use Rattle.om_code.specs.SlotPlans.{first_fit}
use Rattle.om_emit.specs.GraphCode.{dens_of, key_lines}
use Rattle.om_emit.proofs.Emitted.{slice_few, slice_has, same_dens, all_below, keys_known, the_slots, the_instrs}
use Rattle.om_emit.proofs.emitter.code_of.Goals as goal

pub node_code-requires-clause-few_dens : goal.node_code-requires-clause-few_dens
node_code-requires-clause-few_dens c = slice_few c.args.graph.now c.as_slice-particles.result.now c.len-n.result c.as_slice-in_order.result.now
    (c.as_slice-in_order.ensures ∙ c.in_ok-dens.ensures ∙ c.in_ok-edges.ensures.edges ∙ ap (dens_of (anti_field c.as_slice-particles.result.now) c.len-n.result) c.as_slice-nodes.ensures) (let few = c.requires.few_nodes in omega (arith, few))

pub node_code-requires-clause-there : goal.node_code-requires-clause-there
node_code-requires-clause-there c = slice_has c.args.graph.now c.as_slice-particles.result.now c.len-n.result c.as_slice-in_order.result.now
    (c.as_slice-in_order.ensures ∙ c.in_ok-dens.ensures ∙ c.in_ok-edges.ensures.edges ∙ ap (dens_of (anti_field c.as_slice-particles.result.now) c.len-n.result) c.as_slice-nodes.ensures)

pub plan_with_keys-requires-clause-in_range : goal.plan_with_keys-requires-clause-in_range
plan_with_keys-requires-clause-in_range c r h =
    let small : r < length c.args.graph.now.nodes = all_below c.args.graph.now c.args.model.now (length c.args.process.now.legs) c.as_slice-particles.result.now c.len-n.result c.as_slice-in_order.result.now c.as_slice-named.result.now c.as_slice-particles.ensures c.len-n.ensures
    (c.as_slice-in_order.ensures ∙ c.in_ok-dens.ensures ∙ c.in_ok-edges.ensures.edges ∙ ap (dens_of (anti_field c.as_slice-particles.result.now) c.len-n.result) c.as_slice-nodes.ensures) c.requires.built
    (ap (map op_of) c.as_slice-named.ensures ∙ c.in_ok-instrs.ensures) r h in
    subst (λ n. r < n) (ap length (sym c.as_slice-nodes.ensures)) small

pub plan_with_keys-requires-clause-known : goal.plan_with_keys-requires-clause-known
plan_with_keys-requires-clause-known c r h = keys_known c.args.graph.now c.args.model.now (length c.args.process.now.legs) c.as_slice-particles.result.now c.len-n.result c.as_slice-in_order.result.now c.as_slice-named.result.now c.as_slice-particles.ensures c.len-n.ensures
    (c.as_slice-in_order.ensures ∙ c.in_ok-dens.ensures ∙ c.in_ok-edges.ensures.edges ∙ ap (dens_of (anti_field c.as_slice-particles.result.now) c.len-n.result) c.as_slice-nodes.ensures) c.requires.built
    (ap (map op_of) c.as_slice-named.ensures ∙ c.in_ok-instrs.ensures) r (ap (λ ks. is_named (key_lines ks) r) (sym c.as_slice-keys.ensures) ∙ h)

pub returns-clause-code : goal.returns-clause-code
returns-clause-code c =
    let lines = lines_of_code c.as_slice-named.result.now in
    record {
      version = refl;
      same_model = c.in_ok-copy.ensures;
      legs = c.in_ok-fields_of.ensures;
      flows = c.in_ok-copy-2.ensures;
      dens = sym c.as_slice-in_order.ensures ∙ same_dens c.args.graph.now c.args.model.now (length c.args.process.now.legs) c.as_slice-particles.result.now c.len-n.result c.as_slice-in_order.result.now c.as_slice-named.result.now c.as_slice-particles.ensures c.len-n.ensures
          (c.as_slice-in_order.ensures ∙ c.in_ok-dens.ensures ∙ c.in_ok-edges.ensures.edges ∙ ap (dens_of (anti_field c.as_slice-particles.result.now) c.len-n.result) c.as_slice-nodes.ensures) c.requires.built
          (ap (map op_of) c.as_slice-named.ensures ∙ c.in_ok-instrs.ensures);
      slots = the_slots c.args.graph.now c.args.model.now (length c.args.process.now.legs) c.as_slice-particles.result.now c.len-n.result c.as_slice-in_order.result.now c.as_slice-named.result.now c.as_slice-particles.ensures c.len-n.ensures
          (c.as_slice-in_order.ensures ∙ c.in_ok-dens.ensures ∙ c.in_ok-edges.ensures.edges ∙ ap (dens_of (anti_field c.as_slice-particles.result.now) c.len-n.result) c.as_slice-nodes.ensures) c.requires.built
          (ap (map op_of) c.as_slice-named.ensures ∙ c.in_ok-instrs.ensures) c.count-slots.result (c.count-slots.ensures ∙ c.in_ok-plan.ensures.count ∙ ap (λ ks. width (lines ++ key_lines ks)) c.as_slice-keys.ensures);
      instrs = the_instrs c.args.graph.now c.args.model.now (length c.args.process.now.legs) c.as_slice-particles.result.now c.len-n.result c.as_slice-in_order.result.now c.as_slice-named.result.now c.as_slice-particles.ensures c.len-n.ensures
          (c.as_slice-in_order.ensures ∙ c.in_ok-dens.ensures ∙ c.in_ok-edges.ensures.edges ∙ ap (dens_of (anti_field c.as_slice-particles.result.now) c.len-n.result) c.as_slice-nodes.ensures) c.requires.built
          (ap (map op_of) c.as_slice-named.ensures ∙ c.in_ok-instrs.ensures) (slot_in_plan c.in_ok-plan.plan) c.in_ok-instrs.instrs c.place_all.new.instrs c.push_keys.new.instrs c.as_slice-keys.result.now
          (λ r h. c.in_ok-plan.ensures.plan r h ∙ ap (λ ks. first_fit (lines ++ key_lines ks) r) c.as_slice-keys.ensures) (sym c.as_slice-named.ensures) c.as_slice-keys.ensures c.place_all.ensures.ops c.in_ok-push_keys.ensures.ops;
    }
