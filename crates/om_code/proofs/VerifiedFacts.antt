-- Verified codes, by their lines.
use Rattle.std.proofs.Common.{◌≡◌, ℕ, ◌<◌, ◌≤◌, inl, inr, ⊎_elim, List, length, Some, arith}
use Rattle.std.specs.Prelude.{slice_get}
use Rattle.std.proofs.lemmas.Bool.{cases_lt, true≢false}
use Rattle.std.proofs.lemmas.Option.{slice_get_cases, slice_get_within}
use Rattle.std.proofs.Common.{sym, ◌∙◌}
use Rattle.om_model.specs.declared.limits.TheConstants.{MOST_PARTICLES, MOST_VERTICES}
use Rattle.om_code.specs.declared.code.CodeKind.{CodeKind}
use Rattle.om_code.specs.declared.code.CodeKind.TheVariants as kinds
use Rattle.om_code.specs.declared.code.Code.{Code}
use Rattle.om_code.specs.Plain.{IsPlain}
use Rattle.om_code.specs.Rules.{IsDen, IsFlow, IsParticle, IsVertex}
use Rattle.om_code.specs.Lines.{behind_dens, behind_flows, behind_legs, behind_particles, behind_slots, behind_vertices, den_lines, end_line, flow_lines, instr_lines, leg_lines, particle_lines, program_lines, slots_line, slots_lines, vertex_lines}
use Rattle.om_code.specs.Verified.{IsVerified}
use Rattle.om_code.proofs.Groups.{Refutes, both-refute, rows-refute}
use Rattle.om_code.proofs.Instrs.{instrs-refute, legs-refute, slots-refute}

-- where each row stands at a place below a limit, there are at most so many
few-rows : {A : Type 0} (rows : List A) (most : ℕ) → ((k : ℕ) (x : A) → slice_get rows k ≡ Some x → k < most) → length rows ≤ most
few-rows rows most below = ⊎_elim
    (λ (many : most < length rows). elim (slice_get_cases rows most).1 [
      | inl w ↦ absurd (let lt = below most w.0 w.2 in omega arith)
      | inr p ↦ absurd (omega (arith, p.0))
    ])
    (λ few. few)
    (cases_lt most (length rows))

module _ (c : Code) where
  -- a plain code whose lines keep the rules
  pub verified-from : IsPlain c → (program_lines c).keeps → IsVerified c
  verified-from plain (particles, (vertices, (few, (some, (flows, (dens, (slots, (instrs, settled)))))))) = record {
    plain = plain;
    model = record {
      particles = few-rows c.model.particles MOST_PARTICLES (λ k p at. (particles k p at).0);
      vertices = few-rows c.model.vertices MOST_VERTICES (λ k v at. (vertices k v at).0);
      formed_particles = λ k p at. (particles k p at).1;
      formed_vertices = λ k v at. (vertices k v at).1;
    };
    some_legs = some;
    few_legs = few;
    flows = flows;
    dens = dens;
    few_slots = slots;
    instrs = instrs;
    settled = settled;
  }

  -- the lines of a verified code keep the rules
  verified-keeps : IsVerified c → (program_lines c).keeps
  verified-keeps v =
      let most = v.model.particles in
      let most_vertices = v.model.vertices in (
        (λ k p at. (let lt = slice_get_within c.model.particles k p at in omega arith, v.model.formed_particles k p at)),
        (
          (λ k x at. (let lt = slice_get_within c.model.vertices k x at in omega arith, v.model.formed_vertices k x at)),
          (v.few_legs, (v.some_legs, (v.flows, (v.dens, (v.few_slots, (v.instrs, v.settled)))))),
        ),
      )

  end-refutes : Refutes (end_line c)
  end-refutes settled k kind b = true≢false (sym b.2 ∙ settled)

  behind-legs-refute : Refutes (behind_legs c)
  behind-legs-refute keeps k kind (inl b) = absurd (let many = keeps.0 in omega (arith, many, b.2))
  behind-legs-refute keeps k kind (inr b) =
      both-refute (length c.flows) (flow_lines c) (behind_flows c) (rows-refute kinds.Flow c.flows (IsFlow c))
      (both-refute (length c.dens) (den_lines c) (behind_dens c) (rows-refute kinds.Den c.dens (IsDen c))
      (both-refute (slots_lines c) (slots_line c) (behind_slots c) (slots-refute c)
      (both-refute (length c.instrs) (instr_lines c) (end_line c) (instrs-refute c) end-refutes)))
      keeps.1 k kind b

  -- no line of a verified code breaks a rule
  pub verified-breaks-none : IsVerified c → (k : ℕ) (kind : CodeKind) → (program_lines c).breaks k kind → ⊥
  verified-breaks-none v =
      both-refute (length c.model.particles) (particle_lines c) (behind_particles c) (rows-refute kinds.Row c.model.particles (IsParticle c))
      (both-refute (length c.model.vertices) (vertex_lines c) (behind_vertices c) (rows-refute kinds.Row c.model.vertices (IsVertex c))
      (both-refute (length c.legs) (leg_lines c) (behind_legs c) (legs-refute c) behind-legs-refute))
      (verified-keeps v)
