-- Keys that tell the keystone forms of a process.
use Rattle.std.specs.Prelude.{◌≡◌, ℕ, List, true}
use Rattle.om_model.specs.Theory.{Scattering}
use Rattle.om_model.specs.Opened.{Opened}
use Rattle.om_model.specs.Spelled.{is_opened}
use Rattle.om_model.specs.Keystone.{is_keystone}
use Rattle.om_model.specs.Hung.{hung}
use Rattle.om_model.specs.Diagrams.{counts}
use Rattle.om_model.specs.FermionLines.{Kinds, vertex_sign, branch_parts, signs_in}
use Rattle.om_model.specs.ColourLines.{Colours, flow_at}
use Rattle.om_graph.specs.Fusion.{Fusion}
use Rattle.om_keystone.specs.InDiagrams.{IsOpened}
use Rattle.om_keystone.proofs.ModelRules.{KeyView, AreSigns, ShowsParts}

-- a keystone form of a diagram of the process
pub record IsForm (s : Scattering) (a : Opened) : Type 0 where
  pub opened : is_opened s a ≡ true
  pub keystone : is_keystone s.size a ≡ true
  pub counted : counts s (hung s a) ≡ true

-- Keys close just at the keystone forms of the process, each with its flow; a key shows what a vertex sees of a tree, and keys
-- give the signs of the vertices.
pub record TellsForms {K F : Type 0} (s : Scattering) (kinds : Kinds) (w : Colours) (p : Fusion K F) (view : KeyView K) (ends : F → List ℕ) : Type 0 where
  pub is_form : (a : Opened) (u : F) → IsOpened p a u → IsForm s a
  pub is_flow : (a : Opened) (u : F) → IsOpened p a u → (flow_at s w a).ends ≡ ends u
  pub form_opened : (a : Opened) → IsForm s a → (u : F) × IsOpened p a u
  pub parts : ShowsParts p view s
  pub signs : AreSigns p view (signs_in s kinds)
  pub keystone_sign : (a : Opened) (u : F) (h : IsOpened p a u) → vertex_sign s kinds a.vertex (branch_parts s kinds a.parts) ≡ view.closed_minus a.vertex h.keys
