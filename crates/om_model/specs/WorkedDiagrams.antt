-- Signs, keystones and edges of two diagrams of electrons and muons.
use Rattle.std.specs.Prelude.{◌≡◌, [], ◌∷◌, filter, map, true, false, cond, ◌||◌, eqb}
use Rattle.om_model.specs.Theory.{Theory, Scattering}
use Rattle.om_model.specs.Tree.{Tree}
use Rattle.om_model.specs.Tree.Tree.{leaf, join}
use Rattle.om_model.specs.Tree.Branches.{none, and}
use Rattle.om_model.specs.Diagram.{is_diagram}
use Rattle.om_model.specs.Opened.{vertices, opened_at_top}
use Rattle.om_model.specs.FermionLines.{Kinds, lines_at, is_odd_at, signs_at}
use Rattle.om_model.specs.Keystone.{is_keystone}
use Rattle.om_model.specs.Hung.{hung}
use Rattle.om_model.specs.Diagrams.{has_edge}

-- fields: electron 0 and 1, muon 2 and 3, photon 4; each vertex takes psi-bar, psi and the photon
abbrev pub theory : Theory
theory = record {
  fields = 6;
  vertices = 2;
  slots = λ v. cond (eqb v 0) (1 ∷ 0 ∷ 4 ∷ []) (3 ∷ 2 ∷ 4 ∷ []);
  choices = λ v. 1;
  anti = λ f. cond (eqb f 4) 4 (cond (eqb f 0) 1 (cond (eqb f 1) 0 (cond (eqb f 2) 3 2)));
}

abbrev pub kinds : Kinds
kinds = record { row = λ f. eqb f 1 || eqb f 3; column = λ f. eqb f 0 || eqb f 2 }

-- e- e+ to mu- mu+, all legs entering
abbrev pub muons : Scattering
muons = record { theory = theory; size = 4; field = λ k. cond (eqb k 1) 0 (cond (eqb k 2) 1 (cond (eqb k 3) 3 2)); edges = [] }

abbrev pub pair : Tree
pair = join 4 0 0 (and (leaf 1) (and (leaf 2) none))

abbrev pub annihilation : Tree
annihilation = join 3 1 0 (and pair (and (leaf 3) none))

-- e- e+ to e- e+
abbrev pub electrons : Scattering
electrons = record { theory = theory; size = 4; field = λ k. cond (eqb k 1) 0 (cond (eqb k 2) 1 (cond (eqb k 3) 1 0)); edges = [] }

abbrev pub exchange : Tree
exchange = join 1 0 0 (and (join 4 0 0 (and (leaf 1) (and (leaf 3) none))) (and (leaf 2) none))

-- annihilation: two pairs of fermions, crossed once
abbrev pub MuonPairs : Type 0
MuonPairs = (is_diagram muons annihilation ≡ true) × (lines_at muons kinds 1 (opened_at_top muons annihilation).parts ≡ (2, 1) ∷ (3, 4) ∷ []) × (is_odd_at muons kinds (opened_at_top muons annihilation) ≡ true)

-- the exchange of a photon has the other sign
abbrev pub ElectronPairs : Type 0
ElectronPairs = (is_diagram electrons exchange ≡ true) × (is_odd_at electrons kinds (opened_at_top electrons exchange) ≡ false) × (signs_at electrons kinds 0 (opened_at_top electrons exchange).parts ≡ false)

-- of the two vertices the one at which legs 1 and 2 meet is the keystone, and the diagram has the edge of legs 1 and 2
abbrev pub MuonKeystone : Type 0
MuonKeystone = (map (λ a. a.vertex) (filter (is_keystone 4) (vertices muons annihilation)) ≡ 0 ∷ []) × (has_edge muons (λ k. eqb k 1 || eqb k 2) annihilation ≡ true) × (has_edge muons (λ k. eqb k 1 || eqb k 3) annihilation ≡ false)

-- opened at its keystone, it hangs from the last leg as it is
abbrev pub MuonForm : Type 0
MuonForm = map (hung muons) (filter (is_keystone 4) (vertices muons annihilation)) ≡ annihilation ∷ []

abbrev pub WorkedDiagrams : Type 0
WorkedDiagrams = MuonPairs × ElectronPairs × MuonKeystone × MuonForm
