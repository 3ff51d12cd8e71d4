-- Words that are joined, one after the other.
use Rattle.std.proofs.Common.{◌≡◌, ℕ, List, [], ◌∷◌, ◌++◌, codes, append_assoc}
use Rattle.om_io.specs.Lines.{line_text}

pub node_joined : (line j s f p : List ℕ) → ((((((((line ++ codes "node ") ++ j) ++ 32 ∷ []) ++ s) ++ 32 ∷ []) ++ f) ++ 32 ∷ []) ++ p) ++ 10 ∷ [] ≡ line ++ line_text (codes "node" ∷ j ∷ s ∷ f ∷ p ∷ [])
node_joined line j s f p = simp append_assoc

pub head_joined : (line n f k w : List ℕ) → ((((((((line ++ codes "graph nodes ") ++ n) ++ codes " fusions ") ++ f) ++ codes " keystones ") ++ k) ++ codes " flows ") ++ w) ++ 10 ∷ []
    ≡ line ++ line_text (codes "graph" ∷ codes "nodes" ∷ n ∷ codes "fusions" ∷ f ∷ codes "keystones" ∷ k ∷ codes "flows" ∷ w ∷ [])
head_joined line n f k w = simp append_assoc
