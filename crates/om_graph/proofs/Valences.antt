-- Where no vertex has as many slots as nodes and the edge upwards fill, they make nothing.
use Rattle.std.proofs.Common.{◌≡◌, ℕ, suc, ◌+◌, ◌<◌, List, [], ◌∷◌, ◌++◌, flat_map, length, Contains, Bool, true, false, cond, ◌&&◌, inl, inr, refl, ap, ap₂, sym, ◌∙◌, arith, Option, Some, None, length-append}
use Rattle.std.proofs.lemmas.List.{length-map}
use Rattle.om_ring.specs.Members.{In}
use Rattle.om_legs.proofs.Members.{Contains-from_In}
use Rattle.om_model.specs.Diagram.{all_in, same_numbers}
use Rattle.om_graph.specs.declared.Key.{Key}
use Rattle.om_graph.specs.declared.fields.Meeting.{Meeting}
use Rattle.om_graph.specs.Graph.{at_numbers}
use Rattle.om_graph.specs.Loops.{closed_by, fused_by, counts, left_over, meet_closed, meet_fused, meeting_at, meeting_with, meetings_of, met_partition, met_parts, one_or_none}
use Rattle.om_graph.specs.Tuples.{met, met_by, met_from, numbers_over}
use Rattle.om_graph.specs.Vertices.{Reaction, fields_of, is_outward, keeps_edges}
use Rattle.om_graph.proofs.MeetingFields.{left_fills, same_count}
use Rattle.om_graph.proofs.MeetingLists.{counts_in}
use Rattle.om_graph.proofs.SignedLists.{length_at_numbers}

flat_none : {A B : Type 0} (f : A → List B) (xs : List A) → ((x : A) → In x xs → f x ≡ []) → flat_map f xs ≡ []
flat_none f [] h = refl
flat_none f (x ∷ xs) h = ap₂ ◌++◌ (h x (inl refl)) (flat_none f xs (λ y i. h y (inr i)))

-- nodes of so many make nothing, so none of their tuples does
met_none : {X : Type 0} (meet : List ℕ → List Key → List X) (n : ℕ) → ((is : List ℕ) (ks : List Key) → length ks ≡ n → meet is ks ≡ [])
    → (ns : List Key) (is parts : List ℕ) → length is + length parts ≡ n → met_from (λ (k : Key). k.legs) meet ns is parts ≡ []
unfolding met_from met
met_none meet n none ns is [] l = by (at_numbers ns is) refl
  where
    by : (o : Option (List Key)) → at_numbers ns is ≡ o → met_by meet is o ≡ []
    by None e = refl
    by (Some ks) e = let m = length_at_numbers ns is ks e in none is ks (omega arith)
met_none meet n none ns is (s ∷ parts) l =
    flat_none (λ k. met_from (λ (k : Key). k.legs) meet ns (is ++ k ∷ []) parts) (numbers_over (λ (k : Key). k.legs) ns s)
    (λ k i. let m = length-append is (k ∷ []) in met_none meet n none ns (is ++ k ∷ []) parts (omega arith))

cond_none : {X : Type 0} (b : Bool) (xs : List X) → xs ≡ [] → cond b xs [] ≡ []
cond_none true xs e = e
cond_none false xs e = refl

module _ (r : Reaction) (n : ℕ) (none : (v : ℕ) → v < r.scattering.theory.vertices → length (r.scattering.theory.slots v) ≡ n → ⊥) where
  close_nowhere : (fields : List ℕ) → length fields ≡ n → meetings_of r true fields ≡ []
  unfolding meetings_of
  close_nowhere fields l = flat_none (λ v. one_or_none (meeting_at r true fields v)) (counts r.scattering.theory.vertices) (λ v i. by v (counts_in v r.scattering.theory.vertices i) (same_numbers fields (r.scattering.theory.slots v)) refl)
    where
      by : (v : ℕ) → v < r.scattering.theory.vertices → (b : Bool) → same_numbers fields (r.scattering.theory.slots v) ≡ b → one_or_none {A = Meeting} (cond b (Some (record { vertex = v; up = None })) None) ≡ []
      by v i true e = absurd (none v i (sym (same_count fields (r.scattering.theory.slots v) e) ∙ l))
      by v i false e = refl

  fuse_nowhere : (fields : List ℕ) → length fields + 1 ≡ n → meetings_of r false fields ≡ []
  unfolding meetings_of
  fuse_nowhere fields l = flat_none (λ v. one_or_none (meeting_at r false fields v)) (counts r.scattering.theory.vertices) (λ v i. by v (counts_in v r.scattering.theory.vertices i) (left_over (r.scattering.theory.slots v) (r.scattering.theory.slots v) fields) refl)
    where
      by : (v : ℕ) → v < r.scattering.theory.vertices → (o : Option ℕ) → left_over (r.scattering.theory.slots v) (r.scattering.theory.slots v) fields ≡ o → one_or_none (meeting_with r.scattering.theory.anti v o) ≡ []
      by v i (Some g) e =
          let m : suc (length fields) ≡ length (r.scattering.theory.slots v) = same_count (g ∷ fields) (r.scattering.theory.slots v) (left_fills (r.scattering.theory.slots v) fields g e) in
          absurd (none v i (omega arith))
      by v i None e = refl

  nothing_closes : (is : List ℕ) (ks : List Key) → length ks ≡ n → meet_closed r is ks ≡ []
  unfolding meet_closed
  nothing_closes is ks l = ap (flat_map (closed_by r is ks)) (close_nowhere (fields_of ks) (length-map ks (λ (k : Key). k.field) ∙ l))

  nothing_fuses : (is : List ℕ) (ks : List Key) → length ks + 1 ≡ n → meet_fused r is ks ≡ []
  unfolding meet_fused
  nothing_fuses is ks l = ap (flat_map (fused_by r is ks)) (fuse_nowhere (fields_of ks) (let m = length-map ks (λ (k : Key). k.field) in omega arith))

  pub no_closings : (ns : List Key) (splits : List (List ℕ)) → ((parts : List ℕ) → Contains splits parts → length parts ≡ n) → flat_map (met_partition r (meet_closed r) ns) splits ≡ []
  unfolding met_partition
  no_closings ns splits l = flat_none (met_partition r (meet_closed r) ns) splits
      (λ parts i. cond_none (all_in (is_outward r.scattering.size) parts && keeps_edges r parts) (met_from (λ (k : Key). k.legs) (meet_closed r) ns [] parts)
      (met_none (meet_closed r) n nothing_closes ns [] parts (let m = l parts (Contains-from_In splits parts i) in omega arith)))

  pub no_fusions : (ns : List Key) (rest : ℕ) (splits : List (List ℕ)) → ((parts : List ℕ) → Contains splits parts → length parts + 1 ≡ n) → flat_map (met_parts r (meet_fused r) ns rest) splits ≡ []
  unfolding met_parts
  no_fusions ns rest splits l = flat_none (met_parts r (meet_fused r) ns rest) splits
      (λ parts i. cond_none (keeps_edges r (rest ∷ parts)) (met_from (λ (k : Key). k.legs) (meet_fused r) ns [] parts)
      (let m = l parts (Contains-from_In splits parts i) in met_none (meet_fused r) (length parts) (λ is ks e. nothing_fuses is ks (omega arith)) ns [] parts (omega arith)))

-- so a loop over splits has nothing to add
pub nothing_added : {A : Type 0} (old xs : List A) → xs ≡ [] → old ≡ old ++ xs
nothing_added old xs e = sym (ap (λ ys. old ++ ys) e ∙ Rattle.std.proofs.Common.append-nil old)
