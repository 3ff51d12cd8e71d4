-- What nodes fuse to and close to, as their vertices ask.
use Rattle.std.proofs.Common.{◌≡◌, ℕ, ◌<◌, List, [], ◌∷◌, map, flat_map, Bool, true, false, cond, refl, ap, ap₂, sym, subst, ◌∙◌, Option, Some, None, append-nil}
use Rattle.std.proofs.lemmas.Option.{none-some}
use Rattle.om_ring.specs.Members.{In, Different}
use Rattle.om_colour.specs.declared.Flow.{Flow}
use Rattle.om_model.specs.Diagram.{same_numbers}
use Rattle.om_model.specs.KeystoneForm.{HasFields}
use Rattle.om_graph.specs.declared.Key.{Key}
use Rattle.om_graph.specs.Graph.{Found}
use Rattle.om_graph.specs.Loops.{Signed, closed_at, closed_by, closed_flow, counts, fused_at, fused_by, fused_key, fused_with, left_over, meet_closed, meet_fused, meeting_at, meeting_with, meetings_of, one_or_none}
use Rattle.om_graph.specs.SetSearch.{found_fused, found_closed}
use Rattle.om_graph.specs.Tuples.{Meets}
use Rattle.om_graph.specs.Vertices.{Reaction, fields_of}
use Rattle.om_graph.proofs.MeetingFields.{left_fills, left_is}
use Rattle.om_graph.proofs.Tuples.{flat_map-flat_map, flat_map-same}
use Rattle.om_graph.proofs.VertexChoices.{made_everywhere, at_vertex, MadeAt, just_made, made_once, map-flat_map}

module _ (r : Reaction) where
  -- nodes with these keys make key k at vertex v by choice c, whatever their sets are
  pub record MakesKey (v c : ℕ) (ks : List Key) (k : Key) : Type 0 where
    pub vertex : v < r.scattering.theory.vertices
    pub choice : c < r.scattering.theory.choices v
    pub slots : same_numbers (r.scattering.theory.anti k.field ∷ fields_of ks) (r.scattering.theory.slots v) ≡ true
    pub made : k ≡ fused_key r k.field v c ks

  -- and close to flow w
  pub record MakesFlow (v c : ℕ) (ks : List Key) (w : Flow) : Type 0 where
    pub vertex : v < r.scattering.theory.vertices
    pub choice : c < r.scattering.theory.choices v
    pub slots : same_numbers (fields_of ks) (r.scattering.theory.slots v) ≡ true
    pub made : w ≡ closed_flow r v c ks

  module _ (is : List ℕ) (ks : List Key) where
    left : ℕ → Option ℕ
    left v = left_over (r.scattering.theory.slots v) (r.scattering.theory.slots v) (fields_of ks)

    fused : ℕ → ℕ → ℕ → Found Key
    fused g v c = (fused_at r is ks (r.scattering.theory.anti g) v c).found

    fused_are : found_fused r is ks ≡ made_everywhere r.scattering.theory.vertices r.scattering.theory.choices left fused
    unfolding found_fused meet_fused meetings_of made_everywhere left at_vertex fused
    fused_are =
        ap (map (λ (x : Signed Key). x.found)) (flat_map-flat_map (fused_by r is ks) (λ v. one_or_none (meeting_at r false (fields_of ks) v)) (counts r.scattering.theory.vertices))
        ∙ map-flat_map (λ (x : Signed Key). x.found) (λ v. flat_map (fused_by r is ks) (one_or_none (meeting_at r false (fields_of ks) v))) (counts r.scattering.theory.vertices)
        ∙ flat_map-same (λ v. map (λ (x : Signed Key). x.found) (flat_map (fused_by r is ks) (one_or_none (meeting_at r false (fields_of ks) v)))) (λ v. at_vertex r.scattering.theory.vertices r.scattering.theory.choices left fused v (left v)) (counts r.scattering.theory.vertices) (λ v. by v (left v))
      where
        by : (v : ℕ) (o : Option ℕ) → map (λ (x : Signed Key). x.found) (flat_map (fused_by r is ks) (one_or_none (meeting_with r.scattering.theory.anti v o))) ≡ at_vertex r.scattering.theory.vertices r.scattering.theory.choices left fused v o
        by v None = refl
        by v (Some g) =
            ap (map (λ (x : Signed Key). x.found)) (append-nil (fused_with r is ks v (Some (r.scattering.theory.anti g))))
            ∙ map-flat_map (λ (x : Signed Key). x.found) (λ c. fused_at r is ks (r.scattering.theory.anti g) v c ∷ []) (counts (r.scattering.theory.choices v))

    fills : ℕ → Option (Unit {0})
    fills v = cond (same_numbers (fields_of ks) (r.scattering.theory.slots v)) (Some tt) None

    closed : Unit {0} → ℕ → ℕ → Found Flow
    closed u v c = (closed_at r is ks v c).found

    closed_are : found_closed r is ks ≡ made_everywhere r.scattering.theory.vertices r.scattering.theory.choices fills closed
    unfolding found_closed meet_closed meetings_of made_everywhere fills at_vertex closed
    closed_are =
        ap (map (λ (x : Signed Flow). x.found)) (flat_map-flat_map (closed_by r is ks) (λ v. one_or_none (meeting_at r true (fields_of ks) v)) (counts r.scattering.theory.vertices))
        ∙ map-flat_map (λ (x : Signed Flow). x.found) (λ v. flat_map (closed_by r is ks) (one_or_none (meeting_at r true (fields_of ks) v))) (counts r.scattering.theory.vertices)
        ∙ flat_map-same (λ v. map (λ (x : Signed Flow). x.found) (flat_map (closed_by r is ks) (one_or_none (meeting_at r true (fields_of ks) v)))) (λ v. at_vertex r.scattering.theory.vertices r.scattering.theory.choices fills closed v (fills v)) (counts r.scattering.theory.vertices) (λ v. by v (same_numbers (fields_of ks) (r.scattering.theory.slots v)))
      where
        by : (v : ℕ) (b : Bool) → map (λ (x : Signed Flow). x.found) (flat_map (closed_by r is ks) (one_or_none (cond b (Some (record { vertex = v; up = None })) None))) ≡ at_vertex r.scattering.theory.vertices r.scattering.theory.choices fills closed v (cond b (Some tt) None)
        by v false = refl
        by v true =
            ap (map (λ (x : Signed Flow). x.found)) (append-nil (flat_map (λ c. closed_at r is ks v c ∷ []) (counts (r.scattering.theory.choices v))))
            ∙ map-flat_map (λ (x : Signed Flow). x.found) (λ c. closed_at r is ks v c ∷ []) (counts (r.scattering.theory.choices v))

    module _ (h : HasFields r.scattering.theory) where
      makes : (x : Found Key) → MadeAt r.scattering.theory.vertices r.scattering.theory.choices left fused x → (x.branches ≡ is) × MakesKey x.vertex x.choice ks x.made
      unfolding fused left fused_at fused_key
      makes x m = subst (λ (y : Found Key). (y.branches ≡ is) × MakesKey y.vertex y.choice ks y.made) (sym m.is) (
        refl,
        record {
          vertex = m.vertex;
          choice = m.choice;
          slots = subst (λ g. same_numbers (g ∷ fields_of ks) (r.scattering.theory.slots m.v) ≡ true) (sym (h.anti_anti m.a)) (left_fills (r.scattering.theory.slots m.v) (fields_of ks) m.a m.passes);
          made = refl;
        },
      )

      made : (x : Found Key) → x.branches ≡ is → MakesKey x.vertex x.choice ks x.made → MadeAt r.scattering.theory.vertices r.scattering.theory.choices left fused x
      unfolding fused left fused_at
      made x b m = record {
        v = x.vertex;
        c = x.choice;
        a = r.scattering.theory.anti x.made.field;
        vertex = m.vertex;
        choice = m.choice;
        passes = left_is (r.scattering.theory.slots x.vertex) (fields_of ks) (r.scattering.theory.anti x.made.field) m.slots;
        is = rebuilt x.made (fused_key r (r.scattering.theory.anti (r.scattering.theory.anti x.made.field)) x.vertex x.choice ks) (m.made ∙ ap (λ f. fused_key r f x.vertex x.choice ks) (sym (h.anti_anti x.made.field))) b;
      }
        where
          rebuilt : (j k : Key) → j ≡ k → x.branches ≡ is → ◌≡◌ {A = Found Key} (record { made = j; vertex = x.vertex; choice = x.choice; branches = x.branches }) (record { made = k; vertex = x.vertex; choice = x.choice; branches = is })
          rebuilt j k e g = ap₂ (λ (l : Key) (js : List ℕ). record { made = l; vertex = x.vertex; choice = x.choice; branches = js }) e g

      closes : (x : Found Flow) → MadeAt r.scattering.theory.vertices r.scattering.theory.choices fills closed x → (x.branches ≡ is) × MakesFlow x.vertex x.choice ks x.made
      unfolding closed fills closed_at
      closes x m = subst (λ (y : Found Flow). (y.branches ≡ is) × MakesFlow y.vertex y.choice ks y.made) (sym m.is) (
        refl,
        record {
          vertex = m.vertex;
          choice = m.choice;
          slots = by (same_numbers (fields_of ks) (r.scattering.theory.slots m.v)) m.passes;
          made = refl;
        },
      )
        where
          by : (b : Bool) → cond b (Some tt) None ≡ Some m.a → b ≡ true
          by true e = refl
          by false e = absurd (none-some m.a e)

      closing : (x : Found Flow) → x.branches ≡ is → MakesFlow x.vertex x.choice ks x.made → MadeAt r.scattering.theory.vertices r.scattering.theory.choices fills closed x
      unfolding closed fills closed_at
      closing x b m = record {
        v = x.vertex;
        c = x.choice;
        a = tt;
        vertex = m.vertex;
        choice = m.choice;
        passes = ap (λ t. cond t (Some tt) None) m.slots;
        is = rebuilt x.made (closed_flow r x.vertex x.choice ks) m.made b;
      }
        where
          rebuilt : (j k : Flow) → j ≡ k → x.branches ≡ is → ◌≡◌ {A = Found Flow} (record { made = j; vertex = x.vertex; choice = x.choice; branches = x.branches }) (record { made = k; vertex = x.vertex; choice = x.choice; branches = is })
          rebuilt j k e g = ap₂ (λ (l : Flow) (js : List ℕ). record { made = l; vertex = x.vertex; choice = x.choice; branches = js }) e g

  module _ (h : HasFields r.scattering.theory) where
    pub meets_fused : Meets (found_fused r) MakesKey
    unfolding fused fused_at
    meets_fused = record {
      exact = λ is ks x. (
        (λ i. makes is ks h x ((just_made r.scattering.theory.vertices r.scattering.theory.choices (left is ks) (fused is ks) x).0 (subst (In x) (fused_are is ks) i))),
        (λ m. subst (In x) (sym (fused_are is ks)) ((just_made r.scattering.theory.vertices r.scattering.theory.choices (left is ks) (fused is ks) x).1 (made is ks h x m.0 m.1))),
      );
      once = λ is ks. subst Different (sym (fused_are is ks)) (made_once r.scattering.theory.vertices r.scattering.theory.choices (left is ks) (fused is ks) (λ a v c. (refl, refl)));
    }

    pub meets_closed : Meets (found_closed r) MakesFlow
    unfolding closed closed_at
    meets_closed = record {
      exact = λ is ks x. (
        (λ i. closes is ks h x ((just_made r.scattering.theory.vertices r.scattering.theory.choices (fills is ks) (closed is ks) x).0 (subst (In x) (closed_are is ks) i))),
        (λ m. subst (In x) (sym (closed_are is ks)) ((just_made r.scattering.theory.vertices r.scattering.theory.choices (fills is ks) (closed is ks) x).1 (closing is ks h x m.0 m.1))),
      );
      once = λ is ks. subst Different (sym (closed_are is ks)) (made_once r.scattering.theory.vertices r.scattering.theory.choices (fills is ks) (closed is ks) (λ a v c. (refl, refl)));
    }
