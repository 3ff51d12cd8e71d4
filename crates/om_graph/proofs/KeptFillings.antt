-- The fillings that are kept.
use Rattle.std.proofs.Common.{◌≡◌, ℕ, ◌<◌, List, [], ◌∷◌, ◌++◌, map, flat_map, length, get_or, Bool, refl, ap, ap₂, sym, subst, ◌∙◌, Some, None}
use Rattle.std.proofs.lemmas.Option.{none-some, same_Some}
use Rattle.om_ring.specs.Members.{In}
use Rattle.om_graph.specs.declared.Key.{Key}
use Rattle.om_graph.specs.declared.fields.Meeting.{Meeting}
use Rattle.om_graph.specs.declared.fields.Meetings.{Meetings}
use Rattle.om_graph.specs.declared.fillings.Filling.{Filling}
use Rattle.om_graph.specs.declared.fillings.Fillings.{Fillings}
use Rattle.om_graph.specs.declared.fillings.Sides.{Sides}
use Rattle.om_graph.specs.declared.parts.Side.{Side}
use Rattle.om_graph.specs.Caches.{AreMeetings, HasMeetings}
use Rattle.om_graph.specs.Fillings.{AreFillings, AreVertices, filled_at, filling_at, fillings_at, listed_sides, sides_of}
use Rattle.om_graph.specs.Loops.{meetings_of}
use Rattle.om_graph.specs.Vertices.{Reaction, fields_of}
use Rattle.om_graph.proofs.KeptMeetings.{none_kept}
use Rattle.om_ring.proofs.Members.{in_mapped}
use Rattle.om_graph.proofs.MeetingLists.{in_at, meeting_vertex, same_meetings}

fields_of_sides : (ks : List Key) → map (λ (s : Side). s.field) (sides_of ks) ≡ fields_of ks
fields_of_sides [] = refl
fields_of_sides (k ∷ ks) = ap (λ fs. k.field ∷ fs) (fields_of_sides ks)

module _ (r : Reaction) (closing : Bool) where
  -- of nothing that was asked for, all fillings are known
  pub none_filled : (m : Fillings) → m.meetings.closing ≡ closing → m.meetings.fields ≡ [] → m.last ≡ None → AreFillings r closing m
  none_filled m e g l = record { meetings = none_kept r closing m.meetings e g; last = λ s h. absurd (none-some s (sym l ∙ h)) }

  -- with the meetings alone
  pub no_last : (m : Fillings) → AreMeetings r closing m.meetings → m.last ≡ None → AreFillings r closing m
  no_last m h l = record { meetings = h; last = λ s e. absurd (none-some s (sym l ∙ e)) }

  -- with those found at a place
  pub found_at : (a : Meetings) (place : ℕ) (met : List Meeting) (ks : List Key) (ss : List Side) (fs : List Filling) → HasMeetings a place (meetings_of r closing (fields_of ks)) → HasMeetings a place met
      → ss ≡ sides_of ks → fs ≡ map (filling_at r closing ss) met → fs ≡ fillings_at r closing (sides_of ks)
  unfolding fillings_at
  found_at a place met ks ss fs h g e q =
      q ∙ ap₂ (λ (us : List Side) ms. map (filling_at r closing us) ms) e (same_meetings a place met (meetings_of r closing (fields_of ks)) g h ∙ ap (meetings_of r closing) (sym (fields_of_sides ks)))

  pub now_last : (m : Fillings) (ks : List Key) (s : Sides) → AreMeetings r closing m.meetings → m.last ≡ Some s → listed_sides s ≡ sides_of ks → m.fillings.items ≡ fillings_at r closing (sides_of ks) → AreFillings r closing m
  now_last m ks s h e g q = record { meetings = h; last = λ t i. q ∙ ap (fillings_at r closing) (sym g ∙ ap listed_sides (same_Some s t (sym e ∙ i))) }

  pub vertices_at : (a : Meetings) (place : ℕ) (met : List Meeting) (ks : List Key) → HasMeetings a place (meetings_of r closing (fields_of ks)) → HasMeetings a place met → AreVertices r met
  vertices_at a place met ks h g m i = meeting_vertex r closing (fields_of ks) m (subst (In m) (same_meetings a place met (meetings_of r closing (fields_of ks)) g h) i)

  abbrev pub IsFilling : List Key → Filling → Type 0
  IsFilling ks x = In x.meeting (meetings_of r closing (fields_of ks)) × (x.parts ≡ filled_at r closing x.meeting (sides_of ks))

  -- a filling that was found is that of a vertex at which the nodes meet
  pub is_filling : (ks : List Key) (fs : List Filling) (i : ℕ) (d : Filling) → fs ≡ fillings_at r closing (sides_of ks) → i < length fs
      → IsFilling ks (get_or fs i d)
  unfolding fillings_at
  is_filling ks fs i d e l =
      let x = get_or fs i d in
      let n = in_mapped (filling_at r closing (sides_of ks)) x (meetings_of r closing (map (λ (s : Side). s.field) (sides_of ks))) (subst (In x) e (in_at fs i d l)) in
      let m : x.meeting ≡ n.0 = ap (λ (y : Filling). y.meeting) n.2 in (
        subst (λ (y : Meeting). In y (meetings_of r closing (fields_of ks))) (sym m) (subst (λ us. In n.0 (meetings_of r closing us)) (fields_of_sides ks) n.1),
        ap (λ (y : Filling). y.parts) n.2 ∙ ap (λ (y : Meeting). filled_at r closing y (sides_of ks)) (sym m),
      )

  -- what they make is what the meetings make
  pub over_meetings : {X : Type 0} (f : Meeting → List X) (ks : List Key) (fs : List Filling) → fs ≡ fillings_at r closing (sides_of ks) → flat_map (λ (x : Filling). f x.meeting) fs ≡ flat_map f (meetings_of r closing (fields_of ks))
  unfolding fillings_at
  over_meetings f ks fs e =
      ap (flat_map (λ (x : Filling). f x.meeting)) e ∙ by (meetings_of r closing (map (λ (s : Side). s.field) (sides_of ks)))
      ∙ ap (λ us. flat_map f (meetings_of r closing us)) (fields_of_sides ks)
    where
      by : (ms : List Meeting) → flat_map (λ (x : Filling). f x.meeting) (map (filling_at r closing (sides_of ks)) ms) ≡ flat_map f ms
      by [] = refl
      by (m ∷ ms) = ap (λ us. f m ++ us) (by ms)
