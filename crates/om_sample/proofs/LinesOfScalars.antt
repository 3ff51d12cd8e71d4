-- No line goes through a diagram of colourless scalars.
use Rattle.std.proofs.Common.{◌≡◌, ℕ, ◌+◌, ◌-◌, ◌/◌, ◌%◌, List, [], ◌∷◌, ◌++◌, map, Bool, true, false, cond, eqb, ltb, not, ◌&&◌, Option, Some, None, refl, ap, ap₂, ◌∙◌}
use Rattle.std.specs.Prelude.{slice_get, ◌==◌}
use mathlib.Core.Path.{fun_ext}
use Rattle.om_lorentz.specs.declared.structures.Spin.TheVariants.{Scalar}
use Rattle.om_colour.specs.declared.Colour.{Colour}
use Rattle.om_colour.specs.declared.Colour.TheVariants.{One}
use Rattle.om_colour.specs.declared.Choice.{Choice}
use Rattle.om_colour.specs.Choices.{goes_to}
use Rattle.om_colour.specs.Follow.{end_of, follow}
use Rattle.om_colour.specs.Lines.{Side, anti_colour, with_slot}
use Rattle.om_colour.specs.Lines.Side.{leg, vertex}
use Rattle.om_colour.specs.Partials.{each_leg, first_at_slots}
use Rattle.om_model.specs.ColourLines.{Colours, around, beyond, flow_at, hole, side, sides, there}
use Rattle.om_model.specs.FermionLines.{Kinds, LineEnds, all_open, all_pairs, branch_lines, closed, is_odd_at, left_open, lines, lines_at, meet, no_line, settle}
use Rattle.om_model.specs.Inversions.{odd, flatten}
use Rattle.om_model.specs.Lines.{Lines}
use Rattle.om_model.specs.Model.{colour_of, particle_of, scattering_of, spin_of, spin_of_field}
use Rattle.om_model.specs.ModelLines.{colours_of, is_dirac, kinds_of, lines_by, lines_of}
use Rattle.om_model.specs.Opened.{Opened, opened_at_top}
use Rattle.om_model.specs.Parts.{Part, least, put, sort, up}
use Rattle.om_model.specs.ScalarRules.{HasColourlessScalars}
use Rattle.om_model.specs.Slots.{fill, first_with, in_slots, without_first}
use Rattle.om_model.specs.Theory.{Scattering}
use Rattle.om_model.specs.Tree.{Tree, Branches}
use Rattle.om_model.specs.Tree.Tree.{leaf, join}
use Rattle.om_model.specs.Tree.Branches.{none, and}
use Rattle.om_model.specs.declared.model.Model.{Model}
use Rattle.om_model.specs.declared.model.Particle.{Particle}
use Rattle.om_model.specs.declared.process.Process.{Process}
use Rattle.om_sample.specs.NoLines.{no_flow, no_lines}

-- what holds of everything that the parts at a vertex carry holds of what its slots carry
module _ {X : Type 0} (P : X → Type 0) where
  abbrev Each : List (Part × X) → Type 0
  Each [] = Unit {0}
  Each (q ∷ qs) = P q.1 × Each qs

  each_put : (key : Part × X → ℕ) (q : Part × X) (qs : List (Part × X)) → P q.1 → Each qs → Each (put key q qs)
  unfolding put
  each_put key q [] p h = (p, tt)
  each_put key q (r ∷ qs) p h = by (ltb (key q) (key r)) (each_put key q qs p h.1)
    where
      by : (b : Bool) → Each (put key q qs) → Each (cond b (q ∷ r ∷ qs) (r ∷ put key q qs))
      by true ih = (p, h)
      by false ih = (h.0, ih)

  each_sort : (key : Part × X → ℕ) (qs : List (Part × X)) → Each qs → Each (sort key qs)
  unfolding sort
  each_sort key [] h = tt
  each_sort key (q ∷ qs) h = each_put key q (sort key qs) h.0 (each_sort key qs h.1)

  each_append : (qs rs : List (Part × X)) → Each qs → Each rs → Each (qs ++ rs)
  each_append [] rs h k = k
  each_append (q ∷ qs) rs h k = (h.0, each_append qs rs h.1 k)

  each_first : (f : ℕ) (qs : List (Part × X)) → Each qs → Each (first_with f qs)
  unfolding first_with
  each_first f [] h = tt
  each_first f (q ∷ qs) h = by (eqb q.0.field f) (each_first f qs h.1)
    where
      by : (b : Bool) → Each (first_with f qs) → Each (cond b (q ∷ []) (first_with f qs))
      by true ih = (h.0, tt)
      by false ih = ih

  each_without : (f : ℕ) (qs : List (Part × X)) → Each qs → Each (without_first f qs)
  unfolding without_first
  each_without f [] h = tt
  each_without f (q ∷ qs) h = by (eqb q.0.field f) (each_without f qs h.1)
    where
      by : (b : Bool) → Each (without_first f qs) → Each (cond b qs (q ∷ without_first f qs))
      by true ih = h.1
      by false ih = (h.0, ih)

  each_fill : (fs : List ℕ) (qs : List (Part × X)) → Each qs → Each (fill fs qs)
  unfolding fill
  each_fill [] qs h = tt
  each_fill (f ∷ fs) qs h = each_append (first_with f qs) (fill fs (without_first f qs)) (each_first f qs h) (each_fill fs (without_first f qs) (each_without f qs h))

  each_in_slots : (s : Scattering) (v : ℕ) (qs : List (Part × X)) → Each qs → Each (in_slots s v qs)
  unfolding in_slots
  each_in_slots s v qs h = each_fill (s.theory.slots v) (sort (λ q. least s.size q.0) qs) (each_sort (λ q. least s.size q.0) qs h)

-- no field is a fermion
abbrev no_kinds : Kinds
no_kinds = record { row = λ f. false; column = λ f. false }

abbrev IsNone : LineEnds → Type 0
IsNone e = e ≡ no_line

none_pairs : (qs : List (Part × LineEnds)) → Each IsNone qs → all_pairs (map (λ q. q.1) qs) ≡ []
unfolding all_pairs
none_pairs [] h = refl
none_pairs (q ∷ qs) h = ap (λ (e : LineEnds). e.pairs ++ all_pairs (map (λ q. q.1) qs)) h.0 ∙ none_pairs qs h.1

none_open : (qs : List (Part × LineEnds)) → Each IsNone qs → all_open (map (λ q. q.1) qs) ≡ []
unfolding all_open
none_open [] h = refl
none_open (q ∷ qs) h = ap (λ (e : LineEnds). e.open_end ++ all_open (map (λ q. q.1) qs)) h.0 ∙ none_open qs h.1

settled : settle [] [] ≡ no_line
unfolding settle closed left_open
settled = refl

none_meet : (qs : List (Part × LineEnds)) → Each IsNone qs → meet (map (λ q. q.1) qs) ≡ no_line
unfolding meet
none_meet qs h = ap₂ settle (none_pairs qs h) (none_open qs h) ∙ settled

module _ (s : Scattering) where
  mutual
    unfolding lines

    none_in : (t : Tree) → lines s no_kinds t ≡ no_line
    none_in (leaf k) = refl
    none_in (join f v c bs) =
        let qs : List (Part × LineEnds) = (up s (join f v c bs), no_line) ∷ branch_lines s no_kinds bs in
        none_meet (in_slots s v qs) (each_in_slots IsNone s v qs (refl, none_below bs))

    none_below : (bs : Branches) → Each IsNone (branch_lines s no_kinds bs)
    none_below none = tt
    none_below (and t bs) = (none_in t, none_below bs)

  no_sign : (a : Opened) → is_odd_at s no_kinds a ≡ false
  unfolding lines_at odd sort
  no_sign a =
      let qs = branch_lines s no_kinds a.parts in
      ap (λ (e : LineEnds). odd (flatten (sort (λ p. p.0) e.pairs))) (none_meet (in_slots s a.vertex qs) (each_in_slots IsNone s a.vertex qs (none_below a.parts)))

-- no line starts on the side
abbrev IsDark : Side → Type 0
IsDark t = (k : ℕ) (u : Side) → follow k t u ≡ 0

dark_leg : (j : ℕ) → IsDark (leg j One)
dark_leg j k u = by (eqb k j) (end_of u)
  where
    by : (b : Bool) (x : ℕ) → cond (b && false) x 0 ≡ 0
    by true x = refl
    by false x = refl

abbrev IsDarkThere : Option Side → Type 0
IsDarkThere x = IsDark (there x)

dark_beyond : (qs : List (Part × Option Side)) → Each IsDarkThere qs → (n : ℕ) → IsDark (beyond qs n)
unfolding beyond
dark_beyond [] h n = dark_leg 0
dark_beyond (q ∷ qs) h n = by (eqb n 1) (dark_beyond qs h.1 (n - 1))
  where
    by : (b : Bool) → IsDark (beyond qs (n - 1)) → IsDark (cond b (there q.1) (beyond qs (n - 1)))
    by true ih = h.0
    by false ih = ih

dark_slots : (x : ℕ → ℕ) → ((n : ℕ) → x n ≡ 0) → first_at_slots x ≡ 0
dark_slots x h = rw (h 1, h 2, h 3, h 4) refl

dark_vertex : (to : ℕ → ℕ) (h : ℕ) (b : ℕ → Side) → ((n : ℕ) → IsDark (b n)) → IsDark (vertex to h b)
dark_vertex to h b dark k u = dark_slots (λ n. cond (eqb n h) 0 (follow k (b n) (vertex to n (with_slot b h u)))) (λ n. by (eqb n h) (dark n k (vertex to n (with_slot b h u))))
  where
    by : {x : ℕ} (c : Bool) → x ≡ 0 → cond c 0 x ≡ 0
    by true e = refl
    by false e = e

module _ (s : Scattering) (choice : ℕ → ℕ → Choice) where
  -- no field has colour
  abbrev plain : Colours
  plain = record { colour = λ f. One; choice = choice }

  mutual
    unfolding side

    dark_side : (t : Tree) → IsDark (side s plain t)
    dark_side (leaf k) = dark_leg k
    dark_side (join f v c bs) =
        let qs : List (Part × Option Side) = (up s (join f v c bs), None) ∷ sides s plain bs in
        dark_vertex (goes_to (choice v c)) (hole (in_slots s v qs)) (beyond (in_slots s v qs)) (dark_beyond (in_slots s v qs) (each_in_slots IsDarkThere s v qs (dark_leg 0, dark_sides bs)))

    dark_sides : (bs : Branches) → Each IsDarkThere (sides s plain bs)
    dark_sides none = tt
    dark_sides (and t bs) = (dark_side t, dark_sides bs)

  dark_around : (a : Opened) (n : ℕ) → IsDark (around s plain a n)
  dark_around a n = dark_beyond (in_slots s a.vertex (sides s plain a.parts)) (each_in_slots IsDarkThere s a.vertex (sides s plain a.parts) (dark_sides a.parts)) n

  dark_flow : (a : Opened) → (flow_at s plain a).ends ≡ no_flow
  dark_flow a =
      let to = goes_to (choice a.vertex a.choice) in
      ap each_leg (fun_ext (λ k. dark_slots (λ n. follow (k + 1) (around s plain a n) (vertex to n (around s plain a))) (λ n. dark_around a n (k + 1) (vertex to n (around s plain a)))))

  -- a theory without fermions and colours has no lines
  dark_lines : lines_by s no_kinds plain ≡ no_lines
  dark_lines =
      ap₂ (λ (odd : Tree → Bool) (flow : Tree → List ℕ). let w : Lines = record { is_odd = odd; flow = flow } in w)
      (fun_ext (λ t. no_sign s (opened_at_top s t))) (fun_ext (λ t. dark_flow (opened_at_top s t)))

module _ (m : Model) (scalars : HasColourlessScalars m) where
  spin_is : (row : ℕ) (found : Option Particle) → slice_get m.particles row ≡ found → spin_of found ≡ Scalar
  spin_is row None e = refl
  spin_is row (Some p) e = (scalars row p e).0

  colour_is : (row : ℕ) (found : Option Particle) (is_name : Bool) → slice_get m.particles row ≡ found → colour_of found is_name ≡ One
  colour_is row None is_name e = refl
  colour_is row (Some p) true e = (scalars row p e).1
  colour_is row (Some p) false e = ap anti_colour (scalars row p e).1

  no_dirac : (f : ℕ) → is_dirac (spin_of_field m.particles f) ≡ false
  no_dirac f = ap is_dirac (spin_is (f / 2) (particle_of m.particles f) refl)

  kinds_are : kinds_of m.particles ≡ no_kinds
  kinds_are =
      ap₂ (λ (row column : ℕ → Bool). let k : Kinds = record { row = row; column = column } in k)
      (fun_ext (λ f. ap (λ b. b && not (f % 2 == 0)) (no_dirac f))) (fun_ext (λ f. ap (λ b. b && (f % 2 == 0)) (no_dirac f)))

  -- the lines of a model of colourless scalars
  pub lines_are : (p : Process) → lines_of m p ≡ no_lines
  lines_are p =
      let s = scattering_of m p in
      let choice = (colours_of m).choice in
      let colours : colours_of m ≡ plain s choice =
      ap (λ (colour : ℕ → Colour). let w : Colours = record { colour = colour; choice = choice } in w) (fun_ext (λ f. colour_is (f / 2) (particle_of m.particles f) (f % 2 == 0) refl)) in
      ap₂ (lines_by s) kinds_are colours ∙ dark_lines s choice
