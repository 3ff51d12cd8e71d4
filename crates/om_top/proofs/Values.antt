-- The lines of the flows of an answer, written one by one.
use Rattle.std.proofs.Common.{◌≡◌, ℕ, zero, suc, ◌+◌, ◌<◌, ◌≤◌, List, [], ◌∷◌, length, get_or, take, flat_map, Some, ap, sym, ◌∙◌, arith}
use Rattle.std.specs.Prelude.{slice_get, slice_index_or}
use Rattle.std.proofs.lemmas.Option.{slice_get-get_or}
use Rattle.std.proofs.lemmas.List.{take_all}
use Rattle.std.proofs.lemmas.List.Folds.{flat_map-map}
use Rattle.om_code.specs.declared.code.Code.{Code}
use Rattle.om_colour.specs.declared.Flow.{Flow}
use Rattle.om_model.specs.Answer.Answer.{values}
use Rattle.om_model.specs.declared.model.Model.{Model}
use Rattle.om_emit.specs.EmittedAnswer.{with_sums}
use Rattle.om_io.specs.Writing.{Outlet, Takes, Breaks}
use Rattle.om_io.proofs.Outlets.{row_breaks, row_more}
use Rattle.om_top.specs.AnswerText.{answer_line, answer_text, pair_line, value_text}

-- the flows of a code
pub same_flows : (items : List Flow) (a b : Code) → items ≡ a.flows → a ≡ b → items ≡ b.flows
same_flows items a b e f = e ∙ ap (λ (c : Code). c.flows) f

-- a flow and its sum
pub record IsPair {E : Type 0} (flows : List Flow) (sums : List E) (i : ℕ) (w : Flow) (x : E) : Type 0 where
  pub within : i < length (with_sums flows sums)
  pub pair : (d : List ℕ × E) → get_or (with_sums flows sums) i d ≡ (w.ends, x)

pub is_pair : {E : Type 0} (flows : List Flow) (sums : List E) (i : ℕ) (w : Flow) (x : E) → slice_get flows i ≡ Some w → slice_get sums i ≡ Some x → IsPair flows sums i w x
is_pair [] sums i w x p q = cc
is_pair (v ∷ vs) [] i w x p q = cc
is_pair (v ∷ vs) (y ∷ ys) zero w x p q =
    let a : v ≡ w = cc in let b : y ≡ x = cc in
    record { within = omega arith; pair = λ d. ap (λ (u : Flow). (u.ends, y)) a ∙ ap (λ z. (w.ends, z)) b }
is_pair (v ∷ vs) (y ∷ ys) (suc i) w x p q = let r = is_pair vs ys i w x p q in record { within = omega (arith, r.within); pair = r.pair }

-- no more pairs than flows
pub few_pairs : {E : Type 0} (flows : List Flow) (sums : List E) → length (with_sums flows sums) ≤ length flows
few_pairs [] sums = omega arith
few_pairs (w ∷ ws) [] = omega arith
few_pairs (w ∷ ws) (x ∷ xs) = omega (arith, few_pairs ws xs)

pub values_text : {E : Type 0} (show : E → List ℕ) (m : Model) (e : ℕ) (vs : List (List ℕ × E)) → answer_text show m e (values vs) ≡ flat_map (pair_line show e) vs
values_text show m e vs = flat_map-map (answer_line e) (value_text show) vs

module _ {E : Type 0} (show : E → List ℕ) (m : Model) (e : ℕ) (items flows : List Flow) (sums : List E) (same : items ≡ flows) where
  abbrev pub rows : List (List ℕ × E)
  rows = with_sums flows sums

  -- the lines of all flows
  pub all_lines : (a b : Outlet) (k : ℕ) → length items ≤ k → Takes a b (flat_map (pair_line show e) (take k rows)) → Takes a b (flat_map (pair_line show e) rows)
  all_lines a b k h p = rw (← take_all k rows (omega (arith, h, few_pairs flows sums, ap length same))) p

  module _ (k : ℕ) (x : E) (some : k < length items) (at : slice_get sums k ≡ Some x) (d : Flow) (line : List ℕ) (is : line ≡ pair_line show e ((slice_index_or items k d).ends, x)) where
    abbrev w : Flow
    w = slice_index_or items k d

    here : IsPair flows sums k w x
    here = is_pair flows sums k w x (ap (λ (ws : List Flow). slice_get ws k) (sym same) ∙ slice_get-get_or items k d some) at

    -- one line more
    pub line_more : (a b c : Outlet) → Takes a b (flat_map (pair_line show e) (take k rows)) → Takes b c line → Takes a c (flat_map (pair_line show e) (take (k + 1) rows))
    line_more a b c p q = row_more (pair_line show e) rows a b c k (w.ends, x) (w.ends, x) here.within (sym (here.pair (w.ends, x))) p (rw is at q)

    -- a line that broke off
    pub line_breaks : (a b c : Outlet) → Takes a b (flat_map (pair_line show e) (take k rows)) → Breaks b c line → Breaks a c (flat_map (pair_line show e) rows)
    line_breaks a b c p q = row_breaks (pair_line show e) rows a b c k (w.ends, x) (w.ends, x) here.within (sym (here.pair (w.ends, x))) p (rw is at q)
