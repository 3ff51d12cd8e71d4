-- The dens of a graph, in order.
use Rattle.std.proofs.Common.{◌≡◌, ℕ, ◌+◌, ◌<◌, List, [], ◌∷◌, ◌++◌, length, take, get_or, Bool, true, false, cond, sym, ◌∙◌, ap}
use Rattle.std.specs.List.{fold, filter}
use Rattle.std.specs.BTreeSet.{insert_key}
use Rattle.std.specs.Cmp.{IsTotalOrder}
use Rattle.std.proofs.lemmas.Cmp.{then_total, on_total, nat_cmp_total}
use Rattle.std.proofs.lemmas.List.Elements.{filter_more}
use Rattle.std.proofs.lemmas.List.Sums.{fold-append}
use Rattle.om_graph.specs.declared.Key.{Key}
use Rattle.om_code.specs.declared.code.Den.{Den}
use Rattle.om_keystone.specs.Built.{is_inner}
use Rattle.om_code.specs.DenOrder.{den_order}
use Rattle.om_emit.specs.GraphCode.{den_of, dens_of}

pub dens_total : IsTotalOrder den_order
dens_total = then_total (on_total (λ d. d.legs) nat_cmp_total) (on_total (λ d. d.field) nat_cmp_total)

module _ (anti : ℕ → ℕ) (n : ℕ) (nodes : List Key) (i : ℕ) (x : Key) (l : i < length nodes) (at : x ≡ get_or nodes i x) where
  one_more : (b : Bool) → is_inner x ≡ b → dens_of anti n (take (i + 1) nodes) ≡ fold (λ dens node. insert_key den_order dens (den_of anti n node)) (dens_of anti n (take i nodes)) (cond b (x ∷ []) [])
  unfolding dens_of
  one_more b e =
      ap (fold (λ dens node. insert_key den_order dens (den_of anti n node)) []) (filter_more is_inner nodes i x l ∙ ap (λ y. filter is_inner (take i nodes) ++ cond (is_inner y) (y ∷ []) []) (sym at) ∙ ap (λ c. filter is_inner (take i nodes) ++ cond c (x ∷ []) []) e)
      ∙ fold-append (λ dens node. insert_key den_order dens (den_of anti n node)) [] (filter is_inner (take i nodes)) (cond b (x ∷ []) [])

  pub inner_more : (old new : List Den) (den : Den) → is_inner x ≡ true → old ≡ dens_of anti n (take i nodes) → den ≡ den_of anti n x → new ≡ insert_key den_order old den → new ≡ dens_of anti n (take (i + 1) nodes)
  inner_more old new den e f g h = h ∙ ap (λ d. insert_key den_order old d) g ∙ ap (λ ds. insert_key den_order ds (den_of anti n x)) f ∙ sym (one_more true e)

  pub leg_more : (old : List Den) → is_inner x ≡ false → old ≡ dens_of anti n (take i nodes) → old ≡ dens_of anti n (take (i + 1) nodes)
  leg_more old e f = f ∙ sym (one_more false e)

pub dens_none : (anti : ℕ → ℕ) (n : ℕ) (ds : List Den) → ds ≡ [] → ds ≡ dens_of anti n []
unfolding dens_of
dens_none anti n ds e = e
