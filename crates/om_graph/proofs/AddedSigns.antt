-- Signs stay while nodes and terms are added.
use Rattle.std.proofs.Common.{◌≡◌, ℕ, ◌<◌, List, [], ◌∷◌, ◌++◌, length, get_or, ◌⊎◌, inl, inr, ap, sym, subst, ◌∙◌, slice_get, append-nil, append_assoc, Result, Ok, Err}
use Rattle.std.specs.Prelude.{All, OnOk}
use Rattle.om_ring.specs.declared.list.NoMemory.{NoMemory}
use Rattle.om_ring.specs.Members.{In}
use Rattle.om_graph.specs.declared.Key.{Key}
use Rattle.om_graph.specs.declared.KeyTerm.{KeyTerm}
use Rattle.om_graph.specs.declared.Term.{Term}
use Rattle.om_graph.specs.declared.closed_rows.Row.{Row}
use Rattle.om_graph.specs.declared.fusions.Fused.{Fused}
use Rattle.om_graph.specs.Graph.{Found, at_numbers}
use Rattle.om_graph.specs.Loops.{chosen_nodes}
use Rattle.om_graph.specs.Possible.{key_lt, state_of}
use Rattle.om_legs.specs.BranchNodes.{nodes_of}
use Rattle.om_graph.specs.Search.{State, add, interned, place}
use Rattle.om_graph.specs.SetWalk.{HasFoundSign, HasKeySign, HasRowSign, HasTermSign, HaveSigns, KeysHaveSigns}
use Rattle.om_graph.specs.Vertices.{Reaction, closed_minus, fused_minus}
use Rattle.om_graph.proofs.Adding.{in_interned, interned_grows}
use Rattle.om_ring.proofs.Members.{in_either}
use Rattle.om_graph.proofs.Orders.{key_order}
use Rattle.om_graph.proofs.Places.{all_left, get_left, place_gets}

module _ (r : Reaction) where
  longer_sign : (ns ys : List Key) (x : Term) → HasTermSign r ns x → HasTermSign r (ns ++ ys) x
  longer_sign ns ys x h = record {
    node = h.node;
    branches = h.branches;
    is_node = get_left ns ys x.node h.node h.is_node;
    are_branches = all_left ns ys (nodes_of x.branches) h.branches h.are_branches;
    minus = h.minus;
  }

  pub longer_found : (ns ms ys : List Key) (x : Fused) → ms ≡ ns ++ ys → HasFoundSign r ns x → HasFoundSign r ms x
  longer_found ns ms ys x e h = (h.0, ap (λ (ks : List Key). at_numbers ks (chosen_nodes x.branches)) e ∙ all_left ns ys (chosen_nodes x.branches) h.0 h.1, h.2)

  -- one term more
  pub term_signs : (ns ms : List Key) (ts us : List Term) (t : Term) (x : Fused) → ms ≡ interned key_lt ns x.key → us ≡ ts ++ t ∷ [] → t.node ≡ place key_lt ms x.key → nodes_of t.branches ≡ chosen_nodes x.branches → t.vertex ≡ x.vertex → t.minus ≡ x.minus
      → HaveSigns r ns ts → HasFoundSign r ns x → HaveSigns r ms us
  term_signs ns ms ts us t x e g n b v m old new y i = by (in_either y ts (t ∷ []) (subst (In y) g i))
    where
      more : List Key
      more = (interned_grows key_lt key_order ns x.key).0

      grown : ms ≡ ns ++ more
      grown = e ∙ (interned_grows key_lt key_order ns x.key).1

      here : HasTermSign r ms t
      here = record {
        node = x.key;
        branches = new.0;
        is_node = ap (slice_get ms) n ∙ place_gets key_lt key_order x.key ms (subst (In x.key) (sym e) (in_interned key_lt key_order ns x.key));
        are_branches = ap (at_numbers ms) b ∙ ap (λ (ks : List Key). at_numbers ks (chosen_nodes x.branches)) grown ∙ all_left ns more (chosen_nodes x.branches) new.0 new.1;
        minus = m ∙ new.2 ∙ ap (λ w. fused_minus r x.key.field w x.key.legs new.0) (sym v);
      }

      by : In y ts ⊎ In y (t ∷ []) → HasTermSign r ms y
      by (inl j) = subst (λ (ks : List Key). HasTermSign r ks y) (sym grown) (longer_sign ns more y (old y j))
      by (inr (inl q)) = subst (HasTermSign r ms) (sym q) here
      by (inr (inr f)) = absurd f

  -- one keystone term more
  pub key_signs : (ns : List Key) (ys zs : List KeyTerm) (t : KeyTerm) (x : Row) → zs ≡ ys ++ t ∷ [] → nodes_of t.branches ≡ chosen_nodes x.branches → t.vertex ≡ x.vertex → t.minus ≡ x.minus
      → KeysHaveSigns r ns ys → HasRowSign r ns x → KeysHaveSigns r ns zs
  key_signs ns ys zs t x g b v m old new y i = by (in_either y ys (t ∷ []) (subst (In y) g i))
    where
      here : HasKeySign r ns t
      here = (new.0, ap (at_numbers ns) b ∙ new.1, m ∙ new.2 ∙ ap (λ w. closed_minus r w new.0) (sym v))

      by : In y ys ⊎ In y (t ∷ []) → HasKeySign r ns y
      by (inl j) = old y j
      by (inr (inl q)) = subst (HasKeySign r ns) (sym q) here
      by (inr (inr f)) = absurd f

-- the nodes after are those before with more behind them
pub as_long : (ns : List Key) → (ys : List Key) × (ns ≡ ns ++ ys)
as_long ns = ([], sym (append-nil ns))

pub still_longer : (ns ms ks : List Key) (ts us : List Term) (x : Found Key) → (ys : List Key) × (ms ≡ ns ++ ys) → state_of ks us ≡ add key_lt (state_of ms ts) x → (ys : List Key) × (ks ≡ ns ++ ys)
unfolding add
still_longer ns ms ks ts us x h e =
    let g = interned_grows key_lt key_order ms x.made in
    (h.0 ++ g.0, ap (λ (st : State Key). st.nodes) e ∙ g.1 ∙ ap (λ (l : List Key). l ++ g.0) h.1 ∙ append_assoc ns h.0 g.0)

-- one of those that all have their sign
pub found_at : {A : Type 0} (P : A → Type 0) (xs : List A) (i : ℕ) (x : A) → All P xs → i < length xs → x ≡ get_or xs i x → P x
found_at P xs i x a l e = subst P (sym e) (a i x l)

pub keys_signed : (ys zs : List KeyTerm) (t : KeyTerm) (x : Row) (result : Result (Unit {0}) NoMemory) → OnOk result (zs ≡ ys ++ t ∷ []) → nodes_of t.branches ≡ chosen_nodes x.branches → t.vertex ≡ x.vertex → t.minus ≡ x.minus
    → OnOk result ((r : Reaction) (ns : List Key) → KeysHaveSigns r ns ys → HasRowSign r ns x → KeysHaveSigns r ns zs)
keys_signed ys zs t x (Ok u) g b v m = λ r ns old new. key_signs r ns ys zs t x g b v m old new
keys_signed ys zs t x (Err f) g b v m = g
