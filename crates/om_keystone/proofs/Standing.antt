-- What hangs from edges of trees.
use Rattle.std.proofs.Common.{◌≡◌, ◌⊎◌, inl, inr, ⊎_elim, refl, subst}
use Rattle.om_ring.specs.Members.{In}
use Rattle.om_model.specs.Tree.{Tree, Branches}
use Rattle.om_model.specs.Tree.Tree.{leaf, join}
use Rattle.om_model.specs.Tree.Branches.{none, and}
use Rattle.om_model.specs.Outward.{subtrees, subtrees_all}
use Rattle.om_ring.proofs.Members.{in_left, in_right, in_either}

-- t is one of the branches, or hangs from one of them
abbrev mutual
  pub Stands : Tree → Branches → Type 0
  Stands t none = ⊥
  Stands t (and u bs) = (t ≡ u) ⊎ (Within t u ⊎ Stands t bs)

  pub Within : Tree → Tree → Type 0
  Within t (leaf k) = ⊥
  Within t (join f v c bs) = Stands t bs

-- what hangs from a tree that hangs there hangs there too
mutual
  pub stands_below : (t u : Tree) (bs : Branches) → Within t u → Stands u bs → Stands t bs
  stands_below t u none h i = i
  stands_below t u (and w bs) h (inl e) = inr (inl (subst (Within t) e h))
  stands_below t u (and w bs) h (inr (inl i)) = inr (inl (within_below t u w h i))
  stands_below t u (and w bs) h (inr (inr i)) = inr (inr (stands_below t u bs h i))

  within_below : (t u w : Tree) → Within t u → Within u w → Within t w
  within_below t u (leaf k) h i = i
  within_below t u (join f v c bs) h i = stands_below t u bs h i

own : (t : Tree) → In t (subtrees t)
unfolding subtrees
own (leaf k) = inl refl
own (join f v c bs) = inl refl

-- what stands in branches is one of their subtrees
mutual
  unfolding subtrees

  pub standing : (t : Tree) (bs : Branches) → Stands t bs → In t (subtrees_all bs)
  standing t none i = absurd i
  standing t (and u bs) (inl e) = in_left t (subtrees u) (subtrees_all bs) (subst (λ x. In t (subtrees x)) e (own t))
  standing t (and u bs) (inr (inl i)) = in_left t (subtrees u) (subtrees_all bs) (standing_in t u i)
  standing t (and u bs) (inr (inr i)) = in_right t (subtrees u) (subtrees_all bs) (standing t bs i)

  standing_in : (t u : Tree) → Within t u → In t (subtrees u)
  standing_in t (leaf k) i = absurd i
  standing_in t (join f v c bs) i = inr (standing t bs i)

mutual
  unfolding subtrees

  pub stood : (t : Tree) (bs : Branches) → In t (subtrees_all bs) → Stands t bs
  stood t none i = absurd i
  stood t (and u bs) i = ⊎_elim (λ a. ⊎_elim (λ e. inl e) (λ w. inr (inl w)) (stood_in t u a)) (λ a. inr (inr (stood t bs a))) (in_either t (subtrees u) (subtrees_all bs) i)

  stood_in : (t u : Tree) → In t (subtrees u) → (t ≡ u) ⊎ Within t u
  stood_in t (leaf k) (inl e) = inl e
  stood_in t (leaf k) (inr i) = absurd i
  stood_in t (join f v c bs) (inl e) = inl e
  stood_in t (join f v c bs) (inr i) = inr (stood t bs i)
