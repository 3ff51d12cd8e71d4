-- Walks over sets, one after the other.
use Rattle.std.proofs.Common.{◌≡◌, ℕ, zero, suc, ◌+◌, ◌-◌, ◌/◌, ◌<◌, ◌≤◌, List, [], ◌∷◌, ◌++◌, flat_map, length, Bool, true, false, cond, eqb, ◌&&◌, refl, ap, ap₂, sym, subst, ◌∙◌, arith, append-nil, append_assoc}
use Rattle.std.proofs.lemmas.List.Concat.{flat_map-append}
use Rattle.om_legs.specs.Legs.{all_legs, size}
use Rattle.om_graph.specs.declared.Key.{Key}
use Rattle.om_graph.specs.declared.Term.{Term}
use Rattle.om_graph.specs.declared.TheConstants.{MOST_TERMS}
use Rattle.om_graph.specs.Caches.{counts_from}
use Rattle.om_graph.specs.Fusion.{Fusion}
use Rattle.om_graph.specs.Possible.{state_of}
use Rattle.om_graph.specs.Search.{Search, State, HasDone, Ready, all_done, step, walk}
use Rattle.om_graph.specs.SetSearch.{outward_sets, set_at, set_search, sets_of_size}
use Rattle.om_graph.specs.SetWalk.{CanWalk, HasWalked}
use Rattle.om_graph.specs.Vertices.{Reaction, fusion, is_outward}
use Rattle.om_graph.proofs.Orders.{key_order}
use Rattle.om_graph.proofs.SplitMembers.{is_search, found_once}
use Rattle.om_graph.proofs.Splits.{steps_count}
use Rattle.om_graph.proofs.Walks.{walk_is_exact}

module _ {K F : Type 0} (p : Fusion K F) (z : Search K) where
  pub walk-append : (st : State K) (xs ys : List ℕ) → walk p z st (xs ++ ys) ≡ walk p z (walk p z st xs) ys
  unfolding walk
  walk-append st [] ys = refl
  walk-append st (x ∷ xs) ys = walk-append (step p z st x) xs ys

  ready-first : (done xs ys : List ℕ) → Ready p z done (xs ++ ys) → Ready p z done xs
  ready-first done [] ys h = tt
  ready-first done (x ∷ xs) ys h = (h.0, ready-first (x ∷ done) xs ys h.1)

  ready-rest : (done xs ys : List ℕ) → Ready p z done (xs ++ ys) → Ready p z (all_done p z done xs) ys
  ready-rest done [] ys h = h
  ready-rest done (x ∷ xs) ys h = ready-rest (x ∷ done) xs ys h.1

module _ (r : Reaction) where
  pub none_walked : (ns : List Key) (ts : List Term) (ss : List ℕ) → CanWalk r ns ts ss → HasWalked r ns ts [] ns ts
  unfolding walk
  none_walked ns ts ss h = record { state = refl; few = h.few; signs = h.signs }

  pub more_walked : (ns ms ks : List Key) (ts us vs : List Term) (xs ys : List ℕ) → HasWalked r ns ts xs ms us → HasWalked r ms us ys ks vs → HasWalked r ns ts (xs ++ ys) ks vs
  more_walked ns ms ks ts us vs xs ys h g = record {
    state = g.state ∙ ap (λ (st : State Key). walk (fusion r) (set_search r) st ys) h.state ∙ sym (walk-append (fusion r) (set_search r) (state_of ns ts) xs ys);
    few = g.few;
    signs = g.signs;
  }

  pub can_first : (ns : List Key) (ts : List Term) (xs ys : List ℕ) → CanWalk r ns ts (xs ++ ys) → CanWalk r ns ts xs
  can_first ns ts xs ys h = record { kinds = h.kinds; reaction = h.reaction; done = h.done; have = h.have; ready = ready-first (fusion r) (set_search r) h.done xs ys h.ready; few = h.few; signs = h.signs }

  pub can_rest : (ns ms : List Key) (ts us : List Term) (xs ys : List ℕ) → CanWalk r ns ts (xs ++ ys) → HasWalked r ns ts xs ms us → CanWalk r ms us ys
  can_rest ns ms ts us xs ys h g = record {
    kinds = h.kinds;
    reaction = h.reaction;
    done = all_done (fusion r) (set_search r) h.done xs;
    have = subst (HasDone (fusion r) (set_search r) (all_done (fusion r) (set_search r) h.done xs)) (sym g.state)
        (walk_is_exact (fusion r) (set_search r) (is_search r h.reaction.fields) h.done xs (state_of ns ts) (ready-first (fusion r) (set_search r) h.done xs ys h.ready) h.have);
    ready = ready-rest (fusion r) (set_search r) h.done xs ys h.ready;
    few = g.few;
    signs = g.signs;
  }

  grows : (ns : List Key) (ts : List Term) (ss : List ℕ) → CanWalk r ns ts ss → (st : State Key) (xs : List ℕ) → length st.terms ≤ length (walk (fusion r) (set_search r) st xs).terms
  grows ns ts ss h = (steps_count (fusion r) (set_search r) key_order (found_once r h.reaction.fields)).1

  -- too many terms stay too many
  pub stays_large : (ns ms : List Key) (ts us : List Term) (xs ys zs : List ℕ) → CanWalk r ns ts (xs ++ (ys ++ zs)) → HasWalked r ns ts xs ms us
      → MOST_TERMS < length (walk (fusion r) (set_search r) (state_of ms us) ys).terms → MOST_TERMS < length (walk (fusion r) (set_search r) (state_of ns ts) (xs ++ (ys ++ zs))).terms
  stays_large ns ms ts us xs ys zs h g l =
      let e : walk (fusion r) (set_search r) (state_of ns ts) (xs ++ (ys ++ zs)) ≡ walk (fusion r) (set_search r) (walk (fusion r) (set_search r) (state_of ms us) ys) zs =
      walk-append (fusion r) (set_search r) (state_of ns ts) xs (ys ++ zs) ∙ ap (λ (st : State Key). walk (fusion r) (set_search r) st (ys ++ zs)) (sym g.state) ∙ walk-append (fusion r) (set_search r) (state_of ms us) ys zs in
      let m = grows ns ts (xs ++ (ys ++ zs)) h (walk (fusion r) (set_search r) (state_of ms us) ys) zs in
      let n = ap (λ (st : State Key). length st.terms) e in
      omega (arith, l, m, n)

-- ---- over the numbers of a range

counts-cons : (a n : ℕ) → counts_from a (suc n) ≡ a ∷ counts_from (suc a) n
unfolding counts_from
counts-cons a zero = ap (λ m. m ∷ []) (nought a)
  where
    nought : (a : ℕ) → a + zero ≡ a
    nought a = omega arith
counts-cons a (suc n) = ap (λ xs. xs ++ (a + suc n) ∷ []) (counts-cons a n) ∙ ap (λ m. a ∷ (counts_from (suc a) n ++ m ∷ [])) (moved a n)
  where
    moved : (a n : ℕ) → a + suc n ≡ suc a + n
    moved a n = omega arith

counts-both : (a m n : ℕ) → counts_from a (m + n) ≡ counts_from a m ++ counts_from (a + m) n
unfolding counts_from
counts-both a m zero = ap (counts_from a) (nought m) ∙ sym (append-nil (counts_from a m))
  where
    nought : (m : ℕ) → m + zero ≡ m
    nought m = omega arith
counts-both a m (suc n) =
    ap (counts_from a) (one_more m n) ∙ ap₂ (λ xs k. xs ++ k ∷ []) (counts-both a m n) (moved a m n) ∙ append_assoc (counts_from a m) (counts_from (a + m) n) ((a + m + n) ∷ [])
  where
    one_more : (m n : ℕ) → m + suc n ≡ suc (m + n)
    one_more m n = omega arith

    moved : (a m n : ℕ) → a + (m + n) ≡ a + m + n
    moved a m n = omega arith

-- those before, this one and those after
range_split : (f : ℕ → List ℕ) (a k end : ℕ) → a ≤ k → k < end → flat_map f (counts_from a (end - a)) ≡ flat_map f (counts_from a (k - a)) ++ (f k ++ flat_map f (counts_from (suc k) (end - suc k)))
range_split f a k end l m =
    let e : end - a ≡ (k - a) + suc (end - suc k) = omega (arith, l, m) in
    let g : a + (k - a) ≡ k = omega (arith, l) in
    ap (λ n. flat_map f (counts_from a n)) e ∙ ap (flat_map f) (counts-both a (k - a) (suc (end - suc k)))
    ∙ flat_map-append f (counts_from a (k - a)) (counts_from (a + (k - a)) (suc (end - suc k)))
    ∙ ap (λ n. flat_map f (counts_from a (k - a)) ++ flat_map f (counts_from n (suc (end - suc k)))) g
    ∙ ap (λ xs. flat_map f (counts_from a (k - a)) ++ flat_map f xs) (counts-cons k (end - suc k))

only_one : (k : ℕ) → k ∷ counts_from (suc k) zero ≡ k ∷ []
unfolding counts_from
only_one k = refl

range_next : (f : ℕ → List ℕ) (a k : ℕ) → a ≤ k → flat_map f (counts_from a (k + 1 - a)) ≡ flat_map f (counts_from a (k - a)) ++ f k
range_next f a k l =
    let e : k + 1 - a ≡ (k - a) + suc zero = omega (arith, l) in
    let g : a + (k - a) ≡ k = omega (arith, l) in
    ap (λ n. flat_map f (counts_from a n)) e ∙ ap (flat_map f) (counts-both a (k - a) (suc zero))
    ∙ flat_map-append f (counts_from a (k - a)) (counts_from (a + (k - a)) (suc zero))
    ∙ ap (λ n. flat_map f (counts_from a (k - a)) ++ flat_map f (counts_from n (suc zero))) g
    ∙ ap (λ xs. flat_map f (counts_from a (k - a)) ++ flat_map f xs) (counts-cons k zero ∙ only_one k)
    ∙ ap (λ xs. flat_map f (counts_from a (k - a)) ++ xs) (append-nil (f k))

module _ (r : Reaction) (ns : List Key) (ts : List Term) (f : ℕ → List ℕ) (a : ℕ) where
  pub none_in_range : (end : ℕ) → CanWalk r ns ts (flat_map f (counts_from a (end - a))) → HasWalked r ns ts (flat_map f (counts_from a (a - a))) ns ts
  unfolding counts_from
  none_in_range end h = subst (λ (n : ℕ). HasWalked r ns ts (flat_map f (counts_from a n)) ns ts) (nought a) (none_walked r ns ts (flat_map f (counts_from a (end - a))) h)
    where
      nought : (a : ℕ) → 0 ≡ a - a
      nought a = omega arith

  module _ (k : ℕ) (l : a ≤ k) (ms : List Key) (us : List Term) (g : HasWalked r ns ts (flat_map f (counts_from a (k - a))) ms us) where
    pub more_in_range : (ks : List Key) (vs : List Term) → HasWalked r ms us (f k) ks vs → HasWalked r ns ts (flat_map f (counts_from a (k + 1 - a))) ks vs
    more_in_range ks vs w = subst (λ (ss : List ℕ). HasWalked r ns ts ss ks vs) (sym (range_next f a k l)) (more_walked r ns ms ks ts us vs (flat_map f (counts_from a (k - a))) (f k) g w)

    module _ (end : ℕ) (m : k < end) (h : CanWalk r ns ts (flat_map f (counts_from a (end - a)))) where
      whole : CanWalk r ns ts (flat_map f (counts_from a (k - a)) ++ (f k ++ flat_map f (counts_from (suc k) (end - suc k))))
      whole = subst (CanWalk r ns ts) (range_split f a k end l m) h

      pub can_next : CanWalk r ms us (f k)
      can_next = can_first r ms us (f k) (flat_map f (counts_from (suc k) (end - suc k))) (can_rest r ns ms ts us (flat_map f (counts_from a (k - a))) (f k ++ flat_map f (counts_from (suc k) (end - suc k))) whole g)

      pub large_in_range : MOST_TERMS < length (walk (fusion r) (set_search r) (state_of ms us) (f k)).terms → MOST_TERMS < length (walk (fusion r) (set_search r) (state_of ns ts) (flat_map f (counts_from a (end - a)))).terms
      large_in_range x =
          subst (λ (ss : List ℕ). MOST_TERMS < length (walk (fusion r) (set_search r) (state_of ns ts) ss).terms) (sym (range_split f a k end l m))
          (stays_large r ns ms ts us (flat_map f (counts_from a (k - a))) (f k) (flat_map f (counts_from (suc k) (end - suc k))) whole g x)

-- ---- the sets of the loops

sets_are : (n m : ℕ) → sets_of_size n m ≡ flat_map (set_at n m) (counts_from 1 (all_legs n + 1 - 1))
unfolding sets_of_size
sets_are n m = refl

pub sets_in_range : (n m k : ℕ) → k ≡ all_legs n → sets_of_size n m ≡ flat_map (set_at n m) (counts_from 1 (k + 1 - 1))
sets_in_range n m k e = sets_are n m ∙ ap (λ j. flat_map (set_at n m) (counts_from 1 (j + 1 - 1))) (sym e)

all_sets_are : (n : ℕ) → outward_sets n ≡ flat_map (sets_of_size n) (counts_from 2 (n / 2 + 1 - 2))
unfolding outward_sets
all_sets_are n = refl

pub all_in_range : (n k : ℕ) → k ≡ n → outward_sets n ≡ flat_map (sets_of_size n) (counts_from 2 (k / 2 + 1 - 2))
all_in_range n k e = all_sets_are n ∙ ap (λ j. flat_map (sets_of_size n) (counts_from 2 (j / 2 + 1 - 2))) (sym e)

-- the set with a number, or none
tested : (n k m number set : ℕ) (b c : Bool) → set ≡ number → k ≡ n → b ≡ (eqb (size set) m && is_outward k set) → b ≡ c → (eqb (size number) m && is_outward n number) ≡ c
tested n k m number set b c e f g t = ap₂ (λ x y. eqb (size x) m && is_outward y x) (sym e) (sym f) ∙ sym g ∙ t

pub is_at : (n k m number set : ℕ) (b : Bool) → set ≡ number → k ≡ n → b ≡ (eqb (size set) m && is_outward k set) → b ≡ true → set ∷ [] ≡ set_at n m number
unfolding set_at
is_at n k m number set b e f g t = ap (λ x. x ∷ []) e ∙ sym (ap (λ c. cond c (number ∷ []) []) (tested n k m number set b true e f g t))

pub none_at : (n k m number set : ℕ) (b : Bool) → set ≡ number → k ≡ n → b ≡ (eqb (size set) m && is_outward k set) → b ≡ false → [] ≡ set_at n m number
unfolding set_at
none_at n k m number set b e f g t = sym (ap (λ c. cond c (number ∷ []) []) (tested n k m number set b false e f g t))
