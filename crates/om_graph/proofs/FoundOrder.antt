-- The derived orders of what was found are those of the graph.
use Rattle.std.proofs.Common.{◌≡◌, ℕ, zero, suc, ◌<◌, List, [], ◌∷◌, ◌++◌, take, length, Bool, true, false, cond, ltb, refl, ap, ap₂, sym, subst, ◌∙◌, arith, true≢false, is_lt}
use Rattle.std.proofs.lemmas.Bool.{ltb-true, ltb-false}
use Rattle.std.proofs.lemmas.Bool.Decides.{nat_tests}
use Rattle.std.proofs.lemmas.Cmp.{same_from_slice_cmp}
use Rattle.std.specs.Ordering.{ordering_then, nat_cmp, bool_cmp}
use Rattle.std.proofs.Common.{Ordering, Less, Equal, Greater}
use Rattle.std.specs.Cmp.Lexicographic.{slice_cmp}
use Rattle.om_model.specs.Order.{numbers_lt}
use Rattle.om_colour.specs.contracts.FlowOrd.TheImpl as flow
use Rattle.om_colour.specs.declared.Flow.{Flow}
use Rattle.om_graph.specs.contracts.closed_rows.RowOrd.TheImpl as row
use Rattle.om_graph.specs.contracts.fusions.FusedOrd.TheImpl as fused
use Rattle.om_graph.specs.declared.Key.{Key}
use Rattle.om_graph.specs.declared.chosen.Chosen.{Chosen}
use Rattle.om_graph.specs.declared.fusions.Fused.{Fused}
use Rattle.om_graph.specs.declared.closed_rows.Row.{Row}
use Rattle.om_graph.specs.Graph.{found_lt, numbered_lt}
use Rattle.om_graph.specs.Loops.{chosen_nodes, four_nodes, fused_found, row_seen}
use Rattle.om_graph.specs.Possible.{flow_lt, key_lt}
use Rattle.om_graph.proofs.Orders.{key_order}

-- ---- lists of numbers

is_less : (o : Ordering) → is_lt o ≡ true → o ≡ Less
is_less Less e = refl
is_less Equal e = absurd (true≢false (sym e))
is_less Greater e = absurd (true≢false (sym e))

pub no_less : (o : Ordering) → (o ≡ Less → ⊥) → is_lt o ≡ false
no_less Less h = absurd (h refl)
no_less Equal h = refl
no_less Greater h = refl

pub lists_agree : (xs ys : List ℕ) → is_lt (slice_cmp nat_cmp xs ys) ≡ numbers_lt xs ys
unfolding numbers_lt
lists_agree xs ys = same_from_slice_cmp nat_cmp is_lt numbers_lt refl (λ _ _. refl) (λ _ _. refl) (λ x y us vs o h. grind (arith, nat_tests)) xs ys (slice_cmp nat_cmp xs ys) refl

list_less : (xs ys : List ℕ) → numbers_lt xs ys ≡ true → slice_cmp nat_cmp xs ys ≡ Less
list_less xs ys e = is_less (slice_cmp nat_cmp xs ys) (lists_agree xs ys ∙ e)

nat_less : (x y : ℕ) → x < y → nat_cmp x y ≡ Less
nat_less x y l = grind (arith, nat_tests)

nat_equal : (x y : ℕ) → x ≡ y → nat_cmp x y ≡ Equal
nat_equal x y e = grind (arith, nat_tests)

list_itself : (xs : List ℕ) → slice_cmp nat_cmp xs xs ≡ Equal
list_itself [] = refl
list_itself (x ∷ xs) = ap (λ o. ordering_then o (slice_cmp nat_cmp xs xs)) (nat_equal x x refl) ∙ list_itself xs

-- before by a first part that is as long
first_part : (c d : ℕ) (xs ys : List ℕ) → length (take c xs) ≡ length (take d ys) → numbers_lt (take c xs) (take d ys) ≡ true → numbers_lt xs ys ≡ true
unfolding numbers_lt
first_part zero zero xs ys l e = absurd (true≢false (sym e))
first_part zero (suc d) xs [] l e = absurd (true≢false (sym e))
first_part zero (suc d) xs (y ∷ ys) l e = absurd (omega (arith, l))
first_part (suc c) d [] ys l e = by (take d ys) l e
  where
    by : (zs : List ℕ) → length {A = ℕ} [] ≡ length zs → numbers_lt [] zs ≡ true → numbers_lt [] ys ≡ true
    by [] l e = absurd (true≢false (sym e))
    by (z ∷ zs) l e = absurd (omega (arith, l))
first_part (suc c) zero (x ∷ xs) ys l e = absurd (omega (arith, l))
first_part (suc c) (suc d) (x ∷ xs) [] l e = absurd (omega (arith, l))
first_part (suc c) (suc d) (x ∷ xs) (y ∷ ys) l e = by (ltb x y) (ltb y x) e (first_part c d xs ys (omega (arith, l)))
  where
    by : (a b : Bool) → cond a true (cond b false (numbers_lt (take c xs) (take d ys))) ≡ true → (numbers_lt (take c xs) (take d ys) ≡ true → numbers_lt xs ys ≡ true) → cond a true (cond b false (numbers_lt xs ys)) ≡ true
    by true b e ih = refl
    by false true e ih = absurd (true≢false (sym e))
    by false false e ih = ih e

-- with one more number behind lists that are as long
one_behind : (xs ys : List ℕ) (x y : ℕ) → length xs ≡ length ys → numbers_lt (xs ++ x ∷ []) (ys ++ y ∷ []) ≡ true → ordering_then (slice_cmp nat_cmp xs ys) (nat_cmp x y) ≡ Less
unfolding numbers_lt
one_behind [] [] x y l e = by (ltb x y) (ltb y x) refl e
  where
    by : (a b : Bool) → ltb x y ≡ a → cond a true (cond b false false) ≡ true → nat_cmp x y ≡ Less
    by true b g e = nat_less x y (ltb-true x y g)
    by false true g e = absurd (true≢false (sym e))
    by false false g e = absurd (true≢false (sym e))
one_behind [] (v ∷ ys) x y l e = absurd (omega (arith, l))
one_behind (u ∷ xs) [] x y l e = absurd (omega (arith, l))
one_behind (u ∷ xs) (v ∷ ys) x y l e = by (ltb u v) (ltb v u) refl refl e (one_behind xs ys x y (omega (arith, l)))
  where
    by : (a b : Bool) → ltb u v ≡ a → ltb v u ≡ b → cond a true (cond b false (numbers_lt (xs ++ x ∷ []) (ys ++ y ∷ []))) ≡ true → (numbers_lt (xs ++ x ∷ []) (ys ++ y ∷ []) ≡ true → ordering_then (slice_cmp nat_cmp xs ys) (nat_cmp x y) ≡ Less)
        → ordering_then (ordering_then (nat_cmp u v) (slice_cmp nat_cmp xs ys)) (nat_cmp x y) ≡ Less
    by true b g h e ih = ap (λ o. ordering_then (ordering_then o (slice_cmp nat_cmp xs ys)) (nat_cmp x y)) (nat_less u v (ltb-true u v g))
    by false true g h e ih = absurd (true≢false (sym e))
    by false false g h e ih = ap (λ o. ordering_then (ordering_then o (slice_cmp nat_cmp xs ys)) (nat_cmp x y)) (nat_equal u v (same g h)) ∙ ih e
      where
        same : ltb u v ≡ false → ltb v u ≡ false → u ≡ v
        same g h = let a = ltb-false u v g in let b = ltb-false v u h in omega (arith, a, b)

-- ---- vertex, choice and nodes

-- where the first that differ are less, the same holds with more behind them
later : (o u v : Ordering) → (u ≡ Less → v ≡ Less) → ordering_then o u ≡ Less → ordering_then o v ≡ Less
later Less u v h e = refl
later Equal u v h e = h e
later Greater u v h e = e

-- the order of nodes that are chosen
chosen_cmp : Chosen → Chosen → Ordering
chosen_cmp b a =
    ordering_then (nat_cmp b.first a.first) (ordering_then (nat_cmp b.second a.second) (ordering_then (nat_cmp b.third a.third) (ordering_then (nat_cmp b.fourth a.fourth) (nat_cmp b.count a.count))))

chosen_less : (b a : Chosen) → numbers_lt (four_nodes b) (four_nodes a) ≡ true → chosen_cmp b a ≡ Less
unfolding chosen_cmp
chosen_less b a e =
    later (nat_cmp b.first a.first) _ _ (later (nat_cmp b.second a.second) _ _ (later (nat_cmp b.third a.third) _ _ (later (nat_cmp b.fourth a.fourth) Equal (nat_cmp b.count a.count) (λ f. absurd (true≢false (sym (ap is_lt f)))))))
    (list_less (four_nodes b) (four_nodes a) e)

-- the order of what stands behind what is made
behind : ℕ → ℕ → Chosen → Bool → ℕ → ℕ → Chosen → Bool → Ordering
behind v c b m w d a n = ordering_then (nat_cmp v w) (ordering_then (nat_cmp c d) (ordering_then (chosen_cmp b a) (bool_cmp m n)))

rest_less : (v c w d : ℕ) (b a : Chosen) (m n : Bool) → (v ≡ w → length (chosen_nodes b) ≡ length (chosen_nodes a)) → numbers_lt (v ∷ c ∷ chosen_nodes b) (w ∷ d ∷ chosen_nodes a) ≡ true → behind v c b m w d a n ≡ Less
unfolding behind numbers_lt
rest_less v c w d b a m n l e = by (ltb v w) (ltb w v) refl refl e
  where
    nodes_less : v ≡ w → numbers_lt (chosen_nodes b) (chosen_nodes a) ≡ true → ordering_then (chosen_cmp b a) (bool_cmp m n) ≡ Less
    nodes_less q e = ap (λ o. ordering_then o (bool_cmp m n)) (chosen_less b a (first_part b.count a.count (four_nodes b) (four_nodes a) (l q) e))

    choices : v ≡ w → (p q : Bool) → ltb c d ≡ p → ltb d c ≡ q → cond p true (cond q false (numbers_lt (chosen_nodes b) (chosen_nodes a))) ≡ true
        → ordering_then (nat_cmp c d) (ordering_then (chosen_cmp b a) (bool_cmp m n)) ≡ Less
    choices q true h f g e = ap (λ o. ordering_then o (ordering_then (chosen_cmp b a) (bool_cmp m n))) (nat_less c d (ltb-true c d f))
    choices q false true f g e = absurd (true≢false (sym e))
    choices q false false f g e =
        ap (λ o. ordering_then o (ordering_then (chosen_cmp b a) (bool_cmp m n))) (nat_equal c d (let x = ltb-false c d f in let y = ltb-false d c g in omega (arith, x, y)))
        ∙ nodes_less q e

    by : (p q : Bool) → ltb v w ≡ p → ltb w v ≡ q → cond p true (cond q false (cond (ltb c d) true (cond (ltb d c) false (numbers_lt (chosen_nodes b) (chosen_nodes a))))) ≡ true
        → ordering_then (nat_cmp v w) (ordering_then (nat_cmp c d) (ordering_then (chosen_cmp b a) (bool_cmp m n))) ≡ Less
    by true q f g e = ap (λ o. ordering_then o (ordering_then (nat_cmp c d) (ordering_then (chosen_cmp b a) (bool_cmp m n)))) (nat_less v w (ltb-true v w f))
    by false true f g e = absurd (true≢false (sym e))
    by false false f g e =
        let s : v ≡ w = (let x = ltb-false v w f in let y = ltb-false w v g in omega (arith, x, y)) in
        ap (λ o. ordering_then o (ordering_then (nat_cmp c d) (ordering_then (chosen_cmp b a) (bool_cmp m n)))) (nat_equal v w s)
        ∙ choices s (ltb c d) (ltb d c) refl refl e

-- by what is made, and then by the rest
made_first : (made rest : Ordering) (a b t : Bool) → (a ≡ true → made ≡ Less) → (a ≡ false → b ≡ false → made ≡ Equal) → (t ≡ true → rest ≡ Less) → is_lt (ordering_then made rest) ≡ false → cond a true (cond b false t) ≡ false
made_first made rest true b t less equal more h = absurd (true≢false (sym (ap (λ o. is_lt (ordering_then o rest)) (less refl)) ∙ h))
made_first made rest false true t less equal more h = refl
made_first made rest false false true less equal more h = absurd (true≢false (sym (ap₂ (λ o p. is_lt (ordering_then o p)) (equal refl refl) (more refl)) ∙ h))
made_first made rest false false false less equal more h = refl

pub row_before : (x y : Row) → (x.vertex ≡ y.vertex → length (chosen_nodes x.branches) ≡ length (chosen_nodes y.branches)) → is_lt ((row.ghosts).cmp x y) ≡ false → numbered_lt (row_seen x) (row_seen y) ≡ false
unfolding numbered_lt numbers_lt behind chosen_cmp
row_before x y l h =
    made_first (nat_cmp x.flow y.flow) (behind x.vertex x.choice x.branches x.minus y.vertex y.choice y.branches y.minus)
    (ltb x.flow y.flow) (ltb y.flow x.flow) (numbers_lt (x.vertex ∷ x.choice ∷ chosen_nodes x.branches) (y.vertex ∷ y.choice ∷ chosen_nodes y.branches))
    (λ e. nat_less x.flow y.flow (ltb-true x.flow y.flow e)) (λ e g. nat_equal x.flow y.flow (let a = ltb-false x.flow y.flow e in let b = ltb-false y.flow x.flow g in omega (arith, a, b)))
    (rest_less x.vertex x.choice y.vertex y.choice x.branches y.branches x.minus y.minus l) h

pub flow_before : (x y : Flow) → is_lt ((flow.ghosts).cmp x y) ≡ false → flow_lt x y ≡ false
unfolding flow_lt
flow_before x y h = sym (lists_agree x.ends y.ends) ∙ h

-- the order of keys of one set
key_cmp : Key → Key → Ordering
key_cmp a b = ordering_then (nat_cmp a.legs b.legs) (ordering_then (nat_cmp a.field b.field) (ordering_then (slice_cmp nat_cmp a.partial.ends b.partial.ends) (nat_cmp a.partial.into b.partial.into)))

key_less : (a b : Key) → a.legs ≡ b.legs → length a.partial.ends ≡ length b.partial.ends → key_lt a b ≡ true → key_cmp a b ≡ Less
unfolding key_cmp key_lt numbers_lt
key_less a b s l e =
    ap (λ o. ordering_then o (ordering_then (nat_cmp a.field b.field) (ordering_then (slice_cmp nat_cmp a.partial.ends b.partial.ends) (nat_cmp a.partial.into b.partial.into)))) (nat_equal a.legs b.legs s)
    ∙ by (ltb a.field b.field) (ltb b.field a.field) refl refl (past (Rattle.om_legs.specs.Legs.size a.legs) (Rattle.om_legs.specs.Legs.size b.legs) a.legs b.legs _ (ap Rattle.om_legs.specs.Legs.size s) s e)
  where
    past : (p q s t : ℕ) (z : Bool) → p ≡ q → s ≡ t → cond (ltb p q) true (cond (ltb q p) false (cond (ltb s t) true (cond (ltb t s) false z))) ≡ true → z ≡ true
    past p q s t z e g h =
        let a : ltb p q ≡ false = grind (arith, nat_tests) in
        let b : ltb q p ≡ false = grind (arith, nat_tests) in
        let c : ltb s t ≡ false = grind (arith, nat_tests) in
        let d : ltb t s ≡ false = grind (arith, nat_tests) in
        sym (ap₂ (λ x y. cond x true (cond y false (cond (ltb s t) true (cond (ltb t s) false z)))) a b ∙ ap₂ (λ x y. cond x true (cond y false z)) c d) ∙ h

    by : (p q : Bool) → ltb a.field b.field ≡ p → ltb b.field a.field ≡ q → cond p true (cond q false (numbers_lt (a.partial.ends ++ a.partial.into ∷ []) (b.partial.ends ++ b.partial.into ∷ []))) ≡ true
        → ordering_then (nat_cmp a.field b.field) (ordering_then (slice_cmp nat_cmp a.partial.ends b.partial.ends) (nat_cmp a.partial.into b.partial.into)) ≡ Less
    by true q f g e = ap (λ o. ordering_then o (ordering_then (slice_cmp nat_cmp a.partial.ends b.partial.ends) (nat_cmp a.partial.into b.partial.into))) (nat_less a.field b.field (ltb-true a.field b.field f))
    by false true f g e = absurd (true≢false (sym e))
    by false false f g e =
        ap (λ o. ordering_then o (ordering_then (slice_cmp nat_cmp a.partial.ends b.partial.ends) (nat_cmp a.partial.into b.partial.into))) (nat_equal a.field b.field (let x = ltb-false a.field b.field f in let y = ltb-false b.field a.field g in omega (arith, x, y)))
        ∙ one_behind a.partial.ends b.partial.ends a.partial.into b.partial.into l e

key_itself : (a b : Key) → a ≡ b → key_cmp a b ≡ Equal
unfolding key_cmp
key_itself a b e =
    subst (λ (c : Key). key_cmp a c ≡ Equal) e
    (ap₂ (λ o p. ordering_then o (ordering_then p (ordering_then (slice_cmp nat_cmp a.partial.ends a.partial.ends) (nat_cmp a.partial.into a.partial.into)))) (nat_equal a.legs a.legs refl) (nat_equal a.field a.field refl)
    ∙ ap₂ ordering_then (list_itself a.partial.ends) (nat_equal a.partial.into a.partial.into refl))

pub fused_before : (x y : Fused) → x.key.legs ≡ y.key.legs → length x.key.partial.ends ≡ length y.key.partial.ends → (x.vertex ≡ y.vertex → length (chosen_nodes x.branches) ≡ length (chosen_nodes y.branches)) → is_lt ((fused.ghosts).cmp x y) ≡ false
    → found_lt key_lt (fused_found x) (fused_found y) ≡ false
unfolding found_lt behind key_cmp chosen_cmp
fused_before x y s p l h =
    made_first (key_cmp x.key y.key) (behind x.vertex x.choice x.branches x.minus y.vertex y.choice y.branches y.minus)
    (key_lt x.key y.key) (key_lt y.key x.key) (numbers_lt (x.vertex ∷ x.choice ∷ chosen_nodes x.branches) (y.vertex ∷ y.choice ∷ chosen_nodes y.branches))
    (key_less x.key y.key s p) (λ e g. key_itself x.key y.key (key_order.total x.key y.key e g))
    (rest_less x.vertex x.choice y.vertex y.choice x.branches y.branches x.minus y.minus l) h
