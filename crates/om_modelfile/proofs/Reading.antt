-- A list that is read member by member, up to the first fault.
use Rattle.std.proofs.Common.{◌≡◌, ℕ, ◌+◌, ◌<◌, List, [], ◌∷◌, ◌++◌, length, get_or, take, drop, map, Result, Ok, Err, refl, ap, sym, ◌∙◌, arith, add-zero}
use Rattle.std.proofs.lemmas.List.{map_more, take-append-drop, drop_more, length-map, length-take, map-append}
use Rattle.om_ring.specs.ResultSteps.{◌>>=◌}
use Rattle.om_modelfile.specs.Each.{each_from}

module _ {B F : Type 0} where
  -- what was read before stands in front
  abbrev pub behind : List B → Result (List B) F → Result (List B) F
  behind done more = more >>= λ ys. Ok (done ++ ys)

  behind_none : (r : Result (List B) F) → r ≡ behind [] r
  behind_none (Ok ys) = refl
  behind_none (Err fault) = refl

  one_before : (y : B) (r t : Result (List B) F) → ((r >>= λ done. behind done t) >>= λ ys. Ok (y ∷ ys)) ≡ ((r >>= λ ys. Ok (y ∷ ys)) >>= λ done. behind done t)
  one_before y (Ok done) (Ok more) = refl
  one_before y (Ok done) (Err fault) = refl
  one_before y (Err fault) t = refl

module _ {A B F : Type 0} (read : ℕ → A → Result B F) where
  each_from-cons : (k n : ℕ) (x : A) (xs ys : List A) (here : Result B F) → k + 1 + length xs ≡ n
      → each_from read (k + 1) (xs ++ ys) ≡ (each_from read (k + 1) xs >>= λ done. behind done (each_from read (k + 1 + length xs) ys))
      → (here >>= λ y. each_from read (k + 1) (xs ++ ys) >>= λ rest. Ok (y ∷ rest)) ≡ ((here >>= λ y. each_from read (k + 1) xs >>= λ rest. Ok (y ∷ rest)) >>= λ done. behind done (each_from read n ys))
  each_from-cons k n x xs ys (Err fault) e ih = refl
  each_from-cons k n x xs ys (Ok y) e ih =
      ap (λ (r : Result (List B) F). r >>= λ rest. Ok (y ∷ rest)) ih
      ∙ one_before y (each_from read (k + 1) xs) (each_from read (k + 1 + length xs) ys)
      ∙ ap (λ (m : ℕ). (each_from read (k + 1) xs >>= λ rest. Ok (y ∷ rest)) >>= λ done. behind done (each_from read m ys)) e

  -- two lists, one after the other
  pub each_from-append : (k : ℕ) (xs ys : List A) → each_from read k (xs ++ ys) ≡ (each_from read k xs >>= λ done. behind done (each_from read (k + length xs) ys))
  unfolding each_from
  each_from-append k [] ys = rw add-zero (behind_none (each_from read k ys))
  each_from-append k (x ∷ xs) ys = each_from-cons k (k + length (x ∷ xs)) x xs ys (read k x) (omega arith) (each_from-append (k + 1) xs ys)

  pub each_from-behind : (k : ℕ) (xs ys : List A) (done : List B) → each_from read k xs ≡ Ok done → each_from read k (xs ++ ys) ≡ behind done (each_from read (k + length xs) ys)
  each_from-behind k xs ys done e = each_from-append k xs ys ∙ ap (λ (r : Result (List B) F). r >>= λ front. behind front (each_from read (k + length xs) ys)) e

  pub each_from_last : (k : ℕ) (x : A) (y : B) → read k x ≡ Ok y → each_from read k (x ∷ []) ≡ Ok (y ∷ [])
  unfolding each_from
  each_from_last k x y e = rw e refl

  pub each_from_fault : (k : ℕ) (x : A) (xs : List A) (fault : F) → read k x ≡ Err fault → each_from read k (x ∷ xs) ≡ Err fault
  unfolding each_from
  each_from_fault k x xs fault e = rw e refl

  pub each_from_none : (k : ℕ) → each_from read k [] ≡ Ok []
  unfolding each_from
  each_from_none k = refl

-- a loop over xs that reads `view` of each member; x is the one at place i
module _ {X A B F : Type 0} (read : ℕ → A → Result B F) (view : X → A) (k : ℕ) (xs : List X) where
  -- those before place i were read
  abbrev pub IsRead : ℕ → List B → Type 0
  IsRead i done = each_from read k (map view (take i xs)) ≡ Ok done

  pub none_read : IsRead 0 []
  none_read = each_from_none read k

  front : (i : ℕ) → i < length xs → length (map view (take i xs)) ≡ i
  front i h = simp (length-map, length-take) (omega arith)

  -- one member more was read
  pub one_more : (i : ℕ) (d x : X) (done more : List B) (y : B) → i < length xs → x ≡ get_or xs i d → IsRead i done → read (k + i) (view x) ≡ Ok y → more ≡ done ++ y ∷ [] → IsRead (i + 1) more
  one_more i d x done more y h at before here grown =
      let last : each_from read (k + length (map view (take i xs))) (view x ∷ []) ≡ Ok (y ∷ []) = rw (front i h) (each_from_last read (k + i) (view x) y here) in
      ap (each_from read k) (map_more view xs i d h ∙ ap (λ (z : X). map view (take i xs) ++ view z ∷ []) (sym at))
      ∙ each_from-behind read k (map view (take i xs)) (view x ∷ []) done before
      ∙ ap (behind done) last
      ∙ ap Ok (sym grown)

  -- a member has a fault
  pub has_fault : (i : ℕ) (d x : X) (done : List B) (fault : F) → i < length xs → x ≡ get_or xs i d → IsRead i done → read (k + i) (view x) ≡ Err fault → each_from read k (map view xs) ≡ Err fault
  has_fault i d x done fault h at before here =
      let split : xs ≡ take i xs ++ x ∷ drop (i + 1) xs = sym (take-append-drop i xs) ∙ ap (λ (ys : List X). take i xs ++ ys) (drop_more xs i d h ∙ ap (λ (z : X). z ∷ drop (i + 1) xs) (sym at)) in
      let rest = view x ∷ map view (drop (i + 1) xs) in
      let next : each_from read (k + length (map view (take i xs))) rest ≡ Err fault = rw (front i h) (each_from_fault read (k + i) (view x) (map view (drop (i + 1) xs)) fault here) in
      ap (λ (ys : List X). each_from read k (map view ys)) split
      ∙ ap (each_from read k) (map-append view (take i xs) (x ∷ drop (i + 1) xs))
      ∙ each_from-behind read k (map view (take i xs)) rest done before
      ∙ ap (behind done) next
