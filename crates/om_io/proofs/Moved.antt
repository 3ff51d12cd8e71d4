-- Bytes that a read moved from a list to the front of a buffer.
use Rattle.std.proofs.Common.{◌≡◌, ℕ, ◌+◌, ◌-◌, ◌≤◌, List, ◌++◌, length, take, drop, ap, sym, ◌∙◌, arith, length-take, length-drop}
use Rattle.std.proofs.lemmas.List.{take_at, drop_at, drop-drop, take-append-drop}

-- they stand at the front
pub moved_front : (bytes buffer filled : List ℕ) (n : ℕ) → n ≤ length bytes → filled ≡ take n bytes ++ drop n buffer → take n filled ≡ take n bytes
moved_front bytes buffer filled n h e =
    let long : length (take n bytes) ≡ n = simp length-take (omega arith) in
    ap (take n) e ∙ take_at (take n bytes) (drop n buffer) n long

-- behind them the buffer is as before
pub moved_rest : (bytes buffer filled : List ℕ) (n : ℕ) → n ≤ length bytes → filled ≡ take n bytes ++ drop n buffer → drop n filled ≡ drop n buffer
moved_rest bytes buffer filled n h e =
    let long : length (take n bytes) ≡ n = simp length-take (omega arith) in
    ap (drop n) e ∙ drop_at (take n bytes) (drop n buffer) n long

-- they and those that are left are all
pub moved_all : (bytes buffer filled : List ℕ) (n : ℕ) → n ≤ length bytes → filled ≡ take n bytes ++ drop n buffer → bytes ≡ take n filled ++ drop n bytes
moved_all bytes buffer filled n h e =
    sym (take-append-drop n bytes) ∙ ap (λ (t : List ℕ). t ++ drop n bytes) (sym (moved_front bytes buffer filled n h e))

-- the same of what is left from a place on
pub left_parts : (bytes buffer filled : List ℕ) (at n : ℕ) → n ≤ length bytes - at → filled ≡ take n (drop at bytes) ++ drop n buffer → drop at bytes ≡ take n filled ++ drop (at + n) bytes
left_parts bytes buffer filled at n h e =
    let within : n ≤ length (drop at bytes) = simp length-drop h in
    moved_all (drop at bytes) buffer filled n within e ∙ ap (λ (t : List ℕ). take n filled ++ t) (drop-drop n at bytes)
