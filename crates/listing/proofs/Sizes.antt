-- How many bytes a number, the words of a line and the lines of a table take at most. Assumes nothing.
use mathlib.Core.Path.{ap}
use mathlib.Core.Logic.{⊎_elim}
use mathlib.Core.List.{List, [], ◌∷◌, ◌++◌}
use Prim.Native.Nat.{ℕ, zero, suc, ◌+◌, ◌*◌, ◌/◌, ◌%◌, ◌≤◌, ◌<◌}
use native.Mathlib.Omega.{arith}
use lib.IntN.{ℤ, pos, negsuc}
use lib.ListN.{length, take, drop, length-append, take-append-drop}
use Rattle.integers.proofs.Below.{below_or}
use Rattle.sheet.specs.Text.{decimal, shown, commas, row_lines}
use Rattle.listing.proofs.Decimal.{decimal-none, decimal-last, decimal-more}

decimal-few : (f n : ℕ) (bs : List ℕ) → length (decimal f n bs) ≤ f + length bs
decimal-few zero n bs = rw (decimal-none n bs) (omega arith)
decimal-few (suc f) n bs =
    ⊎_elim
    (λ (h : n < 10). rw (decimal-last f n bs h) (omega arith))
    (λ (h : 10 ≤ n). rw (decimal-more f n bs h) (let k = decimal-few f (n / 10) ((48 + n % 10) ∷ bs) in omega arith))
    (below_or n 10)

pub shown-few : (z : ℤ) → length (shown z) ≤ 21
unfolding shown
shown-few (pos n) = let h = decimal-few 20 n [] in omega arith
shown-few (negsuc n) = let h = decimal-few 20 (suc n) [] in omega arith

pub commas-few : (ws : List ℤ) → length (commas ws) ≤ 22 * length ws + 1
unfolding commas
commas-few [] = omega arith
commas-few (w ∷ ws) = let h = commas-few ws in let g = shown-few w in let e = length-append (shown w) (commas ws) in omega arith

pub rows_few : (len n m : ℕ) (t : List ℤ) → length (row_lines len n m t) ≤ 22 * n + 22 * length t
unfolding row_lines
rows_few len zero m t = omega arith
rows_few len (suc n) m t =
    let h = rows_few len n (suc m) (drop len t) in
    let a = shown-few (pos (suc m)) in
    let b = commas-few (take len t) in
    let u = length-append (shown (pos (suc m))) (commas (take len t)) in
    let v = length-append (shown (pos (suc m)) ++ commas (take len t)) (row_lines len n (suc m) (drop len t)) in
    let w = ap length (take-append-drop len t) in
    let x = length-append (take len t) (drop len t) in
    omega arith
