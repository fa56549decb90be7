-- Laws of single stores and of runs of stores, in lists of anything. Assumes nothing.
use mathlib.Core.Path.{◌≡◌, refl, sym, ap, ◌∙◌}
use mathlib.Core.List.{List, [], ◌∷◌, ◌++◌}
use Prim.Native.Nat.{ℕ, suc, ◌+◌, ◌-◌, ◌≤◌, ◌<◌}
use native.Mathlib.Omega.{arith}
use native.Mathlib.Nat.{add-zero}
use lib.ListN.{length, take, drop, set, length-drop}
use lib.Seq.{sets, sets-eq, set_comm, take_at, take_all}

module _ {A : Type 0} where
  pub sets-append : (l : List A) (i : ℕ) (v w : List A) → sets l i (v ++ w) ≡ sets (sets l i v) (i + length v) w
  sets-append l i [] w = ap (λ (k : ℕ). sets l k w) (sym (add-zero i))
  sets-append l i (x ∷ v) w =
      sets-append (set l i x) (suc i) v w
      ∙ (let q : suc i + length v ≡ i + suc (length v) = omega arith in ap (λ (k : ℕ). sets (sets (set l i x) (suc i) v) k w) q)

  -- a store before a run of stores
  set_below : (l : List A) (i : ℕ) (v : List A) (j : ℕ) (a : A) → j < i → set (sets l i v) j a ≡ sets (set l j a) i v
  set_below l i [] j a h = refl
  set_below l i (x ∷ v) j a h =
      set_below (set l i x) (suc i) v j a (omega arith)
      ∙ ap (λ (m : List A). sets m (suc i) v) (set_comm l i j x a (λ q. omega arith))

  sets_below : (l : List A) (i : ℕ) (v : List A) (j : ℕ) (w : List A) → j + length w ≤ i → sets (sets l i v) j w ≡ sets (sets l j w) i v
  sets_below l i v j [] h = refl
  sets_below l i v j (x ∷ w) h =
      ap (λ (m : List A). sets m (suc j) w) (set_below l i v j x (omega arith)) ∙ sets_below (set l j x) i v (suc j) w (omega arith)

  -- the first i items stored after those from i on
  pub sets-before : (l : List A) (i : ℕ) (v w : List A) → length w ≡ i → sets (sets l i v) 0 w ≡ sets l 0 (w ++ v)
  sets-before l i v w e =
      let q : i ≡ 0 + length w = omega arith in
      sets_below l i v 0 w (omega arith) ∙ ap (λ (k : ℕ). sets (sets l 0 w) k v) q ∙ sym (sets-append l 0 w v)

  -- items stored from the start on stand there
  pub take-sets : (l w : List A) → length w ≤ length l → take (length w) (sets l 0 w) ≡ w
  take-sets l w h =
      let q : 0 + length w ≤ length l = omega arith in
      ap (take (length w)) (sets-eq w l 0 q) ∙ take_at w _ (length w) refl

  -- the part of a list from i to its end
  pub part-all : (l : List A) (i : ℕ) {n : ℕ} → length l ≡ n → take (n - i) (drop i l) ≡ drop i l
  part-all l i {n} e = take_all (n - i) (drop i l) (rw length-drop (omega arith))
