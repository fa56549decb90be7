-- One shape more of a row: whether it is kept (`kept-shape`, `kept-not`), and what is kept with it (`kept_next`) or, if it is not in the row's
-- set, without it (`kept-skip`); of no shape (`kept-start`), of those before the set's first (`kept-first`), and of all (`kept-rest`).
-- Assumes nothing.
use mathlib.Core.Path.{◌≡◌, sym, ap, subst}
use mathlib.Core.Bool.{Bool, true, false, cond}
use mathlib.Core.List.{List}
use Prim.Native.Nat.{ℕ, zero, suc, ◌+◌, ◌^◌, ◌≤◌, ◌<◌}
use native.Mathlib.Omega.{arith}
use lib.Dec.{eqb}
use lib.IntN.{ℤ, pos}
use Rattle.integers.specs.Integer.{minus, nat}
use Rattle.integers.specs.Bits.{bit_at, bit, holds, set_of}
use Rattle.integers.proofs.Bits.{bit_past}
use Rattle.integers.proofs.Booleans.{clash, fails, and-true, true-and}
use Rattle.integers.proofs.Sets.{set_of-zero, set_of-below}
use Rattle.sheet.specs.Layout.{axes, shape_set, has_shape}
use Rattle.sheet.specs.Allowed.{allowed}
use Rattle.sheet.specs.Narrow.{keeps_shape}
use Rattle.sheet.proofs.Forbidden.{allowed-parts}
use Rattle.sheet.proofs.Coordinates.{allowed-agree}
use Rattle.sheet.proofs.Points.{found, met}
use Rattle.points.specs.Ends.{end_at}
use Rattle.points.specs.Area.{coordinates}
use Rattle.points.specs.Ends.{EndsAre}
use Rattle.narrow.specs.Ends.{beyond, End, Ends}
use Rattle.words.specs.declared.Place.{Place}
use Rattle.narrow.specs.Shapes.{KeptTo, Keeping}
use Rattle.narrow.proofs.Edges.{end-start, end-skip}

-- what is kept of the shapes to which one more is taken
pub kept-so_far : {block t o : List ℤ} {i : Place} {n shapes : ℕ} {ends : List ℤ} → Keeping block t o i n ends
    → shapes ≡ set_of n (keeps_shape block t i.number) → KeptTo block t i.number n shapes ends
kept-so_far x e = record { kept = e; ends_of = x.ends_of }

module _ (block : List ℤ) (t : List ℤ) (i : ℕ) where
  -- the ends of no shape
  pub ends-start : axes block ≤ coordinates → {ends : List ℤ} → EndsAre (pos beyond) (minus beyond) ends → Ends block t i 0 ends
  ends-start h e flip d l = subst (End block t i flip 0 d) (sym (e flip d (omega arith))) (end-start block t i flip d)

  pub kept-start : {ends : List ℤ} → Ends block t i 0 ends → KeptTo block t i 0 0 ends
  kept-start x = record { kept = sym (set_of-zero (keeps_shape block t i)); ends_of = x }

  -- bit s of the set stands for shape s + 1
  pub member-shape : {set : ℕ} (s : ℕ) → set ≡ nat (shape_set block t i) → bit (pos set) s ≡ has_shape block t i (suc s)
  unfolding has_shape holds bit
  member-shape s q = ap (λ (n : ℕ). eqb (bit_at n s) 1) q

  pub kept-shape : (s : ℕ) (q : List ℤ) → has_shape block t i s ≡ true → allowed block t i s q ≡ true → keeps_shape block t i s ≡ true
  unfolding keeps_shape
  kept-shape s q held e =
      true-and held (met block t i (allowed block t i s) (λ p r a. allowed-agree block t p r a i s) q (allowed-parts block t i s q e).0 e)

  module _ (s : ℕ) where
    abbrev None : Type 0
    None = (p : List ℤ) → has_shape block t i (suc s) ≡ true → allowed block t i (suc s) p ≡ true → ⊥

    pub kept-not : None → keeps_shape block t i (suc s) ≡ false
    unfolding keeps_shape
    kept-not none_of =
        fails (λ f.
        let w = and-true {a = has_shape block t i (suc s)} f in
        let q = found block t i (allowed block t i (suc s)) w.1 in
        none_of q.0 w.0 q.1)

    pub ends-skip : {ends : List ℤ} → None → Ends block t i s ends → Ends block t i (suc s) ends
    ends-skip {ends} none_of x flip d h = end-skip block t i flip s d (end_at flip d ends) none_of (x flip d h)

    module _ (shapes : ℕ) (ends : List ℤ) (x : KeptTo block t i s shapes ends) where
      pub below_next : shapes < 2 ^ s
      below_next = subst (λ (n : ℕ). n < 2 ^ s) (sym x.kept) (set_of-below s (keeps_shape block t i))

      pub kept_next : (b : Bool) {new : List ℤ} → keeps_shape block t i (suc s) ≡ b → Ends block t i (suc s) new
          → KeptTo block t i (suc s) (shapes + cond b (2 ^ s) 0) new
      unfolding set_of
      kept_next b e y = record {
        kept = let k = ap (λ (c : Bool). set_of s (keeps_shape block t i) + cond c (2 ^ s) 0) e in omega (arith, x.kept, k);
        ends_of = y;
      }

      pub kept-skip : has_shape block t i (suc s) ≡ false → KeptTo block t i (suc s) shapes ends
      kept-skip e =
          let none_of : None = λ p held a. clash held e in
          let q : shapes + 0 ≡ shapes = omega arith in
          subst (λ (n : ℕ). KeptTo block t i (suc s) n ends) q (kept_next false (kept-not none_of) (ends-skip none_of x.ends_of))

  -- no shape of the row's set is before the first
  pub kept-first : (ends : List ℤ) → KeptTo block t i 0 0 ends → (m : ℕ) → ((s : ℕ) → 1 ≤ s → s ≤ m → has_shape block t i s ≡ false)
      → KeptTo block t i m 0 ends
  kept-first ends x zero h = x
  kept-first ends x (suc m) h =
      kept-skip m 0 ends (kept-first ends x m (λ s f u. h s f (omega (arith, u)))) (h (suc m) (omega arith) (omega arith))

  past-set : {s : ℕ} (m : ℕ) → nat (shape_set block t i) < 2 ^ s → s ≤ m → has_shape block t i (suc m) ≡ false
  unfolding has_shape holds
  past-set m below l = bit_past (shape_set block t i) below l

  -- no shape of the row's set is past s
  pub kept-rest : (s shapes : ℕ) (ends : List ℤ) → nat (shape_set block t i) < 2 ^ s → KeptTo block t i s shapes ends
      → (k : ℕ) → KeptTo block t i (s + k) shapes ends
  kept-rest s shapes ends below x zero = let q : s ≡ s + 0 = omega arith in subst (λ (n : ℕ). KeptTo block t i n shapes ends) q x
  kept-rest s shapes ends below x (suc k) =
      let q : suc (s + k) ≡ s + suc k = omega arith in
      subst (λ (n : ℕ). KeptTo block t i n shapes ends) q
      (kept-skip (s + k) shapes ends (kept-rest s shapes ends below x k) (past-set (s + k) below (omega arith)))
