-- The room of a rule: its widths (`room-width`), and its cells, dimension by dimension: once there are none or too many, check 14 applies
-- (`too_many`), and what is left at the end are the cells (`cells-found`). Assumes nothing.
use mathlib.Core.Path.{◌≡◌, sym, ap, ◌∙◌}
use mathlib.Core.Logic.{◌⊎◌, ⊎_elim}
use mathlib.Core.Bool.{true, false, not}
use mathlib.Core.List.{List}
use Prim.Native.Nat.{ℕ, zero, suc, ◌*◌, ◌≤◌, ◌<◌}
use native.Mathlib.Nat.{eq-or-lt_of_le}
use native.Mathlib.Omega.{arith}
use lib.IntN.{ℤ, pos, ◌-ℤ◌}
use lib.Signed.{◌≤ℤ◌}
use borrow.Author.Tests.{leb-true, le-leb}
use Rattle.std.specs.Prelude.{Result, Ok, Err}
use Rattle.integers.specs.Integer.{Within}
use Rattle.integers.specs.Below.{product_below}
use Rattle.integers.proofs.Booleans.{and-true, true-and, not-false, decide}
use Rattle.integers.proofs.Below.{all-at}
use Rattle.integers.proofs.Digits.{product-past}
use Rattle.integers.proofs.Ints.{ints, diff, disjoint}
use Rattle.sheet.specs.Layout.{dims, is_containment, names_dim, room_low, room_high}
use Rattle.sheet.specs.Fill.{is_fill_rule, room_width, room_cells}
use Rattle.sheet.specs.Refusal.{◌when◌, bad_cells, ground, grounds}
use Rattle.sheet.specs.Answer.{answer}
use Rattle.sheet.specs.declared.Refusal.{Refusal}
use Rattle.sheet.specs.declared.Refusal.TheVariants as G
use Rattle.sheet.proofs.Accepted.{when-zero}
use Rattle.sheet.proofs.Answer.{answered, passed}
use Rattle.words.specs.declared.Place.{Place}
use Rattle.fill.specs.Room.{FillRoom}

-- ---- one dimension
module _ {block : List ℤ} {r : Place} (w : FillRoom block r) {d : ℕ} (l : d < dims block) where
  contains : (is_containment block r.number ≡ true) × (names_dim block r.number d ≡ true)
  unfolding is_fill_rule
  contains = let p = and-true w.is_fill in (p.0, all-at (names_dim block r.number) p.1 d l)

  pub room-ordered : room_low block r.number d ≤ℤ room_high block r.number d
  room-ordered = w.accepted.rooms_ordered r.number d w.rule.below l contains.0 contains.1

  pub low_near : Within 1000000 (room_low block r.number d)
  low_near = w.accepted.room_lows r.number d w.rule.below l

  pub high-near : Within 1000000 (room_high block r.number d)
  high-near = w.accepted.room_highs r.number d w.rule.below l

  -- the high end less the low one is from 0 to 2,000,000
  abbrev pub across : ℤ
  across = room_high block r.number d -ℤ room_low block r.number d

  pub across-from : pos 0 ≤ℤ across
  across-from = let o = room-ordered in omega (ints, diff (room_high block r.number d) (room_low block r.number d))

  pub across-upto : across ≤ℤ pos 2000000
  across-upto =
      let a = low_near in
      let b = high-near in
      omega (ints, diff (room_high block r.number d) (room_low block r.number d))

  pub width-upto : room_width block r.number d ≤ 2000000
  unfolding room_width
  width-upto = let u = across-upto in omega (ints, disjoint across)

-- ---- all of them
-- the number that a call found
abbrev number : Result ℕ Refusal → ℕ
number (Ok n) = n
number (Err g) = 0

-- a product that is not 0 has no factor that is
some-past : {d : ℕ} (k : ℕ) (w : ℕ → ℕ) → d ≤ k → 1 ≤ product_below k w → 1 ≤ product_below d w
unfolding product_below
some-past {d} zero w h l = let e : d ≡ 0 = omega arith in rw e l
some-past {d} (suc k) w h l = ⊎_elim (λ e. rw e l) (λ m. some-past k w (omega arith) (front (product_below k w) l)) (eq-or-lt_of_le h)
  where
    front : (a : ℕ) → 1 ≤ a * w k → 1 ≤ a
    front zero p = absurd (omega arith)
    front (suc a) p = omega arith

module _ (block : List ℤ) (r : ℕ) where
  abbrev pub cells_to : ℕ → ℕ
  cells_to d = product_below d (room_width block r)

  counted : bad_cells block r ≡ false → (1 ≤ room_cells block r) × (room_cells block r ≤ 4096)
  unfolding bad_cells
  counted e = let w = and-true (not-false e) in (leb-true 1 (room_cells block r) w.0, leb-true (room_cells block r) 4096 w.1)

  few : 1 ≤ room_cells block r → room_cells block r ≤ 4096 → bad_cells block r ≡ false
  unfolding bad_cells
  few l h = ap not (true-and (le-leb 1 (room_cells block r) l) (le-leb (room_cells block r) 4096 h))

  -- of the first d dimensions none, or too many
  pub too_many : {n : ℕ} (d : ℕ) → d ≤ dims block → n ≡ cells_to d → (n ≡ 0) ⊎ (4096 < n)
      → Err G.BadCells ≡ answer (14 when bad_cells block r) (room_cells block r)
  unfolding room_cells ◌when◌ answer ground grounds
  too_many d h q l = ⊎_elim (λ e. rw e) (λ e. absurd (none (counted e))) (decide (bad_cells block r))
    where
      none : (1 ≤ room_cells block r) × (room_cells block r ≤ 4096) → ⊥
      none w =
          let some = some-past (dims block) (room_width block r) h w.0 in
          ⊎_elim (λ z. omega (arith, q, z, some))
          (λ z. ⊎_elim (λ y. omega (arith, w.0, y)) (λ y. omega (arith, q, z, w.1, y)) (product-past {j = d} (dims block) (room_width block r) h)) l

  pub cells-found : {n : ℕ} → n ≡ cells_to (dims block) → 1 ≤ n → n ≤ 4096 → Ok n ≡ answer (14 when bad_cells block r) (room_cells block r)
  unfolding room_cells ◌when◌ answer
  cells-found e l h = rw (few (rw e at l) (rw e at h), e)

  -- what a call that found some tells
  pub found : {q : Result ℕ Refusal} {n : ℕ} → q ≡ answer (14 when bad_cells block r) (room_cells block r) → q ≡ Ok n
      → (bad_cells block r ≡ false) × (n ≡ room_cells block r) × (1 ≤ n) × (n ≤ 4096)
  found {n} a o =
      let e = when-zero 13 (bad_cells block r) zero in
      let w = counted e in
      (e, cells, omega (arith, w.0, cells), omega (arith, w.1, cells))
    where
      zero : (14 when bad_cells block r) ≡ 0
      zero = passed _ _ a o

      cells : n ≡ room_cells block r
      cells = ap number (sym o ∙ a ∙ answered (room_cells block r) zero)
