-- Document 02, T-03, each cell once: in a fill that is not refused `covered_cells` is the number of the cells that the rule's rows cover, wherever
-- they lie (`covered-counts`), and no other number is (`counts-unique`). Assumes nothing.
use mathlib.Core.Path.{◌≡◌, sym, ap, ◌∙◌, subst, subst⁻¹}
use mathlib.Core.Logic.{◌⊎◌, inl, inr, ⊎_elim}
use mathlib.Core.Bool.{Bool, true, false, cond}
use mathlib.Core.List.{List, []}
use Prim.Native.Nat.{ℕ, zero, suc, ◌+◌, ◌*◌, ◌≤◌, ◌<◌, zero-le}
use native.Mathlib.Nat.{not-suc-le-zero, le_antisymm, le_refl}
use native.Mathlib.Omega.{arith}
use lib.Dec.{eqb, ltb}
use lib.ListN.{length}
use lib.IntN.{ℤ, pos, ◌+ℤ◌, ◌-ℤ◌}
use lib.Signed.{◌≤ℤ◌, ◌<ℤ◌}
use borrow.Author.Tests.{eqb-true, eqb-false, ltb-true, ltb-false}
use Rattle.integers.specs.Integer.{nat}
use Rattle.integers.specs.Below.{sum_below, product_below}
use Rattle.integers.specs.Words.{word}
use Rattle.integers.specs.Digits.{digit, number_of}
use Rattle.integers.proofs.Booleans.{decide}
use Rattle.integers.proofs.Below.{below_or, last_or}
use Rattle.integers.proofs.Ints.{ints, sum}
use Rattle.integers.proofs.Ranges.{count, nat-diff}
use Rattle.integers.proofs.Lists.{length-list_below, words-ext}
use Rattle.integers.proofs.Digits.{sum_same, digits_number, number-below, number_digits}
use Rattle.sheet.specs.Layout.{dims, room_low, room_high}
use Rattle.sheet.specs.Fill.{rule_asked, room_width, room_cells, cells_from, covers_cell, covered_cells, CountsCells}
use Rattle.sheet.specs.Refusal.{refusal_fill}
use Rattle.sheet.specs.Cells.{cell_at}
use Rattle.sheet.proofs.Fill.{fill-asked, covered-in-room}
use Rattle.sheet.proofs.Cells.{cell-word, widths-some, cells-numbered}

-- ---- the numbers that pass a test, numbered in their order
module _ (g : ℕ → Bool) where
  -- how many of those below n pass
  abbrev passed : ℕ → ℕ
  passed n = sum_below n (λ m. cond (g m) 1 0)

  one_more : {n : ℕ} → g n ≡ true → passed (suc n) ≡ suc (passed n)
  unfolding sum_below
  one_more {n} e = ap (λ (b : Bool). passed n + cond b 1 0) e ∙ omega arith

  no_more : {n : ℕ} → g n ≡ false → passed (suc n) ≡ passed n
  unfolding sum_below
  no_more {n} e = ap (λ (b : Bool). passed n + cond b 1 0) e ∙ omega arith

  -- the one before which j pass
  pick : ℕ → ℕ → ℕ
  pick zero j = 0
  pick (suc n) j = cond (ltb j (passed n)) (pick n j) n

  record Picked (n j m : ℕ) : Type 0 where
    below : m < n
    passes : g m ≡ true
    before : passed m ≡ j

  picked : (n : ℕ) {j : ℕ} → j < passed n → Picked n j (pick n j)
  unfolding pick sum_below
  picked zero h = absurd (not-suc-le-zero h)
  picked (suc n) {j} h =
      ⊎_elim (λ e. rw e (let p = picked n (ltb-true j (passed n) e) in
      record { below = omega (arith, p.below); passes = p.passes; before = p.before }))
      (λ e. rw e (last (ltb-false j (passed n) e) (decide (g n)))) (decide (ltb j (passed n)))
    where
      last : passed n ≤ j → (g n ≡ true) ⊎ (g n ≡ false) → Picked (suc n) j n
      last l (inl e) = record { below = omega arith; passes = e; before = omega (arith, one_more e) }
      last l (inr e) = absurd (omega (arith, no_more e))

  -- one that passes has fewer before it than there are
  passed-below : {n m : ℕ} → m < n → g m ≡ true → passed m < passed n
  unfolding sum_below
  passed-below {n = zero} h e = absurd (not-suc-le-zero h)
  passed-below {n = suc n} {m} h e =
      ⊎_elim (λ q. rw q (omega (arith, one_more (ap g (sym q) ∙ e)))) (λ l. omega (arith, passed-below {n = n} l e)) (last_or h)

  same-before : {m n : ℕ} → g m ≡ true → g n ≡ true → passed m ≡ passed n → m ≡ n
  same-before {m} {n} e f q =
      ⊎_elim (λ l. absurd (omega (arith, passed-below l e)))
      (λ k. ⊎_elim (λ l. absurd (omega (arith, passed-below l f))) (λ l. le_antisymm l k) (below_or n m))
      (below_or m n)

  pick-passed : {n m : ℕ} → m < n → g m ≡ true → pick n (passed m) ≡ m
  pick-passed {n} h e = let p = picked n (passed-below h e) in same-before p.passes e p.before

-- ---- the cells of a room
module _ (block : List ℤ) (r : ℕ) (some : 1 ≤ room_cells block r) where
  abbrev w : ℕ → ℕ
  w = room_width block r

  -- two numbers of one cell
  one_number : {m n : ℕ} → m < room_cells block r → n < room_cells block r → cell_at block r m ≡ cell_at block r n → m ≡ n
  unfolding room_cells number_of
  one_number {m} {n} h k e =
      sym (digits_number (widths-some block r some) h)
      ∙ sum_same (λ d l. ap (λ (c : ℕ). c * product_below d w) (same d l))
      ∙ digits_number (widths-some block r some) k
    where
      same : (d : ℕ) → d < dims block → digit w m d ≡ digit w n d
      same d l =
          let q = ap (λ (x : List ℤ). word x d) e in
          let a = cell-word block r m l in
          let b = cell-word block r n l in
          omega (ints, sum (room_low block r d) (pos (digit w m d)), sum (room_low block r d) (pos (digit w n d)))

  -- the number of a cell in the room
  module _ (x : List ℤ) (long : length x ≡ dims block)
      (inside : (d : ℕ) → d < dims block → (room_low block r d ≤ℤ word x d) × (word x d <ℤ room_high block r d)) where
    from_low : ℕ → ℕ
    from_low d = nat (word x d -ℤ room_low block r d)

    from-low-below : (d : ℕ) → d < dims block → from_low d < w d
    unfolding room_width from_low
    from-low-below d l =
        let h = inside d l in
        omega (ints, nat-diff (word x d) (room_low block r d), nat-diff (room_high block r d) (room_low block r d))

    number : ℕ
    number = number_of (dims block) w from_low

    has-number : number < room_cells block r
    unfolding room_cells number
    has-number = number-below from-low-below

    at-number : cell_at block r number ≡ x
    unfolding number from_low cell_at
    at-number = words-ext (long-cell ∙ sym long) (λ d l. same d (subst (λ (n : ℕ). d < n) long-cell l))
      where
        long-cell : length (cell_at block r number) ≡ dims block
        long-cell = length-list_below (dims block) _

        same : (d : ℕ) → d < dims block → word (cell_at block r number) d ≡ word x d
        same d l =
            cell-word block r number l
            ∙ ap (λ (c : ℕ). room_low block r d +ℤ pos c) (number_digits from-low-below d l)
            ∙ count (inside d l).0

  -- a test that only cells of the room pass counts each of them once
  module _ (f : List ℤ → Bool)
      (inside : (x : List ℤ) → f x ≡ true → (d : ℕ) → d < dims block → (room_low block r d ≤ℤ word x d) × (word x d <ℤ room_high block r d)) where
    abbrev g : ℕ → Bool
    g m = f (cell_at block r m)

    abbrev n : ℕ
    n = cells_from block r f (dims block) []

    all-passed : n ≡ passed g (room_cells block r)
    all-passed = cells-numbered block r f some

    at : {j : ℕ} → j < n → Picked g (room_cells block r) j (pick g (room_cells block r) j)
    at {j} h = picked g (room_cells block r) (subst (λ (m : ℕ). j < m) all-passed h)

    room-counts : CountsCells (dims block) f n
    unfolding cell_at
    room-counts =
        record {
          cell = λ j. cell_at block r (pick g (room_cells block r) j);
          coordinates = λ j h. length-list_below (dims block) _;
          passes = λ j h. (at h).passes;
          once = λ i j h k e.
              let q = one_number (at h).below (at k).below e in sym (at h).before ∙ ap (passed g) q ∙ (at k).before;
          each = λ x l e.
              let m = number x l (inside x e) in
              let b = has-number x l (inside x e) in
              let q = at-number x l (inside x e) in
              let t = ap f q ∙ e in
              (passed g m, subst⁻¹ (λ (k : ℕ). passed g m < k) all-passed (passed-below g b t), ap (cell_at block r) (pick-passed g b t) ∙ q);
        }

-- THE COVERED CELLS, each once, wherever they lie
pub covered-counts : (block t : List ℤ) (rule : ℤ) → refusal_fill block t rule ≡ 0
    → CountsCells (dims block) (covers_cell block t (rule_asked rule)) (covered_cells block t (rule_asked rule))
unfolding covered_cells
covered-counts block t rule e =
    room-counts block (rule_asked rule) (fill-asked block t rule e).some_cells (covers_cell block t (rule_asked rule))
    (covered-in-room block t rule e)

-- ---- one number
-- v, and u in the place of m
swap : ℕ → ℕ → ℕ → ℕ
swap m u v = cond (eqb v m) u v

swapped : (m u v : ℕ) → ((v ≡ m) × (swap m u v ≡ u)) ⊎ ((v ≡ m → ⊥) × (swap m u v ≡ v))
unfolding swap
swapped m u v =
    ⊎_elim (λ e. inl (eqb-true v m e, ap (λ (b : Bool). cond b u v) e))
    (λ e. inr (eqb-false v m e, ap (λ (b : Bool). cond b u v) e)) (decide (eqb v m))

swap-below : (m u v : ℕ) → u < suc m → v < suc m → (v ≡ u → ⊥) → swap m u v < m
swap-below m u v h k ne = ⊎_elim (λ s. omega (arith, ne, s)) (λ s. omega (arith, s.0, s.1)) (swapped m u v)

swap-once : (m u v x : ℕ) → (v ≡ u → ⊥) → (x ≡ u → ⊥) → swap m u v ≡ swap m u x → v ≡ x
swap-once m u v x ne nx e =
    ⊎_elim (λ s. ⊎_elim (λ t. omega (arith, s, t)) (λ t. absurd (nx (omega (arith, s.1, t.1)))) (swapped m u x))
    (λ s. ⊎_elim (λ t. absurd (ne (omega (arith, s.1, t.1)))) (λ t. omega (arith, s.1, t.1)) (swapped m u x))
    (swapped m u v)

-- numbers below m, given to those below n and to no two the same: n is at most m
pigeonhole : (n m : ℕ) (s : (i : ℕ) → i < n → ℕ) → ((i : ℕ) (h : i < n) → s i h < m)
    → ((i j : ℕ) (h : i < n) (k : j < n) → s i h ≡ s j k → i ≡ j) → n ≤ m
pigeonhole zero m s below once = zero-le
pigeonhole (suc n) zero s below once = absurd (not-suc-le-zero (below n (le_refl (suc n))))
pigeonhole (suc n) (suc m) s below once =
    omega (
      arith,
      pigeonhole n m (λ i h. swap m last (s i (up h)))
          (λ i h. swap-below m last (s i (up h)) (below n top) (below i (up h)) (other i h))
          (λ i j h k e. once i j (up h) (up k) (swap-once m last (s i (up h)) (s j (up k)) (other i h) (other j k) e)),
    )
  where
    top : n < suc n
    top = le_refl (suc n)

    up : {i : ℕ} → i < n → i < suc n
    up h = omega arith

    last : ℕ
    last = s n top

    other : (i : ℕ) (h : i < n) → s i (up h) ≡ last → ⊥
    other i h e = let q = once i n (up h) top e in omega arith

counts-upto : {k n m : ℕ} {f : List ℤ → Bool} → CountsCells k f n → CountsCells k f m → n ≤ m
counts-upto {n} {m} x y =
    pigeonhole n m (λ i h. (at i h).0) (λ i h. (at i h).1) (λ i j h k e. x.once i j h k (sym (at i h).2 ∙ ap y.cell e ∙ (at j k).2))
  where
    at : (i : ℕ) → i < n → (j : ℕ) × (j < m) × (y.cell j ≡ x.cell i)
    at i h = y.each (x.cell i) (x.coordinates i h) (x.passes i h)

-- ONLY ONE NUMBER is that of the cells that pass
pub counts-unique : {k n m : ℕ} {f : List ℤ → Bool} → CountsCells k f n → CountsCells k f m → n ≡ m
counts-unique x y = le_antisymm (counts-upto x y) (counts-upto y x)
