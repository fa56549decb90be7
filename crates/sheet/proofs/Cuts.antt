-- Tables cut down at one place, by what is open in them: with a row's set or one of its ranges replaced (`shapes-here`, `range-low`,
-- `range-high`) every other number keeps its values (`shapes-other`, `range_other`, and for a range its ends and its shapes, `range-ends`,
-- `range-shapes`); a number that is cut keeps those from a to b (`cut_in`, `cut_out`). Assumes nothing.
use mathlib.Core.Path.{◌≡◌, refl, sym, ap, ap₂, ◌∙◌, subst}
use mathlib.Core.Logic.{◌⊎◌, inl, inr, ⊎_elim}
use mathlib.Core.Bool.{Bool, true, ◌&&◌}
use mathlib.Core.List.{List, [], ◌∷◌}
use Prim.Native.Nat.{ℕ, zero, suc, ◌+◌, ◌*◌, ◌≤◌, ◌<◌}
use native.Mathlib.Omega.{arith}
use lib.Arith.{lt_of_le-ne}
use lib.ListN.{length}
use lib.IntN.{ℤ, pos, negsuc}
use Rattle.integers.specs.Integer.{nat, within, max_z, min_z}
use Rattle.integers.specs.Bits.{holds, set_of}
use Rattle.integers.specs.Words.{word, replaced}
use Rattle.integers.proofs.Booleans.{clash, both_ways, and-true, true-and}
use Rattle.integers.proofs.Below.{same_or, below_or}
use Rattle.integers.proofs.Ints.{within-cut}
use Rattle.integers.proofs.Sets.{none-zero, member-ge-1, small-set, holds-set_of, set_of-holds}
use Rattle.integers.proofs.Lists.{length-replaced, replaced-before, replaced-in, replaced-after}
use Rattle.sheet.specs.Layout.{axes, row_len, row_at, rows, shape_set, low, high, has_shape}
use Rattle.sheet.specs.Accepted.{Rows, Table}
use Rattle.sheet.specs.Cuts.{HasNumber, with_shapes, with_range, is_open, cut_to}
use Rattle.sheet.proofs.Rows.{row_fits, low-other, high-other, shape-other}

module _ (block : List ℤ) (t : List ℤ) (whole : Rows block t) (i : ℕ) (from : 1 ≤ i) (upto : i ≤ rows block t) where
  -- ---- words of row i replaced
  module _ (at : ℕ) (new : List ℤ) (first : row_at block i ≤ at) (last : at + length new ≤ row_at block i + row_len block) where
    fits : at + length new ≤ length t
    fits = omega (arith, row_fits block t i whole from upto)

    beside : (k : ℕ) → (k < at) ⊎ (at + length new ≤ k) → word (replaced t at new) k ≡ word t k
    beside k h = ⊎_elim (λ l. replaced-before t at new fits k l) (λ l. replaced-after t at new fits k l) h

    others : (k : ℕ) → (k < row_at block i → word (replaced t at new) k ≡ word t k)
        × (row_at block i + row_len block ≤ k → word (replaced t at new) k ≡ word t k)
    others k = (λ h. beside k (inl (omega arith)), λ h. beside k (inr (omega arith)))

    -- another row is as it was
    other-open : (j c : ℕ) (z : ℤ) → 1 ≤ j → (j ≡ i → ⊥) → c ≤ axes block → is_open block (replaced t at new) j c z ≡ is_open block t j c z
    unfolding is_open
    other-open j zero z h ne l = shape-other block t (replaced t at new) i from others j (nat z) h ne
    other-open j (suc d) z h ne l =
        ap₂ (λ (a b : ℤ). within a b z)
        (low-other block t (replaced t at new) i from others j d h ne l) (high-other block t (replaced t at new) i from others j d h ne l)

  -- ---- its set replaced
  module _ (set : ℤ) where
    set_last : row_at block i + 1 ≤ row_at block i + row_len block
    unfolding row_len
    set_last = omega arith

    pub shapes-long : length (with_shapes block t i set) ≡ length t
    unfolding with_shapes
    shapes-long = length-replaced t (row_at block i) (set ∷ []) (fits (row_at block i) (set ∷ []) (omega arith) set_last)

    pub shapes-here : shape_set block (with_shapes block t i set) i ≡ set
    unfolding with_shapes shape_set
    shapes-here =
        let q : row_at block i ≡ row_at block i + 0 = omega arith in
        ap (word (replaced t (row_at block i) (set ∷ []))) q
        ∙ replaced-in t (row_at block i) (set ∷ []) (fits (row_at block i) (set ∷ []) (omega arith) set_last) 0 (omega arith)

    shapes-range : (d : ℕ) (z : ℤ) → is_open block (with_shapes block t i set) i (suc d) z ≡ is_open block t i (suc d) z
    unfolding with_shapes is_open low high
    shapes-range d z =
        ap₂ (λ (a b : ℤ). within a b z)
        (beside (row_at block i) (set ∷ []) (omega arith) set_last (row_at block i + 1 + 2 * d) (inr (omega arith)))
        (beside (row_at block i) (set ∷ []) (omega arith) set_last (row_at block i + 2 + 2 * d) (inr (omega arith)))

    -- every other number keeps its values
    pub shapes-other : (j c : ℕ) (z : ℤ) → 1 ≤ j → (j ≡ i → c ≡ 0 → ⊥) → c ≤ axes block
        → is_open block (with_shapes block t i set) j c z ≡ is_open block t j c z
    unfolding with_shapes
    shapes-other j c z h ne l =
        ⊎_elim (λ e. own j c e (ne e)) (λ n. other-open (row_at block i) (set ∷ []) (omega arith) set_last j c z h n l) (same_or j i)
      where
        own : (j c : ℕ) → j ≡ i → (c ≡ 0 → ⊥)
            → is_open block (replaced t (row_at block i) (set ∷ [])) j c z ≡ is_open block t j c z
        own j zero e n = absurd (n refl)
        own j (suc d) e n =
            subst
            (λ (x : ℕ). is_open block (replaced t (row_at block i) (set ∷ [])) x (suc d) z ≡ is_open block t x (suc d) z)
            (sym e)
            (shapes-range d z)

  -- ---- its range in dimension d replaced
  module _ (d : ℕ) (below : d < axes block) (a b : ℤ) where
    range-first : row_at block i ≤ row_at block i + 1 + 2 * d
    range-first = omega arith

    range_last : row_at block i + 1 + 2 * d + 2 ≤ row_at block i + row_len block
    unfolding row_len
    range_last = omega arith

    ends-fit : row_at block i + 1 + 2 * d + 2 ≤ length t
    ends-fit = fits (row_at block i + 1 + 2 * d) (a ∷ b ∷ []) range-first range_last

    pub range-long : length (with_range block t i d a b) ≡ length t
    unfolding with_range
    range-long = length-replaced t (row_at block i + 1 + 2 * d) (a ∷ b ∷ []) ends-fit

    pub range-low : low block (with_range block t i d a b) i d ≡ a
    unfolding with_range low
    range-low =
        let q : row_at block i + 1 + 2 * d ≡ row_at block i + 1 + 2 * d + 0 = omega arith in
        ap (word (replaced t (row_at block i + 1 + 2 * d) (a ∷ b ∷ []))) q
        ∙ replaced-in t (row_at block i + 1 + 2 * d) (a ∷ b ∷ []) ends-fit 0 (omega arith)

    pub range-high : high block (with_range block t i d a b) i d ≡ b
    unfolding with_range high
    range-high =
        let q : row_at block i + 2 + 2 * d ≡ row_at block i + 1 + 2 * d + 1 = omega arith in
        ap (word (replaced t (row_at block i + 1 + 2 * d) (a ∷ b ∷ []))) q
        ∙ replaced-in t (row_at block i + 1 + 2 * d) (a ∷ b ∷ []) ends-fit 1 (omega arith)

    -- every other range keeps its ends
    own-ends : (e : ℕ) → (e ≡ d → ⊥)
        → (low block (with_range block t i d a b) i e ≡ low block t i e) × (high block (with_range block t i d a b) i e ≡ high block t i e)
    unfolding with_range low high
    own-ends e ne =
        let apart : (e < d) ⊎ (d < e) = ⊎_elim (λ l. inl l) (λ l. inr (lt_of_le-ne l (λ q. ne (sym q)))) (below_or e d) in (
          beside (row_at block i + 1 + 2 * d) (a ∷ b ∷ []) range-first range_last (row_at block i + 1 + 2 * e)
              (⊎_elim (λ l. inl (omega arith)) (λ l. inr (omega arith)) apart),
          beside (row_at block i + 1 + 2 * d) (a ∷ b ∷ []) range-first range_last (row_at block i + 2 + 2 * e)
              (⊎_elim (λ l. inl (omega arith)) (λ l. inr (omega arith)) apart),
        )

    pub range-ends : (j e : ℕ) → 1 ≤ j → (j ≡ i → e ≡ d → ⊥) → e < axes block
        → (low block (with_range block t i d a b) j e ≡ low block t j e) × (high block (with_range block t i d a b) j e ≡ high block t j e)
    unfolding with_range
    range-ends j e h ne l =
        let u = replaced t (row_at block i + 1 + 2 * d) (a ∷ b ∷ []) in
        let rest = others (row_at block i + 1 + 2 * d) (a ∷ b ∷ []) range-first range_last in
        ⊎_elim
        (λ q. subst (λ (x : ℕ). (low block u x e ≡ low block t x e) × (high block u x e ≡ high block t x e)) (sym q) (own-ends e (ne q)))
        (λ n. (low-other block t u i from rest j e h n l, high-other block t u i from rest j e h n l))
        (same_or j i)

    -- every row keeps its shapes
    pub range-shapes : (j s : ℕ) → 1 ≤ j → has_shape block (with_range block t i d a b) j s ≡ has_shape block t j s
    unfolding with_range has_shape shape_set
    range-shapes j s h =
        let u = replaced t (row_at block i + 1 + 2 * d) (a ∷ b ∷ []) in
        ⊎_elim
        (λ q.
        subst (λ (x : ℕ). holds (word u (row_at block x)) s ≡ holds (word t (row_at block x)) s) (sym q)
        (ap (λ (w : ℤ). holds w s) (beside (row_at block i + 1 + 2 * d) (a ∷ b ∷ []) range-first range_last (row_at block i) (inl (omega arith)))))
        (λ n. shape-other block t u i from (others (row_at block i + 1 + 2 * d) (a ∷ b ∷ []) range-first range_last) j s h n)
        (same_or j i)

    pub range_other : (j c : ℕ) (z : ℤ) → 1 ≤ j → (j ≡ i → c ≡ suc d → ⊥) → c ≤ axes block
        → is_open block (with_range block t i d a b) j c z ≡ is_open block t j c z
    unfolding is_open
    range_other j zero z h ne l = range-shapes j (nat z) h
    range_other j (suc e) z h ne l =
        let r = range-ends j e h (λ p q. ne p (ap suc q)) l in
        ap₂ (λ (x y : ℤ). within x y z) r.0 r.1

-- ---- number c of row i cut to the values from a to b
-- two numbers of a table are one and the same, or not
pub spot-or : (j i e c : ℕ) → ((j ≡ i) × (e ≡ c)) ⊎ (j ≡ i → e ≡ c → ⊥)
spot-or j i e c = ⊎_elim (λ p. ⊎_elim (λ q. inl (p, q)) (λ n. inr (λ _ q. n q)) (same_or e c)) (λ n. inr (λ p _. n p)) (same_or j i)

module _ (block : List ℤ) (t : List ℤ) (table : Table block t) (i : ℕ) (a b : ℤ) where
  abbrev shapes_from : ℕ → Bool
  shapes_from s = has_shape block t i s && within a b (pos s)

  pub cut-long : (c : ℕ) → HasNumber block t i c → length (cut_to block t i c a b) ≡ length t
  unfolding cut_to
  cut-long zero n = shapes-long block t table.whole i n.from n.upto (pos (set_of 32 shapes_from))
  cut-long (suc d) n =
      range-long block t table.whole i n.from n.upto d n.few (max_z (low block t i d) a) (min_z (high block t i d) b)

  cut-here : (c : ℕ) (z : ℤ) → HasNumber block t i c → is_open block (cut_to block t i c a b) i c z ≡ (is_open block t i c z && within a b z)
  unfolding cut_to is_open has_shape
  cut-here zero z n =
      ap (λ (s : ℤ). holds s (nat z)) (shapes-here block t table.whole i n.from n.upto (pos (set_of 32 shapes_from)))
      ∙ both_ways _ _ (λ e. out z e) (λ e. into z e)
    where
      out : (z : ℤ) → holds (pos (set_of 32 shapes_from)) (nat z) ≡ true → (holds (shape_set block t i) (nat z) && within a b z) ≡ true
      out (pos s) e = (set_of-holds 32 shapes_from s e).1
      out (negsuc m) e = clash e (none-zero _)

      into : (z : ℤ) → (holds (shape_set block t i) (nat z) && within a b z) ≡ true → holds (pos (set_of 32 shapes_from)) (nat z) ≡ true
      into (pos s) e =
          let w : (holds (shape_set block t i) s ≡ true) × (within a b (pos s) ≡ true) = and-true e in
          let few : s ≤ 32 = small-set (table.sets_upto i n.from n.upto) w.0 in
          holds-set_of 32 shapes_from s (member-ge-1 (shape_set block t i) w.0) few ∙ e
      into (negsuc m) e = let w : (holds (shape_set block t i) 0 ≡ true) × (within a b (negsuc m) ≡ true) = and-true e in clash w.0 (none-zero _)
  cut-here (suc d) z n =
      ap₂ (λ (x y : ℤ). within x y z)
      (range-low block t table.whole i n.from n.upto d n.few (max_z (low block t i d) a) (min_z (high block t i d) b))
      (range-high block t table.whole i n.from n.upto d n.few (max_z (low block t i d) a) (min_z (high block t i d) b))
      ∙ within-cut (low block t i d) (high block t i d) a b z

  cut-other : (c j e : ℕ) (z : ℤ) → HasNumber block t i c → HasNumber block t j e → (j ≡ i → e ≡ c → ⊥)
      → is_open block (cut_to block t i c a b) j e z ≡ is_open block t j e z
  unfolding cut_to
  cut-other zero j e z n o ne =
      shapes-other block t table.whole i n.from n.upto (pos (set_of 32 shapes_from)) j e z o.from ne o.few
  cut-other (suc d) j e z n o ne =
      range_other block t table.whole i n.from n.upto d n.few (max_z (low block t i d) a) (min_z (high block t i d) b)
      j e z o.from ne o.few

  -- what is open then
  module _ (c : ℕ) (n : HasNumber block t i c) (j e : ℕ) (o : HasNumber block t j e) (z : ℤ) where
    pub cut_in : is_open block t j e z ≡ true → (j ≡ i → e ≡ c → within a b z ≡ true) → is_open block (cut_to block t i c a b) j e z ≡ true
    cut_in h w =
        ⊎_elim
        (λ s.
        let here : is_open block t i c z ≡ true = rw (s.0, s.1) at h in
        rw (s.0, s.1) (cut-here c z n ∙ true-and here (w s.0 s.1)))
        (λ ne. cut-other c j e z n o ne ∙ h)
        (spot-or j i e c)

    pub cut_out : is_open block (cut_to block t i c a b) j e z ≡ true → (is_open block t j e z ≡ true) × (j ≡ i → e ≡ c → within a b z ≡ true)
    cut_out h =
        ⊎_elim
        (λ s.
        let here : is_open block (cut_to block t i c a b) i c z ≡ true = rw (s.0, s.1) at h in
        let w : (is_open block t i c z ≡ true) × (within a b z ≡ true) = and-true (sym (cut-here c z n) ∙ here) in
        (rw (s.0, s.1) w.0, λ _ _. w.1))
        (λ ne. (sym (cut-other c j e z n o ne) ∙ h, λ p q. absurd (ne p q)))
        (spot-or j i e c)
