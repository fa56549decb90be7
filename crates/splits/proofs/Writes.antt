-- The words of a row as they are written: its set (`set-shapes`), and both ends of one of its ranges (`set-range`). Assumes nothing.
use mathlib.Core.Path.{◌≡◌, ap, ap₂, ◌∙◌}
use mathlib.Core.Bool.{◌&&◌}
use mathlib.Core.List.{List, [], ◌∷◌}
use Prim.Native.Nat.{ℕ, suc, ◌+◌, ◌*◌, ◌<◌}
use native.Mathlib.Omega.{arith}
use lib.IntN.{ℤ, pos}
use lib.ListN.{set}
use Rattle.integers.specs.Integer.{nat, within, max_z, min_z}
use Rattle.integers.specs.Bits.{holds, set_of}
use Rattle.integers.specs.Words.{replaced}
use Rattle.integers.proofs.Ints.{ints}
use Rattle.integers.proofs.Lists.{replaced-one, replaced-two}
use Rattle.integers.proofs.Ranges.{pos-nat}
use Rattle.sheet.specs.Layout.{axes, shape_set, low, high, has_shape}
use Rattle.sheet.specs.Accepted.{Table}
use Rattle.sheet.specs.Cuts.{with_shapes, with_range, cut_to}
use Rattle.words.specs.declared.Place.{Place}
use Rattle.words.specs.Places.{RowPlace}
use Rattle.words.proofs.Ends.{row_ends}
use Rattle.splits.specs.Splits.{is_between}

module _ {block : List ℤ} {t : List ℤ} {i : Place} (row : RowPlace block t i) where
  pub set-shapes : Table block t → (a b : ℤ) → set t i.at (pos (set_of 32 (is_between (nat (shape_set block t i.number)) a b)))
      ≡ cut_to block t i.number 0 a b
  unfolding cut_to with_shapes is_between has_shape
  set-shapes table a b =
      let some = table.sets_from i.number row.from row.upto in
      let same : pos (nat (shape_set block t i.number)) ≡ shape_set block t i.number = pos-nat (omega ints) in
      replaced-one t i.at _ (omega (arith, row_ends row))
      ∙ ap₂ (λ (at : ℕ) (z : ℤ). replaced t at (pos (set_of 32 (λ s. holds z s && within a b (pos s))) ∷ [])) row.stands same

  pub set-range : {d : ℕ} → d < axes block → (a b : ℤ)
      → set (set t (i.at + 1 + 2 * d) (max_z (low block t i.number d) a)) (i.at + 2 + 2 * d) (min_z (high block t i.number d) b)
      ≡ cut_to block t i.number (suc d) a b
  unfolding cut_to with_range
  set-range {d} l a b =
      let next : i.at + 2 + 2 * d ≡ i.at + 1 + 2 * d + 1 = omega arith in
      let lo = max_z (low block t i.number d) a in
      let hi = min_z (high block t i.number d) b in
      ap (λ (n : ℕ). set (set t (i.at + 1 + 2 * d) lo) n hi) next
      ∙ replaced-two t (i.at + 1 + 2 * d) lo hi (omega (arith, row_ends row))
      ∙ ap (λ (n : ℕ). replaced t (n + 1 + 2 * d) (lo ∷ hi ∷ [])) row.stands
