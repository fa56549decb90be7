-- Where records stand: the code's positions are those of the layout, and each record lies whole in its run.
-- `x.at` is the place of the record's first word. Assumes nothing.
use mathlib.Core.Path.{◌≡◌, refl, ap}
use mathlib.Core.List.{List}
use Prim.Native.Nat.{ℕ, zero, suc, ◌+◌, ◌-◌, ◌*◌, ◌≤◌, ◌<◌}
use native.Mathlib.Nat.{not-suc-le-zero}
use native.Mathlib.Omega.{arith}
use lib.IntN.{ℤ}
use lib.ListN.{length}
use Rattle.integers.specs.Below.{UpTo}
use Rattle.integers.proofs.Ranges.{record-ends}
use Rattle.sheet.specs.Layout.{dims, axes, boxes, rules, box_len, rule_len, row_len, block_length, box_at, rule_at, row_at, rows}
use Rattle.sheet.specs.Accepted.{Head, Rows}
use Rattle.words.specs.declared.Place.{Place}
use Rattle.words.specs.Places.{BoxPlace, RulePlace, RowPlace}

-- ---- the layout's positions, written out
module _ (block : List ℤ) where
  pub box-at : (b : ℕ) → 3 + b * (1 + 2 * dims block) ≡ box_at block b
  unfolding box_at box_len
  box-at b = refl

  pub rule-at : (r : ℕ) → 3 + boxes block * (1 + 2 * dims block) + r * (3 + 2 * dims block) ≡ rule_at block r
  unfolding rule_at box_len rule_len
  rule-at r = refl

  pub row-at : (i : ℕ) → 1 ≤ i → (i - 1) * row_len block ≡ row_at block i
  unfolding row_at
  row-at zero h = absurd (not-suc-le-zero h)
  row-at (suc m) h = let e : suc m - 1 ≡ m = omega arith in ap (λ (n : ℕ). n * row_len block) e

-- ---- a record ends before its run does
module _ {block : List ℤ} (h : Head block) where
  pub head-ends : 3 ≤ length block
  unfolding block_length
  head-ends = omega (arith, h.long)

  pub box-at-ends : {b : ℕ} → b < boxes block → box_at block b + (1 + 2 * dims block) ≤ length block
  unfolding block_length box_at box_len
  box-at-ends {b} l = omega (arith, h.long, record-ends (box_len block) l)

  pub rule-at-ends : {r : ℕ} → r < rules block → rule_at block r + (3 + 2 * dims block) ≤ length block
  unfolding block_length rule_at rule_len
  rule-at-ends {r} l = omega (arith, h.long, record-ends (rule_len block) l)

pub row-at-ends : {block : List ℤ} {t : List ℤ} → Rows block t → {i : ℕ} → 1 ≤ i → i ≤ rows block t
    → row_at block i + (1 + 2 * axes block) ≤ length t
unfolding row_at row_len
row-at-ends h {i = zero} f u = absurd (not-suc-le-zero f)
row-at-ends {block = block} h {i = suc m} f u = omega (arith, h.long, record-ends (row_len block) u)

module _ {block : List ℤ} {x : Place} where
  pub box-ends : BoxPlace block x → x.at + (1 + 2 * dims block) ≤ length block
  box-ends p = omega (arith, p.stands, box-at-ends p.head p.below)

  pub rule-ends : RulePlace block x → x.at + (3 + 2 * dims block) ≤ length block
  rule-ends p = omega (arith, p.stands, rule-at-ends p.head p.below)

  pub row_ends : {t : List ℤ} → RowPlace block t x → x.at + (1 + 2 * axes block) ≤ length t
  row_ends p = omega (arith, p.stands, row-at-ends p.whole p.from p.upto)

  -- a set of rows has a bit for it
  pub row-bit : {t : List ℤ} → RowPlace block t x → UpTo 32 x.number
  row-bit p = record { from = p.from; upto = omega (arith, p.upto, p.whole.few_rows) }
