-- `relate::between` meets its contract: the table's rule at the four comparisons. Assumes nothing.
use mathlib.Core.Path.{◌≡◌, ap₂, ◌∙◌}
use Prim.Native.Nat.{ℕ, ◌^◌, ◌<◌}
use native.Mathlib.Omega.{arith}
use lib.IntN.{ℤ}
use lib.Signed.{mag}
use mir.Syntax.{w64}
use mir.Val.{to_z, of_z}
use Rattle.std.proofs.Common.{rules}
use Rattle.sheet.specs.Relation.{compared, relation_between}
use Rattle.points.proofs.Sums.{bits_back}
use Rattle.relate.specs.Comparisons.{index_of}
use Rattle.relate.proofs.Table.{entry-is, index_below}
use Rattle.relate.proofs.between.Goals as goal

-- a comparison of two words, as they come back from their bits
back : {r : ℕ} (x y : ℤ) → mag x < 2 ^ 63 → mag y < 2 ^ 63 → r ≡ index_of (compared (to_z w64 (of_z w64 x)) (to_z w64 (of_z w64 y)))
    → r ≡ index_of (compared x y)
back x y f g e = e ∙ ap₂ (λ (a b : ℤ). index_of (compared a b)) (bits_back {z = x} f) (bits_back {z = y} g)

-- ---- the four comparisons
module _ (c : goal.After-compared-s) where
  first : c.compared-p.result ≡ index_of (compared c.args.x.end c.args.y.start)
  first = back _ _ (search rules) (search rules) c.compared-p.ensures

  second : c.compared-q.result ≡ index_of (compared c.args.x.start c.args.y.end)
  second = back _ _ (search rules) (search rules) c.compared-q.ensures

  third : c.compared-r.result ≡ index_of (compared c.args.x.start c.args.y.start)
  third = back _ _ (search rules) (search rules) c.compared-r.ensures

  fourth : c.compared-s.result ≡ index_of (compared c.args.x.end c.args.y.end)
  fourth = back _ _ (search rules) (search rules) c.compared-s.ensures

  small : (c.compared-p.result < 3) × (c.compared-q.result < 3) × (c.compared-r.result < 3) × (c.compared-s.result < 3)
  small = (rw first (index_below _), rw second (index_below _), rw third (index_below _), rw fourth (index_below _))

pub offset_bounds-p : goal.offset_bounds-p
offset_bounds-p c = omega (arith, (small c).0)

pub offset_bounds-p-q : goal.offset_bounds-p-q
offset_bounds-p-q c = omega (arith, (small c).1)

pub offset_bounds-p-r : goal.offset_bounds-p-r
offset_bounds-p-r c = omega (arith, (small c).2)

pub bounds-p : goal.bounds-p
bounds-p c = (small c).0

pub bounds-q : goal.bounds-q
bounds-q c = (small c).1

pub bounds-r : goal.bounds-r
bounds-r c = (small c).2

pub bounds-s : goal.bounds-s
bounds-s c = (small c).3

pub returns : goal.returns
unfolding relation_between
returns c = let x = c.before in entry-is _ _ _ _ (first x) (second x) (third x) (fourth x)
