-- `relate::compared` meets its contract: each of three cases. Assumes nothing.
use mathlib.Core.Path.{◌≡◌, sym, ap}
use mathlib.Core.Bool.{true}
use lib.IntN.{ℤ}
use lib.Signed.{lt_z, ◌<ℤ◌}
use mir.Facts.{to_z-of_z}
use Rattle.std.specs.Ordering.{int_cmp, MatchOrdering}
use Rattle.std.specs.declared.cmp.Ordering.{Ordering}
use Rattle.std.specs.declared.cmp.Ordering.TheVariants.{Less, Equal, Greater}
use Rattle.std.proofs.lemmas.Cmp.{int_ranked}
use Rattle.integers.specs.Integer.{eq_z}
use Rattle.integers.proofs.Ints.{ints}
use Rattle.sheet.specs.Relation.{compared}
use Rattle.sheet.proofs.Intervals.{is-less, is-equal, is_greater, compared_is}
use Rattle.relate.specs.Comparisons.{index_of}
use Rattle.relate.proofs.compared.Goals as goal

-- the entry for a comparison, by what std's says
abbrev Entry : (x y : ℤ) → Ordering → Type 0
Entry x y o =
    let e = index_of (compared x y) in MatchOrdering o (0 ≡ e) (1 ≡ e) (2 ≡ e)

ranked : (x y : ℤ) (o : Ordering) → o ≡ int_cmp x y → Entry x y o
unfolding index_of
ranked x y o e = by o (int_ranked x y o e)
  where
    by : (o : Ordering) → MatchOrdering o (x <ℤ y) (x ≡ y) (y <ℤ x) → Entry x y o
    by Less h = let e : lt_z x y ≡ true = omega ints in sym (ap index_of (compared_is (is-less e)))
    by Equal h = let e : eq_z x y ≡ true = omega ints in sym (ap index_of (compared_is (is-equal e)))
    by Greater h = let e : lt_z y x ≡ true = omega ints in sym (ap index_of (compared_is (is_greater e)))

pub returns-in-Less : goal.returns-in-Less
returns-in-Less c = let f = c.in-Less.ensures in ranked _ _ _ (simp (to_z-of_z c.ranges.x, to_z-of_z c.ranges.y) at f)

pub returns-in-Equal : goal.returns-in-Equal
returns-in-Equal c = let f = c.in-Equal.ensures in ranked _ _ _ (simp (to_z-of_z c.ranges.x, to_z-of_z c.ranges.y) at f)

pub returns-in-Greater : goal.returns-in-Greater
returns-in-Greater c = let f = c.in-Greater.ensures in ranked _ _ _ (simp (to_z-of_z c.ranges.x, to_z-of_z c.ranges.y) at f)
