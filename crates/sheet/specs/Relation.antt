-- Document 02, T-01: how two rows stand to each other in one dimension. The thirteen relations of document 004 (Allen's interval
-- relations, its appendix A), each with its rule; the one that four comparisons tell, and its converse; where a row starts and ends.
-- That exactly one relation holds, and that it is the one found, is proofs/Relation.antt. Assumes nothing.
use Rattle.std.specs.Prelude.{Bool, cond, ◌&&◌, List, ℕ, ℤ, pos}
use Rattle.std.specs.Int.Signed.{le_z, lt_z}
use Rattle.integers.specs.Integer.{eq_z}
use Rattle.integers.specs.Below.{foremost, value_or}
use Rattle.sheet.specs.declared.Allen.{Allen}
use Rattle.sheet.specs.declared.Allen.TheVariants as A
use Rattle.sheet.specs.Layout.{boxes, of_row}
use Rattle.sheet.specs.Placement.{box_start, box_end}

-- ---- document 004's rules, of a first interval from o to e and a second from o' to e'
unfoldable pub bears : Allen → ℤ → ℤ → ℤ → ℤ → Bool
bears A.Precedes o e o' e' = lt_z e o'
bears A.Meets o e o' e' = eq_z e o'
bears A.Overlaps o e o' e' = lt_z o o' && lt_z e e' && lt_z o' e
bears A.Contains o e o' e' = lt_z o o' && lt_z e' e
bears A.Starts o e o' e' = eq_z o o' && lt_z e e'
bears A.Finishes o e o' e' = lt_z o' o && eq_z e e'
bears A.Equals o e o' e' = eq_z o o' && eq_z e e'
bears A.StartedBy o e o' e' = eq_z o o' && lt_z e' e
bears A.FinishedBy o e o' e' = lt_z o o' && eq_z e e'
bears A.During o e o' e' = lt_z o' o && lt_z e e'
bears A.OverlappedBy o e o' e' = lt_z o' o && lt_z o e' && lt_z e' e
bears A.MetBy o e o' e' = eq_z e' o
bears A.PrecededBy o e o' e' = lt_z e' o

-- a relation's number, from 1 in the request's order
unfoldable pub relation_number : Allen → ℕ
relation_number A.Precedes = 1
relation_number A.Meets = 2
relation_number A.Overlaps = 3
relation_number A.Contains = 4
relation_number A.Starts = 5
relation_number A.Finishes = 6
relation_number A.Equals = 7
relation_number A.StartedBy = 8
relation_number A.FinishedBy = 9
relation_number A.During = 10
relation_number A.OverlappedBy = 11
relation_number A.MetBy = 12
relation_number A.PrecededBy = 13

-- what the second bears to the first
unfoldable pub converse : Allen → Allen
converse A.Precedes = A.PrecededBy
converse A.Meets = A.MetBy
converse A.Overlaps = A.OverlappedBy
converse A.Contains = A.During
converse A.Starts = A.StartedBy
converse A.Finishes = A.FinishedBy
converse A.Equals = A.Equals
converse A.StartedBy = A.Starts
converse A.FinishedBy = A.Finishes
converse A.During = A.Contains
converse A.OverlappedBy = A.Overlaps
converse A.MetBy = A.Meets
converse A.PrecededBy = A.Precedes

-- ---- the four comparisons
pub data Comparison : Type 0 where
  less : Comparison
  equal : Comparison
  greater : Comparison

unfoldable pub compared : ℤ → ℤ → Comparison
compared x y = cond (lt_z x y) less (cond (eq_z x y) equal greater)

-- the relation that they tell: the first's end with the second's origin, the first's origin with the second's end, origin with origin,
-- end with end
unfoldable pub relation_by : Comparison → Comparison → Comparison → Comparison → Allen
relation_by less p q r = A.Precedes
relation_by equal p q r = A.Meets
relation_by greater greater q r = A.PrecededBy
relation_by greater equal q r = A.MetBy
relation_by greater less less less = A.Overlaps
relation_by greater less less equal = A.FinishedBy
relation_by greater less less greater = A.Contains
relation_by greater less equal less = A.Starts
relation_by greater less equal equal = A.Equals
relation_by greater less equal greater = A.StartedBy
relation_by greater less greater less = A.During
relation_by greater less greater equal = A.Finishes
relation_by greater less greater greater = A.OverlappedBy

unfoldable pub relation_between : ℤ → ℤ → ℤ → ℤ → Allen
relation_between o e o' e' = relation_by (compared e o') (compared o e') (compared o o') (compared e e')

-- ---- two rows of a fixed placement
module _ (block : List ℤ) (table : List ℤ) where
  -- the document's origin and end of row i in dimension d: the lowest start and the highest end of its boxes
  unfoldable pub lowest_start : ℕ → ℕ → ℤ
  lowest_start i d = value_or (pos 0) (foremost le_z (boxes block) (of_row block table i) (λ b. box_start block table i b d))

  unfoldable pub highest_end : ℕ → ℕ → ℤ
  highest_end i d = value_or (pos 0) (foremost (λ x y. le_z y x) (boxes block) (of_row block table i) (λ b. box_end block table i b d))

  -- what row i bears to row j in dimension d
  unfoldable pub relation_of : ℕ → ℕ → ℕ → Allen
  relation_of i j d = relation_between (lowest_start i d) (highest_end i d) (lowest_start j d) (highest_end j d)

-- one name that opens every definition above: `unfolding relating`
unfoldable pub relating : Unit {0}
unfolding bears relation_number converse compared relation_by relation_between lowest_start highest_end relation_of
relating = tt
