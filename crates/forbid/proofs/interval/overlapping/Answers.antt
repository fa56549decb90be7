-- `interval::overlapping` meets its contract: each sum fits, and they come to the definition's. Assumes nothing.
use Rattle.integers.proofs.Machine.{Expr, bnd, num, ◌+ʷ◌, ◌-ʷ◌, sum_fits, diff-fits}
use Rattle.points.proofs.Sums.{sum_is}
use Rattle.forbid.proofs.Intervals.{first-sum, last_sum, add-literal-fits, literal-less-fits}
use Rattle.forbid.proofs.interval.overlapping.Lts as lts
use Rattle.forbid.proofs.interval.overlapping.Reads as reads
use Rattle.forbid.proofs.interval.overlapping.Goals as goal

abbrev Start : Type 0
Start = lts.Start reads.Pre reads.Post

-- the bounds taken back, and the sums but for the literals
module _ (c : Start) where
  abbrev back-from-end : Expr
  back-from-end = num 0 -ʷ bnd c.requires.own_end

  abbrev back-from-start : Expr
  back-from-start = num 0 -ʷ bnd c.requires.own_start

  abbrev first : Expr
  first = bnd c.requires.highest +ʷ bnd c.requires.other_start

  abbrev last : Expr
  last = bnd c.requires.lowest +ʷ bnd c.requires.other_end

  abbrev clearance : Expr
  clearance = bnd c.requires.clearance

pub overflow_sub-back_from_end : goal.overflow_sub-back_from_end
overflow_sub-back_from_end c = diff-fits (num 0) (bnd c.requires.own_end) tt

pub overflow_sub-back_from_start : goal.overflow_sub-back_from_start
overflow_sub-back_from_start c = diff-fits (num 0) (bnd c.requires.own_start) tt

pub overflow_add-result : goal.overflow_add-result
overflow_add-result c = sum_fits (bnd c.requires.highest) (bnd c.requires.other_start) tt

pub overflow_add-result-2 : goal.overflow_add-result-2
overflow_add-result-2 c = let s = c.before.before.before.before.before.before.before in sum_fits (first s) (back-from-end s) tt

pub overflow_add-result-3 : goal.overflow_add-result-3
overflow_add-result-3 c = let s = c.before.before.before.before.before.before.before in search (add-literal-fits (first s +ʷ back-from-end s))

pub overflow_sub-result : goal.overflow_sub-result
overflow_sub-result c = let s = c.before.before.before.before.before.before.before in
    search (literal-less-fits (first s +ʷ back-from-end s) (clearance s))

-- the places of the second sum
abbrev top : goal.After-struct_told-4-1 → Start
top c = c.before.before.before.before.before.before.before.before

pub overflow_add-result-4 : goal.overflow_add-result-4
overflow_add-result-4 c = sum_fits (bnd (top c).requires.lowest) (bnd (top c).requires.other_end) tt

pub overflow_add-result-5 : goal.overflow_add-result-5
overflow_add-result-5 c = sum_fits (last (top c)) (back-from-start (top c)) tt

pub overflow_sub-result-2 : goal.overflow_sub-result-2
overflow_sub-result-2 c = diff-fits (last (top c) +ʷ back-from-start (top c)) (num 1) tt

pub overflow_add-result-6 : goal.overflow_add-result-6
overflow_add-result-6 c = let x = last (top c) +ʷ back-from-start (top c) -ʷ num 1 in search (sum_fits x (clearance (top c)), add-literal-fits x)

pub returns : goal.returns
returns c =
    let a = (top c).args in
    let g = clearance (top c) in
    let f = sum_is (first (top c) +ʷ back-from-end (top c) +ʷ num 1 -ʷ g) tt (first-sum a.own a.other a.high a.clearance) in
    let l = sum_is (last (top c) +ʷ back-from-start (top c) -ʷ num 1 +ʷ g) tt (last_sum a.own a.other a.low a.clearance) in
    (f.0, l.0, f.1, l.1)
