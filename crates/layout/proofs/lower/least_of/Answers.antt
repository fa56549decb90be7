-- `layout::lower::least_of` meets its contract: number m is that of a row and a column. Assumes nothing.
use mathlib.Core.Path.{◌≡◌, refl, ap, ap₂, ◌∙◌}
use mathlib.Core.List.{List}
use Prim.Native.Nat.{ℕ, suc, ◌+◌, ◌/◌, ◌%◌}
use native.Mathlib.Numerals.{add-one}
use native.Mathlib.Omega.{arith}
use lib.IntN.{ℤ}
use Rattle.integers.proofs.Machine.{within_by}
use Rattle.sheet.specs.Cuts.{HasNumber, number}
use Rattle.sheet.specs.FirstLayout.{per_row, number_at}
use Rattle.sheet.proofs.Precedes.{position-number}
use Rattle.words.proofs.Reading.{read_back}
use Rattle.layout.proofs.lower.least_of.Goals as goal

pub overflow_add-columns : goal.overflow_add-columns
overflow_add-columns c = let k = c.axes_of-columns.ensures in let f = c.requires.0.head.few_axes in omega arith

-- the row and the column
module _ (c : goal.After-axes_of-columns) where
  abbrev block : List ℤ
  block = c.args.block.now

  abbrev t : List ℤ
  t = c.args.table.now

  abbrev m : ℕ
  m = c.args.m

  columns : c.axes_of-columns.result + 1 ≡ per_row block
  unfolding per_row
  columns = add-one c.axes_of-columns.result ∙ ap suc c.axes_of-columns.ensures

  is_row : m / (c.axes_of-columns.result + 1) + 1 ≡ suc (m / per_row block)
  is_row = ap (λ (n : ℕ). m / n + 1) columns ∙ add-one (m / per_row block)

  is-column : m % (c.axes_of-columns.result + 1) ≡ m % per_row block
  is-column = ap (λ (n : ℕ). m % n) columns

  has : HasNumber block t (m / (c.axes_of-columns.result + 1) + 1) (m % (c.axes_of-columns.result + 1))
  has = rw (is_row, is-column) (position-number block t m c.requires.1)

pub overflow_add-row : goal.overflow_add-row
overflow_add-row c = let h = (has c).upto in let f = c.requires.0.table.whole.few_rows in omega arith

pub number-at-requires : goal.number-at-requires
number-at-requires c = let o = c.requires.0 in record { head = o.head; table = o.table; has = has c }

pub returns : goal.returns
unfolding number_at
returns c =
    let a = c.before in
    let back = read_back c.number-at.ensures.0 c.number-at.type_inv in
    record {
      row = is_row a;
      column = is-column a;
      least = back ∙ ap₂ (number (block a) (t a)) (is_row a) (is-column a);
      near = within_by (read_back {z = c.number-at.result} refl c.number-at.type_inv) c.number-at.ensures.1;
    }
