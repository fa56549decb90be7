-- `line::number::read_digits` meets its contract. The invariant: the digits from `b` on, read onto `n`, give what all of them give onto
-- `v`, and `n` has room for as many digits as are left. Assumes nothing.
use Rattle.std.proofs.Common.{◌≡◌, ◌+◌, ◌*◌, ◌-◌, ◌^◌, ◌≤◌, length, drop}
use Rattle.sheet.specs.Text.{digits_from}
use Rattle.line.proofs.number.read_digits.Given as goal

abbrev pub invariant-loop-b : goal.invariant-loop-b
invariant-loop-b l = (digits_from l.n (drop l.b-index l.f) ≡ digits_from l.v l.f) × ((l.n + 1) * 10 ^ (length l.f - l.b-index) ≤ 10000000000)
