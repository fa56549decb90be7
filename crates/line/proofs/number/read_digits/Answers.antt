-- `line::number::read_digits` meets its contract. The invariant: the digits from `b` on, read onto `n`, give what all of them give onto
-- `v`, and `n` has room for as many digits as are left. Assumes nothing.
use Rattle.std.proofs.Common.{◌≡◌, ℕ, suc, ◌+◌, ◌-◌, ◌≤◌, length, get_or, refl, sym, ap, ◌∙◌, pos, arith}
use Rattle.std.proofs.Math.Option.{Option}
use Rattle.sheet.specs.Text.{signed}
use Rattle.line.specs.Answers.{number_of}
use Rattle.line.proofs.Digits.{between-true, digits_more, digits-bad, digits-end, room_small, room-more, room-first}
use Rattle.line.proofs.Numbers.{word-is}
use Rattle.line.proofs.number.read_digits.Goals as goal

pub loop-b-init : goal.loop-b-init
loop-b-init c = (refl, room-first _ _ c.requires.0 (omega arith))

pub returns-then-not-is_ascii_digit : goal.returns-then-not-is_ascii_digit
unfolding signed
returns-then-not-is_ascii_digit c =
    let bad = digits-bad _ c.loop-b.b-index c.loop-b.n c.loop-b-test.true (sym c.is_ascii_digit.ensures.value ∙ c.if-not-is_ascii_digit.true) in
    ap (λ (o : Option ℕ). number_of (signed (λ n. pos n) o)) (sym bad ∙ c.loop-b.invariant.0)

pub overflow_mul-n : goal.overflow_mul-n
overflow_mul-n c = let small = room_small _ _ c.loop-b.invariant.1 in omega arith

pub overflow_add-n : goal.overflow_add-n
overflow_add-n c =
    let small = room_small _ _ c.loop-b.invariant.1 in
    let test = sym c.is_ascii_digit.ensures.value ∙ c.if-not-is_ascii_digit.false in
    let digit = between-true {b = get_or c.args.f.now c.loop-b.b-index 0} test in
    omega (arith, digit.1)

pub loop-b-preserved : goal.loop-b-preserved
loop-b-preserved c =
    let f = c.args.f.now in
    let test = sym c.is_ascii_digit.ensures.value ∙ c.if-not-is_ascii_digit.false in
    let digit : get_or f c.loop-b.b-index 0 ≤ 57 = (between-true {b = get_or f c.loop-b.b-index 0} test).1 in
    let more = digits_more f c.loop-b.b-index c.loop-b.n c.loop-b-test.true test in
    let q : length f - c.loop-b.b-index ≡ suc (length f - (c.loop-b.b-index + 1)) = omega arith in
    rw c.from.ensures (sym more ∙ c.loop-b.invariant.0, room-more _ _ (get_or f c.loop-b.b-index 0 - 48) (omega arith) (rw q at c.loop-b.invariant.1))

pub returns : goal.returns
unfolding signed
returns c =
    let past = digits-end c.args.f.now c.loop-b.b-index c.loop-b.n c.loop-b-test.false in
    rw (word-is (room_small _ _ c.loop-b.invariant.1), ← c.loop-b.invariant.0, past)
