-- `words::with_member` meets its contract: the power of two fits, and so does the sum. Assumes nothing.
use mathlib.Core.Path.{◌≡◌}
use Prim.Native.Nat.{ℕ, suc, ◌*◌, ◌%◌, ◌^◌, ◌<◌, ◌≤◌}
use native.Mathlib.Omega.{arith}
use lib.Dec.{lit<}
use lib.Pow.{shl_exact, pow_mono}
use Rattle.words.proofs.with_member.Goals as goal

place : (s : ℕ) → s < 32 → 1 * 2 ^ s % 2 ^ 32 ≡ 1 * 2 ^ s
place s h = shl_exact 1 s 32 (lit< tt) (omega arith)

room : (s : ℕ) → s < 32 → 2 ^ suc s ≤ 2 ^ 32
room s h = pow_mono {i = suc s} {j = 32} (omega arith)

pub overflow_add-result : goal.overflow_add-result
overflow_add-result c = omega (arith, place c.args.q c.requires.0, room c.args.q c.requires.0)

pub returns : goal.returns
returns c = omega (arith, place c.args.q c.requires.0)
