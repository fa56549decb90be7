-- `advanced` is AdjustUp. The invariant: what is left of it, from position j down, gives the whole one's result.
-- Assumes nothing.
use mathlib.Core.Path.{◌≡◌, sym, ap, ◌∙◌}
use Prim.Native.Nat.{ℕ, ◌-◌}
use native.Mathlib.Omega.{arith}
use lib.IntN.{ℤ}
use lib.ListN.{set}
use mir.Syntax.{w64}
use mir.Val.{SFits, to_z, of_z}
use mir.Facts.{to_z-of_z}
use borrow.Author.Rules.{rules}
use Rattle.integers.specs.Integer.{Within}
use Rattle.integers.specs.Words.{word}
use Rattle.integers.proofs.Ints.{ints}
use Rattle.integers.proofs.Machine.{bnd, num, ◌+ʷ◌, exact, within-fits}
use Rattle.sweep.specs.declared.Sweep.{Sweep}
use Rattle.sweep.specs.Point.{limit, next}
use Rattle.sweep.specs.Rotation.{rotation}
use Rattle.sweep.specs.Moves.{placed_at, advance}
use Rattle.sweep.proofs.Adjust.{adjust-none, adjust-found, adjust-again}
use Rattle.sweep.proofs.Sweep.advanced.Goals as goal

-- both words written, as the machine holds them
placed : (s : Sweep) (i : ℕ) {end y z : ℤ} → Within limit end → y ≡ z
    → record { candidate = set s.candidate i y; jump = set s.jump i (to_z w64 (of_z w64 (next (to_z w64 (of_z w64 end))))); live = s.live }
    ≡ placed_at i z end s
unfolding placed_at
placed s i h e = rw (e, exact (bnd h +ʷ num 1) tt)

pub returns-then-up-end : goal.returns-then-up-end
returns-then-up-end c =
    let a = c.args in
    let l = c.loop-j in
    let i = c.rotated-i.result in
    let f : SFits w64 (word l.self.jump i) = search rules in
    let u = to_z-of_z f in
    let v = to_z-of_z (within-fits (c.requires.near i) tt) in
    placed l.self i (c.requires.near i) u
    ∙ sym (adjust-found (rotation a.k a.d) a.low a.high l.self l.j (l.j - 1) i (omega arith) c.rotated-i.ensures (omega ints)) ∙ l.invariant

pub loop-j-preserved : goal.loop-j-preserved
loop-j-preserved c =
    let a = c.args in
    let l = c.loop-j in
    let i = c.rotated-i.result in
    let f : SFits w64 (word l.self.jump i) = search rules in
    let g : SFits w64 (word a.low i) = search rules in
    let u = to_z-of_z f in
    let v = to_z-of_z (within-fits (c.requires.near i) tt) in
    ap (advance (rotation a.k a.d) a.low a.high (l.j - 1)) (placed l.self i (c.requires.near i) (to_z-of_z g))
    ∙ sym (adjust-again (rotation a.k a.d) a.low a.high l.self l.j (l.j - 1) i (omega arith) c.rotated-i.ensures (omega ints)) ∙ l.invariant

pub returns : goal.returns
returns c =
    let a = c.args in
    let l = c.loop-j in
    sym (adjust-none (rotation a.k a.d) a.low a.high l.self l.j (omega arith)) ∙ l.invariant
