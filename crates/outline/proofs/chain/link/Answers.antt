-- `outline::chain::link` meets its contract: the box is put before the boxes of its shape. Assumes nothing.
use mathlib.Core.Path.{◌≡◌, sym, ap, ◌∙◌}
use Prim.Native.Nat.{ℕ}
use native.Mathlib.Omega.{arith}
use Rattle.integers.specs.Integer.{nat}
use Rattle.sheet.specs.Layout.{shape_of}
use Rattle.outline.proofs.Chains.{chained_more}
use Rattle.outline.proofs.chain.link.Goals as goal

pub returns : goal.returns
returns c =
    let block = c.args.block.now in
    let p = c.requires in
    let is : nat (shape_of block c.args.b) ≡ c.shape_number-s.result =
    sym (c.shape_number-s.ensures ∙ ap (λ (b : ℕ). nat (shape_of block b)) c.box_place-place.ensures.1) in
    rw (c.put-2.ensures, c.put.ensures, c.count_at-first.ensures) (chained_more p.0 p.2 p.1 (omega arith) is)
