-- `settle::touched` meets its contract: after r rules a row that is not to be narrowed is spared by each of them that counts, and no rule past
-- the last that counts is needed. Assumes nothing.
use mathlib.Core.Path.{◌≡◌, subst}
use mathlib.Core.Logic.{⊎_elim}
use mathlib.Core.Bool.{Bool, true}
use mathlib.Core.List.{List}
use Prim.Native.Nat.{ℕ, suc, ◌^◌, ◌<◌}
use native.Mathlib.Omega.{arith}
use lib.IntN.{ℤ}
use Rattle.integers.specs.Bits.{bit}
use Rattle.integers.specs.Words.{word}
use Rattle.integers.proofs.Booleans.{clash}
use Rattle.integers.proofs.Below.{below_or}
use Rattle.integers.proofs.Bits.{bit_past}
use Rattle.sheet.specs.Layout.{rules}
use Rattle.words.specs.declared.Place.{Place}
use Rattle.outline.specs.Places.{rules_at}
use Rattle.nearby.proofs.Covers.{harmless-covered}
use Rattle.settle.specs.Todo.{Touching, Spared, Touched}
use Rattle.settle.proofs.Turns.{touched-so, touched-next}
use Rattle.settle.proofs.touched.Goals as goal

pub loop-r-preserved : goal.loop-r-preserved
loop-r-preserved c =
    let a = c.args in
    touched-next {spared = λ q m. bit (word a.outline.now rules_at) q ≡ true → Spared a.block.now a.table.now a.i.number q m}
    c.loop-r.invariant c.touched_if.ensures

-- where every rule that counts was passed, a row that is not to be narrowed is spared by each rule
spares : {block t o : List ℤ} {i : Place} {n r : ℕ} {due more : List Bool} → Touching block t o i n
    → Touched n due (λ m. (q : ℕ) → q < r → bit (word o rules_at) q ≡ true → Spared block t i.number q m) more
    → ((q : ℕ) → q < rules block → bit (word o rules_at) q ≡ true → q < r)
    → Touched n due (λ m. (q : ℕ) → q < rules block → Spared block t i.number q m) more
spares {block} {t} {o} {i} w x passed =
    touched-so x (λ m h spared. harmless-covered block t o w.on.outline.rules i.number (suc m) (λ q b k. spared q (passed q b k) k))

pub returns-after-loop-r : goal.returns-after-loop-r
returns-after-loop-r c = spares c.requires c.loop-r.invariant (λ q h k. omega (arith, c.loop-r-test.false, c.rules_of-count.ensures))

pub returns-then-is_below : goal.returns-then-is_below
returns-then-is_below c =
    spares c.requires c.loop-r.invariant (λ q h k.
    ⊎_elim (λ m. m)
    (λ m. clash k (bit_past _ (subst (λ (n : ℕ). n < 2 ^ c.loop-r.r) c.counting-counted.ensures (c.is_below.ensures.0 c.if-is_below.true)) m))
    (below_or q c.loop-r.r))
