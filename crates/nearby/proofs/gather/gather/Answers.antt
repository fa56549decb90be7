-- `nearby::gather::gather` meets its contract: so far what the rules passed forbid is listed, and none that counts is left where the loop ends.
-- Assumes nothing.
use Rattle.std.specs.Prelude.{Option}
use Rattle.std.proofs.lemmas.Option.{IfSome_then}
use mathlib.Core.Path.{◌≡◌, refl, subst}
use mathlib.Core.Logic.{⊎_elim}
use mathlib.Core.Bool.{true, false, ◌||◌, ◌&&◌}
use mathlib.Core.List.{List}
use Prim.Native.Nat.{ℕ, ◌^◌, ◌<◌}
use native.Mathlib.Omega.{arith}
use lib.IntN.{ℤ}
use Rattle.integers.specs.Below.{any_below}
use Rattle.integers.specs.Bits.{bit}
use Rattle.integers.specs.Words.{word}
use Rattle.integers.proofs.Booleans.{clash}
use Rattle.integers.proofs.Below.{below_or}
use Rattle.integers.proofs.Bits.{bit_past}
use Rattle.sheet.specs.Layout.{rules}
use Rattle.words.specs.declared.Place.{Place}
use Rattle.outline.specs.Places.{rules_at}
use Rattle.outline.specs.Rules.{Rules}
use Rattle.forbid.specs.Region.{rule_forbids}
use Rattle.nearby.specs.Listing.{Listed}
use Rattle.nearby.specs.Adding.{Gathered}
use Rattle.nearby.proofs.Remembered.{known-none}
use Rattle.nearby.proofs.Covers.{counted-forbid}
use Rattle.nearby.proofs.Gathers.{gathered-start, grows_start, grows-more, open_after}
use Rattle.nearby.proofs.gather.gather.Goals as goal

pub loop-r-init : goal.loop-r-init
loop-r-init c =
    let a = c.args in
    let e = c.forget.ensures in (
      gathered-start (known-none e.0 e.1),
      grows_start (λ m p. bit (word a.outline.now rules_at) m && rule_forbids a.block.now a.table.now a.i.number a.s m p),
    )

pub loop-r-preserved : goal.loop-r-preserved
loop-r-preserved c =
    let v = c.loop-r.invariant in
    let a = c.args in (
      open_after c.add_rule-count.ensures v.0,
      grows-more (λ m p. bit (word a.outline.now rules_at) m && rule_forbids a.block.now a.table.now a.i.number a.s m p)
          v.1 c.add_rule-count.ensures,
    )

-- a list of what the rules below r forbid, where none past them counts
listed : (block table outline : List ℤ) (i : Place) (s r : ℕ) {list known : List ℤ} {count : Option ℕ} → Rules block outline
    → ((q : ℕ) → q < rules block → bit (word outline rules_at) q ≡ true → q < r)
    → Gathered block table i.number s list known count (λ p. false
    || any_below r (λ m. bit (word outline rules_at) m && rule_forbids block table i.number s m p))
    → Listed block table (record { i = i; s = s; count = count }) list known
listed block table outline i s r {count = count} w past g = record {
  areas = g.areas;
  suspects = g.suspects;
  meets = IfSome_then count g.meets (λ n m p inside k h. m p inside (counted-forbid _ _ _ w _ _ _ past p h) k);
}

pub returns-after-loop-r : goal.returns-after-loop-r
returns-after-loop-r c =
    let a = c.args in
    let e = c.forget.ensures in (
      listed a.block.now a.table.now a.outline.now a.i a.s c.loop-r.r c.requires.outline.rules (λ q h t. omega arith)
          (c.loop-r.invariant.1.after (λ p. false) (gathered-start (known-none e.0 e.1))),
      refl,
      refl,
    )

pub returns-then-is_below : goal.returns-then-is_below
returns-then-is_below c =
    let a = c.args in
    let e = c.forget.ensures in
    let below = subst (λ (n : ℕ). n < 2 ^ c.loop-r.r) c.counting-counted.ensures (c.is_below.ensures.0 c.if-is_below.true) in (
      listed a.block.now a.table.now a.outline.now a.i a.s c.loop-r.r c.requires.outline.rules
          (λ q h t. ⊎_elim (λ l. l) (λ l. clash t (bit_past _ below l)) (below_or q c.loop-r.r))
          (c.loop-r.invariant.1.after (λ p. false) (gathered-start (known-none e.0 e.1))),
      refl,
      refl,
    )
