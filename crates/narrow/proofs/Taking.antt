-- A point taken into a run of ends, and what becomes of the ends (`taken-kept`, `taken-edges`); one side's ends in one dimension more
-- (`side_more`). Assumes nothing.
use mathlib.Core.Path.{◌≡◌, sym, subst}
use mathlib.Core.Bool.{Bool, true}
use mathlib.Core.List.{List}
use Prim.Native.Nat.{ℕ, ◌+◌, ◌≤◌, ◌<◌}
use native.Mathlib.Omega.{arith}
use borrow.Author.Count.{below_more}
use lib.IntN.{ℤ}
use Rattle.integers.specs.Integer.{Within}
use Rattle.integers.specs.Words.{word}
use Rattle.integers.proofs.Machine.{within-between}
use Rattle.sheet.specs.Layout.{axes, rows}
use Rattle.sheet.specs.Allowed.{allowed}
use Rattle.sheet.specs.Narrow.{Stands}
use Rattle.sheet.specs.Accepted.{Table}
use Rattle.sheet.proofs.Forbidden.{allowed-parts, in-range}
use Rattle.points.specs.Area.{coordinates}
use Rattle.points.specs.Ends.{end_at, Taken}
use Rattle.narrow.specs.Ends.{Edge, SideTo, Edges, Ends, Kept}
use Rattle.narrow.proofs.Edges.{edge_kept, end-taken}

-- ---- the ends then
module _ (block : List ℤ) (t : List ℤ) (table : Table block t) (i : ℕ) (from : 1 ≤ i) (upto : i ≤ rows block t) where
  -- an allowed point lies in the row's ranges
  pub near-point : (s d : ℕ) → d < axes block → (p : List ℤ) → allowed block t i s p ≡ true → Within 1000000 (word p d)
  near-point s d h p a =
      let w = in-range block t i d p (allowed-parts block t i s p a).0 h in
      within-between (table.lows i d from upto h) (table.highs i d from upto h) w.0 w.1

  pub edge-near : {flip : Bool} {n : ℕ} (d : ℕ) → d < axes block → {z : ℤ} → Edge block t i flip n d z → Within 1000000 z
  edge-near d h x = let r = x.reached in subst (Within 1000000) r.there (near-point r.by.shape d h r.point r.by.stands)

  module _ (few : axes block ≤ coordinates) {old p new : List ℤ} (x : Taken coordinates old p new) (st : Stands block t i p) where
    pub taken-kept : Kept block t i old new
    taken-kept n flip d h e =
        subst (λ (z : ℤ). Edge block t i flip n d z) (sym (x.moved flip d (omega arith))) (edge_kept block t i flip n d (end_at flip d old) p st e)

    pub taken-edges : (n : ℕ) → Ends block t i n old → Edges block t i n new
    taken-edges n ends flip d h =
        subst (λ (z : ℤ). Edge block t i flip n d z) (sym (x.moved flip d (omega arith)))
        (end-taken block t i flip n d (end_at flip d old) p st (near-point st.shape d h p st.stands) (ends flip d h))

-- ---- one end more has taken in a shape
pub side_more : (block : List ℤ) (t : List ℤ) (i n e : ℕ) {old new : List ℤ} (flip : Bool) → e < axes block → SideTo block t i flip n e old
    → Kept block t i old new → Edge block t i flip n e (end_at flip e new) → SideTo block t i flip n (e + 1) new
side_more block t i n e {new = new} flip h side kept edge =
    below_more (λ (m : ℕ). Edge block t i flip n m (end_at flip m new)) e (λ m l. kept n flip m (omega arith) (side m l)) edge
