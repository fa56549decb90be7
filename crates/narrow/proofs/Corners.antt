-- A shape that is allowed at both corners of its cut box: these have every end (`corners-reach`). Assumes nothing.
use mathlib.Core.Path.{◌≡◌, refl, sym, subst}
use mathlib.Core.Bool.{Bool, true, false}
use mathlib.Core.List.{List}
use Prim.Native.Nat.{ℕ, suc, ◌≤◌, ◌<◌}
use native.Mathlib.Omega.{arith}
use lib.IntN.{ℤ}
use Rattle.integers.specs.Words.{word}
use lib.Signed.{◌≤ℤ◌}
use Rattle.integers.proofs.Ints.{≤ℤ-trans, test-of-le}
use Rattle.sheet.specs.Layout.{axes, rows, has_shape}
use Rattle.sheet.specs.Allowed.{allowed}
use Rattle.sheet.specs.Narrow.{Stands}
use Rattle.sheet.specs.Accepted.{Table}
use Rattle.points.specs.declared.Area.{Area}
use Rattle.points.specs.Area.{coordinates}
use Rattle.points.specs.Ends.{end_at, Taken}
use Rattle.region.specs.Rooms.{CutBox}
use Rattle.narrow.specs.Ends.{none-past, Edges, Ends}
use Rattle.narrow.proofs.Edges.{farther-ahead, edge_more}
use Rattle.narrow.proofs.Taking.{taken-kept, taken-edges}
use Rattle.narrow.proofs.Widens.{behind-all}

module _ (block : List ℤ) (t : List ℤ) (table : Table block t) (i : ℕ) (from : 1 ≤ i) (upto : i ≤ rows block t) (few : axes block ≤ coordinates)
    (n : ℕ) (held : has_shape block t i (suc n) ≡ true) (cut : Area) (box : CutBox block t i (suc n) cut)
    (low : allowed block t i (suc n) cut.low ≡ true) (high : allowed block t i (suc n) cut.high ≡ true)
    {old mid new : List ℤ} (first : Taken coordinates old cut.low mid) (second : Taken coordinates mid cut.high new) where
  stands : {p : List ℤ} → allowed block t i (suc n) p ≡ true → Stands block t i p
  stands a = record { shape = suc n; held = held; stands = a }

  -- an end is at its corner, or farther out
  at-corner : (flip : Bool) (d : ℕ) → d < coordinates → none-past flip cut d (end_at flip d new) ≡ true
  at-corner true d h =
      subst (λ (z : ℤ). none-past true cut d z ≡ true) (sym (second.moved true d h))
      (test-of-le (farther-ahead true (end_at true d mid) (word cut.high d)).1)
  at-corner false d h =
      let outer = (farther-ahead false (end_at false d mid) (word cut.high d)).0 in
      let inner = (farther-ahead false (end_at false d old) (word cut.low d)).1 in
      subst (λ (z : ℤ). none-past false cut d z ≡ true) (sym (second.moved false d h))
      (test-of-le (≤ℤ-trans outer (subst (λ (z : ℤ). z ≤ℤ word cut.low d) (sym (first.moved false d h)) inner)))

  pub corners-reach : Ends block t i n old → Edges block t i (suc n) new
  corners-reach ends flip d h =
      edge_more block t i flip n d (end_at flip d new) refl
      (taken-kept block t table i from upto few second (stands high) n flip d h
      (taken-edges block t table i from upto few first (stands low) n ends flip d h))
      (behind-all block t i (suc n) cut box flip (end_at flip d new) d h (at-corner flip d (omega (arith, few))))
