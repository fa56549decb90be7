-- Lowering number m by half of what it is above the least that is open: what is leaned on (`on-rest`, `on-best`), the split (`middle`), and that
-- the excess falls (`halved_none`, `halved-by`). Assumes nothing.
use mathlib.Core.Path.{◌≡◌, refl, sym, ◌∙◌, subst}
use mathlib.Core.Logic.{inl, inr}
use mathlib.Core.Bool.{Bool, true, false}
use mathlib.Core.List.{List}
use mathlib.Core.Option.{some}
use Prim.Native.Nat.{ℕ, suc, ◌+◌, ◌-◌, ◌/◌, ◌%◌, ◌≤◌, ◌<◌}
use lib.IntN.{ℤ, pos, ◌+ℤ◌}
use lib.Signed.{◌≤ℤ◌, ◌<ℤ◌}
use Rattle.integers.specs.Integer.{up, dn}
use mir.Facts.{to_z-of_z}
use mir.Syntax.{w64}
use mir.Val.{to_z, of_z}
use Rattle.integers.proofs.Ints.{ints, sum}
use Rattle.integers.proofs.Machine.{within-fits}
use Rattle.integers.proofs.Ranges.{nat-diff}
use Rattle.sheet.specs.Settle.{settle_of}
use Rattle.sheet.specs.Cuts.{number}
use Rattle.sheet.specs.FirstLayout.{per_row, numbers, number_at}
use Rattle.sheet.proofs.Accepted.{accepted-head, accepted-table}
use Rattle.sheet.proofs.Numbers.{has-number, number-least, number-open, inside-open}
use Rattle.sheet.proofs.Places.{places-table, places-open, settle-none, settle-inside, settle-accepted}
use Rattle.sheet.proofs.Precedes.{position-number, numbers-same}
use Rattle.splits.specs.declared.Split.{Split}
use Rattle.splits.specs.Splits.{SplitAt, past_value}
use Rattle.splits.proofs.Parts.{part-refl, upto-number, past-least}
use Rattle.layout.specs.Search.{SettledTo}
use Rattle.layout.specs.Lowering.{OnTable, LeastOf, Probed, found, missing, Lowering, Lowered, excess, Halved}
use Rattle.layout.proofs.Searches.{small-part}
use Rattle.layout.proofs.Lowers.{lowered-found, lowered-past}

module _ {block t : List ℤ} {m : ℕ} {s : Split} (is : LeastOf block t m s) where
  -- the value of a split, as it is read
  pub least-back : to_z w64 (of_z w64 s.at) ≡ s.at
  least-back = to_z-of_z (within-fits is.near tt)

  pub least_read : to_z w64 (of_z w64 s.at) ≡ number_at block t m
  least_read = least-back ∙ is.least

module _ (block : List ℤ) where
  -- ---- what is leaned on
  module _ {m : ℕ} {rest best : List ℤ} (x : Lowering block m rest best) where
    pub on-rest : OnTable block rest × (m < numbers block rest)
    on-rest =
        let a = x.small.accepted in
        (record { head = accepted-head block rest a; table = accepted-table block rest a }, x.below)

    pub on-best : OnTable block best × (m < numbers block best)
    on-best =
        let o = on-rest.0 in (
          record { head = o.head; table = places-table block o.head.some_axes rest o.table best x.placed },
          rw (numbers-same block best rest x.placed.inside.as_long) x.below,
        )

    pub lowering-start : Lowered block m rest best rest best
    lowering-start =
        record {
          part = part-refl block rest x.small.accepted;
          placed = x.placed;
          agree = x.agree;
          keeps = λ p y r. y;
          sooner = inl refl;
        }

    -- ---- lowered by half
    abbrev i : ℕ
    i = suc (m / per_row block)

    abbrev c : ℕ
    c = m % per_row block

    -- a value from the least on and below the best's parts the values
    pub middle : (z : ℤ) → number_at block rest m ≤ℤ z → z <ℤ number_at block best m → SplitAt block rest i c z
    unfolding number_at
    middle z from less =
        let o = on-rest.0 in
        let h = position-number block rest m x.below in
        record {
          has = h;
          from = from;
          next = number block best i c;
          opens = places-open block o.head.some_axes rest o.table best x.placed i c h;
          past = less;
        }

    -- the excess in parts
    excess-is :
        (r b : List ℤ)
        → excess block m r b ≡ (up (number_at block b m) + dn (number_at block r m)) - (up (number_at block r m) + dn (number_at block b m))
    unfolding excess
    excess-is r b = nat-diff (number_at block b m) (number_at block r m)

    pub least-below : number_at block rest m ≤ℤ number_at block best m
    unfolding number_at
    least-below =
        let o = on-rest.0 in
        let there = position-number block rest m x.below in
        number-least block rest i c (places-open block o.head.some_axes rest o.table best x.placed i c there)

    pub excess-by : {r : ℕ} → number_at block rest m +ℤ pos r ≡ number_at block best m → r ≡ excess block m rest best
    excess-by {r} e = let q = excess-is rest best in omega (ints, sum (number_at block rest m) (pos r))

    pub excess-none : excess block m rest best ≤ 0 → number_at block best m ≤ℤ number_at block rest m
    excess-none l = let q = excess-is rest best in omega ints

    pub halved_none : number_at block best m ≤ℤ number_at block rest m → Halved block m rest best rest best
    halved_none l = record { lowered = lowering-start; less = inl (let q = excess-is rest best in omega ints) }

    pub halved-by : (z : ℤ) → number_at block rest m ≤ℤ z → z <ℤ number_at block best m → {rest' best' : List ℤ}
        → Probed block rest best (record { row = i; column = c; at = z }) rest' best' → Halved block m rest best rest' best'
    unfolding number_at
    halved-by z from less {rest'} {best'} (found y e) =
        let w = lowered-found block lowering-start x.below z from less best' y in
        let l = upto-number block rest x.small.accepted i c (position-number block rest m x.below) z from best' y in
        let q = excess-is rest best in
        let q' = excess-is rest best' in
        subst (λ (r : List ℤ). Halved block m rest best r best') (sym e) (record { lowered = w; less = inr (omega ints) })
    halved-by z from less {rest'} {best'} (missing none-upto e f) =
        let s = middle z from less in
        let w = lowered-past block lowering-start x.below z s less none-upto in
        let l = past-least block rest x.small.accepted i c z s in
        let q = excess-is rest best in
        let q' = excess-is (past_value block rest i c z) best in
        rw (e, f) (record { lowered = w; less = inr (omega ints) })

    -- what is lowered so far may be lowered on
    pub lowering-on : {rest' best' : List ℤ} → Lowered block m rest best rest' best' → Lowering block m rest' best'
    lowering-on {rest'} y =
        record {
          small = small-part block x.small y.part;
          below = rw (numbers-same block rest' rest y.part.inside.as_long) x.below;
          placed = y.placed;
          agree = y.agree;
        }

    -- settling the rest leaves a table, and no more of the excess
    pub settled-found : {r : Bool} {v : List ℤ} → SettledTo block rest r v → settle_of block rest ≡ some v
    settled-found {r = true} s = s.yes refl
    settled-found {r = false} s = absurd (settle-none block rest x.small.accepted (s.no refl) best x.placed)

    pub settled-excess : {v : List ℤ} → settle_of block rest ≡ some v → excess block m v best ≤ excess block m rest best
    unfolding number_at
    settled-excess {v} e =
        let a = x.small.accepted in
        let inside = settle-inside block rest a v e in
        let h = position-number block rest m x.below in
        let table = accepted-table block v (settle-accepted block rest a v e) in
        let o = number-open block v table i c (has-number block (sym inside.as_long) h) in
        let l = number-least block rest i c (inside-open block v rest inside i c (number block v i c) h o) in
        let q = excess-is rest best in
        let q' = excess-is v best in
        omega ints
