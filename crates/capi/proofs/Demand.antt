-- MISSION DEMAND 3 of the C interface: what `capi::zk_settle` promises is what `settle::settle` promises, of an answer whose finding it
-- hands back (`finding-promise`), hence on every accepted sheet demand 3 (`finding-demand-3`). Assumes nothing.
use mathlib.Core.Path.{◌≡◌, refl}
use mathlib.Core.Bool.{Bool}
use mathlib.Core.List.{List}
use lib.IntN.{ℤ}
use Rattle.std.specs.Prelude.{Result}
use Rattle.sheet.specs.Refusal.{refusal}
use Rattle.sheet.specs.Settle.{settle_of}
use Rattle.sheet.specs.Answer.{answer, is_found, table_after}
use Rattle.sheet.specs.declared.Refusal.{Refusal}
use Rattle.settle.specs.Demand.{Promise, Demand3}
use Rattle.settle.proofs.Demand.{promise-demand-3}
use Rattle.capi.specs.Findings.{finding}

module _ (block : List ℤ) (given : List ℤ) (found : ℤ) (left : List ℤ) where
  -- the ensures of `zk_settle`
  abbrev pub Promised : Type 0
  Promised =
      (found ≡ finding (answer (refusal block given) (is_found (settle_of block given))))
      × (left ≡ table_after (refusal block given) given (settle_of block given))

  pub finding-promise : Promised → (r : Result Bool Refusal) × (found ≡ finding r) × Promise block given r left
  finding-promise h = (answer (refusal block given) (is_found (settle_of block given)), h.0, (refl, h.1))

  pub finding-demand-3 : refusal block given ≡ 0 → Promised → (r : Result Bool Refusal) × (found ≡ finding r) × Demand3 block given r left
  finding-demand-3 accepted h =
      let r = answer (refusal block given) (is_found (settle_of block given)) in
      (r, h.0, promise-demand-3 block given accepted r left (refl, h.1))
