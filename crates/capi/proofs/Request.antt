-- THE FIRST WHOLE LAYOUT of the C interface: on every sheet that is not refused, what `capi::zk_first_layout` promises is the request, of an answer
-- whose finding it hands back (`finding-request`). Assumes nothing.
use mathlib.Core.Path.{◌≡◌, refl}
use mathlib.Core.Bool.{Bool}
use mathlib.Core.List.{List}
use lib.IntN.{ℤ}
use Rattle.std.specs.Prelude.{Result}
use Rattle.sheet.specs.Refusal.{refusal_layout}
use Rattle.sheet.specs.FirstLayout.{first_layout_of}
use Rattle.sheet.specs.Answer.{answer, is_found, table_after}
use Rattle.sheet.specs.declared.Refusal.{Refusal}
use Rattle.layout.specs.First.{Request}
use Rattle.layout.proofs.Promise.{promise-request}
use Rattle.capi.specs.Findings.{finding}

module _ (block : List ℤ) (given : List ℤ) (found : ℤ) (left : List ℤ) where
  -- the ensures of `zk_first_layout`
  abbrev pub Promised : Type 0
  Promised =
      (found ≡ finding (answer (refusal_layout block given) (is_found (first_layout_of block given))))
      × (left ≡ table_after (refusal_layout block given) given (first_layout_of block given))

  pub finding-request : refusal_layout block given ≡ 0 → Promised → (r : Result Bool Refusal) × (found ≡ finding r) × Request block given r left
  finding-request passed h =
      let r = answer (refusal_layout block given) (is_found (first_layout_of block given)) in
      (r, h.0, promise-request block given passed r left (refl, h.1))
