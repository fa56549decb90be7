-- An answer put into the room for it is whole (`answered`). Assumes nothing.
use mathlib.Core.Path.{◌≡◌, sym}
use mathlib.Core.Bool.{Bool}
use mathlib.Core.List.{List, ◌++◌}
use Prim.Native.Nat.{ℕ, ◌≤◌}
use native.Mathlib.Omega.{arith}
use lib.IntN.{ℤ}
use lib.ListN.{length, take, drop, length-take, length-append}
use lib.Seq.{take_at, length-take-le}
use Rattle.std.specs.Prelude.{Result}
use Rattle.room.specs.Counts.{IsPrefixLen}
use Rattle.stores.specs.Put.{Put}
use Rattle.stores.proofs.Puts.{put_as, put-length}
use Rattle.sheet.specs.Layout.{table_most}
use Rattle.sheet.specs.Text.{printed}
use Rattle.sheet.specs.declared.Refusal.{Refusal}
use Rattle.room.specs.Answers.{answer_most, printed_of}
use Rattle.room.proofs.Printed.{printed-few}

-- bytes put into a run that has room for them
pub put-counts : {l m v : List ℕ} {r : ℕ} → Put l 0 v r m → length v ≤ length l → IsPrefixLen r m
put-counts {l} {m} {v} {r} a h =
    let long = put-length a in
    let fits : r ≤ length m = omega (arith, a.past) in
    (fits, sym (length-take-le r m fits))

pub answered : (text : List ℕ) {l m : List ℕ} {r : ℕ} (f : Result Bool Refusal) (block table : List ℤ) → Put l 0 (printed_of f block (take table_most table)) r m
    → length l ≡ answer_most → printed_of f block (take table_most table) ≡ printed text → Put l 0 (printed text) r m × IsPrefixLen r m
answered text f block table a h e =
    let short : length (take table_most table) ≤ table_most = rw length-take (omega arith) in
    let few = printed-few f block (take table_most table) short in
    (put_as e a, put-counts a (omega arith))
