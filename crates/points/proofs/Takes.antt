-- A point taken into the ends of an area, one dimension after the other: `taken_none`, `taken_more`. Assumes nothing.
use mathlib.Core.Path.{◌≡◌, refl, sym, ap, ◌∙◌, subst}
use mathlib.Core.Logic.{⊎_elim}
use mathlib.Core.Bool.{Bool, true, false, cond}
use mathlib.Core.List.{List}
use Prim.Native.Nat.{ℕ, ◌+◌, ◌<◌}
use native.Mathlib.Omega.{arith}
use lib.IntN.{ℤ, pos}
use lib.ListN.{length, set, length-set}
use lib.Seq.{get_or-set_same, get_or-set_other}
use Rattle.integers.specs.Words.{word}
use Rattle.integers.proofs.Below.{same_or}
use Rattle.points.specs.Area.{coordinates, area_words, max_z, min_z}
use Rattle.points.specs.Ends.{end_at, farther, Taken}

pub taken_none : (ends p : List ℤ) → Taken 0 ends p ends
taken_none ends p = record { moved = λ flip d l. absurd (omega arith); kept = λ flip d l h. refl }

-- the two ends in dimension m are written
module _ (ends : List ℤ) (m : ℕ) (lo hi : ℤ) (long : length ends ≡ area_words) (few : m < coordinates) where
  abbrev next : List ℤ
  next = set (set ends m lo) (coordinates + m) hi

  pub length-next : length next ≡ area_words
  length-next = length-set (set ends m lo) (coordinates + m) hi ∙ length-set ends m lo ∙ long

  written : (flip : Bool) → end_at flip m next ≡ cond flip hi lo
  written true = get_or-set_same (set ends m lo) (coordinates + m) hi (pos 0) (omega (arith, length-set ends m lo))
  written false =
      get_or-set_other (set ends m lo) (coordinates + m) m hi (pos 0) (λ q. absurd (omega arith)) ∙ get_or-set_same ends m lo (pos 0) (omega arith)

  others : (flip : Bool) (d : ℕ) → (d ≡ m → ⊥) → d < coordinates → end_at flip d next ≡ end_at flip d ends
  others true d n l =
      get_or-set_other (set ends m lo) (coordinates + m) (coordinates + d) hi (pos 0) (λ q. n (omega arith))
      ∙ get_or-set_other ends m (coordinates + d) lo (pos 0) (λ q. absurd (omega arith))
  others false d n l =
      get_or-set_other (set ends m lo) (coordinates + m) d hi (pos 0) (λ q. absurd (omega arith)) ∙ get_or-set_other ends m d lo (pos 0) n

  pub taken_more : {old p : List ℤ} → Taken m old p ends → lo ≡ min_z (word ends m) (word p m)
      → hi ≡ max_z (word (set ends m lo) (coordinates + m)) (word p m) → Taken (m + 1) old p next
  taken_more {old} {p} x el eh = record {
    moved = λ flip d l. ⊎_elim
        (λ q. subst (λ (e : ℕ). end_at flip e next ≡ farther flip (end_at flip e old) (word p e)) (sym q) (written flip ∙ here flip))
        (λ n. others flip d n (omega arith) ∙ x.moved flip d (omega (arith, n)))
        (same_or d m);
    kept = λ flip d l h. others flip d (λ q. absurd (omega arith)) h ∙ x.kept flip d (omega arith) h;
  }
    where
      same : word (set ends m lo) (coordinates + m) ≡ word ends (coordinates + m)
      same = get_or-set_other ends m (coordinates + m) lo (pos 0) (λ q. absurd (omega arith))

      here : (flip : Bool) → cond flip hi lo ≡ farther flip (end_at flip m old) (word p m)
      here true = eh ∙ ap (λ (z : ℤ). max_z z (word p m)) (same ∙ x.kept true m (omega arith) few)
      here false = el ∙ ap (λ (z : ℤ). min_z z (word p m)) (x.kept false m (omega arith) few)
