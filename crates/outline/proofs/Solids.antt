-- Laws of solids: a box is near, each solid lies in itself, a shape with a box has its hull among the solids; and boxes, hulls and what lies in
-- what hang on their own words alone. Assumes nothing.
use mathlib.Core.Path.{◌≡◌, ◌∙◌}
use mathlib.Core.List.{List}
use Prim.Native.Nat.{ℕ, suc, ◌≤◌, ◌<◌}
use native.Mathlib.Omega.{arith}
use lib.IntN.{ℤ, ◌+ℤ◌}
use lib.Signed.{≤ℤ_refl}
use Rattle.integers.specs.Integer.{Within}
use Rattle.integers.proofs.Ints.{ints, lin, v, ◌⊕◌}
use Rattle.integers.proofs.Machine.{within_by}
use Rattle.sheet.specs.Layout.{dims, boxes, offset, size}
use Rattle.sheet.specs.Accepted.{Boxed, Head, Block}
use Rattle.outline.specs.Places.{shapes_most, solids, hull_of, solid_at, start_of, end_of, SameTo}
use Rattle.outline.specs.Solids.{far, StartsAt, EndsAt, IsBox, Boxes, LiesIn, Modest, Hull}
use Rattle.outline.proofs.Chains.{shape_is}

-- ---- the shapes that have a box
module _ {block : List ℤ} {s : ℕ} (accepted : Block block) (boxed : Boxed block s) where
  pub shape-few : s < shapes_most
  shape-few = omega (arith, shape_is block boxed.box s boxed.is, accepted.shapes_upto boxed.box boxed.below)

  pub hull-near : hull_of s < solids
  hull-near = omega (arith, shape-few)

-- ---- where a box starts and ends
module _ {block : List ℤ} {s d m n : ℕ} {y z : ℤ} (l : m ≤ n) (e : y ≡ z) where
  pub starts-later : StartsAt block s d m z → StartsAt block s d n y
  starts-later w = record { box = w.box; below = omega (arith, w.below); is = w.is; at = e ∙ w.at }

  pub ends-later : EndsAt block s d m z → EndsAt block s d n y
  ends-later w = record { box = w.box; below = omega (arith, w.below); is = w.is; at = e ∙ w.at }

module _ {block : List ℤ} (accepted : Block block) {b d : ℕ} (below : b < boxes block) (k : d < dims block) where
  pub start-within : Within far (offset block b d)
  start-within = let o = accepted.offsets b d below k in omega ints

  pub end-within : Within far (offset block b d +ℤ size block b d)
  end-within =
      let o = accepted.offsets b d below k in
      let z = accepted.sizes b d below k in
      omega (ints, lin (v (offset block b d) ⊕ v (size block b d)))

pub box-modest : {block o : List ℤ} → Block block → Boxes block o → (b : ℕ) → b < boxes block → Modest block o b
box-modest accepted all b l = record {
  starts = λ d k. within_by ((all b l).starts d k) (start-within accepted l k);
  ends = λ d k. within_by ((all b l).ends d k) (end-within accepted l k);
}

pub lies-in-refl : (block o : List ℤ) (x : ℕ) → LiesIn block o x x
lies-in-refl block o x = record { starts = λ d k. ≤ℤ_refl (start_of o x d); ends = λ d k. ≤ℤ_refl (end_of o x d) }

-- ---- a run that has the same words before `at`, where the solids end
module _ {at : ℕ} {block o o' : List ℤ} (head : Head block) (same : SameTo at o o') where
  start-kept : (x d : ℕ) → solid_at (suc x) ≤ at → d < dims block → start_of o' x d ≡ start_of o x d
  start-kept x d l k = same.words _ (omega (arith, head.few_dims))

  end_kept : (x d : ℕ) → solid_at (suc x) ≤ at → d < dims block → end_of o' x d ≡ end_of o x d
  end_kept x d l k = same.words _ (omega (arith, head.few_dims))

  pub box-kept : (b : ℕ) → solid_at (suc b) ≤ at → IsBox block o b → IsBox block o' b
  box-kept b l x = record { starts = λ d k. start-kept b d l k ∙ x.starts d k; ends = λ d k. end_kept b d l k ∙ x.ends d k }

  pub boxes-kept : solid_at (hull_of 0) ≤ at → Boxes block o → Boxes block o'
  boxes-kept l x b k = box-kept b (omega (arith, head.few_boxes)) (x b k)

  lies-in-kept : (x y : ℕ) → solid_at (suc x) ≤ at → solid_at (suc y) ≤ at → LiesIn block o x y → LiesIn block o' x y
  lies-in-kept x y l m i = record {
    starts = λ d k. rw (start-kept x d l k, start-kept y d m k) (i.starts d k);
    ends = λ d k. rw (end_kept x d l k, end_kept y d m k) (i.ends d k);
  }

  pub hull-kept : (s : ℕ) → solid_at (suc (hull_of s)) ≤ at → Hull block o s → Hull block o' s
  hull-kept s l h = record {
    modest = record {
      starts = λ d k. within_by (start-kept (hull_of s) d l k) (h.modest.starts d k);
      ends = λ d k. within_by (end_kept (hull_of s) d l k) (h.modest.ends d k);
    };
    holds = λ b k e. lies-in-kept b (hull_of s) (omega (arith, head.few_boxes)) l (h.holds b k e);
    starts_at = λ d k. starts-later (omega arith) (start-kept (hull_of s) d l k) (h.starts_at d k);
    ends_at = λ d k. ends-later (omega arith) (end_kept (hull_of s) d l k) (h.ends_at d k);
    sole = λ b x. lies-in-kept (hull_of s) b l (omega (arith, head.few_boxes, x.below)) (h.sole b x);
  }
