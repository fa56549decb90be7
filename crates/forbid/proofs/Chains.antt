-- Walks along the boxes of a shape: what holds of each box passed holds of all at the end. Shapes forbid nothing where every box of the one is
-- clear of every box of the other. Assumes nothing.
use Rattle.std.specs.Prelude.{Option, Some, None}
use mathlib.Core.Path.{◌≡◌, sym, ◌∙◌, subst}
use mathlib.Core.Logic.{⊎_elim}
use mathlib.Core.Bool.{true, false}
use mathlib.Core.List.{List}
use Prim.Native.Nat.{ℕ, ◌+◌, ◌<◌}
use native.Mathlib.Omega.{arith}
use lib.IntN.{ℤ}
use Rattle.integers.proofs.Booleans.{clash, fails}
use Rattle.integers.proofs.Below.{same_or, below_or}
use Rattle.sheet.specs.Layout.{boxes, is_of}
use Rattle.sheet.specs.Allowed.{shapes_forbid}
use Rattle.sheet.specs.Accepted.{Boxed}
use Rattle.sheet.proofs.Forbidden.{shapes-parts}
use Rattle.words.specs.declared.Place.{Place}
use Rattle.outline.specs.Places.{hull_of}
use Rattle.outline.specs.Chain.{FirstFrom}
use Rattle.outline.proofs.Chains.{upto, Next, walk}
use Rattle.outline.specs.Outline.{Outline}
use Rattle.outline.proofs.Solids.{lies-in-refl}
use Rattle.forbid.proofs.Solids.{forbids_to, solids-wider, solids-boxes}

-- a walk along the boxes of shape s stands at a box, or past all boxes, and every box of s before is P
pub record Walk (block : List ℤ) (s : ℕ) (x : Option ℕ) (P : ℕ → Type 0) : Type 0 where
  pub next : Next block s x
  pub passed : (b : ℕ) → b < upto block x → is_of block b s ≡ true → P b

-- every box of shape s is P
pub record EachOf (block : List ℤ) (s : ℕ) (P : ℕ → Type 0) : Type 0 where
  pub each : (b : ℕ) → b < boxes block → is_of block b s ≡ true → P b

module _ {block : List ℤ} {s : ℕ} {P : ℕ → Type 0} where
  -- at the first box
  pub walk_first : (x : Option ℕ) → FirstFrom block s 0 x → Walk block s x P
  walk_first x f = let w = walk x (omega arith) f in record { next = w.next; passed = λ b h e. clash e (w.skips b (omega arith) h) }

  -- at box n, which is one of s
  module _ {n : ℕ} {y : Option ℕ} (at : y ≡ Some n) (w : Walk block s y P) where
    pub walk-box : (n < boxes block) × (is_of block n s ≡ true)
    walk-box = rw at at w.next

    -- at the next one
    pub walk-next : (x : Option ℕ) → P n → FirstFrom block s (n + 1) x → Walk block s x P
    walk-next x p f =
        let l = walk-box.0 in
        let m = walk x (omega (arith, l)) f in
        record {
          next = m.next;
          passed = λ b h e. ⊎_elim (λ k. w.passed b (subst (λ (o : Option ℕ). b < upto block o) (sym at) k) e)
              (λ k. ⊎_elim (λ q. subst P q p) (λ q. clash e (m.skips b (omega (arith, k, q)) h)) (same_or n b)) (below_or b n);
        }

  -- past all boxes
  pub walk-over : {y : Option ℕ} → y ≡ None → Walk block s y P → EachOf block s P
  walk-over at w = record { each = λ b h. w.passed b (subst (λ (o : Option ℕ). b < upto block o) (sym at) h) }

module _ (block t o : List ℤ) (r : Place) (s : ℕ) (j : Place) (p : List ℤ) where
  -- box c forbids p to no box of shape s
  abbrev pub ClearOf : ℕ → Type 0
  ClearOf c = EachOf block s (λ b. forbids_to block t o r j b c p ≡ false)

  module _ (x : Outline block o) where
    -- a box that is clear of the hull of s is clear of every box of s; h is the hull as the code holds it
    pub clear-hull : (c : ℕ) {h : ℕ} → h ≡ hull_of s → Boxed block s → forbids_to block t o r j h c p ≡ false → ClearOf c
    clear-hull c q own e = record {
      each = λ b h k. fails (λ f. clash (solids-wider block t o r j p ((x.hulls s own).holds b h k) (lies-in-refl block o c) f) (rw (sym q) e));
    }

    pub all-clear : {s' : ℕ} (i : ℕ) → EachOf block s' ClearOf → shapes_forbid block t r.number p i s j.number s' ≡ false
    all-clear {s'} i a = fails (λ e.
        let f = shapes-parts block t r.number i s j.number s' p e in
        clash (solids-boxes block t o r j x.boxes_of i f.own_below f.other_below p ∙ f.pair)
        ((a.each _ f.other_below f.other_is).each _ f.own_below f.own_is))
