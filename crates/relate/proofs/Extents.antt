-- A row's extent, box by box: the lowest start and the highest end of the boxes before b are kept (`start-more`, `end_more`), from values
-- that no box comes up to, and are the row's at the end (`start-all`, `end-all`). Assumes nothing.
use mathlib.Core.Path.{◌≡◌, refl, sym, ap, ◌∙◌}
use mathlib.Core.Bool.{Bool, true, false, cond}
use mathlib.Core.List.{List}
use Prim.Native.Nat.{ℕ, ◌+◌, ◌<◌}
use lib.IntN.{ℤ, pos}
use lib.Signed.{le_z}
use Rattle.integers.specs.Integer.{minus, Within}
use Rattle.integers.specs.Below.{foremost, value_or}
use Rattle.integers.proofs.Foremost.{foremost-zero, foremost-more, foremost-any}
use Rattle.integers.proofs.Ints.{ints, lin, v, ◌⊕◌}
use Rattle.sheet.specs.Layout.{boxes, offset, size, low, of_row}
use Rattle.sheet.specs.Placement.{box_start, box_end}
use Rattle.sheet.specs.Relation.{lowest_start, highest_end}
use Rattle.sheet.proofs.Forbidden.{axis}
use Rattle.sheet.proofs.Relation.{upward, downward, some-box}
use Rattle.points.specs.Area.{min_z, max_z}
use Rattle.words.specs.declared.Place.{Place}
use Rattle.relate.specs.Rows.{RowIn}

-- no box of an accepted sheet starts or ends as far from 0
abbrev pub far : ℕ
far = 2000000

larger-first : (a b : ℤ) → max_z a b ≡ cond (le_z b a) a b
larger-first a b = by (le_z a b) refl (le_z b a) refl
  where
    by : (s : Bool) → le_z a b ≡ s → (t : Bool) → le_z b a ≡ t → cond s b a ≡ cond t a b
    by true e true g = omega ints
    by true e false g = refl
    by false e true g = refl
    by false e false g = omega ints

module _ (block t : List ℤ) (i : Place) (d : ℕ) where
  abbrev own : ℕ → Bool
  own b = of_row block t i.number b

  abbrev starts : ℕ → ℤ
  starts b = box_start block t i.number b d

  abbrev ends : ℕ → ℤ
  ends b = box_end block t i.number b d

  -- ---- of the row's boxes before n
  abbrev pub start_to : ℕ → ℤ
  start_to n = value_or (pos far) (foremost le_z n own starts)

  abbrev pub end_to : ℕ → ℤ
  end_to n = value_or (minus far) (foremost (λ x y. le_z y x) n own ends)

  -- none
  pub start_none : pos far ≡ start_to 0
  start_none = sym (foremost-zero le_z own starts (pos far))

  pub end_none : minus far ≡ end_to 0
  end_none = sym (foremost-zero (λ x y. le_z y x) own ends (minus far))

  module _ (w : RowIn block t i d) where
    -- one more
    module _ {b : ℕ} (l : b < boxes block) where
      at-near : Within 1000000 (low block t i.number d)
      at-near = w.table.lows i.number d w.row.from w.row.upto (axis block w.dim)

      start-before : le_z (pos far) (starts b) ≡ false
      unfolding box_start
      start-before =
          let x = at-near in
          let o = w.accepted.offsets b d l w.dim in
          omega (ints, lin (v (low block t i.number d) ⊕ v (offset block b d)))

      end_before : le_z (ends b) (minus far) ≡ false
      unfolding box_end
      end_before =
          let x = at-near in
          let o = w.accepted.offsets b d l w.dim in
          let z = w.accepted.sizes b d l w.dim in
          omega (ints, lin (v (low block t i.number d) ⊕ v (offset block b d) ⊕ v (size block b d)))

      pub start-more : {x y : ℤ} → x ≡ start_to b → y ≡ cond (own b) (min_z x (starts b)) x → y ≡ start_to (b + 1)
      start-more e g =
          g ∙ ap (λ (z : ℤ). cond (own b) (min_z z (starts b)) z) e ∙ sym (foremost-more le_z own starts b (pos far) (λ h. start-before))

      pub end_more : {x y : ℤ} → x ≡ end_to b → y ≡ cond (own b) (max_z x (ends b)) x → y ≡ end_to (b + 1)
      end_more e g =
          g ∙ ap (λ (z : ℤ). cond (own b) (max_z z (ends b)) z) e
          ∙ ap (λ (z : ℤ). cond (own b) z (end_to b)) (larger-first (end_to b) (ends b))
          ∙ sym (foremost-more (λ x y. le_z y x) own ends b (minus far) (λ h. end_before))

    -- all of them
    some : (b : ℕ) × (b < boxes block) × (own b ≡ true)
    some = some-box block t w.table (record { from = w.row.from; upto = w.row.upto })

    pub start-all : start_to (boxes block) ≡ lowest_start block t i.number d
    unfolding lowest_start
    start-all = foremost-any le_z own starts upward some.0 some.1 some.2 (pos far) (pos 0)

    pub end-all : end_to (boxes block) ≡ highest_end block t i.number d
    unfolding highest_end
    end-all = foremost-any (λ x y. le_z y x) own ends downward some.0 some.1 some.2 (minus far) (pos 0)
