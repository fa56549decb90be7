-- A search that has come from one table to a part of it keeps every placement: at the start, when the part is settled, and when its values up to
-- a split are known to hold none. So what it finds of the part holds of the table. Assumes nothing.
use mathlib.Core.Path.{◌≡◌, sym, subst}
use mathlib.Core.Logic.{⊎_elim}
use mathlib.Core.Bool.{true}
use mathlib.Core.List.{List}
use mathlib.Core.Option.{none, some}
use Prim.Native.Nat.{ℕ, ◌+◌, ◌*◌, ◌≤◌}
use native.Mathlib.Nat.{mul-le-mul}
use native.Mathlib.Omega.{arith}
use lib.ListN.{length, take, replicate}
use lib.Seq.{length-take-le}
use lib.IntN.{ℤ, pos}
use lib.Signed.{le_z}
use Rattle.integers.proofs.Booleans.{decide}
use Rattle.integers.proofs.Ints.{ints}
use Rattle.sheet.specs.Layout.{layout_rows_most, layout_table_most, axes, row_len}
use Rattle.sheet.specs.Placement.{fixed}
use Rattle.sheet.specs.Settle.{settle_of}
use Rattle.sheet.specs.Refusal.{refusal}
use Rattle.sheet.specs.Cuts.{number}
use Rattle.sheet.specs.FirstLayout.{Places}
use Rattle.sheet.proofs.Accepted.{rows_same, accepted-head, accepted-rows, accepted-table}
use Rattle.sheet.proofs.Places.{settle-keeps, settle-none, settle-places}
use Rattle.splits.specs.Splits.{OnNumber, SplitAt, upto_value, past_value, Part}
use Rattle.splits.proofs.Parts.{part-refl, part-trans, upto-part, in-upto, in-past, past-part}
use Rattle.layout.specs.Search.{Small, NoPlacement}
use Rattle.layout.proofs.Settles.{settled-part}

-- v is a part of t that keeps every placement
pub record Keeps (block t v : List ℤ) : Type 0 where
  pub part : Part block t v
  pub keeps : (p : List ℤ) → Places block t p → Places block v p

module _ (block : List ℤ) where
  pub keeps-start : (t : List ℤ) → refusal block t ≡ 0 → Keeps block t t
  keeps-start t accepted = record { part = part-refl block t accepted; keeps = λ p x. x }

  -- a part has as few rows
  pub small-part : {t v : List ℤ} → Small block t → Part block t v → Small block v
  small-part {t} {v} s x =
      record { accepted = x.accepted; few = subst (λ (n : ℕ). n ≤ layout_rows_most) (sym (rows_same block v t x.inside.as_long)) s.few }

  pub small-short : {t : List ℤ} → Small block t → length t ≤ layout_table_most
  unfolding row_len
  small-short {t} s =
      let h = accepted-head block t s.accepted in
      let few_words : 1 + 2 * axes block ≤ 9 = let f = h.few_axes in omega arith in
      omega (arith, (accepted-rows block t s.accepted).long, mul-le-mul s.few few_words)

  -- the zeros of an array, as many as the table has words
  pub small-room : {t : List ℤ} → Small block t → length (take (length t) (replicate layout_table_most (pos 0))) ≡ length t
  small-room s = length-take-le _ (replicate layout_table_most (pos 0)) (small-short s)

  -- a number that can be split, and the part that has its values up to the split
  pub split-on : {t : List ℤ} {i c : ℕ} {z : ℤ} → refusal block t ≡ 0 → SplitAt block t i c z → OnNumber block t i c
  split-on {t} accepted x = record { head = accepted-head block t accepted; table = accepted-table block t accepted; has = x.has }

  pub split-part : {t p : List ℤ} {i c : ℕ} {z : ℤ} → refusal block t ≡ 0 → SplitAt block t i c z → p ≡ upto_value block t i c z → Part block t p
  split-part {t} {i = i} {c = c} {z = z} accepted x e = subst (Part block t) (sym e) (upto-part block t accepted i c x.has z x.from)

  module _ {t u : List ℤ} (k : Keeps block t u) where
    abbrev accepted : refusal block u ≡ 0
    accepted = k.part.accepted

    pub keeps-settled : {v : List ℤ} → settle_of block u ≡ some v → Keeps block t v
    keeps-settled {v} e =
        record {
          part = part-trans k.part (settled-part block u accepted v e);
          keeps = λ p x. settle-keeps block u accepted v e p (k.keeps p x);
        }

    pub none-settled : settle_of block u ≡ none → NoPlacement block t
    none-settled e p x = settle-none block u accepted e p (k.keeps p x)

    pub fixed-settled : {v : List ℤ} → settle_of block u ≡ some v → fixed block v ≡ true → Places block t v
    fixed-settled {v} e f = k.part.places v (settle-places block u accepted v e f)

    pub keeps-past : (i c : ℕ) (z : ℤ) → SplitAt block u i c z → NoPlacement block (upto_value block u i c z)
        → Keeps block t (past_value block u i c z)
    keeps-past i c z s none-upto =
        record {
          part = part-trans k.part (past-part block u accepted i c z s);
          keeps = λ p x.
              let y = k.keeps p x in
              ⊎_elim
              (λ e. absurd (none-upto p (in-upto block u accepted i c s.has z p y (omega ints))))
              (λ e. in-past block u accepted i c s.has z p y (omega ints))
              (decide (le_z (number block p i c) z));
        }
