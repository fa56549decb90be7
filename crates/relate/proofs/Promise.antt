-- What the promise of `relate::relation` says, on any words: it finds a relation exactly when no check applies and that relation of document
-- 004 holds of the two rows (`promise-relation`), hence no other; and with the rows exchanged it finds the converse, or the same refusal
-- (`promise-exchanged`). Assumes nothing.
use mathlib.Core.Path.{◌≡◌, refl, sym, ap, ◌∙◌}
use mathlib.Core.Logic.{◌↔◌}
use mathlib.Core.Bool.{Bool, true, false}
use mathlib.Core.List.{List}
use Prim.Native.Nat.{ℕ, zero, suc}
use lib.IntN.{ℤ}
use Rattle.std.specs.Prelude.{Result, Ok, Err}
use Rattle.integers.specs.Integer.{nat}
use Rattle.sheet.specs.Refusal.{◌when◌, ◌else◌, no_such_row, refusal, refusal_row, refusal_relation}
use Rattle.sheet.specs.Relation.{bears, lowest_start, highest_end, relation_of}
use Rattle.sheet.specs.Answer.{answer}
use Rattle.sheet.specs.declared.Allen.{Allen}
use Rattle.sheet.specs.declared.Refusal.{Refusal}
use Rattle.sheet.proofs.Accepted.{accepted-block, accepted-table}
use Rattle.sheet.proofs.Answer.{answered, passed}
use Rattle.sheet.proofs.Relation.{one-relation, rows-exchanged}
use Rattle.accept.proofs.Numbers.{row_upto}
use Rattle.accept.proofs.Pairs.{pair-asked}
use Rattle.relate.specs.Exchange.{conversed}

-- what was found
abbrev borne : Allen → Result Allen Refusal → Allen
borne d (Ok x) = x
borne d (Err g) = d

module _ (block t : List ℤ) (dim : ℤ) where
  -- the ensures of `relation`
  abbrev pub Promised : (row other : ℤ) → Result Allen Refusal → Type 0
  Promised row other finding =
      finding ≡ answer (refusal_relation block t row other dim) (relation_of block t (nat row) (nat other) (nat dim))

  -- document 004's rule of x, of the two rows
  abbrev pub holds_of : (row other : ℤ) → Allen → Bool
  holds_of row other x =
      bears x (lowest_start block t (nat row) (nat dim)) (highest_end block t (nat row) (nat dim))
      (lowest_start block t (nat other) (nat dim)) (highest_end block t (nat other) (nat dim))

  pub promise-relation : (row other : ℤ) (finding : Result Allen Refusal) → Promised row other finding → (x : Allen)
      → (finding ≡ Ok x) ↔ ((refusal_relation block t row other dim ≡ 0) × (holds_of row other x ≡ true))
  promise-relation row other finding p x = (
    λ q. let e = passed _ _ p q in (e, (one e).1 (ap (borne x) (sym q ∙ p ∙ answered rel e))),
    λ w. p ∙ answered rel w.0 ∙ ap Ok (sym ((one w.0).0 w.1)),
  )
    where
      rel : Allen
      rel = relation_of block t (nat row) (nat other) (nat dim)

      one : refusal_relation block t row other dim ≡ 0 → (holds_of row other x ≡ true) ↔ (x ≡ rel)
      one e =
          let a = pair-asked block t row other dim e in
          one-relation block t (accepted-block block t a.accepted) (accepted-table block t a.accepted) (row_upto a.row_in)
          (row_upto a.other_in) a.dim_below x

  -- ---- the rows exchanged
  either : (g : ℕ) (a b : Bool) (h : ℕ) → ((g else 9 when a) else 9 when b else h) ≡ ((g else 9 when b) else 9 when a else h)
  unfolding ◌else◌ ◌when◌
  either (suc g) a b h = refl
  either zero true true h = refl
  either zero true false h = refl
  either zero false true h = refl
  either zero false false h = refl

  refusal-exchanged : (row other : ℤ) → refusal_relation block t other row dim ≡ refusal_relation block t row other dim
  unfolding refusal_relation refusal_row
  refusal-exchanged row other = either (refusal block t) (no_such_row block t other) (no_such_row block t row) _

  pub promise-exchanged : (row other : ℤ) (finding turned : Result Allen Refusal) → Promised row other finding → Promised other row turned
      → turned ≡ conversed finding
  unfolding answer conversed
  promise-exchanged row other finding turned p q = by (refusal_relation block t row other dim) refl
    where
      by : (g : ℕ) → refusal_relation block t row other dim ≡ g → turned ≡ conversed finding
      by zero e =
          let a = pair-asked block t row other dim e in
          let r = rows-exchanged block t (accepted-block block t a.accepted) (accepted-table block t a.accepted) (row_upto a.row_in)
          (row_upto a.other_in) a.dim_below in
          q ∙ answered _ (refusal-exchanged row other ∙ e) ∙ ap Ok r ∙ sym (ap conversed (p ∙ answered _ e))
      by (suc g) e =
          q ∙ ap (λ (n : ℕ). answer n (relation_of block t (nat other) (nat row) (nat dim))) (refusal-exchanged row other ∙ e)
          ∙ sym (ap conversed (p ∙ ap (λ (n : ℕ). answer n (relation_of block t (nat row) (nat other) (nat dim))) e))
