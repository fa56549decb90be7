-- Lowering number m: the rest may be settled (`lowered-settled`), cut to the values past a split that hold no placement (`lowered-past`), and the
-- best replaced by a placement with a lesser number (`lowered-found`); where the best has the least value it keeps it (`lowered-next`), and when
-- every number is lowered the best is the first layout (`lowered-last`). Assumes nothing.
use mathlib.Core.Path.{◌≡◌, refl, sym, ◌∙◌, subst}
use mathlib.Core.Logic.{inl, inr, ⊎_elim}
use mathlib.Core.List.{List}
use mathlib.Core.Option.{some}
use Prim.Native.Nat.{ℕ, suc, ◌/◌, ◌%◌, ◌<◌}
use native.Mathlib.Nat.{not-suc-le-zero}
use lib.Arith.{lt_of_le-ne}
use lib.IntN.{ℤ}
use lib.Signed.{◌≤ℤ◌, ◌<ℤ◌, le_z, ≤ℤ_refl}
use Rattle.integers.proofs.Booleans.{decide}
use Rattle.integers.proofs.Below.{last_or, below_or, same_or}
use Rattle.integers.proofs.Ints.{ints}
use Rattle.sheet.specs.Settle.{settle_of}
use Rattle.sheet.specs.Refusal.{refusal}
use Rattle.sheet.specs.Cuts.{HasNumber, number}
use Rattle.sheet.specs.FirstLayout.{Places, per_row, numbers, number_at, Precedes, FirstLayout, first}
use Rattle.sheet.proofs.Accepted.{accepted-head, accepted-table}
use Rattle.sheet.proofs.Numbers.{number-least}
use Rattle.sheet.proofs.Places.{places-open, settle-keeps}
use Rattle.sheet.proofs.Precedes.{position-number, numbers-same, precedes-trans}
use Rattle.splits.specs.Splits.{SplitAt, upto_value, past_value}
use Rattle.splits.proofs.Parts.{part-refl, part-trans, upto-part, upto-number, in-upto, in-past, past-part}
use Rattle.layout.specs.Search.{NoPlacement}
use Rattle.layout.specs.Lowering.{Lowered}
use Rattle.layout.proofs.Settles.{settled-part}

module _ (block : List ℤ) where
  pub lowered-start : (t b : List ℤ) → refusal block t ≡ 0 → Places block t b → Lowered block 0 t b t b
  lowered-start t b accepted x =
      record {
        part = part-refl block t accepted;
        placed = x;
        agree = λ p y k h. absurd (not-suc-le-zero h);
        keeps = λ p y r. y;
        sooner = inl refl;
      }

  pub lowered-then : {m n : ℕ} {t b r₁ b₁ r₂ b₂ : List ℤ} → Lowered block m t b r₁ b₁ → Lowered block n r₁ b₁ r₂ b₂ → Lowered block n t b r₂ b₂
  lowered-then {b} {b₁} {b₂} x y =
      record {
        part = part-trans x.part y.part;
        placed = y.placed;
        agree = y.agree;
        keeps = λ p z r. y.keeps p (x.keeps p z (⊎_elim (λ e. subst (Precedes block p) e r) (λ s. precedes-trans block r s) y.sooner)) r;
        sooner =
            ⊎_elim
            (λ e. ⊎_elim (λ f. inl (e ∙ f)) (λ s. inr (subst (λ (q : List ℤ). Precedes block q b) (sym e) s)) x.sooner)
            (λ r. inr (⊎_elim (λ f. subst (Precedes block b₂) f r) (λ s. precedes-trans block r s) x.sooner))
            y.sooner;
      }

  -- ---- from a table and a placement to a rest and a best, which agree before number m
  module _ {m : ℕ} {t b rest best : List ℤ} (x : Lowered block m t b rest best) where
    abbrev accepted : refusal block rest ≡ 0
    accepted = x.part.accepted

    pub lowered-settled : {v : List ℤ} → settle_of block rest ≡ some v → Lowered block m t b v best
    lowered-settled {v} e =
        let s = settled-part block rest accepted v e in
        let k = settle-keeps block rest accepted v e in
        record {
          part = part-trans x.part s;
          placed = k best x.placed;
          agree = λ p y. x.agree p (s.places p y);
          keeps = λ p y r. k p (x.keeps p y r);
          sooner = x.sooner;
        }

    pub lowered-last : m ≡ numbers block t → FirstLayout block t (some best)
    lowered-last q =
        first (x.part.places best x.placed) (λ p y r.
        let below : r.at < m = rw (q, sym (numbers-same block p t y.inside.as_long)) r.below in
        let same = x.agree p (x.keeps p y r) r.at below in
        let less = r.less in
        omega ints)

    -- ---- number m, as a number of a row
    module _ (below : m < numbers block rest) where
      abbrev i : ℕ
      i = suc (m / per_row block)

      abbrev c : ℕ
      c = m % per_row block

      n : HasNumber block rest i c
      n = position-number block rest m below

      -- the least that is open is no greater than a placement's
      pub number-from : (p : List ℤ) → Places block rest p → number block rest i c ≤ℤ number block p i c
      number-from p y =
          number-least block rest i c
          (places-open block (accepted-head block rest accepted).some_axes rest (accepted-table block rest accepted) p y i c n)

      -- a placement with a lesser number precedes the best
      precedes-best : (p : List ℤ) → Places block rest p → number block p i c <ℤ number block best i c → Precedes block p best
      unfolding number_at
      precedes-best p y less =
          record {
            at = m;
            below = rw (numbers-same block p rest y.inside.as_long) below;
            same = λ k h. x.agree p y k h;
            less = less;
          }

      pub lowered-found : (z : ℤ) → number block rest i c ≤ℤ z → z <ℤ number block best i c → (p : List ℤ)
          → Places block (upto_value block rest i c z) p → Lowered block m t b rest p
      lowered-found z from less p y =
          let upto = upto-part block rest accepted i c n z from in
          let in_rest = upto.places p y in
          let l = upto-number block rest accepted i c n z from p y in
          let r = precedes-best p in_rest (omega ints) in
          record {
            part = x.part;
            placed = in_rest;
            agree = λ q w k h. x.agree q w k h ∙ sym (x.agree p in_rest k h);
            keeps = λ q w s. x.keeps q w (precedes-trans block s r);
            sooner = inr (⊎_elim (λ e. subst (Precedes block p) e r) (λ s. precedes-trans block r s) x.sooner);
          }

      pub lowered-past : (z : ℤ) → SplitAt block rest i c z → z <ℤ number block best i c → NoPlacement block (upto_value block rest i c z)
          → Lowered block m t b (past_value block rest i c z) best
      lowered-past z s less none-upto =
          let past = past-part block rest accepted i c z s in
          record {
            part = part-trans x.part past;
            placed = in-past block rest accepted i c n z best x.placed less;
            agree = λ p y. x.agree p (past.places p y);
            keeps = λ p y r.
                let w = x.keeps p y r in
                ⊎_elim
                (λ e. absurd (none-upto p (in-upto block rest accepted i c n z p w (omega ints))))
                (λ e. in-past block rest accepted i c n z p w (omega ints))
                (decide (le_z (number block p i c) z));
            sooner = x.sooner;
          }

      pub lowered-next : number block best i c ≤ℤ number block rest i c
          → Lowered block (suc m) t b (upto_value block rest i c (number block best i c)) best
      unfolding number_at
      lowered-next least =
          let z = number block best i c in
          let from = number-from best x.placed in
          let upto = upto-part block rest accepted i c n z from in
          let same : (p : List ℤ) → Places block (upto_value block rest i c z) p → number_at block p m ≡ number_at block best m = λ p y.
          let a = number-from p (upto.places p y) in
          let l = upto-number block rest accepted i c n z from p y in
          omega ints in
          record {
            part = part-trans x.part upto;
            placed = in-upto block rest accepted i c n z best x.placed (≤ℤ_refl z);
            agree = λ p y k h.
                ⊎_elim
                (λ e. subst (λ (j : ℕ). number_at block p j ≡ number_at block best j) (sym e) (same p y))
                (λ l. x.agree p (upto.places p y) k l)
                (last_or h);
            keeps = λ p y r. let w = x.keeps p y r in in-upto block rest accepted i c n z p w (no-greater p w r);
            sooner = x.sooner;
          }
        where
          -- a placement that precedes the best has no greater number
          no-greater : (p : List ℤ) → Places block rest p → Precedes block p best → number block p i c ≤ℤ number block best i c
          no-greater p w r =
              ⊎_elim
              (λ l. let e = x.agree p w r.at l in let s = r.less in absurd (omega ints))
              (λ l.
              ⊎_elim
              (λ e.
              let s : number block p i c <ℤ number block best i c =
              subst (λ (j : ℕ). number_at block p j <ℤ number_at block best j) (sym e) r.less in
              omega ints)
              (λ ne. let e = r.same m (lt_of_le-ne l ne) in omega ints)
              (same_or m r.at))
              (below_or r.at m)

  -- the first layout is a placement
  pub first-places : {t b : List ℤ} → FirstLayout block t (some b) → Places block t b
  first-places (first x f) = x
