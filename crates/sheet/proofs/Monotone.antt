-- MONOTONE: what is allowed in a table is allowed in every table that it lies inside (`still-allowed`): smaller ranges and sets forbid more.
-- Assumes nothing.
use mathlib.Core.Path.{◌≡◌, sym, subst}
use mathlib.Core.Bool.{true}
use mathlib.Core.List.{List}
use Prim.Native.Nat.{ℕ, ◌≤◌, ◌<◌}
use lib.IntN.{ℤ, pos}
use lib.Signed.{◌≤ℤ◌}
use Rattle.integers.proofs.Booleans.{clash}
use Rattle.integers.proofs.Ints.{ints, v, ◌⊕◌, ◌⊖◌, lin, ≤ℤ-trans}
use Rattle.sheet.specs.Layout.{dims, offset, size, clearance, rows, low, high}
use Rattle.sheet.specs.Allowed.{in_ranges, forbid_from, forbid_to, pair_forbids, set_forbids, forbidden, allowed}
use Rattle.sheet.specs.Settle.{Inside}
use Rattle.sheet.proofs.Accepted.{rows_same}
use Rattle.sheet.proofs.Forbidden.{axis, allowed-parts, allowed-by, in-range, ranges-by, pair-at, pair-by, set-carries}
use Rattle.sheet.proofs.Forbidden.{forbidden-parts, forbidden-by}

module _ (block : List ℤ) (u t : List ℤ) (inside : Inside block u t) where
  ranges : (i : ℕ) (p : List ℤ) → 1 ≤ i → i ≤ rows block t → in_ranges block u i p ≡ true → in_ranges block t i p ≡ true
  ranges i p h k e =
      ranges-by block t i p (λ d l.
      let r = in-range block u i d p e l in
      (≤ℤ-trans (inside.lows i d h k l) r.0, ≤ℤ-trans r.1 (inside.highs i d h k l)))

  -- a smaller range forbids more
  from_less : (r i b j c d : ℕ) → 1 ≤ j → j ≤ rows block t → d < dims block → forbid_from block u r i b j c d ≤ℤ forbid_from block t r i b j c d
  unfolding forbid_from
  from_less r i b j c d h k l =
      let o = offset block c d in
      let q = inside.highs j d h k (axis block l) in
      omega (
        ints,
        lin (v (high block u j d) ⊕ v (offset block c d) ⊖ v (offset block b d) ⊖ v (size block b d) ⊕ v (pos 1) ⊖ v (clearance block r d)),
        lin (v (high block t j d) ⊕ v (offset block c d) ⊖ v (offset block b d) ⊖ v (size block b d) ⊕ v (pos 1) ⊖ v (clearance block r d)),
      )

  to-more : (r i b j c d : ℕ) → 1 ≤ j → j ≤ rows block t → d < dims block → forbid_to block t r i b j c d ≤ℤ forbid_to block u r i b j c d
  unfolding forbid_to
  to-more r i b j c d h k l =
      let q = inside.lows j d h k (axis block l) in
      omega (
        ints,
        lin (v (low block t j d) ⊕ v (offset block c d) ⊕ v (size block c d) ⊖ v (offset block b d) ⊖ v (pos 1) ⊕ v (clearance block r d)),
        lin (v (low block u j d) ⊕ v (offset block c d) ⊕ v (size block c d) ⊖ v (offset block b d) ⊖ v (pos 1) ⊕ v (clearance block r d)),
      )

  pairs : (r : ℕ) (p : List ℤ) (i b j c : ℕ) → 1 ≤ j → j ≤ rows block t → pair_forbids block t r p i b j c ≡ true
      → pair_forbids block u r p i b j c ≡ true
  pairs r p i b j c h k e =
      pair-by block u r i b j c p (λ d l n.
      let w = pair-at block t r i b j c d p e l n in
      (≤ℤ-trans (from_less r i b j c d h k l) w.0, ≤ℤ-trans w.1 (to-more r i b j c d h k l)))

  sets : (r : ℕ) (p : List ℤ) (i s j : ℕ) → 1 ≤ j → j ≤ rows block t → set_forbids block t r p i s j ≡ true → set_forbids block u r p i s j ≡ true
  sets r p i s j h k = set-carries block t u r r i s j p (λ b c. pairs r p i b j c h k) (λ s' held. inside.shapes j s' h k held)

  still-forbidden : (i s : ℕ) (p : List ℤ) → forbidden block t i s p ≡ true → forbidden block u i s p ≡ true
  still-forbidden i s p e =
      let f = forbidden-parts block t i s p e in
      forbidden-by block u i s p (record {
        rule = f.rule;
        other = f.other;
        rule_below = f.rule_below;
        from = f.from;
        upto = subst (λ (n : ℕ). f.other ≤ n) (sym (rows_same block u t inside.as_long)) f.upto;
        kind = f.kind;
        names = f.names;
        another = f.another;
        names_other = f.names_other;
        set = sets f.rule p i s f.other f.from f.upto f.set;
      })

  pub still-allowed : (i s : ℕ) (p : List ℤ) → 1 ≤ i → i ≤ rows block t → allowed block u i s p ≡ true → allowed block t i s p ≡ true
  still-allowed i s p h k e =
      let a = allowed-parts block u i s p e in
      allowed-by block t i s p (ranges i p h k a.0) a.1 (λ f. clash (still-forbidden i s p f) a.2)
