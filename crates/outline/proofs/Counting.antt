-- The set of the rules that count is made rule by rule (`counted_none`, `counted-more`); written into an outline it is `Rules`
-- (`rules-of-set`), which hangs on that word alone (`rules-kept`). Assumes nothing.
use mathlib.Core.Path.{◌≡◌, sym, ap, ◌∙◌, subst}
use mathlib.Core.Logic.{⊎_elim}
use mathlib.Core.Bool.{true}
use mathlib.Core.List.{List}
use Prim.Native.Nat.{ℕ, zero, suc, ◌+◌, ◌/◌, ◌%◌, ◌^◌, ◌<◌}
use native.Mathlib.Numerals.{add-one}
use native.Mathlib.Omega.{arith}
use lib.Bits.{bit_and, and_shr, and_mod, and_le_r}
use lib.IntN.{ℤ, pos}
use lib.Pow.{pow_mono}
use lib.Signed.{≤ℤ_refl}
use Rattle.integers.specs.Integer.{nat}
use Rattle.integers.specs.Bits.{bit_at, bit, holds}
use Rattle.integers.specs.Words.{word}
use Rattle.integers.proofs.Booleans.{clash}
use Rattle.integers.proofs.Below.{below_or, last_or}
use Rattle.integers.proofs.Bits.{bit_at-small, bit_at-none, bit-one, one_bit, zero_bit, same_bit, bit_past, place-high, place-low}
use Rattle.integers.proofs.Ints.{ints}
use Rattle.integers.proofs.Sets.{none-zero}
use Rattle.sheet.specs.Layout.{rules, is_non_overlap, clearance, names_dim, names_row, dim_set, row_set}
use Rattle.sheet.specs.Accepted.{Count, Head}
use Rattle.outline.specs.Places.{rules_at, SameTo}
use Rattle.outline.specs.Rules.{Covers, CoveredBy, CountedTo, Covered, Rules}

-- ---- a set that is its meet with another is a part of it
bit-and : (a b d : ℕ) → bit_at (bit_and a b) d ≡ bit_and (bit_at a d) (bit_at b d)
unfolding bit_at
bit-and a b d = ap (λ (n : ℕ). n % 2) (and_shr a b d) ∙ and_mod (a / 2 ^ d) (b / 2 ^ d) 1

pub part_of : (a b : ℕ) → bit_and a b ≡ a → (d : ℕ) → bit_at a d ≡ 1 → bit_at b d ≡ 1
part_of a b e d h =
    let q : bit_and (bit_at a d) (bit_at b d) ≡ 1 = sym (bit-and a b d) ∙ ap (λ (n : ℕ). bit_at n d) e ∙ h in
    omega (arith, and_le_r (bit_at a d) (bit_at b d), bit_at-small b d)

-- ---- one rule after the other
pub counted_none : (block : List ℤ) → CountedTo block 0 0
counted_none block = record {
  below = omega arith;
  kinds = λ q e. clash e (zero_bit (pos 0) q (bit_at-none q));
  covered = λ r l. absurd (omega arith);
}

module _ {block : List ℤ} {m set : ℕ} (x : CountedTo block m set) where
  member_below : (q : ℕ) → bit (pos set) q ≡ true → q < m
  member_below q e = ⊎_elim (λ l. l) (λ l. clash e (bit_past (pos set) x.below l)) (below_or q m)

  abbrev rows : ℕ → ℕ
  rows r = nat (row_set block r)

  abbrev dims : ℕ → ℕ
  dims r = nat (dim_set block r)

  -- it counts
  module _ (kind : is_non_overlap block m ≡ true) where
    abbrev more : ℕ
    more = set + 2 ^ m

    grown : (q : ℕ) → q < m → bit (pos more) q ≡ bit (pos set) q
    grown q l = same_bit (pos more) (pos set) q (place-low m set q l)

    more-below : more < 2 ^ (m + 1)
    more-below = subst (λ (n : ℕ). more < 2 ^ n) (sym (add-one m)) (omega (arith, x.below))

    itself : CoveredBy block more m (rows m) (dims m)
    itself = record {
      rule = m;
      counts = one_bit (pos more) m (place-high m x.below);
      covers = record { names = λ d e. e; dims_of = λ d e. e; keeps = λ d l e. ≤ℤ_refl (clearance block m d) };
    }

    kept : {q r d : ℕ} → CoveredBy block set q r d → CoveredBy block more q r d
    kept c = record { rule = c.rule; counts = grown c.rule (member_below c.rule c.counts) ∙ c.counts; covers = c.covers }

    member-upto : (q : ℕ) → bit (pos more) q ≡ true → q < suc m
    member-upto q e = ⊎_elim (λ l. l)
        (λ l. clash e (bit_past (pos more) more-below (omega (arith, l)))) (below_or q (suc m))

    pub counted-more : CountedTo block (m + 1) more
    counted-more = record {
      below = more-below;
      kinds = λ q e. ⊎_elim (λ p. ap (is_non_overlap block) p ∙ kind) (λ l. x.kinds q (sym (grown q l) ∙ e)) (last_or (member-upto q e));
      covered = λ r l e. ⊎_elim
          (λ p. subst (λ (r : ℕ). CoveredBy block more r (rows r) (dims r)) (sym p) itself)
          (λ k. kept (x.covered r k e)) (last_or (subst (λ (n : ℕ). r < n) (add-one m) l));
    }

-- ---- the set in an outline
module _ (block : List ℤ) (r q : ℕ) (c : Covers block r (nat (row_set block r)) (nat (dim_set block r)) q) where
  rows_named : (j : ℕ) → names_row block r j ≡ true → names_row block q j ≡ true
  unfolding names_row holds
  rows_named zero e = clash e (none-zero (row_set block r))
  rows_named (suc d) e = one_bit (row_set block q) d (c.names d (bit-one (row_set block r) d e))

  dims-named : (d : ℕ) → names_dim block q d ≡ true → names_dim block r d ≡ true
  unfolding names_dim
  dims-named d e = one_bit (dim_set block r) d (c.dims_of d (bit-one (dim_set block q) d e))

pub rules-of-set : {block o : List ℤ} {set : ℕ} → Head block → CountedTo block (rules block) set → word o rules_at ≡ pos set
    → Rules block o
rules-of-set {block} {o} {set} h x e = record {
  count = let p = pow_mono {i = rules block} {j = 32} h.few_rules in record { from = omega ints; upto = omega (ints, x.below, p) };
  covered = λ r l k. by r (x.covered r l k);
}
  where
    by : (r : ℕ) → CoveredBy block set r (nat (row_set block r)) (nat (dim_set block r)) → Covered block o r
    by r c = record {
      rule = c.rule;
      below = member_below x c.rule c.counts;
      counts = ap (λ (z : ℤ). bit z c.rule) e ∙ c.counts;
      kind = x.kinds c.rule c.counts;
      names = rows_named block r c.rule c.covers;
      dims_of = λ d l. dims-named block r c.rule c.covers d;
      keeps = c.covers.keeps;
    }

-- ---- a run that has the same words
covered-kept : {block o o' : List ℤ} → word o' rules_at ≡ word o rules_at → (r : ℕ) → Covered block o r → Covered block o' r
covered-kept e r y = record {
  rule = y.rule;
  below = y.below;
  counts = ap (λ (z : ℤ). bit z y.rule) e ∙ y.counts;
  kind = y.kind;
  names = y.names;
  dims_of = y.dims_of;
  keeps = y.keeps;
}

pub rules-kept : {at : ℕ} {block o o' : List ℤ} → rules_at < at → SameTo at o o' → Rules block o → Rules block o'
rules-kept past same x =
    let e = same.words rules_at past in
    record { count = subst Count (sym e) x.count; covered = λ r k g. covered-kept e r (x.covered r k g) }
