-- A rule that counts forbids what the rule that it covers forbids; so the rules that count forbid all that is forbidden, and a row to which
-- another one does no harm by them is harmed by it under no rule. Assumes nothing.
use mathlib.Core.Path.{◌≡◌, sym, ◌∙◌}
use mathlib.Core.Bool.{true, ◌&&◌}
use mathlib.Core.List.{List}
use Prim.Native.Nat.{ℕ, ◌<◌}
use lib.IntN.{ℤ}
use Rattle.integers.specs.Bits.{bit}
use Rattle.integers.specs.Below.{any_below}
use Rattle.integers.specs.Words.{word}
use Rattle.integers.proofs.Booleans.{clash, fails, true-and}
use Rattle.integers.proofs.Below.{any-true}
use Rattle.sheet.specs.Layout.{rules, dims, is_non_overlap, names_dim, names_row}
use Rattle.sheet.specs.Allowed.{set_forbids, forbidden}
use Rattle.sheet.proofs.Clearance.{pair-wider}
use Rattle.sheet.proofs.Forbidden.{set-carries, forbidden-parts}
use Rattle.outline.specs.Places.{rules_at}
use Rattle.outline.specs.Clearance.{Keeps}
use Rattle.outline.specs.Rules.{Rules}
use Rattle.forbid.specs.Region.{rule_forbids}
use Rattle.forbid.proofs.Rows.{some-row, named_set}
use Rattle.nearby.specs.Due.{HarmlessBy}

module _ (block t : List ℤ) (r q : ℕ) (fewer : (d : ℕ) → d < dims block → names_dim block q d ≡ true → names_dim block r d ≡ true)
    (keeps : Keeps block q r) where
  set-covered : (i s j : ℕ) (p : List ℤ) → set_forbids block t r p i s j ≡ true → set_forbids block t q p i s j ≡ true
  set-covered i s j p = set-carries block t t r q i s j p (λ b c. pair-wider block t r q fewer keeps i b j c p) (λ s' held. held)

module _ (block t o : List ℤ) (w : Rules block o) where
  -- no rule from m on counts
  pub counted-forbid : (i s m : ℕ) → ((q : ℕ) → q < rules block → bit (word o rules_at) q ≡ true → q < m) → (p : List ℤ)
      → forbidden block t i s p ≡ true → any_below m (λ q. bit (word o rules_at) q && rule_forbids block t i s q p) ≡ true
  unfolding rule_forbids
  counted-forbid i s m l p f =
      let u = forbidden-parts block t i s p f in
      let c = w.covered u.rule u.rule_below u.kind in
      any-true (λ q. bit (word o rules_at) q && rule_forbids block t i s q p) c.rule (l c.rule c.below c.counts)
      (true-and c.counts (true-and (true-and c.kind (c.names i u.names))
      (some-row block t c.rule i s u.other u.from u.upto p
      (sym (named_set block t c.rule i s u.other u.another (c.names u.other u.names_other) p)
      ∙ set-covered block t u.rule c.rule c.dims_of c.keeps i s u.other p u.set))))

  -- where row j does row i no harm by the rules that count, it does none by any
  pub harmless-covered : (j i : ℕ)
      → ((q : ℕ) → q < rules block → bit (word o rules_at) q ≡ true → is_non_overlap block q ≡ true → names_row block q j ≡ true
      → names_row block q i ≡ true → HarmlessBy block t q j i)
      → (r : ℕ) → r < rules block → is_non_overlap block r ≡ true → names_row block r j ≡ true → names_row block r i ≡ true → HarmlessBy block t r j i
  harmless-covered j i f r h k nj ni =
      let c = w.covered r h k in
      let u = f c.rule c.below c.counts c.kind (c.names j nj) (c.names i ni) in
      record { spares = λ s p a b. fails (λ e. clash (set-covered block t r c.rule c.dims_of c.keeps i s j p e) (u.spares s p a b)) }
