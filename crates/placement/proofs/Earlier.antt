-- Of two fixed rows that clash each forbids the other its point, so a placement is good where no row before a row forbids it its own
-- (`clear-good`), and a row is bad where one does (`bad-before`). Assumes nothing.
use mathlib.Core.Path.{◌≡◌, sym, ◌∙◌, subst}
use mathlib.Core.Logic.{⊎_elim}
use mathlib.Core.Bool.{true, false, ◌&&◌}
use mathlib.Core.List.{List}
use Prim.Native.Nat.{ℕ, ◌<◌}
use native.Mathlib.Omega.{arith}
use lib.IntN.{ℤ}
use lib.Signed.{◌≤ℤ◌}
use Rattle.integers.specs.Words.{word}
use Rattle.integers.proofs.Booleans.{clash, fails, and-true, true-and}
use Rattle.integers.proofs.Below.{any_at, any-true, upto-at, at-upto, some-upto, upto-some, below_or}
use Rattle.sheet.specs.Layout.{axes, low}
use Rattle.sheet.specs.Allowed.{rooms_hold, in_ranges, forbid_from, forbid_to, pair_forbids, shapes_forbid, set_forbids, forbidden}
use Rattle.sheet.specs.Placement.{row_fixed, fixed, point_of, good}
use Rattle.sheet.proofs.Forbidden.{axis, allowed-parts, allowed-by, pair-at, pair-by, shapes-by, shapes-parts, set-one}
use Rattle.sheet.proofs.Forbidden.{Forbids, forbidden-by, forbidden-parts}
use Rattle.sheet.proofs.Coordinates.{Agree}
use Rattle.sheet.proofs.Exchange.{at-point, exchange}
use Rattle.sheet.proofs.Fixed.{Row, still}
use Rattle.placement.specs.Rows.{row_good}
use Rattle.placement.specs.Before.{named_forbids, before_forbids, rule_forbids_before, forbidden_before, SoleShape, Clear}
use Rattle.placement.proofs.OneShape.{row-good-is}

module _ (block t : List ℤ) where
  -- ---- the one shape of a row
  pub sole-set : {j s' : ℕ} → SoleShape block t j s' → (r i s : ℕ) (p : List ℤ)
      → shapes_forbid block t r p i s j s' ≡ set_forbids block t r p i s j
  sole-set {j} {s'} o r i s p = set-one block t r i s j s' p o.upto o.only

  -- ---- a row before i
  before-by : (i s : ℕ) (p : List ℤ) (f : Forbids block t i s p) → f.other < i → forbidden_before block t i s p ≡ true
  unfolding forbidden_before rule_forbids_before before_forbids named_forbids
  before-by i s p f l =
      any-true (rule_forbids_before block t i s p) f.rule f.rule_below (true-and (true-and f.kind f.names)
      (upto-some (named_forbids block t f.rule i s p) f.other f.from (omega (arith, l)) (true-and f.names_other f.set)))

  before-forbids : (i s : ℕ) (p : List ℤ) → Row block t i → forbidden_before block t i s p ≡ true → forbidden block t i s p ≡ true
  unfolding forbidden_before rule_forbids_before before_forbids named_forbids
  before-forbids i s p row e =
      let r = any_at e in
      let r2 = and-true r.2 in
      let r1 = and-true r2.0 in
      let j = some-upto (named_forbids block t r.0 i s p) r2.1 in
      let j2 = and-true j.3 in
      forbidden-by block t i s p (record {
        rule = r.0;
        other = j.0;
        rule_below = r.1;
        from = j.1;
        upto = omega (arith, j.2, row.upto);
        kind = r1.0;
        names = r1.1;
        another = λ q. omega (arith, q, j.1, j.2);
        names_other = j2.0;
        set = j2.1;
      })

  pair-agree : (r i b j c : ℕ) (p q : List ℤ) → Agree block t p q → pair_forbids block t r p i b j c ≡ true
      → pair_forbids block t r q i b j c ≡ true
  pair-agree r i b j c p q h e =
      pair-by block t r i b j c q (λ d l n.
      subst (λ (z : ℤ). (forbid_from block t r i b j c d ≤ℤ z) × (z ≤ℤ forbid_to block t r i b j c d)) (h d (axis block l))
      (pair-at block t r i b j c d p e l n))

  at-origin : {i : ℕ} (c : Clear block t i) → Agree block t c.point (point_of block t i)
  at-origin {i} c d l = c.at d l ∙ sym (at-point block t i d l)

  from-origin : {i : ℕ} (c : Clear block t i) → Agree block t (point_of block t i) c.point
  from-origin c d l = sym (at-origin c d l)

  -- ---- a row with one shape, at its point
  module _ {i s : ℕ} (row : Row block t i) (o : SoleShape block t i s) (p : List ℤ)
      (at : (d : ℕ) → d < axes block → word p d ≡ low block t i d) where
    pub bad-cut : (in_ranges block t i p && rooms_hold block i s p) ≡ false → row_good block t i ≡ false
    bad-cut e = fails (λ g. let w = allowed-parts block t i s p (row-good-is block t o p at ∙ g) in clash (true-and w.0 w.1) e)

    pub bad-before : forbidden_before block t i s p ≡ true → row_good block t i ≡ false
    bad-before e = fails (λ g. clash (before-forbids i s p row e) (allowed-parts block t i s p (row-good-is block t o p at ∙ g)).2)

  -- ---- a fixed placement
  module _ (all-fixed : fixed block t ≡ true) where
    pub row-fixed : {i : ℕ} → Row block t i → row_fixed block t i ≡ true
    unfolding fixed
    row-fixed {i} h = upto-at (row_fixed block t) all-fixed i h.from h.upto

    -- what a later row forbids to row i, row i forbids to the later one
    later : {i : ℕ} → Row block t i → (c : Clear block t i) (f : Forbids block t i c.shape c.point) (d : Clear block t f.other)
        → i < f.other → forbidden_before block t f.other d.shape d.point ≡ true
    later {i} row c f d l =
        let r = f.rule in
        let j = f.other in
        let y = shapes-parts block t r i c.shape j d.shape c.point (sole-set d.sole r i c.shape c.point ∙ f.set) in
        let other : Row block t j = record { from = f.from; upto = f.upto } in
        let swap = exchange block t r i y.own j y.other (still block t all-fixed i row) (still block t all-fixed j other) in
        before-by j d.shape d.point (record {
          rule = r;
          other = i;
          rule_below = f.rule_below;
          from = row.from;
          upto = row.upto;
          kind = f.kind;
          names = f.names_other;
          another = λ q. f.another (sym q);
          names_other = f.names;
          set = sym (sole-set c.sole r j d.shape d.point)
              ∙ shapes-by block t r j d.shape i c.shape d.point (record {
                own = y.other;
                other = y.own;
                own_below = y.other_below;
                other_below = y.own_below;
                own_is = y.other_is;
                other_is = y.own_is;
                pair = pair-agree r j y.other i y.own (point_of block t j) d.point (from-origin d)
                    (sym swap ∙ pair-agree r i y.own j y.other c.point (point_of block t i) (at-origin c) y.pair);
              });
        }) l

    module _ (all : (i : ℕ) → Row block t i → Clear block t i) where
      free : (i : ℕ) (row : Row block t i) → let c = all i row in Forbids block t i c.shape c.point → ⊥
      free i row f =
          let c = all i row in
          let d = all f.other (record { from = f.from; upto = f.upto }) in
          ⊎_elim (λ l. clash (before-by i c.shape c.point f l) c.free)
          (λ l. clash (later row c f d (omega (arith, l, f.another))) d.free)
          (below_or f.other i)

      pub clear-good : good block t ≡ true
      unfolding good
      clear-good =
          at-upto (row_good block t) (λ i from upto.
          let row : Row block t i = record { from = from; upto = upto } in
          let c = all i row in
          sym (row-good-is block t c.sole c.point c.at)
          ∙ allowed-by block t i c.shape c.point c.ranges c.rooms
          (λ e. free i row (forbidden-parts block t i c.shape c.point e)))
