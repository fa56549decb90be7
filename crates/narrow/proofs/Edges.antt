-- One point more, or one shape more: what becomes of an end when a point is taken in (`edge_kept`, `end-taken`), and when the next shape is,
-- that has no point (`end-skip`) or none ahead of the end (`edge_more`). Assumes nothing.
use mathlib.Core.Path.{◌≡◌, refl, sym, subst}
use mathlib.Core.Logic.{◌⊎◌, inl, inr, ⊎_elim}
use mathlib.Core.Bool.{Bool, true, false, cond}
use mathlib.Core.List.{List}
use Prim.Native.Nat.{ℕ, suc, ◌≤◌, ◌<◌}
use native.Mathlib.Omega.{arith}
use lib.IntN.{ℤ, pos, ◌+ℤ◌, ◌-ℤ◌}
use lib.Signed.{le_z, ≤ℤ_refl}
use Rattle.integers.specs.Integer.{minus, within, Within}
use Rattle.integers.specs.Words.{word}
use Rattle.integers.proofs.Booleans.{clash}
use Rattle.integers.proofs.Below.{same_or}
use Rattle.integers.proofs.Ints.{ints, v, ◌⊕◌, ◌⊖◌, lin, not-le, ≤ℤ-trans, true-within}
use Rattle.integers.proofs.Sets.{member-ge-1}
use Rattle.sheet.specs.Layout.{shape_set, has_shape}
use Rattle.sheet.specs.Allowed.{allowed}
use Rattle.sheet.specs.Narrow.{Stands}
use Rattle.bounds.specs.Search.{Ahead}
use Rattle.points.specs.Area.{reach}
use Rattle.points.specs.Ends.{farther}
use Rattle.narrow.specs.Ends.{nowhere, past-from, past_to, StandsTo, Edge, End}

-- ---- the order of the search
ahead-refl : (flip : Bool) (z : ℤ) → Ahead flip z z
ahead-refl true z = ≤ℤ_refl z
ahead-refl false z = ≤ℤ_refl z

pub ahead-trans : (flip : Bool) (a b c : ℤ) → Ahead flip a b → Ahead flip b c → Ahead flip a c
ahead-trans true a b c h k = ≤ℤ-trans k h
ahead-trans false a b c h k = ≤ℤ-trans h k

-- a coordinate that is not strictly ahead is behind
pub not-past : (flip : Bool) (y z : ℤ) → Within 1000000 y → within (past-from flip z) (past_to flip z) y ≡ false → Ahead flip z y
not-past true y z n e = omega (ints, not-le {a = z +ℤ pos 1} {b = y} (λ h. clash (true-within h (omega ints)) e), lin (v z ⊕ v (pos 1)))
not-past false y z n e =
    omega (ints, not-le {a = y} {b = z -ℤ pos 1} (λ h. clash (true-within {a = minus reach} (omega ints) h) e), lin (v z ⊖ v (pos 1)))

not-nowhere : (flip : Bool) (y : ℤ) → Within 1000000 y → Ahead flip (nowhere flip) y → ⊥
not-nowhere true y n h = omega ints
not-nowhere false y n h = omega ints

-- an end taken out to y stays, or is y
farther-or : (flip : Bool) (z y : ℤ) → ((farther flip z y ≡ z) × Ahead flip z y) ⊎ ((farther flip z y ≡ y) × Ahead flip y z)
farther-or true z y = by (le_z z y) refl
  where
    by : (b : Bool) → le_z z y ≡ b → ((cond b y z ≡ z) × Ahead true z y) ⊎ ((cond b y z ≡ y) × Ahead true y z)
    by true l = inr (refl, omega ints)
    by false l = inl (refl, omega ints)
farther-or false z y = by (le_z z y) refl
  where
    by : (b : Bool) → le_z z y ≡ b → ((cond b z y ≡ z) × Ahead false z y) ⊎ ((cond b z y ≡ y) × Ahead false y z)
    by true l = inl (refl, omega ints)
    by false l = inr (refl, omega ints)

pub farther-ahead : (flip : Bool) (z y : ℤ) → Ahead flip (farther flip z y) z × Ahead flip (farther flip z y) y
farther-ahead flip z y =
    ⊎_elim
    (λ u. subst (λ (x : ℤ). Ahead flip x z × Ahead flip x y) (sym u.0) (ahead-refl flip z, u.1))
    (λ u. subst (λ (x : ℤ). Ahead flip x z × Ahead flip x y) (sym u.0) (u.1, ahead-refl flip y))
    (farther-or flip z y)

module _ (block : List ℤ) (t : List ℤ) (i : ℕ) where
  -- a point of the shapes up to n + 1 is one of those up to n, or of shape n + 1
  last-shape : (n : ℕ) (p : List ℤ) → StandsTo block t i (suc n) p
      → StandsTo block t i n p ⊎ ((has_shape block t i (suc n) ≡ true) × (allowed block t i (suc n) p ≡ true))
  last-shape n p w =
      ⊎_elim
      (λ e. inr (subst (λ (s : ℕ). (has_shape block t i s ≡ true) × (allowed block t i s p ≡ true)) e (w.held, w.stands)))
      (λ l. let k : w.shape ≤ n = omega arith in inl (record { shape = w.shape; upto = k; held = w.held; stands = w.stands }))
      (shape-or w.shape n w.upto)
    where
      shape-or : (s n : ℕ) → s ≤ suc n → (s ≡ suc n) ⊎ (s < suc n)
      shape-or s n h = ⊎_elim (λ e. inl e) (λ ne. inr (omega arith)) (same_or s (suc n))

  -- no shape: no point
  none_yet : (p : List ℤ) → StandsTo block t i 0 p → ⊥
  unfolding has_shape
  none_yet p w = let h : 1 ≤ w.shape = member-ge-1 (shape_set block t i) w.held in let k = w.upto in omega arith

  pub end-start : (flip : Bool) (d : ℕ) → End block t i flip 0 d (nowhere flip)
  end-start flip d = inr (refl, none_yet)

  module _ (flip : Bool) (n d : ℕ) (z : ℤ) where
    -- ---- a point is taken in
    module _ (p : List ℤ) (st : Stands block t i p) where
      abbrev y : ℤ
      y = word p d

      -- the end at the point
      edge-there : ((q : List ℤ) → StandsTo block t i n q → Ahead flip y (word q d)) → Edge block t i flip n d y
      edge-there h = record { ahead = h; reached = record { point = p; there = refl; by = st } }

      pub edge_kept : Edge block t i flip n d z → Edge block t i flip n d (farther flip z y)
      edge_kept x =
          ⊎_elim
          (λ u. subst (λ (r : ℤ). Edge block t i flip n d r) (sym u.0) x)
          (λ u. subst (λ (r : ℤ). Edge block t i flip n d r) (sym u.0) (edge-there (λ q w. ahead-trans flip y z (word q d) u.1 (x.ahead q w))))
          (farther-or flip z y)

      pub end-taken : Within 1000000 y → End block t i flip n d z → Edge block t i flip n d (farther flip z y)
      end-taken near x = ⊎_elim (λ e. edge_kept e) (λ u. first u.0 u.1) x
        where
          first : z ≡ nowhere flip → ((q : List ℤ) → StandsTo block t i n q → ⊥) → Edge block t i flip n d (farther flip z y)
          first e none_of =
              ⊎_elim
              (λ u. absurd (not-nowhere flip y near (subst (λ (r : ℤ). Ahead flip r y) e u.1)))
              (λ u. subst (λ (r : ℤ). Edge block t i flip n d r) (sym u.0) (edge-there (λ q w. absurd (none_of q w))))
              (farther-or flip z y)

    -- ---- shape n + 1 is taken in
    -- none of its points lies ahead
    pub edge_more : {s : ℕ} → s ≡ suc n → Edge block t i flip n d z → ((p : List ℤ) → allowed block t i s p ≡ true → Ahead flip z (word p d))
        → Edge block t i flip s d z
    edge_more e x behind =
        let after = rw e at behind in
        rw e (record { ahead = λ p w. ⊎_elim (λ u. x.ahead p u) (λ u. after p u.1) (last-shape n p w); reached = x.reached })

    -- it has none
    pub end-skip : ((p : List ℤ) → has_shape block t i (suc n) ≡ true → allowed block t i (suc n) p ≡ true → ⊥)
        → End block t i flip n d z → End block t i flip (suc n) d z
    end-skip none_of x =
        ⊎_elim
        (λ e. inl (record {
          ahead = λ p w. ⊎_elim (λ u. e.ahead p u) (λ u. absurd (none_of p u.0 u.1)) (last-shape n p w);
          reached = e.reached;
        }))
        (λ u. inr (u.0, λ p w. ⊎_elim (λ o. u.1 p o) (λ o. none_of p o.0 o.1) (last-shape n p w))) x
