-- Regions of tests: a cut of the field is the region of the test that cuts it, a miss, and regions of tests built by `&&` and `any_below`.
-- Assumes nothing.
use Rattle.std.specs.Prelude.{Option}
use Rattle.std.specs.declared.option.Option.TheVariants.{None, Some}
use mathlib.Core.Path.{◌≡◌, sym, ap, ◌∙◌}
use mathlib.Core.Bool.{Bool, true, false, ◌&&◌}
use mathlib.Core.List.{List}
use Prim.Native.Nat.{ℕ, ◌+◌, ◌≤◌, ◌<◌}
use lib.IntN.{ℤ}
use Rattle.integers.specs.Below.{any_below}
use Rattle.integers.proofs.Booleans.{clash, fails, and-true, true-and, false-or}
use Rattle.integers.proofs.Below.{any-true, any-more}
use Rattle.points.specs.declared.Area.{Area}
use Rattle.points.specs.Area.{coordinates, in_area, InField, Cuts, field_area}
use Rattle.points.proofs.Areas.{in_field, small-field}
use Rattle.forbid.specs.Region.{IsRegion}

module _ {k : ℕ} {p : List ℤ} where
  -- ---- a hit
  pub cut-region : {F : List ℤ → Bool} {a : Area} → k ≤ coordinates → InField k p → F p ≡ true → Cuts k field_area a F → IsRegion k F p (Some a)
  cut-region h f e c = record {
    hit = sym e;
    around = c.is p ∙ true-and (in_field h f) e;
    only = λ q i. (and-true {a = in_area k field_area q} (sym (c.is q) ∙ i)).1;
    small = c.small small-field;
  }

  -- ---- a miss
  pub missed : {F : List ℤ → Bool} → F p ≡ false → IsRegion k F p None
  missed e = record { hit = sym e; around = tt; only = tt; small = tt }

  -- ---- tests that are built of others
  pub forbids-same : {F G : List ℤ → Bool} {x : Option Area} → ((q : List ℤ) → F q ≡ G q) → IsRegion k F p x → IsRegion k G p x
  forbids-same {x = None} e f = missed (sym (f.hit ∙ e p))
  forbids-same {x = Some a} e f = record { hit = f.hit ∙ e p; around = f.around; only = λ q h. sym (e q) ∙ f.only q h; small = f.small }

  pub forbids-and : {F : List ℤ → Bool} {a : Bool} {x : Option Area} → a ≡ true → IsRegion k F p x → IsRegion k (λ q. a && F q) p x
  forbids-and {F} e f = forbids-same (λ q. ap (λ (b : Bool). b && F q) (sym e)) f

  -- a hit is one of every test that F implies
  pub forbids-by : {F G : List ℤ → Bool} {a : Area} → ((q : List ℤ) → F q ≡ true → G q ≡ true) → IsRegion k F p (Some a) → IsRegion k G p (Some a)
  forbids-by e f = record { hit = sym (e p (sym f.hit)); around = f.around; only = λ q h. e q (f.only q h); small = f.small }

  -- a region of a test that implies another one, and is passed where the point passes that
  pub forbids-where : {F G : List ℤ → Bool} {x : Option Area} → ((q : List ℤ) → F q ≡ true → G q ≡ true) → (G p ≡ true → F p ≡ true)
      → IsRegion k F p x → IsRegion k G p x
  forbids-where {x = None} e back f = missed (fails (λ g. clash (back g) (sym f.hit)))
  forbids-where {x = Some a} e back f = forbids-by e f

  -- two tests together: an area of the one, cut to the area of the other
  pub forbids-both : {F G : List ℤ → Bool} {a b c : Area} → IsRegion k F p (Some a) → IsRegion k G p (Some b) → Cuts k a c (in_area k b)
      → IsRegion k (λ q. F q && G q) p (Some c)
  forbids-both {a = a} f g c = record {
    hit = sym (true-and (sym f.hit) (sym g.hit));
    around = c.is p ∙ true-and f.around g.around;
    only = λ q h. let w = and-true {a = in_area k a q} (sym (c.is q) ∙ h) in true-and (f.only q w.0) (g.only q w.1);
    small = c.small f.small;
  }

  pub forbids-any : {n m : ℕ} {a : Area} (F : ℕ → List ℤ → Bool) → m < n → IsRegion k (F m) p (Some a)
      → IsRegion k (λ q. any_below n (λ j. F j q)) p (Some a)
  forbids-any {m} F l f = forbids-by (λ q h. any-true (λ j. F j q) m l h) f

-- ---- a loop, after one more turn that missed
pub none_more : {n : ℕ} (f : ℕ → Bool) → any_below n f ≡ false → f n ≡ false → any_below (n + 1) f ≡ false
none_more {n} f h e = any-more n f ∙ false-or h e
