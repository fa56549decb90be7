-- What `find_map` over the numbers below n answers, where each call of the closure leaves it as it was: what the closure answers at some of them, or
-- nothing where it has no answer at any; and so for regions. Assumes nothing.
use Rattle.std.specs.Prelude.{Option, MatchOption, IsSomeAnd, IfSome, IsTrue}
use Rattle.std.specs.declared.option.Option.TheVariants.{None, Some}
use Rattle.std.specs.declared.ops.Range.{Range}
use Rattle.std.specs.Iterator.Runs.{SomeRun, AllItemsGive, IsFirstToGive, CallKeepsClosure}
use Rattle.std.specs.Fn.{Called}
use Rattle.std.specs.Option.{option_map}
use Rattle.std.proofs.lemmas.Option.{none-some, same_Some, IfSome_then}
use Rattle.std.proofs.iter.Yields.{nat_range_steps}
use Rattle.std.proofs.iter.runs.Sources.{range_runs}
use mathlib.Core.Path.{◌≡◌, sym, ap, ◌∙◌, subst}
use mathlib.Core.Bool.{Bool}
use mathlib.Core.List.{List}
use Prim.Native.Nat.{ℕ, ◌+◌, ◌<◌}
use native.Mathlib.Omega.{arith}
use lib.IntN.{ℤ}
use denote.Param.Members.{Mut}
use Rattle.integers.specs.Below.{any_below}
use Rattle.integers.proofs.Below.{false-any}
use Rattle.points.specs.declared.Area.{Area}
use Rattle.forbid.specs.Region.{IsRegion}
use Rattle.forbid.proofs.Regions.{missed, forbids-any}

-- an item at its place
at-place : (o : Option ℕ) (m : ℕ) (P : ℕ → Type 0) → option_map (λ x. x) o ≡ Some m → IfSome o P → P m
at-place None m P e h = absurd (none-some _ e)
at-place (Some x) m P e h = subst P (same_Some _ _ e) h

the-item : (o : Option ℕ) (P Q : ℕ → Type 0) → IsSomeAnd o P → IfSome o Q → (x : ℕ) × P x × Q x
the-item None P Q p q = absurd p
the-item (Some x) P Q p q = (x, p, q)

module _ {B F : Type 0} {g : Mut F (ℕ × Unit {0}) (Option B)} (f : F) (Says : ℕ → Option B → Type 0)
    (says : (x : ℕ) (y : Option B) (q : F) → Called g f (x, tt) y q → (q ≡ f) × Says x y) where
  keeps : CallKeepsClosure g f
  keeps a y q k = (says a.0 y q k).0

  pub found_below : {s : Range ℕ} (n : ℕ) (r : Option B) → s ≡ record { start = 0; end = n }
      → SomeRun nat_range_steps s (λ p. MatchOption r (IsTrue p.whole × AllItemsGive p g f None)
      (λ y. (i : ℕ) × (i < p.len) × (p.len ≡ i + 1) × IsFirstToGive p g f (Some y) None i))
      → MatchOption r ((x : ℕ) → x < n → Says x None) (λ y. (x : ℕ) × (x < n) × Says x (Some y))
  found_below n None at run =
      let p = run.0 in
      let start = ap (λ (s : Range ℕ). s.start) (run.1 ∙ at) in
      let end = ap (λ (s : Range ℕ). s.end) (run.1 ∙ at) in
      let items = range_runs p p.seen in
      let long = items.1 run.2.0 in
      λ x l. at-place (p.at x) x (λ x. Says x None) (items.3 x (omega arith) ∙ ap (λ (m : ℕ). Some m) (omega arith))
      (IfSome_then (p.at x) (run.2.1 keeps x) (λ x k. (says x None f k).1))
  found_below n (Some y) at run =
      let p = run.0 in
      let end = ap (λ (s : Range ℕ). s.end) (run.1 ∙ at) in
      let items = range_runs p p.seen in
      let it = the-item (p.at run.2.0) _ _ (run.2.3 keeps).0 (items.2 run.2.0) in
      (it.0, omega arith, (says it.0 (Some y) f it.1).1)

module _ {F : Type 0} {g : Mut F (ℕ × Unit {0}) (Option Area)} (f : F) {k : ℕ} {p : List ℤ} (Forbids : ℕ → List ℤ → Bool)
    (says : (x : ℕ) (y : Option Area) (q : F) → Called g f (x, tt) y q → (q ≡ f) × IsRegion k (Forbids x) p y) where
  pub region_below : {s : Range ℕ} {m n : ℕ} (r : Option Area) → m ≡ n → s ≡ record { start = 0; end = m }
      → SomeRun nat_range_steps s (λ p. MatchOption r (IsTrue p.whole × AllItemsGive p g f None)
      (λ y. (i : ℕ) × (i < p.len) × (p.len ≡ i + 1) × IsFirstToGive p g f (Some y) None i))
      → IsRegion k (λ q. any_below n (λ x. Forbids x q)) p r
  region_below {m} {n} r e at run = by r (found_below f (λ x y. IsRegion k (Forbids x) p y) says m r at run)
    where
      by : (r : Option Area)
          → MatchOption r ((x : ℕ) → x < m → IsRegion k (Forbids x) p None) (λ y. (x : ℕ) × (x < m) × IsRegion k (Forbids x) p (Some y))
          → IsRegion k (λ q. any_below n (λ x. Forbids x q)) p r
      by None h = missed (false-any (λ x l. sym (h x (omega arith)).hit))
      by (Some a) h = forbids-any Forbids (omega (arith, h.1)) h.2
