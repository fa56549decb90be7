-- Findings carried from one kind of table to another (document 02, T-14), and the finding for two tables side by side (T-13).
--   carried           what is found for t, carried over by f, is found for f t
--   carried-settles   and so it is what settling f t gives
--   both              what is found for each of two tables is found for the pair
-- Assumes nothing.
use mathlib.Core.Path.{◌≡◌}
use mathlib.Core.Bool.{Bool}
use mathlib.Core.Option.{Option, none, some, map}
use Prim.Native.Nat.{ℕ}
use Rattle.fixpoint.specs.Finding.{Finds}
use Rattle.fixpoint.specs.Passes.{settle_by}
use Rattle.fixpoint.specs.Laws.{Laws}
use Rattle.fixpoint.specs.Carry.{Carries, both_o, InBoth, SetBoth}
use Rattle.fixpoint.proofs.Settle.{settles}

module _ {A B : Type 0} {In : A → A → Type 0} {Set : A → Type 0} {In' : B → B → Type 0} {Set' : B → Type 0}
    {f : A → B} {back : B → A} {t : A} (c : Carries In Set In' Set' f back t) where
  pub carried : (r : Option A) → Finds In Set t r → Finds In' Set' (f t) (map f r)
  carried none h = λ u s i. h (back u) (c.settled_back u s i) (c.within_back u s i)
  carried (some g) h =
      record {
        settled = c.settled g h.settled h.within;
        within = c.within g h.settled h.within;
        holds = λ u s i.
            c.holds g u h.settled h.within s i (h.holds (back u) (c.settled_back u s i) (c.within_back u s i));
      }

  pub carried-settles : {Good : B → Type 0} {narrow : ℕ → B → Option B} {same : B → B → Bool} {n : ℕ} {μ : B → ℕ}
      → Laws In' Set' Good narrow same n μ → (r : Option A) → Good (f t) → Finds In Set t r
      → settle_by narrow same n μ (f t) ≡ map f r
  carried-settles L r g h = settles L g (carried r h)

module _ {A B : Type 0} (In : A → A → Type 0) (Set : A → Type 0) (In' : B → B → Type 0) (Set' : B → Type 0) where
  pub both : (t : A × B) (r : Option A) (s : Option B) → Finds In Set t.0 r → Finds In' Set' t.1 s
      → Finds (InBoth In In') (SetBoth Set Set') t (both_o r s)
  both t none s h k = λ u c i. h u.0 c.0 i.0
  both t (some a) none h k = λ u c i. k u.1 c.1 i.1
  both t (some a) (some b) h k =
      record {
        settled = (h.settled, k.settled);
        within = (h.within, k.within);
        holds = λ u c i. (h.holds u.0 c.0 i.0, k.holds u.1 c.1 i.1);
      }
