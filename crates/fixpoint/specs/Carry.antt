-- Two kinds of tables: what a renaming has to satisfy so that it carries findings from one to the other (document 02, T-14),
-- and pairs of tables, side by side with no rule between them (T-13). Assumes nothing.
use Rattle.std.proofs.Math.Option.{Option, none, some}

-- f carries t over: it takes the settled tables inside t to such inside f t, and `back` takes those inside f t to such inside t
pub record Carries {A B : Type 0} (In : A → A → Type 0) (Set : A → Type 0) (In' : B → B → Type 0) (Set' : B → Type 0)
    (f : A → B) (back : B → A) (t : A) : Type 0 where
  pub settled : (g : A) → Set g → In g t → Set' (f g)
  pub within : (g : A) → Set g → In g t → In' (f g) (f t)
  pub settled_back : (u : B) → Set' u → In' u (f t) → Set (back u)
  pub within_back : (u : B) → Set' u → In' u (f t) → In (back u) t
  -- what `back` takes inside g lies inside f g
  pub holds : (g : A) (u : B) → Set g → In g t → Set' u → In' u (f t) → In (back u) g → In' u (f g)

-- both findings, or none where one is none
abbrev pub both_o : {A B : Type 0} → Option A → Option B → Option (A × B)
both_o none s = none
both_o (some a) none = none
both_o (some a) (some b) = some (a, b)

-- a pair lies inside another where each part does
abbrev pub InBoth : {A B : Type 0} → (A → A → Type 0) → (B → B → Type 0) → A × B → A × B → Type 0
InBoth In In' x y = In x.0 y.0 × In' x.1 y.1

-- and is settled where each part is
abbrev pub SetBoth : {A B : Type 0} → (A → Type 0) → (B → Type 0) → A × B → Type 0
SetBoth Set Set' x = Set x.0 × Set' x.1
