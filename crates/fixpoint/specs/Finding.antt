-- What settling is to find, said without any algorithm: the greatest settled table inside a given one, or that none lies inside.
-- A finding is an Option: `none` is 'no layout', `some g` the table left. A table is anything with an order, 'lies inside', and a
-- notion of 'settled'. Greatest and Finds are the aim; Between and Survives are what narrowing keeps. Assumes nothing.
use Rattle.std.proofs.Math.Option.{Option, none, some}

module _ {A : Type 0} (Inside : A → A → Type 0) (Settled : A → Type 0) where
  -- g is settled, lies inside t, and every settled table inside t lies inside g
  pub record Greatest (t g : A) : Type 0 where
    pub settled : Settled g
    pub within : Inside g t
    pub holds : (u : A) → Settled u → Inside u t → Inside u g

  -- `none`: no settled table lies inside t; `some g`: g is the greatest of them
  abbrev pub Finds : A → Option A → Type 0
  Finds t none = (u : A) → Settled u → Inside u t → ⊥
  Finds t (some g) = Greatest t g

  -- v lies between t and every settled table inside t
  pub record Between (t v : A) : Type 0 where
    pub below : Inside v t
    pub keeps : (u : A) → Settled u → Inside u t → Inside u v

module _ {A : Type 0} (Inside : A → A → Type 0) where
  -- u lies inside what a narrowing found: there is a table left, and u lies inside it
  abbrev pub Survives : A → Option A → Type 0
  Survives u none = ⊥
  Survives u (some v) = Inside u v
