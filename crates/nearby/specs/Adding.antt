-- A list while it is made: what one area more does, and what it may lean on. Assumes nothing.
use Rattle.std.specs.Prelude.{Option, IfSome, ◌≡◌, Bool, true, false, ◌||◌, List, ℕ, ◌≤◌, ◌<◌, ℤ, length}
use Rattle.integers.specs.Below.{any_up_to}
use Rattle.sheet.specs.Layout.{axes, rules, rows, is_non_overlap, names_row, shape_set, has_only}
use Rattle.sheet.specs.Allowed.{in_ranges, set_forbids, forbidden}
use Rattle.sheet.specs.Accepted.{Count}
use Rattle.words.specs.declared.Place.{Place}
use Rattle.words.specs.Places.{RulePlace, RowPlace}
use Rattle.points.specs.declared.Area.{Area}
use Rattle.points.specs.Area.{in_area, Small}
use Rattle.outline.specs.Chain.{Chained, Sole}
use Rattle.outline.specs.Outline.{Subject}
use Rattle.outline.specs.Places.{shapes_most}
use Rattle.nearby.specs.declared.gather.Query.{Query}
use Rattle.nearby.specs.Places.{suspect_at}
use Rattle.nearby.specs.Known.{Counted, known_holds}
use Rattle.nearby.specs.Listing.{Known, Suspects, Met}

module _ (block t : List ℤ) (i s : ℕ) where
  -- a list with some number of suspects: unless there is no room for them all, it has met the points of the row's ranges that pass the test G
  pub record Gathered (list known : List ℤ) (count : Option ℕ) (G : List ℤ → Bool) : Type 0 where
    pub areas : Known block t i s known
    pub suspects : IfSome count (Suspects block t i s list)
    pub meets : IfSome count (λ n. (p : List ℤ) → in_ranges block t i p ≡ true → G p ≡ true → known_holds block known p ≡ false
        → Met block t i s list n p)

  -- nothing is asked of what it has met
  abbrev pub Open : List ℤ → List ℤ → Option ℕ → Type 0
  Open list known n = Gathered list known n (λ p. false)

  -- what passes the test H is met too
  pub record Grows (H : List ℤ → Bool) (list known : List ℤ) (n : Option ℕ) (list' known' : List ℤ) (n' : Option ℕ) : Type 0 where
    pub after : (G : List ℤ → Bool) → Gathered list known n G → Gathered list' known' n' (λ p. G p || H p)

  -- an area that holds what row j forbids by rule r, and that is forbidden where row j fills it
  pub record Threat (r j : ℕ) (area : Area) (filled : Bool) : Type 0 where
    pub rule : r < rules block
    pub from : 1 ≤ j
    pub upto : j ≤ rows block t
    pub sound : (q : List ℤ) → set_forbids block t r q i s j ≡ true → forbidden block t i s q ≡ true
    pub holds : (p : List ℤ) → in_ranges block t i p ≡ true → set_forbids block t r p i s j ≡ true → in_area (axes block) area p ≡ true
    pub fills : filled ≡ true → (q : List ℤ) → in_area (axes block) area q ≡ true → forbidden block t i s q ≡ true
    pub small : Small area

-- a list to which something is added
pub record Adding (block t o : List ℤ) (q : Query) (list known : List ℤ) (n : Option ℕ) : Type 0 where
  pub subject : Subject block t o q.i q.s
  pub open_list : Open block t q.i.number q.s list known n

-- rule r keeps row i apart from other rows
pub record Binds (block : List ℤ) (i : ℕ) (r : Place) : Type 0 where
  pub rule : RulePlace block r
  pub kind : is_non_overlap block r.number ≡ true
  pub names : names_row block r.number i ≡ true

-- two shapes by number, and row j
pub record Hulled (block t o : List ℤ) (s : ℕ) (j : Place) (u : ℕ) : Type 0 where
  pub chained : Chained block o
  pub own : s < shapes_most
  pub other : u < shapes_most
  pub row : RowPlace block t j
  pub set : Count (shape_set block t j.number)

-- both shapes have one box, and row j has one shape
pub record FillsHulls (block t : List ℤ) (s j u : ℕ) : Type 0 where
  pub own : Sole block s
  pub other : Sole block u
  pub one : any_up_to 32 (has_only block t j) ≡ true

-- the runs to which an area is added, and the numbers of the rule and the row
pub record Space (list known : List ℤ) (count : Option ℕ) (r j : ℕ) : Type 0 where
  pub rule : r ≤ 32
  pub row : j ≤ 32
  pub counted : Counted known
  pub fits : IfSome count (λ n. suspect_at n ≤ length list)
