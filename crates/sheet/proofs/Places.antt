-- Good placements inside a table: a number that is cut keeps those whose number lies from a to b (`places-cut`, `cut-places`), settling keeps
-- them all (`settle-keeps`, `settle-none`), and a settled table that is fixed is one (`settle-places`). What is cut away makes the extent
-- smaller (`cut-falls`). Assumes nothing.
use mathlib.Core.Path.{◌≡◌, refl, sym, ◌∙◌, subst}
use mathlib.Core.Logic.{⊎_elim}
use mathlib.Core.Bool.{true, false}
use mathlib.Core.List.{List}
use mathlib.Core.Option.{none, some}
use Prim.Native.Nat.{ℕ, ◌≤◌, ◌<◌}
use native.Mathlib.Omega.{arith}
use lib.ListN.{length}
use lib.IntN.{ℤ}
use Rattle.integers.specs.Integer.{within}
use Rattle.integers.proofs.Booleans.{clash}
use Rattle.sheet.specs.Layout.{axes}
use Rattle.sheet.specs.Placement.{fixed}
use Rattle.sheet.specs.Settle.{Settled, Inside, Settles, extent, settle_of}
use Rattle.sheet.specs.Refusal.{refusal}
use Rattle.sheet.specs.Accepted.{Table}
use Rattle.sheet.specs.Cuts.{HasNumber, is_open, number, Single, cut_to}
use Rattle.sheet.specs.FirstLayout.{Places}
use Rattle.sheet.proofs.Accepted.{accepted-head, accepted-table}
use Rattle.sheet.proofs.Inside.{inside-trans, inside-falls}
use Rattle.sheet.proofs.Steps.{settled-table}
use Rattle.sheet.proofs.GoodSettled.{good-iff-settled}
use Rattle.sheet.proofs.Demand3.{demand-3, settled-accepted}
use Rattle.sheet.proofs.Cuts.{spot-or, cut-long, cut_in, cut_out}
use Rattle.sheet.proofs.Numbers.{has-number, number-open, inside-open, Fewer, open-inside, open-table}
use Rattle.sheet.proofs.Numbers.{fixed-single}

module _ (block : List ℤ) (some-axes : 0 < axes block) where
  -- ---- a placement inside a table
  module _ (t : List ℤ) (table : Table block t) (p : List ℤ) (x : Places block t p) where
    pub places-settled : Settled block p
    places-settled = (good-iff-settled block p x.is_fixed).0 x.is_good

    pub places-table : Table block p
    places-table = settled-table block some-axes p t places-settled x.inside table

    -- its numbers are open in it and in the table, and nothing else is open in it
    module _ (i c : ℕ) (n : HasNumber block t i c) where
      pub own_open : is_open block p i c (number block p i c) ≡ true
      own_open = number-open block p places-table i c (has-number block (sym x.inside.as_long) n)

      pub places-open : is_open block t i c (number block p i c) ≡ true
      places-open = inside-open block p t x.inside i c (number block p i c) n own_open

      pub places-single : Single block p i c
      places-single = fixed-single block p places-table x.is_fixed i c (has-number block (sym x.inside.as_long) n)

    -- it lies inside every table in which its numbers are open
    pub places-in : (u : List ℤ) → length u ≡ length t
        → ((i c : ℕ) → HasNumber block t i c → is_open block u i c (number block p i c) ≡ true) → Places block u p
    places-in u e opens =
        record {
          inside = open-inside block p u record {
            as_long = x.inside.as_long ∙ sym e;
            opens = λ i c z n o.
                let m = has-number block e n in
                subst (λ (y : ℤ). is_open block u i c y ≡ true) (sym (places-single i c m z o)) (opens i c m);
            some_open = λ i c n. (number block p i c, own_open i c (has-number block e n));
          };
          is_fixed = x.is_fixed;
          is_good = x.is_good;
        }

  -- ---- number c of row i cut to the values from a to b
  module _ (t : List ℤ) (table : Table block t) (i c : ℕ) (n : HasNumber block t i c) (a b : ℤ) where
    abbrev cut : List ℤ
    cut = cut_to block t i c a b

    pub places-cut : (p : List ℤ) → Places block t p → within a b (number block p i c) ≡ true → Places block cut p
    places-cut p x w =
        places-in t table p x cut (cut-long block t table i a b c n) (λ j e o.
        cut_in block t table i a b c n j e o (number block p j e) (places-open t table p x j e o) (λ q r. rw (q, r) w))

    -- some value that is open lies from a to b
    module _ (z : ℤ) (open-z : is_open block t i c z ≡ true) (in-z : within a b z ≡ true) where
      cut-fewer : Fewer block cut t
      cut-fewer =
          record {
            as_long = cut-long block t table i a b c n;
            opens = λ j e y o h. (cut_out block t table i a b c n j e o y h).0;
            some_open = λ j e o.
                ⊎_elim
                (λ s. (z, cut_in block t table i a b c n j e o z (rw (s.0, s.1) open-z) (λ _ _. in-z)))
                (λ ne. (
                  number block t j e,
                  cut_in block t table i a b c n j e o (number block t j e) (number-open block t table j e o) (λ p q. absurd (ne p q)),
                ))
                (spot-or j i e c);
          }

      pub cut_inside : Inside block cut t
      cut_inside = open-inside block cut t cut-fewer

      pub cut-table : Table block cut
      cut-table = open-table block cut t cut-fewer table

      pub cut-places : (p : List ℤ) → Places block cut p → Places block t p × (within a b (number block p i c) ≡ true)
      cut-places p x =
          let o = places-open cut cut-table p x i c (has-number block (sym cut_inside.as_long) n) in (
            record { inside = inside-trans block x.inside cut_inside; is_fixed = x.is_fixed; is_good = x.is_good },
            (cut_out block t table i a b c n i c n (number block p i c) o).1 refl refl,
          )

      -- and some value that is open does not
      pub cut-falls : (y : ℤ) → is_open block t i c y ≡ true → within a b y ≡ false → extent block cut < extent block t
      cut-falls y o ne =
          ⊎_elim
          (λ e. clash ((cut_out block t table i a b c n i c n y (rw e o)).1 refl refl) ne)
          (λ l. l)
          (inside-falls block cut t cut-table table cut_inside)

-- ---- settling
module _ (block : List ℤ) (t : List ℤ) (accepted : refusal block t ≡ 0) where
  some-axes : 0 < axes block
  some-axes = (accepted-head block t accepted).some_axes

  pub settle-none : settle_of block t ≡ none → (p : List ℤ) → Places block t p → ⊥
  settle-none e p x =
      let d : Settles block t none = subst (Settles block t) e (demand-3 block t accepted) in
      d p (places-settled block some-axes t (accepted-table block t accepted) p x) x.inside

  module _ (v : List ℤ) (e : settle_of block t ≡ some v) where
    greatest : Settles block t (some v)
    greatest = subst (Settles block t) e (demand-3 block t accepted)

    pub settle-accepted : refusal block v ≡ 0
    settle-accepted = settled-accepted block t accepted v greatest.settled greatest.within

    pub settle-inside : Inside block v t
    settle-inside = greatest.within

    pub settle-keeps : (p : List ℤ) → Places block t p → Places block v p
    settle-keeps p x =
        record {
          inside = greatest.holds p (places-settled block some-axes t (accepted-table block t accepted) p x) x.inside;
          is_fixed = x.is_fixed;
          is_good = x.is_good;
        }

    -- the settled table is a placement itself where it is fixed
    pub settle-places : fixed block v ≡ true → Places block t v
    settle-places f = record { inside = greatest.within; is_fixed = f; is_good = (good-iff-settled block v f).1 greatest.settled }

    pub settle-falls : extent block v ≤ extent block t
    settle-falls =
        ⊎_elim (λ q. rw q (omega arith)) (λ l. omega arith)
        (inside-falls block v t (accepted-table block v settle-accepted) (accepted-table block t accepted) settle-inside)
