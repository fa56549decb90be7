-- A table split at a value of one of its numbers: either part is accepted and lies inside the table (`upto-part`, `past-part`), has a smaller extent
-- (`upto-falls`, `past-falls`) and has the placements whose number it has (`in-upto`, `in-past`, `upto-number`, `past-number`). Assumes nothing.
use mathlib.Core.Path.{◌≡◌, refl, sym}
use mathlib.Core.Logic.{⊎_elim}
use mathlib.Core.Bool.{true}
use mathlib.Core.List.{List}
use Prim.Native.Nat.{ℕ, ◌≤◌, ◌<◌}
use native.Mathlib.Omega.{arith}
use lib.IntN.{ℤ, pos, ◌+ℤ◌}
use lib.Signed.{◌≤ℤ◌, ◌<ℤ◌}
use Rattle.integers.specs.Integer.{minus, within, Within}
use Rattle.integers.proofs.Booleans.{fails}
use Rattle.integers.proofs.Ints.{ints, lin, v, ◌⊕◌, within-true, true-within}
use Rattle.sheet.specs.Layout.{axes}
use Rattle.sheet.specs.Settle.{extent}
use Rattle.sheet.specs.Refusal.{refusal}
use Rattle.sheet.specs.Accepted.{Table}
use Rattle.sheet.specs.Cuts.{HasNumber, is_open, number, cut_to}
use Rattle.sheet.specs.FirstLayout.{Places}
use Rattle.sheet.proofs.Accepted.{accepted-head, accepted-table, accepted-again}
use Rattle.sheet.proofs.Inside.{inside-refl, inside-trans, inside-falls}
use Rattle.sheet.proofs.Cuts.{cut_out}
use Rattle.sheet.proofs.Numbers.{has-number, number-open}
use Rattle.sheet.proofs.Places.{places-open, places-cut, cut_inside, cut-table, cut-places, cut-falls}
use Rattle.splits.specs.Splits.{far, upto_value, past_value, SplitAt, Part}
use Rattle.splits.proofs.Values.{open-near, number-near}

pub part-refl : (block t : List ℤ) → refusal block t ≡ 0 → Part block t t
part-refl block t accepted = record { accepted = accepted; inside = inside-refl block t; places = λ p x. x }

pub part-trans : {block t u v : List ℤ} → Part block t u → Part block u v → Part block t v
part-trans {block} x y =
    record { accepted = y.accepted; inside = inside-trans block y.inside x.inside; places = λ p z. x.places p (y.places p z) }

module _ (block : List ℤ) (t : List ℤ) (accepted : refusal block t ≡ 0) where
  some-axes : 0 < axes block
  some-axes = (accepted-head block t accepted).some_axes

  table : Table block t
  table = accepted-table block t accepted

  -- ---- number c of row i cut to the values from a to b, of which some is open
  module _ (i c : ℕ) (n : HasNumber block t i c) (a b x : ℤ) (open-x : is_open block t i c x ≡ true) (in-x : within a b x ≡ true) where
    abbrev cut : List ℤ
    cut = cut_to block t i c a b

    cut-part : Part block t cut
    cut-part =
        let inside = cut_inside block some-axes t table i c n a b x open-x in-x in
        record {
          accepted = accepted-again block t cut accepted inside.as_long (cut-table block some-axes t table i c n a b x open-x in-x);
          inside = inside;
          places = λ p y. (cut-places block some-axes t table i c n a b x open-x in-x p y).0;
        }

    cut-number : (p : List ℤ) → Places block cut p → (a ≤ℤ number block p i c) × (number block p i c ≤ℤ b)
    cut-number p y = within-true (cut-places block some-axes t table i c n a b x open-x in-x p y).1

  -- ---- the values up to z, and those past z
  module _ (i c : ℕ) (n : HasNumber block t i c) (z : ℤ) where
    least-open : is_open block t i c (number block t i c) ≡ true
    least-open = number-open block t table i c n

    placed-near : (p : List ℤ) → Places block t p → Within far (number block p i c)
    placed-near p y = open-near block t table i c n (number block p i c) (places-open block some-axes t table p y i c n)

    pub in-upto : (p : List ℤ) → Places block t p → number block p i c ≤ℤ z → Places block (upto_value block t i c z) p
    in-upto p y l =
        let near = placed-near p y in
        places-cut block some-axes t table i c n (minus far) z p y (true-within (omega ints) l)

    pub in-past : (p : List ℤ) → Places block t p → z <ℤ number block p i c → Places block (past_value block t i c z) p
    in-past p y l =
        let near = placed-near p y in
        places-cut block some-axes t table i c n (z +ℤ pos 1) (pos far) p y
        (true-within (omega (ints, l, lin (v z ⊕ v (pos 1)))) (omega ints))

    module _ (from : number block t i c ≤ℤ z) where
      least-in : within (minus far) z (number block t i c) ≡ true
      least-in = let near = number-near block t table i c n in true-within (omega ints) from

      pub upto-part : Part block t (upto_value block t i c z)
      upto-part = cut-part i c n (minus far) z (number block t i c) least-open least-in

      pub upto-number : (p : List ℤ) → Places block (upto_value block t i c z) p → number block p i c ≤ℤ z
      upto-number p y = (cut-number i c n (minus far) z (number block t i c) least-open least-in p y).1

  module _ (i c : ℕ) (z : ℤ) (x : SplitAt block t i c z) where
    next-near : Within far x.next
    next-near = open-near block t table i c x.has x.next x.opens

    pub split-near : Within far z
    split-near =
        let a = number-near block t table i c x.has in
        let b = next-near in
        let f = x.from in
        let p = x.past in
        omega ints

    pub upto-falls : extent block (upto_value block t i c z) < extent block t
    upto-falls =
        cut-falls block some-axes t table i c x.has (minus far) z (number block t i c) (least-open i c x.has z)
        (least-in i c x.has z x.from) x.next x.opens (fails (λ e. let w = within-true e in let p = x.past in omega ints))

    next-in : within (z +ℤ pos 1) (pos far) x.next ≡ true
    next-in =
        let near = next-near in
        let p = x.past in
        true-within (omega (ints, lin (v z ⊕ v (pos 1)))) (omega ints)

    pub past-part : Part block t (past_value block t i c z)
    past-part = cut-part i c x.has (z +ℤ pos 1) (pos far) x.next x.opens next-in

    pub past-number : (p : List ℤ) → Places block (past_value block t i c z) p → z <ℤ number block p i c
    past-number p y =
        let l = (cut-number i c x.has (z +ℤ pos 1) (pos far) x.next x.opens next-in p y).0 in
        omega (ints, lin (v z ⊕ v (pos 1)))

    -- the least of them is past z too
    pub past-least : z <ℤ number block (past_value block t i c z) i c
    past-least =
        let u = past-part.accepted in
        let w = past_value block t i c z in
        let o = number-open block w (accepted-table block w u) i c (has-number block (sym past-part.inside.as_long) x.has) in
        let l = (within-true ((cut_out block t table i (z +ℤ pos 1) (pos far) c x.has i c x.has (number block w i c) o).1 refl refl)).0 in
        omega (ints, lin (v z ⊕ v (pos 1)))

    pub past-falls : extent block (past_value block t i c z) < extent block t
    past-falls =
        cut-falls block some-axes t table i c x.has (z +ℤ pos 1) (pos far) x.next x.opens next-in
        (number block t i c) (least-open i c x.has z)
        (fails (λ e. let w = within-true e in let f = x.from in omega (ints, lin (v z ⊕ v (pos 1)))))

-- a part has no greater extent
pub part-extent : {block t v : List ℤ} → refusal block t ≡ 0 → Part block t v → extent block v ≤ extent block t
part-extent {block} {t} {v} accepted x =
    ⊎_elim (λ q. rw q (omega arith)) (λ l. omega arith)
    (inside-falls block v t (accepted-table block v x.accepted) (accepted-table block t accepted) x.inside)
