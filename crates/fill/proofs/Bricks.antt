-- A box in the room: where it starts and ends (`start-near`, `from_some`), that its brick lies in the grid (`brick-lies`) and has the
-- cells that the box covers (`brick-covers`). Assumes nothing.
use mathlib.Core.Path.{◌≡◌, refl, ap, ap₂, ◌∙◌, subst}
use mathlib.Core.Bool.{Bool, false, ◌&&◌, ◌||◌}
use mathlib.Core.List.{List}
use Prim.Native.Nat.{ℕ, ◌+◌, ◌<◌}
use native.Mathlib.Omega.{arith}
use lib.ListN.{get_or}
use lib.Dec.{leb, ltb}
use lib.IntN.{ℤ, pos, ◌+ℤ◌, ◌-ℤ◌}
use lib.Signed.{◌≤ℤ◌, le_z, lt_z}
use borrow.Author.Tests.{leb-true, le-leb, ltb-true, lt-ltb}
use Rattle.integers.specs.Integer.{Within}
use Rattle.integers.specs.Below.{product_below}
use Rattle.integers.proofs.Booleans.{both_ways}
use Rattle.integers.proofs.Below.{all_same}
use Rattle.integers.proofs.Digits.{product-same, digit-same}
use Rattle.integers.proofs.Ints.{ints, lin, v, ◌⊕◌, ◌⊖◌, sum}
use Rattle.integers.proofs.Ranges.{nat-diff}
use Rattle.sheet.specs.Layout.{dims, offset, size, low, room_low, room_high}
use Rattle.sheet.specs.Placement.{box_start, box_end}
use Rattle.sheet.specs.Fill.{room_width, room_cells, box_covers}
use Rattle.sheet.specs.Cells.{cell_at}
use Rattle.sheet.specs.Accepted.{Block}
use Rattle.sheet.proofs.Fill.{box-in-room}
use Rattle.sheet.proofs.Forbidden.{axis}
use Rattle.sheet.proofs.Cells.{cell-word}
use Rattle.words.specs.declared.Place.{Place}
use Rattle.grid.specs.declared.Brick.{Brick}
use Rattle.grid.specs.Grid.{at, Lies, in_brick}
use Rattle.fill.proofs.Rooms.{low_near}
use Rattle.fill.specs.Room.{IsWidths, NamedBox, IsPlace, IsBrick, Adds}

-- a place from n on, counted from a or not
same_place : (a : ℤ) (f s n : ℕ) {start len : ℤ} → a +ℤ pos f ≡ start → pos s ≡ len
    → (leb f n && ltb n (f + s)) ≡ (le_z start (a +ℤ pos n) && lt_z (a +ℤ pos n) (start +ℤ len))
same_place a f s n {start} {len} e g =
    let x = sum a (pos f) in
    let y = sum a (pos n) in
    let z = sum start len in
    ap₂ ◌&&◌
    (both_ways (leb f n) (le_z start (a +ℤ pos n)) (λ h. let k = leb-true f n h in omega (ints, x, y)) (λ h. le-leb f n (omega (ints, x, y))))
    (both_ways (ltb n (f + s)) (lt_z (a +ℤ pos n) (start +ℤ len)) (λ h. let k = ltb-true n (f + s) h in omega (ints, x, y, z))
    (λ h. lt-ltb n (f + s) (omega (ints, x, y, z))))

module _ {block t : List ℤ} {r i b : Place} (w : NamedBox block t r i b) where
  -- ---- one dimension
  module _ {d : ℕ} (l : d < dims block) where
    abbrev start : ℤ
    start = box_start block t i.number b.number d

    in-room : (room_low block r.number d ≤ℤ start) × (box_end block t i.number b.number d ≤ℤ room_high block r.number d)
    in-room =
        let n = w.of in
        let k = n.counting in
        box-in-room block t k.room.accepted k.all_fixed k.all_good k.room.is_fill k.room.rule.below
        (record { from = n.row.from; upto = n.row.upto }) n.named w.box.below w.is l

    pub at-near : Within 1000000 (low block t i.number d)
    at-near = w.of.counting.table.lows i.number d w.of.row.from w.of.row.upto (axis block l)

    pub offset_near : Within 10000 (offset block b.number d)
    offset_near = w.of.counting.room.accepted.offsets b.number d w.box.below l

    pub corner-near : Within 1000000 (room_low block r.number d)
    corner-near = low_near w.of.counting.room l

    pub size-near : Within 10000 (size block b.number d)
    size-near = w.of.counting.room.accepted.sizes b.number d w.box.below l

    pub size-from : pos 1 ≤ℤ size block b.number d
    size-from = w.of.counting.room.accepted.sizes_from b.number d w.box.below l

    -- from the room's low corner to the box
    abbrev pub away : ℤ
    away = low block t i.number d +ℤ offset block b.number d -ℤ room_low block r.number d

    pub away-from : pos 0 ≤ℤ away
    unfolding box_start
    away-from =
        let s = in-room.0 in
        omega (
          ints,
          lin (v (low block t i.number d) ⊕ v (offset block b.number d) ⊖ v (room_low block r.number d)),
          lin (v (low block t i.number d) ⊕ v (offset block b.number d)),
        )

    pub away-upto : away ≤ℤ pos 2010000
    away-upto =
        let x = at-near in
        let y = offset_near in
        let z = corner-near in
        omega (ints, lin (v (low block t i.number d) ⊕ v (offset block b.number d) ⊖ v (room_low block r.number d)))

    pub away-place : {n : ℕ} → pos n ≡ away → IsPlace block t r.number i.number b.number d n
    unfolding box_start
    away-place {n} e =
        omega (
          ints,
          lin (v (low block t i.number d) ⊕ v (offset block b.number d) ⊖ v (room_low block r.number d)),
          lin (v (low block t i.number d) ⊕ v (offset block b.number d)),
          sum (room_low block r.number d) (pos n),
        )

  -- ---- the brick
  module _ (widths : List ℕ) (x : Brick) (wide : IsWidths block r.number widths)
      (is : IsBrick block t r.number i.number b.number x) where
    abbrev own : Block block
    own = w.of.counting.room.accepted

    end_is : (d : ℕ) → box_end block t i.number b.number d ≡ box_start block t i.number b.number d +ℤ size block b.number d
    unfolding box_start box_end
    end_is d = refl

    pub as_many : product_below (dims block) (at widths) ≡ room_cells block r.number
    unfolding room_cells
    as_many = product-same wide

    pub brick-lies : Lies (dims block) widths x
    unfolding room_width
    brick-lies = record {
      some_dims = own.head.some_dims;
      few_dims = own.head.few_dims;
      few_cells = rw as_many w.of.counting.few_cells;
      sizes = λ d l. let e = is.size d l in let f = size-from l in omega ints;
      inside = λ d l.
          let e = is.size d l in
          let f = is.from d l in
          let g = (in-room l).1 in
          omega (
            ints,
            wide d l,
            nat-diff (room_high block r.number d) (room_low block r.number d),
            sum (room_low block r.number d) (pos (at x.from d)),
            end_is d,
            sum (box_start block t i.number b.number d) (size block b.number d),
          );
    }

    pub brick-covers : (m : ℕ) → in_brick (dims block) widths x m ≡ box_covers block t i.number b.number (cell_at block r.number m)
    unfolding in_brick box_covers
    brick-covers m = all_same (λ d l.
        rw (digit-same {w' = room_width block r.number} m {d = d} (λ e h. wide e (omega arith)), cell-word block r.number m l, end_is d)
        (same_place (room_low block r.number d) (at x.from d) (at x.size d) _ (is.from d l) (is.size d l)))

    -- marking the brick marks the cells that box c covers; k and c are the dimensions and the box as the code holds them
    pub brick-adds : {k c : ℕ} {old new : List Bool} → k ≡ dims block → b.number ≡ c
        → ((m : ℕ) → m < product_below k (at widths) → get_or new m false ≡ (get_or old m false || in_brick k widths x m))
        → Adds (room_cells block r.number) (λ m. box_covers block t i.number c (cell_at block r.number m)) old new
    brick-adds {old} {new} e q h = record {
      marks = λ m l.
          subst (λ (k : ℕ). (m : ℕ) → m < product_below k (at widths) → get_or new m false ≡ (get_or old m false || in_brick k widths x m)) e h m
          (rw as_many l)
          ∙ ap (λ (a : Bool). get_or old m false || a)
          (brick-covers m ∙ ap (λ (n : ℕ). box_covers block t i.number n (cell_at block r.number m)) q);
    }
