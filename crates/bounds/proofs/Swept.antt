-- The sweep of an area for row i with shape s, whose bad points are the forbidden ones: a candidate that is not forbidden has the
-- extreme coordinate (`swept-found`), a region of forbidden points is jumped over (`swept-on`), and an exhausted sweep means that
-- every point of the area is forbidden (`swept_none`). One set of laws for both ends, over flip. Assumes nothing.
use mathlib.Core.Path.{◌≡◌, refl, sym, ap, ◌∙◌, subst}
use mathlib.Core.Bool.{Bool, true, false, not, cond}
use mathlib.Core.List.{List}
use Prim.Native.Nat.{ℕ, suc, ◌≤◌, ◌<◌}
use native.Mathlib.Omega.{arith}
use lib.ListN.{length}
use lib.IntN.{ℤ}
use lib.Signed.{◌≤ℤ◌}
use Rattle.integers.specs.Words.{word}
use Rattle.integers.proofs.Booleans.{clash, and-true, true-and, not-true}
use Rattle.sheet.specs.Layout.{axes}
use Rattle.sheet.specs.Allowed.{forbidden}
use Rattle.points.specs.declared.Area.{Area}
use Rattle.points.specs.Area.{coordinates, in_area, Small}
use Rattle.points.proofs.Areas.{area-at, area-by}
use Rattle.sweep.specs.Point.{InBox, Near, turn, turned, turned_end}
use Rattle.sweep.specs.Rotation.{rotation}
use Rattle.sweep.specs.declared.Sweep.{Sweep}
use Rattle.sweep.specs.Moves.{begun, jumped_past, advance}
use Rattle.sweep.specs.Theorem.{Step, Visited, start, onward, points_after, SweepTheorem}
use Rattle.sweep.proofs.Interface.{rotation-range, rotation-first, sweep-theorem, least-turned, candidate-near}
use Rattle.sweep.proofs.Mirror.{TurnedBox, near-start, near-end, box-in, box_out, box-filled, turned-turned, reverses-turn}
use Rattle.sweep.proofs.Points.{near_of}
use Rattle.nearby.specs.declared.Nearby.{Nearby}
use Rattle.bounds.specs.Search.{Ahead, free_in, Foremost, Searching}

-- ---- areas as boxes
area-box : {k : ℕ} {a : Area} (p : List ℤ) → in_area k a p ≡ true → InBox k a.low a.high p
area-box {k} {a} p e = record { from = λ d h. (area-at k a p e d h).0; upto = λ d h. (area-at k a p e d h).1 }

box-area : {k : ℕ} {a : Area} (p : List ℤ) → InBox k a.low a.high p → in_area k a p ≡ true
box-area {k} {a} p b = area-by k a p (λ d h. (b.from d h, b.upto d h))

-- turned coordinates in the order of the integers: the coordinates stand in the order of the search
turn-ahead : (flip : Bool) (y z : ℤ) → turn flip y ≤ℤ turn flip z → Ahead flip y z
unfolding turn
turn-ahead true y z h = reverses-turn y z h
turn-ahead false y z h = h

-- a sweep for dimension d, all of whose jumps were over points that are forbidden to row i with shape s. Its points are turned: a point q of it
-- stands for the point turned flip q
abbrev pub Swept : List ℤ → List ℤ → ℕ → ℕ → ℕ → Bool → List ℤ → List ℤ → Sweep → Type 0
Swept block t i s d flip first end w =
    Visited (axes block) (rotation (axes block) d) first end (λ q. forbidden block t i s (turned flip q) ≡ true) w

-- how many points are left, its candidate and those after it
abbrev pub points_left : List ℤ → ℕ → List ℤ → List ℤ → Sweep → ℕ
points_left block d first end w = cond w.live (suc (points_after (rotation (axes block) d) first end (axes block) w.candidate)) 0

-- what is swept for dimension d: the area a, which has a point, from first to end when it is turned
pub record Task (block : List ℤ) (d : ℕ) (flip : Bool) (a : Area) (first end : List ℤ) : Type 0 where
  pub few : axes block ≤ coordinates
  pub below : d < axes block
  pub small : Small a
  pub filled : in_area (axes block) a a.low ≡ true
  pub turns : TurnedBox flip a.low a.high first end
  pub first_long : length first ≡ coordinates
  pub end_long : length end ≡ coordinates

-- what a search leans on, with the ends of its turned area
pub task-of : {block t o list known first end : List ℤ} {x : Nearby} {d : ℕ} {a : Area} {flip : Bool} → Searching block t o list known x d a
    → first ≡ turned_end flip a.high a.low → end ≡ turned_end flip a.low a.high → length first ≡ coordinates → length end ≡ coordinates
    → Task block d flip a first end
task-of s f e m n =
    record {
      few = s.subject.accepted.head.few_axes;
      below = s.below;
      small = s.small;
      filled = s.filled;
      turns = record { start = f; end = e };
      first_long = m;
      end_long = n;
    }

-- the sweep meets a region: its candidate stands for the point p, and x is an area around p, all of whose points are forbidden, that ends at last
-- when it is turned
pub record Encounter (block t : List ℤ) (i s d : ℕ) (flip : Bool) (first end : List ℤ) (w : Sweep) (p : List ℤ) (x : Area) (last : List ℤ)
    : Type 0 where
  pub swept : Swept block t i s d flip first end w
  pub live : w.live ≡ true
  pub point : p ≡ turned flip w.candidate
  pub around : in_area (axes block) x p ≡ true
  pub only : (q : List ℤ) → in_area (axes block) x q ≡ true → forbidden block t i s q ≡ true
  pub ends : last ≡ turned_end flip x.low x.high
  pub long : length last ≡ coordinates

-- the bounds of a small area are near
pub near-low : {a : Area} → Small a → Near a.low
near-low s = near_of (omega arith) s.lows

pub near-high : {a : Area} → Small a → Near a.high
near-high s = near_of (omega arith) s.highs

-- a region that ends at last when it is turned
pub near_last : (flip : Bool) (x : Area) {last : List ℤ} → Small x → last ≡ turned_end flip x.low x.high → Near last
near_last flip x s e = near-end {low = x.low} {high = x.high} (record { start = refl; end = e }) (near-low s) (near-high s)

module _ {block : List ℤ} {d : ℕ} {flip : Bool} {a : Area} {first end : List ℤ} (task : Task block d flip a first end) where
  pub task-start-near : Near first
  task-start-near = near-start task.turns (near-low task.small) (near-high task.small)

  pub task-end-near : Near end
  task-end-near = near-end task.turns (near-low task.small) (near-high task.small)

  module _ (t : List ℤ) (i s : ℕ) where
    abbrev Bad : List ℤ → Type 0
    Bad q = forbidden block t i s (turned flip q) ≡ true

    theorem : SweepTheorem (axes block) (rotation (axes block) d) first end Bad
    theorem =
        sweep-theorem
        (rotation-range task.few task.below (omega (arith, task.few, task.first_long)) (omega (arith, task.few, task.end_long))
        (box-filled task.turns (area-box a.low task.filled)))
        Bad

    pub swept-start : {w : Sweep} → w ≡ begun first end → Swept block t i s d flip first end w
    swept-start e = start e

    -- a point of the area, turned, is one of the sweep's range
    in-range : (p : List ℤ) → in_area (axes block) a p ≡ true → InBox (axes block) first end (turned flip p)
    in-range p e = box-in task.turns (rw turned-turned (area-box p e))

    not-bad : (p : List ℤ) → forbidden block t i s p ≡ false → Bad (turned flip p) → ⊥
    not-bad p e b = clash (ap (forbidden block t i s) (sym (turned-turned flip p)) ∙ b) e

    free-parts : (p : List ℤ) → free_in block t i s a p ≡ true → (in_area (axes block) a p ≡ true) × (forbidden block t i s p ≡ false)
    unfolding free_in
    free-parts p e = let w = and-true e in (w.0, not-true w.1)

    free-by : (p : List ℤ) → in_area (axes block) a p ≡ true → forbidden block t i s p ≡ false → free_in block t i s a p ≡ true
    unfolding free_in
    free-by p e f = true-and e (ap not f)

    module _ {w : Sweep} (r : Swept block t i s d flip first end w) where
      pub swept-near : w.live ≡ true → Near w.candidate
      swept-near l = candidate-near theorem r l task-start-near task-end-near

      -- p is the point that the candidate stands for
      module _ {p : List ℤ} (point : p ≡ turned flip w.candidate) (live : w.live ≡ true) where
        pub swept-in : in_area (axes block) a p ≡ true
        swept-in =
            subst (λ (q : List ℤ). in_area (axes block) a q ≡ true) (sym point) (box-area _ (box_out task.turns (theorem.inside r live)))

        pub swept-found : forbidden block t i s p ≡ false → Foremost flip block t i s a d p
        swept-found e =
            record {
              free = free-by p swept-in e;
              first =
                  λ q f.
                  let g = free-parts q f in
                  turn-ahead flip (word p d) (word q d)
                  (least-turned theorem r live (rotation-first task.few task.below) flip point q (in-range q g.0) (not-bad q g.1));
            }

      pub swept_none : w.live ≡ false → (p : List ℤ) → free_in block t i s a p ≡ true → ⊥
      swept_none l p e = let g = free-parts p e in not-bad p g.1 (theorem.exhausted r l (turned flip p) (in-range p g.0))

    -- ---- the jump over the region that the sweep met
    module _ {w next : Sweep} {p : List ℤ} {x : Area} {last : List ℤ} (met : Encounter block t i s d flip first end w p x last)
        (moves : next ≡ advance (rotation (axes block) d) first end (axes block) (jumped_past w last)) where
      turned-x : TurnedBox flip x.low x.high (turned_end flip x.high x.low) last
      turned-x = record { start = refl; end = met.ends }

      step : Step (axes block) (rotation (axes block) d) first end Bad w next
      step =
          record {
            live = met.live;
            first = turned_end flip x.high x.low;
            last = last;
            long = omega (arith, task.few, met.long);
            around = box-in turned-x (subst (InBox (axes block) x.low x.high) met.point (area-box p met.around));
            bad = λ q b c. met.only (turned flip q) (box-area (turned flip q) (box_out turned-x c));
            next = moves;
          }

      pub swept-on : Swept block t i s d flip first end next
      swept-on = onward met.swept step

      abbrev after : Sweep → ℕ
      after v = points_after (rotation (axes block) d) first end (axes block) v.candidate

      fewer : (b : Bool) → next.live ≡ b → cond b (suc (after next)) 0 < suc (after w)
      fewer true l = omega (arith, theorem.falls met.swept step l)
      fewer false l = omega arith

      pub swept-falls : points_left block d first end next < points_left block d first end w
      swept-falls = rw met.live (fewer next.live refl)
