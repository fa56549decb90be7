-- One turn of the settling loop: what the answer of narrowing a row leaves of the way and of the rows to narrow. Assumes nothing.
use mathlib.Core.Path.{◌≡◌, refl, sym, ap, ◌∙◌, subst}
use mathlib.Core.Bool.{Bool, true, false, cond}
use mathlib.Core.List.{List, [], ◌∷◌}
use mathlib.Core.Option.{Option, none, some}
use Prim.Native.Nat.{ℕ, zero, suc, ◌+◌, ◌≤◌, ◌<◌}
use native.Mathlib.Numerals.{add-one}
use native.Mathlib.Omega.{arith}
use lib.IntN.{ℤ, pos}
use lib.ListN.{set}
use Rattle.integers.specs.Below.{value_or}
use Rattle.integers.specs.Words.{word, same_words}
use Rattle.integers.proofs.Booleans.{clash}
use Rattle.integers.proofs.Ints.{ints}
use Rattle.integers.proofs.Lists.{same-eq, same_refl}
use Rattle.sheet.specs.Layout.{axes, rules, rows}
use Rattle.sheet.specs.Accepted.{Block, Table}
use Rattle.sheet.specs.Narrow.{narrow_of}
use Rattle.sheet.specs.Settle.{settle_of}
use Rattle.sheet.proofs.Local.{Harmless}
use Rattle.sheet.proofs.Demand3.{Good, narrow}
use Rattle.narrow.specs.Steps.{step_answer}
use Rattle.narrow.specs.declared.Step.{Step}
use Rattle.narrow.specs.declared.Step.TheVariants.{NoPlace, Still, Moved}
use Rattle.settle.specs.Todo.{todo, Touched, Spared}
use lib.Seq.{get_or-set_other}
use Rattle.settle.proofs.Worked.{OnTheWay, to_go, worked-none, worked-still, worked-good, worked-moved, worked-falls, less-rows, less-extent}

-- ---- the answer
answer-none : (t : List ℤ) (o : Option (List ℤ)) → NoPlace ≡ step_answer t o → o ≡ none
unfolding step_answer
answer-none t none e = refl
answer-none t (some v) e = absurd (go (same_words v t) e)
  where
    go : (b : Bool) → NoPlace ≡ cond b Still Moved → ⊥
    go true q = let z : ◌≡◌ {A = ℕ} 0 1 = cc in omega arith
    go false q = let z : ◌≡◌ {A = ℕ} 0 1 = cc in omega arith

answer-still : (t : List ℤ) (o : Option (List ℤ)) → Still ≡ step_answer t o → o ≡ some t
unfolding step_answer
answer-still t none e = absurd (let z : ◌≡◌ {A = ℕ} 0 1 = cc in omega arith)
answer-still t (some v) e = ap some (go (same_words v t) refl e)
  where
    go : (b : Bool) → same_words v t ≡ b → Still ≡ cond b Still Moved → v ≡ t
    go true q k = same-eq q
    go false q k = absurd (let z : ◌≡◌ {A = ℕ} 0 1 = cc in omega arith)

answer-moved : (t w : List ℤ) (o : Option (List ℤ)) → Moved ≡ step_answer t o → w ≡ value_or t o → (o ≡ some w) × (w ≡ t → ⊥)
unfolding step_answer value_or
answer-moved t w none e h = absurd (let z : ◌≡◌ {A = ℕ} 0 1 = cc in omega arith)
answer-moved t w (some v) e h = (ap some (sym h), λ q. go (same_words v t) refl e (sym h ∙ q))
  where
    go : (b : Bool) → same_words v t ≡ b → Moved ≡ cond b Still Moved → v ≡ t → ⊥
    go true q k y = let z : ◌≡◌ {A = ℕ} 0 1 = cc in omega arith
    go false q k y = clash (subst (λ (x : List ℤ). same_words x t ≡ true) (sym y) (same_refl t)) q

left-still : (t w : List ℤ) {o : Option (List ℤ)} → o ≡ some t → w ≡ value_or t o → w ≡ t
unfolding value_or
left-still t w e h = h ∙ ap (value_or t) e

-- ---- a row that is not to be narrowed any more
abbrev pub cleared : List Bool → ℕ → List Bool
cleared due i = set due i false

cleared_at : (due : List Bool) (i : ℕ) → todo (cleared due i) i ≡ false
cleared_at [] i = refl
cleared_at (x ∷ xs) zero = refl
cleared_at (x ∷ xs) (suc i) = cleared_at xs i

cleared-other : {due more : List Bool} (i m : ℕ) → more ≡ due → (m ≡ i → ⊥) → todo (cleared more i) m ≡ todo due m
cleared-other {more = more} i m q ne = get_or-set_other more i m false false ne ∙ ap (λ (l : List Bool). todo l m) q

-- ---- one turn: a row, number i + 1, was narrowed in v; its answer is r, and the table left w
pub record Turn (block : List ℤ) (t v w : List ℤ) (due : List Bool) (i row : ℕ) (r : Step) : Type 0 where
  pub dims : 0 < axes block
  pub way : OnTheWay block t v due
  pub below : i < rows block t
  pub few : rows block t ≤ 32
  pub number : row ≡ i + 1
  pub told : r ≡ step_answer v (narrow_of block v row)
  pub left : w ≡ value_or v (narrow_of block v row)

pub turn-of : {block t v w : List ℤ} {due : List Bool} {i n row : ℕ} {r : Step} → Block block → Table block t → OnTheWay block t v due
    → n ≡ rows block t → i < n → row ≡ i + 1 → (r ≡ step_answer v (narrow_of block v row)) × (w ≡ value_or v (narrow_of block v row))
    → Turn block t v w due i row r
turn-of accepted table way count below number told =
    record {
      dims = accepted.head.some_axes;
      way = way;
      below = omega arith;
      few = table.whole.few_rows;
      number = number;
      told = told.0;
      left = told.1;
    }

module _ {block : List ℤ} {t v w : List ℤ} {due : List Bool} {i row : ℕ} {r : Step} (x : Turn block t v w due i row r) where
  found : narrow_of block v row ≡ narrow block i v
  found = ap (narrow_of block v) (x.number ∙ add-one i)

  pub turn-none : r ≡ NoPlace → settle_of block t ≡ none
  turn-none e =
      worked-none block x.dims t v due x.way i x.below (sym found ∙ answer-none v (narrow_of block v row) (sym e ∙ x.told))

  -- nothing moved
  module _ (e : r ≡ Still) where
    stood : narrow_of block v row ≡ some v
    stood = answer-still v (narrow_of block v row) (sym e ∙ x.told)

    same : v ≡ w
    same = sym (left-still v w stood x.left)

    module _ {more : List Bool} (q : more ≡ due) where
      pub turn-still : OnTheWay block t w (cleared more i)
      turn-still =
          subst (λ (u : List ℤ). OnTheWay block t u (cleared more i)) same
          (worked-still block x.dims t v due x.way i x.below (cleared more i) (sym found ∙ stood) (λ m ne. cleared-other i m q ne))

      pub still-less : todo due i ≡ true → to_go block (rows block t) w (cleared more i) < to_go block (rows block t) v due
      still-less set =
          subst (λ (u : List ℤ). to_go block (rows block t) u (cleared more i) < to_go block (rows block t) v due) same
          (less-rows block (rows block t) x.few v due (cleared more i) i x.below set (cleared_at more i) (λ m ne. cleared-other i m q ne))

  -- a word moved
  module _ (e : r ≡ Moved) where
    moved : (narrow_of block v row ≡ some w) × (w ≡ v → ⊥)
    moved = answer-moved v w (narrow_of block v row) (sym e ∙ x.told) x.left

    pub turn-good : Good block t w
    turn-good = worked-good block x.dims t v due x.way i x.below w (sym found ∙ moved.0)

    pub turn_moved : {n : ℕ} {set more : List Bool} → more ≡ set → n ≡ rows block t
        → Touched n due (λ m. (q : ℕ) → q < rules block → Spared block w row q m) set → OnTheWay block t w (cleared more i)
    turn_moved {more = more} q k y =
        worked-moved block x.dims t v due x.way i x.below w (sym found ∙ moved.0) (cleared more i)
        (λ m h ne c. let a = y.left m (omega (arith, h, k)) (sym (cleared-other i m q ne) ∙ c) in (a.0, harmless-by m a.1))
      where
        harmless-by : (m : ℕ) → ((q : ℕ) → q < rules block → Spared block w row q m) → Harmless block w (suc i) (suc m)
        harmless-by m spared =
            subst (λ (j : ℕ). Harmless block w j (suc m)) (x.number ∙ add-one i)
            (record { spares = λ q s p l kind names-i names held ranged. (spared q l kind names-i names).spares s p held ranged })

    pub moved-less : (more : List Bool) → to_go block (rows block t) w more < to_go block (rows block t) v due
    moved-less more =
        less-extent block (rows block t) x.few v w due more
        (worked-falls block x.dims t v due x.way i x.below w (sym found ∙ moved.0) moved.1)
