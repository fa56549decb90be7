-- The chain is made box by box, from the last to the first (`chained_more`), and hangs on its own words alone (`chained-kept`). A shape has a
-- first box where it has a box (`boxed-first`, `first-none`), and who walks along its chain passes over none of its boxes (`walk`). Assumes
-- nothing.
use mathlib.Core.Path.{◌≡◌, sym, ap, ◌∙◌, subst}
use mathlib.Core.Logic.{◌⊎◌, inl, inr, ⊎_elim}
use mathlib.Core.Bool.{true, false}
use mathlib.Core.List.{List}
use Prim.Native.Nat.{ℕ, ◌+◌, ◌≤◌, ◌<◌}
use native.Mathlib.Nat.{eq-or-lt_of_le}
use native.Mathlib.Omega.{arith}
use lib.IntN.{ℤ, pos}
use lib.ListN.{length, set, length-set}
use lib.Seq.{get_or-set_same, get_or-set_other}
use Rattle.std.specs.Prelude.{Option, Some, None, MatchOption}
use Rattle.std.specs.Option.{is_some, unwrap_or}
use Rattle.integers.specs.Integer.{nat}
use Rattle.integers.specs.Words.{word}
use Rattle.integers.proofs.Booleans.{clash, fails}
use Rattle.integers.proofs.Below.{same_or}
use Rattle.integers.proofs.Ints.{ints, eq_z-eq, eq-eq_z}
use Rattle.integers.proofs.Ranges.{pos-nat}
use Rattle.sheet.specs.Layout.{boxes, shape_of, is_of}
use Rattle.sheet.specs.Accepted.{Count, Head, Boxed, Block}
use Rattle.outline.specs.Places.{shapes_most, first_at, rules_at, SameTo}
use Rattle.outline.specs.Chain.{next_of, first_box_of, Chained, ChainedFrom, NoneFrom, FirstFrom}

-- a word that is a small count
count-is : {z : ℤ} {n : ℕ} → z ≡ pos n → n ≤ 128 → Count z
count-is e h = record { from = omega ints; upto = omega ints }

-- a box is of one shape
pub shape_is : (block : List ℤ) (b s : ℕ) → is_of block b s ≡ true → nat (shape_of block b) ≡ s
unfolding is_of
shape_is block b s e = ap nat (eq_z-eq e)

shape-own : (block : List ℤ) (b s : ℕ) → Count (shape_of block b) → nat (shape_of block b) ≡ s → is_of block b s ≡ true
unfolding is_of
shape-own block b s c e = eq-eq_z (sym (pos-nat c.from) ∙ ap pos e)

shape-other : (block : List ℤ) (b s : ℕ) → (nat (shape_of block b) ≡ s → ⊥) → is_of block b s ≡ false
shape-other block b s f = fails (λ e. f (shape_is block b s e))

-- ---- one box more, of shape s: its word is where the shape began, and the shape begins with it
module _ {block o : List ℤ} {b s : ℕ} (accepted : Block block) (x : ChainedFrom block o (b + 1)) (below : b < boxes block)
    (long : rules_at ≤ length o) (is : nat (shape_of block b) ≡ s) where
  abbrev next : ℕ
  next = first_box_of block o s

  abbrev own : List ℤ
  own = set o b (pos next)

  abbrev both : List ℤ
  both = set own (first_at s) (pos b)

  few : boxes block ≤ 128
  few = accepted.head.few_boxes

  small : s < shapes_most
  small = omega (arith, accepted.shapes_upto b below)

  here : word both b ≡ pos next
  here = get_or-set_other own (first_at s) b (pos b) (pos 0) (λ e. omega (arith, few)) ∙ get_or-set_same o b (pos next) (pos 0) (omega (arith, few))

  rest : (c : ℕ) → b < c → c < boxes block → word both c ≡ word o c
  rest c m l =
      get_or-set_other own (first_at s) c (pos b) (pos 0) (λ e. omega (arith, few)) ∙ get_or-set_other o b c (pos next) (pos 0) (λ e. omega arith)

  first-here : word both (first_at s) ≡ pos b
  first-here = get_or-set_same own (first_at s) (pos b) (pos 0) (simp length-set (omega (arith, small)))

  first_else : (t : ℕ) → (t ≡ s → ⊥) → word both (first_at t) ≡ word o (first_at t)
  first_else t g =
      get_or-set_other own (first_at s) (first_at t) (pos b) (pos 0) (λ e. g (omega arith))
      ∙ get_or-set_other o b (first_at t) (pos next) (pos 0) (λ e. omega (arith, few))

  -- shape t begins with the box, or the box is not its own
  heads : (t : ℕ) → ((word both (first_at t) ≡ pos b) × (is_of block b t ≡ true))
      ⊎ ((word both (first_at t) ≡ word o (first_at t)) × (is_of block b t ≡ false))
  heads t = ⊎_elim
      (λ e. inl (ap (λ (t : ℕ). word both (first_at t)) e ∙ first-here, shape-own block b t (accepted.shapes b below) (is ∙ sym e)))
      (λ g. inr (first_else t g, shape-other block b t (λ e. g (sym e ∙ is))))
      (same_or t s)

  -- a statement about each box from b on
  each : (P : ℕ → Type 0) → P b → ((c : ℕ) → b < c → P c) → (c : ℕ) → b ≤ c → P c
  each P p f c l = ⊎_elim (λ e. subst P e p) (f c) (eq-or-lt_of_le l)

  of-own : (P : ℕ → Type 0) (t : ℕ) → is_of block b t ≡ true → P s → P t
  of-own P t e = subst P (sym is ∙ shape_is block b t e)

  first-of-shape : (t : ℕ) → t < shapes_most → first_box_of block both t < boxes block → is_of block (first_box_of block both t) t ≡ true
  first-of-shape t k i = ⊎_elim
      (λ e. subst (λ (z : ℤ). is_of block (nat z) t ≡ true) (sym e.0) e.1)
      (λ e. subst (λ (z : ℤ). is_of block (nat z) t ≡ true) (sym e.0)
      (x.first_is t k (subst (λ (z : ℤ). nat z < boxes block) e.0 i)))
      (heads t)

  skips-from : (t c : ℕ) → t < shapes_most → b ≤ c → c < first_box_of block both t → is_of block c t ≡ false
  skips-from t c k m i = ⊎_elim
      (λ e. absurd (omega (arith, ap nat e.0)))
      (λ e. each (λ (q : ℕ). q < first_box_of block both t → is_of block q t ≡ false) (λ j. e.1)
      (λ q j i. x.first_skips t q k (omega arith) (subst (λ (z : ℤ). q < nat z) e.0 i)) c m i)
      (heads t)

  next-of-shape : (t c : ℕ) → b ≤ c → c < boxes block → is_of block c t ≡ true → next_of block both c < boxes block
      → is_of block (next_of block both c) t ≡ true
  next-of-shape t = each
      (λ (c : ℕ). c < boxes block → is_of block c t ≡ true → next_of block both c < boxes block → is_of block (next_of block both c) t ≡ true)
      (λ l e i. subst (λ (z : ℤ). is_of block (nat z) t ≡ true) (sym here)
      (of-own (λ (t : ℕ). is_of block next t ≡ true) t e (x.first_is s small (omega (arith, ap nat here)))))
      (λ c m l e i. subst (λ (z : ℤ). is_of block (nat z) t ≡ true) (sym (rest c m l))
      (x.next_is t c (omega arith) l e (subst (λ (z : ℤ). nat z < boxes block) (rest c m l) i)))

  pub chained_more : ChainedFrom block both b
  chained_more = record {
    first_count = λ t k. ⊎_elim (λ e. count-is e.0 (omega (arith, few))) (λ e. subst Count (sym e.0) (x.first_count t k)) (heads t);
    first_from = λ t k. ⊎_elim (λ e. omega (arith, ap nat e.0)) (λ e. omega (arith, ap nat e.0, x.first_from t k)) (heads t);
    first_upto = λ t k. ⊎_elim (λ e. omega (arith, ap nat e.0)) (λ e. omega (arith, ap nat e.0, x.first_upto t k)) (heads t);
    first_is = first-of-shape;
    first_skips = skips-from;
    next_count = each (λ (c : ℕ). c < boxes block → Count (word both c)) (λ l. count-is here (omega (arith, few, x.first_upto s small)))
        (λ c m l. subst Count (sym (rest c m l)) (x.next_count c (omega arith) l));
    next_after = each (λ (c : ℕ). c < boxes block → c < next_of block both c) (λ l. omega (arith, ap nat here, x.first_from s small))
        (λ c m l. omega (arith, ap nat (rest c m l), x.next_after c (omega arith) l));
    next_upto = each (λ (c : ℕ). c < boxes block → next_of block both c ≤ boxes block)
        (λ l. omega (arith, ap nat here, x.first_upto s small))
        (λ c m l. omega (arith, ap nat (rest c m l), x.next_upto c (omega arith) l));
    next_is = next-of-shape;
    next_skips = λ t q c. each
        (λ (q : ℕ). q < boxes block → is_of block q t ≡ true → q < c → c < next_of block both q → is_of block c t ≡ false)
        (λ l e i j. of-own (λ (t : ℕ). is_of block c t ≡ false) t e
        (x.first_skips s c small (omega arith) (omega (arith, ap nat here))))
        (λ q m l e i j. x.next_skips t q c (omega arith) l e i (omega (arith, ap nat (rest q m l)))) q;
  }

-- ---- a shape has a box where it has a first one
pub boxed-first : {block : List ℤ} {s : ℕ} (x : Option ℕ) → FirstFrom block s 0 x → is_some x ≡ true → Boxed block s
boxed-first (Some b) f e = record { box = b; below = f.below; is = f.is }
boxed-first None f e = absurd (cc)

pub first-none : {block : List ℤ} {s : ℕ} (x : Option ℕ) → FirstFrom block s 0 x → is_some x ≡ false → Boxed block s → ⊥
first-none (Some b) f e w = absurd (cc)
first-none None f e w = clash w.is (f w.box (omega arith) w.below)

-- ---- a walk along the chain: all boxes below `upto` are passed, and the one there, where it is a box, is one of the shape
abbrev pub upto : List ℤ → Option ℕ → ℕ
upto block x = unwrap_or x (boxes block)

abbrev pub Next : List ℤ → ℕ → Option ℕ → Type 0
Next block s x = MatchOption x (Unit {0}) (λ b. (b < boxes block) × (is_of block b s ≡ true))

-- from box m on
pub record Walk (block : List ℤ) (s m : ℕ) (x : Option ℕ) : Type 0 where
  pub next : Next block s x
  pub from : m ≤ upto block x
  pub skips : NoneFrom block s m (upto block x)

pub walk : {block : List ℤ} {s m : ℕ} (x : Option ℕ) → m ≤ boxes block → FirstFrom block s m x → Walk block s m x
walk (Some b) h f = record { next = (f.below, f.is); from = f.from; skips = f.skips }
walk None h f = record { next = tt; from = h; skips = f }

-- ---- a run that has the same words
pub chained-kept : {at : ℕ} {block o o' : List ℤ} → Head block → rules_at ≤ at → SameTo at o o' → Chained block o → Chained block o'
chained-kept {block} {o} {o'} h past same x = record {
  first_count = λ s k. subst Count (sym (first s k)) (x.first_count s k);
  first_from = λ s k. omega arith;
  first_upto = λ s k. omega (arith, ap nat (first s k), x.first_upto s k);
  first_is = λ s k i.
      subst (λ (z : ℤ). is_of block (nat z) s ≡ true) (sym (first s k))
      (x.first_is s k (subst (λ (z : ℤ). nat z < boxes block) (first s k) i));
  first_skips = λ s b k m i. x.first_skips s b k m (omega (arith, ap nat (first s k)));
  next_count = λ b m k. subst Count (sym (next b k)) (x.next_count b m k);
  next_after = λ b m k. omega (arith, ap nat (next b k), x.next_after b m k);
  next_upto = λ b m k. omega (arith, ap nat (next b k), x.next_upto b m k);
  next_is = λ s b m k e i.
      subst (λ (z : ℤ). is_of block (nat z) s ≡ true) (sym (next b k))
      (x.next_is s b m k e (subst (λ (z : ℤ). nat z < boxes block) (next b k) i));
  next_skips = λ s b c m k e i j. x.next_skips s b c m k e i (omega (arith, ap nat (next b k)));
}
  where
    first : (s : ℕ) → s < shapes_most → word o' (first_at s) ≡ word o (first_at s)
    first s k = same.words (first_at s) (omega arith)

    next : (b : ℕ) → b < boxes block → word o' b ≡ word o b
    next b k = same.words b (omega (arith, h.few_boxes))
