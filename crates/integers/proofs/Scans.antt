-- What `all` and `any` over a range of numbers say, where the closure computes a test: the tests over the numbers below n. Assumes nothing.
use mathlib.Core.Path.{◌≡◌, sym, ap, ◌∙◌}
use mathlib.Core.Bool.{Bool, true, false, ◌&&◌, ◌||◌, and_assoc, or_assoc, and_comm, or_comm}
use mathlib.Core.List.{List}
use Rattle.std.specs.Prelude.{Option}
use Prim.Native.Nat.{ℕ, zero, suc, ◌+◌}
use native.Mathlib.Omega.{arith}
use denote.Param.Members.{Mut}
use Rattle.std.specs.Fn.{Called}
use Rattle.std.specs.Iterator.{YieldsThen}
use Rattle.std.specs.List.{FoldsTo, range_with_len, list_all, list_any}
use Rattle.std.specs.Option.{MatchOption}
use Rattle.std.proofs.iter.Yields.{nat_range_steps}
use Rattle.std.proofs.lemmas.Iterator.{YieldsList-from_range}
use Rattle.std.proofs.lemmas.Iterator.Search.{all_from_yields_List, any_from_yields_List}
use Rattle.std.specs.declared.ops.Range.{Range}
use Rattle.integers.specs.Below.{all_below, any_below}
use Rattle.integers.proofs.Below.{all_more, any-more}

-- ---- the tests from the first number on
-- the numbers from a on, tested from the first, are those below a + n, tested from the last, past those below a
all_from : (f : ℕ → Bool) (a n : ℕ) → (all_below a f && list_all f (range_with_len a n)) ≡ all_below (a + n) f
all_from f a zero = and_comm (all_below a f) true ∙ ap (λ (m : ℕ). all_below m f) (omega arith)
all_from f a (suc n) =
    sym (and_assoc (all_below a f) (f a) (list_all f (range_with_len (a + 1) n))) ∙ ap (λ (b : Bool). b && list_all f (range_with_len (a + 1) n)) (sym (all_more a f))
    ∙ all_from f (a + 1) n ∙ ap (λ (m : ℕ). all_below m f) (omega arith)

any_from : (f : ℕ → Bool) (a n : ℕ) → (any_below a f || list_any f (range_with_len a n)) ≡ any_below (a + n) f
any_from f a zero = or_comm (any_below a f) false ∙ ap (λ (m : ℕ). any_below m f) (omega arith)
any_from f a (suc n) =
    sym (or_assoc (any_below a f) (f a) (list_any f (range_with_len (a + 1) n))) ∙ ap (λ (b : Bool). b || list_any f (range_with_len (a + 1) n)) (sym (any-more a f))
    ∙ any_from f (a + 1) n ∙ ap (λ (m : ℕ). any_below m f) (omega arith)

pub all_listed : (f : ℕ → Bool) (n : ℕ) → list_all f (range_with_len 0 n) ≡ all_below n f
unfolding all_below
all_listed f n = let e : 0 + n ≡ n = omega arith in all_from f 0 n ∙ ap (λ (m : ℕ). all_below m f) e

pub any_listed : (f : ℕ → Bool) (n : ℕ) → list_any f (range_with_len 0 n) ≡ any_below n f
unfolding any_below
any_listed f n = let e : 0 + n ≡ n = omega arith in any_from f 0 n ∙ ap (λ (m : ℕ). any_below m f) e

-- ---- a call over 0..n, whose closure computes f
pub all_in_range : {F : Type 0} {g : Mut F (ℕ × Unit {0}) Bool} {s : Range ℕ} (n : ℕ) (f : ℕ → Bool) (u : Range ℕ) (h : F) (r : Bool)
    → (xs : List ℕ) × (o : Option ℕ) × (j : F) × YieldsThen nat_range_steps s xs o u × FoldsTo (λ p x q. Called g p (x, tt) true q) h xs j
    × MatchOption o (r ≡ true) (λ x. (r ≡ false) × ((k : F) × Called g j (x, tt) false k))
    → s ≡ record { start = 0; end = n } → ((x : ℕ) (b : Bool) (q : F) → Called g h (x, tt) b q → (q ≡ h) × (b ≡ f x)) → r ≡ all_below n f
all_in_range n f u h r ran at computes = all_from_yields_List f u h r ran (YieldsList-from_range 0 n n at (omega arith)) computes ∙ all_listed f n

pub any_in_range : {F : Type 0} {g : Mut F (ℕ × Unit {0}) Bool} {s : Range ℕ} (n : ℕ) (f : ℕ → Bool) (u : Range ℕ) (h : F) (r : Bool)
    → (xs : List ℕ) × (o : Option ℕ) × (j : F) × YieldsThen nat_range_steps s xs o u × FoldsTo (λ p x q. Called g p (x, tt) false q) h xs j
    × MatchOption o (r ≡ false) (λ x. (r ≡ true) × ((k : F) × Called g j (x, tt) true k))
    → s ≡ record { start = 0; end = n } → ((x : ℕ) (b : Bool) (q : F) → Called g h (x, tt) b q → (q ≡ h) × (b ≡ f x)) → r ≡ any_below n f
any_in_range n f u h r ran at computes = any_from_yields_List f u h r ran (YieldsList-from_range 0 n n at (omega arith)) computes ∙ any_listed f n
