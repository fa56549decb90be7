-- The refusals in their order: what is left of `refusal` from a check on (`from2` to `from8`), and what the code's answer to the first check
-- that is left says of the refusal. Assumes nothing.
use mathlib.Core.Path.{◌≡◌, refl, sym, ap, ◌∙◌}
use mathlib.Core.Bool.{Bool, true, false}
use mathlib.Core.List.{List}
use Prim.Native.Nat.{ℕ, suc}
use lib.IntN.{ℤ}
use Rattle.sheet.specs.Refusal.{◌when◌, ◌else◌, bad_head, bad_counts, bad_block_length, bad_table_length, bad_box, bad_rule, bad_row, refusal}
use Rattle.sheet.specs.Refusal.{ground}
use Rattle.sheet.specs.Answer.{answer}
use Rattle.sheet.proofs.Answer.{answered}
use Rattle.sheet.proofs.Accepted.{zero-when}
use Rattle.std.specs.Prelude.{Ok, Err}

-- ---- the checks of a sheet, from one on
module _ (block : List ℤ) (t : List ℤ) where
  abbrev pub from8 : ℕ
  from8 = 8 when bad_row block t

  abbrev pub from7 : ℕ
  from7 = 7 when bad_rule block t else from8

  abbrev pub from6 : ℕ
  from6 = 6 when bad_box block else from7

  abbrev pub from5 : ℕ
  from5 = 5 when bad_table_length block t else from6

  abbrev pub from4 : ℕ
  from4 = 4 when bad_block_length block else from5

  abbrev pub from3 : ℕ
  from3 = 3 when bad_counts block else from4

  abbrev pub from2 : ℕ
  from2 = 2 when bad_head block else from3

  pub refusal-from2 : refusal block t ≡ from2
  unfolding refusal
  refusal-from2 = refl

-- ---- one check b, and those after it
pub applies : (n : ℕ) {b : Bool} (h : ℕ) → b ≡ true → (suc n when b else h) ≡ suc n
unfolding ◌when◌ ◌else◌
applies n h e = rw e

pub past : (n : ℕ) {b : Bool} (h : ℕ) → b ≡ false → (n when b else h) ≡ h
unfolding ◌when◌ ◌else◌
past n h e = rw e

applies-last : (n : ℕ) {b : Bool} → b ≡ true → (n when b) ≡ n
unfolding ◌when◌
applies-last n e = rw e

-- a refusal x of which check b is left, with others or as the last; r is the code's answer to b
module _ {x : ℕ} {r b : Bool} where
  pub refused-first : (n h : ℕ) → x ≡ (suc n when b else h) → r ≡ b → r ≡ true → Err (ground n) ≡ answer x (tt {0})
  unfolding answer
  refused-first n h q e t = ap (λ (m : ℕ). answer m (tt {0})) (sym (q ∙ applies n h (sym e ∙ t)))

  pub refused-last : (n : ℕ) → x ≡ (suc n when b) → r ≡ b → r ≡ true → Err (ground n) ≡ answer x (tt {0})
  unfolding answer
  refused-last n q e t = ap (λ (m : ℕ). answer m (tt {0})) (sym (q ∙ applies-last (suc n) (sym e ∙ t)))

  pub passed-last : (n : ℕ) → x ≡ (n when b) → r ≡ b → r ≡ false → Ok (tt {0}) ≡ answer x (tt {0})
  passed-last n q e f = sym (answered (tt {0}) (q ∙ zero-when n (sym e ∙ f)))

-- ---- a refusal g, and one check more
pub else-second : {g : ℕ} (h : ℕ) → g ≡ 0 → (g else h) ≡ h
unfolding ◌else◌
else-second h e = ap (λ (n : ℕ). n else h) e
