-- The stages of checking a sheet: what the checks 2 to n say of block and table once they have passed, and what is then left of the refusal
-- (`Passed2` to `Passed7`). Each stage follows from the one before it and from the code's answer r that its own check does not apply
-- (`past2` to `past7`). Assumes nothing.
use mathlib.Core.Path.{◌≡◌, sym, ◌∙◌}
use mathlib.Core.Bool.{Bool, false}
use mathlib.Core.List.{List}
use lib.IntN.{ℤ}
use Rattle.sheet.specs.Refusal.{bad_head, bad_counts, bad_block_length, bad_table_length, bad_box, bad_rule, refusal}
use Rattle.sheet.specs.Accepted.{Head, Rows}
use Rattle.sheet.proofs.Accepted.{head-by, rows-by}
use Rattle.accept.proofs.Chain.{past, from3, from4, from5, from6, from7, from8, refusal-from2}

module _ (block t : List ℤ) where
  pub record Passed2 : Type 0 where
    pub head : bad_head block ≡ false
    pub rest : refusal block t ≡ from3 block t

  pub record Passed3 : Type 0 where
    pub head : bad_head block ≡ false
    pub counts : bad_counts block ≡ false
    pub rest : refusal block t ≡ from4 block t

  pub record Passed4 : Type 0 where
    pub head : Head block
    pub rest : refusal block t ≡ from5 block t

  pub record Passed5 : Type 0 where
    pub head : Head block
    pub whole : Rows block t
    pub rest : refusal block t ≡ from6 block t

  pub record Passed6 : Type 0 where
    pub head : Head block
    pub whole : Rows block t
    pub boxes : bad_box block ≡ false
    pub rest : refusal block t ≡ from7 block t

  pub record Passed7 : Type 0 where
    pub head : Head block
    pub whole : Rows block t
    pub boxes : bad_box block ≡ false
    pub rest : refusal block t ≡ from8 block t

module _ {block t : List ℤ} {r : Bool} where
  pub past2 : r ≡ bad_head block → r ≡ false → Passed2 block t
  past2 e f = let h = sym e ∙ f in record { head = h; rest = refusal-from2 block t ∙ past 2 _ h }

  pub past3 : Passed2 block t → r ≡ bad_counts block → r ≡ false → Passed3 block t
  past3 p e f = let h = sym e ∙ f in record { head = p.head; counts = h; rest = p.rest ∙ past 3 _ h }

  pub past4 : Passed3 block t → r ≡ bad_block_length block → r ≡ false → Passed4 block t
  past4 p e f = let h = sym e ∙ f in record { head = head-by block t p.head p.counts h; rest = p.rest ∙ past 4 _ h }

  pub past5 : Passed4 block t → r ≡ bad_table_length block t → r ≡ false → Passed5 block t
  past5 p e f = let h = sym e ∙ f in record { head = p.head; whole = rows-by block t h; rest = p.rest ∙ past 5 _ h }

  pub past6 : Passed5 block t → r ≡ bad_box block → r ≡ false → Passed6 block t
  past6 p e f = let h = sym e ∙ f in record { head = p.head; whole = p.whole; boxes = h; rest = p.rest ∙ past 6 _ h }

  pub past7 : Passed6 block t → r ≡ bad_rule block t → r ≡ false → Passed7 block t
  past7 p e f = record { head = p.head; whole = p.whole; boxes = p.boxes; rest = p.rest ∙ past 7 _ (sym e ∙ f) }
