-- The parts of a text: `split` by its first part and the rest (`parts_next`), and what a search for a separator needs.
-- Assumes nothing.
use mathlib.Core.Path.{◌≡◌, refl, sym, ap, ◌∙◌}
use mathlib.Core.Logic.{⊎_elim}
use mathlib.Core.Bool.{true, false}
use mathlib.Core.List.{List, [], ◌∷◌}
use Prim.Native.Nat.{ℕ, suc, ◌+◌, ◌-◌, ◌≤◌, ◌<◌}
use native.Mathlib.Omega.{arith}
use native.Mathlib.Numerals.{add-one}
use borrow.Author.Tests.{eq-eqb, ne_eqb, le-leb, lt-leb}
use lib.Dec.{eqb}
use lib.ListN.{length, get_or, take, drop, length-drop, drop_of_length-le}
use lib.Seq.{drop-cons, drop-drop}
use Rattle.integers.proofs.Booleans.{decide}
use Rattle.integers.proofs.Below.{below_or}
use Rattle.sheet.specs.Text.{join_head, split}
use Rattle.line.specs.Parts.{until, parts_from}

-- ---- the first part

module _ (sep b : ℕ) (bs : List ℕ) where
  pub until-yes : eqb b sep ≡ true → until sep (b ∷ bs) ≡ []
  unfolding until
  until-yes e = rw (e, until)

  pub until-no : eqb b sep ≡ false → until sep (b ∷ bs) ≡ b ∷ until sep bs
  unfolding until
  until-no e = rw (e, until)

  split-yes : eqb b sep ≡ true → split sep (b ∷ bs) ≡ [] ∷ split sep bs
  unfolding split
  split-yes e = rw (e, split)

  split-no : eqb b sep ≡ false → split sep (b ∷ bs) ≡ join_head b (split sep bs)
  unfolding split
  split-no e = rw (e, split)

until-take : (sep : ℕ) (s : List ℕ) → until sep s ≡ take (length (until sep s)) s
unfolding until
until-take sep [] = refl
until-take sep (b ∷ bs) =
    ⊎_elim
    (λ (e : eqb b sep ≡ true). rw (until-yes sep b bs e))
    (λ (e : eqb b sep ≡ false). rw (until-no sep b bs e) (ap (λ (l : List ℕ). b ∷ l) (until-take sep bs)))
    (decide (eqb b sep))

until-le : (sep : ℕ) (s : List ℕ) → length (until sep s) ≤ length s
unfolding until
until-le sep [] = omega arith
until-le sep (b ∷ bs) =
    ⊎_elim
    (λ (e : eqb b sep ≡ true). rw (until-yes sep b bs e) (omega arith))
    (λ (e : eqb b sep ≡ false). rw (until-no sep b bs e) (let h = until-le sep bs in omega arith))
    (decide (eqb b sep))

-- what a search finds at a place: the separator, another byte, the text's end
module _ (s : List ℕ) (i sep : ℕ) where
  pub until_stop : i < length s → get_or s i 0 ≡ sep → length (until sep (drop i s)) ≡ 0
  until_stop h e =
      ap (λ (l : List ℕ). length (until sep l)) (drop-cons s i 0 h) ∙ ap length (until-yes sep _ _ (eq-eqb (get_or s i 0) sep e))

  pub until-more : i < length s → (get_or s i 0 ≡ sep → ⊥) → length (until sep (drop i s)) ≡ suc (length (until sep (drop (i + 1) s)))
  until-more h e =
      ap (λ (l : List ℕ). length (until sep l)) (drop-cons s i 0 h) ∙ ap length (until-no sep _ _ (ne_eqb (get_or s i 0) sep e)) ∙ rw add-one

  pub until_end : length s ≤ i → length (until sep (drop i s)) ≡ 0
  unfolding until
  until_end h = rw (drop_of_length-le s h)

-- ---- the parts

module _ (sep : ℕ) where
  parts_in : (s : List ℕ) {p : ℕ} → p ≤ length s → parts_from sep s p ≡ split sep (drop p s)
  unfolding parts_from
  parts_in s {p} h = rw (le-leb p (length s) h)

  pub parts_none : (s : List ℕ) {p : ℕ} → length s < p → parts_from sep s p ≡ []
  unfolding parts_from
  parts_none s {p} h = rw (lt-leb p (length s) h)

  pub parts_all : (s : List ℕ) → parts_from sep s 0 ≡ split sep s
  parts_all s = parts_in s (omega arith)

  parts-drop : (s : List ℕ) (p j : ℕ) → p ≤ length s → parts_from sep (drop p s) j ≡ parts_from sep s (p + j)
  parts-drop s p j h =
      ⊎_elim
      (λ (l : length s < p + j). parts_none (drop p s) (rw length-drop (omega arith)) ∙ sym (parts_none s l))
      (λ (l : p + j ≤ length s). parts_in (drop p s) (rw length-drop (omega arith)) ∙ ap (split sep) (drop-drop j p s) ∙ sym (parts_in s l))
      (below_or (length s) (p + j))

  split-next : (s : List ℕ) → split sep s ≡ until sep s ∷ parts_from sep s (suc (length (until sep s)))
  unfolding split until join_head
  split-next [] = ap (λ (l : List (List ℕ)). [] ∷ l) (sym (parts_none [] (omega arith)))
  split-next (b ∷ bs) =
      ⊎_elim
      (λ (e : eqb b sep ≡ true). split-yes sep b bs e
      ∙ rw (until-yes sep b bs e) (ap (λ (l : List (List ℕ)). [] ∷ l) (sym (parts_in (b ∷ bs) (omega arith)))))
      (λ (e : eqb b sep ≡ false).
      let n = length (until sep bs) in
      let q : 1 + suc n ≡ suc (suc n) = omega arith in
      let more = parts-drop (b ∷ bs) 1 (suc n) (omega arith) ∙ ap (parts_from sep (b ∷ bs)) q in
      split-no sep b bs e
      ∙ ap (join_head b) (split-next bs)
      ∙ rw (until-no sep b bs e) (ap (λ (l : List (List ℕ)). (b ∷ until sep bs) ∷ l) more))
      (decide (eqb b sep))

  -- the part from p to q, which a search from p on has found, and the parts after it
  module _ (s : List ℕ) {p q : ℕ} (h : p ≤ length s) (e : q ≡ p + length (until sep (drop p s))) where
    pub part-ends : q ≤ length s
    part-ends = let k = until-le sep (drop p s) in let d = length-drop p s in omega arith

    part-is : take (q - p) (drop p s) ≡ until sep (drop p s)
    part-is = let k : q - p ≡ length (until sep (drop p s)) = omega arith in ap (λ (n : ℕ). take n (drop p s)) k ∙ sym (until-take sep (drop p s))

    pub parts_next : parts_from sep s p ≡ take (q - p) (drop p s) ∷ parts_from sep s (q + 1)
    parts_next =
        let n = length (until sep (drop p s)) in
        let j : p + suc n ≡ q + 1 = omega arith in
        parts_in s h
        ∙ split-next (drop p s)
        ∙ ap (λ (f : List ℕ). f ∷ parts_from sep (drop p s) (suc n)) (sym part-is)
        ∙ ap (λ (l : List (List ℕ)). take (q - p) (drop p s) ∷ l) (parts-drop s p (suc n) h ∙ ap (parts_from sep s) j)
