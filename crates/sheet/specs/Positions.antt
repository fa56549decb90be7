-- Document 01's marked positions, in its order, then the sheet of its text program, one that a single pass over the rows gets wrong, and
-- the marked position of document 02's T-05. That every case passes is proofs/PositionsPass.antt. Assumes nothing.
use Rattle.std.specs.Prelude.{Bool, true, false, not, cond, ◌&&◌, List, [], ◌∷◌, ◌++◌, map, ℕ, zero, suc, ◌^◌, eqb, take, drop, ℤ, pos, ◌+ℤ◌}
use Rattle.std.proofs.Math.Option.{Option, none, some}
use Rattle.integers.specs.Integer.{minus, eq_z, within, width}
use Rattle.integers.specs.Below.{all_below, sum_below}
use Rattle.integers.specs.Bits.{bit}
use Rattle.integers.specs.Words.{word, same_words}
use Rattle.sheet.specs.Layout.{row_len, rows}
use Rattle.sheet.specs.Allowed.{forbid_from, forbid_to, forbidden}
use Rattle.sheet.specs.Placement.{good, catalogue_good}
use Rattle.sheet.specs.Bounds.{least_of}
use Rattle.sheet.specs.Narrow.{narrow_of}
use Rattle.sheet.specs.Settle.{settle_of}
use Rattle.sheet.specs.FirstLayout.{first_layout_of}
use Rattle.sheet.specs.Refusal.{refusal, refusal_placement}

-- ---- what is asked of a sheet, and the answer

pub data Question : Type 0 where
  -- the least coordinate of row i with shape s in dimension 0
  has_least : (i s : ℕ) → Option ℤ → Question
  -- what box c of row j forbids to row i with shape s, whose box is b, in dimension 0 under rule 0: from .. to ..
  forbids : (i s b j c : ℕ) → ℤ → ℤ → Question
  -- narrowing row i
  narrows : (i : ℕ) → Option (List ℤ) → Question
  settles : Option (List ℤ) → Question
  -- how many placements lie inside the table, and how many of them are good
  has_layouts : (placements layouts : ℕ) → Question
  is_good : Bool → Question
  -- the first good placement inside the table (document 02, T-06)
  places_first : Option (List ℤ) → Question

pub record Case : Type 0 where
  pub block : List ℤ
  pub table : List ℤ
  pub asked : Question

unfoldable pub same_table : Option (List ℤ) → Option (List ℤ) → Bool
same_table none none = true
same_table none (some y) = false
same_table (some x) none = false
same_table (some x) (some y) = same_words x y

unfoldable pub same_number : Option ℤ → Option ℤ → Bool
same_number none none = true
same_number none (some y) = false
same_number (some x) none = false
same_number (some x) (some y) = eq_z x y

unfoldable pub same_truth : Bool → Bool → Bool
same_truth true b = b
same_truth false b = not b

-- for every z from −10 to 10: z is forbidden to row i with shape s exactly when it lies from .. to ..
unfoldable pub forbids_only : List ℤ → List ℤ → ℕ → ℕ → ℤ → ℤ → Bool
forbids_only block table i s from to =
    all_below 21 (λ m. let z = minus 10 +ℤ pos m in same_truth (forbidden block table i s (z ∷ [])) (within from to z))

-- how many ways there are to fix every range of ws to one number, as f counts each
unfoldable pub count_ranges : List ℤ → (List ℤ → ℕ) → ℕ
count_ranges [] f = f []
count_ranges (a ∷ []) f = 0
count_ranges (a ∷ (b ∷ ws)) f = sum_below (width a b) (λ c. let z = a +ℤ pos c in count_ranges ws (λ fixed. f (z ∷ z ∷ fixed)))

-- to fix n rows of len words each, every one to a shape of its set and to one number in each range
unfoldable pub count_rows : ℕ → ℕ → List ℤ → (List ℤ → ℕ) → ℕ
count_rows len zero ws f = f []
count_rows len (suc n) ws f =
    sum_below 32 (λ m. elim (bit (word ws 0) m) [
      | true ↦ count_ranges (drop 1 (take len ws)) (λ ranges. count_rows len n (drop len ws) (λ rest. f (pos (2 ^ m) ∷ (ranges ++ rest))))
      | false ↦ 0
    ])

-- how many of the placements inside the table pass a test
unfoldable pub placements_by : List ℤ → List ℤ → (List ℤ → Bool) → ℕ
placements_by block table test = count_rows (row_len block) (rows block table) table (λ p. cond (test p) 1 0)

unfoldable pub answered : List ℤ → List ℤ → Question → Bool
answered block table (has_least i s z) = same_number (least_of block table i s 0) z
answered block table (forbids i s b j c from to) =
    eq_z (forbid_from block table 0 i b j c 0) from && eq_z (forbid_to block table 0 i b j c 0) to && forbids_only block table i s from to
answered block table (narrows i t) = same_table (narrow_of block table i) t
answered block table (settles t) = same_table (settle_of block table) t
answered block table (has_layouts placements layouts) =
    eqb (placements_by block table (λ p. eqb (refusal_placement block p) 0)) placements && eqb (placements_by block table (good block)) layouts
answered block table (is_good b) =
    eqb (refusal_placement block table) 0 && same_truth (good block table) b && same_truth (catalogue_good block table) b
answered block table (places_first p) = same_table (first_layout_of block table) p

-- the sheet is accepted, and the answer is right
unfoldable pub passes : Case → Bool
passes c = eqb (refusal c.block c.table) 0 && answered c.block c.table c.asked

unfoldable pub all_pass : List Case → Bool
all_pass [] = true
all_pass (c ∷ cs) = elim (passes c) [ true ↦ all_pass cs | false ↦ false ]

-- ---- the sheets

unfoldable pub words : List ℕ → List ℤ
words ns = map pos ns

-- a row of one dimension, and of two
unfoldable pub row : ℕ → ℤ → ℤ → List ℤ
row set a b = pos set ∷ a ∷ b ∷ []

unfoldable pub row2 : ℕ → ℕ → ℕ → ℕ → ℕ → List ℤ
row2 set a b c d = words (set ∷ a ∷ b ∷ c ∷ d ∷ [])

-- k = 1, offsets 0: boxes of shapes 1, 2 and on with these sizes
unfoldable pub boxes_from : ℕ → List ℕ → List ℤ
boxes_from s [] = []
boxes_from s (l ∷ ls) = words (s ∷ 0 ∷ l ∷ []) ++ boxes_from (suc s) ls

-- one shape of each size, and the rows of a set apart
unfoldable pub line : List ℕ → ℕ → ℕ → List ℤ
line sizes count set = words (1 ∷ count ∷ 1 ∷ []) ++ boxes_from 1 sizes ++ words (1 ∷ 1 ∷ set ∷ 0 ∷ 0 ∷ [])

-- the same for shapes of size 2, in a room from 0 to h
unfoldable pub room : ℕ → ℕ → List ℤ
room set h = words (1 ∷ 1 ∷ 2 ∷ []) ++ boxes_from 1 (2 ∷ []) ++ words (1 ∷ 1 ∷ set ∷ 0 ∷ 0 ∷ 2 ∷ 1 ∷ set ∷ 0 ∷ h ∷ [])

-- A, shape 1 of size 3, and B, shape 2 of size 2
unfoldable pub ab : List ℤ
ab = line (3 ∷ 2 ∷ []) 2 3

-- A from a to a', B from b to b'
unfoldable pub ab_rows : ℤ → ℤ → ℤ → ℤ → List ℤ
ab_rows a a' b b' = row 1 a a' ++ row 2 b b'

-- three rows in 0..3
unfoldable pub three_rows : List ℤ
three_rows = row 1 (pos 0) (pos 3) ++ row 1 (pos 0) (pos 3) ++ row 1 (pos 0) (pos 3)

-- the sheet of "The text program"
unfoldable pub text_sheet : List ℤ
text_sheet = words (2 ∷ 1 ∷ 2 ∷ 1 ∷ 0 ∷ 0 ∷ 2 ∷ 2 ∷ 1 ∷ 3 ∷ 3 ∷ 0 ∷ 0 ∷ 0 ∷ 0 ∷ 2 ∷ 3 ∷ 3 ∷ 0 ∷ 4 ∷ 0 ∷ 2 ∷ [])

-- the shapes of document 002, and rows 1 to 3 apart in both dimensions
unfoldable pub catalogue : List ℤ
catalogue =
    words
    (2 ∷ 21 ∷ 1
    ∷ 1 ∷ 0 ∷ 0 ∷ 2 ∷ 1 ∷ 1 ∷ 0 ∷ 1 ∷ 1 ∷ 2 ∷ 1 ∷ 1 ∷ 2 ∷ 3 ∷ 1
    ∷ 2 ∷ 0 ∷ 0 ∷ 3 ∷ 1 ∷ 2 ∷ 0 ∷ 1 ∷ 1 ∷ 3 ∷ 2 ∷ 2 ∷ 1 ∷ 1 ∷ 1
    ∷ 3 ∷ 0 ∷ 0 ∷ 2 ∷ 1 ∷ 3 ∷ 1 ∷ 1 ∷ 1 ∷ 2 ∷ 3 ∷ 2 ∷ 2 ∷ 3 ∷ 1
    ∷ 4 ∷ 0 ∷ 0 ∷ 3 ∷ 1 ∷ 4 ∷ 0 ∷ 1 ∷ 1 ∷ 1 ∷ 4 ∷ 2 ∷ 1 ∷ 1 ∷ 3
    ∷ 5 ∷ 0 ∷ 0 ∷ 2 ∷ 1 ∷ 5 ∷ 1 ∷ 1 ∷ 1 ∷ 1 ∷ 5 ∷ 0 ∷ 2 ∷ 2 ∷ 1
    ∷ 6 ∷ 0 ∷ 0 ∷ 3 ∷ 1 ∷ 6 ∷ 0 ∷ 1 ∷ 1 ∷ 1 ∷ 6 ∷ 2 ∷ 1 ∷ 1 ∷ 1
    ∷ 7 ∷ 0 ∷ 0 ∷ 3 ∷ 2 ∷ 8 ∷ 0 ∷ 0 ∷ 2 ∷ 3 ∷ 9 ∷ 0 ∷ 0 ∷ 1 ∷ 4
    ∷ 1 ∷ 3 ∷ 7 ∷ 0 ∷ 0 ∷ 0 ∷ 0 ∷ [])

-- shape 1 at (1, 2), shape 5 at (2, 1), shape 8 at (x, y)
unfoldable pub placed : ℕ → ℕ → List ℤ
placed x y = row2 1 1 1 2 2 ++ row2 16 2 2 1 1 ++ row2 128 x x y y

abbrev pub case : List ℤ → List ℤ → Question → Case
case b t a = record { block = b; table = t; asked = a }

-- ---- the positions
unfoldable pub positions : List Case
positions =
    -- A at 0, B in −2..5: least −2. B in −1..5: least 3. B in −1..2: none
    case ab (ab_rows (pos 0) (pos 0) (minus 2) (pos 5)) (has_least 2 2 (some (minus 2)))
    ∷ case ab (ab_rows (pos 0) (pos 0) (minus 1) (pos 5)) (has_least 2 2 (some (pos 3)))
    ∷ case ab (ab_rows (pos 0) (pos 0) (minus 1) (pos 2)) (has_least 2 2 none)
    -- A in 0..1 forbids B 0 to 2; in 0..3 only 2; in 0..4 nothing: the first end exceeds the last, and no z is forbidden
    ∷ case ab (ab_rows (pos 0) (pos 1) (minus 10) (pos 10)) (forbids 2 2 1 1 0 (pos 0) (pos 2))
    ∷ case ab (ab_rows (pos 0) (pos 3) (minus 10) (pos 10)) (forbids 2 2 1 1 0 (pos 2) (pos 2))
    ∷ case ab (ab_rows (pos 0) (pos 4) (minus 10) (pos 10)) (forbids 2 2 1 1 0 (pos 3) (pos 2))
    -- A at 0, B in −1..2 with sizes 2 (shape 1) or 1 (shape 2): only shape 2 remains, at −1
    ∷ case (line (2 ∷ 1 ∷ 3 ∷ []) 3 3) (row 4 (pos 0) (pos 0) ++ row 3 (minus 1) (pos 2))
    (narrows 2 (some (row 4 (pos 0) (pos 0) ++ row 2 (minus 1) (minus 1))))
    -- two rows of size 2 in a room 0 to 3, range 0..1 each: no layout; room 0 to 4, range 0..2 each: settled as given
    ∷ case (room 3 3) (row 1 (pos 0) (pos 1) ++ row 1 (pos 0) (pos 1)) (settles none)
    ∷ case (room 3 4) (row 1 (pos 0) (pos 2) ++ row 1 (pos 0) (pos 2)) (settles (some (row 1 (pos 0) (pos 2) ++ row 1 (pos 0) (pos 2))))
    -- three rows of size 2 in a room 0 to 5, range 0..3: settled as given, though no layout exists: of their 64 placements none is good.
    -- Of the 9 placements of the two rows in the room 0 to 4 two are good
    ∷ case (room 7 5) three_rows (settles (some three_rows))
    ∷ case (room 7 5) three_rows (has_layouts 64 0)
    ∷ case (room 3 4) (row 1 (pos 0) (pos 2) ++ row 1 (pos 0) (pos 2)) (has_layouts 9 2)
    -- the catalogue's example
    ∷ case catalogue (placed 4 1) (is_good true)
    ∷ case catalogue (placed 3 1) (is_good false)
    ∷ case catalogue (placed 4 2) (is_good false)
    -- "The text program"
    ∷ case text_sheet (row2 1 0 0 0 0 ++ row2 1 0 3 0 3) (settles (some (row2 1 0 0 0 0 ++ row2 1 2 2 0 0)))
    -- one pass over the rows leaves row 1 at 2..4: row 2 moves after it
    ∷ case (line (2 ∷ []) 1 7) (row 1 (pos 2) (pos 4) ++ row 1 (pos 0) (pos 2) ++ row 1 (pos 0) (pos 0))
    (settles (some (row 1 (pos 4) (pos 4) ++ row 1 (pos 2) (pos 2) ++ row 1 (pos 0) (pos 0))))
    -- A at 0 with sizes 3 or 4, B of size 2 in −1..5: least 3
    ∷ case (line (3 ∷ 4 ∷ 2 ∷ []) 3 3) (row 3 (pos 0) (pos 0) ++ row 4 (minus 1) (pos 5)) (has_least 2 3 (some (pos 3)))
    ∷ []
