-- What the promise of `fill::fill` says, on any words: it finds c cells and the figure p exactly when no check applies, c is the number of the
-- cells that the rule's rows cover, each once, and p the nearest whole number of thousandths, the greater of two (`promise-fill`); so no other
-- numbers. Assumes nothing.
use mathlib.Core.Path.{◌≡◌, sym, ap, ap₂, ◌∙◌, subst}
use mathlib.Core.Logic.{◌↔◌}
use mathlib.Core.List.{List}
use Prim.Native.Nat.{ℕ, ◌*◌}
use lib.IntN.{ℤ}
use Rattle.std.specs.Prelude.{Result, Ok, Err}
use Rattle.sheet.specs.Layout.{dims}
use Rattle.sheet.specs.Fill.{rule_asked, room_cells, covers_cell, covered_cells, permille, CountsCells, Nearest}
use Rattle.sheet.specs.Refusal.{refusal_fill}
use Rattle.sheet.specs.declared.Refusal.{Refusal}
use Rattle.sheet.specs.declared.Share.{Share}
use Rattle.sheet.proofs.Answer.{answered, passed}
use Rattle.sheet.proofs.Fill.{fill-asked}
use Rattle.sheet.proofs.Counted.{covered-counts, counts-unique}
use Rattle.sheet.proofs.Rounding.{figure-nearest, nearest-unique}
use Rattle.fill.proofs.Answers.{share, promised}

-- ---- what was found
abbrev cells_of : Result Share Refusal → ℕ
cells_of (Ok x) = x.cells
cells_of (Err g) = 0

abbrev figure-of : Result Share Refusal → ℕ
figure-of (Ok x) = x.permille
figure-of (Err g) = 0

abbrev of : (c p : ℕ) → Result Share Refusal
of c p = Ok (record { cells = c; permille = p })

module _ (block t : List ℤ) (rule : ℤ) (finding : Result Share Refusal) (promise : finding ≡ promised block t rule) where
  abbrev covered : ℕ
  covered = covered_cells block t (rule_asked rule)

  abbrev n : ℕ
  n = room_cells block (rule_asked rule)

  -- c is the number of the covered cells, and p the nearest figure
  abbrev pub Found : (c p : ℕ) → Type 0
  Found c p = (refusal_fill block t rule ≡ 0) × CountsCells (dims block) (covers_cell block t (rule_asked rule)) c × Nearest (1000 * c) n p

  module _ (none : refusal_fill block t rule ≡ 0) where
    found : finding ≡ of covered (permille covered n)
    found = promise ∙ answered (share block t rule) none

    nearest : Nearest (1000 * covered) n (permille covered n)
    nearest = figure-nearest covered n (fill-asked block t rule none).some_cells

    told : (c p : ℕ) → finding ≡ of c p → Found c p
    told c p q =
        let e = ap cells_of (sym found ∙ q) in
        let f = ap figure-of (sym found ∙ q) in (
          none,
          subst (CountsCells (dims block) (covers_cell block t (rule_asked rule))) e (covered-counts block t rule none),
          subst (Nearest (1000 * c) n) f (subst (λ (m : ℕ). Nearest (1000 * m) n (permille covered n)) e nearest),
        )

    finds : (c p : ℕ) → Found c p → finding ≡ of c p
    finds c p w =
        let e : covered ≡ c = counts-unique (covered-counts block t rule none) w.1 in
        let f : permille covered n ≡ p = nearest-unique nearest (subst (λ (m : ℕ). Nearest (1000 * m) n p) (sym e) w.2) in
        found ∙ ap₂ of e f

  pub promise-fill : (c p : ℕ) → (finding ≡ of c p) ↔ Found c p
  promise-fill c p = (λ q. told (passed _ _ promise q) c p q, λ w. finds w.0 c p w)
