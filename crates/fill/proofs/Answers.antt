-- The answers of `fill`, check by check in their order. Assumes nothing.
use mathlib.Core.Path.{◌≡◌, sym, ap, ◌∙◌}
use mathlib.Core.Bool.{true, false}
use mathlib.Core.List.{List}
use Prim.Native.Nat.{ℕ}
use lib.IntN.{ℤ}
use Rattle.std.specs.Prelude.{Result, Ok, Err}
use Rattle.sheet.specs.Placement.{good}
use Rattle.sheet.specs.Fill.{rule_asked, room_cells, covered_cells, permille}
use Rattle.sheet.specs.Refusal.{◌when◌, ◌else◌, no_fill_rule, bad_cells, not_good, refusal_placement, refusal_fill, ground, grounds}
use Rattle.sheet.specs.Answer.{answer}
use Rattle.sheet.specs.declared.Refusal.{Refusal}
use Rattle.sheet.specs.declared.Refusal.TheVariants as G
use Rattle.sheet.specs.declared.Share.{Share}
use Rattle.sheet.proofs.Answer.{handed_on}

module _ (block t : List ℤ) (rule : ℤ) where
  -- what is found of the rule asked about
  abbrev pub share : Share
  share =
      let c = covered_cells block t (rule_asked rule) in
      record { cells = c; permille = permille c (room_cells block (rule_asked rule)) }

  -- what the promise asks
  abbrev pub promised : Result Share Refusal
  promised = answer (refusal_fill block t rule) share

  pub answer-placement : {B : Type 0} (x : B) {q : Result B Refusal} {z : Result Share Refusal} {g : Refusal}
      → q ≡ answer (refusal_placement block t) x → q ≡ Err g → z ≡ Err g → z ≡ promised
  unfolding refusal_fill
  answer-placement x = handed_on (refusal_placement block t) _ x share

  module _ (none : refusal_placement block t ≡ 0) where
    pub answer-13 : {z : Result Share Refusal} {g : Refusal} → no_fill_rule block rule ≡ true → g ≡ G.NoFillRule → z ≡ Err g → z ≡ promised
    unfolding refusal_fill ◌when◌ ◌else◌ answer ground grounds
    answer-13 e q f = f ∙ ap Err q ∙ rw (none, e)

    module _ (rule-in : no_fill_rule block rule ≡ false) where
      from14 : refusal_fill block t rule ≡ (14 when bad_cells block (rule_asked rule) else 15 when not_good block t)
      unfolding refusal_fill ◌when◌ ◌else◌
      from14 = rw (none, rule-in)

      pub answer-14 : {B : Type 0} (x : B) {q : Result B Refusal} {z : Result Share Refusal} {g : Refusal}
          → q ≡ answer (14 when bad_cells block (rule_asked rule)) x → q ≡ Err g → z ≡ Err g → z ≡ promised
      answer-14 x a e f = handed_on (14 when bad_cells block (rule_asked rule)) _ x share a e f ∙ ap (λ (n : ℕ). answer n share) (sym from14)

      module _ (cells : bad_cells block (rule_asked rule) ≡ false) where
        pub answer-15 : good block t ≡ false → Err G.NotGood ≡ promised
        unfolding refusal_fill not_good ◌when◌ ◌else◌ answer ground grounds
        answer-15 e = rw (none, rule-in, cells, e)

        pub answer-of : good block t ≡ true → Ok share ≡ promised
        unfolding refusal_fill not_good ◌when◌ ◌else◌ answer
        answer-of e = rw (none, rule-in, cells, e)
