-- What a C function hands back for an answer of the kernel: a finding is 0 for the good answer, −1 for the other, and otherwise the refusal's
-- number. crates/sheet/specs/Answer.antt says which answer stands for what was found. Assumes nothing.
use Rattle.std.specs.Prelude.{Option, Some, None, Result, Ok, Err, Bool, true, false, ℤ, pos}
use Rattle.integers.specs.Integer.{minus}
use Rattle.sheet.specs.declared.Refusal.{Refusal}
use Rattle.sheet.specs.declared.Allen.{Allen}
use Rattle.sheet.specs.declared.Share.{Share}
use Rattle.sheet.specs.Refusal.{refusal_number}
use Rattle.sheet.specs.Relation.{relation_number}
use Rattle.capi.specs.declared.BoundFinding.{BoundFinding}
use Rattle.capi.specs.declared.StandingFinding.{StandingFinding}
use Rattle.capi.specs.declared.ShareFinding.{ShareFinding}

-- whether a point is allowed, a placement is good, a row has a place, a settled table lies inside, or a good placement does
unfoldable pub finding : Result Bool Refusal → ℤ
finding (Ok true) = pos 0
finding (Ok false) = minus 1
finding (Err g) = pos (refusal_number g)

-- a check alone, which has no other answer
unfoldable pub refusal_finding : Result (Unit {0}) Refusal → ℤ
refusal_finding (Ok x) = pos 0
refusal_finding (Err g) = pos (refusal_number g)

-- the value is 0 unless a coordinate was found
unfoldable pub no_bound : ℤ → BoundFinding
no_bound z = record { finding = z; value = pos 0 }

unfoldable pub bound_finding : Result (Option ℤ) Refusal → BoundFinding
bound_finding (Ok (Some z)) = record { finding = pos 0; value = z }
bound_finding (Ok None) = no_bound (minus 1)
bound_finding (Err g) = no_bound (pos (refusal_number g))

-- the relation's number is 0 when refused
unfoldable pub standing_finding : Result Allen Refusal → StandingFinding
standing_finding (Ok x) = record { finding = pos 0; relation = pos (relation_number x) }
standing_finding (Err g) = record { finding = pos (refusal_number g); relation = pos 0 }

-- the cells and their thousandths are 0 when refused
unfoldable pub share_finding : Result Share Refusal → ShareFinding
share_finding (Ok s) = record { finding = pos 0; cells = pos s.cells; permille = pos s.permille }
share_finding (Err g) = record { finding = pos (refusal_number g); cells = pos 0; permille = pos 0 }
