-- The answer that a call gives with the two rows exchanged. Assumes nothing.
use Rattle.std.specs.Prelude.{Result, Ok, Err}
use Rattle.sheet.specs.Relation.{converse}
use Rattle.sheet.specs.declared.Allen.{Allen}
use Rattle.sheet.specs.declared.Refusal.{Refusal}

unfoldable pub conversed : Result Allen Refusal → Result Allen Refusal
conversed (Ok x) = Ok (converse x)
conversed (Err g) = Err g
