-- What the code's answer stands for: what reading hands back, or the refusal of its number. Assumes nothing.
use Rattle.std.specs.Prelude.{Result}
use Rattle.sheet.specs.declared.Refusal.{Refusal}
use Rattle.sheet.specs.Text as T
use Rattle.sheet.specs.Answer.{answer}
use Rattle.text.specs.declared.Reading.{Reading}

unfoldable pub reading_of : T.Reading → Result Reading Refusal
reading_of r = answer r.refused (record { block = r.block; block_len = r.block_used; table = r.table; table_len = r.table_used })
