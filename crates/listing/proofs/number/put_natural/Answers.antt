-- `listing::number::put_natural` meets its contract. Assumes nothing.
use mathlib.Core.Path.{◌≡◌, sym, ◌∙◌}
use lib.ListN.{length}
use Rattle.stores.proofs.Stores.{part-all}
use Rattle.stores.proofs.Puts.{put_as}
use Rattle.listing.proofs.Decimal.{shown-natural}
use Rattle.listing.proofs.number.put_natural.Goals as goal

pub returns : goal.returns
returns c =
    let digits = c.fill_digits-i in
    let long : length digits.new.buf ≡ 20 = digits.auto.buf in
    put_as (part-all digits.new.buf digits.result long ∙ digits.ensures.1 ∙ sym (shown-natural _)) c.put_all.ensures
