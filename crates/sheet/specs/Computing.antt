-- One name that opens every definition, for a proof that computes a case: `unfolding computing`. Assumes nothing.
use Rattle.integers.specs.Integer.{eq_z, within, width}
use Rattle.integers.specs.Below.{◌⇒◌, all_below, any_below, sum_below, product_below, least_below, greatest_below, foremost, first_some, value_or}
use Rattle.integers.specs.Bits.{bit_at, bit, holds, holds_only, set_of}
use Rattle.integers.specs.Words.{list_below, pairs_below, replaced, same_words}
use Rattle.fixpoint.specs.Passes.{bind, pass, rounds, settle_by}
use Rattle.sheet.specs.Layout.{layout}
use Rattle.sheet.specs.Allowed.{allowing}
use Rattle.sheet.specs.Placement.{placing}
use Rattle.sheet.specs.Bounds.{bounding}
use Rattle.sheet.specs.Narrow.{narrowing}
use Rattle.sheet.specs.Settle.{settling}
use Rattle.sheet.specs.Cuts.{cutting}
use Rattle.sheet.specs.FirstLayout.{laying}
use Rattle.sheet.specs.Relation.{relating}
use Rattle.sheet.specs.Fill.{filling}
use Rattle.sheet.specs.Refusal.{refusing}
use Rattle.sheet.specs.Text.{reading-and-printing}

unfoldable pub computing : Unit {0}
unfolding eq_z within width ◌⇒◌ all_below any_below sum_below product_below least_below greatest_below foremost first_some value_or
    bit_at bit holds holds_only set_of list_below pairs_below replaced same_words bind pass rounds settle_by layout allowing placing bounding
    narrowing settling cutting laying relating filling refusing reading-and-printing
computing = tt
