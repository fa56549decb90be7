-- `nearby::lists_nothing` meets its contract: its two tests are those of the definition. Assumes nothing.
use borrow.Author.Rules.{rules}
use mathlib.Core.Path.{ap₂}
use mathlib.Core.Bool.{◌&&◌}
use Rattle.nearby.specs.Listing.{lists_nothing}
use Rattle.nearby.proofs.lists_nothing.Goals as goal

pub returns : goal.returns
unfolding lists_nothing
returns c = ap₂ ◌&&◌ (search rules) c.is_none.ensures
