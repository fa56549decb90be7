-- `capi::no_bound` meets its contract. Assumes nothing.
use mathlib.Core.Path.{ap}
use mir.Facts.{to_z-of_z}
use Rattle.capi.specs.Findings.{no_bound}
use Rattle.capi.proofs.no_bound.Goals as goal

pub returns : goal.returns
unfolding no_bound
returns c = ap no_bound (to_z-of_z c.ranges.finding)
