-- `nearby::suspect::suspected_region` meets its contract: so far no suspect whose area holds the point forbids it. Assumes nothing.
use Rattle.integers.proofs.Below.{NoneBelow}
use Rattle.nearby.specs.Listing.{suspect_forbids}
use Rattle.nearby.proofs.suspect.suspected_region.Given as goal

abbrev pub invariant-loop-e : goal.invariant-loop-e
invariant-loop-e l = NoneBelow l.e (λ m. suspect_forbids l.block l.table l.nearby.i.number l.nearby.s l.suspects l.p m l.p)
