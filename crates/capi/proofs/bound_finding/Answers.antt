-- `capi::bound_finding` meets its contract, by the answer. Assumes nothing.
use mathlib.Core.Path.{◌≡◌, ap, ◌∙◌}
use mir.Syntax.{w64}
use mir.Val.{SFits}
use mir.Facts.{to_z-of_z}
use borrow.Author.Rules.{rules}
use Rattle.std.specs.Prelude.{Some, None, Ok}
use Rattle.words.proofs.Reading.{read_back}
use Rattle.capi.specs.Findings.{no_bound, bound_finding}
use Rattle.capi.proofs.bound_finding.Goals as goal

pub returns-in-Ok-Some : goal.returns-in-Ok-Some
unfolding bound_finding
returns-in-Ok-Some c =
    let e : c.in-Ok-Some.field-0 ≡ Some c.in-Ok-Some.value = rw c.in-Ok-Some.is at c.in-Ok-Some.field-0-is in
    let f : SFits w64 c.in-Ok-Some.value = search rules in
    rw (c.in-Ok-Some.is, e, to_z-of_z f)

pub returns-in-Ok-None : goal.returns-in-Ok-None
unfolding bound_finding
returns-in-Ok-None c =
    let e : c.in-Ok-None.field-0 ≡ None = rw c.in-Ok-None.is at c.in-Ok-None.field-0-is in
    rw (c.in-Ok-None.is, e) c.no_bound.ensures

pub returns-in-Err : goal.returns-in-Err
unfolding bound_finding
returns-in-Err c = rw c.in-Err.is (c.no_bound-in-Err.ensures ∙ ap no_bound (read_back c.from.ensures c.from.type_inv))
