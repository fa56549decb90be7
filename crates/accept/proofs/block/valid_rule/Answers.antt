-- `accept::block::valid_rule` meets its contract: the four tests of the definition, in its order. Assumes nothing.
use mathlib.Core.Path.{◌≡◌, sym, ap, ap₂, ◌∙◌}
use mathlib.Core.Bool.{true, ◌||◌}
use mathlib.Core.List.{List}
use Prim.Native.Nat.{ℕ, ◌-◌, ◌^◌, ◌≤◌}
use native.Mathlib.Omega.{arith}
use lib.IntN.{ℤ, pos}
use Rattle.sheet.proofs.Accepted.{counted}
use Rattle.integers.specs.Integer.{within}
use Rattle.integers.proofs.Sets.{full-le}
use Rattle.sheet.specs.Layout.{dims, kind, is_non_overlap, is_containment, dim_set, row_set, valid_rule}
use Rattle.words.proofs.Reading.{read_back}
use Rattle.accept.proofs.Turns.{fails_by, passes-by}
use Rattle.accept.proofs.Tests.{kinds}
use Rattle.accept.proofs.block.valid_rule.Lts as lts
use Rattle.accept.proofs.block.valid_rule.Reads as reads
use Rattle.accept.proofs.block.valid_rule.Tie as tie
use Rattle.accept.proofs.block.valid_rule.Goals as goal

abbrev Start : Type 0
Start = lts.Start tie.the-claims reads.Pre reads.Post

abbrev Else-not-valid_set : Type 0
Else-not-valid_set = lts.Else2 tie.the-claims reads.Pre reads.Post

abbrev Else-not-is_within : Type 0
Else-not-is_within = lts.Else1 tie.the-claims reads.Pre reads.Post

abbrev After-is_within : Type 0
After-is_within = lts.After-is_within tie.the-claims reads.Pre reads.Post

abbrev After-valid_set : Type 0
After-valid_set = lts.After-valid_set tie.the-claims reads.Pre reads.Post

abbrev After-valid_set-2 : Type 0
After-valid_set-2 = lts.After-valid_set2 tie.the-claims reads.Pre reads.Post

module _ (s : Start) where
  abbrev block : List ℤ
  block = s.args.block.now

  abbrev rule : ℕ
  rule = s.args.r.number

-- past each test: back past the test before it, and to the start
abbrev after-kind : Else-not-valid_set → Else-not-is_within
after-kind c = c.before.before.before.before

abbrev after-dim-set : goal.Else-not-valid_set-2 → Else-not-valid_set
after-dim-set c = c.before.before.before

abbrev start1 : Else-not-is_within → Start
start1 c = c.before.before.before

abbrev start2 : Else-not-valid_set → Start
start2 c = start1 (after-kind c)

-- ---- what each call answers, of the rule's words
kind-in : (c : After-is_within) → let s = c.before.before in c.is_within.result ≡ within (pos 1) (pos 2) (kind (block s) (rule s))
kind-in c = c.is_within.ensures ∙ ap (within (pos 1) (pos 2)) (read_back c.before.kind_of.ensures c.before.kind_of.type_inv)

dim-set-in : (c : After-valid_set) → let s = start1 c.before.before.before in
    c.valid_set.result ≡ within (pos 1) (pos (2 ^ dims (block s) - 1)) (dim_set (block s) (rule s))
dim-set-in c =
    c.valid_set.ensures
    ∙ ap₂ (λ (k : ℕ) (z : ℤ). within (pos 1) (pos (2 ^ k - 1)) z) c.before.dims_of.ensures
    (read_back c.before.before.dim_set_of.ensures c.before.before.dim_set_of.type_inv)

row-set-in : (c : After-valid_set-2) → let s = start2 c.before.before in
    c.valid_set-2.result ≡ within (pos 1) (pos (2 ^ s.args.n - 1)) (row_set (block s) (rule s))
row-set-in c =
    c.valid_set-2.ensures ∙ ap (within (pos 1) (pos (2 ^ _ - 1))) (read_back c.before.row_set_of.ensures c.before.row_set_of.type_inv)

-- ---- what the tests that have passed say
kind-passed : (c : Else-not-is_within) → let s = start1 c in (is_non_overlap (block s) (rule s) || is_containment (block s) (rule s)) ≡ true
kind-passed c = sym (kinds _ _) ∙ passes-by (kind-in c.before) c.if-not-is_within.false-raw

dim-set-passed : (c : Else-not-valid_set) → let s = start2 c in within (pos 1) (pos (2 ^ dims (block s) - 1)) (dim_set (block s) (rule s)) ≡ true
dim-set-passed c = passes-by (dim-set-in c.before) c.if-not-valid_set.false-raw

pub returns-then-not-is_within : goal.returns-then-not-is_within
unfolding valid_rule
returns-then-not-is_within c = sym (rw (fails_by (kind-in c.before ∙ kinds _ _) c.if-not-is_within.true-raw))

pub returns-then-not-valid_set : goal.returns-then-not-valid_set
unfolding valid_rule
returns-then-not-valid_set c = sym (rw (kind-passed c.before.before.before.before, fails_by (dim-set-in c.before) c.if-not-valid_set.true-raw))

pub returns-then-not-valid_set-2 : goal.returns-then-not-valid_set-2
unfolding valid_rule
returns-then-not-valid_set-2 c =
    let d = c.before.before.before in
    sym (rw (kind-passed (after-kind d), dim-set-passed d, fails_by (row-set-in c.before) c.if-not-valid_set-2.true-raw))

pub valid_rooms-requires : goal.valid_rooms-requires
valid_rooms-requires c =
    let d = after-dim-set c in
    let k = after-kind d in
    let place = (start1 k).requires.0 in
    let few : dims (block (start1 k)) ≤ 32 = omega (arith, place.head.few_dims) in
    record {
      place = place;
      kind_count = counted 1 2 (omega arith) (passes-by (kind-in k.before) k.if-not-is_within.false-raw);
      dims_count = counted 1 _ (full-le few) (dim-set-passed d);
    }

pub returns : goal.returns
unfolding valid_rule
returns c =
    let e = c.before in
    let d = after-dim-set e in
    rw (kind-passed (after-kind d), dim-set-passed d, passes-by (row-set-in e.before) e.if-not-valid_set-2.false-raw) c.valid_rooms.ensures
