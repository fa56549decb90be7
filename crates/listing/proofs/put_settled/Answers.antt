-- `listing::put_settled` meets its contract. Assumes nothing.
use Rattle.std.proofs.Common.{◌≡◌, ◌≤◌, ◌<◌, ℕ, ℤ, List, length, take, min, sym, ap, ◌∙◌, ⊎_elim, arith}
use Rattle.std.proofs.Math.Option.{some}
use Rattle.std.proofs.Math.Seq.{take_all}
use Rattle.std.proofs.lemmas.Bool.{cases_lt}
use Rattle.std.proofs.lemmas.Bool.Decides.{nat_tests}
use Rattle.stores.proofs.Puts.{put_as}
use Rattle.sheet.specs.Layout.{table_most}
use Rattle.sheet.specs.Text.{printed_for}
use Rattle.listing.proofs.put_settled.Goals as goal

take-min : (n : ℕ) (t : List ℤ) {m : ℕ} → m ≡ min (length t) n → take m t ≡ take n t
take-min n t {m} e =
    ⊎_elim
    (λ (h : n < length t). let q : m ≡ n = omega arith in rw q)
    (λ (h : length t ≤ n). take_all m t (omega arith) ∙ sym (take_all n t h))
    (cases_lt n (length t))

pub returns : goal.returns
returns c =
    let table = c.args.table.now in
    let is_min : c.min-n.result ≡ min (length table) table_most = grind (arith, nat_tests, c.min-n.ensures) in
    put_as (ap (λ (t : List ℤ). printed_for 0 c.args.block.now (some t)) (take-min table_most table is_min)) c.put_table.ensures
