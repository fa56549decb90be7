-- A run that is filled from its start on: what a read puts behind the first n bytes. Assumes nothing.
use Rattle.std.proofs.Common.{◌≡◌, ℕ, ◌+◌, ◌-◌, ◌≤◌, List, ◌++◌, length, take, drop, sym, ap, ◌∙◌, length-take-le}
use Rattle.std.proofs.Math.Seq.{take-append-add}
use Rattle.std.proofs.lemmas.List.{take-append-le}
use borrow.Rule.Slice.PartMut.{put_mid}

-- xs has its first n bytes in use, and ys came back from a loan of the others, with m bytes at its start
pub filled : (n m : ℕ) (xs ys : List ℕ) → n ≤ length xs → m ≤ length ys → take (n + m) (put_mid n (length xs - n) xs ys) ≡ take n xs ++ take m ys
filled n m xs ys h g =
    let rest = drop (length xs - n) (drop n xs) in
    let long = length-take-le n xs h in
    ap (λ (k : ℕ). take (k + m) (take n xs ++ (ys ++ rest))) (sym long)
    ∙ take-append-add (take n xs) (ys ++ rest) m
    ∙ ap (λ (zs : List ℕ). take n xs ++ zs) (take-append-le m ys rest g)
