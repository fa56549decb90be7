-- How many bytes of a run are in use. Assumes nothing.
use Rattle.std.specs.Prelude.{◌≡◌, ℕ, ◌≤◌, List, length, take, Result, Ok, Err}

-- n is the length of a prefix of xs: `&xs[..n]` is in bounds and has n bytes
abbrev pub IsPrefixLen : ℕ → List ℕ → Type 0
IsPrefixLen n xs = (n ≤ length xs) × (n ≡ length (take n xs))

-- how many bytes were read, to the end or before a read that failed
abbrev pub read_len : Result ℕ ℕ → ℕ
read_len (Ok n) = n
read_len (Err n) = n

-- what was read, to the end or before a read that failed
abbrev pub what_read : {A : Type 0} → Result A A → A
what_read (Ok x) = x
what_read (Err x) = x
