-- THE FIRST WHOLE LAYOUT (document 02, T-06): for every accepted sheet `first_layout_of` finds none exactly when no good placement lies inside the
-- table, and otherwise one that lies inside and that none inside precedes (`first_finds`); a finding with that property is unique, whatever
-- finds it and in whatever order it searches (`first-unique`). Assumes nothing.
use mathlib.Core.Path.{◌≡◌, refl, sym, ap, ◌∙◌, subst}
use mathlib.Core.Logic.{⊎_elim}
use mathlib.Core.Bool.{Bool, true, false, cond}
use mathlib.Core.List.{List}
use mathlib.Core.Option.{Option, none, some}
use Prim.Native.Nat.{ℕ, zero, suc, ◌+◌, ◌/◌, ◌%◌, ◌≤◌, ◌<◌}
use native.Mathlib.Nat.{not-suc-le-zero}
use native.Mathlib.Omega.{arith}
use lib.Arith.{lt_of_le-ne}
use lib.ListN.{length}
use lib.IntN.{ℤ, pos, ◌+ℤ◌, ◌-ℤ◌}
use lib.Signed.{◌<ℤ◌, ≤ℤ_refl}
use Rattle.integers.specs.Integer.{nat, within}
use Rattle.integers.specs.Below.{first_some}
use Rattle.integers.proofs.Booleans.{clash, decide}
use Rattle.integers.proofs.Below.{First, first-view, at-upto, last_or, below_or, same_or}
use Rattle.integers.proofs.Ints.{ints, sum, disjoint, within-true, true-within}
use Rattle.integers.proofs.Ranges.{nat-diff, count, count-below}
use Rattle.integers.proofs.Sets.{member-ge-1, small-set}
use Rattle.sheet.specs.Layout.{axes, shape_set, has_shape}
use Rattle.sheet.specs.Placement.{row_fixed, fixed, good}
use Rattle.sheet.specs.Settle.{Inside}
use Rattle.sheet.specs.Refusal.{refusal}
use Rattle.sheet.specs.Accepted.{Table}
use Rattle.sheet.specs.Cuts.{HasNumber, is_open, number, Single, cut_to}
use Rattle.sheet.specs.FirstLayout.{Places, per_row, numbers, number_at, Precedes, FirstLayout, nothing, first, tries, first_from, first_layout_of}
use Rattle.sheet.proofs.Accepted.{accepted-head, accepted-table}
use Rattle.sheet.proofs.Inside.{inside-refl, inside-antisym}
use Rattle.sheet.proofs.Cuts.{cut_out}
use Rattle.sheet.proofs.Numbers.{has-number, number-least, number-open, inside-open, open-inside, single-fixed}
use Rattle.sheet.proofs.Places.{places-table, own_open, places-open, places-cut, cut-table, cut_inside, cut-places}
use Rattle.sheet.proofs.Precedes.{position-number, number-position, numbers-same, places-order}

none-not-some : {p : List ℤ} → none ≡ some p → ⊥
none-not-some e = let z : ◌≡◌ {A = ℕ} 0 1 = cc in omega arith

module _ (block : List ℤ) (some-axes : 0 < axes block) where
  -- every number before number m is chosen
  abbrev Chosen : List ℤ → ℕ → Type 0
  Chosen t m = (k : ℕ) → k < m → Single block t (suc (k / per_row block)) (k % per_row block)

  -- so every placement inside has the same numbers there
  chosen-same : {t : List ℤ} (table : Table block t) {m : ℕ} → Chosen t m → m ≤ numbers block t → (p : List ℤ) → Places block t p
      → (k : ℕ) → k < m → number_at block p k ≡ number_at block t k
  unfolding number_at
  chosen-same {t} table ch le p x k h =
      ch k h (number block p (suc (k / per_row block)) (k % per_row block))
      (places-open block some-axes t table p x (suc (k / per_row block)) (k % per_row block) (position-number block t k (omega arith)))

  -- ---- every number is chosen
  module _ (t : List ℤ) (table : Table block t) (ch : Chosen t (numbers block t)) where
    every-single : (i c : ℕ) → HasNumber block t i c → Single block t i c
    every-single i c n =
        let w = number-position block t i c n in
        subst (λ (j : ℕ). Single block t j c) w.row
        (subst (λ (e : ℕ). Single block t (suc (w.at / per_row block)) e) w.column (ch w.at w.below))

    all-fixed : fixed block t ≡ true
    unfolding fixed
    all-fixed =
        at-upto (row_fixed block t) (λ i h k.
        single-fixed block t table i h k (λ c l. every-single i c (record { from = h; upto = k; few = l })))

    -- so the table is the one placement that can lie inside
    only-placement : (p : List ℤ) → Places block t p → p ≡ t
    only-placement p x =
        inside-antisym block p t (places-table block some-axes t table p x) table x.inside
        (open-inside block t p record {
          as_long = sym x.inside.as_long;
          opens = λ i c z n o.
              let m : HasNumber block t i c = has-number block x.inside.as_long n in
              let single = every-single i c m in
              let same = single z o ∙ sym (single (number block p i c) (places-open block some-axes t table p x i c m)) in
              rw same (own_open block some-axes t table p x i c m);
          some_open = λ i c n. (number block t i c, number-open block t table i c (has-number block x.inside.as_long n));
        })

    none-sooner : (q : List ℤ) → Places block t q → Precedes block q t → ⊥
    none-sooner q y r =
        let l = r.below in
        let e = numbers-same block q t y.inside.as_long in
        let same = chosen-same table ch (omega arith) q y r.at (omega arith) in
        let less = r.less in
        omega ints

    whole-finds : FirstLayout block t (cond (good block t) (some t) none)
    whole-finds = by (good block t) refl
      where
        by : (b : Bool) → good block t ≡ b → FirstLayout block t (cond b (some t) none)
        by true e = first (record { inside = inside-refl block t; is_fixed = all-fixed; is_good = e }) none-sooner
        by false e = nothing (λ p x. clash (ap (good block) (sym (only-placement p x)) ∙ x.is_good) e)

  -- ---- every value that is open is tried
  tried : (t : List ℤ) (table : Table block t) (i c : ℕ) → HasNumber block t i c → (z : ℤ) → is_open block t i c z ≡ true
      → nat (z -ℤ number block t i c) < tries block t i c
  unfolding tries number is_open has_shape
  tried t table i zero n z o =
      let least : is_open block t i 0 (number block t i 0) ≡ true = number-open block t table i 0 n in
      let some : 1 ≤ nat (number block t i 0) = member-ge-1 (shape_set block t i) least in
      let few : nat z ≤ 32 = small-set (table.sets_upto i n.from n.upto) o in
      omega (ints, nat-diff z (number block t i 0), disjoint (number block t i 0))
  tried t table i (suc d) n z o = let w = within-true o in count-below w.0 w.1

  -- a table in which only y is open for a number
  single-by : (t : List ℤ) → Table block t → (i c : ℕ) → HasNumber block t i c → (y : ℤ)
      → ((z : ℤ) → is_open block t i c z ≡ true → z ≡ y) → Single block t i c
  single-by t table i c n y only z o = only z o ∙ sym (only (number block t i c) (number-open block t table i c n))

  -- ---- number m is chosen, and g finds for each choice what must be found
  module _ (t : List ℤ) (table : Table block t) (m : ℕ) (below : m < numbers block t) (ch : Chosen t m) (g : List ℤ → Option (List ℤ))
      (ih : (u : List ℤ) → Table block u → length u ≡ length t → Chosen u (suc m) → FirstLayout block u (g u)) where
    abbrev i : ℕ
    i = suc (m / per_row block)

    abbrev c : ℕ
    c = m % per_row block

    abbrev value : ℕ → ℤ
    value v = number block t i c +ℤ pos v

    abbrev cut : ℕ → List ℤ
    cut v = cut_to block t i c (value v) (value v)

    abbrev found : ℕ → Option (List ℤ)
    found v = cond (is_open block t i c (value v)) (g (cut v)) none

    n : HasNumber block t i c
    n = position-number block t m below

    alone : (z : ℤ) → within z z z ≡ true
    alone z = true-within (≤ℤ_refl z) (≤ℤ_refl z)

    -- a value that is open
    module _ (v : ℕ) (o : is_open block t i c (value v) ≡ true) where
      table-v : Table block (cut v)
      table-v = cut-table block some-axes t table i c n (value v) (value v) (value v) o (alone (value v))

      inside-v : Inside block (cut v) t
      inside-v = cut_inside block some-axes t table i c n (value v) (value v) (value v) o (alone (value v))

      places-v : (p : List ℤ) → Places block (cut v) p → Places block t p × (number block p i c ≡ value v)
      places-v p x =
          let w = cut-places block some-axes t table i c n (value v) (value v) (value v) o (alone (value v)) p x in
          let e = within-true w.1 in
          (w.0, omega ints)

      chosen-v : Chosen (cut v) (suc m)
      chosen-v k h =
          ⊎_elim
          (λ e. subst (λ (x : ℕ). Single block (cut v) (suc (x / per_row block)) (x % per_row block)) (sym e) here)
          (λ l. before k l)
          (last_or h)
        where
          here : Single block (cut v) i c
          here =
              single-by (cut v) table-v i c (has-number block (sym inside-v.as_long) n) (value v) (λ z oz.
              let w = within-true ((cut_out block t table i (value v) (value v) c n i c n z oz).1 refl refl) in
              omega ints)

          before : (k : ℕ) → k < m → Single block (cut v) (suc (k / per_row block)) (k % per_row block)
          before k l =
              let nk = position-number block t k (omega arith) in
              single-by (cut v) table-v _ _ (has-number block (sym inside-v.as_long) nk) _ (λ z oz.
              ch k l z (inside-open block (cut v) t inside-v _ _ z nk oz))

      sub : FirstLayout block (cut v) (found v)
      sub =
          subst (λ (b : Bool). FirstLayout block (cut v) (cond b (g (cut v)) none)) (sym o)
          (ih (cut v) table-v inside-v.as_long chosen-v)

    -- the choice that a placement makes
    choice : (q : List ℤ) → Places block t q → (v : ℕ) × (v < tries block t i c) × (value v ≡ number block q i c)
    choice q y =
        let o = places-open block some-axes t table q y i c n in
        (nat (number block q i c -ℤ number block t i c), tried t table i c n (number block q i c) o, count (number-least block t i c o))

    -- where g finds none for that choice, there is no such placement
    refuted : (q : List ℤ) → Places block t q → (v : ℕ) → value v ≡ number block q i c → found v ≡ none → ⊥
    refuted q y v e none-v = by (subst (FirstLayout block (cut v)) none-v (sub v o))
      where
        o : is_open block t i c (value v) ≡ true
        o = rw e (places-open block some-axes t table q y i c n)

        by : FirstLayout block (cut v) none → ⊥
        by (nothing f) = f q (places-cut block some-axes t table i c n (value v) (value v) q y (rw e (alone (number block q i c))))

    -- p is what g finds for the first choice for which it finds something
    module _ (w : First (tries block t i c) found) (o : is_open block t i c (value w.at) ≡ true) (x : Places block (cut w.at) w.value)
        (none-sooner-v : (q : List ℤ) → Places block (cut w.at) q → Precedes block q w.value → ⊥) where
      abbrev p : List ℤ
      p = w.value

      x' : Places block t p × (number block p i c ≡ value w.at)
      x' = places-v w.at o p x

      sooner : (q : List ℤ) → Places block t q → Precedes block q p → ⊥
      unfolding number_at
      sooner q y r =
          ⊎_elim
          (λ l.
          let a = chosen-same table ch (omega arith) q y r.at l in
          let b = chosen-same table ch (omega arith) p x'.0 r.at l in
          let less = r.less in
          omega ints)
          (λ l. ⊎_elim (λ e. at-choice e) (λ ne. past-choice (lt_of_le-ne l ne)) (same_or m r.at))
          (below_or r.at m)
        where
          at-choice : m ≡ r.at → ⊥
          at-choice e =
              let u = choice q y in
              let less : number block q i c <ℤ number block p i c = rw (sym e) at r.less in
              let q' = x'.1 in
              refuted q y u.0 u.2
              (w.before u.0 (omega (ints, u.2, sum (number block t i c) (pos u.0), sum (number block t i c) (pos w.at))))

          past-choice : m < r.at → ⊥
          past-choice l =
              let e : number block q i c ≡ value w.at = r.same m l ∙ x'.1 in
              none-sooner-v q
              (places-cut block some-axes t table i c n (value w.at) (value w.at) q y (rw e (alone (value w.at)))) r

    step-finds : FirstLayout block t (first_some (tries block t i c) found)
    step-finds = ⊎_elim something nothing-found (first-view (tries block t i c) found)
      where
        nothing-found : (first_some (tries block t i c) found ≡ none) × ((v : ℕ) → v < tries block t i c → found v ≡ none)
            → FirstLayout block t (first_some (tries block t i c) found)
        nothing-found e =
            subst (FirstLayout block t) (sym e.0) (nothing (λ q y. let w = choice q y in refuted q y w.0 w.2 (e.1 w.0 w.1)))

        something : First (tries block t i c) found → FirstLayout block t (first_some (tries block t i c) found)
        something w = subst (FirstLayout block t) (sym w.is) (⊎_elim opened shut (decide (is_open block t i c (value w.at))))
          where
            opened : is_open block t i c (value w.at) ≡ true → FirstLayout block t (some w.value)
            opened o = by (subst (FirstLayout block (cut w.at)) w.there (sub w.at o))
              where
                by : FirstLayout block (cut w.at) (some w.value) → FirstLayout block t (some w.value)
                by (first x f) = first (x' w o x f).0 (sooner w o x f)

            shut : is_open block t i c (value w.at) ≡ false → FirstLayout block t (some w.value)
            shut o = absurd (none-not-some (ap (λ (b : Bool). cond b (g (cut w.at)) none) (sym o) ∙ w.there))

  -- ---- the definition
  from-finds : (left m : ℕ) (t : List ℤ) → Table block t → m + left ≡ numbers block t → Chosen t m → FirstLayout block t (first_from block left m t)
  unfolding first_from
  from-finds zero m t table e ch = whole-finds t table (subst (Chosen t) (omega arith) ch)
  from-finds (suc left) m t table e ch =
      step-finds t table m (omega arith) ch (first_from block left (suc m)) (λ u table-u long chosen-u.
      from-finds left (suc m) u table-u (omega (arith, numbers-same block u t long)) chosen-u)

module _ (block : List ℤ) (t : List ℤ) (accepted : refusal block t ≡ 0) where
  pub first_finds : FirstLayout block t (first_layout_of block t)
  unfolding first_layout_of
  first_finds =
      from-finds block (accepted-head block t accepted).some_axes (numbers block t) 0 t (accepted-table block t accepted) (omega arith)
      (λ k h. absurd (not-suc-le-zero h))

  pub first-unique : (r : Option (List ℤ)) → FirstLayout block t r → first_layout_of block t ≡ r
  first-unique r h = same (first_layout_of block t) r first_finds h
    where
      same : (o r : Option (List ℤ)) → FirstLayout block t o → FirstLayout block t r → o ≡ r
      same none none (nothing f) (nothing g) = refl
      same none (some q) (nothing f) (first y g) = absurd (f q y)
      same (some p) none (first x f) (nothing g) = absurd (g p x)
      same (some p) (some q) (first x f) (first y g) =
          ⊎_elim (λ e. ap some e) (λ s. ⊎_elim (λ r. absurd (g p x r)) (λ r. absurd (f q y r)) s)
          (places-order block (accepted-head block t accepted).some_axes t (accepted-table block t accepted) p q x y)
