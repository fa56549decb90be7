-- Which rows notice that row i was narrowed. What is forbidden to a row depends on the words of the other rows, and narrowing row i
-- changes those of row i alone. So narrowing row i again right away moves nothing (`narrow-again`), and a row that did not move still
-- does not, if row i now forbids it no point of its ranges (`narrow-harmless`). Assumes nothing.
use mathlib.Core.Path.{◌≡◌, refl, sym, ap, ◌∙◌, subst, subst⁻¹}
use mathlib.Core.Logic.{⊎_elim}
use mathlib.Core.Bool.{true, false}
use mathlib.Core.List.{List}
use mathlib.Core.Option.{Option, some}
use Prim.Native.Nat.{ℕ, ◌≤◌, ◌<◌}
use lib.IntN.{ℤ}
use lib.Signed.{◌≤ℤ◌}
use Rattle.integers.specs.Bits.{holds}
use Rattle.integers.specs.Words.{word}
use Rattle.integers.proofs.Booleans.{clash}
use Rattle.integers.proofs.Below.{same_or}
use Rattle.sheet.specs.Layout.{dims, axes, rules, is_non_overlap, names_row, rows, shape_set, low, high, has_shape}
use Rattle.sheet.specs.Allowed.{in_ranges, forbid_from, forbid_to, set_forbids, forbidden, allowed}
use Rattle.sheet.specs.Narrow.{Stands, Narrowed, Narrows, narrowed, narrow_of}
use Rattle.sheet.specs.Accepted.{Table}
use Rattle.sheet.proofs.Accepted.{rows_same}
use Rattle.sheet.proofs.Forbidden.{axis, allowed-parts, allowed-by, in-range, ranges-by, pair-at, pair-by, set-carries}
use Rattle.sheet.proofs.Forbidden.{Forbids, forbidden-parts, forbidden-by}
use Rattle.sheet.proofs.Rows.{set_other, low-other, high-other}
use Rattle.sheet.proofs.Narrows.{narrow-finds}
use Rattle.sheet.proofs.NarrowsOnce.{narrow-is}

module _ (block : List ℤ) where
  -- row j has the same words in both tables
  record SameRow (t u : List ℤ) (j : ℕ) : Type 0 where
    set : shape_set block t j ≡ shape_set block u j
    lows : (d : ℕ) → d < axes block → low block t j d ≡ low block u j d
    highs : (d : ℕ) → d < axes block → high block t j d ≡ high block u j d

  -- ---- what one other row forbids
  module _ (t u : List ℤ) (j : ℕ) (same : SameRow t u j) where
    from-same : (r i b c d : ℕ) → d < dims block → forbid_from block t r i b j c d ≡ forbid_from block u r i b j c d
    unfolding forbid_from
    from-same r i b c d l = rw (same.highs d (axis block l))

    to_same : (r i b c d : ℕ) → d < dims block → forbid_to block t r i b j c d ≡ forbid_to block u r i b j c d
    unfolding forbid_to
    to_same r i b c d l = rw (same.lows d (axis block l))

    held_same : (s : ℕ) → has_shape block t j s ≡ has_shape block u j s
    unfolding has_shape
    held_same s = ap (λ (z : ℤ). holds z s) same.set

    set_same : (r : ℕ) (p : List ℤ) (i s : ℕ) → set_forbids block t r p i s j ≡ true → set_forbids block u r p i s j ≡ true
    set_same r p i s =
        set-carries block t u r r i s j p
        (λ b c e. pair-by block u r i b j c p (λ d l n.
        let w = pair-at block t r i b j c d p e l n in
        (subst (λ (z : ℤ). z ≤ℤ word p d) (from-same r i b c d l) w.0, subst (λ (z : ℤ). word p d ≤ℤ z) (to_same r i b c d l) w.1)))
        (λ s' h. held_same s' ∙ h)

  -- row i forbids row j no point of its ranges
  pub record Harmless (t : List ℤ) (i j : ℕ) : Type 0 where
    pub spares : (r s : ℕ) (p : List ℤ) → r < rules block → is_non_overlap block r ≡ true → names_row block r i ≡ true → names_row block r j ≡ true
        → has_shape block t j s ≡ true → in_ranges block t j p ≡ true → set_forbids block t r p j s i ≡ false

  -- ---- row i narrowed
  module _ (t v : List ℤ) (i : ℕ) (from : 1 ≤ i) (n : Narrowed block t i v) where
    -- another row keeps its words
    kept : (j : ℕ) → 1 ≤ j → (j ≡ i → ⊥) → SameRow v t j
    kept j h ne =
        record {
          set = set_other block t v i from n.others j h ne;
          lows = λ d l. low-other block t v i from n.others j d h ne l;
          highs = λ d l. high-other block t v i from n.others j d h ne l;
        }

    -- row j, whose words in v are those that narrowing it in t finds: it is row i, or row i forbids it nothing
    module _ (j : ℕ) (w : List ℤ) (m : Narrowed block t j w) (same : SameRow v w j) (harmless : (j ≡ i → ⊥) → Harmless v i j) where
      was-forbidden : (s : ℕ) (p : List ℤ) → has_shape block v j s ≡ true → in_ranges block v j p ≡ true
          → forbidden block v j s p ≡ true → forbidden block t j s p ≡ true
      was-forbidden s p held ranged e =
          forbidden-by block t j s p (record {
            rule = f.rule;
            other = f.other;
            rule_below = f.rule_below;
            from = f.from;
            upto = subst (λ (x : ℕ). f.other ≤ x) (rows_same block v t n.as_long) f.upto;
            kind = f.kind;
            names = f.names;
            another = f.another;
            names_other = f.names_other;
            set = ⊎_elim by-row-i (λ ne. set_same v t f.other (kept f.other f.from ne) f.rule p j s f.set) (same_or f.other i);
          })
        where
          f : Forbids block v j s p
          f = forbidden-parts block v j s p e

          by-row-i : f.other ≡ i → set_forbids block t f.rule p j s f.other ≡ true
          by-row-i q =
              let names-i = subst (λ (x : ℕ). names_row block f.rule x ≡ true) q f.names_other in
              clash (subst (λ (x : ℕ). set_forbids block v f.rule p j s x ≡ true) q f.set)
              ((harmless (λ z. f.another (z ∙ sym q))).spares f.rule s p f.rule_below f.kind names-i f.names held ranged)

      -- where row j is allowed in t, it is allowed in v
      module _ (s : ℕ) (p : List ℤ) (held : has_shape block t j s ≡ true) (e : allowed block t j s p ≡ true) where
        held-still : has_shape block v j s ≡ true
        held-still = held_same v w j same s ∙ (m.shapes s).1 (held, (p, e))

        ranged-still : in_ranges block v j p ≡ true
        ranged-still =
            ranges-by block v j p (λ d l.
            let b = m.bounds p (record { shape = s; held = held; stands = e }) d l in
            (subst⁻¹ (λ (z : ℤ). z ≤ℤ word p d) (same.lows d l) b.0, subst⁻¹ (λ (z : ℤ). word p d ≤ℤ z) (same.highs d l) b.1))

        allowed-still : allowed block v j s p ≡ true
        allowed-still =
            let a = allowed-parts block t j s p e in
            allowed-by block v j s p ranged-still a.1 (λ f. clash (was-forbidden s p held-still ranged-still f) a.2)

      stands-still : (p : List ℤ) → Stands block t j p → Stands block v j p
      stands-still p st =
          record {
            shape = st.shape;
            held = held-still st.shape p st.held st.stands;
            stands = allowed-still st.shape p st.held st.stands;
          }

      stays : Narrowed block v j v
      stays =
          record {
            as_long = refl;
            others = λ at. (λ h. refl, λ h. refl);
            lows = λ d l.
                let r = m.lows d l in
                record { point = r.point; there = r.there ∙ sym (same.lows d l); by = stands-still r.point r.by };
            highs = λ d l.
                let r = m.highs d l in
                record { point = r.point; there = r.there ∙ sym (same.highs d l); by = stands-still r.point r.by };
            bounds = λ p st d l. in-range block v j d p (allowed-parts block v j st.shape p st.stands).0 l;
            shapes = λ s. (
              λ e. let x = (m.shapes s).0 (sym (held_same v w j same s) ∙ e) in (e, (x.1.0, allowed-still s x.1.0 x.0 x.1.1)),
              λ x. x.0,
            );
          }

  -- ---- of the definition
  module _ (t v : List ℤ) (table : Table block t) (after : Table block v) (i : ℕ) (from : 1 ≤ i) (upto : i ≤ rows block t)
      (e : narrow_of block t i ≡ some v) where
    unmoved : (j : ℕ) → 1 ≤ j → j ≤ rows block t → (w : List ℤ) → narrow_of block t j ≡ some w → (Narrowed block t i v → SameRow v w j)
        → ((j ≡ i → ⊥) → Harmless v i j) → narrow_of block v j ≡ some v
    unmoved j h k w g same harmless =
        by (subst (λ (o : Option (List ℤ)). Narrows block t i o) e (narrow-finds block t table i from upto))
        (subst (λ (o : Option (List ℤ)). Narrows block t j o) g (narrow-finds block t table j h k))
      where
        by : Narrows block t i (some v) → Narrows block t j (some w) → narrow_of block v j ≡ some v
        by (narrowed p st n) (narrowed q su m) =
            narrow-is block v j h after (subst (λ (x : ℕ). j ≤ x) (sym (rows_same block v t n.as_long)) k) (some v)
            (narrowed q (stands-still t v i from n j w m (same n) harmless q su) (stays t v i from n j w m (same n) harmless))

    pub narrow-again : narrow_of block v i ≡ some v
    narrow-again =
        unmoved i from upto v e (λ n. record { set = refl; lows = λ d l. refl; highs = λ d l. refl }) (λ ne. absurd (ne refl))

    pub narrow-harmless : (j : ℕ) → 1 ≤ j → j ≤ rows block t → (j ≡ i → ⊥) → Harmless v i j → narrow_of block t j ≡ some t
        → narrow_of block v j ≡ some v
    narrow-harmless j h k ne harmless g = unmoved j h k t g (λ n. kept t v i from n j h ne) (λ z. harmless)
