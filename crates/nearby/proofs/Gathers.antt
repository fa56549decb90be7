-- How a list grows: nothing is added where nothing can be met, a known area or a suspect is added, there is no room, one step follows
-- another; and loops over these. Assumes nothing.
use Rattle.std.specs.Prelude.{Option}
use Rattle.std.proofs.Common.{None, Some}
use Rattle.std.proofs.lemmas.Option.{IfSome_then}
use mathlib.Core.Path.{◌≡◌, refl, sym, ap, ap₂, ◌∙◌, subst}
use mathlib.Core.Logic.{inl, ⊎_elim}
use mathlib.Core.Bool.{Bool, true, false, ◌||◌}
use mathlib.Core.List.{List}
use Prim.Native.Nat.{ℕ, suc, ◌+◌, ◌≤◌, ◌<◌}
use native.Mathlib.Numerals.{add-one}
use native.Mathlib.Omega.{arith}
use lib.ListN.{length}
use lib.IntN.{ℤ, pos}
use Rattle.integers.specs.Integer.{nat}
use Rattle.integers.specs.Below.{any_below}
use Rattle.integers.specs.Words.{word}
use Rattle.integers.proofs.Booleans.{clash, or-true, or_left, or_right}
use Rattle.integers.proofs.Ints.{ints}
use Rattle.integers.proofs.Below.{any-zero, any-more, last_or}
use Rattle.sheet.specs.Layout.{axes, rules, rows}
use Rattle.sheet.specs.Allowed.{in_ranges, set_forbids}
use Rattle.sheet.specs.Accepted.{Count}
use Rattle.points.specs.declared.Area.{Area}
use Rattle.points.specs.Area.{in_area}
use Rattle.points.specs.Ends.{SameBut}
use Rattle.nearby.specs.Places.{suspect_len, suspect_at, suspect_area}
use Rattle.nearby.specs.Known.{Remembered}
use Rattle.nearby.specs.Listing.{Known, Suspect, Met, Suspects}
use Rattle.nearby.specs.Adding.{Gathered, Open, Grows, Threat}
use Rattle.points.proofs.Runs.{area-kept}
use Rattle.nearby.proofs.Remembered.{held-before, held_new, known_more}

-- ---- what stays where the words before suspect n do
module _ {n m : ℕ} {l l' : List ℤ} (same : SameBut (suspect_at n) m l l') {e : ℕ} (before : e < n) where
  rule-kept : word l' (suspect_at e) ≡ word l (suspect_at e)
  rule-kept = same.words _ (inl (omega arith))

  row_kept : word l' (suspect_at e + 1) ≡ word l (suspect_at e + 1)
  row_kept = same.words _ (inl (omega arith))

  suspect-area-kept : suspect_area l' e ≡ suspect_area l e
  suspect-area-kept = area-kept (suspect_at e + 2) same (inl (omega arith))

-- ---- the same test of other names
forbids-by : (block t : List ℤ) (i s : ℕ) (p : List ℤ) {r r' j j' : ℕ} → r ≡ r' → j ≡ j'
    → set_forbids block t r p i s j ≡ set_forbids block t r' p i s j'
forbids-by block t i s p e f = ap₂ (λ (r j : ℕ). set_forbids block t r p i s j) e f

holds_by : (block p : List ℤ) {a a' : Area} → a ≡ a' → in_area (axes block) a p ≡ in_area (axes block) a' p
holds_by block p e = ap (λ (a : Area). in_area (axes block) a p) e

-- ---- what holds of a new one and of each one before it
each_more : {n : ℕ} (P : ℕ → Type 0) → P n → ((e : ℕ) → e < n → P e) → (e : ℕ) → e < suc n → P e
each_more P p f e k = ⊎_elim (λ q. subst P (sym q) p) (f e) (last_or k)

few-count : {m : ℕ} {z : ℤ} → z ≡ pos m → m ≤ 32 → Count z
few-count e k = subst Count (sym e) (record { from = omega ints; upto = omega ints })

module _ {block t : List ℤ} {i s : ℕ} where
  module _ {n m : ℕ} {l l' : List ℤ} (same : SameBut (suspect_at n) m l l') where
    suspect-kept : {e : ℕ} → e < n → Suspect block t i s l e → Suspect block t i s l' e
    suspect-kept k w = record {
      rule_count = subst Count (sym (rule-kept same k)) w.rule_count;
      row_count = subst Count (sym (row_kept same k)) w.row_count;
      rule = subst (λ (z : ℤ). nat z < rules block) (sym (rule-kept same k)) w.rule;
      from = subst (λ (z : ℤ). 1 ≤ nat z) (sym (row_kept same k)) w.from;
      upto = subst (λ (z : ℤ). nat z ≤ rows block t) (sym (row_kept same k)) w.upto;
      sound = λ q f. w.sound q (sym (forbids-by block t i s q (ap nat (rule-kept same k)) (ap nat (row_kept same k))) ∙ f);
    }

    met-kept : {p : List ℤ} → Met block t i s l n p → Met block t i s l' (n + 1) p
    met-kept {p} w = let k = w.below in record {
      suspect = w.suspect;
      below = omega (arith, k);
      holds = holds_by block p (suspect-area-kept same k) ∙ w.holds;
      forbids = forbids-by block t i s p (ap nat (rule-kept same k)) (ap nat (row_kept same k)) ∙ w.forbids;
    }

  -- ---- a list that has met more has met less
  pub gathered-by : {l known : List ℤ} {n : Option ℕ} {G H : List ℤ → Bool} → ((p : List ℤ) → H p ≡ true → G p ≡ true)
      → Gathered block t i s l known n G → Gathered block t i s l known n H
  gathered-by {n = n} f g = record { areas = g.areas; suspects = g.suspects; meets = IfSome_then n g.meets (λ n m p j h. m p j (f p h)) }

  module _ {l known l' known' : List ℤ} {n n' : Option ℕ} where
    pub grows-by : {H K : List ℤ → Bool} → ((p : List ℤ) → K p ≡ true → H p ≡ true)
        → Grows block t i s H l known n l' known' n' → Grows block t i s K l known n l' known' n'
    grows-by {H} {K} f g = record {
      after = λ G w. gathered-by (λ p h. ⊎_elim (λ u. or_left (H p) u) (λ u. or_right (G p) (f p u)) (or-true {a = G p} h)) (g.after G w);
    }

    -- the list is as good after a step as before
    pub open_after : {H : List ℤ → Bool} → Grows block t i s H l known n l' known' n' → Open block t i s l known n → Open block t i s l' known' n'
    open_after g w = gathered-by (λ p h. clash h refl) (g.after (λ p. false) w)

    pub grows_then : {l'' known'' : List ℤ} {n'' : Option ℕ} {H K : List ℤ → Bool} → Grows block t i s H l known n l' known' n'
        → Grows block t i s K l' known' n' l'' known'' n'' → Grows block t i s (λ p. H p || K p) l known n l'' known'' n''
    grows_then {H} {K} g k = record {
      after = λ G w.
          gathered-by (λ p h. ⊎_elim (λ u. or_left (K p) (or_left (H p) u))
          (λ u. ⊎_elim (λ v. or_left (K p) (or_right (G p) v)) (λ v. or_right (G p || H p) v) (or-true {a = H p} u)) (or-true {a = G p} h))
          (k.after (λ p. G p || H p) (g.after G w));
    }

  -- ---- no suspect
  pub suspects-none : (l : List ℤ) → Suspects block t i s l 0
  suspects-none l = record { fits = omega arith; each = λ e h. absurd (omega (arith, h)) }

  pub gathered-start : {l known : List ℤ} → Known block t i s known → Open block t i s l known (Some 0)
  gathered-start {l} k = record { areas = k; suspects = suspects-none l; meets = λ p j h. clash h refl }

  -- ---- nothing to add
  module _ {l known : List ℤ} {n : Option ℕ} {H : List ℤ → Bool} where
    pub grows-clear : ((p : List ℤ) → in_ranges block t i p ≡ true → H p ≡ true → ⊥) → Grows block t i s H l known n l known n
    grows-clear f = record {
      after = λ G w. record {
        areas = w.areas;
        suspects = w.suspects;
        meets = IfSome_then n w.meets (λ n m p j h k. ⊎_elim (λ v. m p j v k) (λ v. absurd (f p j v)) (or-true {a = G p} h));
      };
    }

    pub grows_none : ((p : List ℤ) → H p ≡ false) → Grows block t i s H l known n l known n
    grows_none f = grows-clear (λ p j h. clash h (f p))

    -- no room
    pub grows-full : Grows block t i s H l known n l known None
    grows-full = record { after = λ G w. record { areas = w.areas; suspects = tt; meets = tt } }

  -- ---- one area more
  module _ {r j : ℕ} {area : Area} {filled : Bool} (threat : Threat block t i s r j area filled) where
    pub grows-known : {l known known' : List ℤ} {n : Option ℕ} {had-room : Bool} → Remembered known area had-room known' → had-room ≡ true
        → filled ≡ true → Grows block t i s (λ p. set_forbids block t r p i s j) l known n l known' n
    grows-known {n = n} w had full-of = record {
      after = λ G g. record {
        areas = known_more g.areas (record { forbids = threat.fills full-of; small = threat.small }) w;
        suspects = g.suspects;
        meets = IfSome_then n g.meets (λ n m p inside h k. ⊎_elim (λ v. m p inside v (held-before block p w k))
            (λ v. clash (held_new block p w had (threat.holds p inside v)) k) (or-true {a = G p} h));
      };
    }

    -- ---- one suspect more
    module _ {l l' : List ℤ} (n : ℕ) (same : SameBut (suspect_at n) suspect_len l l') (rule : word l' (suspect_at n) ≡ pos r)
        (row : word l' (suspect_at n + 1) ≡ pos j) (area-is : suspect_area l' n ≡ area) (r-few : r ≤ 32) (j-few : j ≤ 32) where
      new-suspect : Suspect block t i s l' n
      new-suspect = record {
        rule_count = few-count rule r-few;
        row_count = few-count row j-few;
        rule = subst (λ (m : ℕ). m < rules block) (sym (ap nat rule)) threat.rule;
        from = subst (λ (m : ℕ). 1 ≤ m) (sym (ap nat row)) threat.from;
        upto = subst (λ (m : ℕ). m ≤ rows block t) (sym (ap nat row)) threat.upto;
        sound = λ q f. threat.sound q (sym (forbids-by block t i s q (ap nat rule) (ap nat row)) ∙ f);
      }

      new-met : (p : List ℤ) → in_ranges block t i p ≡ true → set_forbids block t r p i s j ≡ true → Met block t i s l' (n + 1) p
      new-met p h f = record {
        suspect = n;
        below = omega arith;
        holds = holds_by block p area-is ∙ threat.holds p h f;
        forbids = forbids-by block t i s p (ap nat rule) (ap nat row) ∙ f;
      }

      pub grows-suspect : {known : List ℤ} → suspect_at (suc n) ≤ length l
          → Grows block t i s (λ p. set_forbids block t r p i s j) l known (Some n) l' known (Some (n + 1))
      grows-suspect room = record {
        after = λ G g. record {
          areas = g.areas;
          suspects = record {
            fits = omega (arith, room, same.long);
            each = λ e k. each_more (Suspect block t i s l') new-suspect
                (λ e m. suspect-kept same m (g.suspects.each e m)) e (subst (λ (m : ℕ). e < m) (add-one n) k);
          };
          meets = λ p j h k. ⊎_elim (λ v. met-kept same (g.meets p j v k)) (λ v. new-met p j v) (or-true {a = G p} h);
        };
      }

  -- ---- loops
  pub grows_start : (F : ℕ → List ℤ → Bool) {l known : List ℤ} {n : Option ℕ} → Grows block t i s (λ p. any_below 0 (λ m. F m p)) l known n l known n
  grows_start F = grows_none (λ p. any-zero (λ m. F m p))

  pub grows-more : (F : ℕ → List ℤ → Bool) {l known l' known' l'' known'' : List ℤ} {k k' k'' : Option ℕ} {n : ℕ}
      → Grows block t i s (λ p. any_below n (λ m. F m p)) l known k l' known' k' → Grows block t i s (F n) l' known' k' l'' known'' k''
      → Grows block t i s (λ p. any_below (n + 1) (λ m. F m p)) l known k l'' known'' k''
  grows-more F {n} g h = grows-by (λ p e. sym (any-more n (λ m. F m p)) ∙ e) (grows_then g h)
