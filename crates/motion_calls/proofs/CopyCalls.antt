-- The checks of copy: ViFirstPrint's test of its start comes with the cursor's, after all tests of the lent text but the last.
-- Assumes nothing.
use mathlib.Core.Path.{◌≡◌, refl, sym, ap, ◌∙◌}
use mathlib.Core.Bool.{Bool, true, false, cond, ◌||◌, or-true}
use mathlib.Core.List.{List}
use mathlib.Core.Logic.{◌⊎◌, inl, inr, ⊎_elim}
use Prim.Native.Nat.{ℕ, ◌≤◌}
use Rattle.std.proofs.Common.{Result, Ok, Err}
use native.Mathlib.Omega.{arith}
use borrow.Author.Tests.{ltb-false}
use lib.Dec.{ltb}
use lib.ListN.{length}
use Rattle.lists.proofs.Bools.{never, or_none}
use Rattle.formats.specs.Formats.{format_for}
use Rattle.repertoire.specs.Repertoire.{Repertoire}
use Rattle.keymap.specs.declared.Movement.{Movement}
use Rattle.checks.specs.Checks.{Tests, both, refusal, lent_text, own_tests}
use Rattle.checks.specs.declared.Line.{Line}
use Rattle.checks.specs.declared.Refused.{Refused}
use Rattle.checks.specs.declared.Refused.TheVariants.{Split}
use Rattle.checks.specs.Refused.{number_of, refused_by}
use Rattle.checks.proofs.Refusals.{never-passes, split-only}
use Rattle.motion_calls.specs.Moves.{lent}
use Rattle.motion_ranges.specs.Ranges.{is_foreign, starts_after}
use Rattle.motion_calls.specs.Copy.{copy_tests}

-- ---- the tests in number order: sizes, characters, places, split characters
abbrev chain : Bool → Bool → Bool → Bool → ℕ
chain a c p q = cond a 2 (cond c 4 (cond p 5 (cond q 6 0)))

-- a number before the place's
chain_early : (a c p x q : Bool) → (chain a c (p || false) q ≡ 0 → ⊥) → (chain a c (p || false) q ≡ 6 → ⊥) →
    chain a c (p || false) q ≡ chain a c (p || x) q
chain_early true c p x q z s = refl
chain_early false true p x q z s = refl
chain_early false false true x q z s = refl
chain_early false false false x true z s = absurd (s refl)
chain_early false false false x false z s = absurd (z refl)

-- none before it
chain_late : (a c p q : Bool) → (chain a c p q ≡ 0) ⊎ (chain a c p q ≡ 6) → (a ≡ false) × (c ≡ false)
chain_late true c p q h = ⊎_elim (λ e. absurd (omega arith)) (λ e. absurd (omega arith)) h
chain_late false true p q h = ⊎_elim (λ e. absurd (omega arith)) (λ e. absurd (omega arith)) h
chain_late false false p q h = (refl, refl)

chain_place : (a c p x q : Bool) → a ≡ false → c ≡ false → x ≡ true → 5 ≡ chain a c (p || x) q
chain_place a c p x q u v h = rw (u, v, h, or-true p)

-- b says of the result t of some checks that at most a split character refuses
pub record OnlySplit (n : ℕ) (t : Result (Unit {0}) Refused) (b : Bool) : Type 0 where
  pub number : refused_by t ≡ n
  pub met : b ≡ true → (refused_by t ≡ 0) ⊎ (refused_by t ≡ 6)
  pub unmet : b ≡ false → (refused_by t ≡ 0 → ⊥) × (refused_by t ≡ 6 → ⊥)

pub by_ok : (n : ℕ) {t : Result (Unit {0}) Refused} {b : Bool} (x : Unit {0}) → 0 ≡ n → t ≡ Ok x → b ≡ true → OnlySplit n t b
by_ok n x e i q =
    record {
      number = rw i e;
      met = λ _. inl (rw i);
      unmet = λ z. never _ _ q z;
    }

pub by_split : (n : ℕ) {t : Result (Unit {0}) Refused} {b : Bool} (why : Refused) → number_of why ≡ n → t ≡ Err why → why ≡ Split → b ≡ true
    → OnlySplit n t b
by_split n why e i s q =
    record {
      number = rw i e;
      met = λ _. inr (rw (i, s));
      unmet = λ z. never _ _ q z;
    }

pub by_other : (n : ℕ) {t : Result (Unit {0}) Refused} {b : Bool} (why : Refused) → number_of why ≡ n → t ≡ Err why → (why ≡ Split → ⊥) → b ≡ false
    → OnlySplit n t b
by_other n why e i s q =
    record {
      number = rw i e;
      met = λ z. never _ _ z q;
      unmet = λ _. (λ z. never-passes why (ap refused_by (sym i) ∙ z), λ z. s (split-only why (ap refused_by (sym i) ∙ z)));
    }

module _ (R : Repertoire) (buffer : List ℕ) (line : Line) (mvt : Movement) (f : Bool) (w : f ≡ is_foreign R mvt) where
  abbrev l : Tests
  l = lent R buffer line

  abbrev t : Tests
  t = both l (own_tests false f false)

  abbrev after : Bool
  after = starts_after R (lent_text buffer line) line.cursor mvt

  abbrev own : Tests
  own = copy_tests R buffer line mvt

  module _ (x : Result (Unit {0}) Refused) (b : Bool) (h : OnlySplit (refusal t) x b) where
    late : b ≡ true → (t.sizes ≡ false) × (t.foreign ≡ false)
    unfolding refusal
    late q = chain_late t.sizes t.foreign t.place t.split (⊎_elim (λ z. inl (sym h.number ∙ z)) (λ z. inr (sym h.number ∙ z)) (h.met q))

    pub lent-used : b ≡ true → line.len ≤ length buffer
    lent-used q =
        let s = (or_none l.sizes false (late q).0).0 in
        let u = (or_none (ltb (format_for (length buffer)).text (length buffer)) (ltb (length buffer) line.len) s).1 in
        ltb-false (length buffer) line.len u

    -- the start is tried: it is refused, or what was found stays
    pub start-after : b ≡ true → after ≡ true → 5 ≡ refusal (both l own)
    unfolding refusal
    start-after q a =
        let g = ap (λ (c : Bool). l.foreign || c) (sym w) ∙ (late q).1 in
        chain_place t.sizes (l.foreign || is_foreign R mvt) l.place after t.split (late q).0 g a

    pub start-before : after ≡ false → refused_by x ≡ refusal (both l own)
    start-before a =
        h.number ∙ ap (λ (c : Bool). refusal (both l (own_tests false c false))) w ∙
        ap (λ (c : Bool). refusal (both l (own_tests false (is_foreign R mvt) c))) (sym a)

    -- it is not: a number before it refuses
    pub start-untried : b ≡ false → refused_by x ≡ refusal (both l own)
    unfolding refusal
    start-untried q =
        let u = h.unmet q in
        h.number ∙ chain_early t.sizes t.foreign l.place after t.split (λ z. u.0 (h.number ∙ z)) (λ z. u.1 (h.number ∙ z)) ∙
        ap (λ (c : Bool). chain t.sizes (l.foreign || c) (l.place || after) t.split) w
