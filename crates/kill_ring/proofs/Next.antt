-- What a call leaves is what the next call finds: its checks pass, and the value is that of the outcome. Assumes nothing.
use Prim.Native.Nat.{ℕ, zero, suc, ◌*◌, ◌≤◌}
use native.Mathlib.Omega.{arith}
use mathlib.Core.Path.{◌≡◌, refl, sym, ap, ap₂, subst, ◌∙◌}
use mathlib.Core.Bool.{Bool, false, cond, not}
use mathlib.Core.List.{List}
use borrow.Author.Tests.{le-ltb}
use lib.ListN.{length}
use Rattle.std.specs.Prelude.{Some}
use Rattle.repertoire.specs.Repertoire.{Repertoire}
use Rattle.repertoire.specs.Text.{is_text}
use Rattle.checks.specs.Outcome.{Outcome, refused, answered, called, leaves}
use Rattle.kill_ring.specs.declared.Ring.{Ring}
use Rattle.kill_ring.specs.declared.AnswerAndRing.{AnswerAndRing}
use Rattle.kill_ring.specs.declared.Action.{Action}
use Rattle.kill_ring.specs.declared.Action.TheVariants.{Kill, Yank, Other}
use Rattle.kill_ring.specs.declared.Mode.{Mode}
use Rattle.kill_ring.specs.Ring.{KillRing, is_empty, empty, reset_out, yank_out, yanked, previous_index, pop_out, yank_pop_out}
use Rattle.kill_ring.specs.Calls.{Lent, lent, value_of, checked, new_call, reset_call, kill_by, yank_call, yank_pop_call, ring_of}
use Rattle.kill_ring.specs.Calls.{answer_and_ring, SlotsIn, Ringed}
use Rattle.kill_ring.specs.Sound.{Sound}
use Rattle.kill_ring.proofs.Passed.{Ready, passed}
use Rattle.kill_ring.proofs.Value.{cond_ind}
use Rattle.kill_ring.proofs.Kills.{ready-slots}
use Rattle.kill_ring.proofs.ReadBack.{passes-ready, read-back}
use Rattle.kill_ring.proofs.Kept.{Kept, new_sound, reset_leaves, yank-leaves, pop_leaves, kill-leaves}

-- a ring's record and buffers that the next call is lent
pub record Next (R : Repertoire) (v : KillRing) (g : Ring) (slots lens : List ℕ) : Type 0 where
  pub ready : Ready R (lent slots lens g)
  pub value : value_of (lent slots lens g) ≡ v

-- a sound ring that the buffers hold
slots_next : (R : Repertoire) (v : KillRing) (g : Ring) (slots lens : List ℕ) → Sound R v → 4096 * v.size ≤ length slots
    → 2 * v.size ≤ length lens
    → SlotsIn slots lens 0 v.slots → g ≡ ring_of v
    → Next R v g slots lens
slots_next R v g slots lens sound bytes numbers stands e =
    subst (λ (x : Ring). Next R v x slots lens) (sym e)
    (record { ready = passes-ready R slots lens v sound bytes numbers stands; value = read-back R slots lens v sound bytes numbers stands })

-- after any call that the checks pass
pub next : (R : Repertoire) (l : Lent) (o : Outcome KillRing) (r : AnswerAndRing) (s t : List ℕ) → Ready R l
    → Kept R (value_of l) (leaves o (value_of l))
    → Ringed l o r s t → length s ≡ length l.slots
    → length t ≡ length l.lens → Next R (leaves o (value_of l)) r.ring s t
next R l (refused k) r s t p kept done a b =
    let same : lent s t r.ring ≡ l = ap₂ (λ (x y : List ℕ). lent x y r.ring) done.bytes.0 done.bytes.1
    ∙ ap (λ (x : AnswerAndRing). lent l.slots l.lens x.ring) done.whole in
    record { ready = subst (Ready R) (sym same) p; value = ap value_of same }
next R l (answered k i n v) r s t p kept done a b =
    slots_next R v r.ring s t kept.sound (omega (arith, kept.size, p.slots)) (omega (arith, kept.size, p.lens)) done.bytes
    (ap (λ (x : AnswerAndRing). x.ring) done.whole)

-- ---- the calls that write no byte: the slots stay
abbrev Same : KillRing → Outcome KillRing → Type 0
Same v (refused k) = Unit {0}
Same v (answered k i n w) = w.slots ≡ v.slots

-- a call that leaves the slots alone leaves every byte as it was
quiet : (R : Repertoire) (l : Lent) (o : Outcome KillRing) (r : AnswerAndRing) → Ready R l → Same (value_of l) o
    → r ≡ answer_and_ring l.ring o → Ringed l o r l.slots l.lens
quiet R l (refused k) r p h e = record { whole = e; bytes = (refl, refl) }
quiet R l (answered k i n w) r p h e = record { whole = e; bytes = subst (SlotsIn l.slots l.lens 0) (sym h) (ready-slots R l p) }

-- a refusal leaves the slots alone too
called_same : (v : KillRing) (n : ℕ) (o : Outcome KillRing) → Same v o → Same v (called n o)
called_same v zero o h = h
called_same v (suc n) o h = tt

-- yank
yank-same : (v : KillRing) → Same v (yank_out v)
unfolding yank_out
yank-same v = cond_ind (Same v) (is_empty v.slots) (answered 1 0 0 v) (answered 0 v.index 0 (yanked v.index v)) (λ e. refl) (λ e. refl)

-- yank_pop
pop_same : (v : KillRing) → Same v (yank_pop_out v)
unfolding yank_pop_out
pop_same v = go v.action
  where
    go : (a : Action) → Same v (pop_out a v)
    go Kill = refl
    go (Yank n) =
        cond_ind (Same v) (is_empty v.slots) (answered 1 0 0 v) (answered 0 (previous_index v) n (yanked (previous_index v) v))
        (λ e. refl) (λ e. refl)
    go Other = refl

module _ (R : Repertoire) (l : Lent) (r : AnswerAndRing) where
  -- what such a call leaves
  quiet_next : (o : Outcome KillRing) → checked R l false false ≡ 0 → Same (value_of l) o → Kept R (value_of l) (leaves o (value_of l))
      → r ≡ answer_and_ring l.ring o → Next R (leaves o (value_of l)) r.ring l.slots l.lens
  quiet_next o e h kept q = let p = passed R l false false e in next R l o r l.slots l.lens p kept (quiet R l o r p h q) refl refl

  -- reset
  pub reset_next : checked R l false false ≡ 0 → r ≡ answer_and_ring l.ring (reset_call R l)
      → Next R (leaves (reset_call R l) (value_of l)) r.ring l.slots l.lens
  reset_next e q =
      quiet_next (reset_call R l) e (called_same (value_of l) (checked R l false false) (reset_out (value_of l)) refl)
      (reset_leaves R l e) q

  -- yank
  pub yank-next : checked R l false false ≡ 0 → r ≡ answer_and_ring l.ring (yank_call R l)
      → Next R (leaves (yank_call R l) (value_of l)) r.ring l.slots l.lens
  yank-next e q =
      quiet_next (yank_call R l) e (called_same (value_of l) (checked R l false false) (yank_out (value_of l)) (yank-same (value_of l)))
      (yank-leaves R l e) q

  -- yank_pop
  pub pop_next : checked R l false false ≡ 0 → r ≡ answer_and_ring l.ring (yank_pop_call R l)
      → Next R (leaves (yank_pop_call R l) (value_of l)) r.ring l.slots l.lens
  pop_next e q =
      quiet_next (yank_pop_call R l) e
      (called_same (value_of l) (checked R l false false) (yank_pop_out (value_of l)) (pop_same (value_of l))) (pop_leaves R l e) q

  -- ---- kill
  pub kill-next : (text : List ℕ) (m : Mode) (s t : List ℕ) → checked R l false (not (is_text R text)) ≡ 0
      → Ringed l (kill_by R l text (Some m)) r s t → length s ≡ length l.slots
      → length t ≡ length l.lens → Next R (leaves (kill_by R l text (Some m)) (value_of l)) r.ring s t
  kill-next text m s t e done a b =
      next R l (kill_by R l text (Some m)) r s t
      (passed R l false (not (is_text R text)) e) (kill-leaves R l text m e) done a b

-- ---- new: with any buffers that are long enough
pub new-next : (R : Repertoire) (g : Ring) (size : ℕ) (r : AnswerAndRing) (slots lens : List ℕ) → size ≤ 16 → 4096 * size ≤ length slots
    → 2 * size ≤ length lens → r ≡ answer_and_ring g (new_call size)
    → Next R (empty size) r.ring slots lens
unfolding SlotsIn
new-next R g size r slots lens h bytes numbers e =
    let q : r ≡ answer_and_ring g (answered 0 0 0 (empty size)) = e
    ∙ ap (λ (b : Bool). answer_and_ring g (cond b (refused 2) (answered 0 0 0 (empty size)))) (le-ltb 16 size h) in
    slots_next R (empty size) r.ring slots lens (new_sound R size h) bytes numbers tt (ap (λ (x : AnswerAndRing). x.ring) q)
