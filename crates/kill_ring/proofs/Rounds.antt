-- What comes back from the ring: a yank after kills, and yank_pop round the slots. Assumes nothing.
use Prim.Native.Nat.{ℕ, zero, suc, ◌+◌, ◌-◌, ◌≤◌, ◌<◌}
use native.Mathlib.Omega.{arith}
use mathlib.Core.Path.{◌≡◌, refl, sym, ap, subst, ◌∙◌}
use mathlib.Core.Bool.{Bool, false, cond}
use mathlib.Core.List.{List, [], ◌∷◌, ◌++◌, append_assoc, append-nil}
use borrow.Author.Tests.{ne_eqb, le-ltb}
use lib.ListN.{length, length-append}
use Rattle.repertoire.specs.Repertoire.{Repertoire}
use Rattle.checks.specs.Outcome.{answered}
use Rattle.kill_ring.specs.declared.Action.{Action}
use Rattle.kill_ring.specs.declared.Action.TheVariants.{Kill, Yank, Other}
use Rattle.kill_ring.specs.declared.Mode.{Mode}
use Rattle.kill_ring.specs.declared.Mode.TheVariants.{Append, Prepend}
use Rattle.kill_ring.specs.Ring.{KillRing, is_empty, slot_at, with_action, joined, kill_index, kill_text, stored, kill_out, yank_out}
use Rattle.kill_ring.specs.Ring.{previous_index, yanked, pop_out, yank_pop_out}
use Rattle.kill_ring.specs.Sound.{Sound}
use Rattle.kill_ring.proofs.Rings.{put_there, put_in, put_twice}
use Rattle.kill_ring.proofs.Kills.{joins, kill_joins}
use Rattle.kill_ring.proofs.Kept.{target_below, previous_below}

-- ---- yank
not-empty : (ss : List (List ℕ)) (i : ℕ) → i < length ss → is_empty ss ≡ false
not-empty [] i h = absurd (omega arith)
not-empty (s ∷ ss) i h = refl

-- the slot where we are, its length for the last action
pub yank_there : (v : KillRing) → v.index < length v.slots → yank_out v ≡ answered 0 v.index 0 (yanked v.index v)
unfolding yank_out
yank_there v h = ap (λ (b : Bool). cond b (answered 1 0 0 v) (answered 0 v.index 0 (yanked v.index v))) (not-empty v.slots v.index h)

-- ---- a kill that fits
pub kill_answers : (m : Mode) (text : List ℕ) (v : KillRing) → 0 < v.size → length (kill_text v.action m text v) ≤ 4096
    → kill_out m text v ≡ answered 0 0 0 (stored (kill_index v.action v) (kill_text v.action m text v) v)
unfolding kill_out
kill_answers m text v h k = rw (ne_eqb v.size 0 (λ e. omega arith), le-ltb 4096 (length (kill_text v.action m text v)) k)

-- yank after a kill: the text killed, after a kill joined with what was there
pub yank-after-kill : (R : Repertoire) (m : Mode) (text : List ℕ) (v : KillRing) → Sound R v → 0 < v.size
    → length (joined m (joins v.action v) text) ≤ 4096
    → (w : KillRing) × (kill_out m text v ≡ answered 0 0 0 w) × (yank_out w ≡ answered 0 w.index 0 (yanked w.index w))
    × (slot_at w w.index ≡ joined m (joins v.action v) text)
yank-after-kill R m text v s h k =
    let b = target_below R v s h in
    let t = kill_text v.action m text v in
    let i = kill_index v.action v in (
      stored i t v,
      kill_answers m text v h (subst (λ (x : List ℕ). length x ≤ 4096) (sym (kill_joins v.action m text v)) k),
      yank_there (stored i t v) (put_in v.slots i t b.1),
      put_there v.slots i t b.1 ∙ kill_joins v.action m text v,
    )

-- after any action but a kill that is the text alone
pub joins_nothing : (a : Action) (m : Mode) (text : List ℕ) (v : KillRing) → (a ≡ Kill → ⊥) → joined m (joins a v) text ≡ text
joins_nothing Kill m text v h = absurd (h refl)
joins_nothing (Yank n) m text v h = sym (kill_joins (Yank n) m text v)
joins_nothing Other m text v h = sym (kill_joins Other m text v)

-- ---- kills one after the other
pub record Cut : Type 0 where
  pub mode : Mode
  pub text : List ℕ

-- each is answered 0
abbrev pub Killed : KillRing → List Cut → KillRing → Type 0
Killed v [] w = w ≡ v
Killed v (k ∷ ks) w = (u : KillRing) × (kill_out k.mode k.text v ≡ answered 0 0 0 u) × Killed u ks w

-- what is prepended stands in front, the last first; what is appended behind, in order
abbrev pub front : Mode → List ℕ → List ℕ → List ℕ
front Append text r = r
front Prepend text r = r ++ text

-- what a kill puts behind the slot's text
abbrev pub back : Mode → List ℕ → List ℕ → List ℕ
back Append text r = text ++ r
back Prepend text r = r

-- all that stands in front
abbrev pub fronts : List Cut → List ℕ
fronts [] = []
fronts (k ∷ ks) = front k.mode k.text (fronts ks)

-- all that stands behind
abbrev pub backs : List Cut → List ℕ
backs [] = []
backs (k ∷ ks) = back k.mode k.text (backs ks)

-- the slot's text after them
abbrev pub gathered : List Cut → List ℕ → List ℕ
gathered ks s = fronts ks ++ (s ++ backs ks)

-- one kill more
gathers : (m : Mode) (text s f b : List ℕ) → f ++ (joined m s text ++ b) ≡ front m text f ++ (s ++ back m text b)
gathers Append text s f b = ap (λ (x : List ℕ). f ++ x) (append_assoc s text b)
gathers Prepend text s f b = ap (λ (x : List ℕ). f ++ x) (append_assoc text s b) ∙ sym (append_assoc f text (s ++ b))

-- a part of a text of at most 4,096 bytes
least : (f s b : List ℕ) → length (f ++ (s ++ b)) ≤ 4096 → length s ≤ 4096
least f s b h = omega (arith, length-append f (s ++ b), length-append s b)

-- a slot written by a kill, and kills after it: they all go into that slot
more : (ks : List Cut) (i : ℕ) (t : List ℕ) (v : KillRing) → i ≤ length v.slots → 0 < v.size → length (gathered ks t) ≤ 4096
    → Killed (stored i t v) ks (stored i (gathered ks t) v)
more [] i t v h z k = ap (λ (x : List ℕ). stored i x v) (append-nil t)
more (c ∷ ks) i t v h z k =
    let u = stored i t v in
    let x = joined c.mode t c.text in
    let there : slot_at u i ≡ t = put_there v.slots i t h in
    let e : gathered ks x ≡ gathered (c ∷ ks) t = gathers c.mode c.text t (fronts ks) (backs ks) in
    let fit : length (gathered ks x) ≤ 4096 = subst (λ (y : List ℕ). length y ≤ 4096) (sym e) k in
    let same : joined c.mode (slot_at u i) c.text ≡ x = ap (λ (y : List ℕ). joined c.mode y c.text) there in (
      stored i x v,
      kill_answers c.mode c.text u z (subst (λ (y : List ℕ). length y ≤ 4096) (sym same) (least (fronts ks) x (backs ks) fit))
          ∙ ap (λ (y : List ℕ). answered 0 0 0 (stored i y u)) same
          ∙ ap (λ (ss : List (List ℕ)). answered 0 0 0 (record { size = v.size; slots = ss; index = i; action = Kill }))
          (put_twice v.slots i t x h),
      subst (λ (y : List ℕ). Killed (stored i x v) ks (stored i y v)) e (more ks i x v h z fit),
    )

-- kills one after the other, appended and prepended: one slot holds them in order, after a kill with what was there, and nothing
-- else is changed
pub kills_gather : (R : Repertoire) (k : Cut) (ks : List Cut) (v : KillRing) → Sound R v → 0 < v.size
    → length (gathered (k ∷ ks) (joins v.action v)) ≤ 4096
    → Killed v (k ∷ ks) (stored (kill_index v.action v) (gathered (k ∷ ks) (joins v.action v)) v)
kills_gather R k ks v s z h =
    let i = kill_index v.action v in
    let b = target_below R v s z in
    let x = joined k.mode (joins v.action v) k.text in
    let same = kill_joins v.action k.mode k.text v in
    let e : gathered ks x ≡ gathered (k ∷ ks) (joins v.action v) = gathers k.mode k.text (joins v.action v) (fronts ks) (backs ks) in
    let fit : length (gathered ks x) ≤ 4096 = subst (λ (y : List ℕ). length y ≤ 4096) (sym e) h in (
      stored i x v,
      kill_answers k.mode k.text v z (subst (λ (y : List ℕ). length y ≤ 4096) (sym same) (least (fronts ks) x (backs ks) fit))
          ∙ ap (λ (y : List ℕ). answered 0 0 0 (stored i y v)) same,
      subst (λ (y : List ℕ). Killed (stored i x v) ks (stored i y v)) e (more ks i x v b.1 z fit),
    )

-- ---- yank_pop
-- a ring as a yank or a yank_pop leaves it
pub record Yanked (v : KillRing) : Type 0 where
  pub below : v.index < length v.slots
  pub size : v.action ≡ Yank (length (slot_at v v.index))

-- a yank leaves such a ring
pub yank_yanks : (v : KillRing) → v.index < length v.slots → Yanked (yanked v.index v)
yank_yanks v h = record { below = h; size = refl }

-- one pop: the slot before, and the size before
abbrev pub popped : KillRing → KillRing
popped v = yanked (previous_index v) v

-- it is answered 0, and leaves such a ring
pub pop_answers : (v : KillRing) → Yanked v
    → (yank_pop_out v ≡ answered 0 (previous_index v) (length (slot_at v v.index)) (popped v)) × Yanked (popped v)
unfolding yank_pop_out
pop_answers v y = (
  ap (λ (a : Action). pop_out a v) y.size
      ∙ ap (λ (b : Bool). cond b (answered 1 0 0 v) (answered 0 (previous_index v) (length (slot_at v v.index)) (popped v)))
      (not-empty v.slots v.index y.below),
  record { below = previous_below v y.below; size = refl },
)

-- n of them
abbrev pub pops : ℕ → KillRing → KillRing
pops zero v = v
pops (suc n) v = pops n (popped v)

-- each is answered 0 with the slot before and the size before
abbrev pub Pops : ℕ → KillRing → Type 0
Pops zero v = Unit {0}
Pops (suc n) v = (yank_pop_out v ≡ answered 0 (previous_index v) (length (slot_at v v.index)) (popped v)) × Pops n (popped v)

-- so are n of them
pub pops_answer : (n : ℕ) (v : KillRing) → Yanked v → Pops n v
pops_answer zero v y = tt
pops_answer (suc n) v y = let p = pop_answers v y in (p.0, pops_answer n (popped v) p.1)

-- a ring that was yanked is its slot yanked
as_yanked : (v : KillRing) → Yanked v → v ≡ yanked v.index v
as_yanked v y = ap (with_action v) y.size

-- one slot down for each
down : (n i : ℕ) (v : KillRing) → n ≤ i → pops n (yanked i v) ≡ yanked (i - n) v
down zero i v h = ap (λ (k : ℕ). yanked k v) (omega arith)
down (suc n) i v h =
    let e : previous_index (yanked i v) ≡ i - 1 = ap (λ (b : Bool). cond b (length v.slots - 1) (i - 1)) (ne_eqb i 0 (λ z. omega arith)) in
    let k : n ≤ i - 1 = omega arith in
    let q : i - 1 - n ≡ i - suc n = omega arith in
    ap (λ (j : ℕ). pops n (yanked j v)) e ∙ down n (i - 1) v k ∙ ap (λ (j : ℕ). yanked j v) q

-- a pops and then b
pops_add : (a b n : ℕ) (v : KillRing) → n ≡ a + b → pops n v ≡ pops b (pops a v)
pops_add zero b n v e = let q : n ≡ b = omega arith in ap (λ (k : ℕ). pops k v) q
pops_add (suc a) b zero v e = absurd (omega arith)
pops_add (suc a) b (suc n) v e = pops_add a b n (popped v) (omega arith)

-- as many pops as there are slots come back to the slot of the yank: down to the first, round to the last, and down again
pub pops_round : (v : KillRing) → Yanked v → pops (length v.slots) v ≡ v
pops_round v y =
    let n = length v.slots in
    let i = v.index in
    let m : ℕ = n - 1 - i in
    let all : n ≡ i + suc m = omega (arith, y.below) in
    let zeroth : i - i ≡ 0 = omega arith in
    let again : n - 1 - m ≡ i = omega (arith, y.below) in
    ap (pops n) (as_yanked v y)
    ∙ pops_add i (suc m) n (yanked i v) all
    ∙ ap (pops (suc m)) (down i i v (omega arith) ∙ ap (λ (j : ℕ). yanked j v) zeroth)
    ∙ down m (n - 1) v (omega arith)
    ∙ ap (λ (j : ℕ). yanked j v) again
    ∙ sym (as_yanked v y)
