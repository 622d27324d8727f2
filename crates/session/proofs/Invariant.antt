-- What every list of calls keeps: the undo list leads from the text back to the first one, the redo list onward; groups are closed but for the open ones.
-- Q is what holds of every text on the way. Assumes nothing.
use Prim.Native.Nat.{ℕ, zero, suc, ◌≤◌}
use mathlib.Core.Path.{◌≡◌, refl}
use mathlib.Core.Bool.{true}
use mathlib.Core.List.{List, [], ◌∷◌, ◌++◌}
use lib.ListN.{length}
use Rattle.utf8.specs.Chars.{In}
use Rattle.repertoire.specs.Repertoire.{Repertoire}
use Rattle.repertoire.specs.Text.{is_text}
use Rattle.log_model.specs.Change.{Change, begin, end, edit, place, old, new}
use Rattle.formats.specs.declared.Format.{Format}
use Rattle.log_model.specs.UndoBytes.{all_numbers_fit}
use Rattle.edit.specs.Plan.{State}

-- d Ends wait for their Begin, and each Begin down the list has its End
abbrev pub Nest : ℕ → List Change → Type 0
Nest d [] = d ≡ zero
Nest zero (begin ∷ u) = ⊥
Nest (suc d) (begin ∷ u) = Nest d u
Nest d (end ∷ u) = Nest (suc d) u
Nest d (edit x ∷ u) = Nest d u

-- k groups are open: their Begins have no End after them, and below the first all is closed
abbrev pub Open : ℕ → List Change → Type 0
Open zero u = Nest zero u
Open (suc k) [] = ⊥
Open (suc k) (begin ∷ u) = Open k u
Open (suc k) (end ∷ u) = ⊥
Open (suc k) (edit x ∷ u) = Open (suc k) u

-- their marks
abbrev pub open_marks : ℕ → List Change → List ℕ
open_marks zero u = []
open_marks (suc k) [] = []
open_marks (suc k) (begin ∷ u) = length u ∷ open_marks k u
open_marks (suc k) (end ∷ u) = []
open_marks (suc k) (edit x ∷ u) = open_marks (suc k) u

-- the groups of a list, k of them open with the marks g
pub record Groups (k : ℕ) (g : List ℕ) (u : List Change) : Type 0 where
  pub opened : Open k u
  pub marks : g ≡ open_marks k u

-- no text of Q is longer than C
abbrev pub Bound : (List ℕ → Type 0) → ℕ → Type 0
Bound Q C = (t : List ℕ) → Q t → length t ≤ C

module _ (R : Repertoire) where
  -- t has o at the place p, and t' has n there instead; all of it of the repertoire, and both of Q
  pub record Link (Q : List ℕ → Type 0) (p : ℕ) (o n t t' : List ℕ) : Type 0 where
    pub before : List ℕ
    pub behind : List ℕ
    pub here : t ≡ before ++ (o ++ behind)
    pub there : t' ≡ before ++ (n ++ behind)
    pub place : length before ≡ p
    pub before_text : is_text R before ≡ true
    pub behind-text : is_text R behind ≡ true
    pub old-text : is_text R o ≡ true
    pub new-text : is_text R n ≡ true
    pub first : Q t
    pub second : Q t'

  -- undone one after the other, the records lead from t to e
  abbrev pub Chain : (List ℕ → Type 0) → List ℕ → List Change → List ℕ → Type 0
  Chain Q e [] t = t ≡ e
  Chain Q e (begin ∷ u) t = Chain Q e u t
  Chain Q e (end ∷ u) t = Chain Q e u t
  Chain Q e (edit x ∷ u) t = (s : List ℕ) × Link Q (place x) (old x) (new x) s t × Chain Q e u s

  -- a text with its undo list: what an edit keeps. t₀ is the first text, k the level, g the marks of the open groups
  pub record Here (Q : List ℕ → Type 0) (t₀ : List ℕ) (k : ℕ) (g : List ℕ) (t : List ℕ) (u : List Change) : Type 0 where
    pub chain : Chain Q t₀ u t
    pub text : is_text R t ≡ true
    pub allowed : Q t
    pub groups : Groups k g u

  -- the invariant. The numbers of the records fit their bytes
  pub record Inv (F : Format) (Q : List ℕ → Type 0) (t₀ : List ℕ) (s : State) (g : List ℕ) : Type 0 where
    pub here : Here Q t₀ s.log.level g s.text s.log.undo
    pub goal : List ℕ
    pub forth : Chain Q goal s.log.redo s.text
    pub nested : Nest 0 s.log.redo
    pub cursor : In s.text s.cursor s.cursor
    pub undo-numbers : all_numbers_fit F.width s.log.undo ≡ true
    pub redo-numbers : all_numbers_fit F.width s.log.redo ≡ true

  -- with nothing to redo
  pub no_redo : (F : Format) (Q : List ℕ → Type 0) (t₀ t : List ℕ) (c k : ℕ) (u : List Change) (g : List ℕ) → Here Q t₀ k g t u → In t c c → all_numbers_fit F.width u ≡ true
      → Inv F Q t₀ (record { text = t; cursor = c; log = record { undo = u; redo = []; level = k } }) g
  unfolding all_numbers_fit
  no_redo F Q t₀ t c k u g h i e = record { here = h; goal = t; forth = refl; nested = refl; cursor = i; undo-numbers = e; redo-numbers = refl }
