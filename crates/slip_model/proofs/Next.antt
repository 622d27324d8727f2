-- The word that a line of a slip ends before is the one that comes next: the whole of a text's word, or the rest of one that is cut. Assumes nothing.
use mathlib.Core.Path.{◌≡◌, refl, sym, ap, ◌∙◌}
use mathlib.Core.Bool.{Bool, true, false, cond}
use mathlib.Core.List.{List, [], ◌∷◌, ◌++◌, append_assoc}
use lib.Dec.{leb}
use Rattle.lists.specs.Lists.{concat}
use Rattle.repertoire.specs.Repertoire.{Repertoire}
use Rattle.slip_model.specs.Slip.{Word, Item, word, gap, newline, columns, pieces, before, Line, empty_line, put}
use Rattle.slip_model.specs.Slip.{Filled, Fresh, Blank, UpTo, with, spaced, closing, laid, lines_from}
use Rattle.slip_model.specs.Promised.{cut_items, Next, AllNext}
use Rattle.slip_model.proofs.Complete.{read-put, laid-read, read-back}

module _ (R : Repertoire) (all : List Item) where
  -- a piece at the front of a line leaves its end and what follows
  follow_put : (p : Word) (ls : List Line) → AllNext R all ls → AllNext R all (put p ls)
  follow_put p [] h = (tt, tt)
  follow_put p (l ∷ ls) h = h

  -- a piece goes on the line, or ends it and begins the next
  follow_piece : (b : Bool) (p w : Word) (ls ms : List Line) → AllNext R all ls → AllNext R all ms → Next R all w (put p ms)
      → AllNext R all (cond b (put p ls) (empty_line (before w) ∷ put p ms))
  follow_piece true p w ls ms h k q = follow_put p ls h
  follow_piece false p w ls ms h k q = (q, follow_put p ms k)

  -- at the text's end no word follows
  follow_closing : (f : Filled) → AllNext R all (closing f)
  follow_closing Fresh = tt
  follow_closing Blank = (tt, tt)
  follow_closing (UpTo c) = (tt, tt)

  -- an item goes over to those before
  move : (a is : List Item) (i : Item) → all ≡ a ++ (i ∷ is) → all ≡ (a ++ (i ∷ [])) ++ is
  move a is i e = e ∙ sym (append_assoc a (i ∷ []) is)

  -- at a piece of a word, with the pieces before it and behind it
  rest_at : (a js : List Item) (v : Word) → all ≡ a ++ (word v ∷ js) → (f : Filled) (qs : List Word) (p : Word) (ps : List Word) → pieces R 0 v ≡ qs ++ (p ∷ ps)
      → Next R all (concat (p ∷ ps)) (put p (laid R f ps (λ g. lines_from R g js)))
  rest_at a js v e f qs p ps c =
      let go : Filled → List Line = λ g. lines_from R g js in
      record {
        front = a;
        whole = v;
        behind = js;
        text = e;
        earlier = qs;
        next = p;
        later = ps;
        cut = c;
        rest = refl;
        read = read-put p (laid R f ps go) ∙ ap (λ (l : List Item). word p ∷ l) (laid-read R (cut_items R js) go (λ g. read-back R g js) f ps);
      }

  -- pieces laid, and what comes behind them
  follow_laid : (a js : List Item) (v : Word) → all ≡ a ++ (word v ∷ js) → ((g : Filled) → AllNext R all (lines_from R g js)) → (f : Filled)
      (qs ps : List Word) → pieces R 0 v ≡ qs ++ ps → AllNext R all (laid R f ps (λ g. lines_from R g js))
  unfolding laid
  follow_laid a js v e h f qs [] c = h f
  follow_laid a js v e h f qs (p ∷ ps) c =
      let n = columns R p in
      let go : Filled → List Line = λ g. lines_from R g js in
      let d : pieces R 0 v ≡ (qs ++ (p ∷ [])) ++ ps = c ∙ sym (append_assoc qs (p ∷ []) ps) in
      follow_piece (leb (with f n) 60) p (concat (p ∷ ps)) (laid R (UpTo (with f n)) ps go) (laid R (UpTo n) ps go)
      (follow_laid a js v e h (UpTo (with f n)) (qs ++ (p ∷ [])) ps d) (follow_laid a js v e h (UpTo n) (qs ++ (p ∷ [])) ps d)
      (rest_at a js v e (UpTo n) qs p ps c)

  -- the lines of a text's items from one on
  follow_lines : (f : Filled) (a is : List Item) → all ≡ a ++ is → AllNext R all (lines_from R f is)
  unfolding lines_from
  follow_lines f a [] e = follow_closing f
  follow_lines f a (word w ∷ is) e =
      follow_laid a is w e (λ g. follow_lines g (a ++ (word w ∷ [])) is (move a is (word w) e)) f [] (pieces R 0 w) refl
  follow_lines f a (gap ∷ is) e = follow_lines (spaced f) (a ++ (gap ∷ [])) is (move a is gap e)
  follow_lines f a (newline ∷ is) e = (tt, follow_lines Fresh (a ++ (newline ∷ [])) is (move a is newline e))

-- where a line ends before a word, the next line begins with it
pub ends_next : (R : Repertoire) (f : Filled) (is : List Item) → AllNext R is (lines_from R f is)
ends_next R f is = follow_lines R is f [] is refl
