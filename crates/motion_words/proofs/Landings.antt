-- What next_word_pos answers, by the way that its tests go: r is the landing in the part from pos on. Assumes nothing.
use mathlib.Core.Path.{◌≡◌, refl, sym, ap, ◌∙◌}
use mathlib.Core.Bool.{Bool, true, false}
use mathlib.Core.List.{List}
use Prim.Native.Nat.{ℕ, ◌+◌, ◌-◌}
use lib.ListN.{length, take, drop}
use borrow.Author.Tests.{eq-eqb, ne_eqb}
use Rattle.std.specs.Prelude.{None, Some}
use Rattle.lists.proofs.Parts.{part-tail}
use Rattle.repertoire.specs.Repertoire.{Repertoire}
use Rattle.keymap.specs.declared.Word.{Word}
use Rattle.keymap.specs.declared.At.{At}
use Rattle.motion_words.specs.declared.Landing.{Landing}
use Rattle.motion_words.specs.Rules.{lands_behind}
use Rattle.motion_words.specs.Words.{next_word, no_word, landed, next_word_pos}

module _ (s : List ℕ) (pos : ℕ) (behind : Bool) (r : Landing) where
  landed_found : (r.found ≡ 0 → ⊥) → landed s pos behind r ≡ Some (r.found + pos)
  unfolding landed
  landed_found h = rw (ne_eqb _ _ h)

  landed_none : r.found ≡ 0 → landed s pos behind r ≡ no_word s pos behind r.last
  unfolding landed
  landed_none h = rw (eq-eqb _ _ h)

module _ (s : List ℕ) (pos last : ℕ) where
  none_end : no_word s pos true last ≡ Some (length s)
  unfolding no_word
  none_end = refl

  none_nothing : last ≡ 0 → no_word s pos false last ≡ None
  unfolding no_word
  none_nothing h = rw (eq-eqb _ _ h)

  none_last : (last ≡ 0 → ⊥) → no_word s pos false last ≡ Some (last + pos)
  unfolding no_word
  none_last h = rw (ne_eqb _ _ h)

module _ (R : Repertoire) (s : List ℕ) (pos : ℕ) (at : At) (w : Word) (n : ℕ) where
  pub pos_end : pos ≡ length s → None ≡ next_word_pos R s pos at w n
  unfolding next_word_pos
  pos_end h = rw (eq-eqb _ _ h)

  pos_landed : (pos ≡ length s → ⊥) → next_word_pos R s pos at w n ≡ landed s pos (lands_behind at w) (next_word R (drop pos s) at w n)
  unfolding next_word_pos
  pos_landed h = rw (ne_eqb _ _ h)

  module _ (h : pos ≡ length s → ⊥) (r : Landing) (e : r ≡ next_word R (take (length s - pos) (drop pos s)) at w n) where
    pos_of : next_word_pos R s pos at w n ≡ landed s pos (lands_behind at w) r
    pos_of = pos_landed h ∙ ap (landed s pos (lands_behind at w)) (sym (e ∙ ap (λ (l : List ℕ). next_word R l at w n) (part-tail s pos)))

    pub pos_found : (r.found ≡ 0 → ⊥) → Some (r.found + pos) ≡ next_word_pos R s pos at w n
    pos_found f = sym (pos_of ∙ landed_found s pos (lands_behind at w) r f)

    -- no word is found; b: does the motion land behind a word?
    module _ (f : r.found ≡ 0) (b : Bool) (g : b ≡ lands_behind at w) where
      pos_none : next_word_pos R s pos at w n ≡ no_word s pos b r.last
      pos_none = pos_of ∙ landed_none s pos (lands_behind at w) r f ∙ ap (λ (x : Bool). no_word s pos x r.last) (sym g)

      pub pos_behind : b ≡ true → Some (length s) ≡ next_word_pos R s pos at w n
      pos_behind t = sym (pos_none ∙ ap (λ (x : Bool). no_word s pos x r.last) t ∙ none_end s pos r.last)

      pub pos_nothing : b ≡ false → r.last ≡ 0 → None ≡ next_word_pos R s pos at w n
      pos_nothing t l = sym (pos_none ∙ ap (λ (x : Bool). no_word s pos x r.last) t ∙ none_nothing s pos r.last l)

      pub pos_last : b ≡ false → (r.last ≡ 0 → ⊥) → Some (r.last + pos) ≡ next_word_pos R s pos at w n
      pos_last t l = sym (pos_none ∙ ap (λ (x : Bool). no_word s pos x r.last) t ∙ none_last s pos r.last l)
