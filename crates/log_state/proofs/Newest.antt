-- A list by what stands at its end: where it ends without Begins that stand last, and its newest record that is no End. Assumes nothing.
use Prim.Native.Nat.{ℕ, ◌-◌, ◌≤◌}
use native.Mathlib.Omega.{arith}
use mathlib.Core.Path.{◌≡◌, refl, sym, ap, subst, ◌∙◌}
use mathlib.Core.Logic.{◌⊎◌, inl, inr}
use mathlib.Core.List.{List, [], ◌∷◌, ◌++◌, reverse, reverse-cons}
use lib.ListN.{length, take, drop, take-append-drop}
use Rattle.std.specs.Prelude.{Option, Some, None}
use Rattle.repertoire.specs.Repertoire.{catalogue}
use Rattle.formats.specs.declared.Format.{Format}
use Rattle.log_model.specs.Change.{Change, begin, end, edit}
use Rattle.log_model.specs.Layout.{encode_records, Layout}
use Rattle.log_model.specs.Holds.{Listed}
use Rattle.log_model.specs.Groups.{is_begin, is_end, passed}
use Rattle.log_model.specs.UndoBytes.{undo_records}
use Rattle.log_model.proofs.Groups.{run, passed_run, run_count, truncated-is}
use Rattle.log_model.proofs.Newest.{undo-reverse, undo_nil}
use Rattle.log_records.specs.declared.Newest.{Newest}
use Rattle.log_records.specs.declared.Record.{Record}
use Rattle.log_records.specs.declared.Span.{Span}
use Rattle.log_records.specs.Records.{numbers_of, record_at}
use Rattle.log_records.specs.Walks.{Walks, NewestAt}
use Rattle.log_records.proofs.Records.{no_byte, record_behind, record_back}

-- of a list of Ends alone the oldest is one
oldest_end : (ws : List Change) (c : Change) → passed is_end (ws ++ (c ∷ [])) ≡ [] → c ≡ end
unfolding passed
oldest_end [] begin e = absurd (omega (arith, ap length e))
oldest_end [] end e = refl
oldest_end [] (edit x) e = absurd (omega (arith, ap length e))
oldest_end (begin ∷ ws) c e = absurd (omega (arith, ap length e))
oldest_end (end ∷ ws) c e = oldest_end ws c e
oldest_end (edit x ∷ ws) c e = absurd (omega (arith, ap length e))

-- every list that has these records ends at r without its newest m
abbrev pub EndsAt : Format → List ℕ → ℕ → ℕ → Type 0
EndsAt F rs m r = (ts : List ℕ) (us : List Change) → Layout catalogue F rs ts us → r ≡ length (undo_records F (drop m (reverse us)))

-- r is the newest record of a list, newest first; none or an End where there is none
abbrev pub InsideBy : Format → Option Record → List Change → Type 0
InsideBy F r [] = (r ≡ None) ⊎ (r ≡ Some (numbers_of F end))
InsideBy F r (c ∷ v) = r ≡ Some (numbers_of F c)

module _ (F : Format) (rs : List ℕ) (n : Newest) (q : NewestAt catalogue F rs n) where
  module _ (ts : List ℕ) (us : List Change) (l : Layout catalogue F rs ts us) where
    count-is : n.count ≡ length (reverse us)
    count-is = ap (λ (x : Newest). x.count) (q ts us l)

    pub begins_are : n.begins ≡ run is_begin (reverse us)
    begins_are = omega (arith, ap (λ (x : Newest). x.begins) (q ts us l), run_count is_begin (reverse us))

    begins_fit : n.begins ≤ n.count
    begins_fit = omega (arith, begins_are, run_count is_begin (reverse us), count-is)

  pub begins_counted : Listed catalogue F rs → n.begins ≤ n.count
  begins_counted s = begins_fit s.texts s.changes s.lays

  -- ---- where the list ends without its newest m records
  module _ (m : ℕ) where
    pub none_dropped : m ≡ 0 → EndsAt F rs m (length rs)
    none_dropped e ts us l = rw e (ap length l.records ∙ sym (ap length (undo-reverse F us)))

    pub all_dropped : m ≡ n.begins → EndsAt F rs m n.begun
    all_dropped e ts us l =
        let p : passed is_begin (reverse us) ≡ drop m (reverse us) =
        passed_run is_begin (reverse us) ∙ ap (λ (i : ℕ). drop i (reverse us)) (sym (e ∙ begins_are ts us l)) in
        ap (λ (x : Newest). x.begun) (q ts us l) ∙ ap (λ (v : List Change). length (undo_records F v)) p

    pub some_dropped : (w : Span) → m ≤ n.begins → Walks catalogue F rs (n.count - m) w → EndsAt F rs m w.records
    unfolding undo_records
    some_dropped w h x ts us l =
        let k = n.count - m in
        let d : length (reverse us) - k ≡ m = omega (arith, count-is ts us l, begins_fit ts us l) in
        ap (λ (y : Span). y.records) (x ts us l)
        ∙ ap (λ (v : List Change). length (encode_records F v)) (sym (truncated-is k us) ∙ ap (λ (i : ℕ). reverse (drop i (reverse us))) d)

  -- ---- the newest record that is no End, read where it begins
  module _ (r : Option Record) (x : r ≡ record_at F rs n.inside) (ts : List ℕ) (us : List Change) (l : Layout catalogue F rs ts us) where
    abbrev u : List Change
    u = reverse us

    -- there is none: the list is empty, or an End is its oldest
    all-ends : (vs : List Change) → us ≡ vs → passed is_end u ≡ [] → n.inside ≡ 0 → InsideBy F r []
    all-ends [] e p z =
        let o : length rs ≡ 0 = ap length l.records ∙ ap (λ (v : List Change). length (encode_records F v)) e in
        inl (x ∙ sym (no_byte F rs n.inside (omega (arith, o))))
    all-ends (c ∷ vs) e p z =
        let d = oldest_end (reverse vs) c (sym (ap (passed is_end) (ap reverse e ∙ reverse-cons c vs)) ∙ p) in
        inr (x ∙ record_behind catalogue F rs ts [] vs c n.inside (subst (Layout catalogue F rs ts) e l) z ∙ ap (λ (y : Change). Some (numbers_of F y)) d)

    inside_as : (v : List Change) → passed is_end u ≡ v → InsideBy F r v
    inside_as v p = go v p (ap (λ (a : Newest). a.inside) (q ts us l) ∙ ap (λ (w : List Change). length (undo_records F (drop 1 w))) p)
      where
        go : (v : List Change) → passed is_end u ≡ v → n.inside ≡ length (undo_records F (drop 1 v)) → InsideBy F r v
        go [] p z = all-ends us refl p (z ∙ ap length (undo_nil F))
        go (c ∷ v) p z =
            let k = run is_end u in
            let e = sym (take-append-drop k u) ∙ ap (λ (w : List Change). take k u ++ w) (sym (passed_run is_end u) ∙ p) in
            x ∙ record_back catalogue F rs ts us (take k u) v c n.inside l e z

    pub inside : InsideBy F r (passed is_end u)
    inside = inside_as (passed is_end u) refl
