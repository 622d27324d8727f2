-- What a reader gave in two reads, and where the second stands in a buffer that the first filled to a place. Assumes nothing.
use Rattle.std.proofs.Common.{◌≡◌, ℕ, ◌+◌, ◌-◌, ◌≤◌, List, ◌++◌, length, take, sym, ap, ◌∙◌, le_refl, drop_at}
use Rattle.std.proofs.Common.{length-take-le, append_assoc}
use Rattle.std.proofs.lemmas.Slice.{take-put_mid_below}
use Rattle.std.specs.Prelude.{Option, None, Some}
use Rattle.std.specs.Io.KnownBytes.{Consumes}
use borrow.Rule.Slice.PartMut.{put_mid, post_of}
use lib.Seq.{take-add, take-append-le}

pub consumes_both : (a b c : Option (List ℕ)) (front part : List ℕ) → Consumes a b front → Consumes b c part → Consumes a c (front ++ part)
consumes_both None b c front part h k = tt
consumes_both (Some x) None c front part h k = absurd h
consumes_both (Some x) (Some y) None front part h k = absurd k
consumes_both (Some x) (Some y) (Some z) front part h k = h ∙ ap (λ (l : List ℕ). front ++ l) k ∙ sym (append_assoc front part z)

-- so many bytes of the part were read behind the filled ones
pub filled_with : (out part : List ℕ) (filled n : ℕ) → filled ≤ length out → n ≤ length part
    → take filled out ++ take n part ≡ take (filled + n) (put_mid filled (length out - filled) out part)
filled_with out part filled n within fits =
    let rest = length out - filled in
    let behind = drop_at (take filled out) (part ++ post_of filled rest out) filled (length-take-le filled out within) in
    let second = ap (take n) behind ∙ take-append-le n part (post_of filled rest out) fits in
    let first = take-put_mid_below filled rest out part filled (le_refl filled) within in
    ap (λ (l : List ℕ). l ++ take n part) (sym first)
    ∙ ap (λ (l : List ℕ). take filled (put_mid filled rest out part) ++ l) (sym second)
    ∙ sym (take-add filled n (put_mid filled rest out part))
