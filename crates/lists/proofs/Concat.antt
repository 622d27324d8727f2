-- Lists one behind the other. Assumes nothing.
use mathlib.Core.Path.{◌≡◌, refl, sym, ap, ◌∙◌}
use mathlib.Core.List.{List, [], ◌∷◌, ◌++◌, append_assoc}
use Rattle.lists.specs.Lists.{concat}

pub concat-append : {A : Type 0} (a b : List (List A)) → concat (a ++ b) ≡ concat a ++ concat b
concat-append [] b = refl
concat-append {A} (x ∷ a) b = ap (λ (l : List A). x ++ l) (concat-append a b) ∙ sym (append_assoc x (concat a) (concat b))
