-- The texts of files, one more at a time.
use Rattle.std.proofs.Common.{◌≡◌, ◌++◌, ◌∷◌, ◌<◌, ◌+◌, ℕ, [], List, Option, subst, sym, take, get_or}
use Rattle.std.specs.List.{AllZip}
use Rattle.std.specs.Prelude.{length}
use Rattle.std.proofs.lemmas.List.{take_more}
use Rattle.std.proofs.lemmas.List.Elements.{AllZip-push}
use Rattle.wormweekly_commands.specs.Readings.{IsHeld}

pub texts_more : (held : List ℕ → Option (List ℕ)) (paths texts : List (List ℕ)) (n : ℕ) (d text : List ℕ) → n < length paths
    → AllZip (IsHeld held) (take n paths) texts → IsHeld held (get_or paths n d) text
    → AllZip (IsHeld held) (take (n + 1) paths) (texts ++ text ∷ [])
texts_more held paths texts n d text within zip is =
    subst (λ l. AllZip (IsHeld held) l (texts ++ text ∷ [])) (sym (take_more paths n d within))
    (AllZip-push (IsHeld held) (take n paths) texts (get_or paths n d) text zip is)
