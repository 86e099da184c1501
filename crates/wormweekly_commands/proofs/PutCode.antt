-- Code that is written, or compared with a file.
use Rattle.std.proofs.Common.{◌≡◌, ℕ, List, Option, Some, None, subst, sym}
use Rattle.metric_command_lines.specs.declared.wormweekly.request.Files.{Files}
use Rattle.wormweekly_commands.specs.Delivered.{IsDelivered}
use Rattle.wormweekly_commands.specs.Readings.{IsHeld}
use Rattle.wormweekly_commands.specs.Runs.{IsPut, IsUntouched, Known, Writing}

pub put_written : (known : Known) (path : Option (List ℕ)) (files : Files) (code : List ℕ) (writing : Writing)
    → path ≡ None
    → IsDelivered files.output code writing.made writing.made_after writing.contents writing.contents_after
    → IsPut known path files code writing
put_written known path files code writing none delivered =
    subst (λ (own : Option (List ℕ)). IsPut known own files code writing) (sym none) delivered

pub put_compared : (known : Known) (path : Option (List ℕ)) (files : Files) (code : List ℕ) (writing : Writing)
    (own : List ℕ) → path ≡ Some own → IsHeld known.held own code → IsUntouched writing
    → IsPut known path files code writing
put_compared known path files code writing own some held untouched =
    subst (λ (one : Option (List ℕ)). IsPut known one files code writing) (sym some) (held, untouched)
