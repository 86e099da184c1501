-- How the place of a fault is printed.
use Rattle.std.specs.Prelude.{ℕ, codes, List, ◌++◌}
use Rattle.std.specs.Fmt.{decimal}
use Rattle.metric_views.specs.declared.fault.ConfigPlace.{ConfigPlace}
use Rattle.metric_views.specs.declared.fault.ConfigPlace.TheVariants.{Top, Reader, View}

-- # printed place (profile)
-- `top`, or `reader`, `view` with its number.
abbrev pub place_text : ConfigPlace → List ℕ
place_text Top = codes "top"
place_text (Reader number) = codes "reader " ++ decimal number
place_text (View number) = codes "view " ++ decimal number
