-- How the place of a fault is printed.
use Rattle.std.specs.Prelude.{ℕ, codes, List, ◌++◌}
use Rattle.std.specs.Fmt.{decimal}
use Rattle.metric_catalogue.specs.declared.fault.CataloguePlace.{CataloguePlace}
use Rattle.metric_catalogue.specs.declared.fault.CataloguePlace.TheVariants.{Top, Meter, Instrument}
use Rattle.metric_catalogue.specs.declared.fault.CataloguePlace.TheVariants.{Key, SharedKey, Recorder, Budget}

-- # printed place (profile)
-- `top`, or `key`, `meter`, `instrument`, `recorder` with its number; a key of an instrument and a budget as what has
-- them.
abbrev pub place_text : CataloguePlace → List ℕ
place_text Top = codes "top"
place_text (Meter number) = codes "meter " ++ decimal number
place_text (Instrument number) = codes "instrument " ++ decimal number
place_text (Key instrument key) = codes "instrument " ++ decimal instrument
place_text (SharedKey number) = codes "key " ++ decimal number
place_text (Recorder number) = codes "recorder " ++ decimal number
place_text (Budget recorder budget) = codes "recorder " ++ decimal recorder
