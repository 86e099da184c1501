-- What reading attributes answers.
use Rattle.std.specs.Prelude.{◌≡◌, Bool, true, false, List, Option, Some, None}
use Rattle.metric_contents.specs.Encoding.{Given}
use Rattle.wormweekly_c.specs.declared.attributes.Unread.{Unread}
use Rattle.wormweekly_c.specs.declared.attributes.Unread.TheVariants.{NoText, Memory}

-- these attributes, or that they are none
abbrev pub ReadsFew : Option (List Given) → Bool → List Given → Type 0
ReadsFew read true all = read ≡ Some all
ReadsFew read false all = read ≡ None

-- no attributes; or memory ran out
abbrev pub Refuses : Option (List Given) → Unread → Type 0
Refuses read NoText = read ≡ None
Refuses read Memory = Unit {0}
