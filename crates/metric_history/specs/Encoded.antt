-- The set key of a recording's attributes.
use Rattle.std.specs.Prelude.{ℕ, List, map, Result}
use Rattle.metric_contents.specs.Attributes.{given_by_owned}
use Rattle.metric_contents.specs.Encoding.{encode_of}
use Rattle.metric_contents.specs.declared.contents.Contents.{Contents}
use Rattle.metric_contents.specs.declared.attributes.OwnedAttr.{OwnedAttr}
use Rattle.metric_contents.specs.declared.refusal.Refusal.{Refusal}

-- the set key that they name for the instrument of this number, or the first refusal
abbrev pub encoded : Contents → ℕ → List OwnedAttr → Result (List ℕ) Refusal
encoded contents instrument attrs =
    encode_of contents.instruments instrument (map given_by_owned attrs)
