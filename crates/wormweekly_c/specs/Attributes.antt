-- Attributes as a host gives them: their texts one after the other, and of
-- each one how long its texts are.
use Rattle.std.specs.Prelude.{ℕ, ◌==◌, nat_le, ◌&&◌, List, [], ◌∷◌, Option, Some, None, drop}
use Rattle.std.specs.Prelude.{length, option_and_then, option_map, take, true, false, if◌then◌else◌}
use Rattle.std.specs.Str.{is_utf8}
use Rattle.metric_contents.specs.Encoding.{Given}
use Rattle.metric_names.specs.declared.value.AttrValue.{AttrValue}
use Rattle.metric_names.specs.declared.value.AttrValue.TheVariants.{Text, Whole, Flag}
use Rattle.wormweekly_c.specs.declared.attributes.Attribute.{Attribute}

-- the text of so many bytes that stands first, and what is left; none where
-- they are not there, or are no UTF-8
abbrev pub text_first : ℕ → List ℕ → Option (List ℕ × List ℕ)
text_first count texts =
    if nat_le count (length texts) && is_utf8 (take count texts)
    then Some (take count texts, drop count texts) else None

-- the value of an attribute that is no text: a whole number, no, or yes;
-- none where there is no such kind
abbrev pub plain_value : Attribute → Option AttrValue
plain_value own =
    if own.kind == 1 then Some (Whole own.whole)
    else (if own.kind == 2 then Some (Flag false)
    else (if own.kind == 3 then Some (Flag true) else None))

-- the value of an attribute whose text stands first, and what is left
abbrev pub value_first : Attribute → List ℕ → Option (AttrValue × List ℕ)
value_first own texts =
    if own.kind == 0
    then option_map (λ (text : List ℕ × List ℕ). (Text text.0, text.1)) (text_first own.text texts)
    else option_map (λ (value : AttrValue). (value, texts)) (plain_value own)

-- the attribute whose texts stand first, and what is left
abbrev pub given_first : Attribute → List ℕ → Option (Given × List ℕ)
given_first own texts =
    option_and_then (λ (key : List ℕ × List ℕ). option_map
    (λ (value : AttrValue × List ℕ). ((key.0, value.0), value.1)) (value_first own key.1))
    (text_first own.key texts)

-- the attributes of a recording that are looked at: of so many a key stands
-- twice or is not declared
abbrev pub looked_at : List Attribute → List Attribute
looked_at given = take 65 given

-- # attributes given flat (profile)
-- The attributes of a list of lengths over one text: each takes its key, and its value where that
-- is a text, from the front; none where a length leads past, a text is no UTF-8, or there is no
-- such kind.
abbrev pub attributes_from : List Attribute → List ℕ → Option (List Given)
attributes_from [] texts = Some []
attributes_from (own ∷ others) texts =
    option_and_then (λ (first : Given × List ℕ). option_map (λ (rest : List Given). first.0 ∷ rest)
    (attributes_from others first.1)) (given_first own texts)
