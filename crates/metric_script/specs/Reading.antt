-- What the parts of a line spell, read from its front. Nothing where they are spelled otherwise.
use Rattle.std.specs.Prelude.{ℕ, ◌^◌, if◌then◌else◌, List, [], ◌∷◌, Option, Some, None, zero, suc}
use Rattle.std.specs.Prelude.{length, codes, ℤ}
use Rattle.std.specs.Option.{option_map}
use Rattle.std.specs.Str.{bytes_eq}
use Rattle.metric_contents.specs.declared.attributes.OwnedAttr.{OwnedAttr}
use Rattle.metric_history.specs.declared.event.Event.{Event}
use Rattle.metric_history.specs.declared.event.Event.TheVariants.{Record, Collect, Close, Grant}
use Rattle.metric_text.specs.Reading.{◌>>=◌, after_in, word_in, number_of, number_in, signed_in}
use Rattle.metric_text.specs.Reading.{text_in, value_in}

-- an attribute, and what follows it
unfoldable pub attribute_in : List ℕ → Option (OwnedAttr × List ℕ)
attribute_in bytes = do
  start ← after_in (32 ∷ []) bytes
  key ← text_in start
  equals ← after_in (61 ∷ []) key.1
  value ← value_in equals
  Some (record { key = key.0; value = value.0 }, value.1)

-- attributes to the line's end, at most as many as the number says
unfoldable pub attributes_in : ℕ → List ℕ → Option (List OwnedAttr)
attributes_in limit [] = Some []
attributes_in zero (b ∷ bytes) = None
attributes_in (suc limit) (b ∷ bytes) = do
  first ← attribute_in (b ∷ bytes)
  option_map (λ others. first.0 ∷ others) (attributes_in limit first.1)

-- all attributes to the line's end
abbrev pub all_attributes_in : List ℕ → Option (List OwnedAttr)
all_attributes_in bytes = attributes_in (length bytes) bytes

-- two numbers with a space between, and what follows
unfoldable pub two_numbers_in : List ℕ → Option (ℕ × ℕ × List ℕ)
two_numbers_in bytes = do
  first ← number_in (2 ^ 32) bytes
  space ← after_in (32 ∷ []) first.1
  second ← number_in (2 ^ 32) space
  Some (first.0, second.0, second.1)

-- a value after a space, and what follows
unfoldable pub amount_in : List ℕ → Option (ℤ × List ℕ)
amount_in bytes = do
  space ← after_in (32 ∷ []) bytes
  signed_in space

-- what stands after `record `
unfoldable pub record_in : List ℕ → Option Event
record_in bytes = do
  numbers ← two_numbers_in bytes
  amount ← amount_in numbers.2
  attrs ← all_attributes_in amount.1
  Some (Record numbers.0 numbers.1 attrs amount.0)

-- what stands after `collect `
unfoldable pub collect_in : List ℕ → Option Event
collect_in bytes = do
  numbers ← two_numbers_in bytes
  space ← after_in (32 ∷ []) numbers.2
  now ← number_of (2 ^ 64) space
  Some (Collect numbers.0 numbers.1 now)

-- what stands after `close `
unfoldable pub close_in : List ℕ → Option Event
close_in bytes = do
  instrument ← number_of (2 ^ 32) bytes
  Some (Close instrument)

-- what stands after `grant `
unfoldable pub grant_in : List ℕ → Option Event
grant_in bytes = do
  numbers ← two_numbers_in bytes
  space ← after_in (32 ∷ []) numbers.2
  amount ← number_of (2 ^ 64) space
  Some (Grant numbers.0 numbers.1 amount)

-- the event of a line that is no recording, by its first word and what follows
abbrev pub other_event_in : List ℕ → List ℕ → Option Event
other_event_in word rest =
    if bytes_eq word (codes "collect") then after_in (32 ∷ []) rest >>= collect_in else (
    if bytes_eq word (codes "close") then after_in (32 ∷ []) rest >>= close_in else (
    if bytes_eq word (codes "grant") then after_in (32 ∷ []) rest >>= grant_in else None))

-- the event that a line spells: its first word says which it is
unfoldable pub event_in : List ℕ → Option Event
event_in line =
    if bytes_eq (word_in line).0 (codes "record")
    then after_in (32 ∷ []) (word_in line).1 >>= record_in
    else other_event_in (word_in line).0 (word_in line).1

-- the start that a line spells
unfoldable pub start_in : List ℕ → Option ℕ
start_in line = do
  word ← after_in (codes "start ") line
  number_of (2 ^ 64) word
