-- What the table of a stream is read as.
use Rattle.std.specs.Prelude.{◌≡◌, ℕ, ◌^◌, ◌==◌, List, [], ◌∷◌, length, Option, Some, None, Result}
use Rattle.std.specs.Prelude.{Ok, codes}
use Rattle.toml.specs.Data.{Data, Members}
use Rattle.metric_base.specs.Steps.{◌>>=◌, require, require_some}
use Rattle.metric_table.specs.Fields.{only}
use Rattle.metric_cert.specs.declared.fault.CertFault.{CertFault}
use Rattle.metric_cert.specs.declared.stream.BoundWord.{BoundWord}
use Rattle.metric_cert.specs.declared.stream.BoundWord.TheVariants as words
use Rattle.metric_cert.specs.declared.stream.By.{By}
use Rattle.metric_cert.specs.declared.stream.By.TheVariants as by
use Rattle.metric_cert.specs.declared.stream.StreamSets.{StreamSets}
use Rattle.metric_cert.specs.Names.{word_of}
use Rattle.metric_cert.specs.Places.{misshapen}
use Rattle.metric_cert.specs.Reading.{list_of, needed, optional, shape_faults, whole_of}
use Rattle.metric_cert.specs.Writing.{Puts}

abbrev pub stream_fields : List (List ℕ)
stream_fields =
    codes "reader" ∷ codes "instrument" ∷ codes "view" ∷ codes "by" ∷ codes "sets"
    ∷ codes "list" ∷ []

-- a set key: 8 numbers of 16 bits
unfoldable pub set_key_of : Data → Result (List ℕ) CertFault
set_key_of d = do
  set ← list_of (whole_of (2 ^ 16)) d
  _ ← require (length set == 8) misshapen
  Ok set

-- a list of set keys
abbrev pub set_keys_of : Data → Result (List (List ℕ)) CertFault
set_keys_of = list_of set_key_of

-- what bounds a stream: the word `list` comes with a list, and no other word does
abbrev pub by_with : BoundWord → Option (List (List ℕ)) → Option By
by_with words.Product None = Some by.Product
by_with words.List (Some list) = Some (by.List list)
by_with words.Budget None = Some by.Budget
by_with _ _ = None

unfoldable pub by_of : Members → Result By CertFault
by_of table = do
  word ← needed word_of (codes "by") table
  list ← optional set_keys_of (codes "list") table
  require_some (by_with word list) misshapen

unfoldable pub stream_of : Members → Result StreamSets CertFault
stream_of table = do
  _ ← only shape_faults stream_fields table
  reader ← needed (whole_of (2 ^ 32)) (codes "reader") table
  instrument ← needed (whole_of (2 ^ 32)) (codes "instrument") table
  view ← optional (whole_of (2 ^ 32)) (codes "view") table
  by ← by_of table
  sets ← needed (whole_of (2 ^ 32)) (codes "sets") table
  Ok (record { reader = reader; instrument = instrument; view = view; by = by; sets = sets })

-- The list was put into a table, where there is one.
abbrev pub PutsList : By → Members → Members → Type 0
PutsList by.Product before after = after ≡ before
PutsList (by.List list) before after = Puts set_keys_of 2 (codes "list") list before after
PutsList by.Budget before after = after ≡ before
